-- A box and others that it does not meet.
use Rattle.std.proofs.Common.{◌≡◌, ◌∙◌, ◌+◌, ◌<◌, ℕ, zero, suc, List, [], ◌∷◌, ◌++◌, length, map, take, get_or, true, false, inl, inr, sym, ap, subst, arith}
use Rattle.std.proofs.lemmas.List.{map_more}
use Rattle.mt_packet.specs.declared.span.Span.{Span}
use Rattle.mt_boxes.specs.Boxes.{InBox, IsIn, corner}
use Rattle.mt_boxes.specs.Parts.{commons, do_meet}
use Rattle.mt_boxes.proofs.Sets.{in_either}
use Rattle.mt_boxes.proofs.Meets.{common_header, meet_from}

in_member : {X : Type 0} (sides : X → List Span) (boxes : List X) (at : ℕ) (d : X) (header : List ℕ) → at < length boxes → InBox (sides (get_or boxes at d)) header → IsIn (map sides boxes) header
in_member sides [] at d header lt i = absurd (omega (arith, lt))
in_member sides (box ∷ boxes) zero d header lt i = inl i
in_member sides (box ∷ boxes) (suc at) d header lt i = inr (in_member sides boxes at d header (omega arith) i)

-- one of them meets the box
pub not_apart : {X : Type 0} (sides : X → List Span) (boxes : List X) (at : ℕ) (other : X) (spans : List Span) → at < length boxes → other ≡ get_or boxes at other → length spans ≡ length (sides other)
    → do_meet spans (sides other) ≡ true → ((header : List ℕ) → InBox spans header → IsIn (map sides boxes) header → ⊥) → ⊥
not_apart {X} sides boxes at other spans lt item n m none =
    let h = common_header spans (sides other) n m in
    none (corner (commons spans (sides other))) h.0
    (in_member sides boxes at other (corner (commons spans (sides other))) lt (subst (λ (x : X). InBox (sides x) (corner (commons spans (sides other)))) item h.1))

-- one more does not
pub apart_more : {X : Type 0} (sides : X → List Span) (boxes : List X) (at : ℕ) (other : X) (spans : List Span) → at < length boxes → other ≡ get_or boxes at other → do_meet spans (sides other) ≡ false
    → ((header : List ℕ) → InBox spans header → IsIn (map sides (take at boxes)) header → ⊥) → (header : List ℕ) → InBox spans header → IsIn (map sides (take (at + 1) boxes)) header → ⊥
apart_more {X} sides boxes at other spans lt item e none header i j =
    let more : map sides (take (at + 1) boxes) ≡ map sides (take at boxes) ++ sides other ∷ [] =
    map_more sides boxes at other lt ∙ ap (λ (x : X). map sides (take at boxes) ++ sides x ∷ []) (sym item) in
    elim (in_either (map sides (take at boxes)) (sides other ∷ []) header (subst (λ (l : List (List Span)). IsIn l header) more j)) [
      | inl k ↦ none header i k
      | inr k ↦ (elim k [ inl l ↦ (let meet = meet_from spans (sides other) header i l in absurd cc) | inr l ↦ l ])
    ]
