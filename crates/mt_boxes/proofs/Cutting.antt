-- The loop that cuts what is outside a box off another, field by field.
use Rattle.std.proofs.Common.{◌≡◌, ◌∙◌, ◌+◌, ◌-◌, ◌≤◌, ◌<◌, ℕ, List, [], ◌∷◌, ◌++◌, length, map, take, drop, set, nat_lt, Bool, true, false, cond, refl, sym, ap, append_assoc, add-one, arith}
use Rattle.std.proofs.lemmas.List.{map-append, map-id, append-nil, set_split, take_more_set, drop-set-lt, drop_more, drop-drop, drop_all, length-set}
use Rattle.mt_packet.specs.declared.span.Span.{Span}
use Rattle.mt_boxes.specs.Boxes.{span_at}
use Rattle.mt_boxes.specs.Parts.{common, below, above, outside, below_at, above_at}

-- spans in front of each box
abbrev pub behind : List Span → List (List Span) → List (List Span)
behind front boxes = map (λ tail. front ++ tail) boxes

-- what is cut off so far, and what is still to be cut off where the fields before are common
pub record Cutting (done all : List (List Span)) (rest spans cuts : List Span) (at : ℕ) : Type 0 where
  pub as_many : length rest ≡ length cuts
  pub later : drop at rest ≡ drop at spans
  pub parts : done ++ behind (take at rest) (outside (drop at spans) (drop at cuts)) ≡ all

pub cutting_starts : (done : List (List Span)) (spans cuts : List Span) → length spans ≡ length cuts → Cutting done (done ++ outside spans cuts) spans spans cuts 0
cutting_starts done spans cuts n =
    record { as_many = n; later = refl; parts = ap (λ (boxes : List (List Span)). done ++ boxes) (map-id (outside spans cuts)) }

-- one side of a field
side_is : (b : Bool) (front tail : List Span) (span : Span) (made : List Span) → made ≡ front ++ span ∷ tail → cond b (made ∷ []) [] ≡ behind front (cond b ((span ∷ tail) ∷ []) [])
side_is true front tail span made e = ap (λ (box : List Span). box ∷ []) e
side_is false front tail span made e = refl

set_is : (spans : List Span) (at : ℕ) (span : Span) → at < length spans → set spans at span ≡ take at spans ++ span ∷ drop (at + 1) spans
set_is spans at span lt = set_split spans at span lt ∙ ap (λ (n : ℕ). take at spans ++ span ∷ drop n spans) (sym (add-one at))

below_is : (spans : List Span) (at : ℕ) (cut : Span) → at < length spans → below_at spans at cut ≡ behind (take at spans) (below (span_at spans at) cut (drop (at + 1) spans))
below_is spans at cut lt =
    side_is (nat_lt (span_at spans at).lo cut.lo) (take at spans) (drop (at + 1) spans) (record { lo = (span_at spans at).lo; hi = cut.lo - 1 })
    (set spans at (record { lo = (span_at spans at).lo; hi = cut.lo - 1 })) (set_is spans at (record { lo = (span_at spans at).lo; hi = cut.lo - 1 }) lt)

above_is : (spans : List Span) (at : ℕ) (cut : Span) → at < length spans → above_at spans at cut ≡ behind (take at spans) (above (span_at spans at) cut (drop (at + 1) spans))
above_is spans at cut lt =
    side_is (nat_lt cut.hi (span_at spans at).hi) (take at spans) (drop (at + 1) spans) (record { lo = cut.hi + 1; hi = (span_at spans at).hi })
    (set spans at (record { lo = cut.hi + 1; hi = (span_at spans at).hi })) (set_is spans at (record { lo = cut.hi + 1; hi = (span_at spans at).hi }) lt)

longer_front : (front : List Span) (span : Span) (boxes : List (List Span)) → behind (front ++ span ∷ []) boxes ≡ behind front (map (λ rest. span ∷ rest) boxes)
longer_front front span [] = refl
longer_front front span (box ∷ boxes) =
    ap (λ (made : List Span). made ∷ behind (front ++ span ∷ []) boxes) (append_assoc front (span ∷ []) box)
    ∙ ap (λ (made : List (List Span)). (front ++ span ∷ box) ∷ made) (longer_front front span boxes)

one_field : (done lower upper inner : List (List Span)) (front : List Span) (span : Span)
    → (done ++ (behind front lower ++ behind front upper)) ++ behind (front ++ span ∷ []) inner ≡ done ++ behind front ((lower ++ upper) ++ map (λ rest. span ∷ rest) inner)
one_field done lower upper inner front span =
    append_assoc done (behind front lower ++ behind front upper) (behind (front ++ span ∷ []) inner)
    ∙ ap (λ (boxes : List (List Span)). done ++ boxes)
    (ap (λ (boxes : List (List Span)). (behind front lower ++ behind front upper) ++ boxes) (longer_front front span inner)
    ∙ (ap (λ (boxes : List (List Span)). boxes ++ behind front (map (λ rest. span ∷ rest) inner)) (sym (map-append (λ (tail : List Span). front ++ tail) lower upper))
    ∙ sym (map-append (λ (tail : List Span). front ++ tail) (lower ++ upper) (map (λ rest. span ∷ rest) inner))))

pub cutting_more : (done new all : List (List Span)) (rest made spans cuts : List Span) (at : ℕ) (cut : Span) → Cutting done all rest spans cuts at → at < length cuts → cut ≡ span_at cuts at
    → made ≡ set rest at (common (span_at rest at) cut) → new ≡ done ++ (below_at rest at cut ++ above_at rest at cut) → Cutting new all made spans cuts (at + 1)
cutting_more done new all rest made spans cuts at cut c lt is m e = record { as_many = ap length m ∙ (length-set rest at (common (span_at rest at) cut) ∙ c.as_many); later = later_is; parts = parts_are }
  where
    within : at < length rest
    within = omega (arith, c.as_many)

    later_of : (tail : List Span) → made ≡ set rest at (common (span_at rest at) cut) → drop (at + 1) made ≡ drop (at + 1) rest
    later_of tail m = ap (λ (l : List Span). drop (at + 1) l) m ∙ drop-set-lt (at + 1) rest at (common (span_at rest at) cut) (omega arith)

    tails : drop (at + 1) rest ≡ drop (at + 1) spans
    tails = sym (drop-drop 1 at rest) ∙ (ap (λ (l : List Span). drop 1 l) c.later ∙ drop-drop 1 at spans)

    later_is : drop (at + 1) made ≡ drop (at + 1) spans
    later_is = later_of [] m ∙ tails

    spans_are : drop at spans ≡ span_at rest at ∷ drop (at + 1) rest
    spans_are = sym c.later ∙ drop_more rest at (record { lo = 0; hi = 0 }) (omega (arith, c.as_many))

    cuts_are : drop at cuts ≡ cut ∷ drop (at + 1) cuts
    cuts_are = drop_more cuts at (record { lo = 0; hi = 0 }) lt ∙ ap (λ (span : Span). span ∷ drop (at + 1) cuts) (sym is)

    front_is : take (at + 1) made ≡ take at rest ++ common (span_at rest at) cut ∷ []
    front_is = ap (λ (l : List Span). take (at + 1) l) m ∙ take_more_set rest at (common (span_at rest at) cut) (omega (arith, c.as_many))

    new_is : new ≡ done ++ (behind (take at rest) (below (span_at rest at) cut (drop (at + 1) rest)) ++ behind (take at rest) (above (span_at rest at) cut (drop (at + 1) rest)))
    new_is =
        e
        ∙ ap (λ (boxes : List (List Span)). done ++ (boxes ++ above_at rest at cut)) (below_is rest at cut (omega (arith, c.as_many)))
        ∙ ap (λ (boxes : List (List Span)). done ++ (behind (take at rest) (below (span_at rest at) cut (drop (at + 1) rest)) ++ boxes)) (above_is rest at cut (omega (arith, c.as_many)))

    parts_are : new ++ behind (take (at + 1) made) (outside (drop (at + 1) spans) (drop (at + 1) cuts)) ≡ all
    parts_are =
        ap (λ (boxes : List (List Span)). boxes ++ behind (take (at + 1) made) (outside (drop (at + 1) spans) (drop (at + 1) cuts))) new_is
        ∙ ap (λ (front : List Span). (done ++ (behind (take at rest) (below (span_at rest at) cut (drop (at + 1) rest)) ++ behind (take at rest) (above (span_at rest at) cut (drop (at + 1) rest)))) ++ behind front (outside (drop (at + 1) spans) (drop (at + 1) cuts))) front_is
        ∙ ap (λ (tail : List Span). (done ++ (behind (take at rest) (below (span_at rest at) cut (drop (at + 1) rest)) ++ behind (take at rest) (above (span_at rest at) cut (drop (at + 1) rest)))) ++ behind (take at rest ++ common (span_at rest at) cut ∷ []) (outside tail (drop (at + 1) cuts))) (sym tails)
        ∙ one_field done (below (span_at rest at) cut (drop (at + 1) rest)) (above (span_at rest at) cut (drop (at + 1) rest)) (outside (drop (at + 1) rest) (drop (at + 1) cuts)) (take at rest) (common (span_at rest at) cut)
        ∙ ap (λ (l : List Span). done ++ behind (take at rest) (outside (span_at rest at ∷ drop (at + 1) rest) l)) (sym cuts_are)
        ∙ ap (λ (l : List Span). done ++ behind (take at rest) (outside l (drop at cuts))) (sym spans_are)
        ∙ c.parts

pub cutting_ends : (done all : List (List Span)) (rest spans cuts : List Span) (at : ℕ) → Cutting done all rest spans cuts at → length cuts ≤ at → done ≡ all
cutting_ends done all rest spans cuts at c le =
    sym (append-nil done)
    ∙ ap (λ (l : List Span). done ++ behind (take at rest) (outside l (drop at cuts))) (sym (drop_all at rest (omega (arith, c.as_many))))
    ∙ ap (λ (l : List Span). done ++ behind (take at rest) (outside l (drop at cuts))) c.later
    ∙ c.parts
