-- What a meet of two boxes says.
use Rattle.std.proofs.Common.{◌≡◌, ◌↔◌, ◌∙◌, ℕ, List, length, map, Bool, true, false, cond, refl, sym, ap, subst}
use Rattle.std.specs.Prelude.{Option, Some, None, IsSome, IfSome, option_map}
use Rattle.std.proofs.lemmas.Option.{none-some, same_Some}
use Rattle.mt_packet.specs.Header.{fields}
use Rattle.mt_packet.specs.declared.span.Span.{Span}
use Rattle.mt_boxes.specs.declared.boxes.HeaderBox.{HeaderBox}
use Rattle.mt_boxes.specs.Boxes.{InBox, IsBox, IsHeader, corner, full, header_ranges}
use Rattle.mt_boxes.specs.Parts.{commons, do_meet, met}
use Rattle.mt_boxes.proofs.Meets.{in_commons, commons_in, commons_box, meet_from, corner_in, box_length, header_length}
use Rattle.mt_boxes.proofs.Headers.{all_box, all_in, box_in_ranges, ranges_length}

pub met_box : (ranges : List ℕ) (spans others both : List Span) → IsBox ranges spans → length spans ≡ length others → met spans others ≡ Some both → IsBox ranges both
met_box ranges spans others both f n = by_test (do_meet spans others) refl
  where
    by_test : (b : Bool) → do_meet spans others ≡ b → cond b (Some (commons spans others)) None ≡ Some both → IsBox ranges both
    by_test true m e = let P : List Span → Type 0 = λ l. IsBox ranges l in subst P (same_Some (commons spans others) both e) (commons_box ranges spans others n f m)
    by_test false m e = absurd (none-some both e)

pub met_in : (spans others both : List Span) (header : List ℕ) → length spans ≡ length others → met spans others ≡ Some both → InBox both header ↔ (InBox spans header × InBox others header)
met_in spans others both header n = by_test (do_meet spans others) refl
  where
    by_test : (b : Bool) → do_meet spans others ≡ b → cond b (Some (commons spans others)) None ≡ Some both → InBox both header ↔ (InBox spans header × InBox others header)
    by_test true m e =
        let P : List Span → Type 0 = λ l. InBox l header ↔ (InBox spans header × InBox others header) in
        subst P (same_Some (commons spans others) both e) (λ i. commons_in spans others header n i, λ i. in_commons spans others header i.0 i.1)
    by_test false m e = absurd (none-some both e)

pub none_met : (spans others : List Span) (header : List ℕ) → met spans others ≡ None → InBox spans header → InBox others header → ⊥
none_met spans others header e i j = by_test (do_meet spans others) refl e
  where
    by_test : (b : Bool) → do_meet spans others ≡ b → cond b (Some (commons spans others)) None ≡ None → ⊥
    by_test true m e = none-some (commons spans others) (sym e)
    by_test false m e = let meet = meet_from spans others header i j in absurd cc

-- the clauses of `meet`
pub record IsMeeting (a b : List Span) (result : Option HeaderBox) : Type 0 where
  pub some : IsSome result ↔ ((header : List ℕ) × IsHeader header × InBox a header × InBox b header)
  pub headers : IfSome result (λ of. (header : List ℕ) → IsHeader header → InBox of.spans header ↔ (InBox a header × InBox b header))
  pub formed : IfSome result (λ of. IsBox header_ranges of.spans)

pub meeting_outside : (all a b : List Span) (first : Option HeaderBox) → all ≡ map full fields → option_map (λ of. of.spans) first ≡ met all a → first ≡ None → IsMeeting a b None
meeting_outside all a b first whole is none =
    record { some = (λ e. absurd cc, λ h. absurd (none_met all a h.0 (sym is ∙ ap (option_map (λ (of : HeaderBox). of.spans)) none) (subst (λ (l : List Span). InBox l h.0) (sym whole) (all_in h.0 h.1)) h.2)); headers = tt; formed = tt }

pub meeting : (all a b : List Span) (first : HeaderBox) (result : Option HeaderBox) → all ≡ map full fields → length all ≡ length a → length first.spans ≡ length b
    → Some first.spans ≡ met all a → option_map (λ of. of.spans) result ≡ met first.spans b → IsMeeting a b result
meeting all a b first None whole n m is e =
    record { some = (λ e. absurd cc, λ h. absurd (none_met first.spans b h.0 (sym e) ((met_in all a first.spans h.0 n (sym is)).1 (subst (λ (l : List Span). InBox l h.0) (sym whole) (all_in h.0 h.1), h.2)) h.3)); headers = tt; formed = tt }
meeting all a b first (Some both) whole n m is e =
    let all_formed : IsBox header_ranges all = subst (λ (l : List Span). IsBox header_ranges l) (sym whole) all_box in
    let first_formed = met_box header_ranges all a first.spans all_formed n (sym is) in
    let formed = met_box header_ranges first.spans b both.spans first_formed m (sym e) in
    let least = corner_in header_ranges both.spans formed in
    let parts = (met_in first.spans b both.spans (corner both.spans) m (sym e)).0 least in
    record {
      some = (λ t. (corner both.spans, record { whole = header_length both.spans (corner both.spans) least ∙ (box_length header_ranges both.spans formed ∙ ranges_length); in_ranges = box_in_ranges both.spans (corner both.spans) formed least }, ((met_in all a first.spans (corner both.spans) n (sym is)).0 parts.0).1, parts.1), λ h. refl);
      headers = λ header h. (
        λ i. (let p = (met_in first.spans b both.spans header m (sym e)).0 i in (((met_in all a first.spans header n (sym is)).0 p.0).1, p.1)),
        λ i. (met_in first.spans b both.spans header m (sym e)).1 ((met_in all a first.spans header n (sym is)).1 (subst (λ (l : List Span). InBox l header) (sym whole) (all_in header h), i.0), i.1),
      );
      formed = formed;
    }
