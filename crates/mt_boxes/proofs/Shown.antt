-- The visible headers of the headers of a box.
use Rattle.std.proofs.Common.{◌≡◌, ◌≢◌, ◌∙◌, ℕ, List, [], ◌∷◌, map, set, Bool, true, not, ◌&&◌, ◌==◌, inl, inr, refl, ap, arith}
use Rattle.std.proofs.lemmas.Bool.{and_parts, not-true, eqb-false}
use Rattle.std.proofs.lemmas.List.{get_or-set_same, get_or-set_other}
use Rattle.mt_packet.specs.Header.{number_of, greatest_of, field_of, visible_fields, visible_of}
use Rattle.mt_packet.specs.declared.field.Field.{Field}
use Rattle.mt_packet.specs.declared.span.Span.{Span}
use Rattle.mt_boxes.specs.Boxes.{InBox, IsIn, IsBox, AreBoxes, corner, header_ranges, visible_ranges}
use Rattle.mt_boxes.specs.Visible.{span_of, visible_spans}
use Rattle.mt_boxes.proofs.Meets.{corner_in, box_length, header_length}
use Rattle.mt_boxes.proofs.Headers.{within_at, in_box_set, box_at, number_below, range_of}

shown_box : (list : List Field) (spans : List Span) → IsBox header_ranges spans → IsBox (map greatest_of list) (map (span_of spans) list)
shown_box [] spans f = tt
shown_box (field ∷ list) spans f =
    let b = box_at header_ranges spans (number_of field) (number_below field) f in
    let e = range_of field in
    ((b.0, omega (arith, b.1, e)), shown_box list spans f)

pub visible_box : (spans : List Span) → IsBox header_ranges spans → IsBox visible_ranges (visible_spans spans)
unfolding visible_ranges
visible_box spans f = shown_box visible_fields spans f

pub visible_boxes : (boxes : List (List Span)) → AreBoxes header_ranges boxes → AreBoxes visible_ranges (map visible_spans boxes)
visible_boxes [] f = tt
visible_boxes (box ∷ boxes) f = (visible_box box f.0, visible_boxes boxes f.1)

-- what is shown of a header is in what is shown of its box
shown_in : (list : List Field) (spans : List Span) (header : List ℕ) → IsBox header_ranges spans → InBox spans header → InBox (map (span_of spans) list) (map (λ field. field_of header field) list)
shown_in [] spans header f i = tt
shown_in (field ∷ list) spans header f i =
    let below = number_below field in
    let whole = box_length header_ranges spans f in
    (within_at spans header (number_of field) (omega (arith, below, whole)) i, shown_in list spans header f i)

-- ---- fields of which no two are one

abbrev pub is_new : ℕ → List Field → Bool
is_new number [] = true
is_new number (field ∷ list) = not (number_of field == number) && is_new number list

abbrev pub are_distinct : List Field → Bool
are_distinct [] = true
are_distinct (field ∷ list) = is_new (number_of field) list && are_distinct list

kept : (list : List Field) (header : List ℕ) (number value : ℕ) → is_new number list ≡ true → map (λ field. field_of (set header number value) field) list ≡ map (λ field. field_of header field) list
kept [] header number value e = refl
kept (field ∷ list) header number value e =
    let parts = and_parts (not (number_of field == number)) (is_new number list) e in
    let apart : number_of field ≢ number = eqb-false (number_of field) number (not-true (number_of field == number) parts.0) in
    ap (λ (n : ℕ). n ∷ map (λ field. field_of (set header number value) field) list) (get_or-set_other header number (number_of field) value 0 apart)
    ∙ ap (λ (l : List ℕ). field_of header field ∷ l) (kept list header number value parts.1)

-- each of what is shown of a box is shown of one of its headers
in_shown : (list : List Field) (spans : List Span) (values : List ℕ) → are_distinct list ≡ true → IsBox header_ranges spans → InBox (map (span_of spans) list) values
    → (header : List ℕ) × InBox spans header × (map (λ field. field_of header field) list ≡ values)
in_shown [] spans [] d f i = (corner spans, corner_in header_ranges spans f, refl)
in_shown [] spans (value ∷ values) d f i = absurd i
in_shown (field ∷ list) spans [] d f i = absurd i
in_shown (field ∷ list) spans (value ∷ values) d f i =
    let parts = and_parts (is_new (number_of field) list) (are_distinct list) d in
    let rest = in_shown list spans values parts.1 f i.1 in
    let below = number_below field in
    let whole = box_length header_ranges spans f in
    let as_many = header_length spans rest.0 rest.1 in (
      set rest.0 (number_of field) value,
      in_box_set spans rest.0 (number_of field) value rest.1 i.0,
      ap (λ (n : ℕ). n ∷ map (λ other. field_of (set rest.0 (number_of field) value) other) list) (get_or-set_same rest.0 (number_of field) value 0 (omega (arith, below, whole, as_many)))
          ∙ ap (λ (l : List ℕ). value ∷ l) (kept list rest.0 (number_of field) value parts.0 ∙ rest.2),
    )

-- ---- the visible headers of boxes

pub visible_in : (boxes : List (List Span)) (visible : List ℕ) → AreBoxes header_ranges boxes → IsIn (map visible_spans boxes) visible
    → (header : List ℕ) × IsIn boxes header × (visible_of header ≡ visible)
visible_in [] visible f i = absurd i
visible_in (box ∷ boxes) visible f (inl i) = let h = in_shown visible_fields box visible refl f.0 i in (h.0, inl h.1, h.2)
visible_in (box ∷ boxes) visible f (inr i) = let h = visible_in boxes visible f.1 i in (h.0, inr h.1, h.2)

pub in_visible : (boxes : List (List Span)) (header : List ℕ) → AreBoxes header_ranges boxes → IsIn boxes header → IsIn (map visible_spans boxes) (visible_of header)
in_visible [] header f i = absurd i
in_visible (box ∷ boxes) header f (inl i) = inl (shown_in visible_fields box header f.0 i)
in_visible (box ∷ boxes) header f (inr i) = inr (in_visible boxes header f.1 i)
