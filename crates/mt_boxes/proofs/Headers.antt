-- Boxes and headers, field by field.
use Rattle.std.proofs.Common.{◌≡◌, ◌↔◌, ◌∙◌, ◌+◌, ◌≤◌, ◌<◌, ℕ, suc, zero, List, [], ◌∷◌, length, map, drop, get_or, set, slice_get, Some, inl, inr, refl, sym, subst, arith}
use Rattle.std.specs.Prelude.{slice_index}
use Rattle.std.proofs.lemmas.List.{drop_more, drop_all}
use Rattle.std.proofs.lemmas.Option.{slice_get_within, get_or_from_slice_get}
use Rattle.mt_packet.specs.Header.{number_of, greatest_of, field_of, fields, InRanges}
use Rattle.mt_packet.specs.declared.field.Field.{Field}
use Rattle.mt_packet.specs.declared.field.Field.TheVariants.{Device, EthType, EthDst, EthSrc, ArpOp, Proto, Src, Dst, Dscp, Ecn, Sport, Dport, IcmpType, IpOk, Ports, Mf, FragOff, Ttl, Syn, Ack, Fin, Rst, Paint, Annotation}
use Rattle.mt_packet.specs.declared.span.Span.{Span}
use Rattle.mt_boxes.specs.Boxes.{IsWithin, InBox, IsIn, IsBox, IsHeader, AreBoxes, span_at, full, header_ranges}
use Rattle.mt_boxes.proofs.Meets.{box_length}

-- the value at a place lies in the span there
pub within_at : (spans : List Span) (header : List ℕ) (at : ℕ) → at < length spans → InBox spans header → IsWithin (span_at spans at) (slice_index header at)
within_at [] header at lt i = absurd (omega (arith, lt))
within_at (span ∷ spans) [] at lt i = absurd i
within_at (span ∷ spans) (value ∷ values) zero lt i = i.0
within_at (span ∷ spans) (value ∷ values) (suc at) lt i = within_at spans values at (omega arith) i.1

-- another value in the span there
pub in_box_set : (spans : List Span) (header : List ℕ) (at value : ℕ) → InBox spans header → IsWithin (span_at spans at) value → InBox spans (set header at value)
in_box_set [] [] at value i w = tt
in_box_set [] (other ∷ values) at value i w = absurd i
in_box_set (span ∷ spans) [] at value i w = absurd i
in_box_set (span ∷ spans) (other ∷ values) zero value i w = (w, i.1)
in_box_set (span ∷ spans) (other ∷ values) (suc at) value i w = (i.0, in_box_set spans values at value i.1 w)

-- the span at a place
pub box_at : (ranges : List ℕ) (spans : List Span) (at : ℕ) → at < length ranges → IsBox ranges spans → ((span_at spans at).lo ≤ (span_at spans at).hi) × ((span_at spans at).hi ≤ slice_index ranges at)
box_at [] spans at lt f = absurd (omega (arith, lt))
box_at (last ∷ ranges) [] at lt f = absurd f
box_at (last ∷ ranges) (span ∷ spans) zero lt f = f.0
box_at (last ∷ ranges) (span ∷ spans) (suc at) lt f = box_at ranges spans at (omega arith) f.1

-- ---- the fields of a header

range_got : (field : Field) → slice_get header_ranges (number_of field) ≡ Some (greatest_of field)
unfolding header_ranges
range_got Device = refl
range_got EthType = refl
range_got EthDst = refl
range_got EthSrc = refl
range_got ArpOp = refl
range_got Proto = refl
range_got Src = refl
range_got Dst = refl
range_got Dscp = refl
range_got Ecn = refl
range_got Sport = refl
range_got Dport = refl
range_got IcmpType = refl
range_got IpOk = refl
range_got Ports = refl
range_got Mf = refl
range_got FragOff = refl
range_got Ttl = refl
range_got Syn = refl
range_got Ack = refl
range_got Fin = refl
range_got Rst = refl
range_got Paint = refl
range_got Annotation = refl

pub number_below : (field : Field) → number_of field < length header_ranges
number_below field = slice_get_within header_ranges (number_of field) (greatest_of field) (range_got field)

pub range_of : (field : Field) → slice_index header_ranges (number_of field) ≡ greatest_of field
range_of field = get_or_from_slice_get header_ranges (number_of field) (greatest_of field) 0 (range_got field)

pub ranges_length : length header_ranges ≡ 24
unfolding header_ranges
ranges_length = refl

-- what is in a box is in the ranges of the fields
pub box_in_ranges : (spans : List Span) (header : List ℕ) → IsBox header_ranges spans → InBox spans header → InRanges header
box_in_ranges spans header f i = record { in_range = each }
  where
    each : (field : Field) → field_of header field ≤ greatest_of field
    each field =
        let below = number_below field in
        let whole = box_length header_ranges spans f in
        let w = within_at spans header (number_of field) (omega (arith, below, whole)) i in
        let b = box_at header_ranges spans (number_of field) below f in
        let e = range_of field in
        omega (arith, w.1, b.1, e)

pub region_in_ranges : (boxes : List (List Span)) (header : List ℕ) → AreBoxes header_ranges boxes → IsIn boxes header → InRanges header
region_in_ranges [] header f i = absurd i
region_in_ranges (box ∷ boxes) header f i = elim i [ inl j ↦ box_in_ranges box header f.0 j | inr j ↦ region_in_ranges boxes header f.1 j ]

-- ---- the box of all headers

full_box : (list : List Field) → IsBox (map greatest_of list) (map full list)
full_box [] = tt
full_box (field ∷ list) = ((omega arith, omega arith), full_box list)

pub all_box : IsBox header_ranges (map full fields)
unfolding header_ranges
all_box = full_box fields

-- fields whose numbers count up from a number
abbrev pub Count : ℕ → List Field → Type 0
Count from [] = Unit {0}
Count from (field ∷ list) = (number_of field ≡ from) × Count (from + 1) list

full_from : (list : List Field) (from : ℕ) (header : List ℕ) → Count from list → length header ≡ from + length list → InRanges header → InBox (map full list) (drop from header)
full_from [] from header c n r =
    let P : List ℕ → Type 0 = λ l. InBox [] l in
    subst P (sym (drop_all from header (omega arith))) tt
full_from (field ∷ list) from header c n r =
    let P : List ℕ → Type 0 = λ l. InBox (map full (field ∷ list)) l in
    let here : get_or header from 0 ≤ greatest_of field = subst (λ (n : ℕ). get_or header n 0 ≤ greatest_of field) c.0 (r.in_range field) in
    subst P (sym (drop_more header from 0 (omega arith))) ((omega arith, here), full_from list (from + 1) header c.1 (omega arith) r)

pub all_in : (header : List ℕ) → IsHeader header → InBox (map full fields) header
all_in header h =
    full_from fields 0 header (refl, (refl, (refl, (refl, (refl, (refl, (refl, (refl, (refl, (refl, (refl, (refl, (refl, (refl, (refl, (refl, (refl, (refl, (refl, (refl, (refl, (refl, (refl, (refl, tt))))))))))))))))))))))))
    h.whole h.in_ranges

-- ---- all fields

numbered : (list : List Field) (from at : ℕ) → Count from list → at < length list → number_of (get_or list at Device) ≡ from + at
numbered [] from at c lt = absurd (omega (arith, lt))
numbered (field ∷ list) from zero c lt = c.0 ∙ omega arith
numbered (field ∷ list) from (suc at) c lt = numbered list (from + 1) at c.1 (omega arith) ∙ omega arith

by_number : (P : ℕ → Type 0) → ((field : Field) → P (number_of field)) → (at : ℕ) → at < 24 → P at
by_number P each at lt =
    subst P
    (numbered fields 0 at (refl, (refl, (refl, (refl, (refl, (refl, (refl, (refl, (refl, (refl, (refl, (refl, (refl, (refl, (refl, (refl, (refl, (refl, (refl, (refl, (refl, (refl, (refl, (refl, tt)))))))))))))))))))))))) lt ∙ omega arith)
    (each (get_or fields at Device))

in_box_from : (spans : List Span) (header : List ℕ) → length spans ≡ length header → ((at : ℕ) → at < length spans → IsWithin (span_at spans at) (slice_index header at)) → InBox spans header
in_box_from [] [] n each = tt
in_box_from [] (value ∷ values) n each = absurd (omega arith)
in_box_from (span ∷ spans) [] n each = absurd (omega arith)
in_box_from (span ∷ spans) (value ∷ values) n each = (each 0 (omega arith), in_box_from spans values (omega arith) (λ at lt. each (suc at) (omega arith)))

box_from : (ranges : List ℕ) (spans : List Span) → length ranges ≡ length spans
    → ((at : ℕ) → at < length spans → ((span_at spans at).lo ≤ (span_at spans at).hi) × ((span_at spans at).hi ≤ slice_index ranges at)) → IsBox ranges spans
box_from [] [] n each = tt
box_from [] (span ∷ spans) n each = absurd (omega arith)
box_from (last ∷ ranges) [] n each = absurd (omega arith)
box_from (last ∷ ranges) (span ∷ spans) n each = (each 0 (omega arith), box_from ranges spans (omega arith) (λ at lt. each (suc at) (omega arith)))

pub in_box_each : (spans : List Span) (header : List ℕ) → length spans ≡ 24 → length header ≡ 24 → InBox spans header ↔ ((field : Field) → IsWithin (span_at spans (number_of field)) (field_of header field))
in_box_each spans header n m = (
  λ i field. (let below = number_below field in let all = ranges_length in within_at spans header (number_of field) (omega (arith, below, all)) i),
  λ each. in_box_from spans header (omega arith) (λ at lt. by_number (λ at. IsWithin (span_at spans at) (slice_index header at)) each at (omega arith)),
)

pub box_each : (spans : List Span) → length spans ≡ 24
    → IsBox header_ranges spans ↔ ((field : Field) → ((span_at spans (number_of field)).lo ≤ (span_at spans (number_of field)).hi) × ((span_at spans (number_of field)).hi ≤ greatest_of field))
box_each spans n = (
  λ f field. (let b = box_at header_ranges spans (number_of field) (number_below field) f in let e = range_of field in (b.0, omega (arith, b.1, e))),
  λ each. (let all = ranges_length in box_from header_ranges spans (omega (arith, all)) (λ at lt. by_number (λ at. ((span_at spans at).lo ≤ (span_at spans at).hi) × ((span_at spans at).hi ≤ slice_index header_ranges at))
      (λ field. (let e = range_of field in ((each field).0, omega (arith, (each field).1, e)))) at (omega arith))),
)
