-- What is true of each capture that is read.
use Rattle.std.proofs.Common.{◌≡◌, ℕ, zero, suc, ◌+◌, ◌*◌, ◌/◌, ◌^◌, ◌<◌, ◌≤◌, inl, inr, List, length, drop, Option, Some, None, Result, Ok, Err, false, All, refl, sym, ap, subst, ◌∙◌, arith}
use Rattle.std.proofs.lemmas.Bool.{cases_lt}
use Rattle.std.proofs.lemmas.Nat.{div-mul-add}
use Rattle.std.proofs.lemmas.List.{length-drop}
use Rattle.std.proofs.lemmas.List.Elements.{All-nil, All-cons, All-weaker, All-same}
use Rattle.mt_pcap.specs.declared.form.Form.{Form}
use Rattle.mt_pcap.specs.declared.fault.PcapFault.{PcapFault}
use Rattle.mt_pcap.specs.declared.fault.PcapFault.TheVariants.{NotPcap, WrongLink, Torn, BadRecord}
use Rattle.mt_pcap.specs.Format.{second, longest}
use Rattle.mt_pcap.specs.Capture.{Capture, record_at, header_of, ended, onwards, records_of, all_records, with_header, capture_of}
use Rattle.mt_pcap.specs.Laws.{IsWritable}
use Rattle.mt_pcap.specs.Capture.{IsOfBytes, is_header_fault}
use Rattle.mt_pcap.proofs.Headers.{too_short, unknown, other_link, ethernet, header_case, link_in}
use Rattle.mt_pcap.proofs.Numbers.{IsBytes, IsBytes-drop, number-lt}
use Rattle.mt_pcap.proofs.Records.{cut_head, bad, cut_data, whole, case_of, Took, took, at_zero, at_end, at_some, captured, fraction, seconds}

-- what is true of the records of bytes
pub record Sound (bytes : List ℕ) (capture : Capture) : Type 0 where
  pub writable : All IsWritable capture.records
  pub few : 16 * length capture.records ≤ length bytes
  pub named : IsOfBytes capture.end

-- a record that is read can be written
took_writable : (form : Form) (bytes : List ℕ) (x : (ℕ × List ℕ) × List ℕ) → IsBytes bytes → Took form bytes x → IsWritable x.0
took_writable form bytes x fits t =
    let stamp : x.0.0 ≡ seconds form bytes * second + fraction form bytes = ap (λ (y : (ℕ × List ℕ) × List ℕ). y.0.0) t.is in
    let of_stamp : x.0.0 / second ≡ seconds form bytes = ap (λ (n : ℕ). n / second) stamp ∙ div-mul-add (seconds form bytes) second (fraction form bytes) t.early in
    (rw of_stamp (number-lt form.order bytes fits), rw t.len t.fits)

pub rest_bytes : (form : Form) (bytes : List ℕ) (x : (ℕ × List ℕ) × List ℕ) → IsBytes bytes → Took form bytes x → IsBytes x.1
rest_bytes form bytes x fits t =
    subst IsBytes (sym (ap (λ (y : (ℕ × List ℕ) × List ℕ). y.1) t.is)) (IsBytes-drop (captured form bytes) (drop 16 bytes) (IsBytes-drop 16 bytes fits))

ended-sound : (bytes : List ℕ) (end : Option PcapFault) → IsOfBytes end → Sound bytes (ended end)
ended-sound bytes end named = record { writable = All-nil IsWritable; few = omega arith; named = named }

-- a fault at a record has an offset
fault_named : (form : Form) (offset : ℕ) (bytes : List ℕ) (fault : PcapFault) → record_at form offset bytes ≡ Err fault → IsOfBytes (Some fault)
fault_named form offset bytes fault read =
    elim (case_of form offset bytes) [
      | cut_head short e ↦ let is : fault ≡ Torn offset = cc in rw is tt
      | bad long why e ↦ let is : fault ≡ BadRecord offset = cc in rw is tt
      | cut_data long early fits short e ↦ let is : fault ≡ Torn offset = cc in rw is tt
      | whole long early fits enough e ↦ absurd cc
    ]

onwards-sound : (most : ℕ) (form : Form) (offset : ℕ) (bytes : List ℕ) (r : Result ((ℕ × List ℕ) × List ℕ) PcapFault) → record_at form offset bytes ≡ r → IsBytes bytes
    → ((offset : ℕ) (rest : List ℕ) → IsBytes rest → Sound rest (records_of most form offset rest))
    → Sound bytes (onwards r (λ x. records_of most form (offset + 16 + length x.0.1) x.1))
onwards-sound most form offset bytes (Err fault) read fits others = ended-sound bytes (Some fault) (fault_named form offset bytes fault read)
onwards-sound most form offset bytes (Ok x) read fits others =
    let t = took form offset bytes x read in
    let o = others (offset + 16 + length x.0.1) x.1 (rest_bytes form bytes x fits t) in
    record {
      writable = All-cons IsWritable x.0 (records_of most form (offset + 16 + length x.0.1) x.1).records (took_writable form bytes x fits t) o.writable;
      few = omega (arith, t.parts, o.few);
      named = o.named;
    }

records_of-sound : (most : ℕ) (form : Form) (offset : ℕ) (bytes : List ℕ) → IsBytes bytes → Sound bytes (records_of most form offset bytes)
records_of-sound zero form offset bytes fits = rw (at_zero form offset bytes) (ended-sound bytes None tt)
records_of-sound (suc most) form offset bytes fits =
    elim (cases_lt 0 (length bytes)) [
      | inl some ↦ rw (at_some most form offset bytes some) (onwards-sound most form offset bytes (record_at form offset bytes) refl fits (λ at rest h. records_of-sound most form at rest h))
      | inr none ↦ rw (at_end (suc most) form offset bytes (omega arith)) (ended-sound bytes None tt)
    ]

ends_named : (bytes : List ℕ) (fault : PcapFault) → header_of bytes ≡ Err fault → IsOfBytes (Some fault)
ends_named bytes fault read =
    elim (header_case bytes) [
      | too_short short e ↦ let is : fault ≡ NotPcap = cc in rw is tt
      | unknown long none e ↦ let is : fault ≡ NotPcap = cc in rw is tt
      | other_link form long some other e ↦ let is : fault ≡ WrongLink (link_in form bytes) = cc in rw is tt
      | ethernet form long some one e ↦ absurd cc
    ]

with_header-sound : (bytes : List ℕ) (r : Result Form PcapFault) → header_of bytes ≡ r → IsBytes bytes → Sound bytes (with_header r bytes)
unfolding all_records
with_header-sound bytes (Err fault) read fits = ended-sound bytes (Some fault) (ends_named bytes fault read)
with_header-sound bytes (Ok form) read fits =
    let s = records_of-sound (length (drop 24 bytes)) form 24 (drop 24 bytes) (IsBytes-drop 24 bytes fits) in
    record { writable = s.writable; few = omega (arith, s.few, length-drop 24 bytes); named = s.named }

pub capture_of-sound : (bytes : List ℕ) → IsBytes bytes → Sound bytes (capture_of bytes)
unfolding capture_of
capture_of-sound bytes fits = with_header-sound bytes (header_of bytes) refl fits

-- ---- records end with no fault of a header

plain_fault : (form : Form) (offset : ℕ) (bytes : List ℕ) (fault : PcapFault) → record_at form offset bytes ≡ Err fault → is_header_fault (Some fault) ≡ false
plain_fault form offset bytes fault read =
    elim (case_of form offset bytes) [
      | cut_head short e ↦ let is : fault ≡ Torn offset = cc in rw is refl
      | bad long why e ↦ let is : fault ≡ BadRecord offset = cc in rw is refl
      | cut_data long early fits short e ↦ let is : fault ≡ Torn offset = cc in rw is refl
      | whole long early fits enough e ↦ absurd cc
    ]

plain_onwards : (most : ℕ) (form : Form) (offset : ℕ) (bytes : List ℕ) (r : Result ((ℕ × List ℕ) × List ℕ) PcapFault) → record_at form offset bytes ≡ r
    → ((offset : ℕ) (rest : List ℕ) → is_header_fault (records_of most form offset rest).end ≡ false)
    → is_header_fault (onwards r (λ x. records_of most form (offset + 16 + length x.0.1) x.1)).end ≡ false
plain_onwards most form offset bytes (Err fault) read others = plain_fault form offset bytes fault read
plain_onwards most form offset bytes (Ok x) read others = others (offset + 16 + length x.0.1) x.1

plain_end : (most : ℕ) (form : Form) (offset : ℕ) (bytes : List ℕ) → is_header_fault (records_of most form offset bytes).end ≡ false
plain_end zero form offset bytes = ap (λ (c : Capture). is_header_fault c.end) (at_zero form offset bytes)
plain_end (suc most) form offset bytes =
    elim (cases_lt 0 (length bytes)) [
      | inl some ↦ ap (λ (c : Capture). is_header_fault c.end) (at_some most form offset bytes some) ∙ plain_onwards most form offset bytes (record_at form offset bytes) refl (plain_end most form)
      | inr none ↦ ap (λ (c : Capture). is_header_fault c.end) (at_end (suc most) form offset bytes (omega arith))
    ]

pub no_header_fault : (form : Form) (offset : ℕ) (bytes : List ℕ) → is_header_fault (all_records form offset bytes).end ≡ false
unfolding all_records
no_header_fault form offset bytes = plain_end (length bytes) form offset bytes

-- ---- the same of what is returned

pub seconds_fit : (bytes : List ℕ) (records : List (ℕ × List ℕ)) → IsBytes bytes → records ≡ (capture_of bytes).records → All (λ r. r.0 / second < 2 ^ 32) records
seconds_fit bytes records fits is =
    All-same (λ r. r.0 / second < 2 ^ 32) records (capture_of bytes).records is (All-weaker IsWritable (λ r. r.0 / second < 2 ^ 32) (λ r w. w.0) (capture_of bytes).records (capture_of-sound bytes fits).writable)

pub lengths : (bytes : List ℕ) (records : List (ℕ × List ℕ)) → IsBytes bytes → records ≡ (capture_of bytes).records → All (λ r. length r.1 ≤ longest) records
lengths bytes records fits is =
    All-same (λ r. length r.1 ≤ longest) records (capture_of bytes).records is (All-weaker IsWritable (λ r. length r.1 ≤ longest) (λ r w. w.1) (capture_of bytes).records (capture_of-sound bytes fits).writable)

pub few : (bytes : List ℕ) (records : List (ℕ × List ℕ)) → IsBytes bytes → records ≡ (capture_of bytes).records → 16 * length records ≤ length bytes
few bytes records fits is = rw is (capture_of-sound bytes fits).few

pub named : (bytes : List ℕ) (end : Option PcapFault) → IsBytes bytes → end ≡ (capture_of bytes).end → IsOfBytes end
named bytes end fits is = subst IsOfBytes (sym is) (capture_of-sound bytes fits).named
