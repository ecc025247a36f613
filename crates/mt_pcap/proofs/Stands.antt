-- All bytes stand for what is read of them.
use Rattle.std.proofs.Common.{◌≡◌, ℕ, zero, suc, ◌+◌, ◌-◌, ◌%◌, ◌<◌, ◌≤◌, inl, inr, List, [], ◌∷◌, ◌++◌, length, take, drop, map, Option, Some, None, Result, Ok, Err, All, refl, sym, ap, subst, ◌∙◌, append_assoc, arith}
use Rattle.std.specs.List.{flat_map, AllByRecursion}
use Rattle.std.proofs.lemmas.Bool.{cases_lt}
use Rattle.std.proofs.lemmas.List.{length-drop, take-append-drop, nil_from_length}
use Rattle.mt_pcap.specs.declared.form.Form.{Form}
use Rattle.mt_pcap.specs.declared.fault.PcapFault.{PcapFault}
use Rattle.mt_pcap.specs.declared.fault.PcapFault.TheVariants.{NotPcap, WrongLink, Torn, BadRecord}
use Rattle.mt_pcap.specs.Format.{Header, header_bytes, head_bytes, Record, record_bytes, IsRecord, told, EndsAs}
use Rattle.mt_pcap.specs.Capture.{Capture, record_at, form_of, header_of, ended, onwards, records_of, all_records, capture_of}
use Rattle.mt_pcap.specs.Laws.{StandsFor}
use Rattle.mt_pcap.proofs.Numbers.{IsBytes, IsBytes-from_all, IsBytes-drop, number-lt}
use Rattle.mt_pcap.proofs.Headers.{too_short, unknown, other_link, ethernet, header_case, link_in, magic_is, form_of-magic}
use Rattle.mt_pcap.proofs.Heads.{head_of, head_of-fits, head_split, header_again, header_split}
use Rattle.mt_pcap.proofs.Records.{cut_head, bad, cut_data, whole, case_of, Took, took, at_zero, at_end, at_some, captured}
use Rattle.mt_pcap.proofs.Facts.{rest_bytes}

-- bytes from an offset on are records and a rest that ends them so
pub record StandsFrom (form : Form) (offset : ℕ) (bytes : List ℕ) (capture : Capture) : Type 0 where
  pub written : List Record
  pub rest : List ℕ
  pub proper : AllByRecursion (IsRecord form) written
  pub parts : bytes ≡ flat_map (record_bytes form) written ++ rest
  pub records : capture.records ≡ map (told form) written
  pub end : EndsAs form (offset + length bytes - length rest) rest capture.end

nothing_stands : (form : Form) (offset : ℕ) (bytes : List ℕ) → length bytes ≡ 0 → StandsFrom form offset bytes (ended None)
nothing_stands form offset bytes none =
    record { written = []; rest = bytes; proper = tt; parts = refl; records = refl; end = nil_from_length bytes none }

-- a fault says what the bytes look like
fault_ends : (form : Form) (offset : ℕ) (bytes : List ℕ) (fault : PcapFault) → IsBytes bytes → 0 < length bytes → record_at form offset bytes ≡ Err fault → EndsAs form offset bytes (Some fault)
fault_ends form offset bytes fault fits some read =
    elim (case_of form offset bytes) [
      | cut_head short e ↦ let is : fault ≡ Torn offset = cc in rw is (refl, inl (some, short))
      | bad long why e ↦ let is : fault ≡ BadRecord offset = cc in
          rw is (refl, record { head = head_of form.order bytes; after = drop 16 bytes; fits = head_of-fits form.order bytes fits; improper = why; parts = head_split form.order bytes fits long })
      | cut_data long early within short e ↦ let is : fault ≡ Torn offset = cc in
          rw is (refl, inr (record { head = head_of form.order bytes; frame = drop 16 bytes; fits = head_of-fits form.order bytes fits; proper = (early, within); cut = short; parts = head_split form.order bytes fits long }))
      | whole long early within enough e ↦ absurd cc
    ]

fault_stands : (form : Form) (offset : ℕ) (bytes : List ℕ) (fault : PcapFault) → IsBytes bytes → 0 < length bytes → record_at form offset bytes ≡ Err fault → StandsFrom form offset bytes (ended (Some fault))
fault_stands form offset bytes fault fits some read =
    let at : offset + length bytes - length bytes ≡ offset = omega arith in
    record { written = []; rest = bytes; proper = tt; parts = refl; records = refl; end = subst (λ (n : ℕ). EndsAs form n bytes (Some fault)) (sym at) (fault_ends form offset bytes fault fits some read) }

-- the record that was read, as it was written
abbrev read_record : Form → List ℕ → List ℕ → Record
read_record form bytes frame = record { head = head_of form.order bytes; frame = frame }

took_parts : (form : Form) (bytes : List ℕ) (x : (ℕ × List ℕ) × List ℕ) → IsBytes bytes → Took form bytes x → bytes ≡ record_bytes form (read_record form bytes x.0.1) ++ x.1
took_parts form bytes x fits t =
    let frame : x.0.1 ≡ take (captured form bytes) (drop 16 bytes) = ap (λ (y : (ℕ × List ℕ) × List ℕ). y.0.1) t.is in
    let rest : x.1 ≡ drop (captured form bytes) (drop 16 bytes) = ap (λ (y : (ℕ × List ℕ) × List ℕ). y.1) t.is in
    let behind : drop 16 bytes ≡ x.0.1 ++ x.1 = sym (take-append-drop (captured form bytes) (drop 16 bytes)) ∙ rw (frame, rest) refl in
    head_split form.order bytes fits t.long ∙ ap (λ (r : List ℕ). head_bytes form.order (head_of form.order bytes) ++ r) behind ∙ sym (append_assoc (head_bytes form.order (head_of form.order bytes)) x.0.1 x.1)

record_stands : (form : Form) (offset : ℕ) (bytes : List ℕ) (x : (ℕ × List ℕ) × List ℕ) (others : Capture) → IsBytes bytes → Took form bytes x
    → StandsFrom form (offset + 16 + length x.0.1) x.1 others → StandsFrom form offset bytes (record { records = x.0 ∷ others.records; end = others.end })
record_stands form offset bytes x others fits t s =
    let r = read_record form bytes x.0.1 in
    let at : offset + 16 + length x.0.1 + length x.1 - length s.rest ≡ offset + length bytes - length s.rest = omega (arith, t.parts) in
    let told_is : x.0 ≡ told form r = ap (λ (y : (ℕ × List ℕ) × List ℕ). (y.0.0, x.0.1)) t.is in
    record {
      written = r ∷ s.written;
      rest = s.rest;
      proper = (record { fits = head_of-fits form.order bytes fits; proper = (t.early, t.fits); whole = t.len }, s.proper);
      parts = took_parts form bytes x fits t ∙ ap (λ (l : List ℕ). record_bytes form r ++ l) s.parts ∙ sym (append_assoc (record_bytes form r) (flat_map (record_bytes form) s.written) s.rest);
      records = rw (told_is, s.records) refl;
      end = subst (λ (n : ℕ). EndsAs form n s.rest others.end) at s.end;
    }

onwards_stand : (most : ℕ) (form : Form) (offset : ℕ) (bytes : List ℕ) (r : Result ((ℕ × List ℕ) × List ℕ) PcapFault) → record_at form offset bytes ≡ r → IsBytes bytes → 0 < length bytes → length bytes ≤ suc most
    → ((offset : ℕ) (rest : List ℕ) → IsBytes rest → length rest ≤ most → StandsFrom form offset rest (records_of most form offset rest))
    → StandsFrom form offset bytes (onwards r (λ x. records_of most form (offset + 16 + length x.0.1) x.1))
onwards_stand most form offset bytes (Err fault) read fits some le others = fault_stands form offset bytes fault fits some read
onwards_stand most form offset bytes (Ok x) read fits some le others =
    let t = took form offset bytes x read in
    record_stands form offset bytes x (records_of most form (offset + 16 + length x.0.1) x.1) fits t (others (offset + 16 + length x.0.1) x.1 (rest_bytes form bytes x fits t) (omega (arith, t.parts)))

records_stand : (most : ℕ) (form : Form) (offset : ℕ) (bytes : List ℕ) → IsBytes bytes → length bytes ≤ most → StandsFrom form offset bytes (records_of most form offset bytes)
records_stand zero form offset bytes fits le = rw (at_zero form offset bytes) (nothing_stands form offset bytes (omega arith))
records_stand (suc most) form offset bytes fits le =
    elim (cases_lt 0 (length bytes)) [
      | inl some ↦ rw (at_some most form offset bytes some) (onwards_stand most form offset bytes (record_at form offset bytes) refl fits some le (λ at rest h l. records_stand most form at rest h l))
      | inr none ↦ rw (at_end (suc most) form offset bytes (omega arith)) (nothing_stands form offset bytes (omega arith))
    ]

all_stand : (form : Form) (offset : ℕ) (bytes : List ℕ) → IsBytes bytes → StandsFrom form offset bytes (all_records form offset bytes)
unfolding all_records
all_stand form offset bytes fits = records_stand (length bytes) form offset bytes fits (omega arith)

-- ---- the header

pub capture-fault : (bytes : List ℕ) (fault : PcapFault) → header_of bytes ≡ Err fault → capture_of bytes ≡ ended (Some fault)
unfolding capture_of
capture-fault bytes fault e = rw e refl

pub capture-records : (bytes : List ℕ) (form : Form) → header_of bytes ≡ Ok form → capture_of bytes ≡ all_records form 24 (drop 24 bytes)
unfolding capture_of
capture-records bytes form e = rw e refl

-- a header that was written is long enough, and its form is told
pub written_header : (h : Header) (after bytes : List ℕ) → bytes ≡ header_bytes h ++ after → (24 ≤ length bytes) × (form_of bytes ≡ Some h.form)
written_header h after bytes e =
    let rh = header_again h after in
    (omega (arith, rh.long, ap length e), ap form_of (e ∙ rh.front.1) ∙ form_of-magic h.form rh.front.0)

no_header_stands : (bytes : List ℕ) → ((h : Header) (after : List ℕ) → bytes ≡ header_bytes h ++ after → ⊥) → header_of bytes ≡ Err NotPcap → StandsFor bytes (capture_of bytes)
no_header_stands bytes none e =
    let is = capture-fault bytes NotPcap e in
    inr (inr (record { none = none; records = ap (λ (c : Capture). c.records) is; end = ap (λ (c : Capture). c.end) is }))

other_link_stands : (form : Form) (bytes : List ℕ) → IsBytes bytes → 24 ≤ length bytes → form_of bytes ≡ Some form → (link_in form bytes ≡ 1 → ⊥) → header_of bytes ≡ Err (WrongLink (link_in form bytes)) → StandsFor bytes (capture_of bytes)
other_link_stands form bytes fits long some other e =
    let s = header_split form bytes fits long (magic_is bytes form some) in
    let link : s.0.link % 65536 ≡ link_in form bytes = ap (λ (n : ℕ). n % 65536) s.2 in
    let is = capture-fault bytes (WrongLink (link_in form bytes)) e in
    inr (inl (record {
      header = s.0;
      after = drop 24 bytes;
      fits = rw s.2 (number-lt form.order (drop 20 bytes) (IsBytes-drop 20 bytes fits));
      other = λ one. other (sym link ∙ one);
      parts = s.3;
      records = ap (λ (c : Capture). c.records) is;
      end = ap (λ (c : Capture). c.end) is ∙ ap (λ (n : ℕ). Some (WrongLink n)) (sym link);
    }))

ethernet_stands : (form : Form) (bytes : List ℕ) → IsBytes bytes → 24 ≤ length bytes → form_of bytes ≡ Some form → link_in form bytes ≡ 1 → header_of bytes ≡ Ok form → StandsFor bytes (capture_of bytes)
ethernet_stands form bytes fits long some one e =
    let s = header_split form bytes fits long (magic_is bytes form some) in
    let h = s.0 in
    let is : capture_of bytes ≡ all_records h.form 24 (drop 24 bytes) = capture-records bytes form e ∙ ap (λ (f : Form). all_records f 24 (drop 24 bytes)) (sym s.1) in
    let stands = all_stand h.form 24 (drop 24 bytes) (IsBytes-drop 24 bytes fits) in
    let at : 24 + length (drop 24 bytes) - length stands.rest ≡ length bytes - length stands.rest = omega (arith, length-drop 24 bytes) in
    inl (record {
      header = h;
      written = stands.written;
      rest = stands.rest;
      fits = rw s.2 (number-lt form.order (drop 20 bytes) (IsBytes-drop 20 bytes fits));
      ethernet = ap (λ (n : ℕ). n % 65536) s.2 ∙ one;
      proper = stands.proper;
      parts = s.3 ∙ ap (λ (r : List ℕ). header_bytes h ++ r) stands.parts;
      records = ap (λ (c : Capture). c.records) is ∙ stands.records;
      end = subst (λ (n : ℕ). EndsAs h.form n stands.rest (capture_of bytes).end) at (subst (λ (end : Option PcapFault). EndsAs h.form (24 + length (drop 24 bytes) - length stands.rest) stands.rest end) (sym (ap (λ (c : Capture). c.end) is)) stands.end);
    })

pub capture_of-stands : (bytes : List ℕ) → All (λ b. b < 256) bytes → StandsFor bytes (capture_of bytes)
capture_of-stands bytes all =
    let fits = IsBytes-from_all bytes all in
    elim (header_case bytes) [
      | too_short short e ↦ no_header_stands bytes (λ h after is. absurd (omega (arith, (written_header h after bytes is).0))) e
      | unknown long none e ↦ no_header_stands bytes (λ h after is. absurd (cc ((written_header h after bytes is).1))) e
      | other_link form long some other e ↦ other_link_stands form bytes fits long some other e
      | ethernet form long some one e ↦ ethernet_stands form bytes fits long some one e
    ]
