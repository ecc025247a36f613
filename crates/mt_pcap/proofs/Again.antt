-- Bytes stand for one capture only, and what is written is read back.
use Rattle.std.proofs.Common.{◌≡◌, ℕ, ◌+◌, ◌-◌, ◌*◌, ◌/◌, ◌%◌, ◌<◌, ◌≤◌, inl, inr, List, [], ◌∷◌, ◌++◌, length, drop, map, Option, Some, None, Ok, All, refl, sym, ap, subst, ◌∙◌, append_assoc, arith}
use Rattle.std.specs.List.{flat_map, AllByRecursion}
use Rattle.std.proofs.lemmas.List.{append-nil, length-append, length-drop, take_at, drop_at}
use Rattle.std.proofs.lemmas.List.Elements.{All-head, All-tail}
use Rattle.std.proofs.Math.Nat.{mod-lt}
use Rattle.mt_pcap.specs.declared.form.Form.{Form}
use Rattle.mt_pcap.specs.declared.fault.PcapFault.{PcapFault}
use Rattle.mt_pcap.specs.declared.fault.PcapFault.TheVariants.{ReadFault, NotPcap, WrongLink, Torn, BadRecord, NoMemory}
use Rattle.mt_pcap.specs.Format.{number, nanoseconds_in, header_bytes, Head, head_bytes, Fits, fraction_of, Record, record_bytes, IsRecord, told, EndsAs, IsCutData, IsBad, second}
use Rattle.mt_pcap.specs.Capture.{Capture, record_at, ended, all_records, capture_of}
use Rattle.mt_pcap.specs.Text.{own_form, own_header, header_text, own_head, record_head_text, record_text, capture_text}
use Rattle.mt_pcap.specs.Laws.{IsOfRecords, IsOfOtherLink, IsOfNoHeader, StandsFor, IsWritable}
use Rattle.mt_pcap.proofs.Numbers.{IsBytes, IsBytes-from_all, number-four}
use Rattle.mt_pcap.proofs.Headers.{too_short, unknown, other_link, ethernet, header_case, link_in, magic_is, at_other_link, at_ethernet}
use Rattle.mt_pcap.proofs.Heads.{length-head_bytes, head_again, header_again, header_split}
use Rattle.mt_pcap.proofs.Records.{at_cut_head, at_bad, at_cut_data, at_whole, captured, fraction, whole_record, records-end, records-fault, records-next}
use Rattle.mt_pcap.proofs.Stands.{capture-fault, capture-records, written_header}

-- a head that was written, as it is read
head_reads : (form : Form) (h : Head) (rest bytes : List ℕ) → Fits h → bytes ≡ head_bytes form.order h ++ rest
    → (16 ≤ length bytes) × (fraction form bytes ≡ fraction_of form h) × (captured form bytes ≡ h.captured) × (drop 16 bytes ≡ rest) × (number form.order bytes ≡ h.seconds)
head_reads form h rest bytes fits e =
    let r = head_again form.order h rest fits in
    rw e (r.long, ap (λ (n : ℕ). n * nanoseconds_in form.resolution) r.fraction, r.captured, r.behind, r.seconds)

cut_data_again : (form : Form) (offset : ℕ) (bytes : List ℕ) → IsCutData form bytes → all_records form offset bytes ≡ ended (Some (Torn offset))
cut_data_again form offset bytes cut =
    let r = head_reads form cut.head cut.frame bytes cut.fits cut.parts in
    let short : length (drop 16 bytes) < captured form bytes = rw (r.3, r.2) cut.cut in
    records-fault form offset bytes (Torn offset) (omega (arith, r.0)) (at_cut_data form offset bytes r.0 (rw r.1 cut.proper.0) (rw r.2 cut.proper.1) short)

bad_again : (form : Form) (offset : ℕ) (bytes : List ℕ) → IsBad form bytes → all_records form offset bytes ≡ ended (Some (BadRecord offset))
bad_again form offset bytes bad =
    let r = head_reads form bad.head bad.after bytes bad.fits bad.parts in
    records-fault form offset bytes (BadRecord offset) (omega (arith, r.0)) (at_bad form offset bytes r.0 (rw (r.1, r.2) bad.improper))

-- a rest that looks so is read so
fault_again : (form : Form) (offset : ℕ) (bytes : List ℕ) (fault : PcapFault) → EndsAs form offset bytes (Some fault) → all_records form offset bytes ≡ ended (Some fault)
fault_again form offset bytes (Torn at) (same, inl cut) = rw same (records-fault form offset bytes (Torn offset) cut.0 (at_cut_head form offset bytes cut.1))
fault_again form offset bytes (Torn at) (same, inr cut) = rw same (cut_data_again form offset bytes cut)
fault_again form offset bytes (BadRecord at) (same, bad) = rw same (bad_again form offset bytes bad)
fault_again form offset bytes ReadFault none = absurd none
fault_again form offset bytes NotPcap none = absurd none
fault_again form offset bytes (WrongLink link) none = absurd none
fault_again form offset bytes NoMemory none = absurd none

end_again : (form : Form) (offset : ℕ) (bytes : List ℕ) (end : Option PcapFault) → EndsAs form offset bytes end → all_records form offset bytes ≡ ended end
end_again form offset bytes None none = rw none (records-end form offset)
end_again form offset bytes (Some fault) looks = fault_again form offset bytes fault looks

-- a record that was written is read as what it tells
record_again : (form : Form) (offset : ℕ) (r : Record) (rest : List ℕ) → IsRecord form r → record_at form offset (record_bytes form r ++ rest) ≡ Ok (told form r, rest)
record_again form offset r rest is =
    let bytes = record_bytes form r ++ rest in
    let e : bytes ≡ head_bytes form.order r.head ++ (r.frame ++ rest) = append_assoc (head_bytes form.order r.head) r.frame rest in
    let h = head_reads form r.head (r.frame ++ rest) bytes is.fits e in
    let enough : captured form bytes ≤ length (drop 16 bytes) = rw (h.2, h.3) (omega (arith, length-append r.frame rest, is.whole)) in
    let read = at_whole form offset bytes h.0 (rw h.1 is.proper.0) (rw h.2 is.proper.1) enough in
    let whole_is : whole_record form bytes ≡ (told form r, rest) = rw (h.1, h.2, h.3, h.4, take_at r.frame rest r.head.captured is.whole, drop_at r.frame rest r.head.captured is.whole) refl in
    read ∙ ap (λ (x : (ℕ × List ℕ) × List ℕ). Ok x) whole_is

records_again : (form : Form) (offset : ℕ) (written : List Record) (rest : List ℕ) (end : Option PcapFault) → AllByRecursion (IsRecord form) written
    → EndsAs form (offset + length (flat_map (record_bytes form) written)) rest end
    → all_records form offset (flat_map (record_bytes form) written ++ rest) ≡ record { records = map (told form) written; end = end }
records_again form offset [] rest end all looks = end_again form offset rest end (subst (λ (n : ℕ). EndsAs form n rest end) (omega arith) looks)
records_again form offset (r ∷ written) rest end all looks =
    let behind = flat_map (record_bytes form) written ++ rest in
    let e : flat_map (record_bytes form) (r ∷ written) ++ rest ≡ record_bytes form r ++ behind = append_assoc (record_bytes form r) (flat_map (record_bytes form) written) rest in
    let next = records-next form offset (record_bytes form r ++ behind) (told form r, behind) (record_again form offset r behind all.0) in
    let at : offset + length (flat_map (record_bytes form) (r ∷ written)) ≡ offset + 16 + length r.frame + length (flat_map (record_bytes form) written)
    = omega (arith, length-append (record_bytes form r) (flat_map (record_bytes form) written), length-append (head_bytes form.order r.head) r.frame, length-head_bytes form.order r.head) in
    let others = records_again form (offset + 16 + length r.frame) written rest end all.1 (subst (λ (n : ℕ). EndsAs form n rest end) at looks) in
    rw e (next ∙ rw others refl)

-- ---- from the front of the file

of_records : (bytes : List ℕ) (capture : Capture) → IsOfRecords bytes capture → capture ≡ capture_of bytes
of_records bytes capture is =
    let h = is.header in
    let behind = flat_map (record_bytes h.form) is.written ++ is.rest in
    let w = written_header h behind bytes is.parts in
    let rh = header_again h behind in
    let rest : drop 24 bytes ≡ behind = ap (drop 24) is.parts ∙ rh.behind in
    let link : link_in h.form bytes ≡ h.link % 65536 = ap (λ (l : List ℕ). number h.form.order l % 65536) (ap (drop 20) is.parts ∙ rh.link) ∙ ap (λ (n : ℕ). n % 65536) (number-four h.form.order h.link behind is.fits) in
    let read = at_ethernet h.form bytes w.0 w.1 (link ∙ is.ethernet) in
    let at : length bytes - length is.rest ≡ 24 + length (flat_map (record_bytes h.form) is.written)
    = omega (arith, ap length rest, length-drop 24 bytes, w.0, length-append (flat_map (record_bytes h.form) is.written) is.rest) in
    let found = records_again h.form 24 is.written is.rest capture.end is.proper (subst (λ (n : ℕ). EndsAs h.form n is.rest capture.end) at is.end) in
    let from_header : capture_of bytes ≡ all_records h.form 24 (drop 24 bytes) = capture-records bytes h.form read in
    let from_there : all_records h.form 24 (drop 24 bytes) ≡ all_records h.form 24 behind = ap (all_records h.form 24) rest in
    let whole : capture_of bytes ≡ record { records = map (told h.form) is.written; end = capture.end } = from_header ∙ from_there ∙ found in
    ap (λ (rs : List (ℕ × List ℕ)). record { records = rs; end = capture.end }) is.records ∙ sym whole

of_other_link : (bytes : List ℕ) (capture : Capture) → IsOfOtherLink bytes capture → capture ≡ capture_of bytes
of_other_link bytes capture is =
    let h = is.header in
    let w = written_header h is.after bytes is.parts in
    let rh = header_again h is.after in
    let link : link_in h.form bytes ≡ h.link % 65536 = ap (λ (l : List ℕ). number h.form.order l % 65536) (ap (drop 20) is.parts ∙ rh.link) ∙ ap (λ (n : ℕ). n % 65536) (number-four h.form.order h.link is.after is.fits) in
    let read = at_other_link h.form bytes w.0 w.1 (λ one. is.other (sym link ∙ one)) in
    let whole : capture_of bytes ≡ ended (Some (WrongLink (h.link % 65536))) = capture-fault bytes (WrongLink (link_in h.form bytes)) read ∙ ap (λ (n : ℕ). ended (Some (WrongLink n))) link in
    let same : capture ≡ ended (Some (WrongLink (h.link % 65536))) = let r = is.records in let e = is.end in ap (λ (rs : List (ℕ × List ℕ)). record { records = rs; end = capture.end }) r ∙ ap (λ (o : Option PcapFault). ended o) e in
    same ∙ sym whole

of_no_header : (bytes : List ℕ) (capture : Capture) → IsBytes bytes → IsOfNoHeader bytes capture → capture ≡ capture_of bytes
of_no_header bytes capture fits is =
    let same : capture ≡ ended (Some NotPcap) = let r = is.records in let e = is.end in ap (λ (rs : List (ℕ × List ℕ)). record { records = rs; end = capture.end }) r ∙ ap (λ (o : Option PcapFault). ended o) e in
    elim (header_case bytes) [
      | too_short short e ↦ same ∙ sym (capture-fault bytes NotPcap e)
      | unknown long none e ↦ same ∙ sym (capture-fault bytes NotPcap e)
      | other_link form long some other e ↦ let s = header_split form bytes fits long (magic_is bytes form some) in absurd (is.none s.0 (drop 24 bytes) s.3)
      | ethernet form long some one e ↦ let s = header_split form bytes fits long (magic_is bytes form some) in absurd (is.none s.0 (drop 24 bytes) s.3)
    ]

pub stands_alone : (bytes : List ℕ) (capture : Capture) → All (λ b. b < 256) bytes → StandsFor bytes capture → capture ≡ capture_of bytes
stands_alone bytes capture all (inl is) = of_records bytes capture is
stands_alone bytes capture all (inr (inl is)) = of_other_link bytes capture is
stands_alone bytes capture all (inr (inr is)) = of_no_header bytes capture (IsBytes-from_all bytes all) is

-- ---- what is written

own_record : ℕ × List ℕ → Record
own_record r = record { head = own_head r.0 (length r.1); frame = r.1 }

own_bytes : (records : List (ℕ × List ℕ)) → flat_map (record_bytes own_form) (map own_record records) ≡ flat_map record_text records
unfolding own_record record_head_text
own_bytes [] = refl
own_bytes (r ∷ records) = ap (λ (l : List ℕ). record_bytes own_form (own_record r) ++ l) (own_bytes records)

own_told : (records : List (ℕ × List ℕ)) → map (told own_form) (map own_record records) ≡ records
unfolding own_record nanoseconds_in
own_told [] = refl
own_told (r ∷ records) =
    let stamp : r.0 / second * second + r.0 % second * 1 ≡ r.0 = omega arith in
    rw (stamp, own_told records) refl

own_fit : (records : List (ℕ × List ℕ)) → All IsWritable records → AllByRecursion (IsRecord own_form) (map own_record records)
unfolding own_record nanoseconds_in
own_fit [] all = tt
own_fit (r ∷ records) all =
    let w = All-head IsWritable r records all in
    let below = mod-lt r.0 {m = second} (omega arith) in (
      record {
        fits = record { seconds = w.0; fraction = omega (arith, below); captured = omega (arith, w.1); original = omega (arith, w.1) };
        proper = (omega (arith, below), w.1);
        whole = refl;
      },
      own_fit records (All-tail IsWritable r records all),
    )

pub reads_back : (records : List (ℕ × List ℕ)) → All IsWritable records → capture_of (capture_text records) ≡ record { records = records; end = None }
unfolding header_text
reads_back records all =
    let parts : capture_text records ≡ header_bytes own_header ++ (flat_map (record_bytes own_form) (map own_record records) ++ [])
    = ap (λ (l : List ℕ). header_bytes own_header ++ l) (sym (own_bytes records) ∙ sym (append-nil (flat_map (record_bytes own_form) (map own_record records)))) in
    sym (of_records (capture_text records) (record { records = records; end = None }) (record {
      header = own_header;
      written = map own_record records;
      rest = [];
      fits = omega arith;
      ethernet = refl;
      proper = own_fit records all;
      parts = parts;
      records = sym (own_told records);
      end = refl;
    }))
