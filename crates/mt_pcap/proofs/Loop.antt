-- Reading records one after the other, as a loop does.
use Rattle.std.proofs.Common.{◌≡◌, ℕ, ◌+◌, ◌-◌, ◌<◌, ◌≤◌, List, [], ◌∷◌, ◌++◌, length, drop, Some, None, Ok, Err, sym, ap, ◌∙◌, append_assoc, arith, false}
use Rattle.std.specs.Prelude.{◌==◌}
use Rattle.std.proofs.lemmas.Bool.{eqb-false}
use Rattle.std.proofs.lemmas.List.{append-nil, nil_from_length, length-drop}
use Rattle.mt_pcap.specs.declared.form.Form.{Form}
use Rattle.mt_pcap.specs.declared.fault.PcapFault.{PcapFault}
use Rattle.mt_pcap.specs.Capture.{Capture, record_at, all_records}
use Rattle.mt_pcap.proofs.Records.{took, records-end, records-fault, records-next}

-- the records that were found, and what else there is
abbrev pub with_front : List (ℕ × List ℕ) → Capture → Capture
with_front found capture = record { records = found ++ capture.records; end = capture.end }

pub starts : (form : Form) (bytes : List ℕ) → 24 ≤ length bytes
    → (length (drop 24 bytes) ≤ length bytes) × (with_front [] (all_records form (length bytes - length (drop 24 bytes)) (drop 24 bytes)) ≡ all_records form 24 (drop 24 bytes))
starts form bytes long =
    let at : length bytes - length (drop 24 bytes) ≡ 24 = omega (arith, length-drop 24 bytes) in
    (omega (arith, length-drop 24 bytes), ap (λ (n : ℕ). all_records form n (drop 24 bytes)) at)

pub not_empty : (bytes : List ℕ) → false ≡ (length bytes == 0) → 0 < length bytes
not_empty bytes e = let ne = eqb-false (length bytes) 0 (sym e) in omega arith

pub goes_on : (form : Form) (found : List (ℕ × List ℕ)) (total : ℕ) (rest : List ℕ) (stamp : ℕ) (frame after : List ℕ) (all : Capture) → length rest ≤ total
    → record_at form (total - length rest) rest ≡ Ok ((stamp, frame), after)
    → with_front found (all_records form (total - length rest) rest) ≡ all
    → (length after ≤ total) × (length after < length rest) × (with_front (found ++ (stamp, frame) ∷ []) (all_records form (total - length after) after) ≡ all)
goes_on form found total rest stamp frame after all le read so_far =
    let t = took form (total - length rest) rest ((stamp, frame), after) read in
    let at : total - length rest + 16 + length frame ≡ total - length after = omega (arith, t.parts) in
    let next : all_records form (total - length rest) rest ≡ record { records = (stamp, frame) ∷ (all_records form (total - length after) after).records; end = (all_records form (total - length after) after).end }
    = rw (← at) (records-next form (total - length rest) rest ((stamp, frame), after) read) in
    let moved : with_front (found ++ (stamp, frame) ∷ []) (all_records form (total - length after) after) ≡ with_front found (all_records form (total - length rest) rest)
    = rw next (ap (λ (rs : List (ℕ × List ℕ)). record { records = rs; end = (all_records form (total - length after) after).end }) (simp append_assoc)) in
    (omega (arith, t.parts), omega (arith, t.parts), moved ∙ so_far)

pub stops : (form : Form) (found : List (ℕ × List ℕ)) (offset : ℕ) (rest : List ℕ) (fault : PcapFault) (all : Capture) → 0 < length rest → record_at form offset rest ≡ Err fault
    → with_front found (all_records form offset rest) ≡ all → (found ≡ all.records) × (Some fault ≡ all.end)
stops form found offset rest fault all some read so_far =
    let now : with_front found (all_records form offset rest) ≡ record { records = found; end = Some fault }
    = rw (records-fault form offset rest fault some read) (ap (λ (rs : List (ℕ × List ℕ)). record { records = rs; end = Some fault }) (append-nil found)) in
    let e : record { records = found; end = Some fault } ≡ all = sym now ∙ so_far in
    (ap (λ (c : Capture). c.records) e, ap (λ (c : Capture). c.end) e)

pub is_done : (form : Form) (found : List (ℕ × List ℕ)) (offset : ℕ) (rest : List ℕ) (all : Capture) → length rest ≡ 0
    → with_front found (all_records form offset rest) ≡ all → (found ≡ all.records) × (None ≡ all.end)
is_done form found offset rest all none so_far =
    let now : with_front found (all_records form offset rest) ≡ record { records = found; end = None }
    = rw (nil_from_length rest none, records-end form offset) (ap (λ (rs : List (ℕ × List ℕ)). record { records = rs; end = None }) (append-nil found)) in
    let e : record { records = found; end = None } ≡ all = sym now ∙ so_far in
    (ap (λ (c : Capture). c.records) e, ap (λ (c : Capture). c.end) e)
