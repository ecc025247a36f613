-- The merge of one capture.
use Rattle.std.proofs.Common.{◌≡◌, ℕ, zero, suc, ◌+◌, ◌≤◌, true, false, Bool, List, [], ◌∷◌, length, position, refl, ap, ◌∙◌, arith}
use Rattle.std.specs.Prelude.{Option, Some, None, is_some, ◌&&◌}
use Rattle.std.proofs.lemmas.Bool.{le-leb, ne_eqb}
use Rattle.mt_pcap.specs.declared.fault.PcapFault.{PcapFault}
use Rattle.mt_pcap.specs.Capture.{Capture}
use Rattle.mt_pcap.specs.Merge.{most_frames, first_stamp, is_least, is_at_fault, fault_met, next_index, Taken, taken, ends, step, Merge, merge_from, merge_of}
use Rattle.mt_pcap.specs.MergeFacts.{numbered_from, end_of, alone}
use Rattle.mt_pcap.proofs.Merges.{merge-ends, merge-more, step-fault, step-done, step-next}
use Rattle.mt_lists.proofs.Positions.{found, missing, NoneBefore}

-- the first of one element
one_passes : {X : Type 0} (p : X → Bool) (x : X) → p x ≡ true → position p (x ∷ []) ≡ Some 0
one_passes p x is = found p (x ∷ []) 0 x (λ k d lt. absurd (omega arith)) refl is

one_fails : {X : Type 0} (p : X → Bool) (x : X) → p x ≡ false → position p (x ∷ []) ≡ None
one_fails p x is = missing p (x ∷ []) 1 refl (at p x is)
  where
    at : {X : Type 0} (p : X → Bool) (x : X) → p x ≡ false → NoneBefore p (x ∷ []) 1
    at p x is zero d lt = is
    at p x is (suc k) d lt = absurd (omega arith)

abbrev with_first : ℕ × List ℕ → List (ℕ × List ℕ) → Option PcapFault → Capture
with_first r records end = record { records = r ∷ records; end = end }

abbrev empty : Option PcapFault → Capture
empty end = record { records = []; end = end }

abbrev first_taken : ℕ × List ℕ → List (ℕ × List ℕ) → Option PcapFault → Taken
first_taken r records end = record { device = 1; given = r; left = record { records = records; end = end } ∷ [] }

-- ---- with a record left

unmet : (r : ℕ × List ℕ) (records : List (ℕ × List ℕ)) (end : Option PcapFault) → fault_met (with_first r records end ∷ []) ≡ None
unfolding fault_met
unmet r records end =
    let e : is_at_fault (with_first r records end) ≡ false = ap (λ b. b && is_some end) (ne_eqb (suc (length records)) 0 (λ e. absurd (omega (arith, e)))) in
    rw (one_fails is_at_fault (with_first r records end) e) refl

index : (r : ℕ × List ℕ) (records : List (ℕ × List ℕ)) (end : Option PcapFault) → next_index (with_first r records end ∷ []) ≡ Some 0
unfolding next_index
index r records end =
    one_passes (λ c. is_least (with_first r records end ∷ []) (first_stamp c)) (with_first r records end) (ap (λ b. b && true) (le-leb r.0 r.0 (omega arith)))

next : (r : ℕ × List ℕ) (records : List (ℕ × List ℕ)) (end : Option PcapFault) → taken (with_first r records end ∷ []) ≡ Some (first_taken r records end)
unfolding taken
next r records end = rw (index r records end) refl

-- ---- with none left

no_place : (end : Option PcapFault) → next_index (empty end ∷ []) ≡ None
unfolding next_index
no_place end = one_fails (λ c. is_least (empty end ∷ []) (first_stamp c)) (empty end) refl

no_next : (end : Option PcapFault) → taken (empty end ∷ []) ≡ None
unfolding taken
no_next end = rw (no_place end) refl

no_fault : fault_met (empty None ∷ []) ≡ None
unfolding fault_met
no_fault = refl

met : (fault : PcapFault) → fault_met (empty (Some fault) ∷ []) ≡ Some (1, fault)
unfolding fault_met
met fault = refl

none_left : (end : Option PcapFault) → step (empty end ∷ []) ≡ ends (end_of end)
none_left None = step-done (empty None ∷ []) no_fault (no_next None)
none_left (Some fault) = step-fault (empty (Some fault) ∷ []) (1, fault) (met fault)

from_one : (room number : ℕ) (records : List (ℕ × List ℕ)) (end : Option PcapFault) → length records ≤ room
    → merge_from room number (record { records = records; end = end } ∷ []) ≡ record { frames = numbered_from number records; end = end_of end }
from_one room number [] end le = merge-ends room number (record { records = []; end = end } ∷ []) (end_of end) (none_left end)
from_one zero number (r ∷ records) end le = absurd (omega arith)
from_one (suc room) number (r ∷ records) end le =
    merge-more room number (with_first r records end ∷ []) (first_taken r records end) (step-next (with_first r records end ∷ []) (first_taken r records end) (unmet r records end) (next r records end))
    ∙ ap (λ (m : Merge). record { frames = record { stamp = r.0; device = 1; number = number; frame = r.1 } ∷ m.frames; end = m.end }) (from_one room (number + 1) records end (omega arith))

pub merge_of-one : (c : Capture) → length c.records ≤ most_frames → merge_of (c ∷ []) ≡ alone c
unfolding merge_of
merge_of-one c few = from_one most_frames 0 c.records c.end few
