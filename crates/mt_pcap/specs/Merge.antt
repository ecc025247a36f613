-- Merging captures: which record comes next, and the frames that are given until the merge ends.
use Rattle.std.specs.Prelude.{ℕ, zero, suc, ◌+◌, ◌==◌, ◌&&◌, Bool, true, false, nat_le, List, [], ◌∷◌, length, drop, position, slice_get, slice_set, Option, Some, None, is_some, option_map, option_and_then}
use Rattle.std.specs.List.{list_all}
use Rattle.mt_packet.specs.declared.frame.Stamped.{Stamped}
use Rattle.mt_pcap.specs.declared.fault.PcapFault.{PcapFault}
use Rattle.mt_pcap.specs.Capture.{Capture}

-- the most frames that are given
abbrev pub most_frames : ℕ
most_frames = 16777216

-- What ends a merge: every record of every capture was given; the records of a device were all given,
-- and its capture ends with a fault; or so many frames would be given, and may not be.
pub data MergedEnd : Type 0 where
  Done : MergedEnd
  Fault : ℕ → PcapFault → MergedEnd
  Frames : ℕ → MergedEnd

-- ---- what is left of one capture

abbrev pub first_of : Capture → Option (ℕ × List ℕ)
first_of c = slice_get c.records 0

-- the time of the first record
abbrev pub first_stamp : Capture → Option ℕ
first_stamp c = option_map (λ r. r.0) (first_of c)

-- the records behind the first
abbrev pub behind : Capture → Capture
behind c = record { records = drop 1 c.records; end = c.end }

-- no record is left, and the capture ends with a fault
abbrev pub is_at_fault : Capture → Bool
is_at_fault c = (length c.records == 0) && is_some c.end

-- ---- what is left of each capture, the first of the list for device 1

-- the fault that is met with its device, of several that of the lowest device
unfoldable pub fault_met : List Capture → Option (ℕ × PcapFault)
fault_met left =
    option_and_then
    (λ index. option_and_then (λ c. option_map (λ fault. (index + 1, fault)) c.end) (slice_get left index))
    (position is_at_fault left)

-- there is no time, or it is not before this one
abbrev pub is_from : ℕ → Option ℕ → Bool
is_from stamp None = true
is_from stamp (Some other) = nat_le stamp other

-- there is a time, and no first record is from before it
abbrev pub is_least : List Capture → Option ℕ → Bool
is_least left None = false
is_least left (Some stamp) = list_all (λ c. is_from stamp (first_stamp c)) left

-- the first of the captures whose first record is of least time
unfoldable pub next_index : List Capture → Option ℕ
next_index left = position (λ c. is_least left (first_stamp c)) left

-- the record that comes next, with its device, and what is left behind it
pub record Taken : Type 0 where
  pub device : ℕ
  pub given : ℕ × List ℕ
  pub left : List Capture

unfoldable pub taken : List Capture → Option Taken
taken left =
    option_and_then
    (λ index. option_and_then (λ c. option_map (λ r. record { device = index + 1; given = r; left = slice_set left index (behind c) }) (first_of c)) (slice_get left index))
    (next_index left)

-- ---- one frame after the other

-- a merge goes one step on: it ends, or gives a record
pub data MergeStep : Type 0 where
  ends : MergedEnd → MergeStep
  gives : Taken → MergeStep

abbrev pub merge_step_of : Option (ℕ × PcapFault) → Option Taken → MergeStep
merge_step_of (Some fault) next = ends (Fault fault.0 fault.1)
merge_step_of None None = ends Done
merge_step_of None (Some next) = gives next

unfoldable pub step : List Capture → MergeStep
step left = merge_step_of (fault_met left) (taken left)

-- the frames that are given, and why there are no more
pub record Merge : Type 0 where
  pub frames : List Stamped
  pub end : MergedEnd

abbrev pub stamped : ℕ → Taken → Stamped
stamped number next = record { stamp = next.given.0; device = next.device; number = number; frame = next.given.1 }

-- where no more frames may be given
abbrev pub stops : MergeStep → Merge
stops (ends end) = record { frames = []; end = end }
stops (gives next) = record { frames = []; end = Frames (most_frames + 1) }

-- where there is room for one more
abbrev pub goes_on : ℕ → (List Capture → Merge) → MergeStep → Merge
goes_on number others (ends end) = record { frames = []; end = end }
goes_on number others (gives next) = record { frames = stamped number next ∷ (others next.left).frames; end = (others next.left).end }

-- what is given of what is left, from a number on, with room for so many frames
unfoldable pub merge_from : ℕ → ℕ → List Capture → Merge
merge_from zero number left = stops (step left)
merge_from (suc room) number left = goes_on number (merge_from room (number + 1)) (step left)

-- the merge of captures, the first of them that of device 1
unfoldable pub merge_of : List Capture → Merge
merge_of captures = merge_from most_frames 0 captures
