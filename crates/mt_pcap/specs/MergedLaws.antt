-- That the calls of a merge, one after the other, are the merge of what the files held before they were opened.
use Rattle.std.specs.Prelude.{◌≡◌, ◌≤◌, ℕ, ◌+◌, List, [], ◌∷◌, ◌++◌, length, slice_get, Option, Some, IfSome}
use Rattle.mt_io.specs.Files.{Rose, IsSame}
use Rattle.mt_packet.specs.declared.frame.Stamped.{Stamped}
use Rattle.mt_pcap.specs.declared.fault.PcapFault.TheVariants.{ReadFault}
use Rattle.mt_pcap.specs.Capture.{Capture}
use Rattle.mt_pcap.specs.Stream.{ReaderState}
use Rattle.mt_pcap.specs.Merge.{MergedEnd, Frames, most_frames, merge_of}
use Rattle.mt_pcap.specs.Sources.{MergeState, begun, names_of, all_left, EndsSo, GivesSo, HasFailed}
use Rattle.mt_pcap.specs.Opened.{captures_in, AreOpened}
use Rattle.mt_pcap.specs.Merged.{HaveGiven, AreUnbroken, AreReadyBut, HasBroken, HasMerged, IsWholeMerge, IsBrokenMerge}

-- before the first frame
abbrev pub BeginsToMerge : Type 0
BeginsToMerge =
    (names : List (List ℕ)) (first held : List ℕ → Option (List ℕ)) (readers : List ReaderState) (merge : MergeState) → AreOpened names first held readers → merge.sources ≡ begun readers → merge.given ≡ 0
    → HasMerged names first held [] merge

-- one frame more
abbrev pub MergesOn : Type 0
MergesOn =
    (names : List (List ℕ)) (first old new : List ℕ → Option (List ℕ)) (frames : List Stamped) (merge after : MergeState) (frame : Stamped) → HasMerged names first old frames merge
    → GivesSo merge.given (all_left old merge.sources) frame (all_left new after.sources) → HaveGiven (frame ∷ []) merge.sources after.sources old new → AreReadyBut frame.device after.sources
    → (AreUnbroken merge.sources → AreUnbroken after.sources) → names_of after.sources ≡ names_of merge.sources → after.given ≡ merge.given + 1
    → HasMerged names first new (frames ++ frame ∷ []) after

-- where it ends, these frames and this end are the merge
abbrev pub MergesWhole : Type 0
MergesWhole =
    (names : List (List ℕ)) (first held : List ℕ → Option (List ℕ)) (frames : List Stamped) (merge : MergeState) (end : MergedEnd) → HasMerged names first held frames merge → length frames ≤ most_frames → EndsSo (all_left held merge.sources) end
    → IsWholeMerge names first frames end

-- and where one frame more than may be would be given
abbrev pub MergesFull : Type 0
MergesFull =
    (names : List (List ℕ)) (first held : List ℕ → Option (List ℕ)) (frames : List Stamped) (merge : MergeState) (frame : Stamped) (after : Option (List Capture)) → HasMerged names first held frames merge → length frames ≡ most_frames
    → GivesSo merge.given (all_left held merge.sources) frame after → IsWholeMerge names first frames (Frames (most_frames + 1))

-- these frames are a front of the merge in any case
abbrev pub MergesSoFar : Type 0
MergesSoFar =
    (names : List (List ℕ)) (first held : List ℕ → Option (List ℕ)) (frames : List Stamped) (merge : MergeState) → HasMerged names first held frames merge → length frames ≤ most_frames
    → IfSome (captures_in first names) (λ captures. (rest : List Stamped) × ((merge_of captures).frames ≡ frames ++ rest))

-- where a read fails, they are the merge of what was read, and a count of failed reads rose
abbrev pub MergesBroken : Type 0
MergesBroken =
    (names : List (List ℕ)) (first held after : List ℕ → Option (List ℕ)) (frames : List Stamped) (merge : MergeState) (device : ℕ) → HasMerged names first held frames merge → length frames ≤ most_frames → HasBroken merge.sources device held after
    → IsBrokenMerge names first after frames device

abbrev pub FailsToRead : Type 0
FailsToRead =
    (names : List (List ℕ)) (first held : List ℕ → Option (List ℕ)) (frames : List Stamped) (merge : MergeState) (device : ℕ) (old new : List ℕ → ℕ) → HasMerged names first held frames merge → HasFailed merge.sources device ReadFault old new
    → (index : ℕ) × (name : List ℕ) × (device ≡ index + 1) × (slice_get names index ≡ Some name) × Rose (old name) (new name)

-- and calls that read no file leave all of this as it was
abbrev pub OpenedStill : Type 0
OpenedStill = (names : List (List ℕ)) (first old new : List ℕ → Option (List ℕ)) (readers : List ReaderState) → IsSame old new → AreOpened names first old readers → AreOpened names first new readers

abbrev pub MergedStill : Type 0
MergedStill =
    (names : List (List ℕ)) (first old new : List ℕ → Option (List ℕ)) (frames : List Stamped) (merge : MergeState) → IsSame old new → HasMerged names first old frames merge → HasMerged names first new frames merge
