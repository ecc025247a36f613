-- That what calls give one after the other, to the end, is the whole.
use Rattle.std.specs.Prelude.{◌≡◌, ◌≤◌, ℕ, ◌+◌, List, [], ◌∷◌, ◌++◌, length, take, slice_get, Option, Some}
use Rattle.mt_packet.specs.declared.frame.Stamped.{Stamped}
use Rattle.mt_pcap.specs.declared.fault.PcapFault.{PcapFault}
use Rattle.mt_pcap.specs.Capture.{Capture, ended}
use Rattle.mt_pcap.specs.Stream.{ReaderState, left_of, in_front}
use Rattle.mt_pcap.specs.Sources.{begun, AreApart, all_left}
use Rattle.mt_pcap.specs.Opened.{capture_in, captures_in, IsOpened, AreOpened}
use Rattle.mt_pcap.specs.Merge.{MergedEnd, Frames, most_frames, ends, gives, step, Taken, stamped, merge_of}

-- ---- captures that are opened

-- readers that leave what each file held leave together what all of them held
abbrev pub LeaveTogether : Type 0
LeaveTogether =
    (readers : List ReaderState) (names : List (List ℕ)) (first held : List ℕ → Option (List ℕ)) → length readers ≡ length names
    → ((k : ℕ) (reader : ReaderState) (name : List ℕ) → slice_get readers k ≡ Some reader → slice_get names k ≡ Some name → left_of reader held ≡ capture_in first name)
    → all_left held (begun readers) ≡ captures_in first names

-- before the first is opened
abbrev pub NoneOpened : Type 0
NoneOpened = (names : List (List ℕ)) (held : List ℕ → Option (List ℕ)) → AreOpened (take 0 names) held held []

-- where one more is opened, in a file of a name of its own
abbrev pub OneMoreOpened : Type 0
OneMoreOpened =
    (names : List (List ℕ)) (first old new : List ℕ → Option (List ℕ)) (readers : List ReaderState) (k : ℕ) (name : List ℕ) (reader : ReaderState) → AreApart names → slice_get names k ≡ Some name
    → AreOpened (take k names) first old readers → IsOpened name old new reader → AreOpened (take (k + 1) names) first new (readers ++ reader ∷ [])

-- ---- records that are read

-- these records are given one by one of what is left, each with something left behind it, and then this end
abbrev pub IsReadSo : Capture → List (ℕ × List ℕ) → Option PcapFault → Type 0
IsReadSo left [] end = left ≡ ended end
IsReadSo left (r ∷ records) end = (rest : Capture) × (left ≡ in_front r rest) × IsReadSo rest records end

-- then they are the records of the capture, with its end
abbrev pub ReadsToEnd : Type 0
ReadsToEnd = (capture : Capture) (records : List (ℕ × List ℕ)) (end : Option PcapFault) → IsReadSo capture records end → capture ≡ record { records = records; end = end }

-- ---- frames that are merged

-- these frames are given one by one of what is left of several captures, numbered from a number on, and then this is left
abbrev pub IsMergedSo : ℕ → List Capture → List Stamped → List Capture → Type 0
IsMergedSo number left [] after = after ≡ left
IsMergedSo number left (frame ∷ frames) after = (next : Taken) × (step left ≡ gives next) × (frame ≡ stamped number next) × IsMergedSo (number + 1) next.left frames after

-- then they are the frames of the merge, with the end that comes next
abbrev pub MergesToEnd : Type 0
MergesToEnd =
    (captures : List Capture) (frames : List Stamped) (after : List Capture) (end : MergedEnd) → length frames ≤ most_frames → IsMergedSo 0 captures frames after → step after ≡ ends end
    → merge_of captures ≡ record { frames = frames; end = end }

-- and as many as may be given are those of the merge where there would be another
abbrev pub MergesToLimit : Type 0
MergesToLimit =
    (captures : List Capture) (frames : List Stamped) (after : List Capture) (next : Taken) → length frames ≡ most_frames → IsMergedSo 0 captures frames after → step after ≡ gives next
    → merge_of captures ≡ record { frames = frames; end = Frames (most_frames + 1) }

-- what is given so far is a front of the merge
abbrev pub MergesFront : Type 0
MergesFront =
    (captures : List Capture) (frames : List Stamped) (after : List Capture) → length frames ≤ most_frames → IsMergedSo 0 captures frames after
    → (rest : List Stamped) × ((merge_of captures).frames ≡ frames ++ rest)

-- and one frame more is given so
abbrev pub MergesOneMore : Type 0
MergesOneMore =
    (number : ℕ) (left : List Capture) (frames : List Stamped) (middle : List Capture) (frame : Stamped) (next : Taken) → IsMergedSo number left frames middle → step middle ≡ gives next → frame ≡ stamped (number + length frames) next
    → IsMergedSo number left (frames ++ frame ∷ []) next.left
