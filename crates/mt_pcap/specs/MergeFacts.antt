-- What holds of the frames that a merge gives, whatever the captures, and of one capture alone.
use Rattle.std.specs.Prelude.{◌≡◌, ◌<◌, ◌≤◌, ◌⊎◌, ℕ, ◌+◌, ◌==◌, List, [], ◌∷◌, ◌++◌, length, map, slice_get, Option, Some, None, All, ⊤}
use Rattle.std.specs.List.{filter}
use Rattle.mt_packet.specs.declared.frame.Stamped.{Stamped}
use Rattle.mt_pcap.specs.declared.fault.PcapFault.{PcapFault}
use Rattle.mt_pcap.specs.Capture.{Capture}
use Rattle.mt_pcap.specs.Laws.{IsWritable}
use Rattle.mt_pcap.specs.Merge.{Merge, MergedEnd, Done, Fault, Frames, most_frames, merge_of}

-- the frames are numbered from 0
abbrev pub AreNumbered : List Stamped → Type 0
AreNumbered frames = (k : ℕ) (frame : Stamped) → slice_get frames k ≡ Some frame → frame.number ≡ k

-- the frames of a device as records, in their order
abbrev pub of_device : ℕ → List Stamped → List (ℕ × List ℕ)
of_device device frames = map (λ f. (f.stamp, f.frame)) (filter (λ f. f.device == device) frames)

-- the first elements of a list, or all
pub record IsFront (front all : List (ℕ × List ℕ)) : Type 0 where
  pub rest : List (ℕ × List ℕ)
  pub parts : all ≡ front ++ rest

-- the frames of each device are the first records of its capture
abbrev pub AreFronts : List Capture → List Stamped → Type 0
AreFronts captures frames = (k : ℕ) (c : Capture) → slice_get captures k ≡ Some c → IsFront (of_device (k + 1) frames) c.records

-- the frames of each device are the records of its capture
abbrev pub AreAll : List Capture → List Stamped → Type 0
AreAll captures frames = (k : ℕ) (c : Capture) → slice_get captures k ≡ Some c → of_device (k + 1) frames ≡ c.records

-- A device's capture ends with a fault, all its records were given, and no lower device is so.
pub record IsMet (captures : List Capture) (frames : List Stamped) (device : ℕ) (fault : PcapFault) : Type 0 where
  pub index : ℕ
  pub capture : Capture
  pub device_is : device ≡ index + 1
  pub there : slice_get captures index ≡ Some capture
  pub end_is : capture.end ≡ Some fault
  pub given : of_device device frames ≡ capture.records
  pub lowest : (k : ℕ) (c : Capture) → k < index → slice_get captures k ≡ Some c → of_device (k + 1) frames ≡ c.records → c.end ≡ None

-- each element of a list stands so to all behind it
abbrev pub Ascends : {X : Type 0} → (X → X → Type 0) → List X → Type 0
Ascends R [] = ⊤
Ascends R (x ∷ xs) = All (R x) xs × Ascends R xs

-- the times of a capture's records do not fall
abbrev pub IsInOrder : Capture → Type 0
IsInOrder c = Ascends (λ r s. r.0 ≤ s.0) c.records

-- a frame is earlier than another, or of equal time and of no higher device
abbrev pub IsNoLater : Stamped → Stamped → Type 0
IsNoLater f g = (f.stamp < g.stamp) ⊎ ((f.stamp ≡ g.stamp) × (f.device ≤ g.device))

-- what holds of the merge of captures
pub record IsMergeOf (captures : List Capture) (m : Merge) : Type 0 where
  pub few : length m.frames ≤ most_frames
  pub numbers : AreNumbered m.frames
  pub devices : All (λ f. (1 ≤ f.device) × (f.device ≤ length captures)) m.frames
  pub fronts : AreFronts captures m.frames
  pub all_given : m.end ≡ Done → AreAll captures m.frames
  pub fault : (device : ℕ) (fault : PcapFault) → m.end ≡ Fault device fault → IsMet captures m.frames device fault
  pub limit : (count : ℕ) → m.end ≡ Frames count → (count ≡ most_frames + 1) × (length m.frames ≡ most_frames)
  pub ascending : All IsInOrder captures → Ascends IsNoLater m.frames
  pub writable : All (λ c. All IsWritable c.records) captures → All (λ f. IsWritable (f.stamp, f.frame)) m.frames

abbrev pub MergeIsSound : Type 0
MergeIsSound = (captures : List Capture) → IsMergeOf captures (merge_of captures)

-- records as frames of device 1, numbered from a number on
abbrev pub numbered_from : ℕ → List (ℕ × List ℕ) → List Stamped
numbered_from number [] = []
numbered_from number (r ∷ records) = record { stamp = r.0; device = 1; number = number; frame = r.1 } ∷ numbered_from (number + 1) records

abbrev pub end_of : Option PcapFault → MergedEnd
end_of None = Done
end_of (Some fault) = Fault 1 fault

-- a capture as the frames of one device
abbrev pub alone : Capture → Merge
alone c = record { frames = numbered_from 0 c.records; end = end_of c.end }

-- a capture that is merged alone gives its records, whatever their times, and ends as it ends
abbrev pub MergeOfOne : Type 0
MergeOfOne = (c : Capture) → length c.records ≤ most_frames → merge_of (c ∷ []) ≡ alone c
