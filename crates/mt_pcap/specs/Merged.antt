-- A merge that goes on: what each of its captures gives, of which bytes, and what it has given so far.
use Rattle.std.specs.Prelude.{◌≡◌, ◌≢◌, ℕ, ◌+◌, ◌-◌, List, ◌++◌, length, slice_get, slice_set, Option, Some, None, IfSome, option_map}
use Rattle.mt_packet.specs.declared.frame.Stamped.{Stamped}
use Rattle.mt_pcap.specs.declared.fault.PcapFault.{PcapFault}
use Rattle.mt_pcap.specs.declared.fault.PcapFault.TheVariants.{ReadFault}
use Rattle.mt_pcap.specs.Capture.{Capture, ended, capture_of}
use Rattle.mt_pcap.specs.Stream.{over, left_at, in_front, TakesSo, HasNoRecord}
use Rattle.mt_pcap.specs.Merge.{MergedEnd, Fault, merge_of}
use Rattle.mt_pcap.specs.MergeFacts.{of_device}
use Rattle.mt_pcap.specs.Sources.{Source, MergeState, names_of, all_left, EndsSo}
use Rattle.mt_pcap.specs.Filling.{IsReady}
use Rattle.mt_pcap.specs.Opened.{captures_in}
use Rattle.mt_pcap.specs.StreamLaws.{IsMergedSo}

-- ---- one capture

-- a record that was read, in front of what else there is
abbrev pub head_in_front : Option (ℕ × List ℕ) → Capture → Capture
head_in_front None c = c
head_in_front (Some r) c = in_front r c

-- the capture that is left where these bytes are held
abbrev pub source_left : Source → List ℕ → Capture
source_left s held = head_in_front s.head (left_at s.reader.standing held)

-- records, and then what else there is
abbrev pub all_in_front : List (ℕ × List ℕ) → Capture → Capture
all_in_front records c = record { records = records ++ c.records; end = c.end }

-- the end of its file was not found yet
abbrev pub IsUnended : Source → Type 0
IsUnended s = s.reader.standing ≢ over None

-- A capture gave these records, and went on by these bytes, whatever is behind them. Nothing is said of it from where the
-- end of its file was found.
abbrev pub HasGiven : List (ℕ × List ℕ) → Source → List ℕ → Source → Type 0
HasGiven records old bytes new = IsUnended new → IsUnended old × ((behind : List ℕ) → source_left old (bytes ++ behind) ≡ all_in_front records (source_left new behind))

-- ---- all of them

-- each capture gave its records of these frames
abbrev pub HaveGiven : List Stamped → List Source → List Source → (List ℕ → Option (List ℕ)) → (List ℕ → Option (List ℕ)) → Type 0
HaveGiven frames old new before after =
    (k : ℕ) (s t : Source) → slice_get old k ≡ Some s → slice_get new k ≡ Some t
    → TakesSo (before s.reader.name) (after s.reader.name) (λ bytes. HasGiven (of_device (k + 1) frames) s bytes t)

-- none has come to a fault
abbrev pub AreUnbroken : List Source → Type 0
AreUnbroken sources = (k : ℕ) (s : Source) (fault : PcapFault) → slice_get sources k ≡ Some s → s.reader.standing ≢ over (Some fault)

-- the next record of each other device was read, or there is none
abbrev pub AreReadyBut : ℕ → List Source → Type 0
AreReadyBut device sources = (k : ℕ) (s : Source) → slice_get sources k ≡ Some s → k + 1 ≢ device → IsReady s

-- A read of a device's file failed. What was taken of it holds no whole record, and where its capture ended there with
-- this fault, the merge ends with it.
pub record HasBroken (sources : List Source) (device : ℕ) (before after : List ℕ → Option (List ℕ)) : Type 0 where
  pub index : ℕ
  pub source : Source
  pub device_is : device ≡ index + 1
  pub there : slice_get sources index ≡ Some source
  pub no_head : source.head ≡ None
  pub unended : IsUnended source
  pub cut : TakesSo (before source.reader.name) (after source.reader.name) (HasNoRecord source.reader.standing)
  pub met : EndsSo (option_map (λ left. slice_set left index (ended (Some ReadFault))) (all_left before sources)) (Fault device ReadFault)

-- ---- from the beginning

-- frames were given of captures, with this left behind them, if they are told
abbrev pub IsGivenSo : Option (List Capture) → List Stamped → Option (List Capture) → Type 0
IsGivenSo None frames after = after ≡ None
IsGivenSo (Some captures) frames after = (left : List Capture) × (after ≡ Some left) × IsMergedSo 0 captures frames left

-- The merge has given these frames, of files of these names that held `first` before they were opened: each capture gave
-- its records of the bytes that were taken from its file, and only of the last frame's device is the next record not read.
pub record HasMerged (names : List (List ℕ)) (first held : List ℕ → Option (List ℕ)) (frames : List Stamped) (merge : MergeState) : Type 0 where
  pub named : names_of merge.sources ≡ names
  pub counted : merge.given ≡ length frames
  pub given : IsGivenSo (captures_in first names) frames (all_left held merge.sources)
  pub read : (k : ℕ) (s : Source) → slice_get merge.sources k ≡ Some s
      → TakesSo (first s.reader.name) (held s.reader.name)
      (λ bytes. IsUnended s → (behind : List ℕ) → capture_of (bytes ++ behind) ≡ all_in_front (of_device (k + 1) frames) (source_left s behind))
  pub unbroken : AreUnbroken merge.sources
  pub ready : (last : Stamped) → slice_get frames (length frames - 1) ≡ Some last → AreReadyBut last.device merge.sources

-- these frames, and then this end, are the merge of the captures that files of these names held, if each is told
abbrev pub IsWholeMerge : List (List ℕ) → (List ℕ → Option (List ℕ)) → List Stamped → MergedEnd → Type 0
IsWholeMerge names first frames end = IfSome (captures_in first names) (λ captures. merge_of captures ≡ record { frames = frames; end = end })

-- a capture of these bytes, behind which a read failed
abbrev pub broken_at : List ℕ → Capture
broken_at bytes = record { records = (capture_of bytes).records; end = Some ReadFault }

-- These frames are the merge of the captures that files of these names held, if each is told, where the capture of a
-- device is that of the bytes that were taken from its file, behind which a read failed.
pub record IsBrokenMerge (names : List (List ℕ)) (first held : List ℕ → Option (List ℕ)) (frames : List Stamped) (device : ℕ) : Type 0 where
  pub index : ℕ
  pub name : List ℕ
  pub device_is : device ≡ index + 1
  pub there : slice_get names index ≡ Some name
  pub merged : TakesSo (first name) (held name)
      (λ bytes. IfSome (captures_in first names) (λ captures. merge_of (slice_set captures index (broken_at bytes)) ≡ record { frames = frames; end = Fault device ReadFault }))
