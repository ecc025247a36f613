-- What serving the frames of a merge leaves.
use Rattle.std.specs.Prelude.{◌≡◌, ◌≢◌, ◌⊎◌, ◌<◌, ℕ, ◌+◌, ◌/◌, ◌^◌, List, [], ◌∷◌, ◌++◌, length, Option, Some, None, slice_get, IfSome, ⊤}
use Rattle.mt_io.specs.Files.{Rose, Gains, IsSame}
use Rattle.mt_io.specs.Copy.{GainsFront}
use Rattle.mt_packet.specs.declared.frame.Stamped.{Stamped}
use Rattle.mt_pcap.specs.declared.fault.PcapFault.{PcapFault}
use Rattle.mt_pcap.specs.declared.fault.PcapFault.TheVariants.{ReadFault, NoMemory, BadRecord, Torn}
use Rattle.mt_pcap.specs.Merge as merges
use Rattle.mt_pcap.specs.Text.{header_text}
use Rattle.mt_pcap.specs.Merge.{MergedEnd, merge_of}
use Rattle.mt_pcap.specs.Merged.{IsWholeMerge, IsBrokenMerge}
use Rattle.mt_pcap.specs.Opened.{captures_in}
use Rattle.mt_elements.specs.ChainState.{ChainState}
use Rattle.mt_rewriter.specs.Mappings.{TablesState}
use Rattle.mt_chain.specs.Run.{run_packet}
use Rattle.mt_chain.specs.Sequence.{run_all}
use Rattle.mt_chain.specs.declared.run.Fate.{Fate}
use Rattle.mt_chain.specs.declared.run.Fate.TheVariants.{Sent, Dropped}
use Rattle.mt_chain.specs.Fates.{packet_of, packets_of, fate_text, sent_text}
use Rattle.mt_chain.specs.Order.{numbers}
use Rattle.metron.specs.Outcome.{Account}
use Rattle.metron.specs.Written.{writes_all, writes_for}
use Rattle.metron.specs.declared.outcome.FileId.TheVariants as file
use Rattle.metron.specs.declared.outcome.Fault.{Fault}
use Rattle.metron.specs.declared.outcome.Fault.TheVariants.{Done, Capture as CaptureTold, Frames, Read, Write, Memory}

-- bytes, where they are told, by the name of a file
abbrev pub Held : Type 0
Held = List ℕ → Option (List ℕ)

-- ---- outputs

-- The file of each device on which frames are sent, by the device's index, one less than its number.
abbrev pub Outputs : Type 0
Outputs = List (Option (List ℕ))

abbrev pub IsFile : Outputs → ℕ → List ℕ → Type 0
IsFile outputs index name = slice_get outputs index ≡ Some (Some name)

-- no two of the files are one
abbrev pub AreFilesApart : Outputs → Type 0
AreFilesApart outputs = (j k : ℕ) (name : List ℕ) → IsFile outputs j name → IsFile outputs k name → j ≡ k

-- each file gained the text of its device
abbrev pub AllGain : Outputs → Held → Held → (ℕ → List ℕ) → Type 0
AllGain outputs old new text = (index : ℕ) (name : List ℕ) → IsFile outputs index name → Gains (old name) (text (index + 1)) (new name)

-- each gained some front of it
abbrev pub AllGainFront : Outputs → Held → Held → (ℕ → List ℕ) → Type 0
AllGainFront outputs old new text = (index : ℕ) (name : List ℕ) → IsFile outputs index name → GainsFront (old name) (text (index + 1)) (new name)

-- nothing was written to any other file
abbrev pub IsSameElsewhere : Outputs → Held → Held → Type 0
IsSameElsewhere outputs old new = (other : List ℕ) → ((index : ℕ) (name : List ℕ) → IsFile outputs index name → other ≢ name) → new other ≡ old other

-- the device has a file of which the count rose
pub record HasRisen (outputs : Outputs) (device : ℕ) (old new : List ℕ → ℕ) : Type 0 where
  pub index : ℕ
  pub name : List ℕ
  pub device_is : device ≡ index + 1
  pub file_is : IsFile outputs index name
  pub rose : Rose (old name) (new name)

-- why not all was written; the functions are the failed writes before and after
abbrev pub OutputFault : Outputs → (List ℕ → ℕ) → (List ℕ → ℕ) → Fault → Type 0
OutputFault outputs old new (Write (file.Output device)) = HasRisen outputs device old new
OutputFault outputs old new Memory = ⊤
OutputFault outputs old new fault = ⊥

-- ---- one output that begins

-- the file, if there is one, gained a capture's header
abbrev pub Begins : Option (List ℕ) → Held → Held → Type 0
Begins None old new = IsSame old new
Begins (Some name) old new = Gains (old name) header_text (new name)

-- or a front of it
abbrev pub BeginsFront : Option (List ℕ) → Held → Held → Type 0
BeginsFront None old new = IsSame old new
BeginsFront (Some name) old new = GainsFront (old name) header_text (new name)

abbrev pub BeginFault : ℕ → Option (List ℕ) → (List ℕ → ℕ) → (List ℕ → ℕ) → Fault → Type 0
BeginFault device (Some name) old new (Write (file.Output number)) = (number ≡ device) × Rose (old name) (new name)
BeginFault device output old new Memory = ⊤
BeginFault device output old new fault = ⊥

-- ---- inputs

-- the device has a capture of whose file the count rose
pub record HasInputRisen (inputs : List (List ℕ)) (device : ℕ) (old new : List ℕ → ℕ) : Type 0 where
  pub index : ℕ
  pub name : List ℕ
  pub device_is : device ≡ index + 1
  pub file_is : slice_get inputs index ≡ Some name
  pub rose : Rose (old name) (new name)

-- how a run ends whose frames were all served
abbrev pub fault_of : MergedEnd → Fault
fault_of merges.Done = Done
fault_of (merges.Fault device why) = CaptureTold device why
fault_of (merges.Frames count) = Frames count

-- a fault of a record, and not of the header, of reading or of memory
abbrev pub IsRecordFault : PcapFault → Type 0
IsRecordFault (BadRecord offset) = ⊤
IsRecordFault (Torn offset) = ⊤
IsRecordFault why = ⊥

-- captures that were opened end so
abbrev pub IsEnd : MergedEnd → Type 0
IsEnd (merges.Fault device why) = IsRecordFault why
IsEnd end = ⊤

-- the frames are the first of the merge of the captures that files of these names held, if each is told
abbrev pub AreFirst : List (List ℕ) → Held → List Stamped → Type 0
AreFirst names first frames = IfSome (captures_in first names) (λ captures. (rest : List Stamped) × ((merge_of captures).frames ≡ frames ++ rest))

-- ---- frames

-- The frames were served in their order. The chain, run element by element on their packets one after the other, with
-- the ports that were picked, gives these fates; R tells what was written of them.
pub record HasServed (R : Outputs → Held → Held → (ℕ → List ℕ) → Type 0) (chain : ChainState) (outputs : Outputs) (old new : Held) (account : Account) (frames : List Stamped) : Type 0 where
  pub fates : List Fate
  pub run : run_all chain (packets_of frames) account.picks ≡ Some fates
  pub counted : writes_all chain frames account.picks ≡ Some account.writes
  pub numbered : account.order ≡ numbers (length frames)
  pub written : R outputs old new (λ device. sent_text device fates)

-- The frames of a merge of the captures that files of these names held at first, and hold now, were served until this fault.
pub data IsServing (chain : ChainState) (inputs : List (List ℕ)) (outputs : Outputs) (first held old new : Held) (reads reads' writes writes' : List ℕ → ℕ) (account : Account) (fault : Fault) : Type 0 where
  all_served :
      (frames : List Stamped) (end : MergedEnd) → IsWholeMerge inputs first frames end → IsEnd end → fault ≡ fault_of end
      → HasServed AllGain chain outputs old new account frames → IsServing chain inputs outputs first held old new reads reads' writes writes' account fault
  input_failed :
      (frames : List Stamped) (device : ℕ) → IsBrokenMerge inputs first held frames device → fault ≡ Read (file.Capture device) → HasInputRisen inputs device reads reads'
      → HasServed AllGain chain outputs old new account frames → IsServing chain inputs outputs first held old new reads reads' writes writes' account fault
  broken_off :
      (frames : List Stamped) → AreFirst inputs first frames → OutputFault outputs writes writes' fault
      → HasServed AllGainFront chain outputs old new account frames → IsServing chain inputs outputs first held old new reads reads' writes writes' account fault

-- ---- one frame

-- what is sent can be written as a record
abbrev pub IsWritable : Fate → Type 0
IsWritable (Sent device frame) = (frame.stamp / 1000000000 < 2 ^ 32) × (length frame.frame < 2 ^ 32)
IsWritable (Dropped why) = ⊤

-- an account of one frame more
abbrev pub with_frame : Account → ℕ → List ℕ → ℕ → Account
with_frame account number picked count = record account { order = account.order ++ number ∷ []; picks = account.picks ++ picked; writes = account.writes + count }

-- A frame ran: with the ports that were picked for it, and whatever picks follow, it has this fate and leaves these
-- tables; so many fields were written.
pub record HasRunOne (chain : ChainState) (tables tables' : TablesState) (frame : Stamped) (fate : Fate) (picked : List ℕ) (count : ℕ) : Type 0 where
  pub run : (more : List ℕ) → run_packet chain tables (packet_of frame) (picked ++ more) ≡ Some (record { fate = fate; tables = tables'; picks = more })
  pub counted : (more : List ℕ) → writes_for chain tables frame (picked ++ more) ≡ Some count

-- One frame was served: it ran, the account tells of it, and R tells what was written of it.
pub record HasServedOne (R : Outputs → Held → Held → (ℕ → List ℕ) → Type 0) (chain : ChainState) (outputs : Outputs) (tables tables' : TablesState) (frame : Stamped) (old new : Held) (account account' : Account) : Type 0 where
  pub fate : Fate
  pub picked : List ℕ
  pub count : ℕ
  pub run : HasRunOne chain tables tables' frame fate picked count
  pub told : account' ≡ with_frame account frame.number picked count
  pub written : R outputs old new (λ device. fate_text device fate)

-- it was not served
pub record IsUnserved (old new : Held) (account account' : Account) : Type 0 where
  pub told : account' ≡ account
  pub written : IsSame old new

-- or it was, and a front of what it sends was written
abbrev pub HasNotServedOne : ChainState → Outputs → TablesState → Stamped → Held → Held → Account → Account → Type 0
HasNotServedOne chain outputs tables frame old new account account' =
    IsUnserved old new account account' ⊎ ((tables' : TablesState) × HasServedOne AllGainFront chain outputs tables tables' frame old new account account')

-- what a fault of a merge makes of a run
abbrev pub MergeCause : ℕ → PcapFault → Fault → Type 0
MergeCause device ReadFault fault = fault ≡ Read (file.Capture device)
MergeCause device NoMemory fault = fault ≡ Memory
MergeCause device why fault = fault ≡ CaptureTold device why
