-- A run: how far it came, why it ended, and what it wrote.
--
-- What the files hold when the call begins is told or not, file by file. Where it is not told, nothing is
-- said of it.
use Rattle.std.specs.Prelude.{◌≡◌, ◌⊎◌, ℕ, List, length, Some, ⊤}
use Rattle.mt_io.specs.Files.{IsSame}
use Rattle.mt_packet.specs.declared.frame.Stamped.{Stamped}
use Rattle.mt_pcap.specs.Merge.{MergedEnd}
use Rattle.mt_pcap.specs.Merged.{IsWholeMerge, IsBrokenMerge}
use Rattle.mt_elements.specs.ChainState.{ChainState}
use Rattle.mt_chain.specs.Sequence.{run_all}
use Rattle.mt_chain.specs.declared.run.Fate.{Fate}
use Rattle.mt_chain.specs.Fates.{packets_of, device_text}
use Rattle.mt_chain.specs.Order.{KeepsOrder, in_order, numbers}
use Rattle.mt_trees.specs.Elements.{tree_of}
use Rattle.mt_synth.specs.Classes.{AreClasses, Class}
use Rattle.mt_command.specs.Parts.{RunView, BindingView, DeviceView, BoundView}
use Rattle.mt_command.specs.Command.{IsCommand, IsFirstAtFault}
use Rattle.mt_command.specs.Devices.{IsFirstUnfit, IsFirstUnbound, AreBound}
use Rattle.metron.specs.Inputs.{IsChainRead, IsChainFault, devices_of, inputs_of, outputs_of, IsScriptRead, ScriptFault, BeginWell, CaptureFault}
use Rattle.metron.specs.Serving.{Held, Outputs, AllGain, AllGainFront, IsSameElsewhere, OutputFault, HasInputRisen, fault_of, IsEnd, AreFirst}
use Rattle.metron.specs.Outcome.{Account, nothing_served}
use Rattle.metron.specs.Written.{writes_all}
use Rattle.metron.specs.declared.outcome.FileId.TheVariants as file
use Rattle.metron.specs.declared.outcome.Fault.{Fault}
use Rattle.metron.specs.declared.outcome.Fault.TheVariants.{UsageWord, Unbound, Read, Memory}

-- ---- what is told of the files

-- what the files hold to be read, what was written to them, and how often reads and writes of them have failed
pub record State : Type 0 where
  pub held : Held
  pub written : Held
  pub failed_reads : List ℕ → ℕ
  pub failed_writes : List ℕ → ℕ

abbrev pub state_of : {S : Type 0} → (S → Held) → (S → Held) → (S → List ℕ → ℕ) → (S → List ℕ → ℕ) → S → State
state_of held written failed_reads failed_writes files = record { held = held files; written = written files; failed_reads = failed_reads files; failed_writes = failed_writes files }

-- ---- what is asked

-- the words, and the names of the policies that are known
pub record Call : Type 0 where
  pub policies : List (List ℕ)
  pub words : List (List ℕ)

abbrev pub call_of : List (List ℕ) → List (List ℕ) → Call
call_of policies words = record { policies = policies; words = words }

-- ---- how far a run came

-- the words are this command, and the chain's file has the text of this chain
pub record IsAtChain (call : Call) (held : Held) (command : RunView) (chain : ChainState) : Type 0 where
  pub words_are : IsCommand call.policies call.words command
  pub chain_is : IsChainRead (held command.chain) chain

-- besides, each device has its files
pub record IsAtScript (call : Call) (held : Held) (command : RunView) (chain : ChainState) (bound : List BoundView) : Type 0 where
  pub before : IsAtChain call held command chain
  pub are_bound : AreBound command.bindings (devices_of chain) bound

-- besides, the script has no command
pub record IsAtCaptures (call : Call) (held : Held) (command : RunView) (chain : ChainState) (bound : List BoundView) : Type 0 where
  pub before : IsAtScript call held command chain bound
  pub script : IsScriptRead (held command.script)

-- ---- runs that end before a capture is opened

-- nothing was written, and no frame was served
pub record IsUntouched (old new : State) (account : Account) : Type 0 where
  pub written : IsSame old.written new.written
  pub none_served : account ≡ nothing_served

-- why not all devices have their files
abbrev pub BindCause : List BindingView → List DeviceView → Fault → Type 0
BindCause bindings devices (UsageWord n) = IsFirstUnfit bindings devices n
BindCause bindings devices (Unbound device) = IsFirstUnbound bindings devices device
BindCause bindings devices Memory = ⊤
BindCause bindings devices fault = ⊥

-- It is looked at the words, the chain and its classes, its devices and the script, in this order.
pub data IsRefusal (call : Call) (old new : State) (fault : Fault) : Type 0 where
  no_memory : fault ≡ Memory → IsRefusal call old new fault
  no_command : (n : ℕ) → IsFirstAtFault call.policies call.words n → fault ≡ UsageWord n → IsRefusal call old new fault
  chain_refused :
      (command : RunView) → IsCommand call.policies call.words command
      → IsChainFault (old.held command.chain) (old.failed_reads command.chain) (new.failed_reads command.chain) fault
      → IsRefusal call old new fault
  not_bound :
      (command : RunView) (chain : ChainState) → IsAtChain call old.held command chain → BindCause command.bindings (devices_of chain) fault
      → IsRefusal call old new fault
  script_refused :
      (command : RunView) (chain : ChainState) (bound : List BoundView) → IsAtScript call old.held command chain bound
      → ScriptFault (old.held command.script) (old.failed_reads command.script) (new.failed_reads command.script) fault
      → IsRefusal call old new fault

-- ---- runs

-- Frames were served in an order that keeps the order of each flow, today in the order of their numbers. The chain,
-- run element by element on them in that order, with these ports picked, gives these fates. The writes are those of the
-- leaves to which the trees of their headers lead.
pub record HasRun (chain : ChainState) (frames : List Stamped) (account : Account) (fates : List Fate) : Type 0 where
  pub served : List Stamped
  pub in_order : in_order account.order frames ≡ Some served
  pub keeps : KeepsOrder frames account.order
  pub in_turn : account.order ≡ numbers (length frames)
  pub run : run_all chain (packets_of served) account.picks ≡ Some fates
  pub counted : writes_all chain served account.picks ≡ Some account.writes

-- so many classes has a chain: as many as its headers have different trees
abbrev pub IsClassCount : ChainState → ℕ → Type 0
IsClassCount chain count = (classes : List Class) × AreClasses chain.entries (tree_of chain) classes × (count ≡ length classes)

-- The file of each device gained the text of what is sent on it (R is `AllGain`), or a front of it (`AllGainFront`),
-- and no other file was written.
pub record HasWritten (R : Outputs → Held → Held → (ℕ → List ℕ) → Type 0) (bound : List BoundView) (old new : State) (fates : List Fate) : Type 0 where
  pub written : R (outputs_of bound) old.written new.written (λ device. device_text device fates)
  pub others : IsSameElsewhere (outputs_of bound) old.written new.written

-- each capture begins with a header
abbrev pub AllBegin : Held → List (List ℕ) → Type 0
AllBegin held names = BeginWell held names (length names)

-- A run through a chain whose devices have these files: the captures are opened, the outputs are begun, and then
-- frame after frame is served.
pub data IsRunOf (chain : ChainState) (bound : List BoundView) (old new : State) (account : Account) (fault : Fault) : Type 0 where
  capture_refused : CaptureFault old.held (inputs_of chain bound) old.failed_reads new.failed_reads fault → IsUntouched old new account → IsRunOf chain bound old new account fault
  ended :
      (frames : List Stamped) (fates : List Fate) (end : MergedEnd)
      → AllBegin old.held (inputs_of chain bound) → IsWholeMerge (inputs_of chain bound) old.held frames end → IsEnd end → fault ≡ fault_of end
      → HasRun chain frames account fates → IsClassCount chain account.classes → HasWritten AllGain bound old new fates
      → IsRunOf chain bound old new account fault
  input_failed :
      (frames : List Stamped) (fates : List Fate) (device : ℕ)
      → AllBegin old.held (inputs_of chain bound) → IsBrokenMerge (inputs_of chain bound) old.held new.held frames device
      → fault ≡ Read (file.Capture device) → HasInputRisen (inputs_of chain bound) device old.failed_reads new.failed_reads
      → HasRun chain frames account fates → IsClassCount chain account.classes → HasWritten AllGain bound old new fates
      → IsRunOf chain bound old new account fault
  broken_off :
      (frames : List Stamped) (fates : List Fate)
      → AllBegin old.held (inputs_of chain bound) → AreFirst (inputs_of chain bound) old.held frames
      → OutputFault (outputs_of bound) old.failed_writes new.failed_writes fault
      → HasRun chain frames account fates → (account.classes ≡ 0) ⊎ IsClassCount chain account.classes → HasWritten AllGainFront bound old new fates
      → IsRunOf chain bound old new account fault

-- A run from the old state of the files to the new one, in which frames were served as this account tells, and which
-- ended with this fault.
pub data IsRun (call : Call) (old new : State) (account : Account) (fault : Fault) : Type 0 where
  refused : IsRefusal call old new fault → IsUntouched old new account → IsRun call old new account fault
  ran :
      (command : RunView) (chain : ChainState) (bound : List BoundView) → IsAtCaptures call old.held command chain bound
      → IsRunOf chain bound old new account fault → IsRun call old new account fault
