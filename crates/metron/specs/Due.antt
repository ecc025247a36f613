-- The answer that a run owes, by its words and by what the files hold; none where that is not told.
use Rattle.std.specs.Prelude.{◌≡◌, ◌⊎◌, ℕ, ◌+◌, nat_lt, Bool, true, false, List, [], ◌∷◌, length, position, slice_get, Option, Some, None, Result, Ok, Err, option_and_then, option_map, IfSome, ⊤}
use Rattle.mt_io.specs.Files.{Rose}
use Rattle.mt_packet.specs.declared.frame.Stamped.{Stamped}
use Rattle.mt_pcap.specs.Capture as captures
use Rattle.mt_pcap.specs.Capture.{is_header_fault}
use Rattle.mt_pcap.specs.Merge as merges
use Rattle.mt_pcap.specs.Merged.{IsWholeMerge}
use Rattle.mt_pcap.specs.Opened.{captures_in}
use Rattle.mt_pcap.specs.Merge.{merge_of}
use Rattle.mt_elements.specs.ChainState.{ChainState}
use Rattle.mt_chain.specs.declared.run.Fate.{Fate}
use Rattle.mt_script.specs.declared.command.Command.{Command}
use Rattle.mt_script.specs.declared.fault.ScriptFault.{ScriptFault}
use Rattle.mt_script.specs.Script.{commands_of}
use Rattle.mt_command.specs.Parts.{RunView, BoundView}
use Rattle.mt_command.specs.Command.{IsCommand, IsFirstAtFault}
use Rattle.mt_command.specs.Devices.{IsFirstUnfit, IsFirstUnbound, AreBound}
use Rattle.metron.specs.Inputs.{ReadsAs, text_limit, devices_of, inputs_of, outputs_of}
use Rattle.metron.specs.Serving.{Held, AllGain, HasRisen, HasInputRisen, fault_of}
use Rattle.metron.specs.Causes.{Call, State, IsAtScript, IsAtCaptures, HasRun, HasWritten, IsClassCount}
use Rattle.metron.specs.Outcome.{Account}
use Rattle.metron.specs.declared.outcome.FileId.TheVariants as file
use Rattle.metron.specs.declared.outcome.Fault.{Fault}
use Rattle.metron.specs.declared.outcome.Fault.TheVariants.{Done, UsageWord, Unbound, Unbuilt, TooLong, Click, Classes, Script, Capture, Read, Write, Memory}
use Rattle.metron.specs.declared.outcome.Fault.TheVariants as fault

-- ---- captures

-- the fault at the end of the capture of an index, as that of its device
abbrev pub end_at : List captures.Capture → ℕ → Option Fault
end_at all index = option_and_then (λ c. option_map (λ why. Capture (index + 1) why) c.end) (slice_get all index)

-- the fault of the first capture that has no header
abbrev pub header_due : List captures.Capture → Option Fault
header_due all = option_and_then (end_at all) (position (λ (c : captures.Capture). is_header_fault c.end) all)

abbrev pub or_else : Option Fault → Fault → Fault
or_else None other = other
or_else (Some fault) other = fault

-- that fault, or else how the merge ends
abbrev pub captures_due : List captures.Capture → Fault
captures_due all = or_else (header_due all) (fault_of (merge_of all).end)

-- ---- the script

abbrev pub OweAll : Held → List (List ℕ) → Fault → Type 0
OweAll held inputs fault = IfSome (captures_in held inputs) (λ all. fault ≡ captures_due all)

abbrev pub CommandsOwe : Result (List Command) ScriptFault → Held → List (List ℕ) → Fault → Type 0
CommandsOwe (Err told) held inputs fault = fault ≡ Script told
CommandsOwe (Ok []) held inputs fault = OweAll held inputs fault
CommandsOwe (Ok (command ∷ more)) held inputs fault = fault ≡ Unbuilt file.Script

-- the text is too long, or has commands
abbrev pub TextOwes : Bool → List ℕ → Held → List (List ℕ) → Fault → Type 0
TextOwes true text held inputs fault = fault ≡ TooLong file.Script
TextOwes false text held inputs fault = CommandsOwe (commands_of text) held inputs fault

abbrev pub ScriptOwes : List ℕ → Held → List (List ℕ) → Fault → Type 0
ScriptOwes text held inputs fault = TextOwes (nat_lt text_limit (length text)) text held inputs fault

-- ---- the chain and its devices

-- what a chain owes whose devices are bound, or not all are
pub record ChainOwes (chain : ChainState) (command : RunView) (held : Held) (fault : Fault) : Type 0 where
  pub unfit : (n : ℕ) → IsFirstUnfit command.bindings (devices_of chain) n → fault ≡ UsageWord n
  pub unbound : (device : ℕ) → IsFirstUnbound command.bindings (devices_of chain) device → fault ≡ Unbound device
  pub are_bound : (bound : List BoundView) → AreBound command.bindings (devices_of chain) bound → IfSome (held command.script) (λ text. ScriptOwes text held (inputs_of chain bound) fault)

-- what a text that reads so owes
abbrev pub ReadingOwes : Result ChainState Fault → RunView → Held → Fault → Type 0
ReadingOwes (Ok chain) command held fault = ChainOwes chain command held fault
ReadingOwes (Err due) command held fault = fault ≡ due

-- A text owes a fault: it has a reading, and every reading of it owes that fault.
pub record ChainTextOwes (text : List ℕ) (command : RunView) (held : Held) (fault : Fault) : Type 0 where
  pub is_read : (reading : Result ChainState Fault) × ReadsAs text reading
  pub owes : (reading : Result ChainState Fault) → ReadsAs text reading → ReadingOwes reading command held fault

-- A fault that a command owes, by what its files hold; nothing is said where that is not told.
abbrev pub IsOwed : RunView → Held → Fault → Type 0
IsOwed command held fault = IfSome (held command.chain) (λ text. ChainTextOwes text command held fault)

-- ---- what may come in its place

-- the file that a command binds to a device, as its capture or to be written
abbrev pub InputRose : Call → RunView → State → State → ℕ → Type 0
InputRose call command old new device =
    (chain : ChainState) × (bound : List BoundView) × IsAtScript call old.held command chain bound × HasInputRisen (inputs_of chain bound) device old.failed_reads new.failed_reads

abbrev pub OutputRose : Call → RunView → State → State → ℕ → Type 0
OutputRose call command old new device =
    (chain : ChainState) × (bound : List BoundView) × IsAtScript call old.held command chain bound × HasRisen (outputs_of bound) device old.failed_writes new.failed_writes

-- a file of the command failed in this call, or there was no memory
abbrev pub IsInterruption : Call → RunView → State → State → Fault → Type 0
IsInterruption call c old new (Read file.Chain) = Rose (old.failed_reads c.chain) (new.failed_reads c.chain)
IsInterruption call c old new (Read file.Script) = Rose (old.failed_reads c.script) (new.failed_reads c.script)
IsInterruption call c old new (Read (file.Capture device)) = InputRose call c old new device
IsInterruption call c old new (Write (file.Output device)) = OutputRose call c old new device
IsInterruption call c old new Memory = ⊤
IsInterruption call c old new fault = ⊥

-- The answer is the one that is due, unless a file of the command failed or there was no memory.
pub record IsExact (call : Call) (old new : State) (fault : Fault) : Type 0 where
  pub usage : (n : ℕ) → IsFirstAtFault call.policies call.words n → (fault ≡ UsageWord n) ⊎ (fault ≡ Memory)
  pub command : (c : RunView) → IsCommand call.policies call.words c → IsOwed c old.held fault ⊎ IsInterruption call c old new fault

-- Where no file failed, the answer is the one that is due, or there was no memory.
pub record IsComplete (call : Call) (held : Held) (fault : Fault) : Type 0 where
  pub usage : (n : ℕ) → IsFirstAtFault call.policies call.words n → (fault ≡ UsageWord n) ⊎ (fault ≡ Memory)
  pub command : (c : RunView) → IsCommand call.policies call.words c → IsOwed c held fault ⊎ (fault ≡ Memory)

-- no count of a file rose
pub record NoneFailed (old new : State) : Type 0 where
  pub reads : (name : List ℕ) → ¬ Rose (old.failed_reads name) (new.failed_reads name)
  pub writes : (name : List ℕ) → ¬ Rose (old.failed_writes name) (new.failed_writes name)

-- ---- what is written

-- What was written is, device by device and in order, what the chain, run element by element with the ports that
-- were picked, emits for all frames of the captures, in an order that keeps the order of each flow.
pub record IsFinished (call : Call) (old new : State) (account : Account) : Type 0 where
  pub command : RunView
  pub chain : ChainState
  pub bound : List BoundView
  pub stands : IsAtCaptures call old.held command chain bound
  pub frames : List Stamped
  pub merged : IsWholeMerge (inputs_of chain bound) old.held frames merges.Done
  pub fates : List Fate
  pub run : HasRun chain frames account fates
  pub classes : IsClassCount chain account.classes
  pub wrote : HasWritten AllGain bound old new fates

-- faults that are met before anything is written
abbrev pub IsEarly : Fault → Type 0
IsEarly (UsageWord word) = ⊤
IsEarly (Unbound device) = ⊤
IsEarly (Unbuilt file) = ⊤
IsEarly (TooLong file) = ⊤
IsEarly (Click told) = ⊤
IsEarly (fault.Chain told) = ⊤
IsEarly (Classes count) = ⊤
IsEarly (Script told) = ⊤
IsEarly (Read file.Chain) = ⊤
IsEarly (Read file.Script) = ⊤
IsEarly (Capture device why) = is_header_fault (Some why) ≡ true
IsEarly fault = ⊥
