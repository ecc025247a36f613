-- A run through buffers, which has all written at its end.
use Rattle.std.specs.Prelude.{◌≡◌, ◌⊎◌, ℕ, ◌+◌, List, [], Some, ⊤}
use Rattle.mt_io.specs.Files.{IsSame, NeverFell}
use Rattle.mt_io.specs.Buffers.{HasPending}
use Rattle.mt_elements.specs.ChainState.{ChainState}
use Rattle.mt_command.specs.Parts.{RunView, BoundView}
use Rattle.mt_command.specs.Command.{IsCommand}
use Rattle.metron.specs.Inputs.{Told, outputs_of}
use Rattle.metron.specs.Serving.{Held, Outputs, IsFile}
use Rattle.metron.specs.Causes.{Call, State, IsAtScript, IsRun}
use Rattle.metron.specs.Outcome.{Account}
use Rattle.metron.specs.Due.{OutputRose}
use Rattle.metron.specs.declared.outcome.FileId.TheVariants as file
use Rattle.metron.specs.declared.outcome.Fault.{Fault}
use Rattle.metron.specs.declared.outcome.Fault.TheVariants.{Write, Memory}

-- the files of the command's devices, or none where the run did not come so far
abbrev pub AreOutputs : Call → Held → RunView → Outputs → Type 0
AreOutputs call held command outputs =
    (outputs ≡ []) ⊎ ((chain : ChainState) × (bound : List BoundView) × IsAtScript call held command chain bound × (outputs ≡ outputs_of bound))

-- why bytes were still pending at the end: the writes of an output failed. Want of memory is free.
abbrev pub FinishFault : Call → State → State → RunView → Fault → Type 0
FinishFault call old new c (Write (file.Output device)) = OutputRose call c old new device
FinishFault call old new c Memory = ⊤
FinishFault call old new c fault = ⊥

-- the file of which bytes are pending is that of a device, or it is not known
abbrev pub UnwrittenCause : Outputs → Told → Fault → Type 0
UnwrittenCause outputs unwritten (Write (file.Output device)) = (index : ℕ) × (name : List ℕ) × (device ≡ index + 1) × IsFile outputs index name × (unwritten ≡ Some name)
UnwrittenCause outputs unwritten Memory = ⊤
UnwrittenCause outputs unwritten fault = ⊥

-- since a state was told, no count fell
pub record NoneFell (told new : State) : Type 0 where
  pub reads : NeverFell told.failed_reads new.failed_reads
  pub writes : NeverFell told.failed_writes new.failed_writes

-- A run over buffers that told this state at its end. Then all that it told as written was written, or some bytes are
-- pending: it told more as written than was. What it told as held is behind what buffers have read ahead.
pub data IsServed (call : Call) (old new : State) (account : Account) (fault : Fault) : Type 0 where
  all_written :
      (told : State) → IsRun call old told account fault → IsSame told.written new.written → NoneFell told new
      → IsServed call old new account fault
  some_pending :
      (command : RunView) (told : State) (ran : Fault) → IsCommand call.policies call.words command
      → IsRun call old told account ran → HasPending told.written new.written → NoneFell told new
      → FinishFault call old new command fault → IsServed call old new account fault
