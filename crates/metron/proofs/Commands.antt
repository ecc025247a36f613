-- The files of a command, read one after the other.
use Rattle.std.proofs.Common.{◌≡◌, ◌≢◌, inl, inr, ◌≤◌, ℕ, List, [], length, refl, sym, subst, arith}
use Rattle.std.proofs.lemmas.Bool.{cases_lt}
use Rattle.mt_io.specs.Files.{IsSame, IsSameBut, NeverFell}
use Rattle.mt_elements.specs.ChainState.{ChainState}
use Rattle.mt_elements.specs.Accepted.{IsAccepted}
use Rattle.mt_command.specs.Parts.{RunView, BindingView, BoundView}
use Rattle.mt_command.specs.Command.{IsCommand}
use Rattle.mt_command.specs.Devices.{AreBound}
use Rattle.mt_command.specs.Apart.{AreApart, AreBoundApart}
use Rattle.metron.specs.Outcome.{Account}
use Rattle.metron.specs.Inputs.{IsChainRead, IsScriptRead, ScriptFault, devices_of, inputs_of}
use Rattle.metron.specs.Causes.{Call, State, IsAtChain, IsAtScript, IsAtCaptures, BindCause, IsRefusal, IsRunOf, IsRun}
use Rattle.metron.specs.Causes.IsRefusal.{not_bound, script_refused}
use Rattle.metron.specs.Causes.IsRun.{ran}
use Rattle.metron.specs.declared.outcome.Fault.{Fault}
use Rattle.metron.proofs.Files.{not_chain, not_script, few_bound, length-devices}
use Rattle.metron.proofs.Stages.{AreSame, script_between, widened}

-- one file was read
pub record HasRead (name : List ℕ) (old new : State) : Type 0 where
  pub other_files : IsSameBut name old.held new.held
  pub written : IsSame old.written new.written
  pub read_faults : NeverFell old.failed_reads new.failed_reads
  pub write_faults : NeverFell old.failed_writes new.failed_writes

le_refl : (n : ℕ) → n ≤ n
le_refl n = omega arith

module _ (command : RunView) (chain : ChainState) (s0 s1 s2 : State) (apart : AreApart command) (first : HasRead command.chain s0 s1) (chain_is : IsChainRead (s0.held command.chain) chain) where
  at_chain : (call : Call) → IsCommand call.policies call.words command → IsAtChain call s0.held command chain
  at_chain call is = record { words_are = is; chain_is = chain_is }

  script_held : s1.held command.script ≡ s0.held command.script
  script_held = first.other_files command.script (λ same. apart.differ 0 1 [] (omega arith) (omega arith) (sym same))

  -- its devices do not have their files
  pub binds_not : (fault : Fault) → BindCause command.bindings (devices_of chain) fault → (call : Call) → IsCommand call.policies call.words command → IsRefusal call s0 s1 fault
  binds_not fault why call is = not_bound command chain (at_chain call is) why

  module _ (bound : List BoundView) (are : AreBound command.bindings (devices_of chain) bound) where
    at_script : (call : Call) → IsCommand call.policies call.words command → IsAtScript call s0.held command chain bound
    at_script call is = record { before = at_chain call is; are_bound = are }

    -- the script is refused
    pub script_not : HasRead command.script s1 s2 → (fault : Fault) → ScriptFault (s1.held command.script) (s1.failed_reads command.script) (s2.failed_reads command.script) fault
        → (call : Call) → IsCommand call.policies call.words command → IsRefusal call s0 s2 fault
    script_not second fault why call is =
        script_refused command chain bound (at_script call is)
        (script_between (s0.held command.script) (s1.held command.script) (s0.failed_reads command.script) (s1.failed_reads command.script) (s2.failed_reads command.script) (s2.failed_reads command.script) fault
        script_held (first.read_faults command.script) (le_refl (s2.failed_reads command.script)) why)

    -- all is read but the captures
    pub prepared : IsScriptRead (s1.held command.script) → (call : Call) → IsCommand call.policies call.words command → IsAtCaptures call s0.held command chain bound
    prepared idle call is = record { before = at_script call is; script = subst IsScriptRead script_held idle }

-- ---- the run of a command

-- the chain's file and the script's were read, and no other
abbrev pub IsReadOf : RunView → State → State → Type 0
IsReadOf command old new = (other : List ℕ) → other ≢ command.chain → other ≢ command.script → new.held other ≡ old.held other

module _ (command : RunView) (chain : ChainState) (bound : List BoundView) (are : AreBound command.bindings (devices_of chain) bound) (apart : AreBoundApart command bound)
    (s0 s1 s2 : State) (account : Account) (fault : Fault) where
  held_same : IsReadOf command s0 s1 → AreSame (inputs_of chain bound) s0.held s1.held
  held_same read k name at = read name (not_chain chain command.bindings bound are command apart k name at) (not_script chain command.bindings bound are command apart k name at)

  pub ran_so : IsReadOf command s0 s1 → IsSame s0.written s1.written → NeverFell s0.failed_reads s1.failed_reads → NeverFell s0.failed_writes s1.failed_writes
      → IsRunOf chain bound s1 s2 account fault → (call : Call) → IsAtCaptures call s0.held command chain bound → IsRun call s0 s2 account fault
  ran_so read written reads writes run call stands =
      ran command chain bound stands
      (widened chain bound s0 s1 s2 s2 account fault (held_same read) (λ name. refl) written (λ name. refl) reads (λ name. le_refl (s2.failed_reads name)) writes (λ name. le_refl (s2.failed_writes name)) run)

-- ---- chains

-- there are at most 32 devices
pub few_devices : (chain : ChainState) (bindings : List BindingView) (bound : List BoundView) → IsAccepted chain → AreBound bindings (devices_of chain) bound → length bound ≤ 32
few_devices chain bindings bound accepted are = let same = few_bound chain bindings bound are in elim (cases_lt 32 (length chain.devices)) [
  | inl many ↦ absurd (accepted.devices (inr many))
  | inr few ↦ omega (arith, same, few)
]

-- a list of them is short
pub few_views : (chain : ChainState) → IsAccepted chain → length (devices_of chain) ≤ 32
few_views chain accepted = let same = length-devices chain 1 chain.devices in elim (cases_lt 32 (length chain.devices)) [
  | inl many ↦ absurd (accepted.devices (inr many))
  | inr few ↦ omega (arith, same, few)
]
