-- Words, bindings and texts of chains have no two answers.
use Rattle.std.specs.Prelude.{◌≡◌, ℕ, List, Result}
use Rattle.mt_elements.specs.ChainState.{ChainState}
use Rattle.mt_command.specs.Parts.{RunView, BindingView, DeviceView, BoundView}
use Rattle.mt_command.specs.Command.{IsCommand, IsFirstAtFault}
use Rattle.mt_command.specs.Devices.{IsFirstUnfit, IsFirstUnbound, AreBound}
use Rattle.metron.specs.Causes.{Call, IsClassCount}
use Rattle.metron.specs.Inputs.{ReadsAs}
use Rattle.metron.specs.declared.outcome.Fault.{Fault}

-- Words give one command or are first at fault at one word; bindings give each device its files, or one is the first at
-- fault, or a device the lowest without a file; a chain has one number of classes; a text has no two readings.
pub record OneAnswer : Type 0 where
  pub first : (call : Call) (n m : ℕ) → IsFirstAtFault call.policies call.words n → IsFirstAtFault call.policies call.words m → n ≡ m
  pub command : (call : Call) (c d : RunView) → IsCommand call.policies call.words c → IsCommand call.policies call.words d → c ≡ d
  pub not_both : (call : Call) (n : ℕ) (c : RunView) → IsFirstAtFault call.policies call.words n → IsCommand call.policies call.words c → ⊥
  pub unfit : (bindings : List BindingView) (devices : List DeviceView) (n m : ℕ) → IsFirstUnfit bindings devices n → IsFirstUnfit bindings devices m → n ≡ m
  pub unbound : (bindings : List BindingView) (devices : List DeviceView) (n m : ℕ) → IsFirstUnbound bindings devices n → IsFirstUnbound bindings devices m → n ≡ m
  pub bound : (bindings : List BindingView) (devices : List DeviceView) (b c : List BoundView) → AreBound bindings devices b → AreBound bindings devices c → b ≡ c
  pub not_unfit : (bindings : List BindingView) (devices : List DeviceView) (n : ℕ) (b : List BoundView) → IsFirstUnfit bindings devices n → AreBound bindings devices b → ⊥
  pub not_unbound : (bindings : List BindingView) (devices : List DeviceView) (n : ℕ) (b : List BoundView) → IsFirstUnbound bindings devices n → AreBound bindings devices b → ⊥
  pub not_unfit_unbound : (bindings : List BindingView) (devices : List DeviceView) (n m : ℕ) → IsFirstUnfit bindings devices n → IsFirstUnbound bindings devices m → ⊥
  pub classes : (chain : ChainState) (n m : ℕ) → IsClassCount chain n → IsClassCount chain m → n ≡ m
  pub reading : (text : List ℕ) (r s : Result ChainState Fault) → ReadsAs text r → ReadsAs text s → r ≡ s
