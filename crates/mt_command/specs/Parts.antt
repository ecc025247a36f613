-- What a command says and what devices are bound to, as texts: lists of bytes.
use Rattle.std.specs.Prelude.{ℕ, Bool, List, map, Option, option_map}
use Rattle.mt_command.specs.declared.binding.Side.{Side}
use Rattle.mt_command.specs.declared.binding.Binding.{Binding}
use Rattle.mt_command.specs.declared.devices.Bound.{Bound}
use Rattle.mt_command.specs.declared.devices.Device.{Device}
use Rattle.mt_command.specs.declared.words.Run.{Run}

-- a file for one side of a device, and the number of the word that says so
pub record BindingView : Type 0 where
  pub side : Side
  pub device : List ℕ
  pub file : List ℕ
  pub word : ℕ

pub record RunView : Type 0 where
  pub chain : List ℕ
  pub script : List ℕ
  pub bindings : List BindingView
  -- the policy by which ports are taken
  pub ports : List ℕ

pub record DeviceView : Type 0 where
  pub name : List ℕ
  pub is_input : Bool
  pub is_output : Bool

-- the files of one device
pub record BoundView : Type 0 where
  pub input : Option (List ℕ)
  pub output : Option (List ℕ)

abbrev pub binding_view : Binding → BindingView
binding_view b = record { side = b.side; device = b.device.now; file = b.file.now; word = b.word }

abbrev pub run_view : Run → RunView
run_view r = record { chain = r.chain.now; script = r.script.now; bindings = map binding_view r.bindings.items; ports = r.ports.now }

abbrev pub device_view : Device → DeviceView
device_view d = record { name = d.name.now; is_input = d.is_input; is_output = d.is_output }

abbrev pub bound_view : Bound → BoundView
bound_view b = record { input = option_map (λ f. f.now) b.input; output = option_map (λ f. f.now) b.output }
