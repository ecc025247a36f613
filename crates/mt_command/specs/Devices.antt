-- Files for the devices of a chain. Devices are numbered from 1. A device on which frames arrive has an input,
-- and one on which frames are sent an output; each wants one binding.
use Rattle.std.specs.Prelude.{◌≡◌, ℕ, ◌+◌, ◌<◌, ⊤, Bool, true, false, ◌&&◌, ◌||◌, not, if◌then◌else◌, List, length, map, take, find, position, slice_get, Option, Some, None, option_map}
use Rattle.std.specs.List.{list_any}
use Rattle.std.specs.Str.{bytes_eq}
use Rattle.mt_command.specs.declared.binding.Side.{Side}
use Rattle.mt_command.specs.declared.binding.Side.TheVariants.{In, Out}
use Rattle.mt_command.specs.declared.devices.BindFault.{BindFault}
use Rattle.mt_command.specs.declared.devices.BindFault.TheVariants.{Word, Unbound, NoMemory}
use Rattle.mt_command.specs.Parts.{BindingView, DeviceView, BoundView}

abbrev pub has_side : Side → DeviceView → Bool
has_side In device = device.is_input
has_side Out device = device.is_output

abbrev pub is_side : Side → Side → Bool
is_side In In = true
is_side In Out = false
is_side Out In = false
is_side Out Out = true

-- a binding of a side of the device of a name
abbrev pub is_of : Side → List ℕ → BindingView → Bool
is_of side name b = is_side side b.side && bytes_eq name b.device

-- ---- bindings at fault

-- some device has the name and the side
abbrev pub is_known : List DeviceView → BindingView → Bool
is_known devices b = list_any (λ device. bytes_eq device.name b.device && has_side b.side device) devices

-- a binding behind others is at fault: it is of no device and side, or of those of an earlier one
unfoldable pub is_unfit : List DeviceView → List BindingView → BindingView → Bool
is_unfit devices earlier b = not (is_known devices b) || list_any (is_of b.side b.device) earlier

-- none of the first so many bindings is at fault
abbrev pub AreFit : List DeviceView → List BindingView → ℕ → Type 0
AreFit devices bindings n =
    (k : ℕ) (b : BindingView) → k < n → slice_get bindings k ≡ Some b → is_unfit devices (take k bindings) b ≡ false

-- the word of the first binding at fault
pub record IsFirstUnfit (bindings : List BindingView) (devices : List DeviceView) (n : ℕ) : Type 0 where
  pub place : ℕ
  pub binding : BindingView
  pub stands : slice_get bindings place ≡ Some binding
  pub unfit : is_unfit devices (take place bindings) binding ≡ true
  pub first : AreFit devices bindings place
  pub number : binding.word ≡ n

-- ---- devices without a binding

abbrev pub lacks : List BindingView → Side → DeviceView → Bool
lacks bindings side device = has_side side device && not (list_any (is_of side device.name) bindings)

unfoldable pub is_unbound : List BindingView → DeviceView → Bool
is_unbound bindings device = lacks bindings In device || lacks bindings Out device

-- no binding is at fault, and this is the lowest device that has a side without one
pub record IsFirstUnbound (bindings : List BindingView) (devices : List DeviceView) (number : ℕ) : Type 0 where
  pub fit : AreFit devices bindings (length bindings)
  pub place : ℕ
  pub lowest : position (is_unbound bindings) devices ≡ Some place
  pub counted : number ≡ place + 1

-- what a fault tells
abbrev pub IsBindFault : List BindingView → List DeviceView → BindFault → Type 0
IsBindFault bindings devices (Word n) = IsFirstUnfit bindings devices n
IsBindFault bindings devices (Unbound number) = IsFirstUnbound bindings devices number
IsBindFault bindings devices NoMemory = ⊤

-- ---- bound devices

-- the file for a side that the device has
unfoldable pub file_for : List BindingView → Side → DeviceView → Option (List ℕ)
file_for bindings side device =
    if has_side side device then option_map (λ b. b.file) (find (is_of side device.name) bindings) else None

abbrev pub bound_of : List BindingView → DeviceView → BoundView
bound_of bindings device = record { input = file_for bindings In device; output = file_for bindings Out device }

-- each side of each device has its one file
pub record AreBound (bindings : List BindingView) (devices : List DeviceView) (bound : List BoundView) : Type 0 where
  pub fit : AreFit devices bindings (length bindings)
  pub none_left : position (is_unbound bindings) devices ≡ None
  pub files : bound ≡ map (bound_of bindings) devices
