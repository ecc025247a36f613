use Rattle.std.proofs.Common.{◌≡◌, ◌++◌, length, map}
use Rattle.mt_command.specs.Devices.{bound_of}
use Rattle.mt_command.specs.Parts.{binding_view, device_view, bound_view}
use Rattle.mt_command.proofs.devices.bound_devices.Given as goal

abbrev pub invariant-loop-rest : goal.invariant-loop-rest
invariant-loop-rest l =
    map bound_view l.bound.items ++ map (bound_of (map binding_view l.bindings)) (map device_view l.rest)
    ≡ map (bound_of (map binding_view l.bindings)) (map device_view l.devices)

abbrev pub decreases-loop-rest : goal.decreases-loop-rest
decreases-loop-rest l = length l.rest
