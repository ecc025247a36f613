use Rattle.std.proofs.Common.{length, ◌≡◌, map}
use Rattle.mt_command.specs.Devices.{is_known}
use Rattle.mt_command.specs.Parts.{binding_view, device_view}
use Rattle.mt_command.proofs.devices.is_known.Given as goal

abbrev pub invariant-loop-rest : goal.invariant-loop-rest
invariant-loop-rest l = is_known (map device_view l.devices) (binding_view l.binding) ≡ is_known (map device_view l.rest) (binding_view l.binding)

abbrev pub decreases-loop-rest : goal.decreases-loop-rest
decreases-loop-rest l = length l.rest
