use Rattle.std.proofs.Common.{map}
use Rattle.mt_command.specs.Devices.{AreFit}
use Rattle.mt_command.specs.Parts.{binding_view, device_view}
use Rattle.mt_command.proofs.devices.first_unfit.Given as goal

abbrev pub invariant-loop-at : goal.invariant-loop-at
invariant-loop-at l = AreFit (map device_view l.devices) (map binding_view l.bindings) l.at
