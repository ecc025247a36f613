use Rattle.std.proofs.Common.{map}
use Rattle.mt_lists.proofs.Positions.{NoneBefore}
use Rattle.mt_command.specs.Devices.{is_unbound}
use Rattle.mt_command.specs.Parts.{binding_view, device_view}
use Rattle.mt_command.proofs.devices.first_unbound.Given as goal

abbrev pub invariant-loop-at : goal.invariant-loop-at
invariant-loop-at l = NoneBefore (is_unbound (map binding_view l.bindings)) (map device_view l.devices) l.at
