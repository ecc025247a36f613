use Rattle.std.proofs.Common.{length, ◌≡◌, map}
use Rattle.std.specs.List.{list_any}
use Rattle.mt_command.specs.Devices.{is_of}
use Rattle.mt_command.specs.Parts.{binding_view}
use Rattle.mt_command.proofs.devices.any_of.Given as goal

abbrev pub invariant-loop-rest : goal.invariant-loop-rest
invariant-loop-rest l = list_any (is_of l.side l.name) (map binding_view l.bindings) ≡ list_any (is_of l.side l.name) (map binding_view l.rest)

abbrev pub decreases-loop-rest : goal.decreases-loop-rest
decreases-loop-rest l = length l.rest
