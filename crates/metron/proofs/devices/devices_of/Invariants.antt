use Rattle.std.proofs.Common.{◌≡◌, ◌+◌, ◌≤◌, map, length, ◌++◌}
use Rattle.mt_command.specs.Parts.{device_view}
use Rattle.metron.specs.Inputs.{devices_from, devices_of}
use Rattle.metron.proofs.devices.devices_of.Given as goal

abbrev pub invariant-loop-rest : goal.invariant-loop-rest
invariant-loop-rest l = record {
  made : map device_view l.devices.items ++ devices_from l.chain l.number l.rest ≡ devices_of l.chain;
  room : l.number + length l.rest ≤ 33;
}

abbrev pub decreases-loop-rest : goal.decreases-loop-rest
decreases-loop-rest l = length l.rest
