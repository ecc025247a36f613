use Rattle.std.proofs.Common.{◌≡◌, ◌≤◌, length}
use Rattle.mt_elements.specs.Described.{scope_length}
use Rattle.mt_elements.proofs.describing.scope_length.Given as goal

abbrev pub invariant-loop-rest : goal.invariant-loop-rest
invariant-loop-rest l = record {
  same : scope_length l.rest ≡ scope_length l.name;
  within : length l.rest ≤ length l.name;
}

abbrev pub decreases-loop-rest : goal.decreases-loop-rest
decreases-loop-rest l = length l.rest
