use Rattle.std.proofs.Common.{◌≡◌, ◌≤◌, ◌+◌, ◌++◌, length}
use Rattle.mt_click.specs.Scopes.{outside}
use Rattle.mt_click.specs.Names.{ports_from}
use Rattle.mt_click.proofs.names.ports_of.Given as goal

abbrev pub invariant-loop-rest : goal.invariant-loop-rest
invariant-loop-rest l = record {
  ports : l.entries.items ++ ports_from l.text l.scope l.rest ≡ ports_from l.text outside l.phrases;
  bound : l.scope.class_count + length l.rest ≤ length l.phrases;
}

abbrev pub decreases-loop-rest : goal.decreases-loop-rest
decreases-loop-rest l = length l.rest
