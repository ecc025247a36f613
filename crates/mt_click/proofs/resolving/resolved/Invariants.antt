use Rattle.std.proofs.Common.{◌≡◌, ◌≤◌, ◌+◌, ◌++◌, [], None, length}
use Rattle.mt_click.specs.Scopes.{outside}
use Rattle.mt_click.specs.Tables.{names}
use Rattle.mt_click.specs.Actions.{actions_from}
use Rattle.mt_click.proofs.resolving.resolved.Given as goal

abbrev pub invariant-loop-rest : goal.invariant-loop-rest
invariant-loop-rest l = record {
  actions : l.out.items ++ actions_from (names l.symbols) l.scope l.waiting.items l.before l.rest ≡ actions_from (names l.symbols) outside [] None l.phrases;
  bound : l.scope.class_count + length l.rest ≤ length l.phrases;
}

abbrev pub decreases-loop-rest : goal.decreases-loop-rest
decreases-loop-rest l = length l.rest
