use Rattle.std.proofs.Common.{◌≡◌, ◌≤◌, ◌+◌, ◌++◌, [], length}
use Rattle.mt_click.specs.Scopes.{outside}
use Rattle.mt_click.specs.Names.{names_from}
use Rattle.mt_click.proofs.names.names_of.Given as goal

abbrev pub invariant-loop-rest : goal.invariant-loop-rest
invariant-loop-rest l = record {
  names : l.entries.items ++ names_from l.classes.text.now l.classes.entries.items l.scope l.waiting.items l.rest ≡ names_from l.classes.text.now l.classes.entries.items outside [] l.phrases;
  bound : l.scope.class_count + length l.rest ≤ length l.phrases;
}

abbrev pub decreases-loop-rest : goal.decreases-loop-rest
decreases-loop-rest l = length l.rest
