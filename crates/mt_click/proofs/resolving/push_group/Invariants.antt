use Rattle.std.proofs.Common.{length, ◌≡◌, ◌++◌}
use Rattle.mt_click.specs.Tables.{names}
use Rattle.mt_click.specs.Actions.{group_actions}
use Rattle.mt_click.proofs.resolving.push_group.Given as goal

abbrev pub invariant-loop-rest : goal.invariant-loop-rest
invariant-loop-rest l = l.out.items ++ group_actions (names l.symbols) l.scope l.used l.rest ≡ l.initial.out.items ++ group_actions (names l.symbols) l.scope l.used l.waiting

abbrev pub decreases-loop-rest : goal.decreases-loop-rest
decreases-loop-rest l = length l.rest
