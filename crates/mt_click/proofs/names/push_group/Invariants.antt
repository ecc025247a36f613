use Rattle.std.proofs.Common.{length, ◌≡◌, ◌++◌, map}
use Rattle.mt_click.specs.Names.{entry}
use Rattle.mt_click.proofs.names.push_group.Given as goal

abbrev pub invariant-loop-rest : goal.invariant-loop-rest
invariant-loop-rest l = l.entries.items ++ map (λ w. entry l.scope 0 w l.class) l.rest ≡ l.initial.entries.items ++ map (λ w. entry l.scope 0 w l.class) l.waiting

abbrev pub decreases-loop-rest : goal.decreases-loop-rest
decreases-loop-rest l = length l.rest
