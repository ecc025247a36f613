use Rattle.std.proofs.Common.{◌≡◌, ◌≤◌, ◌+◌, false, length}
use Rattle.mt_click.specs.Stacks.{bodies, state}
use Rattle.mt_click.specs.Elements.{empty}
use Rattle.mt_click.specs.Walk.{walk_all}
use Rattle.mt_click.proofs.walk.walk_input.Given as goal

abbrev pub invariant-loop-rest : goal.invariant-loop-rest
invariant-loop-rest l = record {
  walk : walk_all l.input.text.now (bodies l.input) l.class_count l.inside l.rest (state l.built) ≡ walk_all l.input.text.now (bodies l.input) 0 false l.input.actions.now empty;
  bound : l.class_count + length l.rest ≤ length l.input.actions.now;
}

abbrev pub decreases-loop-rest : goal.decreases-loop-rest
decreases-loop-rest l = length l.rest
