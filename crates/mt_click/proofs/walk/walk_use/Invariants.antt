use Rattle.std.proofs.Common.{◌≡◌}
use Rattle.mt_click.specs.Stacks.{bodies, state}
use Rattle.mt_click.specs.Elements.{top}
use Rattle.mt_click.specs.Walk.{enter, entering}
use Rattle.mt_click.specs.Runs.{run_all, cost_all}
use Rattle.mt_click.proofs.walk.walk_use.Given as goal

abbrev pub invariant-uses : goal.invariant-uses
invariant-uses l = run_all l.input l.activations.items (state l.built) ≡ entering (enter l.input.text.now (bodies l.input) l.class_count) top ((state l.initial.built), l.fn.pending)

abbrev pub decreases-uses : goal.decreases-uses
decreases-uses l = cost_all l.input l.activations.items
