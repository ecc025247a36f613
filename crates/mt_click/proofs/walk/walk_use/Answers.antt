use Rattle.std.proofs.Common.{◌≡◌, length, sym, ap, ◌∙◌}
use Rattle.std.proofs.Common.{arith}
use Rattle.std.proofs.lemmas.Grind.{common_steps}
use Rattle.mt_click.specs.Stacks.{state}
use Rattle.mt_click.specs.Runs.{used}
use Rattle.mt_click.proofs.UseWalk.{run_first, run_nothing}
use Rattle.mt_click.proofs.walk.walk_use.Goals as goal

pub uses-init : goal.uses-init
uses-init c =
    c.in_ok-push_use.ensures.run (state c.args.built.now) ∙ ap (λ fs. used c.args.input.now c.args.class_count fs c.args.pending (state c.args.built.now)) c.new-activations.ensures.items ∙ run_first c.args.input.now c.args.class_count c.args.pending (state c.args.built.now)

pub returns : goal.returns
returns c =
    let none : length c.uses.activations.items ≡ 0 = grind (arith, common_steps) in
    sym c.uses.invariant ∙ run_nothing c.args.input.now c.uses.activations.items (state c.uses.built) none
