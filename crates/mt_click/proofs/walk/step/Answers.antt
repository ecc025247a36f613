use Rattle.std.proofs.Common.{refl, sym, ap, ◌∙◌, arith}
use Rattle.std.proofs.Common.{List}
use Rattle.mt_click.specs.declared.perform.Activation.{Activation}
use Rattle.mt_click.specs.Stacks.{state}
use Rattle.mt_click.specs.Runs.{used}
use Rattle.mt_click.proofs.UseWalk.{run_end, cost_end, step_fault, step_run, step_cost}
use Rattle.mt_click.proofs.walk.step.Goals as goal

pub returns-then-is_end-clause-run : goal.returns-then-is_end-clause-run
returns-then-is_end-clause-run c =
    rw c.in-Some.ensures.items (run_end c.args.input.now c.pop.new.self.items c.in-Some.activation (state c.args.built.now) (sym c.is_end.ensures ∙ c.if-is_end.true))

pub returns-then-is_end-clause-cost : goal.returns-then-is_end-clause-cost
returns-then-is_end-clause-cost c = rw c.in-Some.ensures.items (cost_end c.args.input.now c.pop.new.self.items c.in-Some.activation)

pub returns-in-Err-clause-run : goal.returns-in-Err-clause-run
returns-in-Err-clause-run c =
    let unended = sym c.is_end.ensures ∙ c.if-is_end.false in
    let h = rw (c.deref.ensures.value, c.in_ok-push.ensures.items) at c.in-Err.ensures in
    step_fault c.args.input.now c.pop.new.self.items c.args.activations.now.items c.in-Some.activation _ _ (state c.args.built.now) c.in-Some.ensures.items unended refl refl refl refl refl c.in-Err.fault _ h

pub returns-clause-run : goal.returns-clause-run
returns-clause-run c =
    let unended = sym c.is_end.ensures ∙ c.if-is_end.false in
    let h = rw (c.deref.ensures.value, c.in_ok-push.ensures.items) at c.in-Ok.ensures in
    let r = c.in_ok-push_use.ensures.run (state c.perform.new.built) ∙ ap (λ (fs : List Activation). used c.args.input.now c.in-Some.activation.class_count fs c.in-Ok.pending (state c.perform.new.built)) c.in_ok-push.ensures.items in
    step_run c.args.input.now c.pop.new.self.items c.args.activations.now.items c.in-Some.activation _ _ (state c.args.built.now) c.in-Some.ensures.items unended refl refl refl refl refl (state c.perform.new.built) c.in-Ok.pending h ∙ sym r

pub returns-clause-cost : goal.returns-clause-cost
returns-clause-cost c =
    let unended = sym c.is_end.ensures ∙ c.if-is_end.false in
    let h = rw (c.deref.ensures.value, c.in_ok-push.ensures.items) at c.in-Ok.ensures in
    let r = rw c.in_ok-push.ensures.items at c.in_ok-push_use.ensures.cost in
    let k = step_cost c.args.input.now c.pop.new.self.items c.args.activations.now.items c.in-Some.activation _ _ (state c.args.built.now) c.in-Some.ensures.items unended refl refl refl refl refl (state c.perform.new.built) c.in-Ok.pending h in
    omega (arith, r, k)
