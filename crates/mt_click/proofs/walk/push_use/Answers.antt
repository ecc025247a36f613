use Rattle.mt_click.proofs.UseWalk.{run_use, run_no_use, cost_use, cost_no_use}
use Rattle.mt_click.proofs.walk.push_use.Goals as goal

pub returns-in_ok-push-in-Some-clause-run : goal.returns-in_ok-push-in-Some-clause-run
returns-in_ok-push-in-Some-clause-run c = λ es.
    let h = c.in_ok-activation_of-in-Some.ensures in
    rw (c.in_ok-push-in-Some.ensures.items, c.in-Some.is) (run_use c.args.input.now c.args.activations.now.items c.in_ok-activation_of-in-Some.field-0 c.args.class_count c.in-Some.pending c.if-pending-class_count.true h.at h.class_count h.number h.enclosing h.bindings es)

pub returns-in_ok-push-in-Some-clause-cost : goal.returns-in_ok-push-in-Some-clause-cost
returns-in_ok-push-in-Some-clause-cost c =
    let h = c.in_ok-activation_of-in-Some.ensures in
    rw (c.in_ok-push-in-Some.ensures.items, c.in-Some.is) (cost_use c.args.input.now c.args.activations.now.items c.in_ok-activation_of-in-Some.field-0 c.args.class_count c.in-Some.pending c.if-pending-class_count.true h.at h.class_count)

pub returns-else-pending-class_count-clause-run : goal.returns-else-pending-class_count-clause-run
returns-else-pending-class_count-clause-run c = λ es.
    rw c.in-Some.is (run_no_use c.args.input.now c.args.activations.now.items c.args.class_count c.in-Some.pending c.if-pending-class_count.false es)

pub returns-else-pending-class_count-clause-cost : goal.returns-else-pending-class_count-clause-cost
returns-else-pending-class_count-clause-cost c =
    rw c.in-Some.is (cost_no_use c.args.input.now c.args.activations.now.items c.args.class_count c.in-Some.pending c.if-pending-class_count.false)
