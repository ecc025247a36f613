use Rattle.std.proofs.Common.{◌≡◌, ◌<◌, ◌≤◌, ◌+◌, ℕ, List, length, get_or, sym, ap, ◌∙◌, arith}
use Rattle.std.proofs.lemmas.List.{get_or_default, get_or_read}
use Rattle.mt_reach.specs.Reach.{targets_of}
use Rattle.mt_reach.proofs.Searches.{follows, step_old, step_new, all_followed, target_within}
use Rattle.mt_reach.proofs.follow.Goals as goal
use Rattle.mt_reach.proofs.follow.Goals.{then-index-mark+in_ok-push, else-index-mark}

pub loop-target-init : goal.loop-target-init
loop-target-init c =
    follows c.args.graph.now c.args.mark c.args.at c.index-node.result.now c.args.seen.now.items c.args.order.now.items c.requires.search (sym (get_or_read c.args.order.now.items c.args.at c.index-node.result.now c.requires.at c.index-node.ensures 0)) c.requires.at

pub index-requires : goal.index-requires
index-requires c =
    let lt = target_within c.args.graph.now c.index-node.result.now c.loop-target.target-index (length c.args.seen.now.items) c.targets_at-target-items.result.now c.targets_at-target-items.ensures c.loop-target-test.true c.requires.within in
    omega (arith, lt, c.loop-target.invariant.len)

pub index_mut-requires : goal.index_mut-requires
index_mut-requires c =
    let lt = target_within c.args.graph.now c.index-node.result.now c.loop-target.target-index (length c.args.seen.now.items) c.targets_at-target-items.result.now c.targets_at-target-items.ensures c.loop-target-test.true c.requires.within in
    omega (arith, lt, c.loop-target.invariant.len)

pub loop-target-preserved : goal.loop-target-preserved
loop-target-preserved c =
    let graph = c.args.graph.now in
    let mark = c.args.mark in
    let node = c.index-node.result.now in
    let i = c.loop-target.target-index in
    let seen = c.loop-target.seen.items in
    let order = c.loop-target.order.items in
    let read = c.targets_at-target-items.result.now in
    let e = c.targets_at-target-items.ensures in
    let te : get_or read i 0 ≡ get_or (targets_of graph node) i 0 = ap (λ (xs : List ℕ). get_or xs i 0) e in
    let less : i < length (targets_of graph node) = omega (arith, ap length e, c.loop-target-test.true) in
    let first = target_within graph node i (length c.args.seen.now.items) read e c.loop-target-test.true c.requires.within in
    let lt0 : get_or read i 0 < length seen = omega (arith, first, c.loop-target.invariant.len) in
    let lt : get_or (targets_of graph node) i 0 < length seen = omega (arith, lt0, te) in
    let d = c.index.result.now in
    let was = c.index.ensures ∙ ap (λ (x : ℕ). get_or seen x d) te in
    elim c.if-index-mark.branch [
      | then-index-mark+in_ok-push w ↦
          rw (w.seen-is, w.order-is, w.in_ok-push.ensures.items, te) (step_new graph mark c.args.at node i d seen order c.args.seen.now.items c.args.order.now.items less lt (λ h. w.if-index-mark.true (was ∙ h)) c.loop-target.invariant)
      | else-index-mark w ↦
          let m = get_or_default seen (get_or (targets_of graph node) i 0) (mark + 1) d lt ∙ sym was ∙ w.if-index-mark.false in
          rw (w.seen-is, w.order-is) (step_old graph mark c.args.at node i seen order c.args.seen.now.items c.args.order.now.items m c.loop-target.invariant)
    ]

pub returns-clause-search : goal.returns-clause-search
returns-clause-search c =
    let le : length (targets_of c.args.graph.now c.index-node.result.now) ≤ c.loop-target.target-index = omega (arith, ap length c.targets_at-target-items.ensures, c.loop-target-test.false) in
    all_followed c.args.graph.now c.args.mark c.args.at c.index-node.result.now c.loop-target.target-index c.loop-target.seen.items c.loop-target.order.items c.args.seen.now.items c.args.order.now.items le c.loop-target.invariant
