use Rattle.std.proofs.Common.{◌≡◌, ap, arith, length, subst}
use Rattle.mt_kinds.specs.declared.rewriter.Pool.{Pool}
use Rattle.std.proofs.Common.{List, Bool, false, get_or}
use Rattle.std.specs.List.{list_any}
use Rattle.mt_elements.specs.declared.fault.ChainWhy.TheVariants.{PoolOverlap}
use Rattle.mt_elements.specs.Overlaps.{Overlaps, pool_numbers}
use Rattle.mt_elements.proofs.LowestTold.{told}
use Rattle.mt_elements.proofs.Looked.{got_at}
use Rattle.mt_elements.proofs.Overlapping.{Marks, overlaps_iff, one_more_kept, none_overlaps}
use Rattle.mt_elements.proofs.pools.refuse_overlaps.Goals as goal

pub returns-then-holds_marked-clause-refused : goal.returns-then-holds_marked-clause-refused
returns-then-holds_marked-clause-refused c =
    let holds = overlaps_iff c.args.layout.now c.in_ok-shared.shared.items c.loop-element.element c.index-kinds-element.result c.holds_marked.result
    (subst (λ (pools : List Pool). Marks pools c.in_ok-shared.shared.items) c.pools.ensures c.in_ok-shared.ensures)
    (got_at c.args.layout.now.kinds c.kinds.result.now c.loop-element.element c.kinds.ensures.kinds c.index-kinds-element.result
    (omega (arith, c.loop-element-test.true, ap length c.kinds-element-end.ensures.kinds, ap length c.kinds.ensures.kinds)) c.index-kinds-element.is)
    (subst (λ (marks : List Bool). c.holds_marked.result ≡ list_any (λ number. get_or marks number false) (pool_numbers c.index-kinds-element.result)) c.deref.ensures.value c.holds_marked.ensures) in
    told c.args.elements.now PoolOverlap (Overlaps c.args.layout.now) c.loop-element.element c.told_of.result (holds.0 c.if-holds_marked.true) c.loop-element.invariant c.told_of.ensures

pub loop-element-preserved : goal.loop-element-preserved
loop-element-preserved c =
    let holds = overlaps_iff c.args.layout.now c.in_ok-shared.shared.items c.loop-element.element c.index-kinds-element.result c.holds_marked.result
    (subst (λ (pools : List Pool). Marks pools c.in_ok-shared.shared.items) c.pools.ensures c.in_ok-shared.ensures)
    (got_at c.args.layout.now.kinds c.kinds.result.now c.loop-element.element c.kinds.ensures.kinds c.index-kinds-element.result
    (omega (arith, c.loop-element-test.true, ap length c.kinds-element-end.ensures.kinds, ap length c.kinds.ensures.kinds)) c.index-kinds-element.is)
    (subst (λ (marks : List Bool). c.holds_marked.result ≡ list_any (λ number. get_or marks number false) (pool_numbers c.index-kinds-element.result)) c.deref.ensures.value c.holds_marked.ensures) in
    one_more_kept c.args.layout.now c.loop-element.element c.holds_marked.result holds c.if-holds_marked.false c.loop-element.invariant

pub returns-clause-apart : goal.returns-clause-apart
returns-clause-apart c = none_overlaps c.args.layout.now c.loop-element.element (omega (arith, c.loop-element-test.false, ap length c.kinds-element-end.ensures.kinds)) c.loop-element.invariant
