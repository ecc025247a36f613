use Rattle.std.proofs.Common.{◌∙◌, ap, length, List, arith}
use Rattle.mt_graph.specs.declared.Wire.{Wire}
use Rattle.mt_elements.specs.ChainState.{wired_of}
use Rattle.mt_elements.proofs.CountsRaised.{counts_push}
use Rattle.mt_elements.proofs.Looked.{got_at, number_at}
use Rattle.mt_elements.proofs.wires.output_counts.Goals as goal

pub loop-element-preserved : goal.loop-element-preserved
loop-element-preserved c =
    counts_push c.args.layout.now c.loop-element.counts.items c.push.new.self.items c.loop-element.element c.outputs_in-count.result c.index.result.now c.index-kinds-element.result
    (got_at c.args.layout.now.kinds c.kinds-in-loop-element.result.now c.loop-element.element c.kinds-in-loop-element.ensures.kinds c.index-kinds-element.result
    (omega (arith, c.loop-element-test.true, ap length c.kinds-element-end.ensures.kinds, ap length c.kinds-in-loop-element.ensures.kinds)) c.index-kinds-element.is)
    (number_at c.in_ok-wired.wired.items c.loop-element.element c.index.result.now
    (omega (arith, c.loop-element-test.true, ap length c.kinds-element-end.ensures.kinds, ap length c.kinds.ensures.kinds, c.in_ok-wired.ensures.len)) c.index.ensures
    ∙ c.in_ok-wired.ensures.counts c.loop-element.element (omega (arith, c.loop-element-test.true, ap length c.kinds-element-end.ensures.kinds, ap length c.kinds.ensures.kinds))
    ∙ ap (λ (ws : List Wire). wired_of ws c.loop-element.element) c.wires.ensures)
    c.outputs_in-count.ensures.value c.outputs_in-count.ensures.few c.in_ok-push.ensures.items c.loop-element.invariant
