use Rattle.std.proofs.Common.{◌∙◌, arith}
use Rattle.mt_elements.proofs.CountsRaised.{counts_step, counts_end}
use Rattle.mt_elements.proofs.wires.wired_counts.Goals as goal

pub loop-number-preserved : goal.loop-number-preserved
loop-number-preserved c = record {
  len = c.raise.ensures.len ∙ c.loop-number.invariant.len;
  counts = λ e lt. counts_step c.args.wires.now c.loop-number.number _ c.loop-number.counts.items c.raise.new.counts.items e _ c.loop-number-test.true
      (c.raise.ensures.count e (let len = c.loop-number.invariant.len in omega (arith, lt, len))) (c.loop-number.invariant.counts e lt);
  few = λ e. c.raise.ensures.few e (c.loop-number.invariant.few e);
}

pub returns-clause-counts : goal.returns-clause-counts
returns-clause-counts c = λ e lt. counts_end c.args.wires.now c.loop-number.number c.loop-number.counts.items e _ c.loop-number-test.false (c.loop-number.invariant.counts e lt)
