use Rattle.mt_syntax.proofs.HiddenComments.{block_on, block_off, block_end}
use Rattle.mt_syntax.proofs.comment.block_length.Goals as goal
use Rattle.mt_syntax.proofs.comment.block_length.Goals.{else-bytes-at-eq42-via-then-bytes-at-eq42+else-bytes-at-eq47, else-bytes-at-eq42-via-else-bytes-at-eq42}

pub loop-at-preserved : goal.loop-at-preserved
loop-at-preserved c =
    elim c.else-bytes-at-eq42.branch [
      | else-bytes-at-eq42-via-then-bytes-at-eq42+else-bytes-at-eq47 w ↦ block_off c.args.bytes.now c.loop-at.at c.loop-at.auto.at c.loop-at-test.true (λ _ b. w.if-bytes-at-eq47.false b) c.loop-at.invariant
      | else-bytes-at-eq42-via-else-bytes-at-eq42 w ↦ block_off c.args.bytes.now c.loop-at.at c.loop-at.auto.at c.loop-at-test.true (λ a _. w.if-bytes-at-eq42.false a) c.loop-at.invariant
    ]

pub returns-then-bytes-at-eq47-clause-length : goal.returns-then-bytes-at-eq47-clause-length
returns-then-bytes-at-eq47-clause-length c = block_on c.args.bytes.now c.loop-at.at c.loop-at.auto.at c.loop-at-test.true c.if-bytes-at-eq42.true c.if-bytes-at-eq47.true c.loop-at.invariant

pub returns-clause-length : goal.returns-clause-length
returns-clause-length c = block_end c.args.bytes.now c.loop-at.at c.loop-at.auto.at c.loop-at-test.false c.loop-at.invariant
