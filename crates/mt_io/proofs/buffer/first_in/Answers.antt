use Rattle.std.proofs.Common.{sym, ◌∙◌, ap, Some}
use Rattle.mt_io.proofs.Buffers.{first_here, first_none, none_more}
use Rattle.mt_io.proofs.buffer.first_in.Goals as goal

pub returns-then-not-is_empty : goal.returns-then-not-is_empty
returns-then-not-is_empty c =
    ap Some c.name.ensures ∙ sym (first_here c.args.list.now c.loop-buffer.buffer-index c.buffer-item.result c.buffer-item.is c.loop-buffer-test.true c.if-not-is_empty.ensures.some c.loop-buffer.invariant)

pub loop-buffer-preserved : goal.loop-buffer-preserved
loop-buffer-preserved c = none_more c.args.list.now c.loop-buffer.buffer-index c.buffer-item.result c.buffer-item.is c.loop-buffer-test.true c.if-not-is_empty.ensures.empty c.loop-buffer.invariant

pub returns : goal.returns
returns c = sym (first_none c.args.list.now c.loop-buffer.buffer-index c.loop-buffer-test.false c.loop-buffer.invariant)
