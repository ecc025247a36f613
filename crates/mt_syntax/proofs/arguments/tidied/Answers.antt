use Rattle.mt_syntax.proofs.TidyLoop.{tidy_white, tidy_other, tidy_done}
use Rattle.std.proofs.Common.{sym, ◌∙◌}
use Rattle.mt_syntax.proofs.arguments.tidied.Goals as goal
use Rattle.mt_syntax.proofs.arguments.tidied.Goals.{then-is_white_byte, else-is_white_byte+in_ok-push_after}

pub loop-byte-preserved : goal.loop-byte-preserved
loop-byte-preserved c =
    let xs = c.args.bytes.now in
    let i = c.loop-byte.byte-index in
    elim c.if-is_white_byte.branch [
      | then-is_white_byte w ↦ rw (w.out-is, w.gap-is) (tidy_white xs c.loop-byte.out.items i c.loop-byte.gap c.loop-byte-test.true (sym c.is_white_byte.ensures ∙ w.if-is_white_byte.true) c.loop-byte.invariant)
      | else-is_white_byte+in_ok-push_after w ↦ rw (w.out-is, w.gap-is) (tidy_other xs c.loop-byte.out.items w.push_after.new.out.items i c.loop-byte.gap c.loop-byte-test.true (sym c.is_white_byte.ensures ∙ w.if-is_white_byte.false) w.in_ok-push_after.ensures c.loop-byte.invariant)
    ]

pub returns : goal.returns
returns c = c.new.ensures ∙ tidy_done c.args.bytes.now c.loop-byte.out.items c.loop-byte.byte-index c.loop-byte.gap c.loop-byte-test.false c.loop-byte.invariant
