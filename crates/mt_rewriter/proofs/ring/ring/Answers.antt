use Rattle.std.proofs.Common.{◌∙◌, sym, ap, Ok, arith}
use Rattle.std.proofs.lemmas.Option.{slice_get-get_or, slice_get_past}
use Rattle.mt_rewriter.specs.Tries.{try_template}
use Rattle.mt_rewriter.proofs.Rings.{stepped, past, over}
use Rattle.mt_rewriter.proofs.ring.ring.Goals as goal

pub returns-in-Err : goal.returns-in-Err
returns-in-Err c =
    sym (stepped (try_template c.args.given.now.pools.now c.args.given.now.picks.now c.args.tables.now.mappings c.args.key.now) c.args.templates.now _ c.loop.counter c.loop.turn c.loop.clashed c.loop.used c.loop.invariant
    (omega (arith, c.loop-test.true)) _ c.try_template-attempt.result c.turn_behind-turn.result c.after_try.result (slice_get-get_or c.args.templates.now c.loop.turn _ (omega (arith, c.if-turn-count.false)))
    c.try_template-attempt.ensures c.turn_behind-turn.ensures c.after_try.ensures _ c.in-Err.is)

pub returns-in-Ok-Ends : goal.returns-in-Ok-Ends
returns-in-Ok-Ends c =
    sym (stepped (try_template c.args.given.now.pools.now c.args.given.now.picks.now c.args.tables.now.mappings c.args.key.now) c.args.templates.now _ c.loop.counter c.loop.turn c.loop.clashed c.loop.used c.loop.invariant
    (omega (arith, c.loop-test.true)) _ c.try_template-attempt.result c.turn_behind-turn.result c.after_try.result (slice_get-get_or c.args.templates.now c.loop.turn _ (omega (arith, c.if-turn-count.false)))
    c.try_template-attempt.ensures c.turn_behind-turn.ensures c.after_try.ensures _ (c.in-Ok-Ends.is ∙ ap Ok c.in-Ok-Ends.field-0-is))

pub loop-preserved : goal.loop-preserved
loop-preserved c =
    stepped (try_template c.args.given.now.pools.now c.args.given.now.picks.now c.args.tables.now.mappings c.args.key.now) c.args.templates.now _ c.loop.counter c.loop.turn c.loop.clashed c.loop.used c.loop.invariant
    (omega (arith, c.loop-test.true)) _ c.try_template-attempt.result c.turn_behind-turn.result c.after_try.result (slice_get-get_or c.args.templates.now c.loop.turn _ (omega (arith, c.if-turn-count.false)))
    c.try_template-attempt.ensures c.turn_behind-turn.ensures c.after_try.ensures _ (c.in-Ok-Along.is ∙ ap Ok c.in-Ok-Along.field-0-is)

pub returns-after-loop : goal.returns-after-loop
returns-after-loop c =
    sym (over (try_template c.args.given.now.pools.now c.args.given.now.picks.now c.args.tables.now.mappings c.args.key.now) c.args.templates.now _ c.loop.counter c.loop.turn c.loop.clashed c.loop.used c.loop.invariant
    (omega (arith, c.loop-test.false)))

pub returns-then-turn-count : goal.returns-then-turn-count
returns-then-turn-count c =
    sym (past (try_template c.args.given.now.pools.now c.args.given.now.picks.now c.args.tables.now.mappings c.args.key.now) c.args.templates.now _ c.loop.counter c.loop.turn c.loop.clashed c.loop.used c.loop.invariant
    (omega (arith, c.loop-test.true)) (slice_get_past c.args.templates.now c.loop.turn (omega (arith, c.if-turn-count.true))))
