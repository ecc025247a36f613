use Rattle.std.proofs.Common.{sym, ◌∙◌, arith}
use Rattle.mt_chain.specs.Classifier.{pattern_holds}
use Rattle.mt_lists.proofs.Positions.{found, missing, one_more}
use Rattle.mt_chain.proofs.classifier.first_pattern.Goals as goal

pub returns-then-pattern_holds : goal.returns-then-pattern_holds
returns-then-pattern_holds c =
    sym (found (pattern_holds c.args.packet.now) c.args.patterns.now c.loop-number.number c.clauses.result.now c.loop-number.invariant c.clauses.ensures (sym c.pattern_holds.ensures ∙ c.if-pattern_holds.true))

pub loop-number-preserved : goal.loop-number-preserved
loop-number-preserved c =
    one_more (pattern_holds c.args.packet.now) c.args.patterns.now c.loop-number.number c.clauses.result.now c.loop-number.invariant c.clauses.ensures (sym c.pattern_holds.ensures ∙ c.if-pattern_holds.false)

pub returns : goal.returns
returns c = sym (missing (pattern_holds c.args.packet.now) c.args.patterns.now c.loop-number.number (omega arith) c.loop-number.invariant)
