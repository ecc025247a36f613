-- Where the first part ends behind the value, no more is passed.
use Rattle.std.proofs.Common.{List, ℕ, ap, sym, ◌∙◌}
use Rattle.mt_cuts.specs.declared.cut.Cut.{Cut}
use Rattle.mt_cuts.proofs.Skipping.{past_ends}
use Rattle.mt_cuts.proofs.cursor.Cursor.past.Goals as goal

pub returns-clause-ends : goal.returns-clause-ends
returns-clause-ends c =
    ap (λ (r : List ℕ × List Cut). r.0) (sym (past_ends c.args.value c.loop-here.here.ends.now c.loop-here.here.parts.now (sym c.ends_by.ensures ∙ c.loop-here-test.false)) ∙ c.loop-here.invariant.0)

pub returns-clause-parts : goal.returns-clause-parts
returns-clause-parts c =
    ap (λ (r : List ℕ × List Cut). r.1) (sym (past_ends c.args.value c.loop-here.here.ends.now c.loop-here.here.parts.now (sym c.ends_by.ensures ∙ c.loop-here-test.false)) ∙ c.loop-here.invariant.0)
