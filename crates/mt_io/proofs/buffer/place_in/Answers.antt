use Rattle.std.proofs.Common.{refl, sym, ◌∙◌}
use Rattle.mt_io.proofs.Buffers.{stood_at, not_before, none_of_all}
use Rattle.mt_io.proofs.buffer.place_in.Goals as goal

pub returns-then-is_of-clause-found : goal.returns-then-is_of-clause-found
returns-then-is_of-clause-found c = stood_at c.args.list.now c.args.list.now c.loop-place.place c.index-list-place.result c.args.name.now refl c.index-list-place.is c.loop-place-test.true (sym c.is_of.ensures ∙ c.if-is_of.true)

pub loop-place-preserved : goal.loop-place-preserved
loop-place-preserved c = not_before c.args.list.now c.loop-place.place c.index-list-place.result c.args.name.now c.index-list-place.is (sym c.is_of.ensures ∙ c.if-is_of.false) c.loop-place.invariant

pub returns-clause-none : goal.returns-clause-none
returns-clause-none c = λ _. none_of_all c.args.list.now c.loop-place.place c.args.name.now c.loop-place-test.false c.loop-place.invariant
