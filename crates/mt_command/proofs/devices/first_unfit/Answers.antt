use Rattle.std.proofs.Common.{◌∙◌, sym}
use Rattle.mt_command.proofs.Firsts.{fit_more, unfit_here}
use Rattle.mt_command.proofs.devices.first_unfit.Goals as goal

pub returns-then-is_unfit-clause-found : goal.returns-then-is_unfit-clause-found
returns-then-is_unfit-clause-found c = unfit_here _ c.args.bindings.now c.loop-at.at _ c.loop-at-test.true c.loop-at.invariant (sym c.if-is_unfit.true ∙ c.is_unfit.ensures)

pub loop-at-preserved : goal.loop-at-preserved
loop-at-preserved c = fit_more _ c.args.bindings.now c.loop-at.at _ c.loop-at-test.true c.loop-at.invariant (sym c.if-is_unfit.false ∙ c.is_unfit.ensures)
