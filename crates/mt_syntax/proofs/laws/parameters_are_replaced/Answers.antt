use Rattle.mt_syntax.proofs.ReplacedSpelled.{replaced_is, replaced_only}
use Rattle.mt_syntax.proofs.laws.parameters_are_replaced.Goals as goal

pub returns : goal.returns
returns c = λ bindings text out. (λ e. replaced_is bindings text out e, λ h. replaced_only bindings text out h)
