use Rattle.std.proofs.Common.{sym, ◌∙◌}
use Rattle.mt_click.proofs.UseWalk.{top_is}
use Rattle.mt_click.proofs.perform.enclosing_bindings.Goals as goal

pub returns-in-Some : goal.returns-in-Some
returns-in-Some c = c.deref.ensures.value ∙ sym (top_is c.args.activations.now c.in-Some.activation.now (sym c.in-Some.ensures.value))
