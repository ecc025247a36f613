use Rattle.std.proofs.Common.{sym}
use Rattle.mt_click.proofs.UseWalk.{enclosing_is}
use Rattle.mt_click.proofs.perform.enclosing_use.Goals as goal

pub returns-in-Some : goal.returns-in-Some
returns-in-Some c = sym (enclosing_is c.args.activations.now c.in-Some.activation.now (sym c.in-Some.ensures.value))
