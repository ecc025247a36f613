use Rattle.std.proofs.Common.{inr, subst}
use Rattle.mt_elements.specs.declared.fault.Refusal.{Refusal}
use Rattle.mt_elements.specs.Refused.{IsRefused}
use Rattle.mt_elements.specs.Told.{Tells}
use Rattle.mt_elements.proofs.checking.check.Goals as goal

pub returns-in-Err-Fault-clause-refused : goal.returns-in-Err-Fault-clause-refused
returns-in-Err-Fault-clause-refused c =
    inr (subst (λ (r : Refusal). Tells (IsRefused c.args.graph.elements.items c.args.graph.wires.items) r) c.in-Err-Fault.field-0-is c.in-Err-Fault.ensures.refused)
