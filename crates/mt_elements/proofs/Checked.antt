-- What is told of a part is told of the whole.
use Rattle.std.proofs.Common.{◌≡◌, sym, subst}
use Rattle.mt_elements.specs.declared.fault.ChainFault.{ChainFault}
use Rattle.mt_elements.specs.declared.fault.Refusal.{Refusal}
use Rattle.mt_elements.specs.declared.fault.Refusal.TheVariants.{Fault, Memory}
use Rattle.mt_elements.specs.Told.{Tells}

pub weaker : (P Q : ChainFault → Type 0) (r : Refusal) → ((f : ChainFault) → P f → Q f) → Tells P r → Tells Q r
weaker P Q (Fault fault) h t = h fault t
weaker P Q Memory h t = tt

pub of_memory : (P : ChainFault → Type 0) (r : Refusal) → r ≡ Memory → Tells P r
of_memory P r e = subst (Tells P) (sym e) tt
