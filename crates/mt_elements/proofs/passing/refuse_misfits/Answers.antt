use Rattle.mt_elements.specs.Accepted.{Misfits}
use Rattle.mt_elements.specs.declared.fault.ChainWhy.TheVariants.{LayerClash}
use Rattle.mt_elements.specs.Told.{Nowhere}
use Rattle.std.proofs.Common.{ℕ, ◌<◌, List, IfSome, IfNone, subst}
use Rattle.mt_graph.specs.declared.Wire.{Wire}
use Rattle.mt_wiring.specs.Ways.{Clashes}
use Rattle.mt_elements.specs.Accepted.{behavior_of}
use Rattle.mt_elements.proofs.LowestTold.{told, at_some, at_none}
use Rattle.mt_elements.proofs.passing.refuse_misfits.Goals as goal

pub returns-in-Some-clause-refused : goal.returns-in-Some-clause-refused
returns-in-Some-clause-refused c =
    told c.args.elements.now LayerClash (Misfits c.args.layout.now) c.in-Some.element c.told_of.result
    (at_some (Misfits c.args.layout.now) c.in_ok-lowest.lowest c.in-Some.element c.in-Some.is (subst (λ (wires : List Wire). IfSome c.in_ok-lowest.lowest (Clashes (behavior_of c.args.layout.now.kinds) wires)) c.wires.ensures c.in_ok-lowest.ensures.found))
    (at_some (λ n. (other : ℕ) → other < n → Misfits c.args.layout.now other → ⊥) c.in_ok-lowest.lowest c.in-Some.element c.in-Some.is (subst (λ (wires : List Wire). IfSome c.in_ok-lowest.lowest (λ n. (other : ℕ) → other < n → Clashes (behavior_of c.args.layout.now.kinds) wires other → ⊥)) c.wires.ensures c.in_ok-lowest.ensures.lowest))
    c.told_of.ensures

pub returns-in-None-clause-fits : goal.returns-in-None-clause-fits
returns-in-None-clause-fits c = at_none (Nowhere (Misfits c.args.layout.now)) c.in_ok-lowest.lowest c.in-None.is
    (subst (λ (wires : List Wire). IfNone c.in_ok-lowest.lowest ((element : ℕ) → Clashes (behavior_of c.args.layout.now.kinds) wires element → ⊥)) c.wires.ensures c.in_ok-lowest.ensures.none)
