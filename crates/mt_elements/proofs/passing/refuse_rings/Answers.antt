use Rattle.mt_elements.specs.Accepted.{Rings}
use Rattle.mt_elements.specs.declared.fault.ChainWhy.TheVariants.{Cycle}
use Rattle.mt_elements.specs.Told.{Nowhere}
use Rattle.std.proofs.Common.{ℕ, ◌<◌, List, IfSome, IfNone, subst}
use Rattle.mt_graph.specs.declared.Wire.{Wire}
use Rattle.mt_wiring.specs.Ways.{OnRing}
use Rattle.mt_elements.specs.Accepted.{behavior_of}
use Rattle.mt_elements.proofs.LowestTold.{told, at_some, at_none}
use Rattle.mt_elements.proofs.passing.refuse_rings.Goals as goal

pub returns-in-Some-clause-refused : goal.returns-in-Some-clause-refused
returns-in-Some-clause-refused c =
    told c.args.elements.now Cycle (Rings c.args.layout.now) c.in-Some.element c.told_of.result
    (at_some (Rings c.args.layout.now) c.in_ok-lowest.lowest c.in-Some.element c.in-Some.is (subst (λ (wires : List Wire). IfSome c.in_ok-lowest.lowest (OnRing (behavior_of c.args.layout.now.kinds).leads wires)) c.wires.ensures c.in_ok-lowest.ensures.found))
    (at_some (λ n. (other : ℕ) → other < n → Rings c.args.layout.now other → ⊥) c.in_ok-lowest.lowest c.in-Some.element c.in-Some.is (subst (λ (wires : List Wire). IfSome c.in_ok-lowest.lowest (λ n. (other : ℕ) → other < n → OnRing (behavior_of c.args.layout.now.kinds).leads wires other → ⊥)) c.wires.ensures c.in_ok-lowest.ensures.lowest))
    c.told_of.ensures

pub returns-in-None-clause-acyclic : goal.returns-in-None-clause-acyclic
returns-in-None-clause-acyclic c = at_none (Nowhere (Rings c.args.layout.now)) c.in_ok-lowest.lowest c.in-None.is
    (subst (λ (wires : List Wire). IfNone c.in_ok-lowest.lowest ((element : ℕ) → OnRing (behavior_of c.args.layout.now.kinds).leads wires element → ⊥)) c.wires.ensures c.in_ok-lowest.ensures.none)
