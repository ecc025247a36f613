use Rattle.std.proofs.Common.{◌≡◌, ◌∙◌, ◌<◌, ap, refl, sym, subst, ℕ, not, Bool, true, false, List, length, get_or, slice_get, Some, arith}
use Rattle.std.proofs.lemmas.Option.{slice_get-get_or}
use Rattle.mt_graph.specs.declared.Wire.{Wire}
use Rattle.mt_elements.specs.Told.{IsMiswired, Tells}
use Rattle.mt_elements.proofs.WiresTold.{begins, no_port, twice, joined, all_keys, all_wired}
use Rattle.mt_elements.proofs.wires.wired_outputs.Goals as goal

-- what stands at a place of a copy
at : (all copy : List Wire) (number : ℕ) (d : Wire) → copy ≡ all → number < length copy → slice_get all number ≡ Some (get_or copy number d)
at all copy number d same lt = ap (λ xs. slice_get xs number) (sym same) ∙ slice_get-get_or copy number d lt

was_there : (new contained : Bool) → new ≡ not contained → new ≡ false → contained ≡ true
was_there new true e n = refl
was_there new false e n = absurd (let q : true ≡ false = sym e ∙ n in cc)

was_new : (new contained : Bool) → new ≡ not contained → new ≡ true → contained ≡ false
was_new new true e n = absurd (let q : false ≡ true = sym e ∙ n in cc)
was_new new false e n = refl

-- src/wires.rt:130:5
pub loop-number-init : goal.loop-number-init
loop-number-init c = begins c.args.layout.now _ c.new-wired.ensures.empty

-- src/wires.rt:133:13
pub returns-in-Some-clause-refused : goal.returns-in-Some-clause-refused
returns-in-Some-clause-refused c =
    subst (Tells (IsMiswired c.args.layout.now)) (sym c.told_at.ensures)
    (no_port c.args.layout.now c.loop-number.wired.keys c.loop-number.number _ c.in-Some.element (at c.args.layout.now.wires c.wires.result.now c.loop-number.number _ c.wires.ensures (omega (arith, c.loop-number-test.true, ap length c.wires-number-end.ensures, ap length c.wires.ensures))) (sym c.in-Some.ensures) c.loop-number.invariant)

-- src/wires.rt:138:13
pub returns-then-not-is_new-clause-refused : goal.returns-then-not-is_new-clause-refused
returns-then-not-is_new-clause-refused c =
    subst (Tells (IsMiswired c.args.layout.now)) (sym c.told_at-then-not-is_new.ensures)
    (twice c.args.layout.now c.loop-number.wired.keys c.loop-number.number _
    (at c.args.layout.now.wires c.wires.result.now c.loop-number.number _ c.wires.ensures (omega (arith, c.loop-number-test.true, ap length c.wires-number-end.ensures, ap length c.wires.ensures)))
    (sym c.in-None.ensures) (was_there _ _ c.in_ok-is_new.ensures.added c.if-not-is_new.true) c.loop-number.invariant)

-- src/wires.rt:130:5
pub loop-number-preserved : goal.loop-number-preserved
loop-number-preserved c =
    joined c.args.layout.now c.loop-number.wired.keys c.insert_full.new.self.keys c.loop-number.number _
    (at c.args.layout.now.wires c.wires.result.now c.loop-number.number _ c.wires.ensures (omega (arith, c.loop-number-test.true, ap length c.wires-number-end.ensures, ap length c.wires.ensures)))
    (sym c.in-None.ensures) (was_new _ _ c.in_ok-is_new.ensures.added c.if-not-is_new.false) c.in_ok-is_new.ensures.keys c.loop-number.invariant

-- src/wires.rt:119:1
pub returns-clause-outputs : goal.returns-clause-outputs
returns-clause-outputs c = all_keys c.args.layout.now _ c.loop-number.number (omega (arith, c.loop-number-test.false, ap length c.wires-number-end.ensures)) c.loop-number.invariant

-- src/wires.rt:119:1
pub returns-clause-wired : goal.returns-clause-wired
returns-clause-wired c = all_wired c.args.layout.now _ c.loop-number.number (omega (arith, c.loop-number-test.false, ap length c.wires-number-end.ensures)) c.loop-number.invariant
