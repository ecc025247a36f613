use Rattle.std.proofs.Common.{length, map, ℕ, List, Bor, sym, ap, ◌∙◌, refl}
use Rattle.std.specs.Result.{result_err}
use Rattle.std.proofs.lemmas.Option.{slice_get_read}
use Rattle.mt_elements.proofs.Faultless.{seen, one_described, one_right, first_wrong, all_right}
use Rattle.mt_elements.proofs.reading.described.Goals as goal

pub returns-in-Err-clause-refused : goal.returns-in-Err-clause-refused
returns-in-Err-clause-refused c =
    let at_e = slice_get_read c.args.elements.now (length c.args.elements.now) c.loop-number.number c.index-elements-number.result refl c.loop-number-test.true c.index-elements-number.is in
    let fault =
    seen c.args.elements.now c.loop-number.number c.loop-number.descriptions.items c.loop-number.invariant.described c.index-elements-number.result at_e c.in_ok-description.field-0
    (map (λ (x : Bor (List ℕ)). x.now) c.deref.result.now) c.deref-in-loop-number.result.now c.in_ok-description.ensures.fault
    (ap (map (λ (x : Bor (List ℕ)). x.now)) c.deref.ensures.value ∙ c.in_ok-names.ensures) c.deref-in-loop-number.ensures.value in
    rw (c.told_of.ensures, c.cause_of.ensures)
    (first_wrong c.args.elements.now c.loop-number.number c.loop-number.descriptions.items c.loop-number.invariant.described c.index-elements-number.result at_e c.in-Err.why c.loop-number.invariant.faultless (sym (ap result_err c.in-Err.is) ∙ fault))

pub loop-number-preserved : goal.loop-number-preserved
loop-number-preserved c =
    let at_e = slice_get_read c.args.elements.now (length c.args.elements.now) c.loop-number.number c.index-elements-number.result refl c.loop-number-test.true c.index-elements-number.is in
    let fault =
    seen c.args.elements.now c.loop-number.number c.loop-number.descriptions.items c.loop-number.invariant.described c.index-elements-number.result at_e c.in_ok-description.field-0
    (map (λ (x : Bor (List ℕ)). x.now) c.deref.result.now) c.deref-in-loop-number.result.now c.in_ok-description.ensures.fault
    (ap (map (λ (x : Bor (List ℕ)). x.now)) c.deref.ensures.value ∙ c.in_ok-names.ensures) c.deref-in-loop-number.ensures.value in
    record {
      described =
          one_described c.args.elements.now c.loop-number.number c.loop-number.descriptions.items c.loop-number.invariant.described c.index-elements-number.result at_e c.push.new.self.items c.in-Ok.description
          (rw c.in-Ok.is at c.in_ok-description.ensures.described) c.in_ok-push-in-Ok.ensures.items;
      faultless =
          one_right c.args.elements.now c.loop-number.number c.loop-number.descriptions.items c.loop-number.invariant.described c.index-elements-number.result at_e c.loop-number.invariant.faultless (sym (ap result_err c.in-Ok.is) ∙ fault);
    }

pub returns-clause-faultless : goal.returns-clause-faultless
returns-clause-faultless c = all_right c.args.elements.now c.loop-number.number c.loop-number-test.false c.loop-number.invariant.faultless
