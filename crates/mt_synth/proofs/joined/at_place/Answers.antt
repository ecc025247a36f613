use Rattle.std.proofs.Common.{◌∙◌, sym, ap, length, refl}
use Rattle.std.proofs.lemmas.Bool.{ltb-true}
use Rattle.std.proofs.lemmas.Option.{none-some, same_Some, slice_get_read, slice_get_past}
use Rattle.std.proofs.lemmas.Result.{IfOk-weaker}
use Rattle.mt_cuts.specs.Tree.{value_of}
use Rattle.mt_cuts.specs.View.{tree_of}
use Rattle.mt_cuts.specs.declared.cut.Cut.{Cut}
use Rattle.mt_synth.proofs.joined.at_place.Goals as goal

pub returns-in-Some-clause-value : goal.returns-in-Some-clause-value
returns-in-Some-clause-value c =
    let there = slice_get_read c.args.cuts.now (length c.args.cuts.now) c.args.place c.in-Some.cut.now refl (ltb-true c.args.place (length c.args.cuts.now) (sym c.in-Some.ensures.lookup.0)) c.in-Some.ensures.lookup.1 in
    IfOk-weaker c.copied.result _ _
    (λ copy same cut is header. same header ∙ ap (λ (other : Cut). value_of (tree_of other) header) (same_Some c.in-Some.cut.now cut (sym there ∙ is)))
    c.copied.ensures.value

pub returns-in-None-clause-value : goal.returns-in-None-clause-value
returns-in-None-clause-value c cut is header =
    absurd (none-some cut (sym (slice_get_past c.args.cuts.now c.args.place c.in-None.ensures.lookup.3) ∙ is))
