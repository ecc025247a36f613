use Rattle.std.proofs.Common.{◌∙◌, ap, ℕ, ◌<◌, length, arith}
use Rattle.std.proofs.lemmas.Option.{get_or_from_slice_get}
use Rattle.mt_synth.specs.Cuts.{tree_numbered}
use Rattle.std.proofs.lemmas.Grind.{common_steps}
use Rattle.mt_terms.specs.Terms.{term_form}
use Rattle.mt_synth.proofs.Meant.{below_length, grows_on}
use Rattle.mt_synth.proofs.TestsMeant.{one_more_test}
use Rattle.mt_synth.proofs.testing.tests_of.Goals as goal

pub returns-clause-tests : goal.returns-clause-tests
returns-clause-tests c place pair is inside outside e e' =
    let stands = get_or_from_slice_get c.args.pairs.now place pair (0, 0) is in
    let below : place < length c.args.pairs.now = below_length c.args.pairs.now place pair is in
    let end = c.loop-pair-test.false in
    c.loop-pair.invariant.tests place (omega (arith, below, end)) inside outside (ap (λ (p : ℕ × ℕ). tree_numbered c.args.trees.now p.0) stands ∙ e) (ap (λ (p : ℕ × ℕ). tree_numbered c.args.trees.now p.1) stands ∙ e')

pub loop-pair-preserved : goal.loop-pair-preserved
loop-pair-preserved c = record {
  tests = one_more_test c.args.trees.now c.loop-pair.trees c.test_of.new.trees (term_form c.args.term.now) c.args.span c.args.pairs.now c.loop-pair.numbers.items c.push.new.self.items c.loop-pair.pair-index c.in_ok-test_of.field-0
      c.loop-pair.invariant.count c.in_ok-push.ensures.items c.loop-pair.invariant.grows c.test_of.ensures.grows c.in_ok-test_of.ensures.test c.loop-pair.invariant.tests;
  count = grind (arith, common_steps);
  grows = grows_on c.args.trees.now c.loop-pair.trees c.test_of.new.trees c.loop-pair.invariant.grows c.test_of.ensures.grows;
}
