use Rattle.std.proofs.Common.{◌∙◌, ap, ℕ, List, map, Vec, Global, arith}
use Rattle.mt_cuts.specs.Tree.{value_of}
use Rattle.mt_cuts.specs.View.{tree_of}
use Rattle.mt_synth.proofs.BranchesNamed.{longer_by, one_value_more}
use Rattle.mt_synth.proofs.branching.combined.Goals as goal

pub loop-place-preserved : goal.loop-place-preserved
loop-place-preserved c = record {
  within = omega (arith, c.loop-place-test.true);
  canonical = c.in_ok-next.ensures.canonical;
  lists = λ header.
      one_value_more header c.args.cuts.now c.loop-place.place c.index-cuts-place.result (map (λ v. v.items) c.loop-place.lists.items) (map (λ v. v.items) c.in_ok-lists.lists.items) c.in_ok-next.pairs.items
      (value_of (tree_of c.in_ok-next.next) header) (value_of (tree_of c.loop-place.made) header)
      c.loop-place-test.true c.index-cuts-place.is (c.loop-place.invariant.lists header) (c.in_ok-next.ensures.pairs header)
      (c.in_ok-lists.ensures
      ∙ ap (map (longer_by (map (λ v. v.items) c.deref.result.now))) c.deref-in-loop-place.ensures.value
      ∙ ap (λ (xs : List (Vec ℕ Global)). map (longer_by (map (λ v. v.items) xs)) c.in_ok-next.pairs.items) c.deref.ensures.value);
}
