use Rattle.std.proofs.Common.{arith, take, length, ◌-◌}
use Rattle.std.proofs.lemmas.Grind.{common_steps}
use Rattle.mt_cuts.specs.View.{tree_of}
use Rattle.mt_synth.specs.Symbols.{symbol_form}
use Rattle.mt_synth.proofs.Meant.{grows_on}
use Rattle.mt_synth.proofs.ClausesUnderWay.{one_less, all_tried, split_last, nothing_left}
use Rattle.mt_synth.proofs.clauses.tried.Goals as goal

pub loop-rest-preserved : goal.loop-rest-preserved
loop-rest-preserved c = record {
  within = grind (arith, common_steps);
  grows = grows_on c.args.trees.now c.loop-rest.trees c.clause_tried.new.trees c.loop-rest.invariant.grows c.clause_tried.ensures.grows;
  canonical = c.in_ok-made.ensures.canonical;
  finished = c.in_ok-made.ensures.finishes;
  so_far = λ f g first second. one_less c.args.devices (symbol_form c.args.symbol.now) c.args.clauses.now f g c.args.trees.now c.loop-rest.trees c.clause_tried.new.trees c.loop-rest.rest.now
      (take (length c.loop-rest.rest.now - 1) c.loop-rest.rest.now) _ (tree_of c.args.outside.now) (tree_of c.loop-rest.made) (tree_of c.in_ok-made.made)
      (split_last c.loop-rest.rest.now _ c.in-len1-up.len_at_least) c.loop-rest.invariant.grows second c.in_ok-made.ensures.means (c.loop-rest.invariant.so_far f g first second);
}

pub returns-clause-means : goal.returns-clause-means
returns-clause-means c = λ f g first second. all_tried c.args.devices (symbol_form c.args.symbol.now) c.args.clauses.now f g c.loop-rest.trees c.loop-rest.rest.now (tree_of c.loop-rest.made)
    (nothing_left c.loop-rest.rest.now c.in_default.len_below) (c.loop-rest.invariant.so_far f g first second)
