use Rattle.std.proofs.Common.{◌≡◌, ◌≤◌, length, true}
use Rattle.mt_cuts.specs.Canonical.{IsCanonical, finishes}
use Rattle.mt_cuts.specs.View.{tree_of}
use Rattle.mt_synth.specs.Cuts.{TreeAt, Means, Grows}
use Rattle.mt_synth.specs.Symbols.{symbol_form}
use Rattle.mt_synth.proofs.ClausesUnderWay.{IsTriedSoFar}
use Rattle.mt_synth.proofs.clauses.tried.Given as goal

abbrev pub decreases-loop-rest : goal.decreases-loop-rest
decreases-loop-rest l = length l.rest

-- what is made comes to the trees of all clauses by those that are left
abbrev pub invariant-loop-rest : goal.invariant-loop-rest
invariant-loop-rest l = record {
  within : length l.rest ≤ length l.fn.clauses;
  grows : Grows l.fn.trees l.trees;
  canonical : IsCanonical l.devices (tree_of l.made);
  finished : finishes l.devices l.made ≡ true;
  so_far : (f g : TreeAt) → Means l.devices l.fn.trees (tree_of l.fn.inside) f → Means l.devices l.fn.trees (tree_of l.outside) g
      → IsTriedSoFar l.devices l.trees (symbol_form l.symbol) l.fn.clauses l.rest (tree_of l.made) f g;
}
