use Rattle.std.proofs.Common.{◌-◌}
use Rattle.mt_synth.specs.Memo.{Remembers}
use Rattle.mt_synth.proofs.Walking.{HasWalked}
use Rattle.mt_trees.specs.Elements.{tree_from}
use Rattle.mt_synth.proofs.walk.+walk_from.Given as goal

abbrev pub decreases-walk_from : goal.decreases-walk_from
decreases-walk_from c = c.most

-- a tree of cuts behind each of the first exits, and what is kept
abbrev pub invariant-loop-place : goal.invariant-loop-place
invariant-loop-place l = record {
  walked : HasWalked l.chain (λ header. tree_from (l.fn.most - 1) l.chain header) l.fn.at l.kind l.fn.trees l.trees l.exits.items l.cuts.items l.place;
  kept : Remembers l.chain l.trees l.memo.kept;
}
