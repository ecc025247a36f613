use Rattle.std.proofs.Common.{◌≡◌, ◌<◌, ℕ, get_or}
use Rattle.mt_cuts.specs.declared.cut.Cut.{Cut}
use Rattle.mt_cuts.specs.View.{tree_of}
use Rattle.mt_cuts.proofs.same.+same.Given as goal

-- the trees so far are equal
abbrev pub invariant-are_same-loop-i : goal.invariant-are_same-loop-i
invariant-are_same-loop-i l = (k : ℕ) (d : Cut) → k < l.i → tree_of (get_or l.a k d) ≡ tree_of (get_or l.b k d)
