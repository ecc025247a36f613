use Rattle.mt_cuts.specs.Canonical.{IsCanonical}
use Rattle.mt_cuts.specs.View.{tree_of}
use Rattle.mt_synth.specs.Cuts.{Grows}
use Rattle.mt_synth.specs.Memo.{Remembers}
use Rattle.mt_synth.proofs.Devices.{MeansUpTo}
use Rattle.mt_synth.proofs.walk.walked.Given as goal

-- the trees of the headers of the first devices, and what is kept
abbrev pub invariant-loop-number : goal.invariant-loop-number
invariant-loop-number l =
    IsCanonical l.chain.entries (tree_of l.made) × MeansUpTo l.chain.entries l.trees (tree_of l.made) l.chain l.number × Grows l.fn.trees l.trees × Remembers l.chain l.trees l.memo.kept
