-- The leaves that were looked at are numbered.
use Rattle.std.proofs.Common.{◌≡◌, ◌<◌, ◌++◌, List, length, map}
use Rattle.mt_cuts.specs.declared.leaves.Leaf.{Leaf}
use Rattle.mt_synth.specs.Numbering.{IsNumbering}
use Rattle.mt_synth.proofs.numbering.number_leaves.Given as goal

abbrev pub invariant-loop-rest : goal.invariant-loop-rest
invariant-loop-rest l =
    (done : List Leaf) × (done ++ l.rest ≡ l.leaves) × IsNumbering (map (λ leaf. leaf.value) done) l.numbers.items l.order.items
    × (length l.numbers.items ≡ l.bound) × (length l.order.items < 65536)

abbrev pub decreases-loop-rest : goal.decreases-loop-rest
decreases-loop-rest l = length l.rest
