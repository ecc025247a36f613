use Rattle.std.proofs.Common.{◌≡◌, ◌+◌, length}
use Rattle.mt_terms.specs.Writes.{write_forms}
use Rattle.mt_trees.specs.Meaning.{CanWriteAll, written_all}
use Rattle.mt_trees.proofs.leaf.write_all.Given as goal

abbrev pub invariant-loop-rest : goal.invariant-loop-rest
invariant-loop-rest l =
    (written_all l.header l.passed (write_forms l.rest) l.packet ≡ written_all l.header l.passed (write_forms l.list) l.fn.packet)
    × CanWriteAll l.header l.passed (write_forms l.rest) l.packet
    × (l.writes + length l.rest ≡ l.fn.writes + length l.list)

abbrev pub decreases-loop-rest : goal.decreases-loop-rest
decreases-loop-rest l = length l.rest
