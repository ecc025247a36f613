use Rattle.std.proofs.Common.{◌≡◌}
use Rattle.mt_packet.specs.Header.{field_of}
use Rattle.mt_cuts.specs.Tree.{value_of}
use Rattle.mt_cuts.specs.View.{tree_of}
use Rattle.mt_cuts.specs.Canonical.{IsOrdered}
use Rattle.mt_cuts.proofs.cut.Cut.value_at.Given as goal

abbrev pub invariant-loop-here : goal.invariant-loop-here
invariant-loop-here l =
    (value_of (tree_of l.here) (λ field. field_of l.fn.header field) ≡ value_of (tree_of l.fn.self) (λ field. field_of l.fn.header field))
    × IsOrdered (tree_of l.here)
