use Rattle.std.proofs.Common.{◌≡◌, length}
use Rattle.std.specs.List.{list_all}
use Rattle.mt_trees.specs.Passages.{spec_leaves}
use Rattle.mt_synth.proofs.passages.specs_leave.Given as goal

abbrev pub invariant-loop-rest : goal.invariant-loop-rest
invariant-loop-rest l = list_all (spec_leaves l.mappers l.part) l.specs ≡ list_all (spec_leaves l.mappers l.part) l.rest

abbrev pub decreases-loop-rest : goal.decreases-loop-rest
decreases-loop-rest l = length l.rest
