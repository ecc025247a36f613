use Rattle.std.proofs.Common.{◌≡◌, length}
use Rattle.std.specs.List.{list_all}
use Rattle.mt_trees.specs.Passages.{template_leaves}
use Rattle.mt_synth.proofs.passages.templates_leave.Given as goal

abbrev pub invariant-loop-rest : goal.invariant-loop-rest
invariant-loop-rest l = list_all (template_leaves l.part) l.templates ≡ list_all (template_leaves l.part) l.rest

abbrev pub decreases-loop-rest : goal.decreases-loop-rest
decreases-loop-rest l = length l.rest
