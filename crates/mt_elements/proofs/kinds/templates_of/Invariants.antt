use Rattle.std.proofs.Common.{◌≡◌, ◌++◌, length, map}
use Rattle.mt_elements.specs.Described.{template_of}
use Rattle.mt_elements.proofs.kinds.templates_of.Given as goal

abbrev pub invariant-loop-rest : goal.invariant-loop-rest
invariant-loop-rest l = l.templates.items ++ map (template_of l.pools.keys) l.rest ≡ map (template_of l.pools.keys) l.written

abbrev pub decreases-loop-rest : goal.decreases-loop-rest
decreases-loop-rest l = length l.rest
