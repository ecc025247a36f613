use Rattle.std.proofs.Common.{◌≡◌, ◌++◌, length}
use Rattle.mt_elements.specs.ChainState.{mappers_of}
use Rattle.mt_elements.proofs.layout.mappers_of.Given as goal

abbrev pub invariant-loop-rest : goal.invariant-loop-rest
invariant-loop-rest l = l.mappers.items ++ mappers_of l.rest ≡ mappers_of l.kinds

abbrev pub decreases-loop-rest : goal.decreases-loop-rest
decreases-loop-rest l = length l.rest
