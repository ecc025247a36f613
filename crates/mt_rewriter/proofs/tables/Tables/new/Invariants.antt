use Rattle.std.proofs.Common.{◌≡◌, List, ◌++◌, map, length}
use Rattle.mt_elements.specs.ChainState.{mappers_of}
use Rattle.mt_kinds.specs.declared.rewriter.Template.{Template}
use Rattle.mt_rewriter.proofs.tables.Tables.new.Given as goal

abbrev pub invariant-loop-rest : goal.invariant-loop-rest
invariant-loop-rest l = l.turns.items ++ map (λ (patterns : List Template). 0) l.rest ≡ map (λ (patterns : List Template). 0) (mappers_of l.chain.kinds)

abbrev pub decreases-loop-rest : goal.decreases-loop-rest
decreases-loop-rest l = length l.rest
