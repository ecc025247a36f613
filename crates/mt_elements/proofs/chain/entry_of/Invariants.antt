use Rattle.mt_elements.specs.ChainState.{is_entry}
use Rattle.mt_lists.proofs.Positions.{NoneBefore}
use Rattle.mt_elements.proofs.chain.entry_of.Given as goal

abbrev pub invariant-loop-element : goal.invariant-loop-element
invariant-loop-element l = NoneBefore (is_entry l.device) l.kinds l.element
