use Rattle.mt_elements.proofs.RepliesWorked.{AreRepliesTo}
use Rattle.mt_elements.proofs.layout.all_replies.Given as goal

abbrev pub invariant-loop-element : goal.invariant-loop-element
invariant-loop-element l = AreRepliesTo l.mappers l.kinds l.replies.items l.element
