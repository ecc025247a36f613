use Rattle.mt_pipeline.proofs.Rounds.{IsAlong}
use Rattle.mt_pipeline.proofs.ring.ring.Given as goal

-- none of the templates so far made a mapping
abbrev pub invariant-loop : goal.invariant-loop
invariant-loop g l = IsAlong l.given.rewriters.now l.given.gone.now l.key l.mapper l.templates l.fn.resources l.resources l.fn.ledger l.ledger l.fn.journal l.journal l.clashed l.counter
