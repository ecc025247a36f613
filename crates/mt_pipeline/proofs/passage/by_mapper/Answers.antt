use Rattle.std.proofs.Common.{◌∙◌, Some, ap, sym}
use Rattle.std.proofs.lemmas.Option.{slice_get_past}
use Rattle.mt_elements.proofs.Looked.{gone, got}
use Rattle.mt_pipeline.specs.Standing.{entries_of, tables_of}
use Rattle.mt_pipeline.specs.Trying.{EndsBy, mapper_decision, ring_decision}
use Rattle.mt_pipeline.proofs.Decided.{by_ring, no_mapper, ok_then}
use Rattle.mt_pipeline.proofs.StepsTaken.{no_step}
use Rattle.mt_pipeline.proofs.passage.by_mapper.Goals as goal

pub ring-requires-clause-at : goal.ring-requires-clause-at
ring-requires-clause-at g c =
    got c.args.given.now.rewriters.now.mappers.items c.deref.result.now c.args.mapper c.deref.ensures.value c.in-Some.templates.now c.in-Some.ensures.lookup.0 c.in-Some.ensures.lookup.1
    ∙ ap Some (sym c.as_slice.ensures.templates)

pub returns-in-Some-clause-ends : goal.returns-in-Some-clause-ends
returns-in-Some-clause-ends g c =
    ok_then (EndsBy (ring_decision c.args.given.now.rewriters.now.pools.items (entries_of c.args.resources.now.store) c.args.key.now c.args.mapper c.as_slice.result.now c.args.ledger.now c.args.journal.now.picks.items)
    c.args.given.now.rewriters.now c.args.given.now.gone.now c.args.resources.now c.ring.new.resources c.args.ledger.now c.ring.new.ledger c.ring.new.journal.picks.items)
    (EndsBy (mapper_decision c.args.given.now.rewriters.now (tables_of c.args.resources.now.store c.args.ledger.now) c.args.key.now c.args.mapper c.args.journal.now.picks.items)
    c.args.given.now.rewriters.now c.args.given.now.gone.now c.args.resources.now c.ring.new.resources c.args.ledger.now c.ring.new.ledger c.ring.new.journal.picks.items)
    c.ring.result
    (λ ends by. by_ring c.args.given.now.rewriters.now c.args.given.now.gone.now c.args.resources.now c.ring.new.resources c.args.ledger.now c.ring.new.ledger c.args.key.now c.args.mapper c.as_slice.result.now
    c.args.journal.now.picks.items c.ring.new.journal.picks.items ends
    (got c.args.given.now.rewriters.now.mappers.items c.deref.result.now c.args.mapper c.deref.ensures.value c.in-Some.templates.now c.in-Some.ensures.lookup.0 c.in-Some.ensures.lookup.1
    ∙ ap Some (sym c.as_slice.ensures.templates)) by)
    c.ring.ensures.ends

pub returns-in-None-clause-ends : goal.returns-in-None-clause-ends
returns-in-None-clause-ends g c =
    no_mapper c.args.given.now.rewriters.now c.args.given.now.gone.now c.args.resources.now c.args.ledger.now c.args.key.now c.args.mapper c.args.journal.now.picks.items
    (slice_get_past c.args.given.now.rewriters.now.mappers.items c.args.mapper
    (gone c.args.given.now.rewriters.now.mappers.items c.deref.result.now c.args.mapper c.deref.ensures.value c.in-None.ensures.lookup.0))

pub returns-in-None-clause-step : goal.returns-in-None-clause-step
returns-in-None-clause-step g c = no_step c.args.given.now.rewriters.now c.args.given.now.gone.now c.args.resources.now c.args.ledger.now c.args.journal.now c.requires.ready
