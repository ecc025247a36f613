use Rattle.std.proofs.Common.{◌≡◌, ◌++◌, ◌∷◌, [], ap, refl, ◌∙◌}
use Rattle.mt_pipeline.specs.declared.server.Queued.{Queued}
use Rattle.metron.specs.declared.worker.Worker.{Worker}
use Rattle.metron.specs.Standing.{IsWaiting, tables_at}
use Rattle.mt_pipeline.specs.Turns.{ServerState}
use Rattle.mt_pipeline.specs.Standing.{tables_of}
use Rattle.metron.proofs.Turning.{all_served, queued_can}
use Rattle.metron.proofs.worker.Worker.serve.Goals as goal

pub serve_head-requires-clause-can : goal.serve_head-requires-clause-can
serve_head-requires-clause-can g c =
    let rest = c.requires.rest.1 in
    (c.requires.rest.0, queued_can c.args.context.now.rewriters c.args.context.now.classes c.args.context.now.index c.requires.rest.0 c.args.self.now.server c.enqueue.new.self c.args.self.now.ledger (record { tag = 0; stamped = c.args.frame }) rest.can rest.waits_none c.enqueue.ensures c.requires.arrived c.requires.rest.2)

pub serve_head-requires-clause-waiting : goal.serve_head-requires-clause-waiting
serve_head-requires-clause-waiting g c =
    let queued : Queued = record { tag = 0; stamped = c.args.frame } in
    (c.args.frame, (queued, refl, ap (λ (s : ServerState). s.queue) c.enqueue.ensures ∙ ap (λ q. q ++ queued ∷ []) c.requires.rest.1.waits_none))

pub returns-clause-served : goal.returns-clause-served
returns-clause-served g c =
    let queued : Queued = record { tag = 0; stamped = c.args.frame } in
    let middle : Worker = record { server = c.enqueue.new.self; ledger = c.args.self.now.ledger; writes = c.args.self.now.writes } in
    let waiting : IsWaiting middle c.args.frame = (queued, refl, ap (λ (s : ServerState). s.queue) c.enqueue.ensures ∙ ap (λ q. q ++ queued ∷ []) c.requires.rest.1.waits_none) in
    let same : tables_at middle ≡ tables_at c.args.self.now = ap (λ (s : ServerState). tables_of s.mappings c.args.self.now.ledger) c.enqueue.ensures in
    all_served c.args.context.now.rewriters c.args.context.now.classes c.args.context.now.index c.serve_head.result c.args.self.now middle c.serve_head.new.self queued c.args.frame same refl
    (λ chain rest known. queued_can c.args.context.now.rewriters c.args.context.now.classes c.args.context.now.index chain c.args.self.now.server c.enqueue.new.self c.args.self.now.ledger queued rest.can rest.waits_none c.enqueue.ensures c.requires.arrived known)
    waiting c.serve_head.ensures.served
