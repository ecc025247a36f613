use Rattle.std.proofs.Common.{◌≡◌, ◌∙◌, List, ◌∷◌, drop, sym, ap, subst, refl}
use Rattle.mt_packet.specs.Header.{AreBytes}
use Rattle.mt_packet.specs.declared.flow.Flow.{Flow}
use Rattle.mt_chain.specs.Fates.{packet_of}
use Rattle.mt_chain.specs.Run.{stamped_of}
use Rattle.mt_chain.specs.declared.run.Fate.{Fate}
use Rattle.mt_chain.specs.declared.run.Fate.TheVariants as fate
use Rattle.mt_terms.specs.Trees.{rewrite_form, tree_form}
use Rattle.mt_trees.specs.Meaning.{CanRewrite, rewritten}
use Rattle.mt_pipeline.proofs.Turned.{can_walk, first_of, head_first, may_finish, left_kept, ready, turn_ended, turn_kept}
use Rattle.mt_pipeline.specs.Serving.{Finishes}
use Rattle.mt_pipeline.specs.declared.server.Turn.{Turn}
use Rattle.mt_pipeline.specs.declared.server.Turn.TheVariants as turn
use Rattle.mt_pipeline.specs.declared.steps.End.TheVariants as end
use Rattle.mt_pipeline.proofs.serving.turn_of.Goals as goal

pub tree_of-tree-requires : goal.tree_of-tree-requires
tree_of-tree-requires g c =
    let rewriters = c.args.context.now.rewriters in
    let classes = c.args.context.now.classes in
    let index = c.args.context.now.index in
    let gone = c.args.gone.now in
    let queue = c.args.queue.now.items in
    let head = c.in-Some.head.now in
    let queue_is : queue ≡ head ∷ drop 1 queue = first_of queue head c.args.queue.now.len (c.in-Some.ensures.variant.0 refl) c.args.queue.now.ok.0 c.in-Some.ensures.lookup in
    let header = c.of-header.result in
    let header_is = c.of-header.ensures.header in
    let first = head_first c.requires.can.0 rewriters classes index head (drop 1 queue) queue c.args.resources.now c.args.ledger.now c.requires.can.1 queue_is header header_is in
    (c.requires.can.0, c.requires.can.1.made, first.0, first.1)

pub try_tree-requires-clause-ready : goal.try_tree-requires-clause-ready
try_tree-requires-clause-ready g c =
    let rewriters = c.args.context.now.rewriters in
    let classes = c.args.context.now.classes in
    let index = c.args.context.now.index in
    let gone = c.args.gone.now in
    let queue = c.args.queue.now.items in
    let head = c.in-Some.head.now in
    let queue_is : queue ≡ head ∷ drop 1 queue = first_of queue head c.args.queue.now.len (c.in-Some.ensures.variant.0 refl) c.args.queue.now.ok.0 c.in-Some.ensures.lookup in
    let header = c.of-header.result in
    let header_is = c.of-header.ensures.header in
    let bytes : AreBytes head.stamped.frame = subst AreBytes c.bytes.ensures c.are_bytes.ensures in
    let tree = tree_form c.tree_of-tree.result.now in
    ready c.turn_laws.ensures rewriters classes index gone head (drop 1 queue) queue queue_is bytes c.args.resources.now c.args.ledger.now header header_is tree c.tree_of-tree.ensures c.requires.can.0 c.requires.can.1 c.requires.gone

pub try_tree-requires-clause-walks : goal.try_tree-requires-clause-walks
try_tree-requires-clause-walks g c =
    let rewriters = c.args.context.now.rewriters in
    let classes = c.args.context.now.classes in
    let index = c.args.context.now.index in
    let gone = c.args.gone.now in
    let queue = c.args.queue.now.items in
    let head = c.in-Some.head.now in
    let queue_is : queue ≡ head ∷ drop 1 queue = first_of queue head c.args.queue.now.len (c.in-Some.ensures.variant.0 refl) c.args.queue.now.ok.0 c.in-Some.ensures.lookup in
    let header = c.of-header.result in
    let header_is = c.of-header.ensures.header in
    let bytes : AreBytes head.stamped.frame = subst AreBytes c.bytes.ensures c.are_bytes.ensures in
    let tree = tree_form c.tree_of-tree.result.now in
    can_walk c.turn_laws.ensures rewriters classes index gone head (drop 1 queue) queue queue_is bytes c.args.resources.now c.args.ledger.now header header_is tree c.tree_of-tree.ensures c.requires.can.0 c.requires.can.1

pub returns-in-Starved-clause-ended : goal.returns-in-Starved-clause-ended
returns-in-Starved-clause-ended g c =
    let rewriters = c.args.context.now.rewriters in
    let classes = c.args.context.now.classes in
    let index = c.args.context.now.index in
    let gone = c.args.gone.now in
    let queue = c.args.queue.now.items in
    let head = c.in-Some.head.now in
    let queue_is : queue ≡ head ∷ drop 1 queue = first_of queue head c.args.queue.now.len (c.in-Some.ensures.variant.0 refl) c.args.queue.now.ok.0 c.in-Some.ensures.lookup in
    let header = c.of-header.result in
    let header_is = c.of-header.ensures.header in
    let bytes : AreBytes head.stamped.frame = subst AreBytes c.bytes.ensures c.are_bytes.ensures in
    let tree = tree_form c.tree_of-tree.result.now in
    let try = rw c.in-Starved.is at c.in_ok-pool.ensures.tried in
    turn_ended c.turn_laws.ensures rewriters classes index gone head (drop 1 queue) queue queue_is bytes c.args.resources.now c.args.ledger.now header header_is tree c.tree_of-tree.ensures c.try_tree.new.passed.items c.try_tree.new.picks.items c.try_tree.new.resources c.try_tree.new.ledger queue c.args.writes.now c.args.writes.now (end.Starved c.in-Starved.pool) (turn.Starved c.in-Starved.pool) try (refl, refl, refl)

pub returns-in-Drop-clause-ended : goal.returns-in-Drop-clause-ended
returns-in-Drop-clause-ended g c =
    let rewriters = c.args.context.now.rewriters in
    let classes = c.args.context.now.classes in
    let index = c.args.context.now.index in
    let gone = c.args.gone.now in
    let queue = c.args.queue.now.items in
    let head = c.in-Some.head.now in
    let queue_is : queue ≡ head ∷ drop 1 queue = first_of queue head c.args.queue.now.len (c.in-Some.ensures.variant.0 refl) c.args.queue.now.ok.0 c.in-Some.ensures.lookup in
    let header = c.of-header.result in
    let header_is = c.of-header.ensures.header in
    let bytes : AreBytes head.stamped.frame = subst AreBytes c.bytes.ensures c.are_bytes.ensures in
    let tree = tree_form c.tree_of-tree.result.now in
    let try = rw c.in-Drop.is at c.in_ok-pool.ensures.tried in
    let last = c.take_head-last.result in
    let service : Turn = turn.Served (record { number = last.stamped.number; fate = fate.Dropped c.in-Drop.why; picks = c.try_tree.new.picks.items }) in
    let finishes : Finishes header c.try_tree.new.passed.items c.try_tree.new.picks.items queue c.take_head-last.new.queue.items c.args.writes.now c.args.writes.now (end.Drop c.in-Drop.why) service =
    record { head = last; queue_was = c.take_head-last.ensures.taken; turn_is = refl; counted = refl } in
    turn_ended c.turn_laws.ensures rewriters classes index gone head (drop 1 queue) queue queue_is bytes c.args.resources.now c.args.ledger.now header header_is tree c.tree_of-tree.ensures c.try_tree.new.passed.items c.try_tree.new.picks.items c.try_tree.new.resources c.try_tree.new.ledger c.take_head-last.new.queue.items c.args.writes.now c.args.writes.now (end.Drop c.in-Drop.why) service try finishes

pub returns-clause-ended : goal.returns-clause-ended
returns-clause-ended g c =
    let rewriters = c.args.context.now.rewriters in
    let classes = c.args.context.now.classes in
    let index = c.args.context.now.index in
    let gone = c.args.gone.now in
    let queue = c.args.queue.now.items in
    let head = c.in-Some.head.now in
    let queue_is : queue ≡ head ∷ drop 1 queue = first_of queue head c.args.queue.now.len (c.in-Some.ensures.variant.0 refl) c.args.queue.now.ok.0 c.in-Some.ensures.lookup in
    let header = c.of-header.result in
    let header_is = c.of-header.ensures.header in
    let bytes : AreBytes head.stamped.frame = subst AreBytes c.bytes.ensures c.are_bytes.ensures in
    let tree = tree_form c.tree_of-tree.result.now in
    let try = rw c.in-Leaf.is at c.in_ok-pool.ensures.tried in
    let first = c.take_head-first.result in
    let passed = c.try_tree.new.passed.items in
    let rewrite = c.in-Leaf.rewrite in
    let made = λ (f : Fate). turn.Served (record { number = first.stamped.number; fate = f; picks = c.try_tree.new.picks.items }) in
    let sent_is : c.sent-fate.result ≡ fate.Sent c.in-Leaf.device (stamped_of (rewritten header passed (rewrite_form rewrite.now) (packet_of first.stamped))) =
    c.sent-fate.ensures.fate ∙ ap (λ (l : List Flow). fate.Sent c.in-Leaf.device (stamped_of (rewritten header l (rewrite_form rewrite.now) (packet_of first.stamped)))) c.deref.ensures.value in
    let finishes : Finishes header passed c.try_tree.new.picks.items queue c.take_head-first.new.queue.items c.args.writes.now c.sent-fate.new.writes (end.Leaf rewrite c.in-Leaf.device) (made c.sent-fate.result) =
    record { head = first; queue_was = c.take_head-first.ensures.taken; turn_is = ap made sent_is; counted = c.sent-fate.ensures.counted } in
    turn_ended c.turn_laws.ensures rewriters classes index gone head (drop 1 queue) queue queue_is bytes c.args.resources.now c.args.ledger.now header header_is tree c.tree_of-tree.ensures c.try_tree.new.passed.items c.try_tree.new.picks.items c.try_tree.new.resources c.try_tree.new.ledger c.take_head-first.new.queue.items c.args.writes.now c.sent-fate.new.writes (end.Leaf rewrite c.in-Leaf.device) (made c.sent-fate.result) try finishes

pub returns-in-Starved-clause-kept : goal.returns-in-Starved-clause-kept
returns-in-Starved-clause-kept g c =
    let rewriters = c.args.context.now.rewriters in
    let classes = c.args.context.now.classes in
    let index = c.args.context.now.index in
    let gone = c.args.gone.now in
    let queue = c.args.queue.now.items in
    let head = c.in-Some.head.now in
    let queue_is : queue ≡ head ∷ drop 1 queue = first_of queue head c.args.queue.now.len (c.in-Some.ensures.variant.0 refl) c.args.queue.now.ok.0 c.in-Some.ensures.lookup in
    let header = c.of-header.result in
    let header_is = c.of-header.ensures.header in
    let bytes : AreBytes head.stamped.frame = subst AreBytes c.bytes.ensures c.are_bytes.ensures in
    let tree = tree_form c.tree_of-tree.result.now in
    let try = rw c.in-Starved.is at c.in_ok-pool.ensures.tried in
    turn_kept c.turn_laws.ensures rewriters classes index gone head (drop 1 queue) queue queue_is bytes c.args.resources.now c.args.ledger.now header header_is tree c.tree_of-tree.ensures c.try_tree.new.passed.items c.try_tree.new.picks.items c.try_tree.new.resources c.try_tree.new.ledger queue c.args.writes.now c.args.writes.now (end.Starved c.in-Starved.pool) (turn.Starved c.in-Starved.pool) try (refl, refl, refl) c.try_tree.ensures.ready

pub returns-in-Drop-clause-kept : goal.returns-in-Drop-clause-kept
returns-in-Drop-clause-kept g c =
    let rewriters = c.args.context.now.rewriters in
    let classes = c.args.context.now.classes in
    let index = c.args.context.now.index in
    let gone = c.args.gone.now in
    let queue = c.args.queue.now.items in
    let head = c.in-Some.head.now in
    let queue_is : queue ≡ head ∷ drop 1 queue = first_of queue head c.args.queue.now.len (c.in-Some.ensures.variant.0 refl) c.args.queue.now.ok.0 c.in-Some.ensures.lookup in
    let header = c.of-header.result in
    let header_is = c.of-header.ensures.header in
    let bytes : AreBytes head.stamped.frame = subst AreBytes c.bytes.ensures c.are_bytes.ensures in
    let tree = tree_form c.tree_of-tree.result.now in
    let try = rw c.in-Drop.is at c.in_ok-pool.ensures.tried in
    let last = c.take_head-last.result in
    let service : Turn = turn.Served (record { number = last.stamped.number; fate = fate.Dropped c.in-Drop.why; picks = c.try_tree.new.picks.items }) in
    let finishes : Finishes header c.try_tree.new.passed.items c.try_tree.new.picks.items queue c.take_head-last.new.queue.items c.args.writes.now c.args.writes.now (end.Drop c.in-Drop.why) service =
    record { head = last; queue_was = c.take_head-last.ensures.taken; turn_is = refl; counted = refl } in
    turn_kept c.turn_laws.ensures rewriters classes index gone head (drop 1 queue) queue queue_is bytes c.args.resources.now c.args.ledger.now header header_is tree c.tree_of-tree.ensures c.try_tree.new.passed.items c.try_tree.new.picks.items c.try_tree.new.resources c.try_tree.new.ledger c.take_head-last.new.queue.items c.args.writes.now c.args.writes.now (end.Drop c.in-Drop.why) service try finishes c.try_tree.ensures.ready

pub returns-clause-kept : goal.returns-clause-kept
returns-clause-kept g c =
    let rewriters = c.args.context.now.rewriters in
    let classes = c.args.context.now.classes in
    let index = c.args.context.now.index in
    let gone = c.args.gone.now in
    let queue = c.args.queue.now.items in
    let head = c.in-Some.head.now in
    let queue_is : queue ≡ head ∷ drop 1 queue = first_of queue head c.args.queue.now.len (c.in-Some.ensures.variant.0 refl) c.args.queue.now.ok.0 c.in-Some.ensures.lookup in
    let header = c.of-header.result in
    let header_is = c.of-header.ensures.header in
    let bytes : AreBytes head.stamped.frame = subst AreBytes c.bytes.ensures c.are_bytes.ensures in
    let tree = tree_form c.tree_of-tree.result.now in
    let try = rw c.in-Leaf.is at c.in_ok-pool.ensures.tried in
    let first = c.take_head-first.result in
    let passed = c.try_tree.new.passed.items in
    let rewrite = c.in-Leaf.rewrite in
    let made = λ (f : Fate). turn.Served (record { number = first.stamped.number; fate = f; picks = c.try_tree.new.picks.items }) in
    let sent_is : c.sent-fate.result ≡ fate.Sent c.in-Leaf.device (stamped_of (rewritten header passed (rewrite_form rewrite.now) (packet_of first.stamped))) =
    c.sent-fate.ensures.fate ∙ ap (λ (l : List Flow). fate.Sent c.in-Leaf.device (stamped_of (rewritten header l (rewrite_form rewrite.now) (packet_of first.stamped)))) c.deref.ensures.value in
    let finishes : Finishes header passed c.try_tree.new.picks.items queue c.take_head-first.new.queue.items c.args.writes.now c.sent-fate.new.writes (end.Leaf rewrite c.in-Leaf.device) (made c.sent-fate.result) =
    record { head = first; queue_was = c.take_head-first.ensures.taken; turn_is = ap made sent_is; counted = c.sent-fate.ensures.counted } in
    turn_kept c.turn_laws.ensures rewriters classes index gone head (drop 1 queue) queue queue_is bytes c.args.resources.now c.args.ledger.now header header_is tree c.tree_of-tree.ensures c.try_tree.new.passed.items c.try_tree.new.picks.items c.try_tree.new.resources c.try_tree.new.ledger c.take_head-first.new.queue.items c.args.writes.now c.sent-fate.new.writes (end.Leaf rewrite c.in-Leaf.device) (made c.sent-fate.result) try finishes c.try_tree.ensures.ready

pub sent-fate-requires-clause-untagged : goal.sent-fate-requires-clause-untagged
sent-fate-requires-clause-untagged g c =
    let rewriters = c.args.context.now.rewriters in
    let classes = c.args.context.now.classes in
    let index = c.args.context.now.index in
    let gone = c.args.gone.now in
    let queue = c.args.queue.now.items in
    let head = c.in-Some.head.now in
    let queue_is : queue ≡ head ∷ drop 1 queue = first_of queue head c.args.queue.now.len (c.in-Some.ensures.variant.0 refl) c.args.queue.now.ok.0 c.in-Some.ensures.lookup in
    let header = c.of-header.result in
    let header_is = c.of-header.ensures.header in
    let bytes : AreBytes head.stamped.frame = subst AreBytes c.bytes.ensures c.are_bytes.ensures in
    let tree = tree_form c.tree_of-tree.result.now in
    let try = rw c.in-Leaf.is at c.in_ok-pool.ensures.tried in
    let may = may_finish c.turn_laws.ensures rewriters classes index gone head (drop 1 queue) queue queue_is bytes c.args.resources.now c.args.ledger.now header header_is tree c.tree_of-tree.ensures c.try_tree.new.passed.items c.try_tree.new.picks.items c.try_tree.new.resources c.try_tree.new.ledger queue c.args.writes.now c.args.writes.now (end.Leaf c.in-Leaf.rewrite c.in-Leaf.device) try c.requires.can.0 c.requires.can.1 in
    may.0

pub sent-fate-requires-clause-tagless : goal.sent-fate-requires-clause-tagless
sent-fate-requires-clause-tagless g c =
    let rewriters = c.args.context.now.rewriters in
    let classes = c.args.context.now.classes in
    let index = c.args.context.now.index in
    let gone = c.args.gone.now in
    let queue = c.args.queue.now.items in
    let head = c.in-Some.head.now in
    let queue_is : queue ≡ head ∷ drop 1 queue = first_of queue head c.args.queue.now.len (c.in-Some.ensures.variant.0 refl) c.args.queue.now.ok.0 c.in-Some.ensures.lookup in
    let header = c.of-header.result in
    let header_is = c.of-header.ensures.header in
    let bytes : AreBytes head.stamped.frame = subst AreBytes c.bytes.ensures c.are_bytes.ensures in
    let tree = tree_form c.tree_of-tree.result.now in
    let try = rw c.in-Leaf.is at c.in_ok-pool.ensures.tried in
    let may = may_finish c.turn_laws.ensures rewriters classes index gone head (drop 1 queue) queue queue_is bytes c.args.resources.now c.args.ledger.now header header_is tree c.tree_of-tree.ensures c.try_tree.new.passed.items c.try_tree.new.picks.items c.try_tree.new.resources c.try_tree.new.ledger queue c.args.writes.now c.args.writes.now (end.Leaf c.in-Leaf.rewrite c.in-Leaf.device) try c.requires.can.0 c.requires.can.1 in
    may.1

pub sent-fate-requires-clause-allowed : goal.sent-fate-requires-clause-allowed
sent-fate-requires-clause-allowed g c =
    let rewriters = c.args.context.now.rewriters in
    let classes = c.args.context.now.classes in
    let index = c.args.context.now.index in
    let gone = c.args.gone.now in
    let queue = c.args.queue.now.items in
    let head = c.in-Some.head.now in
    let queue_is : queue ≡ head ∷ drop 1 queue = first_of queue head c.args.queue.now.len (c.in-Some.ensures.variant.0 refl) c.args.queue.now.ok.0 c.in-Some.ensures.lookup in
    let header = c.of-header.result in
    let header_is = c.of-header.ensures.header in
    let bytes : AreBytes head.stamped.frame = subst AreBytes c.bytes.ensures c.are_bytes.ensures in
    let tree = tree_form c.tree_of-tree.result.now in
    let try = rw c.in-Leaf.is at c.in_ok-pool.ensures.tried in
    let may = may_finish c.turn_laws.ensures rewriters classes index gone head (drop 1 queue) queue queue_is bytes c.args.resources.now c.args.ledger.now header header_is tree c.tree_of-tree.ensures c.try_tree.new.passed.items c.try_tree.new.picks.items c.try_tree.new.resources c.try_tree.new.ledger queue c.args.writes.now c.args.writes.now (end.Leaf c.in-Leaf.rewrite c.in-Leaf.device) try c.requires.can.0 c.requires.can.1 in
    subst (λ (l : List Flow). CanRewrite header l (rewrite_form c.in-Leaf.rewrite.now) (packet_of c.take_head-first.result.stamped)) (sym c.deref.ensures.value) (may.2 c.take_head-first.result c.take_head-first.new.queue.items c.take_head-first.ensures.taken)

pub returns-in_err-pool-clause-kept : goal.returns-in_err-pool-clause-kept
returns-in_err-pool-clause-kept g c =
    let rewriters = c.args.context.now.rewriters in
    let queue = c.args.queue.now.items in
    let head = c.in-Some.head.now in
    let queue_is : queue ≡ head ∷ drop 1 queue = first_of queue head c.args.queue.now.len (c.in-Some.ensures.variant.0 refl) c.args.queue.now.ok.0 c.in-Some.ensures.lookup in
    let bytes : AreBytes head.stamped.frame = subst AreBytes c.bytes.ensures c.are_bytes.ensures in
    left_kept c.turn_laws.ensures rewriters c.args.context.now.classes c.args.context.now.index c.args.gone.now head (drop 1 queue) queue queue_is bytes c.args.resources.now c.args.ledger.now c.of-header.result c.of-header.ensures.header (tree_form c.tree_of-tree.result.now) c.tree_of-tree.ensures
    c.try_tree.new.resources c.try_tree.new.ledger c.in_err-pool.ensures.left c.try_tree.ensures.ready
