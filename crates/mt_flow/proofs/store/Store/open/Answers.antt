use Rattle.std.proofs.Common.{◌≡◌, ◌∙◌, Some, true, false, sym, subst, refl, is_some}
use Rattle.std.specs.BTreeMap as tree
use Rattle.mt_flow.specs.Indexes.{IsAsBefore}
use Rattle.mt_flow.specs.Keys.{forward_cmp, reply_cmp}
use Rattle.mt_flow.specs.Mappings.{forward_key, reply_key, StandsReply}
use Rattle.mt_flow.specs.Tied.{lane_age}
use Rattle.mt_flow.proofs.Orders.{same_found}
use Rattle.mt_flow.proofs.Stored.{HasOpened, reply_stands, reply_free, lane_free, forward_free, opened_all, same_tied, list_of, same_list, counted_same, left_again, entered_at, left_at}
use Rattle.mt_flow.proofs.store.Store.open.Goals as goal

pub returns-then-contains_key-clause-clash : goal.returns-then-contains_key-clause-clash
returns-then-contains_key-clause-clash c = (
  λ _. subst (λ list. StandsReply list (reply_key c.args.mapping)) c.self.view_is (reply_stands c.self.inside.by_forward c.self.inside.indexes (reply_key c.args.mapping) c.self.invariant.0
      (subst (λ a. is_some (tree.get reply_cmp c.self.inside.indexes.by_reply a) ≡ true) c.reply_key-answer.ensures (sym c.contains_key.ensures ∙ c.if-contains_key.true))),
  λ _. refl,
)

pub returns-then-self-clause-clash : goal.returns-then-self-clause-clash
returns-then-self-clause-clash c = (
  λ wrong. absurd cc,
  λ stands. absurd ((reply_free c.self.inside.by_forward c.self.inside.indexes (reply_key c.args.mapping) c.self.invariant.0
      (subst (λ a. is_some (tree.get reply_cmp c.self.inside.indexes.by_reply a) ≡ false) c.reply_key-answer.ensures (sym c.contains_key.ensures ∙ c.if-contains_key.false))).1 (rw c.self.view_is stands)),
)

pub enter-requires-clause-lane_absent : goal.enter-requires-clause-lane_absent
enter-requires-clause-lane_absent c = rw c.lane_age-place.ensures (lane_free c.self.inside.by_forward c.self.inside.indexes c.self.inside.next c.args.mapping c.self.invariant.0 c.self.invariant.1)

pub invariant_of-self : goal.invariant_of-self
invariant_of-self c = (
  same_tied c.self.inside.by_forward c.self.inside.by_forward c.self.inside.indexes c.enter.new.self (λ key. refl) c.in-Err.ensures.err c.self.invariant.0,
  rw c.in-Err.ensures.err.order c.self.invariant.1,
  counted_same c.self.inside.indexes.counts c.enter.new.self.counts (list_of c.self.inside.by_forward c.self.inside.indexes) (list_of c.self.inside.by_forward c.enter.new.self) c.self.invariant.2 c.in-Err.ensures.err.count
      (same_list c.self.inside.by_forward c.self.inside.by_forward c.self.inside.indexes c.enter.new.self (λ key. refl) c.in-Err.ensures.err),
)

pub returns-in-Err-clause-clash : goal.returns-in-Err-clause-clash
returns-in-Err-clause-clash c = (
  λ wrong. absurd cc,
  λ stands. absurd ((reply_free c.self.inside.by_forward c.self.inside.indexes (reply_key c.args.mapping) c.self.invariant.0
      (subst (λ a. is_some (tree.get reply_cmp c.self.inside.indexes.by_reply a) ≡ false) c.reply_key-answer.ensures (sym c.contains_key.ensures ∙ c.if-contains_key.false))).1 (rw c.self.view_is stands)),
)

opened : (c : goal.After-self-1) → HasOpened c.self.inside.by_forward c.insert.new.self c.self.inside.indexes c.enter.new.self c.self.inside.next c.args.mapping
opened c =
    opened_all c.self.inside.by_forward c.insert.new.self c.self.inside.indexes c.enter.new.self c.self.inside.next c.args.mapping c.self.invariant.0 c.self.invariant.1
    (forward_free c.self.inside.by_forward c.self.inside.indexes (forward_key c.args.mapping) c.self.invariant.0 (rw c.self.view_is c.requires))
    (reply_free c.self.inside.by_forward c.self.inside.indexes (reply_key c.args.mapping) c.self.invariant.0
    (subst (λ a. is_some (tree.get reply_cmp c.self.inside.indexes.by_reply a) ≡ false) c.reply_key-answer.ensures (sym c.contains_key.ensures ∙ c.if-contains_key.false))).0
    (subst (λ k. tree.Updates forward_cmp c.self.inside.by_forward c.insert.new.self k (Some c.args.mapping)) c.forward_key-key.ensures c.in-Ok.ensures.updates)
    (entered_at c.self.inside.indexes c.enter.new.self _ _ _ _ _ _ c.reply_key-answer.ensures c.lane_age-place.ensures c.forward_key-key.ensures c.in_default.ensures.ok)

pub invariant_of-self-in-Ok : goal.invariant_of-self-in-Ok
invariant_of-self-in-Ok c = ((opened c).tied, (opened c).rising, (opened c).counted c.self.invariant.2)

pub returns-in-Ok-clause-opened : goal.returns-in-Ok-clause-opened
returns-in-Ok-clause-opened c = rw (← c.self.view_is) (opened c).listed_after

pub returns-in-Ok-clause-clash : goal.returns-in-Ok-clause-clash
returns-in-Ok-clause-clash c = (
  λ wrong. absurd cc,
  λ stands. absurd ((reply_free c.self.inside.by_forward c.self.inside.indexes (reply_key c.args.mapping) c.self.invariant.0
      (subst (λ a. is_some (tree.get reply_cmp c.self.inside.indexes.by_reply a) ≡ false) c.reply_key-answer.ensures (sym c.contains_key.ensures ∙ c.if-contains_key.false))).1 (rw c.self.view_is stands)),
)

as_before : (c : goal.After-leave) → IsAsBefore c.self.inside.indexes c.leave.new.self
as_before c =
    left_again c.self.inside.indexes c.enter.new.self c.leave.new.self (reply_key c.args.mapping) (lane_age c.args.mapping c.self.inside.next) (forward_key c.args.mapping)
    (reply_free c.self.inside.by_forward c.self.inside.indexes (reply_key c.args.mapping) c.self.invariant.0
    (subst (λ a. is_some (tree.get reply_cmp c.self.inside.indexes.by_reply a) ≡ false) c.reply_key-answer.ensures (sym c.contains_key.ensures ∙ c.if-contains_key.false))).0
    (lane_free c.self.inside.by_forward c.self.inside.indexes c.self.inside.next c.args.mapping c.self.invariant.0 c.self.invariant.1)
    c.self.invariant.1
    (entered_at c.self.inside.indexes c.enter.new.self _ _ _ _ _ _ c.reply_key-answer.ensures c.lane_age-place.ensures c.forward_key-key.ensures c.in_default.ensures.ok)
    (left_at c.enter.new.self c.leave.new.self _ _ _ _ c.reply_key-answer.ensures c.lane_age-place.ensures c.leave.ensures)

pub invariant_of-self-in-Err-insert : goal.invariant_of-self-in-Err-insert
invariant_of-self-in-Err-insert c = (
  same_tied c.self.inside.by_forward c.insert.new.self c.self.inside.indexes c.leave.new.self (same_found forward_cmp c.self.inside.by_forward c.insert.new.self c.in-Err-insert.ensures.err) (as_before c) c.self.invariant.0,
  rw (as_before c).order c.self.invariant.1,
  counted_same c.self.inside.indexes.counts c.leave.new.self.counts (list_of c.self.inside.by_forward c.self.inside.indexes) (list_of c.insert.new.self c.leave.new.self) c.self.invariant.2 (as_before c).count
      (same_list c.self.inside.by_forward c.insert.new.self c.self.inside.indexes c.leave.new.self (same_found forward_cmp c.self.inside.by_forward c.insert.new.self c.in-Err-insert.ensures.err) (as_before c)),
)

pub returns-in-Err-insert-clause-unchanged : goal.returns-in-Err-insert-clause-unchanged
returns-in-Err-insert-clause-unchanged c =
    same_list c.self.inside.by_forward c.insert.new.self c.self.inside.indexes c.leave.new.self (same_found forward_cmp c.self.inside.by_forward c.insert.new.self c.in-Err-insert.ensures.err) (as_before c) ∙ c.self.view_is

pub returns-in-Err-insert-clause-clash : goal.returns-in-Err-insert-clause-clash
returns-in-Err-insert-clause-clash c = (
  λ wrong. absurd cc,
  λ stands. absurd ((reply_free c.self.inside.by_forward c.self.inside.indexes (reply_key c.args.mapping) c.self.invariant.0
      (subst (λ a. is_some (tree.get reply_cmp c.self.inside.indexes.by_reply a) ≡ false) c.reply_key-answer.ensures (sym c.contains_key.ensures ∙ c.if-contains_key.false))).1 (rw c.self.view_is stands)),
)
