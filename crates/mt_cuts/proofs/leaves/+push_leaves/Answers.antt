-- The leaves of the parts, one part after the other.
use Rattle.std.proofs.Common.{◌≡◌, ◌+◌, ◌++◌, ℕ, suc, List, arith, ◌∙◌, sym, ap, subst, refl}
use Rattle.mt_packet.specs.Header.{number_of}
use Rattle.mt_packet.specs.declared.span.Span.{Span}
use Rattle.mt_cuts.specs.View.{tree_of}
use Rattle.mt_cuts.specs.Canonical.{IsRest}
use Rattle.mt_cuts.specs.Walk.{first_end}
use Rattle.mt_cuts.specs.Leaves.{leaves_of}
use Rattle.mt_cuts.proofs.Pushing.{pushing_place, pushing_part, pushing_more, pushing_last, one_leaf, pushing_start, pushing_above, on_ok}
use Rattle.mt_cuts.proofs.leaves.+push_leaves.Goals as goal

pub returns-in_default : goal.returns-in_default
returns-in_default t c =
    c.in_ok-push.ensures.items ∙ ap (λ xs. c.args.leaves.now.items ++ xs) (sym (one_leaf c.args.devices c.args.settled c.args.spans.now (tree_of c.args.tree.now) c.class.result c.requires.rest (sym c.in_default.ensures) (c.class.ensures (sym c.in_default.ensures))))

pub end-end-requires : goal.end-end-requires
end-end-requires t c =
    let s = pushing_start c.args.devices c.args.settled c.in-Some.field (tree_of c.args.tree.now) c.parts_at-place.result.ends.now c.parts_at-place.result.parts.now c.requires.rest (c.in-Some.ensures) c.parts_at-place.ensures in
    pushing_place _ _ _ _ _ s.1

pub push_leaves-requires : goal.push_leaves-requires
push_leaves-requires t c =
    let s = pushing_start c.args.devices c.args.settled c.in-Some.field (tree_of c.args.tree.now) c.parts_at-place.result.ends.now c.parts_at-place.result.parts.now c.requires.rest (c.in-Some.ensures) c.parts_at-place.ensures in
    let after : suc (number_of c.in-Some.field) ≡ c.number-after.result + 1 = omega (arith, c.number-after.ensures.number) in (
      omega (arith, s.0, c.number-after.ensures.number, c.number-after.ensures.below),
      (
        subst (λ (n : ℕ). IsRest c.args.devices n 0 (tree_of c.first.result.now)) after (pushing_part _ _ _ _ _ c.first.result.now c.loop-end.invariant.rest c.first.ensures),
        c.spans_up_to-here.ensures.whole,
      ),
    )

pub behind-place-requires : goal.behind-place-requires
behind-place-requires t c = pushing_place _ _ _ _ _ c.loop-end.invariant.rest

pub end-end-requires-in-loop-end : goal.end-end-requires-in-loop-end
end-end-requires-in-loop-end t c =
    let m = pushing_more c.args.devices c.in-Some.field c.loop-end.rest c.spans_behind-rest.result c.loop-end.place.ends.now c.behind-place.result.ends.now c.loop-end.place.parts.now c.behind-place.result.parts.now c.loop-end.leaves.items c.push_leaves.new.leaves.items (c.args.leaves.now.items ++ leaves_of c.args.spans.now (tree_of c.args.tree.now)) c.loop-end.end (first_end c.last_of-last.result c.behind-place.result.ends.now c.behind-place.result.parts.now) c.last_of-last.result c.first.result.now
    c.loop-end.invariant c.last_of-last.ensures.last c.loop-end-test.true c.first.ensures
    (subst (λ (spans : List Span). c.push_leaves.new.leaves.items ≡ c.loop-end.leaves.items ++ leaves_of spans (tree_of c.first.result.now)) c.spans_up_to-here.ensures.spans c.in_ok-push_leaves.ensures)
    c.spans_behind-rest.ensures.spans c.spans_behind-rest.ensures.whole c.behind-place.ensures.ends c.behind-place.ensures.parts refl in
    pushing_place _ _ _ _ _ m.1

pub loop-end-smaller : goal.loop-end-smaller
loop-end-smaller t c =
    let m = pushing_more c.args.devices c.in-Some.field c.loop-end.rest c.spans_behind-rest.result c.loop-end.place.ends.now c.behind-place.result.ends.now c.loop-end.place.parts.now c.behind-place.result.parts.now c.loop-end.leaves.items c.push_leaves.new.leaves.items (c.args.leaves.now.items ++ leaves_of c.args.spans.now (tree_of c.args.tree.now)) c.loop-end.end c.end-end-in-loop-end.result c.last_of-last.result c.first.result.now
    c.loop-end.invariant c.last_of-last.ensures.last c.loop-end-test.true c.first.ensures
    (subst (λ (spans : List Span). c.push_leaves.new.leaves.items ≡ c.loop-end.leaves.items ++ leaves_of spans (tree_of c.first.result.now)) c.spans_up_to-here.ensures.spans c.in_ok-push_leaves.ensures)
    c.spans_behind-rest.ensures.spans c.spans_behind-rest.ensures.whole c.behind-place.ensures.ends c.behind-place.ensures.parts c.end-end-in-loop-end.ensures in
    let above = pushing_above _ _ _ _ _ _ _ c.loop-end.end _ _ m.0 c.loop-end-test.true c.last_of-last.ensures.last m.1 in
    omega (arith, above, c.loop-end-test.true)

pub loop-end-init : goal.loop-end-init
loop-end-init t c =
    let s = pushing_start c.args.devices c.args.settled c.in-Some.field (tree_of c.args.tree.now) c.parts_at-place.result.ends.now c.parts_at-place.result.parts.now c.requires.rest (c.in-Some.ensures) c.parts_at-place.ensures in
    record { from = 0; rest = s.1; whole = c.requires.whole; is_end = c.end-end.ensures; pushed = ap (λ t. c.args.leaves.now.items ++ leaves_of c.args.spans.now t) c.parts_at-place.ensures }

pub loop-end-preserved : goal.loop-end-preserved
loop-end-preserved t c =
    let m = pushing_more c.args.devices c.in-Some.field c.loop-end.rest c.spans_behind-rest.result c.loop-end.place.ends.now c.behind-place.result.ends.now c.loop-end.place.parts.now c.behind-place.result.parts.now c.loop-end.leaves.items c.push_leaves.new.leaves.items (c.args.leaves.now.items ++ leaves_of c.args.spans.now (tree_of c.args.tree.now)) c.loop-end.end c.end-end-in-loop-end.result c.last_of-last.result c.first.result.now
    c.loop-end.invariant c.last_of-last.ensures.last c.loop-end-test.true c.first.ensures
    (subst (λ (spans : List Span). c.push_leaves.new.leaves.items ≡ c.loop-end.leaves.items ++ leaves_of spans (tree_of c.first.result.now)) c.spans_up_to-here.ensures.spans c.in_ok-push_leaves.ensures)
    c.spans_behind-rest.ensures.spans c.spans_behind-rest.ensures.whole c.behind-place.ensures.ends c.behind-place.ensures.parts c.end-end-in-loop-end.ensures in
    m.0

pub push_leaves-requires-2 : goal.push_leaves-requires-2
push_leaves-requires-2 t c =
    let s = pushing_start c.args.devices c.args.settled c.in-Some.field (tree_of c.args.tree.now) c.parts_at-place.result.ends.now c.parts_at-place.result.parts.now c.requires.rest (c.in-Some.ensures) c.parts_at-place.ensures in
    let after : suc (number_of c.in-Some.field) ≡ c.number-after.result + 1 = omega (arith, c.number-after.ensures.number) in (
      omega (arith, s.0, c.number-after.ensures.number, c.number-after.ensures.below),
      (
        subst (λ (n : ℕ). IsRest c.args.devices n 0 (tree_of c.first-2.result.now)) after (pushing_part _ _ _ _ _ c.first-2.result.now c.loop-end.invariant.rest c.first-2.ensures),
        c.loop-end.invariant.whole,
      ),
    )

pub returns : goal.returns
returns t c =
    on_ok c.push_leaves-2.result _ _
    (λ e. e ∙ pushing_last _ _ _ _ _ _ _ _ _ c.first-2.result.now c.loop-end.invariant c.last_of-last.ensures.last c.loop-end-test.false c.first-2.ensures)
    c.push_leaves-2.ensures
