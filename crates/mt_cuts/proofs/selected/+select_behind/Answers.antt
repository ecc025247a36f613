-- The parts of the condition and of two trees, side by side.
use Rattle.std.proofs.Common.{◌≡◌, ◌<◌, ◌+◌, ℕ, suc, Some, arith, sym, subst}
use Rattle.mt_packet.specs.Header.{number_of}
use Rattle.mt_cuts.specs.View.{tree_of}
use Rattle.mt_cuts.specs.Canonical.{IsRest, last_of}
use Rattle.mt_cuts.proofs.Loops.{Start, starts, place, first_rest, if_ok, whole}
use Rattle.mt_cuts.proofs.Made.{made_ends}
use Rattle.mt_cuts.proofs.Selecting.{Step, step_ends, first_there, selecting_begins, Passed, selecting_passes, selecting_goes}
use Rattle.mt_cuts.proofs.selected.+select_behind.Goals as goal

pub seen_end-end-requires-clause-x : goal.seen_end-end-requires-clause-x
seen_end-end-requires-clause-x t c =
    let s : Start c.args.devices c.args.settled c.before-field.result (tree_of c.args.condition.now) (tree_of c.args.yes.now) (tree_of c.args.no) c.parts_at-x.result.ends.now c.parts_at-y.result.ends.now c.in_ok-z.z.ends.items c.parts_at-x.result.parts.now c.parts_at-y.result.parts.now c.in_ok-z.z.parts.items =
    starts _ _ _ _ _ _ _ _ _ _ _ _ (Some c.in-Some.own) c.top-2.result c.top-3.result c.earlier.result c.requires.condition c.requires.first c.requires.second c.in-Some.ensures c.top-2.ensures c.top-3.ensures c.earlier.ensures c.before-field.ensures c.parts_at-x.ensures c.parts_at-y.ensures c.in_ok-z.ensures.parts in
    place _ _ _ _ _ _ s.x

pub seen_end-end-requires-clause-y : goal.seen_end-end-requires-clause-y
seen_end-end-requires-clause-y t c =
    let s : Start c.args.devices c.args.settled c.before-field.result (tree_of c.args.condition.now) (tree_of c.args.yes.now) (tree_of c.args.no) c.parts_at-x.result.ends.now c.parts_at-y.result.ends.now c.in_ok-z.z.ends.items c.parts_at-x.result.parts.now c.parts_at-y.result.parts.now c.in_ok-z.z.parts.items =
    starts _ _ _ _ _ _ _ _ _ _ _ _ (Some c.in-Some.own) c.top-2.result c.top-3.result c.earlier.result c.requires.condition c.requires.first c.requires.second c.in-Some.ensures c.top-2.ensures c.top-3.ensures c.earlier.ensures c.before-field.ensures c.parts_at-x.ensures c.parts_at-y.ensures c.in_ok-z.ensures.parts in
    place _ _ _ _ _ _ s.y

pub seen_end-end-requires-clause-z : goal.seen_end-end-requires-clause-z
seen_end-end-requires-clause-z t c =
    let s : Start c.args.devices c.args.settled c.before-field.result (tree_of c.args.condition.now) (tree_of c.args.yes.now) (tree_of c.args.no) c.parts_at-x.result.ends.now c.parts_at-y.result.ends.now c.in_ok-z.z.ends.items c.parts_at-x.result.parts.now c.parts_at-y.result.parts.now c.in_ok-z.z.parts.items =
    starts _ _ _ _ _ _ _ _ _ _ _ _ (Some c.in-Some.own) c.top-2.result c.top-3.result c.earlier.result c.requires.condition c.requires.first c.requires.second c.in-Some.ensures c.top-2.ensures c.top-3.ensures c.earlier.ensures c.before-field.ensures c.parts_at-x.ensures c.parts_at-y.ensures c.in_ok-z.ensures.parts in
    place _ _ _ _ _ _ s.z

pub take-requires-clause-place : goal.take-requires-clause-place
take-requires-clause-place t c =
    let s : Start c.args.devices c.args.settled c.before-field.result (tree_of c.args.condition.now) (tree_of c.args.yes.now) (tree_of c.args.no) c.parts_at-x.result.ends.now c.parts_at-y.result.ends.now c.in_ok-z.z.ends.items c.parts_at-x.result.parts.now c.parts_at-y.result.parts.now c.in_ok-z.z.parts.items =
    starts _ _ _ _ _ _ _ _ _ _ _ _ (Some c.in-Some.own) c.top-2.result c.top-3.result c.earlier.result c.requires.condition c.requires.first c.requires.second c.in-Some.ensures c.top-2.ensures c.top-3.ensures c.earlier.ensures c.before-field.ensures c.parts_at-x.ensures c.parts_at-y.ensures c.in_ok-z.ensures.parts in
    place _ _ _ _ _ _ s.z

pub take-requires-clause-rest : goal.take-requires-clause-rest
take-requires-clause-rest t c =
    let s : Start c.args.devices c.args.settled c.before-field.result (tree_of c.args.condition.now) (tree_of c.args.yes.now) (tree_of c.args.no) c.parts_at-x.result.ends.now c.parts_at-y.result.ends.now c.in_ok-z.z.ends.items c.parts_at-x.result.parts.now c.parts_at-y.result.parts.now c.in_ok-z.z.parts.items =
    starts _ _ _ _ _ _ _ _ _ _ _ _ (Some c.in-Some.own) c.top-2.result c.top-3.result c.earlier.result c.requires.condition c.requires.first c.requires.second c.in-Some.ensures c.top-2.ensures c.top-3.ensures c.earlier.ensures c.before-field.ensures c.parts_at-x.ensures c.parts_at-y.ensures c.in_ok-z.ensures.parts in
    let behind : suc (number_of c.before-field.result) ≡ c.number-behind.result + 1 = omega (arith, c.number-behind.ensures.number) in
    λ part is. subst (λ (n : ℕ). IsRest c.args.devices n 0 (tree_of part)) behind (first_rest _ _ _ _ _ _ part s.z is)

pub select_behind-requires : goal.select_behind-requires
select_behind-requires t c =
    let s : Start c.args.devices c.args.settled c.before-field.result (tree_of c.args.condition.now) (tree_of c.args.yes.now) (tree_of c.args.no) c.parts_at-x.result.ends.now c.parts_at-y.result.ends.now c.in_ok-z.z.ends.items c.parts_at-x.result.parts.now c.parts_at-y.result.parts.now c.in_ok-z.z.parts.items =
    starts _ _ _ _ _ _ _ _ _ _ _ _ (Some c.in-Some.own) c.top-2.result c.top-3.result c.earlier.result c.requires.condition c.requires.first c.requires.second c.in-Some.ensures c.top-2.ensures c.top-3.ensures c.earlier.ensures c.before-field.ensures c.parts_at-x.ensures c.parts_at-y.ensures c.in_ok-z.ensures.parts in
    let behind : suc (number_of c.before-field.result) ≡ c.number-behind.result + 1 = omega (arith, c.number-behind.ensures.number) in (
      omega (arith, s.settled, c.number-behind.ensures.number, c.number-behind.ensures.below),
      (
        subst (λ (n : ℕ). IsRest c.args.devices n 0 (tree_of c.first-test.result.now)) behind (first_rest _ _ _ _ _ _ c.first-test.result.now s.x c.first-test.ensures),
        (
          subst (λ (n : ℕ). IsRest c.args.devices n 0 (tree_of c.first.result.now)) behind (first_rest _ _ _ _ _ _ c.first.result.now s.y c.first.ensures),
          (c.in_ok-taken.ensures.canonical, c.in_ok-taken.ensures.finishes),
        ),
      ),
    )

pub loop-end-init : goal.loop-end-init
loop-end-init t c =
    let s : Start c.args.devices c.args.settled c.before-field.result (tree_of c.args.condition.now) (tree_of c.args.yes.now) (tree_of c.args.no) c.parts_at-x.result.ends.now c.parts_at-y.result.ends.now c.in_ok-z.z.ends.items c.parts_at-x.result.parts.now c.parts_at-y.result.parts.now c.in_ok-z.z.parts.items =
    starts _ _ _ _ _ _ _ _ _ _ _ _ (Some c.in-Some.own) c.top-2.result c.top-3.result c.earlier.result c.requires.condition c.requires.first c.requires.second c.in-Some.ensures c.top-2.ensures c.top-3.ensures c.earlier.ensures c.before-field.ensures c.parts_at-x.ensures c.parts_at-y.ensures c.in_ok-z.ensures.parts in
    let behind : suc (number_of c.before-field.result) ≡ c.number-behind.result + 1 = omega (arith, c.number-behind.ensures.number) in
    let r = first_there c.in_ok-z.z.ends.items c.in_ok-z.z.parts.items (place _ _ _ _ _ _ s.z) in
    let step : Step c.args.devices c.before-field.result 0 (tree_of c.args.condition.now) (tree_of c.args.yes.now) (tree_of c.args.no) c.parts_at-x.result.ends.now c.parts_at-y.result.ends.now c.in_ok-z.z.ends.items c.parts_at-x.result.parts.now c.parts_at-y.result.parts.now c.in_ok-z.z.parts.items c.first-test.result.now c.first.result.now r.0 c.fails.result c.holds-holds.result c.seen_end-end.result (tree_of c.in_ok-taken.taken) =
    record {
      x = s.x;
      y = s.y;
      z = s.z;
      first = c.first-test.ensures;
      second = c.first.ensures;
      third = r.1;
      never = c.fails.ensures;
      always = c.holds-holds.ensures;
      least = rw c.last_of-last.ensures.last at c.seen_end-end.ensures;
      room = omega arith;
      kept = λ seen. c.in_ok-taken.ensures.value seen r.0 r.1;
    } in
    selecting_begins c.args.devices c.before-field.result _ _ _ _ _ _ _ _ _ _ _ c.new.result.items c.new-2.result.items c.in_ok-here.here c.first-test.result.now c.first.result.now r.0 c.fails.result c.holds-holds.result c.seen_end-end.result (tree_of c.in_ok-taken.taken) step
    (subst (λ (n : ℕ). IsRest c.args.devices n 0 (tree_of c.in_ok-here.here)) (sym behind) c.in_ok-here.ensures.canonical) c.in_ok-here.ensures.value
    c.in_ok-here.ensures.finishes c.new.ensures.items c.new-2.ensures.items (c.in_ok-z.ensures.finishes c.args.devices c.requires.finished)
    (rw c.last_of-last.ensures.last at c.in_ok-taken.ensures.ends) (rw c.last_of-last.ensures.last at c.in_ok-taken.ensures.parts)

pub behind-x-requires : goal.behind-x-requires
behind-x-requires t c =
    place _ _ _ _ _ _ c.loop-end.invariant.x.stands

pub past-y-requires : goal.past-y-requires
past-y-requires t c =
    place _ _ _ _ _ _ c.loop-end.invariant.y

pub first-test-requires-in-loop-end : goal.first-test-requires-in-loop-end
first-test-requires-in-loop-end t c =
    let lt : c.loop-end.end < last_of c.args.devices c.before-field.result = subst (λ (n : ℕ). c.loop-end.end < n) c.last_of-last.ensures.last c.loop-end-test.true in
    let m : Passed c.args.devices c.before-field.result c.loop-end.end (tree_of c.args.condition.now) (tree_of c.args.yes.now) (tree_of c.args.no) c.behind-x.result.ends.now c.past-y.result.ends.now c.loop-end.z.ends.items c.behind-x.result.parts.now c.past-y.result.parts.now c.loop-end.z.parts.items =
    selecting_passes _ _ _ _ _ _ _ _ _ _ _ _ _ _ _ _ _ _ _ c.loop-end.invariant lt c.behind-x.ensures.ends c.behind-x.ensures.parts c.past-y.ensures.ends c.past-y.ensures.parts in
    (place _ _ _ _ _ _ m.x).0

pub seen_end-least-requires-clause-x : goal.seen_end-least-requires-clause-x
seen_end-least-requires-clause-x t c =
    let lt : c.loop-end.end < last_of c.args.devices c.before-field.result = subst (λ (n : ℕ). c.loop-end.end < n) c.last_of-last.ensures.last c.loop-end-test.true in
    let m : Passed c.args.devices c.before-field.result c.loop-end.end (tree_of c.args.condition.now) (tree_of c.args.yes.now) (tree_of c.args.no) c.behind-x.result.ends.now c.past-y.result.ends.now c.loop-end.z.ends.items c.behind-x.result.parts.now c.past-y.result.parts.now c.loop-end.z.parts.items =
    selecting_passes _ _ _ _ _ _ _ _ _ _ _ _ _ _ _ _ _ _ _ c.loop-end.invariant lt c.behind-x.ensures.ends c.behind-x.ensures.parts c.past-y.ensures.ends c.past-y.ensures.parts in
    place _ _ _ _ _ _ m.x

pub seen_end-least-requires-clause-y : goal.seen_end-least-requires-clause-y
seen_end-least-requires-clause-y t c =
    let lt : c.loop-end.end < last_of c.args.devices c.before-field.result = subst (λ (n : ℕ). c.loop-end.end < n) c.last_of-last.ensures.last c.loop-end-test.true in
    let m : Passed c.args.devices c.before-field.result c.loop-end.end (tree_of c.args.condition.now) (tree_of c.args.yes.now) (tree_of c.args.no) c.behind-x.result.ends.now c.past-y.result.ends.now c.loop-end.z.ends.items c.behind-x.result.parts.now c.past-y.result.parts.now c.loop-end.z.parts.items =
    selecting_passes _ _ _ _ _ _ _ _ _ _ _ _ _ _ _ _ _ _ _ c.loop-end.invariant lt c.behind-x.ensures.ends c.behind-x.ensures.parts c.past-y.ensures.ends c.past-y.ensures.parts in
    place _ _ _ _ _ _ m.y

pub seen_end-least-requires-clause-z : goal.seen_end-least-requires-clause-z
seen_end-least-requires-clause-z t c =
    let lt : c.loop-end.end < last_of c.args.devices c.before-field.result = subst (λ (n : ℕ). c.loop-end.end < n) c.last_of-last.ensures.last c.loop-end-test.true in
    let m : Passed c.args.devices c.before-field.result c.loop-end.end (tree_of c.args.condition.now) (tree_of c.args.yes.now) (tree_of c.args.no) c.behind-x.result.ends.now c.past-y.result.ends.now c.loop-end.z.ends.items c.behind-x.result.parts.now c.past-y.result.parts.now c.loop-end.z.parts.items =
    selecting_passes _ _ _ _ _ _ _ _ _ _ _ _ _ _ _ _ _ _ _ c.loop-end.invariant lt c.behind-x.ensures.ends c.behind-x.ensures.parts c.past-y.ensures.ends c.past-y.ensures.parts in
    place _ _ _ _ _ _ m.z

pub take-requires-in-loop-end-clause-place : goal.take-requires-in-loop-end-clause-place
take-requires-in-loop-end-clause-place t c =
    let lt : c.loop-end.end < last_of c.args.devices c.before-field.result = subst (λ (n : ℕ). c.loop-end.end < n) c.last_of-last.ensures.last c.loop-end-test.true in
    let m : Passed c.args.devices c.before-field.result c.loop-end.end (tree_of c.args.condition.now) (tree_of c.args.yes.now) (tree_of c.args.no) c.behind-x.result.ends.now c.past-y.result.ends.now c.loop-end.z.ends.items c.behind-x.result.parts.now c.past-y.result.parts.now c.loop-end.z.parts.items =
    selecting_passes _ _ _ _ _ _ _ _ _ _ _ _ _ _ _ _ _ _ _ c.loop-end.invariant lt c.behind-x.ensures.ends c.behind-x.ensures.parts c.past-y.ensures.ends c.past-y.ensures.parts in
    place _ _ _ _ _ _ m.z

pub take-requires-in-loop-end-clause-rest : goal.take-requires-in-loop-end-clause-rest
take-requires-in-loop-end-clause-rest t c =
    let lt : c.loop-end.end < last_of c.args.devices c.before-field.result = subst (λ (n : ℕ). c.loop-end.end < n) c.last_of-last.ensures.last c.loop-end-test.true in
    let m : Passed c.args.devices c.before-field.result c.loop-end.end (tree_of c.args.condition.now) (tree_of c.args.yes.now) (tree_of c.args.no) c.behind-x.result.ends.now c.past-y.result.ends.now c.loop-end.z.ends.items c.behind-x.result.parts.now c.past-y.result.parts.now c.loop-end.z.parts.items =
    selecting_passes _ _ _ _ _ _ _ _ _ _ _ _ _ _ _ _ _ _ _ c.loop-end.invariant lt c.behind-x.ensures.ends c.behind-x.ensures.parts c.past-y.ensures.ends c.past-y.ensures.parts in
    let behind : suc (number_of c.before-field.result) ≡ c.number-behind.result + 1 = omega (arith, c.number-behind.ensures.number) in
    λ part is. subst (λ (n : ℕ). IsRest c.args.devices n 0 (tree_of part)) behind (first_rest _ _ _ _ _ _ part m.z is)

pub first-requires-in-loop-end : goal.first-requires-in-loop-end
first-requires-in-loop-end t c =
    let lt : c.loop-end.end < last_of c.args.devices c.before-field.result = subst (λ (n : ℕ). c.loop-end.end < n) c.last_of-last.ensures.last c.loop-end-test.true in
    let m : Passed c.args.devices c.before-field.result c.loop-end.end (tree_of c.args.condition.now) (tree_of c.args.yes.now) (tree_of c.args.no) c.behind-x.result.ends.now c.past-y.result.ends.now c.loop-end.z.ends.items c.behind-x.result.parts.now c.past-y.result.parts.now c.loop-end.z.parts.items =
    selecting_passes _ _ _ _ _ _ _ _ _ _ _ _ _ _ _ _ _ _ _ c.loop-end.invariant lt c.behind-x.ensures.ends c.behind-x.ensures.parts c.past-y.ensures.ends c.past-y.ensures.parts in
    (place _ _ _ _ _ _ m.y).0

pub select_behind-requires-in-loop-end : goal.select_behind-requires-in-loop-end
select_behind-requires-in-loop-end t c =
    let s : Start c.args.devices c.args.settled c.before-field.result (tree_of c.args.condition.now) (tree_of c.args.yes.now) (tree_of c.args.no) c.parts_at-x.result.ends.now c.parts_at-y.result.ends.now c.in_ok-z.z.ends.items c.parts_at-x.result.parts.now c.parts_at-y.result.parts.now c.in_ok-z.z.parts.items =
    starts _ _ _ _ _ _ _ _ _ _ _ _ (Some c.in-Some.own) c.top-2.result c.top-3.result c.earlier.result c.requires.condition c.requires.first c.requires.second c.in-Some.ensures c.top-2.ensures c.top-3.ensures c.earlier.ensures c.before-field.ensures c.parts_at-x.ensures c.parts_at-y.ensures c.in_ok-z.ensures.parts in
    let lt : c.loop-end.end < last_of c.args.devices c.before-field.result = subst (λ (n : ℕ). c.loop-end.end < n) c.last_of-last.ensures.last c.loop-end-test.true in
    let m : Passed c.args.devices c.before-field.result c.loop-end.end (tree_of c.args.condition.now) (tree_of c.args.yes.now) (tree_of c.args.no) c.behind-x.result.ends.now c.past-y.result.ends.now c.loop-end.z.ends.items c.behind-x.result.parts.now c.past-y.result.parts.now c.loop-end.z.parts.items =
    selecting_passes _ _ _ _ _ _ _ _ _ _ _ _ _ _ _ _ _ _ _ c.loop-end.invariant lt c.behind-x.ensures.ends c.behind-x.ensures.parts c.past-y.ensures.ends c.past-y.ensures.parts in
    let behind : suc (number_of c.before-field.result) ≡ c.number-behind.result + 1 = omega (arith, c.number-behind.ensures.number) in (
      omega (arith, s.settled, c.number-behind.ensures.number, c.number-behind.ensures.below),
      (
        subst (λ (n : ℕ). IsRest c.args.devices n 0 (tree_of c.first-test-in-loop-end.result.now)) behind (first_rest _ _ _ _ _ _ c.first-test-in-loop-end.result.now m.x c.first-test-in-loop-end.ensures),
        (
          subst (λ (n : ℕ). IsRest c.args.devices n 0 (tree_of c.first-in-loop-end.result.now)) behind (first_rest _ _ _ _ _ _ c.first-in-loop-end.result.now m.y c.first-in-loop-end.ensures),
          (c.in_ok-taken-2.ensures.canonical, c.in_ok-taken-2.ensures.finishes),
        ),
      ),
    )

pub loop-end-smaller : goal.loop-end-smaller
loop-end-smaller t c =
    let lt : c.loop-end.end < last_of c.args.devices c.before-field.result = subst (λ (n : ℕ). c.loop-end.end < n) c.last_of-last.ensures.last c.loop-end-test.true in
    let m : Passed c.args.devices c.before-field.result c.loop-end.end (tree_of c.args.condition.now) (tree_of c.args.yes.now) (tree_of c.args.no) c.behind-x.result.ends.now c.past-y.result.ends.now c.loop-end.z.ends.items c.behind-x.result.parts.now c.past-y.result.parts.now c.loop-end.z.parts.items =
    selecting_passes _ _ _ _ _ _ _ _ _ _ _ _ _ _ _ _ _ _ _ c.loop-end.invariant lt c.behind-x.ensures.ends c.behind-x.ensures.parts c.past-y.ensures.ends c.past-y.ensures.parts in
    let r = first_there c.loop-end.z.ends.items c.loop-end.z.parts.items (place _ _ _ _ _ _ m.z) in
    let step : Step c.args.devices c.before-field.result (suc c.loop-end.end) (tree_of c.args.condition.now) (tree_of c.args.yes.now) (tree_of c.args.no) c.behind-x.result.ends.now c.past-y.result.ends.now c.loop-end.z.ends.items c.behind-x.result.parts.now c.past-y.result.parts.now c.loop-end.z.parts.items c.first-test-in-loop-end.result.now c.first-in-loop-end.result.now r.0 c.fails-in-loop-end.result c.holds-holds-in-loop-end.result c.seen_end-least.result (tree_of c.in_ok-taken-2.taken) =
    record {
      x = m.x;
      y = m.y;
      z = m.z;
      first = c.first-test-in-loop-end.ensures;
      second = c.first-in-loop-end.ensures;
      third = r.1;
      never = c.fails-in-loop-end.ensures;
      always = c.holds-holds-in-loop-end.ensures;
      least = rw c.last_of-last.ensures.last at c.seen_end-least.ensures;
      room = lt;
      kept = λ seen. c.in_ok-taken-2.ensures.value seen r.0 r.1;
    } in
    let above = step_ends _ _ _ _ _ _ _ _ _ _ _ _ _ _ _ _ _ _ _ step in
    omega (arith, above.from_start, c.loop-end-test.true)

pub loop-end-preserved : goal.loop-end-preserved
loop-end-preserved t c =
    let lt : c.loop-end.end < last_of c.args.devices c.before-field.result = subst (λ (n : ℕ). c.loop-end.end < n) c.last_of-last.ensures.last c.loop-end-test.true in
    let m : Passed c.args.devices c.before-field.result c.loop-end.end (tree_of c.args.condition.now) (tree_of c.args.yes.now) (tree_of c.args.no) c.behind-x.result.ends.now c.past-y.result.ends.now c.loop-end.z.ends.items c.behind-x.result.parts.now c.past-y.result.parts.now c.loop-end.z.parts.items =
    selecting_passes _ _ _ _ _ _ _ _ _ _ _ _ _ _ _ _ _ _ _ c.loop-end.invariant lt c.behind-x.ensures.ends c.behind-x.ensures.parts c.past-y.ensures.ends c.past-y.ensures.parts in
    let behind : suc (number_of c.before-field.result) ≡ c.number-behind.result + 1 = omega (arith, c.number-behind.ensures.number) in
    let r = first_there c.loop-end.z.ends.items c.loop-end.z.parts.items (place _ _ _ _ _ _ m.z) in
    let step : Step c.args.devices c.before-field.result (suc c.loop-end.end) (tree_of c.args.condition.now) (tree_of c.args.yes.now) (tree_of c.args.no) c.behind-x.result.ends.now c.past-y.result.ends.now c.loop-end.z.ends.items c.behind-x.result.parts.now c.past-y.result.parts.now c.loop-end.z.parts.items c.first-test-in-loop-end.result.now c.first-in-loop-end.result.now r.0 c.fails-in-loop-end.result c.holds-holds-in-loop-end.result c.seen_end-least.result (tree_of c.in_ok-taken-2.taken) =
    record {
      x = m.x;
      y = m.y;
      z = m.z;
      first = c.first-test-in-loop-end.ensures;
      second = c.first-in-loop-end.ensures;
      third = r.1;
      never = c.fails-in-loop-end.ensures;
      always = c.holds-holds-in-loop-end.ensures;
      least = rw c.last_of-last.ensures.last at c.seen_end-least.ensures;
      room = lt;
      kept = λ seen. c.in_ok-taken-2.ensures.value seen r.0 r.1;
    } in
    selecting_goes c.args.devices c.before-field.result _ _ _ _ _ _ _ _ _ _ _ _ _ _ _ _ _ _ _ _ c.in_ok-here-2.here c.in_ok-part.part c.first-test-in-loop-end.result.now c.first-in-loop-end.result.now r.0 c.fails-in-loop-end.result c.holds-holds-in-loop-end.result c.loop-end.end c.seen_end-least.result (tree_of c.in_ok-taken-2.taken)
    c.loop-end.invariant lt step
    (subst (λ (n : ℕ). IsRest c.args.devices n 0 (tree_of c.in_ok-part.part)) (sym behind) c.in_ok-part.ensures.canonical) c.in_ok-part.ensures.value
    c.in_ok-part.ensures.finishes c.in_ok-here-2.ensures
    (rw c.last_of-last.ensures.last at c.in_ok-taken-2.ensures.ends) (rw c.last_of-last.ensures.last at c.in_ok-taken-2.ensures.parts)

pub returns-clause-canonical : goal.returns-clause-canonical
returns-clause-canonical t c =
    let s : Start c.args.devices c.args.settled c.before-field.result (tree_of c.args.condition.now) (tree_of c.args.yes.now) (tree_of c.args.no) c.parts_at-x.result.ends.now c.parts_at-y.result.ends.now c.in_ok-z.z.ends.items c.parts_at-x.result.parts.now c.parts_at-y.result.parts.now c.in_ok-z.z.parts.items =
    starts _ _ _ _ _ _ _ _ _ _ _ _ (Some c.in-Some.own) c.top-2.result c.top-3.result c.earlier.result c.requires.condition c.requires.first c.requires.second c.in-Some.ensures c.top-2.ensures c.top-3.ensures c.earlier.ensures c.before-field.ensures c.parts_at-x.ensures c.parts_at-y.ensures c.in_ok-z.ensures.parts in
    if_ok c.finish.result _ _ (λ tree is. (made_ends _ c.args.settled _ _ _ _ _ _ c.loop-end.invariant.made (whole c.last_of-last.ensures.last c.loop-end-test.false) s.settled (tree_of tree) is).0) c.finish.ensures.tree

pub returns-clause-value : goal.returns-clause-value
returns-clause-value t c =
    let s : Start c.args.devices c.args.settled c.before-field.result (tree_of c.args.condition.now) (tree_of c.args.yes.now) (tree_of c.args.no) c.parts_at-x.result.ends.now c.parts_at-y.result.ends.now c.in_ok-z.z.ends.items c.parts_at-x.result.parts.now c.parts_at-y.result.parts.now c.in_ok-z.z.parts.items =
    starts _ _ _ _ _ _ _ _ _ _ _ _ (Some c.in-Some.own) c.top-2.result c.top-3.result c.earlier.result c.requires.condition c.requires.first c.requires.second c.in-Some.ensures c.top-2.ensures c.top-3.ensures c.earlier.ensures c.before-field.ensures c.parts_at-x.ensures c.parts_at-y.ensures c.in_ok-z.ensures.parts in
    if_ok c.finish.result _ _ (λ tree is. (made_ends _ c.args.settled _ _ _ _ _ _ c.loop-end.invariant.made (whole c.last_of-last.ensures.last c.loop-end-test.false) s.settled (tree_of tree) is).1) c.finish.ensures.tree
