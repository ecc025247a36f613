-- The parts of three trees, side by side.
use Rattle.std.proofs.Common.{◌≡◌, ◌<◌, ◌+◌, ℕ, suc, arith, sym, subst}
use Rattle.mt_packet.specs.Header.{number_of}
use Rattle.mt_cuts.specs.View.{tree_of}
use Rattle.mt_cuts.specs.Canonical.{IsRest, last_of}
use Rattle.mt_cuts.proofs.Loops.{Start, starts, Moved, moves, place, first_rest, loop_begins, loop_goes, loop_keeps, loop_ends, Keeps, least_above, if_ok, whole}
use Rattle.mt_cuts.proofs.merged.+merge_behind.Goals as goal

pub least_end-end-requires-clause-x : goal.least_end-end-requires-clause-x
least_end-end-requires-clause-x g t c =
    let s : Start c.args.devices c.args.settled c.in-Some.field (tree_of c.args.a.now) (tree_of c.args.b.now) (tree_of c.args.c.now) c.parts_at-x.result.ends.now c.parts_at-y.result.ends.now c.parts_at-z.result.ends.now c.parts_at-x.result.parts.now c.parts_at-y.result.parts.now c.parts_at-z.result.parts.now =
    starts _ _ _ _ _ _ _ _ _ _ _ _ c.top.result c.top-2.result c.top-3.result c.earlier.result c.requires.first c.requires.second c.requires.third c.top.ensures c.top-2.ensures c.top-3.ensures c.earlier.ensures c.in-Some.ensures c.parts_at-x.ensures c.parts_at-y.ensures c.parts_at-z.ensures in
    place _ _ _ _ _ _ s.x

pub least_end-end-requires-clause-y : goal.least_end-end-requires-clause-y
least_end-end-requires-clause-y g t c =
    let s : Start c.args.devices c.args.settled c.in-Some.field (tree_of c.args.a.now) (tree_of c.args.b.now) (tree_of c.args.c.now) c.parts_at-x.result.ends.now c.parts_at-y.result.ends.now c.parts_at-z.result.ends.now c.parts_at-x.result.parts.now c.parts_at-y.result.parts.now c.parts_at-z.result.parts.now =
    starts _ _ _ _ _ _ _ _ _ _ _ _ c.top.result c.top-2.result c.top-3.result c.earlier.result c.requires.first c.requires.second c.requires.third c.top.ensures c.top-2.ensures c.top-3.ensures c.earlier.ensures c.in-Some.ensures c.parts_at-x.ensures c.parts_at-y.ensures c.parts_at-z.ensures in
    place _ _ _ _ _ _ s.y

pub least_end-end-requires-clause-z : goal.least_end-end-requires-clause-z
least_end-end-requires-clause-z g t c =
    let s : Start c.args.devices c.args.settled c.in-Some.field (tree_of c.args.a.now) (tree_of c.args.b.now) (tree_of c.args.c.now) c.parts_at-x.result.ends.now c.parts_at-y.result.ends.now c.parts_at-z.result.ends.now c.parts_at-x.result.parts.now c.parts_at-y.result.parts.now c.parts_at-z.result.parts.now =
    starts _ _ _ _ _ _ _ _ _ _ _ _ c.top.result c.top-2.result c.top-3.result c.earlier.result c.requires.first c.requires.second c.requires.third c.top.ensures c.top-2.ensures c.top-3.ensures c.earlier.ensures c.in-Some.ensures c.parts_at-x.ensures c.parts_at-y.ensures c.parts_at-z.ensures in
    place _ _ _ _ _ _ s.z

pub merge_behind-requires : goal.merge_behind-requires
merge_behind-requires g t c κs within =
    let s : Start c.args.devices c.args.settled c.in-Some.field (tree_of c.args.a.now) (tree_of c.args.b.now) (tree_of c.args.c.now) c.parts_at-x.result.ends.now c.parts_at-y.result.ends.now c.parts_at-z.result.ends.now c.parts_at-x.result.parts.now c.parts_at-y.result.parts.now c.parts_at-z.result.parts.now =
    starts _ _ _ _ _ _ _ _ _ _ _ _ c.top.result c.top-2.result c.top-3.result c.earlier.result c.requires.first c.requires.second c.requires.third c.top.ensures c.top-2.ensures c.top-3.ensures c.earlier.ensures c.in-Some.ensures c.parts_at-x.ensures c.parts_at-y.ensures c.parts_at-z.ensures in
    let behind : suc (number_of c.in-Some.field) ≡ c.number-behind.result + 1 = omega (arith, c.number-behind.ensures.number) in (
      omega (arith, s.settled, c.number-behind.ensures.number, c.number-behind.ensures.below),
      (
        within,
        (
          subst (λ (n : ℕ). IsRest c.args.devices n 0 (tree_of c.first.result.now)) behind (first_rest _ _ _ _ _ _ c.first.result.now s.x c.first.ensures),
          (
            subst (λ (n : ℕ). IsRest c.args.devices n 0 (tree_of c.first-2.result.now)) behind (first_rest _ _ _ _ _ _ c.first-2.result.now s.y c.first-2.ensures),
            subst (λ (n : ℕ). IsRest c.args.devices n 0 (tree_of c.first-3.result.now)) behind (first_rest _ _ _ _ _ _ c.first-3.result.now s.z c.first-3.ensures),
          ),
        ),
      ),
    )

pub loop-end-init : goal.loop-end-init
loop-end-init g t c =
    let s : Start c.args.devices c.args.settled c.in-Some.field (tree_of c.args.a.now) (tree_of c.args.b.now) (tree_of c.args.c.now) c.parts_at-x.result.ends.now c.parts_at-y.result.ends.now c.parts_at-z.result.ends.now c.parts_at-x.result.parts.now c.parts_at-y.result.parts.now c.parts_at-z.result.parts.now =
    starts _ _ _ _ _ _ _ _ _ _ _ _ c.top.result c.top-2.result c.top-3.result c.earlier.result c.requires.first c.requires.second c.requires.third c.top.ensures c.top-2.ensures c.top-3.ensures c.earlier.ensures c.in-Some.ensures c.parts_at-x.ensures c.parts_at-y.ensures c.parts_at-z.ensures in
    let behind : suc (number_of c.in-Some.field) ≡ c.number-behind.result + 1 = omega (arith, c.number-behind.ensures.number) in
    let least = rw c.last_of-last.ensures.last at c.least_end-end.ensures in (
      loop_begins c.args.devices c.in-Some.field (g.F.Chooser.chooses c.merge_behind.new.choice) _ _ _ _ _ _ _ _ _ c.new.result.items c.new-2.result.items c.in_ok-here.here c.first.result.now c.first-2.result.now c.first-3.result.now c.least_end-end.result
          s.x s.y s.z c.first.ensures c.first-2.ensures c.first-3.ensures least
          (subst (λ (n : ℕ). IsRest c.args.devices n 0 (tree_of c.in_ok-here.here)) (sym behind) c.in_ok-here.ensures.canonical) c.in_ok-here.ensures.value c.in_ok-here.ensures.finishes c.new.ensures.items c.new-2.ensures.items,
      c.in_ok-here.ensures.keeps,
    )

pub behind-x-requires : goal.behind-x-requires
behind-x-requires g t c = place _ _ _ _ _ _ c.loop-end.invariant.0.x.stands

pub behind-y-requires : goal.behind-y-requires
behind-y-requires g t c = place _ _ _ _ _ _ c.loop-end.invariant.0.y.stands

pub behind-z-requires : goal.behind-z-requires
behind-z-requires g t c = place _ _ _ _ _ _ c.loop-end.invariant.0.z.stands

pub merge_behind-requires-in-loop-end : goal.merge_behind-requires-in-loop-end
merge_behind-requires-in-loop-end g t c κs within =
    let s : Start c.args.devices c.args.settled c.in-Some.field (tree_of c.args.a.now) (tree_of c.args.b.now) (tree_of c.args.c.now) c.parts_at-x.result.ends.now c.parts_at-y.result.ends.now c.parts_at-z.result.ends.now c.parts_at-x.result.parts.now c.parts_at-y.result.parts.now c.parts_at-z.result.parts.now =
    starts _ _ _ _ _ _ _ _ _ _ _ _ c.top.result c.top-2.result c.top-3.result c.earlier.result c.requires.first c.requires.second c.requires.third c.top.ensures c.top-2.ensures c.top-3.ensures c.earlier.ensures c.in-Some.ensures c.parts_at-x.ensures c.parts_at-y.ensures c.parts_at-z.ensures in
    let lt : c.loop-end.end < last_of c.args.devices c.in-Some.field = subst (λ (n : ℕ). c.loop-end.end < n) c.last_of-last.ensures.last c.loop-end-test.true in
    let m : Moved c.args.devices c.in-Some.field c.loop-end.end (tree_of c.args.a.now) (tree_of c.args.b.now) (tree_of c.args.c.now) c.behind-x.result.ends.now c.behind-y.result.ends.now c.behind-z.result.ends.now c.behind-x.result.parts.now c.behind-y.result.parts.now c.behind-z.result.parts.now =
    moves _ _ _ _ _ _ _ _ _ _ _ _ _ _ _ _ _ _ _ _ _ _ c.loop-end.invariant.0 lt c.behind-x.ensures.ends c.behind-x.ensures.parts c.behind-y.ensures.ends c.behind-y.ensures.parts c.behind-z.ensures.ends c.behind-z.ensures.parts in
    let behind : suc (number_of c.in-Some.field) ≡ c.number-behind.result + 1 = omega (arith, c.number-behind.ensures.number) in (
      omega (arith, s.settled, c.number-behind.ensures.number, c.number-behind.ensures.below),
      (
        within,
        (
          subst (λ (n : ℕ). IsRest c.args.devices n 0 (tree_of c.first-in-loop-end.result.now)) behind (first_rest _ _ _ _ _ _ c.first-in-loop-end.result.now m.x c.first-in-loop-end.ensures),
          (
            subst (λ (n : ℕ). IsRest c.args.devices n 0 (tree_of c.first-in-loop-end-2.result.now)) behind (first_rest _ _ _ _ _ _ c.first-in-loop-end-2.result.now m.y c.first-in-loop-end-2.ensures),
            subst (λ (n : ℕ). IsRest c.args.devices n 0 (tree_of c.first-in-loop-end-3.result.now)) behind (first_rest _ _ _ _ _ _ c.first-in-loop-end-3.result.now m.z c.first-in-loop-end-3.ensures),
          ),
        ),
      ),
    )

pub least_end-end-requires-in-loop-end-clause-x : goal.least_end-end-requires-in-loop-end-clause-x
least_end-end-requires-in-loop-end-clause-x g t c =
    let lt : c.loop-end.end < last_of c.args.devices c.in-Some.field = subst (λ (n : ℕ). c.loop-end.end < n) c.last_of-last.ensures.last c.loop-end-test.true in
    let m : Moved c.args.devices c.in-Some.field c.loop-end.end (tree_of c.args.a.now) (tree_of c.args.b.now) (tree_of c.args.c.now) c.behind-x.result.ends.now c.behind-y.result.ends.now c.behind-z.result.ends.now c.behind-x.result.parts.now c.behind-y.result.parts.now c.behind-z.result.parts.now =
    moves _ _ _ _ _ _ _ _ _ _ _ _ _ _ _ _ _ _ _ _ _ _ c.loop-end.invariant.0 lt c.behind-x.ensures.ends c.behind-x.ensures.parts c.behind-y.ensures.ends c.behind-y.ensures.parts c.behind-z.ensures.ends c.behind-z.ensures.parts in
    place _ _ _ _ _ _ m.x

pub least_end-end-requires-in-loop-end-clause-y : goal.least_end-end-requires-in-loop-end-clause-y
least_end-end-requires-in-loop-end-clause-y g t c =
    let lt : c.loop-end.end < last_of c.args.devices c.in-Some.field = subst (λ (n : ℕ). c.loop-end.end < n) c.last_of-last.ensures.last c.loop-end-test.true in
    let m : Moved c.args.devices c.in-Some.field c.loop-end.end (tree_of c.args.a.now) (tree_of c.args.b.now) (tree_of c.args.c.now) c.behind-x.result.ends.now c.behind-y.result.ends.now c.behind-z.result.ends.now c.behind-x.result.parts.now c.behind-y.result.parts.now c.behind-z.result.parts.now =
    moves _ _ _ _ _ _ _ _ _ _ _ _ _ _ _ _ _ _ _ _ _ _ c.loop-end.invariant.0 lt c.behind-x.ensures.ends c.behind-x.ensures.parts c.behind-y.ensures.ends c.behind-y.ensures.parts c.behind-z.ensures.ends c.behind-z.ensures.parts in
    place _ _ _ _ _ _ m.y

pub least_end-end-requires-in-loop-end-clause-z : goal.least_end-end-requires-in-loop-end-clause-z
least_end-end-requires-in-loop-end-clause-z g t c =
    let lt : c.loop-end.end < last_of c.args.devices c.in-Some.field = subst (λ (n : ℕ). c.loop-end.end < n) c.last_of-last.ensures.last c.loop-end-test.true in
    let m : Moved c.args.devices c.in-Some.field c.loop-end.end (tree_of c.args.a.now) (tree_of c.args.b.now) (tree_of c.args.c.now) c.behind-x.result.ends.now c.behind-y.result.ends.now c.behind-z.result.ends.now c.behind-x.result.parts.now c.behind-y.result.parts.now c.behind-z.result.parts.now =
    moves _ _ _ _ _ _ _ _ _ _ _ _ _ _ _ _ _ _ _ _ _ _ c.loop-end.invariant.0 lt c.behind-x.ensures.ends c.behind-x.ensures.parts c.behind-y.ensures.ends c.behind-y.ensures.parts c.behind-z.ensures.ends c.behind-z.ensures.parts in
    place _ _ _ _ _ _ m.z

pub loop-end-smaller : goal.loop-end-smaller
loop-end-smaller g t c =
    let lt : c.loop-end.end < last_of c.args.devices c.in-Some.field = subst (λ (n : ℕ). c.loop-end.end < n) c.last_of-last.ensures.last c.loop-end-test.true in
    let m : Moved c.args.devices c.in-Some.field c.loop-end.end (tree_of c.args.a.now) (tree_of c.args.b.now) (tree_of c.args.c.now) c.behind-x.result.ends.now c.behind-y.result.ends.now c.behind-z.result.ends.now c.behind-x.result.parts.now c.behind-y.result.parts.now c.behind-z.result.parts.now =
    moves _ _ _ _ _ _ _ _ _ _ _ _ _ _ _ _ _ _ _ _ _ _ c.loop-end.invariant.0 lt c.behind-x.ensures.ends c.behind-x.ensures.parts c.behind-y.ensures.ends c.behind-y.ensures.parts c.behind-z.ensures.ends c.behind-z.ensures.parts in
    let least = rw c.last_of-last.ensures.last at c.least_end-end-in-loop-end.ensures in
    let above = least_above _ _ _ c.least_end-end-in-loop-end.result _ _ _ _ _ _ _ _ _ m lt least in
    omega (arith, above, c.loop-end-test.true)

pub loop-end-preserved : goal.loop-end-preserved
loop-end-preserved g t c =
    let lt : c.loop-end.end < last_of c.args.devices c.in-Some.field = subst (λ (n : ℕ). c.loop-end.end < n) c.last_of-last.ensures.last c.loop-end-test.true in
    let m : Moved c.args.devices c.in-Some.field c.loop-end.end (tree_of c.args.a.now) (tree_of c.args.b.now) (tree_of c.args.c.now) c.behind-x.result.ends.now c.behind-y.result.ends.now c.behind-z.result.ends.now c.behind-x.result.parts.now c.behind-y.result.parts.now c.behind-z.result.parts.now =
    moves _ _ _ _ _ _ _ _ _ _ _ _ _ _ _ _ _ _ _ _ _ _ c.loop-end.invariant.0 lt c.behind-x.ensures.ends c.behind-x.ensures.parts c.behind-y.ensures.ends c.behind-y.ensures.parts c.behind-z.ensures.ends c.behind-z.ensures.parts in
    let behind : suc (number_of c.in-Some.field) ≡ c.number-behind.result + 1 = omega (arith, c.number-behind.ensures.number) in
    let least = rw c.last_of-last.ensures.last at c.least_end-end-in-loop-end.ensures in
    let keeps : Keeps (g.F.Chooser.chooses c.loop-end.choice) (g.F.Chooser.chooses c.merge_behind-in-loop-end.new.choice) = c.in_ok-part.ensures.keeps in (
      loop_goes c.args.devices c.in-Some.field (g.F.Chooser.chooses c.merge_behind-in-loop-end.new.choice) _ _ _ _ _ _ _ _ _ _ _ _ _ _ _ _ _ _ _ _ c.in_ok-here-2.here c.in_ok-part.part c.first-in-loop-end.result.now c.first-in-loop-end-2.result.now c.first-in-loop-end-3.result.now c.loop-end.end c.least_end-end-in-loop-end.result
          (loop_keeps _ _ (g.F.Chooser.chooses c.loop-end.choice) _ _ _ _ _ _ _ _ _ _ _ _ _ _ keeps c.loop-end.invariant.0) lt m.x m.y m.z c.first-in-loop-end.ensures c.first-in-loop-end-2.ensures c.first-in-loop-end-3.ensures
          (subst (λ (n : ℕ). IsRest c.args.devices n 0 (tree_of c.in_ok-part.part)) (sym behind) c.in_ok-part.ensures.canonical) c.in_ok-part.ensures.value c.in_ok-part.ensures.finishes c.in_ok-here-2.ensures least,
      λ x y z n chosen. keeps x y z n (c.loop-end.invariant.1 x y z n chosen),
    )

pub returns-clause-canonical : goal.returns-clause-canonical
returns-clause-canonical g t c =
    let s : Start c.args.devices c.args.settled c.in-Some.field (tree_of c.args.a.now) (tree_of c.args.b.now) (tree_of c.args.c.now) c.parts_at-x.result.ends.now c.parts_at-y.result.ends.now c.parts_at-z.result.ends.now c.parts_at-x.result.parts.now c.parts_at-y.result.parts.now c.parts_at-z.result.parts.now =
    starts _ _ _ _ _ _ _ _ _ _ _ _ c.top.result c.top-2.result c.top-3.result c.earlier.result c.requires.first c.requires.second c.requires.third c.top.ensures c.top-2.ensures c.top-3.ensures c.earlier.ensures c.in-Some.ensures c.parts_at-x.ensures c.parts_at-y.ensures c.parts_at-z.ensures in
    if_ok c.finish.result _ _ (λ tree is. (loop_ends _ c.args.settled _ _ _ _ _ _ _ _ _ _ _ _ _ _ _ c.loop-end.invariant.0 (whole c.last_of-last.ensures.last c.loop-end-test.false) s.settled (tree_of tree) is).0) c.finish.ensures.tree

pub returns-clause-value : goal.returns-clause-value
returns-clause-value g t c =
    let s : Start c.args.devices c.args.settled c.in-Some.field (tree_of c.args.a.now) (tree_of c.args.b.now) (tree_of c.args.c.now) c.parts_at-x.result.ends.now c.parts_at-y.result.ends.now c.parts_at-z.result.ends.now c.parts_at-x.result.parts.now c.parts_at-y.result.parts.now c.parts_at-z.result.parts.now =
    starts _ _ _ _ _ _ _ _ _ _ _ _ c.top.result c.top-2.result c.top-3.result c.earlier.result c.requires.first c.requires.second c.requires.third c.top.ensures c.top-2.ensures c.top-3.ensures c.earlier.ensures c.in-Some.ensures c.parts_at-x.ensures c.parts_at-y.ensures c.parts_at-z.ensures in
    if_ok c.finish.result _ _ (λ tree is. (loop_ends _ c.args.settled _ _ _ _ _ _ _ _ _ _ _ _ _ _ _ c.loop-end.invariant.0 (whole c.last_of-last.ensures.last c.loop-end-test.false) s.settled (tree_of tree) is).1) c.finish.ensures.tree

pub returns-clause-finishes : goal.returns-clause-finishes
returns-clause-finishes g t c = c.finish.ensures.finishes c.args.devices c.last_of-last.ensures.last c.loop-end.invariant.0.parts_finish c.loop-end.invariant.0.here_finishes
