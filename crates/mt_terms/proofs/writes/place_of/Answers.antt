-- The loop looks for the first write that is of no earlier field.
use Rattle.std.proofs.Common.{◌≡◌, ◌∙◌, ◌≤◌, sym, ap, length, get_or, arith}
use Rattle.std.proofs.lemmas.Bool.Decides.{nat_tests}
use Rattle.std.proofs.lemmas.List.{get_or_default}
use Rattle.mt_packet.specs.Header.{number_of}
use Rattle.mt_terms.specs.declared.writes.FieldWrite.{FieldWrite}
use Rattle.mt_terms.proofs.Placed.{place_is, next_before}
use Rattle.mt_terms.proofs.writes.place_of.Goals as goal

pub returns-then-number : goal.returns-then-number
returns-then-number c =
    place_is c.args.field c.args.writes.now c.loop-place.place (omega arith) c.loop-place.invariant
    (λ d lt.
    let same = ap (λ (w : FieldWrite). number_of w.field) (c.index-writes-place.is ∙ get_or_default c.args.writes.now c.loop-place.place c.index-writes-place.result d lt) in
    let a = c.number.ensures.number in
    let b = c.number-in-loop-place.ensures.number in
    let most = c.if-number.true in
    let above : number_of c.args.field ≤ number_of (get_or c.args.writes.now c.loop-place.place d).field = omega (arith, same, a, b, most) in
    grind (arith, nat_tests))

pub loop-place-preserved : goal.loop-place-preserved
loop-place-preserved c =
    next_before c.args.field c.args.writes.now c.loop-place.place c.index-writes-place.result c.loop-place-test.true c.index-writes-place.is
    (let a = c.number.ensures.number in let b = c.number-in-loop-place.ensures.number in let less = c.if-number.false in omega (arith, a, b, less)) c.loop-place.invariant

pub returns : goal.returns
returns c =
    let all : c.loop-place.place ≡ length c.args.writes.now = omega arith in
    sym all ∙ place_is c.args.field c.args.writes.now c.loop-place.place (omega arith) c.loop-place.invariant (λ d lt. absurd (omega (arith, all, lt)))
