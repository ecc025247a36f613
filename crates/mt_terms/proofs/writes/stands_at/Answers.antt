use Rattle.std.proofs.Common.{◌≡◌, ◌∙◌, length, arith, ltb, false}
use Rattle.std.proofs.lemmas.Bool.Decides.{nat_tests}
use Rattle.mt_terms.proofs.Placed.{stands_at_place, stands_past}
use Rattle.mt_terms.proofs.writes.stands_at.Goals as goal

pub returns-then-place-writes : goal.returns-then-place-writes
returns-then-place-writes c =
    rw (c.number.ensures.number, c.number-then-place-writes.ensures.number)
    (stands_at_place c.args.field c.args.writes.now c.args.place c.index-writes-place.result c.requires c.if-place-writes.true)

pub returns-else-place-writes : goal.returns-else-place-writes
returns-else-place-writes c =
    let past : ltb c.args.place (length c.args.writes.now) ≡ false = grind (arith, nat_tests, c.if-place-writes.false) in
    past ∙ stands_past c.args.field c.args.writes.now (omega (arith, c.requires, c.if-place-writes.false))
