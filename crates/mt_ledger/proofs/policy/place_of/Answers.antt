use Rattle.std.proofs.Common.{arith, nat_eq, ◌∙◌, sym}
use Rattle.std.specs.Cmp.Lexicographic.{pointwise}
use Rattle.mt_ledger.proofs.Named.{found_in, missing_in}
use Rattle.mt_ledger.proofs.policy.place_of.Goals as goal

pub returns-then-has_name : goal.returns-then-has_name
returns-then-has_name g c =
    found_in c.args.list.now (λ policy. pointwise nat_eq policy.name c.args.name.now) c.loop-place.place c.index-list-place.result c.loop-place.invariant
    (omega (arith, c.loop-place-test.true)) c.index-list-place.is (sym c.has_name.ensures ∙ c.if-has_name.true)

pub returns : goal.returns
returns g c =
    missing_in c.args.list.now (λ policy. pointwise nat_eq policy.name c.args.name.now) c.loop-place.place (omega (arith, c.loop-place-test.false, c.loop-place.auto.place-end)) c.loop-place.invariant
