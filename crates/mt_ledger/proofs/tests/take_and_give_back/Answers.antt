use Rattle.std.proofs.Common.{◌∷◌, ◌≤◌, ◌∙◌, subst, sym, arith}
use Rattle.mt_ledger.specs.Ports.{NoneTwice}
use Rattle.mt_ledger.specs.Pools.{ports_at}
use Rattle.mt_ledger.proofs.Alone.{is_there, is_port, after_take, after_give_back}
use Rattle.mt_ledger.proofs.tests.take_and_give_back.Goals as goal

pub give_back-requires-clause-pool : goal.give_back-requires-clause-pool
give_back-requires-clause-pool c =
    is_port c.take.new.self c.args.range.lo c.args.range.hi c.in-Some.token.pool c.in-Some.token.port (c.in-Some.ensures.pools ∙ c.requires.there)
    c.in-Some.ensures.port.0 (subst (λ p. c.args.range.lo ≤ p) c.port-port.ensures c.if-range-port.true) (subst (λ p. p ≤ c.args.range.hi) c.port-port.ensures c.if-port-range.true)

pub give_back-requires-clause-apart : goal.give_back-requires-clause-apart
give_back-requires-clause-apart c =
    subst (λ n. NoneTwice (c.in-Some.token.port ∷ ports_at c.take.new.self n)) (sym c.in-Some.ensures.port.0)
    (λ port.
    let one = c.requires.apart port in
    let e = after_take c.args.shares.now c.take.new.self c.args.place c.in-Some.token.port (is_there c.args.shares.now c.args.range.lo c.args.range.hi c.requires.there) c.in-Some.ensures.rest c.in-Some.ensures.port.1 port in
    omega (arith, one, e))

pub returns-then-port-range-clause-no_more : goal.returns-then-port-range-clause-no_more
returns-then-port-range-clause-no_more c port =
    let e = after_take c.args.shares.now c.take.new.self c.args.place c.in-Some.token.port (is_there c.args.shares.now c.args.range.lo c.args.range.hi c.requires.there) c.in-Some.ensures.rest c.in-Some.ensures.port.1 port in
    let back = after_give_back c.take.new.self c.give_back.new.self c.in-Some.token.pool c.in-Some.token.port
    (is_there c.take.new.self c.args.range.lo c.args.range.hi (c.in-Some.ensures.pools ∙ c.requires.there)) c.in-Some.ensures.port.0 c.give_back.ensures.share port in
    omega (arith, e, back)

pub returns-else-range-port-clause-no_more : goal.returns-else-range-port-clause-no_more
returns-else-range-port-clause-no_more c port =
    let e = after_take c.args.shares.now c.take.new.self c.args.place c.in-Some.token.port (is_there c.args.shares.now c.args.range.lo c.args.range.hi c.requires.there) c.in-Some.ensures.rest c.in-Some.ensures.port.1 port in
    omega (arith, e)
