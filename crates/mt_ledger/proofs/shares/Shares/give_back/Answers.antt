use Rattle.std.proofs.Common.{◌≡◌, ◌∷◌, ◌<◌, ◌≤◌, ℕ, List, length, subst, ap, ◌∙◌, get_or, arith}
use Rattle.mt_ledger.specs.Pools.{PoolPorts, ports_at, ranges, IsPortOf}
use Rattle.mt_ledger.specs.Ports.{NoneTwice, placed, times}
use Rattle.mt_ledger.proofs.Standing.{ports_at_is, port_is_there, port_within, changed, same_ranges}
use Rattle.mt_ledger.proofs.Moved.{absent_from}
use Rattle.mt_ledger.proofs.shares.Shares.give_back.Goals as goal

pub index_mut-portion-requires : goal.index_mut-portion-requires
index_mut-portion-requires c =
    let lt = port_is_there c.self.inside.portions.items c.args.token.pool c.args.token.port (rw c.self.view_is c.requires.pool) in
    omega (arith, lt, c.pool.ensures)

-- the portion that the token's port goes to
record Goes (pools : List PoolPorts) (k port : ℕ) (pool : PoolPorts) : Type 0 where
  low : pool.lo ≤ port
  high : port ≤ pool.hi
  absent : times port pool.ports ≡ 0
  there : k < length pools

goes : (pools : List PoolPorts) (k port : ℕ) (pool : PoolPorts) → pool ≡ get_or pools k pool → IsPortOf pools k port → NoneTwice (port ∷ ports_at pools k) → Goes pools k port pool
goes pools k port pool e of apart =
    let there = port_is_there pools k port of in
    let within = port_within pools k port pool of e in
    record { low = within.0; high = within.1; absent = subst (λ ports. times port ports ≡ 0) (ports_at_is pools k pool there e) (absent_from port (ports_at pools k) apart); there = there }

here : (c : goal.After-port) → Goes c.self.inside.portions.items c.args.token.pool c.args.token.port c.index_mut-portion.result.now
here c =
    goes c.self.inside.portions.items c.args.token.pool c.args.token.port c.index_mut-portion.result.now
    (subst (λ k. c.index_mut-portion.result.now ≡ get_or c.self.inside.portions.items k c.index_mut-portion.result.now) c.pool.ensures c.index_mut-portion.ensures.value)
    (rw c.self.view_is c.requires.pool) (rw c.self.view_is c.requires.apart)

pub put-requires-clause-low : goal.put-requires-clause-low
put-requires-clause-low c = rw c.port.ensures (here c).low

pub put-requires-clause-high : goal.put-requires-clause-high
put-requires-clause-high c = rw c.port.ensures (here c).high

pub put-requires-clause-absent : goal.put-requires-clause-absent
put-requires-clause-absent c = rw c.port.ensures (here c).absent

pub returns-clause-share : goal.returns-clause-share
returns-clause-share c =
    changed c.self.inside.portions.items c.args.self.now c.pool.result c.args.token.pool c.index_mut-portion.result.now c.put.new.self (placed c.args.token.port)
    c.self.view_is c.pool.ensures (port_is_there c.args.self.now c.args.token.pool c.args.token.port c.requires.pool) c.index_mut-portion.ensures.value
    (rw c.port.ensures at c.put.ensures)

pub returns-clause-pools : goal.returns-clause-pools
returns-clause-pools c = ap ranges (returns-clause-share c) ∙ same_ranges c.args.self.now c.args.token.pool (placed c.args.token.port (ports_at c.args.self.now c.args.token.pool))
