-- The ports of each pool that stand at one place: in the stock, or in the share of one server.
use Rattle.std.specs.Prelude.{ℕ, zero, suc, ◌+◌, ◌-◌, ◌≤◌, List, [], ◌∷◌, map}
use Rattle.mt_ledger.specs.Ports.{ports_from}
use Rattle.mt_ledger.specs.declared.pool.PortRange.{PortRange}

-- the least and the greatest port of a pool, and the ports that stand there, ascending
pub record PoolPorts : Type 0 where
  pub lo : ℕ
  pub hi : ℕ
  pub ports : List ℕ

-- the range of each pool
abbrev pub ranges : List PoolPorts → List (ℕ × ℕ)
ranges pools = map (λ pool. (pool.lo, pool.hi)) pools

-- the ports of the pool of this number
abbrev pub ports_at : List PoolPorts → ℕ → List ℕ
ports_at [] n = []
ports_at (pool ∷ pools) zero = pool.ports
ports_at (pool ∷ pools) (suc n) = ports_at pools n

-- the pools with other ports in the pool of this number
abbrev pub with_ports : List PoolPorts → ℕ → List ℕ → List PoolPorts
with_ports [] n ports = []
with_ports (pool ∷ pools) zero ports = record pool { ports = ports } ∷ pools
with_ports (pool ∷ pools) (suc n) ports = pool ∷ with_ports pools n ports

-- a port of the pool of this number
abbrev pub IsPortOf : List PoolPorts → ℕ → ℕ → Type 0
IsPortOf [] n port = ⊥
IsPortOf (pool ∷ pools) zero port = (pool.lo ≤ port) × (port ≤ pool.hi)
IsPortOf (pool ∷ pools) (suc n) port = IsPortOf pools n port

-- a pool with all its ports, and with none
abbrev pub all_of : PortRange → PoolPorts
all_of range = record { lo = range.lo; hi = range.hi; ports = ports_from range.lo (range.hi + 1 - range.lo) }

abbrev pub none_of : PortRange → PoolPorts
none_of range = record { lo = range.lo; hi = range.hi; ports = [] }
