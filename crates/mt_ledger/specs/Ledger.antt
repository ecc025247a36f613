-- The ledger: the stock of each pool, and the turn of each mapper.
use Rattle.std.specs.Prelude.{◌≡◌, ℕ, ◌==◌, ◌+◌, ◌-◌, ◌<◌, List, length, slice_index, if◌then◌else◌, map, replicate}
use Rattle.mt_ledger.specs.Pools.{PoolPorts, all_of}
use Rattle.mt_ledger.specs.declared.pool.PortRange.{PortRange}

-- the stocks, by the number of the pool; the number of patterns and the turn of each mapper
pub record LedgerState : Type 0 where
  pub stocks : List PoolPorts
  pub patterns : List ℕ
  pub turns : List ℕ

-- there is a turn for each mapper, below its number of patterns
abbrev pub AreTurns : List ℕ → List ℕ → Type 0
AreTurns patterns turns = (length turns ≡ length patterns) × ((k : ℕ) → k < length patterns → slice_index turns k < slice_index patterns k)

-- a ledger as it is opened: all ports in the stock, each mapper at its first pattern
abbrev pub opened : List PortRange → List ℕ → LedgerState
opened pools mappers = record { stocks = map all_of pools; patterns = mappers; turns = replicate (length mappers) 0 }

-- one on in the ring of so many patterns, and one back
abbrev pub turn_after : ℕ → ℕ → ℕ
turn_after patterns turn = if turn + 1 == patterns then 0 else turn + 1

abbrev pub turn_before : ℕ → ℕ → ℕ
turn_before patterns turn = if turn == 0 then patterns - 1 else turn - 1
