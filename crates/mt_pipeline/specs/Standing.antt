-- What the store of a server, its shares and the ledger are together: the tables of a chain, and its pools.
use Rattle.std.specs.Prelude.{◌≡◌, ℕ, ◌+◌, ◌-◌, ◌==◌, ◌&&◌, Bool, List, [], ◌∷◌, ◌++◌, length, map, if◌then◌else◌, Option, Some, None, Contains, slice_get, slice_index, slice_set}
use Rattle.std.specs.BTreeMap.{insert_entry}
use Rattle.mt_kinds.specs.declared.rewriter.Pool.{Pool}
use Rattle.mt_ledger.specs.Ledger.{LedgerState, turn_before}
use Rattle.mt_ledger.specs.Pools.{PoolPorts, ports_at, ranges}
use Rattle.mt_ledger.specs.Ports.{HeldPort, times, ports_from}
use Rattle.mt_flow.specs.Keys.{forward_cmp}
use Rattle.mt_flow.specs.Mappings.{forward_key}
use Rattle.mt_flow.specs.declared.mapping.Mapping.{Mapping}
use Rattle.mt_rewriter.specs.Mappings.{TablesState}
use Rattle.mt_rewriter.specs.Mappings.{Mapping as Entry}
use Rattle.mt_rewriter.specs.declared.translation.Translation.{Translation}
use Rattle.mt_rewriter.specs.declared.translation.HeldPort.{HeldPort as TableHeld}

-- ---- the tables that a store and a ledger stand for

abbrev pub held_of : Option HeldPort → Option TableHeld
held_of None = None
held_of (Some held) = Some (record { pool = held.pool; port = held.port })

-- what a mapping makes of its flow
abbrev pub translation_of : Mapping → Translation
translation_of mapping = record { after = mapping.after; fout = mapping.fout; rout = mapping.rout; held = held_of mapping.port }

-- mappings put into a table, one after the other
abbrev pub entries_onto : List Entry → List Mapping → List Entry
entries_onto entries [] = entries
entries_onto entries (mapping ∷ mappings) = entries_onto (insert_entry forward_cmp entries (forward_key mapping) (translation_of mapping)) mappings

abbrev pub entries_of : List Mapping → List Entry
entries_of mappings = entries_onto [] mappings

abbrev pub tables_of : List Mapping → LedgerState → TablesState
tables_of mappings ledger = record { mappings = entries_of mappings; turns = ledger.turns }

-- ---- ports

-- the ports that mappings hold
abbrev pub with_held : Option HeldPort → List HeldPort → List HeldPort
with_held None ports = ports
with_held (Some held) ports = held ∷ ports

abbrev pub held_ports : List Mapping → List HeldPort
held_ports [] = []
held_ports (mapping ∷ mappings) = with_held mapping.port (held_ports mappings)

abbrev pub is_held : ℕ → ℕ → HeldPort → Bool
is_held pool port held = held.pool == pool && held.port == port

-- how often a port of a pool stands among some
abbrev pub times_held : ℕ → ℕ → List HeldPort → ℕ
times_held pool port [] = 0
times_held pool port (held ∷ more) = (if is_held pool port held then 1 else 0) + times_held pool port more

abbrev pub range_of : Pool → ℕ × ℕ
range_of pool = (pool.lo, pool.hi)

-- For each pool the stock, the share and the ports that are held are together the pool, each port once.
pub record AreWhole (pools : List Pool) (ledger : LedgerState) (shares : List PoolPorts) (held : List HeldPort) : Type 0 where
  pub stocks_are : ranges ledger.stocks ≡ map range_of pools
  pub shares_are : ranges shares ≡ map range_of pools
  pub together :
      (number : ℕ) (pool : Pool) → slice_get pools number ≡ Some pool → (port : ℕ)
      → times port (ports_at ledger.stocks number) + times port (ports_at shares number) + times_held number port held ≡ times port (ports_from pool.lo (pool.hi + 1 - pool.lo))

-- no port of these pools is in the stock
abbrev pub AreGone : List ℕ → LedgerState → Type 0
AreGone gone ledger = (number : ℕ) → Contains gone number → ports_at ledger.stocks number ≡ []

-- ---- what was done since, so that it can be taken back

-- turns of mappers before they moved on, each by one, in this order
abbrev pub turns_back : List ℕ → List ℕ → List ℕ → List ℕ
turns_back patterns [] turns = turns
turns_back patterns (mapper ∷ moved) turns =
    slice_set (turns_back patterns moved turns) mapper (turn_before (slice_index patterns mapper) (slice_index (turns_back patterns moved turns) mapper))

-- From some mappings and turns on, so many mappings were opened and the turns of these mappers moved, each by one.
pub record IsSince (mappings : List Mapping) (turns : List ℕ) (opened : ℕ) (moved : List ℕ) (mappings' : List Mapping) (ledger : LedgerState) : Type 0 where
  pub more : List Mapping
  pub mappings_are : mappings' ≡ mappings ++ more
  pub counted : length more ≡ opened
  pub turns_are : turns_back ledger.patterns moved ledger.turns ≡ turns
