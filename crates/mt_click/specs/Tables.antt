-- Tables of names.
use Rattle.std.specs.Prelude.{◌≡◌, ℕ, List, Bool, ◌&&◌, nat_eq}
use Rattle.std.specs.Str.{bytes_eq}
use Rattle.indexmap.specs.IndexMap.{get_by}
use denote.Ref.{Bor}
use Rattle.mt_click.specs.declared.symbols.Table.{Table}
use Rattle.mt_click.specs.declared.symbols.Symbols.{Symbols}
use Rattle.mt_click.specs.Names.{Names, first_entry}

-- a key stands for a scope, a number and a name
abbrev pub is_key : ℕ → ℕ → List ℕ → ℕ × ℕ × Bor (List ℕ) → Bool
is_key scope number name k = nat_eq scope k.0 && nat_eq number k.1 && bytes_eq name k.2.now

-- a table has the index of the first entry under each name
abbrev pub IsTable : Table → Type 0
IsTable t = (scope number : ℕ) (name : List ℕ) → get_by (is_key scope number name) t.indices ≡ first_entry t.text.now t.entries.items scope number name

-- what tables tell
abbrev pub names : Symbols → Names
names k = record { text = k.text.now; classes = k.classes.entries.items; names = k.names.entries.items; ports = k.ports.entries.items }

-- tables of one text
abbrev pub IsTableOf : List ℕ → Table → Type 0
IsTableOf text t = IsTable t × (t.text.now ≡ text)

abbrev pub AreTables : Symbols → Type 0
AreTables k = IsTableOf k.text.now k.classes × IsTableOf k.text.now k.names × IsTableOf k.text.now k.ports
