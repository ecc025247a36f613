-- What is created in each use, as the code keeps it.
use Rattle.std.specs.Prelude.{◌≡◌, ℕ, Bool, ◌&&◌, nat_eq}
use Rattle.indexmap.specs.IndexMap.{get_by}
use Rattle.mt_click.specs.declared.connections.ItemTable.{ItemTable}
use Rattle.mt_click.specs.Connections.{item_created}

abbrev pub is_item_key : ℕ → ℕ → ℕ × ℕ → Bool
is_item_key enclosing offset k = nat_eq enclosing k.0 && nat_eq offset k.1

-- each item is kept under its use and its byte
abbrev pub IsItemTable : ItemTable → Type 0
IsItemTable p = (enclosing offset : ℕ) → get_by (is_item_key enclosing offset) p.items ≡ item_created p.created.now enclosing offset
