use Rattle.std.proofs.Common.{◌≡◌, ℕ, drop}
use Rattle.indexmap.specs.IndexMap.{get_by}
use Rattle.mt_click.specs.Connections.{item_from, item_created}
use Rattle.mt_click.specs.Created.{is_item_key}
use Rattle.mt_click.proofs.connections.item_table_of.Given as goal

abbrev pub invariant-loop-at : goal.invariant-loop-at
invariant-loop-at l = (enclosing offset : ℕ) → item_from (get_by (is_item_key enclosing offset) l.items) (drop l.at l.created) enclosing offset ≡ item_created l.created enclosing offset
