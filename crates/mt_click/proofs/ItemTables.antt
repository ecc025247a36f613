-- What is kept of what is made, one more.
use Rattle.std.proofs.Common.{◌≡◌, ℕ, ◌+◌, ◌<◌, ◌≤◌, List, length, drop, get_or, cond, Option, Some, ap}
use Rattle.std.proofs.Math.ListN.{drop_of_length-le}
use Rattle.std.proofs.lemmas.List.{at_drop_more}
use Rattle.mt_click.specs.declared.action.Created.{Created}
use Rattle.mt_click.specs.declared.action.CreatedItem.{CreatedItem}
use Rattle.mt_click.specs.Connections.{is_created, item_from}

pub item_step : (found : Option CreatedItem) (created : List Created) (at : ℕ) (one : Created) (enclosing offset : ℕ) → at < length created
    → item_from found (drop at created) enclosing offset ≡ item_from (cond (is_created enclosing offset (get_or created at one)) (Some (get_or created at one).item) found) (drop (at + 1) created) enclosing offset
unfolding item_from
item_step found created at one enclosing offset lt = at_drop_more (λ xs. item_from found xs enclosing offset) created at one lt

pub item_end : (found : Option CreatedItem) (created : List Created) (at enclosing offset : ℕ) → length created ≤ at → item_from found (drop at created) enclosing offset ≡ found
unfolding item_from
item_end found created at enclosing offset le = ap (λ xs. item_from found xs enclosing offset) (drop_of_length-le created le)
