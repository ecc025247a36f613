use Rattle.std.proofs.Common.{◌≡◌, false, get_or, replicate, ap, ◌∙◌}
use Rattle.mt_kinds.proofs.OutTables.{none_marked}
use Rattle.mt_kinds.proofs.outs.Outs.none.Goals as goal

pub returns : goal.returns
returns c =
    let all : c.in_ok-table.table.items ≡ replicate 512 false = c.in_ok-table.ensures.items_if_clones_equal (λ y h. h) in
    λ out. ap (λ table. get_or table out false) all ∙ none_marked 512 out
