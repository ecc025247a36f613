use Rattle.std.proofs.Common.{◌≡◌, ◌∙◌, ap, map, List, ◌∷◌, [], length, sym}
use Rattle.mt_ledger.specs.Ledger.{opened}
use Rattle.mt_ledger.specs.Pools.{none_of}
use Rattle.mt_ledger.specs.declared.pool.PortRange.{PortRange}
use Rattle.mt_pipeline.specs.Opened.{range_in}
use Rattle.mt_pipeline.proofs.Begun.{only_one, opened_so}
use Rattle.mt_pipeline.proofs.context.Context.open.Goals as goal

pub returns : goal.returns
returns g c = λ chain is.
    let ranges : List PortRange = c.in_ok-ranges.ranges.items in
    let counts = c.in_ok-counts.counts.items in
    let shares : c.in_ok-ledger.shares.items ≡ map none_of ranges ∷ [] = c.in_ok-ledger.ensures.shares ∙ ap (λ (l : List PortRange). map none_of l ∷ []) c.deref-3.ensures.value in
    let share : c.in-Some.share ≡ map none_of ranges = only_one c.pop.new.self.items c.in-Some.share (map none_of ranges) (sym c.in-Some.ensures.items ∙ shares) in
    opened_so chain c.args.self.now.rewriters c.args.self.now.classes c.args.self.now.index is ranges counts c.in_ok-ledger.ledger c.in-Some.share c.in_ok-server.server
    (c.in_ok-ranges.ensures ∙ ap (map range_in) c.deref.ensures.value) (c.in_ok-counts.ensures.counts ∙ ap (map length) c.deref-2.ensures.value)
    (c.in_ok-ledger.ensures.ledger ∙ (λ i. opened (c.deref-3.ensures.value i) (c.deref-4.ensures.value i)))
    share c.in_ok-server.ensures
