use Rattle.std.proofs.Common.{◌≡◌, [], filter, refl, subst}
use Rattle.mt_flow.specs.Lanes.{is_of, IsTaken}
use Rattle.mt_flow.proofs.Stored.{list_of}
use Rattle.mt_flow.proofs.Oldest.{HasGone, oldest_gone, none_of_lanes}
use Rattle.mt_flow.proofs.store.Store.take_oldest.Goals as goal

pub returns-in-None : goal.returns-in-None
returns-in-None c = (subst (λ list. filter (is_of c.args.group c.args.buckets) list ≡ []) c.self.view_is (none_of_lanes c.self.inside.by_forward c.self.inside.indexes c.args.group c.args.buckets c.self.invariant.0 c.in-None.ensures), refl)

gone : (c : goal.After-take_out) → HasGone c.self.inside.by_forward c.take_out.new.by_forward c.self.inside.indexes c.take_out.new.indexes c.self.inside.next c.args.group c.args.buckets c.take_out.result
gone c = oldest_gone c.self.inside.by_forward c.take_out.new.by_forward c.self.inside.indexes c.take_out.new.indexes c.self.inside.next c.args.group c.args.buckets c.in-Some.found.0 c.in-Some.found.1 c.take_out.result
    c.self.invariant.0 c.self.invariant.1 c.in-Some.ensures c.take_out.ensures.found c.take_out.ensures.forward c.take_out.ensures.indexes

pub invariant_of-self : goal.invariant_of-self
invariant_of-self c = ((gone c).tied, (gone c).rising, (gone c).counted c.self.invariant.2)

pub returns : goal.returns
returns c = rw (gone c).is (subst (λ list. IsTaken (is_of c.args.group c.args.buckets) list (gone c).gone (list_of c.take_out.new.by_forward c.take_out.new.indexes)) c.self.view_is (gone c).taken)
