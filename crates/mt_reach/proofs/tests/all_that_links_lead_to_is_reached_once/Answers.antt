use Rattle.std.proofs.Common.{length, sym, subst}
use Rattle.mt_reach.specs.Reach.{AreWithin}
use Rattle.mt_reach.proofs.tests.all_that_links_lead_to_is_reached_once.Goals as goal

pub reached-requires-clause-within : goal.reached-requires-clause-within
reached-requires-clause-within g c =
    subst (λ x. AreWithin x (length c.in_ok-seen.seen.items)) (sym c.deref.ensures.value) (subst (AreWithin c.in_ok-graph.graph.items) (sym c.in_ok-seen.ensures.len) c.in_ok-graph.ensures.within)
