use Rattle.std.proofs.Common.{◌≡◌, ◌+◌, ◌-◌, ◌≤◌, length, get_or}
use Rattle.mt_reach.specs.Reach.{AreWithin, unmarked, IsSearch}
use Rattle.mt_reach.proofs.reached.Given as goal

abbrev pub invariant-loop-at : goal.invariant-loop-at
invariant-loop-at l = record {
  search : IsSearch l.graph l.mark l.at l.seen.items l.order.items;
  first : get_or l.order.items 0 0 ≡ l.start;
  within : AreWithin l.graph (length l.seen.items);
  at : l.at ≤ length l.order.items;
  len : length l.seen.items ≡ length l.initial.seen.items;
}

abbrev pub decreases-loop-at : goal.decreases-loop-at
decreases-loop-at l = unmarked l.mark l.seen.items + length l.order.items - l.at
