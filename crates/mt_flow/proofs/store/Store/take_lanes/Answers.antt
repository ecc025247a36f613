use Rattle.std.proofs.Common.{◌∙◌, length, ap, arith}
use Rattle.std.proofs.lemmas.List.Sums.{length-filter, count_by-le-length}
use Rattle.std.specs.BTreeMap as tree
use Rattle.mt_flow.specs.Keys.{forward_cmp}
use Rattle.mt_flow.specs.Lanes.{is_of}
use Rattle.mt_flow.proofs.Oldest.{taking_from, taking_more, taking_ends, length_listed}
use Rattle.mt_flow.proofs.store.Store.take_lanes.Goals as goal

pub loop-count-init : goal.loop-count-init
loop-count-init c = record {
  taking = rw c.in_ok-taken.ensures.items (taking_from (is_of c.args.group c.args.buckets) c.args.self.now);
  room =
      let all = length_listed (tree.get forward_cmp c.self.inside.by_forward) c.self.inside.indexes.by_age.entries in
      let same = ap length c.self.view_is in
      let few = length-filter (is_of c.args.group c.args.buckets) c.args.self.now in let some = count_by-le-length (is_of c.args.group c.args.buckets) c.args.self.now in
      let len = c.len.ensures.len in
      let least = c.min-room.ensures in
      let capacity = c.in_ok-taken.ensures.capacity in
      omega (arith, all, same, few, some, len, least, capacity);
}

pub returns-in-None-clause-left : goal.returns-in-None-clause-left
returns-in-None-clause-left c = c.in-None.ensures.1 ∙ (taking_ends (is_of c.args.group c.args.buckets) c.args.self.now c.loop-count.self c.loop-count.taken.items c.loop-count.count c.args.most c.loop-count.invariant.taking c.in-None.ensures.0 c.loop-count.auto.count-end).1

pub loop-count-preserved : goal.loop-count-preserved
loop-count-preserved c = record {
  taking = rw c.push_within.ensures.items (taking_more (is_of c.args.group c.args.buckets) c.args.self.now c.loop-count.self c.take_oldest.new.self c.loop-count.taken.items c.loop-count.count c.in-Some.mapping c.loop-count.invariant.taking c.in-Some.ensures);
  room = (let room = c.loop-count.invariant.room in let grows = c.push_within.ensures.capacity in omega (arith, room, grows));
}
