use Rattle.std.proofs.Common.{◌∙◌, ◌+◌, refl, subst}
use Rattle.mt_flow.specs.Counts.{IsCounted, count_of}
use Rattle.mt_flow.specs.Keys.{lane_cmp}
use Rattle.mt_flow.proofs.Orders.{reply_exact, lane_exact, restored, recounted, same_found, entered_last}
use Rattle.mt_flow.proofs.indexes.Indexes.enter.Goals as goal

pub returns-in-Err-insert-clause-err : goal.returns-in-Err-insert-clause-err
returns-in-Err-insert-clause-err c = record {
  reply = restored reply_exact c.args.self.now.by_reply c.insert.new.self c.remove.new.self c.args.answer _ c.requires.reply_absent c.in_default.ensures.updates c.remove.ensures.updates;
  lane = same_found lane_cmp c.args.self.now.by_lane c.insert-2.new.self c.in-Err-insert.ensures.err;
  order = refl;
  count = recounted c.args.self.now.counts c.count_in.new.counts c.count_out-in-Err-insert.new.counts c.lane-lane.result c.in_ok-count_in.ensures.ok c.count_out-in-Err-insert.ensures;
}

pub returns-in-Err-insert-2-clause-err : goal.returns-in-Err-insert-2-clause-err
returns-in-Err-insert-2-clause-err c = record {
  reply = restored reply_exact c.args.self.now.by_reply c.insert.new.self c.remove-in-Err-insert-2.new.self c.args.answer _ c.requires.reply_absent c.in_default.ensures.updates c.remove-in-Err-insert-2.ensures.updates;
  lane = restored lane_exact c.args.self.now.by_lane c.insert-2.new.self c.remove-in-Err-insert-2-2.new.self c.args.place _ c.requires.lane_absent c.in_default-insert.ensures.updates c.remove-in-Err-insert-2-2.ensures.updates;
  order = c.in-Err-insert-2.ensures.err;
  count = recounted c.args.self.now.counts c.count_in.new.counts c.count_out-in-Err-insert-2.new.counts c.lane-lane.result c.in_ok-count_in.ensures.ok c.count_out-in-Err-insert-2.ensures;
}

pub returns-clause-ok : goal.returns-clause-ok
returns-clause-ok c = record {
  reply = c.in_default.ensures.updates;
  lane = c.in_default-insert.ensures.updates;
  order = c.in_default-insert-2.ensures.entries ∙ entered_last 0 c.args.place.age c.args.key c.args.self.now.by_age.entries c.requires.last;
  count = subst (λ lane. IsCounted c.args.self.now.counts c.count_in.new.counts lane (count_of c.args.self.now.counts lane + 1)) c.lane-lane.ensures c.in_ok-count_in.ensures.ok;
}
