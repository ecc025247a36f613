use Rattle.std.proofs.Common.{inl, inr}
use Rattle.std.specs.BTreeMap as tree
use Rattle.mt_flow.specs.Keys.{lane_cmp}
use Rattle.mt_flow.proofs.Firsts.{IsPart, no_first, is_first, other_lane}
use Rattle.mt_flow.proofs.lanes.first_of.Goals as goal

pub returns-in_err-place : goal.returns-in_err-place
returns-in_err-place c =
    let h = c.range.ensures.in_range tt in let p : IsPart (tree.get lane_cmp c.args.by_lane.now) c.args.group c.args.bucket c.range.result = record { inside = h.1; least = λ q above some. h.2 q (above, tt) some; empty = λ none q above. h.5 none q (above, tt) } in
    rw c.from_residual.ensures (no_first _ c.args.group c.args.bucket c.range.result p c.in_err-place.ensures.steps.0)

pub returns-then-place-group : goal.returns-then-place-group
returns-then-place-group c =
    let h = c.range.ensures.in_range tt in let p : IsPart (tree.get lane_cmp c.args.by_lane.now) c.args.group c.args.bucket c.range.result = record { inside = h.1; least = λ q above some. h.2 q (above, tt) some; empty = λ none q above. h.5 none q (above, tt) } in
    other_lane _ c.args.group c.args.bucket c.in_ok-place.place.now c.in_ok-place.key.now c.range.result _ p c.in_ok-place.ensures.steps (inl c.if-place-group.true)

pub returns-then-place-bucket : goal.returns-then-place-bucket
returns-then-place-bucket c =
    let h = c.range.ensures.in_range tt in let p : IsPart (tree.get lane_cmp c.args.by_lane.now) c.args.group c.args.bucket c.range.result = record { inside = h.1; least = λ q above some. h.2 q (above, tt) some; empty = λ none q above. h.5 none q (above, tt) } in
    other_lane _ c.args.group c.args.bucket c.in_ok-place.place.now c.in_ok-place.key.now c.range.result _ p c.in_ok-place.ensures.steps (inr c.if-place-bucket.true)

pub returns : goal.returns
returns c =
    let h = c.range.ensures.in_range tt in let p : IsPart (tree.get lane_cmp c.args.by_lane.now) c.args.group c.args.bucket c.range.result = record { inside = h.1; least = λ q above some. h.2 q (above, tt) some; empty = λ none q above. h.5 none q (above, tt) } in
    is_first _ c.args.group c.args.bucket c.in_ok-place.place.now c.in_ok-place.key.now c.range.result _ p c.in_ok-place.ensures.steps c.if-place-group.false c.if-place-bucket.false
