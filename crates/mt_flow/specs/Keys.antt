-- The order of keys: field by field.
use Rattle.std.specs.Ordering.{nat_cmp, ordering_then}
use Rattle.std.specs.declared.cmp.Ordering.{Ordering}
use Rattle.mt_packet.specs.declared.flow.Flow.{Flow}
use Rattle.mt_flow.specs.declared.keys.ForwardKey.{ForwardKey}
use Rattle.mt_flow.specs.declared.keys.ReplyKey.{ReplyKey}
use Rattle.mt_flow.specs.declared.keys.LaneAge.{LaneAge}
use Rattle.mt_flow.specs.declared.keys.LaneKey.{LaneKey}

abbrev pub flow_cmp : Flow → Flow → Ordering
flow_cmp x y =
    ordering_then (nat_cmp x.proto y.proto)
    (ordering_then (nat_cmp x.sa y.sa) (ordering_then (nat_cmp x.sp y.sp) (ordering_then (nat_cmp x.da y.da) (nat_cmp x.dp y.dp))))

abbrev pub forward_cmp : ForwardKey → ForwardKey → Ordering
forward_cmp x y = ordering_then (nat_cmp x.element y.element) (ordering_then (nat_cmp x.input y.input) (flow_cmp x.before y.before))

abbrev pub reply_cmp : ReplyKey → ReplyKey → Ordering
reply_cmp x y = ordering_then (nat_cmp x.element y.element) (flow_cmp x.flow y.flow)

abbrev pub lane_cmp : LaneAge → LaneAge → Ordering
lane_cmp x y = ordering_then (nat_cmp x.group y.group) (ordering_then (nat_cmp x.bucket y.bucket) (nat_cmp x.age y.age))

abbrev pub key_cmp : LaneKey → LaneKey → Ordering
key_cmp x y = ordering_then (nat_cmp x.group y.group) (nat_cmp x.bucket y.bucket)

abbrev pub lane_key : LaneAge → LaneKey
lane_key place = record { group = place.group; bucket = place.bucket }
