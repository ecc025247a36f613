-- The step of a stateless element on a packet: one line for each class (Click manual, in this project's
-- profile). A packet at a layer that the element does not take (`takes` of mt_kinds) has no step, and rewriters and
-- mappers have none by themselves.
use Rattle.std.specs.Prelude.{◌≡◌, ℕ, ◌-◌, ◌==◌, Bool, nat_le, if◌then◌else◌, position, length, Option, Some, None}
use Rattle.mt_packet.specs.Flow.{packet_flow}
use Rattle.mt_packet.specs.Ipv4.{is_valid_ipv4}
use Rattle.mt_packet.specs.Packet.{PacketState, packet_header, datagram_of, with_field, stripped, encapsulated, checked, IsChecked}
use Rattle.mt_packet.specs.declared.cause.Cause.{Cause}
use Rattle.mt_packet.specs.declared.cause.Cause.TheVariants.{Discarded, NoPaint, Classified, Short, BadIp, Filtered, NoRoute}
use Rattle.mt_packet.specs.declared.cause.Cause.TheVariants as cause
use Rattle.mt_packet.specs.declared.field.Field.{Field}
use Rattle.mt_packet.specs.declared.field.Field.TheVariants as of
use Rattle.mt_packet.specs.declared.flow.Flow.{Flow}
use Rattle.mt_packet.specs.declared.layer.Layer.TheVariants.{Bare, Ip, Framed}
use Rattle.mt_kinds.specs.Layers.{takes}
use Rattle.mt_kinds.specs.declared.kind.End.{End}
use Rattle.mt_kinds.specs.declared.kind.End.TheVariants.{Src, Dst}
use Rattle.mt_kinds.specs.declared.kind.Kind.{Kind}
use Rattle.mt_kinds.specs.declared.kind.Kind.TheVariants.{FromDevice, ToDevice, Classifier, Discard, Null, Counter, Queue, Paint, PaintSwitch, EtherMirror, Strip, CheckIPHeader, EtherEncap, DecIPTTL, SetIPDSCP, StoreIPAddress, GetIPAddress, IPMirror, IPFilter, IPClassifier, Route, IPRewriter, RoundRobinIPMapper}
use Rattle.mt_chain.specs.declared.step.Exit.{Exit}
use Rattle.mt_chain.specs.declared.step.Exit.TheVariants.{Leaves, Stops}
use Rattle.mt_chain.specs.declared.step.Ending.TheVariants.{Sent, Dropped}
use Rattle.mt_kinds.specs.declared.hop.Hop.{Hop}
use Rattle.mt_kinds.specs.declared.rule.FilterAction.{FilterAction}
use Rattle.mt_kinds.specs.declared.rule.FilterAction.TheVariants.{Deny, Out}
use Rattle.mt_chain.specs.Filter.{holds_on, action_on}
use Rattle.mt_chain.specs.Route.{route_of}
use Rattle.mt_chain.specs.Classifier.{value_of, is_whole, pattern_holds}

-- ---- how a packet leaves an element

-- the packet leaves by the output of that number
abbrev pub leaves : PacketState → ℕ → Option (PacketState × Exit)
leaves packet out = Some (packet, Leaves out)

-- it is dropped
abbrev pub drops : PacketState → Cause → Option (PacketState × Exit)
drops packet why = Some (packet, Stops (Dropped why))

-- it is sent on a device
abbrev pub sends : PacketState → ℕ → Option (PacketState × Exit)
sends packet device = Some (packet, Stops (Sent device))

-- ---- what is done to a packet

abbrev pub by_pattern : PacketState → Option ℕ → Option (PacketState × Exit)
by_pattern packet (Some number) = leaves packet number
by_pattern packet None = drops packet Classified

-- the Ethernet addresses swapped
abbrev pub ethernet_swapped : PacketState → PacketState
ethernet_swapped packet =
    with_field (with_field packet of.EthDst (value_of packet of.EthSrc)) of.EthSrc (value_of packet of.EthDst)

-- what a check refuses counts as not checked
abbrev pub refused : PacketState → PacketState
refused packet = record packet { layer = Bare }

-- the time to live is at most 1
abbrev pub has_run_out : PacketState → Bool
has_run_out packet = nat_le (value_of packet of.Ttl) 1

-- the time to live one less
abbrev pub one_hop_on : PacketState → PacketState
one_hop_on packet = with_field packet of.Ttl (value_of packet of.Ttl - 1)

abbrev pub address_of : End → Field
address_of Src = of.Src
address_of Dst = of.Dst

-- the addresses swapped
abbrev pub addresses_swapped : PacketState → PacketState
addresses_swapped packet =
    with_field (with_field packet of.Src (value_of packet of.Dst)) of.Dst (value_of packet of.Src)

-- the ports of a flow swapped; without visible ports nothing
abbrev pub ports_swapped : PacketState → Option Flow → PacketState
ports_swapped packet (Some flow) = with_field (with_field packet of.Sport flow.dp) of.Dport flow.sp
ports_swapped packet None = packet

-- what a filter says is done
abbrev pub by_action : PacketState → FilterAction → Option (PacketState × Exit)
by_action packet Deny = drops packet Filtered
by_action packet (Out number) = leaves packet number

abbrev pub by_ip_pattern : PacketState → Option ℕ → Option (PacketState × Exit)
by_ip_pattern packet (Some number) = leaves packet number
by_ip_pattern packet None = drops packet Filtered

-- a gateway as the annotation, where there is one
abbrev pub towards : PacketState → Option ℕ → PacketState
towards packet (Some gateway) = with_field packet of.Annotation gateway
towards packet None = packet

-- the entry of a route table is followed
abbrev pub by_hop : PacketState → Option Hop → Option (PacketState × Exit)
by_hop packet (Some hop) = leaves (towards packet hop.gateway) hop.out
by_hop packet None = drops packet NoRoute

-- ---- the step

-- of each class, with a packet at a layer that it takes
unfoldable pub class_step : Kind → PacketState → Option (PacketState × Exit)
class_step (FromDevice device) packet = leaves packet 0
class_step (ToDevice device) packet = sends packet device
class_step Discard packet = drops packet Discarded
class_step Null packet = leaves packet 0
class_step Counter packet = leaves packet 0
class_step Queue packet = leaves packet 0
class_step (Paint paint) packet = leaves (with_field packet of.Paint paint) 0
class_step PaintSwitch packet = leaves packet packet.paint
class_step (Classifier patterns) packet = by_pattern packet (position (pattern_holds packet) patterns)
class_step EtherMirror packet = if is_whole packet then leaves (ethernet_swapped packet) 0 else drops packet Short
class_step Strip packet = if nat_le 14 (length packet.bytes) then leaves (stripped packet) 0 else drops packet Short
class_step CheckIPHeader packet = if is_valid_ipv4 (datagram_of packet) then leaves (checked packet) 0 else leaves (refused packet) 1
class_step (EtherEncap ether_type src dst) packet = leaves (encapsulated packet ether_type src dst) 0
class_step DecIPTTL packet = if has_run_out packet then leaves packet 1 else leaves (one_hop_on packet) 0
class_step (SetIPDSCP point) packet = if nat_le point 63 then leaves (with_field packet of.Dscp point) 0 else None
class_step (StoreIPAddress address which) packet = leaves (with_field packet (address_of which) address) 0
class_step GetIPAddress packet = leaves (with_field packet of.Annotation (value_of packet of.Dst)) 0
class_step IPMirror packet = leaves (ports_swapped (addresses_swapped packet) (packet_flow packet)) 0
class_step (IPFilter rules) packet = by_action packet (action_on (packet_header packet) rules)
class_step (IPClassifier patterns) packet = by_ip_pattern packet (position (holds_on (packet_header packet)) patterns)
class_step (Route hops) packet = by_hop packet (route_of packet.annotation hops)
class_step (IPRewriter specs) packet = None
class_step (RoundRobinIPMapper templates) packet = None

-- of an element
unfoldable pub stateless_step : Kind → PacketState → Option (PacketState × Exit)
stateless_step kind packet = if takes kind packet.layer then class_step kind packet else None

-- the cause for which a packet is dropped at an output that leads nowhere, where it may lead nowhere
abbrev pub unwired_cause : Kind → ℕ → Option Cause
unwired_cause PaintSwitch out = Some NoPaint
unwired_cause CheckIPHeader out = if out == 1 then Some BadIp else None
unwired_cause DecIPTTL out = if out == 1 then Some cause.Ttl else None
unwired_cause kind out = None

-- ---- what holds of each packet on its way

-- at the layers behind a check the packet is valid IPv4
pub record IsSound (packet : PacketState) : Type 0 where
  pub ip : packet.layer ≡ Ip → IsChecked packet
  pub framed : packet.layer ≡ Framed → IsChecked packet
