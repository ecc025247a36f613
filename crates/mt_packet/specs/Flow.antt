-- The flow of a packet: its protocol and its two ends.
use Rattle.std.specs.Prelude.{ℕ, List, Option, Some, None, if◌then◌else◌}
use Rattle.mt_packet.specs.Ipv4.{has_ports, proto_of, src_of, sport_of, dst_of, dport_of}
use Rattle.mt_packet.specs.Packet.{PacketState, datagram_of}
use Rattle.mt_packet.specs.declared.flow.Flow.{Flow}

-- the flow of an IPv4 packet, where its ports are visible
unfoldable pub datagram_flow : List ℕ → Option Flow
datagram_flow datagram =
    if has_ports datagram then
    Some (record {
      proto = proto_of datagram;
      sa = src_of datagram;
      sp = sport_of datagram;
      da = dst_of datagram;
      dp = dport_of datagram;
    })
    else None

-- the flow of a packet
abbrev pub packet_flow : PacketState → Option Flow
packet_flow packet = datagram_flow (datagram_of packet)
