-- The packets of frames that arrive, and what is written of their fates.
use Rattle.std.specs.Prelude.{ℕ, ◌==◌, if◌then◌else◌, List, [], ◌∷◌, map}
use Rattle.std.specs.List.{flat_map}
use Rattle.mt_packet.specs.Packet.{PacketState, arrived}
use Rattle.mt_packet.specs.declared.frame.Stamped.{Stamped}
use Rattle.mt_pcap.specs.Text.{record_text, capture_text}
use Rattle.mt_chain.specs.declared.run.Fate.{Fate}
use Rattle.mt_chain.specs.declared.run.Fate.TheVariants.{Sent, Dropped}

-- the packet of a frame, as it arrives
abbrev pub packet_of : Stamped → PacketState
packet_of frame = arrived frame.frame frame.stamp frame.device frame.number

abbrev pub packets_of : List Stamped → List PacketState
packets_of frames = map packet_of frames

-- what is sent on a device, as a record with the time of arrival
abbrev pub records_sent : ℕ → Fate → List (ℕ × List ℕ)
records_sent device (Sent on frame) = if on == device then (frame.stamp, frame.frame) ∷ [] else []
records_sent device (Dropped why) = []

-- the records of what is sent on a device
abbrev pub fate_text : ℕ → Fate → List ℕ
fate_text device fate = flat_map record_text (records_sent device fate)

abbrev pub sent_text : ℕ → List Fate → List ℕ
sent_text device fates = flat_map record_text (flat_map (records_sent device) fates)

-- what is written for a device: a capture of what is sent on it, in order
abbrev pub device_text : ℕ → List Fate → List ℕ
device_text device fates = capture_text (flat_map (records_sent device) fates)
