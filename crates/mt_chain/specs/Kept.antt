-- What a packet keeps on its way: when and where it arrived, and that it never grows.
use Rattle.std.specs.Prelude.{◌≡◌, ◌≤◌, ℕ, ◌+◌, length, if◌then◌else◌, Contains, ⊤}
use Rattle.mt_packet.specs.Packet.{PacketState, has_ethernet}
use Rattle.mt_rewriter.specs.Mappings.{Mapping, TablesState}
use Rattle.mt_chain.specs.declared.run.Fate.{Fate}
use Rattle.mt_chain.specs.declared.run.Fate.TheVariants.{Sent, Dropped}

-- the bytes of a packet, the 14 of its Ethernet header among them also where it was taken away
abbrev pub size_of : PacketState → ℕ
size_of packet = length packet.bytes + (if has_ethernet packet.layer then 0 else 14)

pub record IsKept (old new : PacketState) : Type 0 where
  pub stamp : new.stamp ≡ old.stamp
  pub device : new.device ≡ old.device
  pub number : new.number ≡ old.number
  pub size : size_of new ≤ size_of old

-- no mapping has left
abbrev pub Stays : TablesState → TablesState → Type 0
Stays old new = (mapping : Mapping) → Contains old.mappings mapping → Contains new.mappings mapping

-- what is sent has the packet's time, device and number of arrival, and has no more bytes
abbrev pub ComesFrom : PacketState → Fate → Type 0
ComesFrom packet (Sent device frame) = (frame.stamp ≡ packet.stamp) × (frame.device ≡ packet.device) × (frame.number ≡ packet.number) × (length frame.frame ≤ size_of packet)
ComesFrom packet (Dropped why) = ⊤
