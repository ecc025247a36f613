-- A packet stays sound through every step.
use Rattle.std.proofs.Common.{◌≡◌, refl, sym, ◌∙◌, ap, subst, Bool, true, false}
use Rattle.std.proofs.lemmas.Bool.{false≢true}
use Rattle.mt_packet.specs.Ipv4.{IsValidIpv4}
use Rattle.mt_packet.specs.Packet.{PacketState, IsChecked, datagram_of, stripped, layer_below}
use Rattle.mt_packet.specs.declared.layer.Layer.{Layer}
use Rattle.mt_packet.specs.declared.layer.Layer.TheVariants.{Frame, Bare, Ip, Framed}
use Rattle.mt_kinds.specs.Layers.{is_ip}
use Rattle.mt_chain.specs.Step.{IsSound}

abbrev is_framed : Layer → Bool
is_framed Frame = false
is_framed Bare = false
is_framed Ip = false
is_framed Framed = true

-- a checked packet, at whatever layer
pub from_checked : (p : PacketState) → IsChecked p → IsSound p
from_checked p c = record { ip = λ _. c; framed = λ _. c }

-- a packet as it arrives
pub at_frame : (p : PacketState) → p.layer ≡ Frame → IsSound p
at_frame p h = record { ip = λ e. absurd (false≢true (ap is_ip (sym h ∙ e))); framed = λ e. absurd (false≢true (ap is_framed (sym h ∙ e))) }

pub kept : (p q : PacketState) → q.layer ≡ p.layer → (IsChecked p → IsChecked q) → IsSound p → IsSound q
kept p q same still s = record { ip = λ h. still (s.ip (sym same ∙ h)); framed = λ h. still (s.framed (sym same ∙ h)) }

-- the same data
pub same_data : (p q : PacketState) → datagram_of q ≡ datagram_of p → IsChecked p → IsSound q
same_data p q same c = from_checked q (subst (λ d. IsValidIpv4 d) (sym same) c)

module _ (p : PacketState) (s : IsSound p) where
  ip_below : (l : Layer) → p.layer ≡ l → layer_below l ≡ Ip → IsChecked p
  ip_below Frame e h = absurd (false≢true (ap is_ip h))
  ip_below Bare e h = absurd (false≢true (ap is_ip h))
  ip_below Ip e h = s.ip e
  ip_below Framed e h = s.framed e

  never_framed : (l : Layer) → layer_below l ≡ Framed → IsChecked p
  never_framed Frame h = absurd (false≢true (ap is_framed h))
  never_framed Bare h = absurd (false≢true (ap is_framed h))
  never_framed Ip h = absurd (false≢true (ap is_framed h))
  never_framed Framed h = absurd (false≢true (ap is_framed h))

-- the packet without its Ethernet header
pub stripped_sound : (p q : PacketState) → q ≡ stripped p → datagram_of q ≡ datagram_of p → IsSound p → IsSound q
stripped_sound p q is same s =
    let layer : q.layer ≡ layer_below p.layer = ap (λ r. r.layer) is in
    let along : IsChecked p → IsChecked q = subst (λ d. IsValidIpv4 d) (sym same) in
    record {
      ip = λ h. along (ip_below p s p.layer refl (sym layer ∙ h));
      framed = λ h. along (never_framed p s p.layer (sym layer ∙ h));
    }

-- the layer of a checked packet without an Ethernet header
pub ip_layer : (l : Layer) → is_ip l ≡ true → l ≡ Ip
ip_layer Frame h = absurd (false≢true h)
ip_layer Bare h = absurd (false≢true h)
ip_layer Ip h = refl
ip_layer Framed h = absurd (false≢true h)
