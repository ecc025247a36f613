-- What contracts see of a packet, of what it keeps.
use Rattle.std.proofs.Common.{◌≡◌, ◌∙◌, sym, ap, subst, refl, ℕ, ◌≤◌, List, ◌++◌, length, take, drop, arith, if◌then◌else◌}
use Rattle.std.proofs.lemmas.List.{drop_at, length-take}
use Rattle.mt_packet.specs.Ipv4.{dst_of, IsValidIpv4}
use Rattle.mt_packet.specs.Packet.{PacketState, has_ethernet, datagram_of, layer_checked, checked, checked_datagram}
use Rattle.mt_packet.specs.declared.layer.Layer.{Layer}
use Rattle.mt_packet.specs.declared.layer.Layer.TheVariants.{Frame, Bare, Ip, Framed}

-- a packet that keeps these bytes, the first 14 unseen where the Ethernet header was taken away
abbrev pub seen : List ℕ → Layer → ℕ → ℕ → ℕ → ℕ → ℕ → PacketState
seen items layer paint annotation stamp device number =
    record {
      bytes = if has_ethernet layer then items else drop 14 items;
      layer = layer;
      paint = paint;
      annotation = annotation;
      stamp = stamp;
      device = device;
      number = number;
    }

-- what is put behind 14 bytes stands behind them
pub behind : (items datagram : List ℕ) → 14 ≤ length items → drop 14 (take 14 items ++ datagram) ≡ datagram
behind items datagram long =
    let n : length (take 14 items) ≡ 14 = length-take 14 items ∙ omega arith in
    drop_at (take 14 items) datagram 14 n

-- the datagram is what follows the first 14 bytes kept
pub datagram_of-seen : (layer : Layer) (items : List ℕ) (paint annotation stamp device number : ℕ)
    → datagram_of (seen items layer paint annotation stamp device number) ≡ drop 14 items
datagram_of-seen Frame items paint annotation stamp device number = refl
datagram_of-seen Bare items paint annotation stamp device number = refl
datagram_of-seen Ip items paint annotation stamp device number = refl
datagram_of-seen Framed items paint annotation stamp device number = refl

checked-at : (layer : Layer) (items after : List ℕ) (paint annotation stamp device number dst : ℕ)
    → 14 ≤ length items → after ≡ take 14 items ++ checked_datagram (drop 14 items) → dst ≡ dst_of (drop 14 items)
    → seen after (layer_checked layer) paint dst stamp device number
    ≡ checked (seen items layer paint annotation stamp device number)
checked-at Frame items after paint annotation stamp device number dst long e d = cc
checked-at Framed items after paint annotation stamp device number dst long e d = cc
checked-at Bare items after paint annotation stamp device number dst long e d =
    let b : drop 14 after ≡ checked_datagram (drop 14 items) = ap (λ x. drop 14 x) e ∙ behind items (checked_datagram (drop 14 items)) long
    in cc
checked-at Ip items after paint annotation stamp device number dst long e d =
    let b : drop 14 after ≡ checked_datagram (drop 14 items) = ap (λ x. drop 14 x) e ∙ behind items (checked_datagram (drop 14 items)) long
    in cc

-- a packet whose bytes were trimmed is checked
pub checked-seen : (layer : Layer) (items after : List ℕ) (after_layer : Layer) (paint annotation stamp device number dst : ℕ)
    → 14 ≤ length items → after ≡ take 14 items ++ checked_datagram (drop 14 items)
    → after_layer ≡ layer_checked layer → dst ≡ dst_of (drop 14 items)
    → seen after after_layer paint dst stamp device number
    ≡ checked (seen items layer paint annotation stamp device number)
checked-seen layer items after after_layer paint annotation stamp device number dst long e l d =
    rw l (checked-at layer items after paint annotation stamp device number dst long e d)

-- a fact of the bytes that follow the first 14 kept is one of the datagram
pub valid-seen : (packet : PacketState) (layer : Layer) (items datagram : List ℕ) (paint annotation stamp device number : ℕ)
    → seen items layer paint annotation stamp device number ≡ packet → datagram ≡ drop 14 items
    → IsValidIpv4 datagram → IsValidIpv4 (datagram_of packet)
valid-seen packet layer items datagram paint annotation stamp device number is e v =
    let P : List ℕ → Type 0 = λ d. IsValidIpv4 d in
    subst P (e ∙ sym (datagram_of-seen layer items paint annotation stamp device number) ∙ ap (λ p. datagram_of p) is) v
