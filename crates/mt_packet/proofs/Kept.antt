-- What a packet keeps through each call: a valid packet stays valid, and its shape stays.
use Rattle.std.proofs.Common.{◌≡◌, ◌∙◌, sym, ap, subst, refl, ℕ, ◌+◌, ◌/◌, ◌%◌, ◌<◌, ◌≤◌, List, ◌++◌, length, set, take, drop, Bool, true, false, if◌then◌else◌, nat_le, arith}
use Rattle.std.proofs.lemmas.Bool.Decides.{nat_tests}
use Rattle.std.proofs.lemmas.List.{drop-set-lt, length-drop, length-take, get_or-take}
use Rattle.std.specs.Bool.{OnTrue}
use Rattle.mt_packet.proofs.Shape.{SameShape, SameShape-refl, SameShape-trans, SameShape-put_two, same-ports}
use Rattle.mt_packet.proofs.Valid.{choose, valid-cut, valid-header_zero, valid-address, valid-port, valid-ttl, valid-dscp, valid-checked, shape-address, shape-port, shape-ttl, shape-dscp}
use Rattle.mt_packet.proofs.Views.{behind}
use Rattle.mt_packet.specs.Ipv4.{IsValidIpv4, is_readable, header_length, total_length, carried_length, has_message, has_ports, frag_off_of, proto_of}
use Rattle.mt_packet.specs.Packet.{PacketState, has_ethernet, datagram_of, with_datagram, with_field, CanWrite, IsChecked, checked, checked_datagram, layer_checked}
use Rattle.mt_packet.specs.Write.{put_two, put_six, checksum_offset, with_header_zero, with_tcp_zero}
use Rattle.mt_packet.specs.declared.field.Field.{Field}
use Rattle.mt_packet.specs.declared.field.Field.TheVariants.{Device, EthType, EthDst, EthSrc, ArpOp, Proto, Src, Dst, Dscp, Ecn, Sport, Dport, IcmpType, IpOk, Ports, Mf, FragOff, Ttl, Syn, Ack, Fin, Rst, Paint, Annotation}
use Rattle.mt_packet.specs.declared.layer.Layer.{Layer}
use Rattle.mt_packet.specs.declared.layer.Layer.TheVariants.{Frame, Bare, Ip, Framed}

-- the second packet's datagram has the shape of the first's, and is valid if that is
pub record Kept (old new : PacketState) : Type 0 where
  pub same_shape : SameShape (datagram_of old) (datagram_of new)
  pub still_valid : IsChecked old → IsChecked new

kept-same : (p q : PacketState) → datagram_of q ≡ datagram_of p → Kept p q
kept-same p q e =
    let S : List ℕ → Type 0 = λ d. SameShape (datagram_of p) d in
    let V : List ℕ → Type 0 = λ d. IsValidIpv4 d in
    record { same_shape = subst S (sym e) (SameShape-refl (datagram_of p)); still_valid = λ v. subst V (sym e) v }

-- a valid datagram behind an Ethernet header has all of it in front
long-behind : (b : Bool) (bytes : List ℕ) → 20 ≤ length (if b then drop 14 bytes else bytes) → b ≡ true → 14 ≤ length bytes
long-behind true bytes h e = let n = length-drop 14 bytes in omega arith
long-behind false bytes h e = cc

with-behind : (b : Bool) (bytes d : List ℕ) → (b ≡ true → 14 ≤ length bytes)
    → (if b then drop 14 (if b then take 14 bytes ++ d else d) else (if b then take 14 bytes ++ d else d)) ≡ d
with-behind true bytes d long = behind bytes d (long refl)
with-behind false bytes d long = refl

-- the datagram that is put into a checked packet is its datagram
pub datagram_of-with : (p : PacketState) (d : List ℕ) → IsChecked p → datagram_of (with_datagram p d) ≡ d
datagram_of-with p d v =
    with-behind (has_ethernet p.layer) p.bytes d (long-behind (has_ethernet p.layer) p.bytes v.has_fixed_part)

kept-with : (p : PacketState) (d : List ℕ) → IsChecked p → SameShape (datagram_of p) d → IsValidIpv4 d → Kept p (with_datagram p d)
kept-with p d c s v =
    let S : List ℕ → Type 0 = λ e. SameShape (datagram_of p) e in
    let V : List ℕ → Type 0 = λ e. IsValidIpv4 e in
    let e = datagram_of-with p d c in
    record { same_shape = subst S (sym e) s; still_valid = λ _. subst V (sym e) v }

-- a write into the Ethernet header leaves what is behind it
pub drop-put_two : (bytes : List ℕ) (p v : ℕ) → p ≤ 12 → drop 14 (put_two bytes p v) ≡ drop 14 bytes
drop-put_two bytes p v within =
    let here : p < 14 = omega arith in
    let next : p + 1 < 14 = omega arith in
    drop-set-lt 14 (set bytes p (v / 256 % 256)) (p + 1) (v % 256) next ∙ drop-set-lt 14 bytes p (v / 256 % 256) here

pub drop-put_six : (bytes : List ℕ) (p v : ℕ) → p ≤ 8 → drop 14 (put_six bytes p v) ≡ drop 14 bytes
drop-put_six bytes p v within =
    drop-put_two _ (p + 2 + 2) v (omega arith)
    ∙ drop-put_two _ (p + 2) (v / 65536) (omega arith)
    ∙ drop-put_two bytes p (v / 4294967296) (omega arith)

kept-ethernet : (b : Bool) (bytes e : List ℕ) → b ≡ true → drop 14 e ≡ drop 14 bytes
    → (if b then drop 14 e else e) ≡ (if b then drop 14 bytes else bytes)
kept-ethernet true bytes e t same = same
kept-ethernet false bytes e t same = cc

-- what a write keeps
pub with_field-kept : (p : PacketState) (field : Field) (v : ℕ) → CanWrite p field v → Kept p (with_field p field v)
with_field-kept p EthType v c =
    kept-same p _ (kept-ethernet (has_ethernet p.layer) p.bytes (put_two p.bytes 12 v) c.0.is_there (drop-put_two p.bytes 12 v (omega arith)))
with_field-kept p EthDst v c =
    kept-same p _ (kept-ethernet (has_ethernet p.layer) p.bytes (put_six p.bytes 0 v) c.0.is_there (drop-put_six p.bytes 0 v (omega arith)))
with_field-kept p EthSrc v c =
    kept-same p _ (kept-ethernet (has_ethernet p.layer) p.bytes (put_six p.bytes 6 v) c.0.is_there (drop-put_six p.bytes 6 v (omega arith)))
with_field-kept p Paint v c = kept-same p _ refl
with_field-kept p Annotation v c = kept-same p _ refl
with_field-kept p Src v c =
    let least = c.0.header_is_long_enough in
    kept-with p _ c.0 (shape-address _ 12 v (omega arith) least) (valid-address _ 12 v (omega arith) c.0)
with_field-kept p Dst v c =
    let least = c.0.header_is_long_enough in
    kept-with p _ c.0 (shape-address _ 16 v (omega arith) least) (valid-address _ 16 v (omega arith) c.0)
with_field-kept p Dscp v c = kept-with p _ c.0 (shape-dscp _ v) (valid-dscp _ v c.0)
with_field-kept p Ttl v c = kept-with p _ c.0 (shape-ttl _ v) (valid-ttl _ v c.0)
with_field-kept p Sport v c =
    let w = c.0.is_checked in
    kept-with p _ w (shape-port _ _ v (omega arith) w.header_is_long_enough) (valid-port _ _ v (omega arith) w)
with_field-kept p Dport v c =
    let w = c.0.is_checked in
    kept-with p _ w (shape-port _ _ v (omega arith) w.header_is_long_enough) (valid-port _ _ v (omega arith) w)
with_field-kept p Device v c = absurd c
with_field-kept p ArpOp v c = absurd c
with_field-kept p Proto v c = absurd c
with_field-kept p Ecn v c = absurd c
with_field-kept p IcmpType v c = absurd c
with_field-kept p IpOk v c = absurd c
with_field-kept p Ports v c = absurd c
with_field-kept p Mf v c = absurd c
with_field-kept p FragOff v c = absurd c
with_field-kept p Syn v c = absurd c
with_field-kept p Ack v c = absurd c
with_field-kept p Fin v c = absurd c
with_field-kept p Rst v c = absurd c

-- a written packet stays checked, and has visible ports where it had them
pub written-checked : (p q : PacketState) (field : Field) (v : ℕ) → CanWrite p field v → q ≡ with_field p field v
    → IsChecked p → IsChecked q
written-checked p q field v c e w =
    let P : PacketState → Type 0 = λ r. IsChecked r in
    subst P (sym e) ((with_field-kept p field v c).still_valid w)

pub written-ports : (p q : PacketState) (field : Field) (v : ℕ) → CanWrite p field v → q ≡ with_field p field v
    → has_ports (datagram_of q) ≡ has_ports (datagram_of p)
written-ports p q field v c e =
    ap (λ r. has_ports (datagram_of r)) e ∙ same-ports _ _ (with_field-kept p field v c).same_shape

-- a checked packet is valid
pub checked-layer : (l : Layer) → has_ethernet (layer_checked l) ≡ has_ethernet l
checked-layer Frame = refl
checked-layer Bare = refl
checked-layer Ip = refl
checked-layer Framed = refl

pub datagram_of-checked : (p : PacketState) → IsChecked p → datagram_of (checked p) ≡ checked_datagram (datagram_of p)
datagram_of-checked p v =
    ap (λ b. if b then drop 14 (checked p).bytes else (checked p).bytes) (checked-layer p.layer)
    ∙ datagram_of-with p (checked_datagram (datagram_of p)) v

pub checked-checked : (p : PacketState) → IsChecked p → IsChecked (checked p)
checked-checked p v =
    let V : List ℕ → Type 0 = λ d. IsValidIpv4 d in
    subst V (sym (datagram_of-checked p v)) (valid-checked (datagram_of p) v)

pub header_zero-shape : (d : List ℕ) → SameShape d (with_header_zero d)
unfolding with_header_zero
header_zero-shape d =
    choose _ (λ e. SameShape d e) _ _ (λ _. SameShape-put_two d 10 0 (omega arith)) (λ _. SameShape-refl d)

pub tcp_zero-shape : (d : List ℕ) → 20 ≤ header_length d → SameShape d (with_tcp_zero d)
unfolding with_tcp_zero
tcp_zero-shape d least =
    choose _ (λ e. SameShape d e) _ _ (λ _. SameShape-put_two d (checksum_offset d) 0 (omega arith)) (λ _. SameShape-refl d)

-- what a cut to the total length leaves
pub cut-message : (d : List ℕ) (protocol least : ℕ) → IsValidIpv4 d
    → has_message (take (total_length d) d) protocol least ≡ has_message d protocol least
unfolding has_message is_readable frag_off_of proto_of
cut-message d protocol least v =
    let l = v.header_is_long_enough in
    let i = v.header_is_within in
    let w = v.packet_is_within in
    let n = length-take (total_length d) d in
    let long : nat_le 20 (length (take (total_length d) d)) ≡ nat_le 20 (length d) = grind (arith, nat_tests) in
    let b0 = get_or-take (total_length d) d 0 0 (omega arith) in
    let b2 = get_or-take (total_length d) d 2 0 (omega arith) in
    let b3 = get_or-take (total_length d) d 3 0 (omega arith) in
    let b6 = get_or-take (total_length d) d 6 0 (omega arith) in
    let b7 = get_or-take (total_length d) d 7 0 (omega arith) in
    let b9 = get_or-take (total_length d) d 9 0 (omega arith) in
    let c : carried_length (take (total_length d) d) ≡ carried_length d = omega (arith, b2, b3) in
    cc

-- a checked packet has visible ports where it had them
pub cut-ports : (d : List ℕ) → IsValidIpv4 d → has_ports (take (total_length d) d) ≡ has_ports d
unfolding has_ports
cut-ports d v = let t = cut-message d 6 20 v in let u = cut-message d 17 8 v in cc

pub zeros-shape : (d : List ℕ) → IsValidIpv4 d → SameShape d (with_tcp_zero (with_header_zero d))
zeros-shape d v =
    SameShape-trans d _ _ (header_zero-shape d) (tcp_zero-shape (with_header_zero d) (valid-header_zero d v).header_is_long_enough)

ports-checked : (d : List ℕ) → IsValidIpv4 d → has_ports (checked_datagram d) ≡ has_ports d
unfolding checked_datagram
ports-checked d v = same-ports _ _ (zeros-shape (take (total_length d) d) (valid-cut d v)) ∙ cut-ports d v

pub checked-ports : (p : PacketState) → IsChecked p → has_ports (datagram_of (checked p)) ≡ has_ports (datagram_of p)
checked-ports p v = ap has_ports (datagram_of-checked p v) ∙ ports-checked (datagram_of p) v

-- a packet after the check, by its answer
pub judged-checked : (p q : PacketState) (b : Bool) → (b ≡ true → IsChecked p) → q ≡ (if b then checked p else p)
    → OnTrue b (IsChecked q)
judged-checked p q true v e =
    let P : PacketState → Type 0 = λ r. IsChecked r in subst P (sym e) (checked-checked p (v refl))
judged-checked p q false v e = tt

pub judged-ports : (p q : PacketState) (b : Bool) → (b ≡ true → IsChecked p) → q ≡ (if b then checked p else p)
    → has_ports (datagram_of q) ≡ has_ports (datagram_of p)
judged-ports p q true v e = ap (λ r. has_ports (datagram_of r)) e ∙ checked-ports p (v refl)
judged-ports p q false v e = ap (λ r. has_ports (datagram_of r)) e
