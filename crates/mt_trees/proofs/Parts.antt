-- Writes of the fields of IPv4, one lemma for all six, and what every write leaves.
use Rattle.std.proofs.Common.{◌≡◌, ◌≢◌, ◌∙◌, sym, ap, subst, refl, ℕ, ◌<◌, true, List, [], ◌∷◌, length, get_or, set, arith}
use Rattle.std.specs.Prelude.{Option, Some, None, slice_set}
use Rattle.std.proofs.lemmas.List.{get_or-set_same, get_or-set_other}
use Rattle.mt_packet.proofs.After.{with_field-header}
use Rattle.mt_packet.proofs.Forms.{Part, source, destination, code_point, life, source_port, destination_port, written}
use Rattle.mt_packet.proofs.PacketWrites.{part, field_for, as-after, writes-stay-allowed}
use Rattle.mt_packet.proofs.Settles.{write-settles}
use Rattle.mt_packet.specs.Header.{number_of}
use Rattle.mt_packet.specs.Ipv4.{has_ports}
use Rattle.mt_packet.specs.Packet.{PacketState, datagram_of, with_datagram, packet_header, with_field, header_after, CanWrite, IsChecked, HasPorts, HasWrittenSums}
use Rattle.mt_packet.specs.declared.field.Field.{Field}
use Rattle.mt_packet.specs.declared.field.Field.TheVariants.{Device, EthType, EthDst, EthSrc, ArpOp, Proto, Src, Dst, Dscp, Ecn, Sport, Dport, IcmpType, IpOk, Ports, Mf, FragOff, Ttl, Syn, Ack, Fin, Rst, Paint, Annotation}
use Rattle.mt_packet.specs.declared.layer.Layer.TheVariants.{Ip}
use Rattle.mt_trees.proofs.Writes.{opt, all, May, same_number}

-- a field of IPv4 that can be written
abbrev pub at : Part → Field
at q = field_for (part q)

-- ---- what a write leaves

pub same_layer : (p : PacketState) (field : Field) (v : ℕ) → (with_field p field v).layer ≡ p.layer
same_layer p EthType v = refl
same_layer p EthDst v = refl
same_layer p EthSrc v = refl
same_layer p Paint v = refl
same_layer p Annotation v = refl
same_layer p field v = refl

pub record Came (p q : PacketState) : Type 0 where
  pub stamp : q.stamp ≡ p.stamp
  pub device : q.device ≡ p.device
  pub number : q.number ≡ p.number

pub same_origin : (p : PacketState) (field : Field) (v : ℕ) → Came p (with_field p field v)
same_origin p EthType v = record { stamp = refl; device = refl; number = refl }
same_origin p EthDst v = record { stamp = refl; device = refl; number = refl }
same_origin p EthSrc v = record { stamp = refl; device = refl; number = refl }
same_origin p Paint v = record { stamp = refl; device = refl; number = refl }
same_origin p Annotation v = record { stamp = refl; device = refl; number = refl }
same_origin p field v = record { stamp = refl; device = refl; number = refl }

pub came_again : (p q r : PacketState) → Came p q → Came q r → Came p r
came_again p q r a b = record { stamp = b.stamp ∙ a.stamp; device = b.device ∙ a.device; number = b.number ∙ a.number }

opt_layer : (p : PacketState) (field : Field) (o : Option ℕ) → (opt p field o).layer ≡ p.layer
opt_layer p field None = refl
opt_layer p field (Some v) = same_layer p field v

pub all_layer : (t : Field → Option ℕ) (fs : List Field) (p : PacketState) → (all t p fs).layer ≡ p.layer
all_layer t [] p = refl
all_layer t (f ∷ fs) p = all_layer t fs (opt p f (t f)) ∙ opt_layer p f (t f)

opt_sums : (t : Field → Option ℕ) (p : PacketState) (field : Field) (o : Option ℕ) → t field ≡ o → May t p → HasWrittenSums p → HasWrittenSums (opt p field o)
opt_sums t p field None e m h = h
opt_sums t p field (Some v) e m h = write-settles p field v (m field v e) h

pub opt_may : (t : Field → Option ℕ) (p : PacketState) (g : Field) (o : Option ℕ) → t g ≡ o → May t p → May t (opt p g o)
opt_may t p g None e m = m
opt_may t p g (Some w) e m = λ f v is. writes-stay-allowed p g f w v (m g w e) (m f v is)

-- the sums of a checked packet stay in their written form
pub all_sums : (t : Field → Option ℕ) (fs : List Field) (p : PacketState) → May t p → HasWrittenSums p → HasWrittenSums (all t p fs)
all_sums t [] p m h = h
all_sums t (f ∷ fs) p m h = all_sums t fs (opt p f (t f)) (opt_may t p f (t f) refl m) (opt_sums t p f (t f) refl m h)

-- ---- at a layer without an Ethernet header

pub bare_bytes : (p : PacketState) → p.layer ≡ Ip → datagram_of p ≡ p.bytes
bare_bytes p ip = ap (λ l. datagram_of (record p { layer = l })) ip

pub part_bytes : (p : PacketState) (q : Part) (v : ℕ) → p.layer ≡ Ip → (with_field p (at q) v).bytes ≡ written p.bytes q v
part_bytes p q v ip = ap (λ r. r.bytes) (as-after p (part q) v) ∙ ap (λ l. (with_datagram (record p { layer = l }) (written (datagram_of (record p { layer = l })) q v)).bytes) ip

valid_as : (p r : PacketState) → datagram_of r ≡ datagram_of p → IsChecked p → IsChecked r
valid_as p r e v = subst (λ d. IsChecked (record p { bytes = d; layer = Ip })) (sym e) v

ports_as : (p r : PacketState) → datagram_of r ≡ datagram_of p → HasPorts p → HasPorts r
ports_as p r e h = record { is_checked = valid_as p r e h.is_checked; are_visible = subst (λ d. has_ports d ≡ true) (sym e) h.are_visible }

-- what may be written goes by the data
pub can_as : (p r : PacketState) (q : Part) (v : ℕ) → datagram_of r ≡ datagram_of p → CanWrite p (at q) v → CanWrite r (at q) v
can_as p r source v e c = (valid_as p r e c.0, c.1)
can_as p r destination v e c = (valid_as p r e c.0, c.1)
can_as p r code_point v e c = (valid_as p r e c.0, c.1)
can_as p r life v e c = (valid_as p r e c.0, c.1)
can_as p r source_port v e c = (ports_as p r e c.0, c.1)
can_as p r destination_port v e c = (ports_as p r e c.0, c.1)

-- ---- the header behind a write

after_part : (p : PacketState) (q : Part) (v : ℕ) → header_after p (at q) v ≡ slice_set (packet_header p) (number_of (at q)) v
after_part p source v = refl
after_part p destination v = refl
after_part p code_point v = refl
after_part p life v = refl
after_part p source_port v = refl
after_part p destination_port v = refl

pub part_header : (p : PacketState) (q : Part) (v : ℕ) → CanWrite p (at q) v → packet_header (with_field p (at q) v) ≡ slice_set (packet_header p) (number_of (at q)) v
part_header p q v c = with_field-header p (at q) v c ∙ after_part p q v

number_below : (f : Field) → number_of f < 24
number_below Device = omega arith
number_below EthType = omega arith
number_below EthDst = omega arith
number_below EthSrc = omega arith
number_below ArpOp = omega arith
number_below Proto = omega arith
number_below Src = omega arith
number_below Dst = omega arith
number_below Dscp = omega arith
number_below Ecn = omega arith
number_below Sport = omega arith
number_below Dport = omega arith
number_below IcmpType = omega arith
number_below IpOk = omega arith
number_below Ports = omega arith
number_below Mf = omega arith
number_below FragOff = omega arith
number_below Ttl = omega arith
number_below Syn = omega arith
number_below Ack = omega arith
number_below Fin = omega arith
number_below Rst = omega arith
number_below Paint = omega arith
number_below Annotation = omega arith

-- an entry of a list of 24 with one for each field
pub set_here : {A : Type 0} (xs : List A) (f : Field) (x d : A) → length xs ≡ 24 → get_or (set xs (number_of f) x) (number_of f) d ≡ x
set_here xs f x d long = get_or-set_same xs (number_of f) x d (let low = number_below f in omega (arith, low, long))

pub set_beside : {A : Type 0} (xs : List A) (f g : Field) (x d : A) → g ≢ f → get_or (set xs (number_of f) x) (number_of g) d ≡ get_or xs (number_of g) d
set_beside xs f g x d apart = get_or-set_other xs (number_of f) (number_of g) x d (λ e. apart (same_number g f e))
