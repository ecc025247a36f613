-- Writes of packets: of one field, and of two, at every layer.
use Rattle.std.proofs.Common.{◌≡◌, ◌≢◌, ◌∙◌, sym, ap, subst, refl, ℕ, ◌+◌, ◌/◌, ◌%◌, ◌<◌, ◌≤◌, List, [], ◌∷◌, ◌++◌, length, length-append, set, take, drop, Bool, true, false, ltb, if◌then◌else◌, arith}
use Rattle.std.proofs.Math.Seq.{take-set-lt}
use Rattle.std.proofs.lemmas.Bool.Decides.{nat_tests}
use Rattle.std.proofs.lemmas.List.{length-drop, length-take, length-set, set-append_left, drop-set-lt, take-append-le, take_all}
use Rattle.mt_packet.proofs.Forms.{Part, source, destination, code_point, life, source_port, destination_port, written}
use Rattle.mt_packet.proofs.Kept.{datagram_of-with, with_field-kept}
use Rattle.mt_packet.proofs.Orders.{Allowed, written-over, written-exchanged}
use Rattle.mt_packet.proofs.Spots.{Spot, low, high, sets, sets-sets, sets-again, sets-length}
use Rattle.mt_packet.proofs.Shape.{same-ports}
use Rattle.mt_packet.specs.Packet.{PacketState, has_ethernet, datagram_of, with_datagram, with_field, CanWrite, IsChecked, HasEthernet}
use Rattle.mt_packet.specs.WriteLaws.{LastWriteWins, WritesCommute, WritesStayAllowed}
use Rattle.mt_packet.specs.declared.field.Field.{Field}
use Rattle.mt_packet.specs.declared.field.Field.TheVariants.{Device, EthType, EthDst, EthSrc, ArpOp, Proto, Src, Dst, Dscp, Ecn, Sport, Dport, IcmpType, IpOk, Ports, Mf, FragOff, Ttl, Syn, Ack, Fin, Rst, Paint, Annotation}

-- the fields of an Ethernet header
pub data Side : Type 0 where
  type : Side
  receiver : Side
  sender : Side

-- the fields that can be written
pub data Writable : Type 0 where
  ethernet : Side → Writable
  painted : Writable
  annotated : Writable
  part : Part → Writable

abbrev pub field_for : Writable → Field
field_for (ethernet type) = EthType
field_for (ethernet receiver) = EthDst
field_for (ethernet sender) = EthSrc
field_for (part source) = Src
field_for (part destination) = Dst
field_for (part code_point) = Dscp
field_for (part source_port) = Sport
field_for (part destination_port) = Dport
field_for (part life) = Ttl
field_for painted = Paint
field_for annotated = Annotation

-- a number in six bytes, byte by byte
abbrev six : ℕ → ℕ → List (Spot × ℕ)
six p v =
    (low p, v / 4294967296 / 256 % 256) ∷ (low (p + 1), v / 4294967296 % 256)
    ∷ (low (p + 2), v / 65536 / 256 % 256) ∷ (low (p + 3), v / 65536 % 256)
    ∷ (low (p + 4), v / 256 % 256) ∷ (low (p + 5), v % 256) ∷ []

-- the bytes of a field of an Ethernet header
abbrev pub side_bytes : Side → ℕ → List (Spot × ℕ)
side_bytes type v = (low 12, v / 256 % 256) ∷ (low 13, v % 256) ∷ []
side_bytes receiver v = six 0 v
side_bytes sender v = six 6 v

-- the packet after a write
abbrev pub after : PacketState → Writable → ℕ → PacketState
after p (ethernet a) v = record p { bytes = sets 20 (side_bytes a v) p.bytes }
after p painted v = record p { paint = v }
after p annotated v = record p { annotation = v }
after p (part q) v = with_datagram p (written (datagram_of p) q v)

pub as-after : (p : PacketState) (k : Writable) (v : ℕ) → with_field p (field_for k) v ≡ after p k v
as-after p (ethernet type) v = refl
as-after p (ethernet receiver) v = refl
as-after p (ethernet sender) v = refl
as-after p painted v = refl
as-after p annotated v = refl
as-after p (part source) v = refl
as-after p (part destination) v = refl
as-after p (part code_point) v = refl
as-after p (part life) v = refl
as-after p (part source_port) v = refl
as-after p (part destination_port) v = refl

-- when a field may be written
abbrev pub Can : PacketState → Writable → ℕ → Type 0
Can p (ethernet a) v = HasEthernet p
Can p painted v = Unit {0}
Can p annotated v = Unit {0}
Can p (part q) v = IsChecked p × Allowed (datagram_of p) q v

pub can : (p : PacketState) (k : Writable) (v : ℕ) → CanWrite p (field_for k) v → Can p k v
can p (ethernet type) v c = c.0
can p (ethernet receiver) v c = c.0
can p (ethernet sender) v c = c.0
can p painted v c = tt
can p annotated v c = tt
can p (part source) v c = c
can p (part destination) v c = c
can p (part code_point) v c = c
can p (part life) v c = c
can p (part source_port) v c = (c.0.is_checked, (c.0.are_visible, c.1))
can p (part destination_port) v c = (c.0.is_checked, (c.0.are_visible, c.1))

-- a field that may be written is one of these
pub which : (p : PacketState) (field : Field) (v : ℕ) → CanWrite p field v → (k : Writable) × (field_for k ≡ field)
which p Device v c = absurd c
which p EthType v c = (ethernet type, refl)
which p EthDst v c = (ethernet receiver, refl)
which p EthSrc v c = (ethernet sender, refl)
which p ArpOp v c = absurd c
which p Proto v c = absurd c
which p Src v c = (part source, refl)
which p Dst v c = (part destination, refl)
which p Dscp v c = (part code_point, refl)
which p Ecn v c = absurd c
which p Sport v c = (part source_port, refl)
which p Dport v c = (part destination_port, refl)
which p IcmpType v c = absurd c
which p IpOk v c = absurd c
which p Ports v c = absurd c
which p Mf v c = absurd c
which p FragOff v c = absurd c
which p Ttl v c = (part life, refl)
which p Syn v c = absurd c
which p Ack v c = absurd c
which p Fin v c = absurd c
which p Rst v c = absurd c
which p Paint v c = (painted, refl)
which p Annotation v c = (annotated, refl)

-- bytes of the Ethernet header
abbrev within : List (Spot × ℕ) → Bool
within [] = true
within ((low i, v) ∷ ws) = if ltb i 14 then within ws else false
within ((high k, v) ∷ ws) = false

either : (b c : Bool) → (if b then c else false) ≡ true → (b ≡ true) × (c ≡ true)
either true c h = (refl, h)
either false c h = cc

below : (i : ℕ) → ltb i 14 ≡ true → i < 14
below i h = grind (arith, nat_tests)

take-within : (ws : List (Spot × ℕ)) (d : List ℕ) → within ws ≡ true → take 14 (sets 20 ws d) ≡ sets 20 ws (take 14 d)
take-within [] d w = refl
take-within ((low i, v) ∷ ws) d w =
    let e = either (ltb i 14) (within ws) w in
    take-within ws (set d i v) e.1 ∙ ap (sets 20 ws) (take-set-lt 14 d i v (below i e.0))
take-within ((high k, v) ∷ ws) d w = cc

drop-within : (ws : List (Spot × ℕ)) (d : List ℕ) → within ws ≡ true → drop 14 (sets 20 ws d) ≡ drop 14 d
drop-within [] d w = refl
drop-within ((low i, v) ∷ ws) d w =
    let e = either (ltb i 14) (within ws) w in
    drop-within ws (set d i v) e.1 ∙ drop-set-lt 14 d i v (below i e.0)
drop-within ((high k, v) ∷ ws) d w = cc

append-within : (ws : List (Spot × ℕ)) (front back : List ℕ) → within ws ≡ true → length front ≡ 14
    → sets 20 ws (front ++ back) ≡ sets 20 ws front ++ back
append-within [] front back w n = refl
append-within ((low i, v) ∷ ws) front back w n =
    let e = either (ltb i 14) (within ws) w in
    let here = below i e.0 in
    ap (sets 20 ws) (set-append_left front back i v (omega arith))
    ∙ append-within ws (set front i v) back e.1 (length-set front i v ∙ n)
append-within ((high k, v) ∷ ws) front back w n = cc

side-within : (a : Side) (v : ℕ) → within (side_bytes a v) ≡ true
side-within type v = refl
side-within receiver v = refl
side-within sender v = refl

sides-again : (a : Side) (v w : ℕ) (d : List ℕ) → sets 20 (side_bytes a w) (sets 20 (side_bytes a v) d) ≡ sets 20 (side_bytes a w) d
sides-again type v w d = sets-again 20 (side_bytes type v) (side_bytes type w) d (omega arith) refl
sides-again receiver v w d = sets-again 20 (side_bytes receiver v) (side_bytes receiver w) d (omega arith) refl
sides-again sender v w d = sets-again 20 (side_bytes sender v) (side_bytes sender w) d (omega arith) refl

sides-exchanged : (a b : Side) (v w : ℕ) (d : List ℕ) → (a ≡ b → ⊥)
    → sets 20 (side_bytes b w) (sets 20 (side_bytes a v) d) ≡ sets 20 (side_bytes a v) (sets 20 (side_bytes b w) d)
sides-exchanged type type v w d n = absurd (n refl)
sides-exchanged type receiver v w d n = sets-sets 20 (side_bytes receiver w) (side_bytes type v) d (omega arith) refl
sides-exchanged type sender v w d n = sets-sets 20 (side_bytes sender w) (side_bytes type v) d (omega arith) refl
sides-exchanged receiver type v w d n = sets-sets 20 (side_bytes type w) (side_bytes receiver v) d (omega arith) refl
sides-exchanged receiver receiver v w d n = absurd (n refl)
sides-exchanged receiver sender v w d n = sets-sets 20 (side_bytes sender w) (side_bytes receiver v) d (omega arith) refl
sides-exchanged sender type v w d n = sets-sets 20 (side_bytes type w) (side_bytes sender v) d (omega arith) refl
sides-exchanged sender receiver v w d n = sets-sets 20 (side_bytes receiver w) (side_bytes sender v) d (omega arith) refl
sides-exchanged sender sender v w d n = absurd (n refl)

-- a datagram that is put in twice
twice-bytes : (b : Bool) (bytes d e : List ℕ) → (b ≡ true → 14 ≤ length bytes)
    → (if b then take 14 (if b then take 14 bytes ++ d else d) ++ e else e) ≡ (if b then take 14 bytes ++ e else e)
twice-bytes true bytes d e long =
    let l = long refl in
    let n : length (take 14 bytes) ≡ 14 = length-take 14 bytes ∙ omega arith in
    ap (λ f. f ++ e) (front-of (take 14 bytes) d n)
  where
    front-of : (f g : List ℕ) → length f ≡ 14 → take 14 (f ++ g) ≡ f
    front-of f g n = take-append-le 14 f g (omega arith) ∙ take_all 14 f (omega arith)
twice-bytes false bytes d e long = refl

long-if : (b : Bool) (bytes : List ℕ) → 20 ≤ length (if b then drop 14 bytes else bytes) → b ≡ true → 14 ≤ length bytes
long-if true bytes h e = let n = length-drop 14 bytes in omega arith
long-if false bytes h e = cc

with-twice : (p : PacketState) (d e : List ℕ) → IsChecked p → with_datagram (with_datagram p d) e ≡ with_datagram p e
with-twice p d e c =
    ap (λ b. record p { bytes = b })
    (twice-bytes (has_ethernet p.layer) p.bytes d e (long-if (has_ethernet p.layer) p.bytes c.has_fixed_part))

-- the last write of a field wins
last-after : (p : PacketState) (k : Writable) (v w : ℕ) → Can p k v → after (after p k v) k w ≡ after p k w
last-after p (ethernet a) v w c = ap (λ b. record p { bytes = b }) (sides-again a v w p.bytes)
last-after p painted v w c = refl
last-after p annotated v w c = refl
last-after p (part q) v w c =
    ap (λ d. with_datagram (with_datagram p (written (datagram_of p) q v)) (written d q w)) (datagram_of-with p (written (datagram_of p) q v) c.0)
    ∙ with-twice p (written (datagram_of p) q v) (written (written (datagram_of p) q v) q w) c.0
    ∙ ap (with_datagram p) (written-over (datagram_of p) q v w c.0 c.1)

-- the Ethernet header and what is behind it
pub side-datagram : (p : PacketState) (a : Side) (v : ℕ) → HasEthernet p → datagram_of (after p (ethernet a) v) ≡ datagram_of p
side-datagram p a v h = by_layer (has_ethernet p.layer) h.is_there
  where
    by_layer : (b : Bool) → b ≡ true
        → (if b then drop 14 (sets 20 (side_bytes a v) p.bytes) else sets 20 (side_bytes a v) p.bytes) ≡ (if b then drop 14 p.bytes else p.bytes)
    by_layer true t = drop-within (side_bytes a v) p.bytes (side-within a v)
    by_layer false t = cc

side-with : (p : PacketState) (a : Side) (v : ℕ) (d : List ℕ) → HasEthernet p
    → with_datagram (after p (ethernet a) v) d ≡ after (with_datagram p d) (ethernet a) v
side-with p a v d h =
    ap (λ b. record p { bytes = b }) (by_layer (has_ethernet p.layer) h.is_there)
  where
    front-long : length (take 14 p.bytes) ≡ 14
    front-long = let l = h.is_whole in length-take 14 p.bytes ∙ omega arith

    by_layer : (b : Bool) → b ≡ true
        → (if b then take 14 (sets 20 (side_bytes a v) p.bytes) ++ d else d) ≡ sets 20 (side_bytes a v) (if b then take 14 p.bytes ++ d else d)
    by_layer true t =
        ap (λ f. f ++ d) (take-within (side_bytes a v) p.bytes (side-within a v))
        ∙ sym (append-within (side_bytes a v) (take 14 p.bytes) d (side-within a v) front-long)
    by_layer false t = cc

side-part : (p : PacketState) (a : Side) (q : Part) (v w : ℕ) → HasEthernet p
    → after (after p (ethernet a) v) (part q) w ≡ after (after p (part q) w) (ethernet a) v
side-part p a q v w h =
    ap (λ d. with_datagram (after p (ethernet a) v) (written d q w)) (side-datagram p a v h)
    ∙ side-with p a v (written (datagram_of p) q w) h

-- writes of two fields, in either order
exchanged-after : (p : PacketState) (k l : Writable) (v w : ℕ) → (k ≡ l → ⊥) → Can p k v → Can p l w
    → after (after p k v) l w ≡ after (after p l w) k v
exchanged-after p (ethernet a) (ethernet b) v w n c e =
    ap (λ x. record p { bytes = x }) (sides-exchanged a b v w p.bytes (λ s. n (ap ethernet s)))
exchanged-after p (ethernet a) painted v w n c e = refl
exchanged-after p (ethernet a) annotated v w n c e = refl
exchanged-after p (ethernet a) (part q) v w n c e = side-part p a q v w c
exchanged-after p painted (ethernet b) v w n c e = refl
exchanged-after p painted painted v w n c e = absurd (n refl)
exchanged-after p painted annotated v w n c e = refl
exchanged-after p painted (part q) v w n c e = refl
exchanged-after p annotated (ethernet b) v w n c e = refl
exchanged-after p annotated painted v w n c e = refl
exchanged-after p annotated annotated v w n c e = absurd (n refl)
exchanged-after p annotated (part q) v w n c e = refl
exchanged-after p (part q) (ethernet b) v w n c e = sym (side-part p b q w v e)
exchanged-after p (part q) painted v w n c e = refl
exchanged-after p (part q) annotated v w n c e = refl
exchanged-after p (part q) (part r) v w n c e =
    in_turn p q r v w c.0
    ∙ ap (with_datagram p) (written-exchanged (datagram_of p) q r v w c.0 (λ s. n (ap part s)))
    ∙ sym (in_turn p r q w v c.0)
  where
    in_turn : (p : PacketState) (q r : Part) (v w : ℕ) → IsChecked p
        → after (after p (part q) v) (part r) w ≡ with_datagram p (written (written (datagram_of p) q v) r w)
    in_turn p q r v w c =
        ap (λ d. with_datagram (with_datagram p (written (datagram_of p) q v)) (written d r w)) (datagram_of-with p (written (datagram_of p) q v) c)
        ∙ with-twice p (written (datagram_of p) q v) (written (written (datagram_of p) q v) r w) c

both-after : (p : PacketState) (k l : Writable) (v w : ℕ)
    → with_field (with_field p (field_for k) v) (field_for l) w ≡ after (after p k v) l w
both-after p k l v w = as-after (with_field p (field_for k) v) l w ∙ ap (λ q. after q l w) (as-after p k v)

pub last-write-wins : LastWriteWins
last-write-wins p field v w c e = told (which p field v c)
  where
    told : (k : Writable) × (field_for k ≡ field) → with_field (with_field p field v) field w ≡ with_field p field w
    told k =
        let P : Field → Type 0 = λ f. CanWrite p f v → with_field (with_field p f v) f w ≡ with_field p f w in
        subst P k.1 (λ h. both-after p k.0 k.0 v w ∙ last-after p k.0 v w (can p k.0 v h) ∙ sym (as-after p k.0 w)) c

pub writes-commute : WritesCommute
writes-commute p field other v w n c e = told (which p field v c) (which p other w e)
  where
    told : (k : Writable) × (field_for k ≡ field) → (l : Writable) × (field_for l ≡ other)
        → with_field (with_field p field v) other w ≡ with_field (with_field p other w) field v
    told k l =
        let Q : Field → Type 0 = λ g. (field_for k.0 ≢ g) → CanWrite p g w → with_field (with_field p (field_for k.0) v) g w ≡ with_field (with_field p g w) (field_for k.0) v in
        let P : Field → Type 0 = λ f. (f ≢ other) → CanWrite p f v → with_field (with_field p f v) other w ≡ with_field (with_field p other w) f v in
        subst P k.1
        (λ m h. subst Q l.1
        (λ o i. both-after p k.0 l.0 v w ∙ exchanged-after p k.0 l.0 v w (λ s. o (ap field_for s)) (can p k.0 v h) (can p l.0 w i) ∙ sym (both-after p l.0 k.0 w v))
        m e)
        n c

-- an Ethernet header stays whole
keeps-ethernet : (p : PacketState) (k : Writable) (v : ℕ) → HasEthernet p → HasEthernet (after p k v)
keeps-ethernet p (ethernet a) v h =
    record { is_there = h.is_there; is_whole = let n = sets-length 20 (side_bytes a v) p.bytes in let l = h.is_whole in omega arith }
keeps-ethernet p painted v h = record { is_there = h.is_there; is_whole = h.is_whole }
keeps-ethernet p annotated v h = record { is_there = h.is_there; is_whole = h.is_whole }
keeps-ethernet p (part q) v h =
    record { is_there = h.is_there; is_whole = by_layer (has_ethernet p.layer) h.is_there (written (datagram_of p) q v) h.is_whole }
  where
    by_layer : (b : Bool) → b ≡ true → (d : List ℕ) → 14 ≤ length p.bytes → 14 ≤ length (if b then take 14 p.bytes ++ d else d)
    by_layer true t d long =
        let n = length-take 14 p.bytes in let m = length-append (take 14 p.bytes) d in omega arith
    by_layer false t d long = cc

still-ethernet : (p : PacketState) (field : Field) (v : ℕ) → CanWrite p field v → HasEthernet p → HasEthernet (with_field p field v)
still-ethernet p field v c h = told (which p field v c)
  where
    told : (k : Writable) × (field_for k ≡ field) → HasEthernet (with_field p field v)
    told k =
        let P : Field → Type 0 = λ f. HasEthernet (with_field p f v) in
        let E : PacketState → Type 0 = λ q. HasEthernet q in
        subst P k.1 (subst E (sym (as-after p k.0 v)) (keeps-ethernet p k.0 v h))

pub writes-stay-allowed : WritesStayAllowed
writes-stay-allowed p field Device v w c e = absurd e
writes-stay-allowed p field EthType v w c e = (still-ethernet p field v c e.0, e.1)
writes-stay-allowed p field EthDst v w c e = (still-ethernet p field v c e.0, e.1)
writes-stay-allowed p field EthSrc v w c e = (still-ethernet p field v c e.0, e.1)
writes-stay-allowed p field ArpOp v w c e = absurd e
writes-stay-allowed p field Proto v w c e = absurd e
writes-stay-allowed p field Src v w c e = ((with_field-kept p field v c).still_valid e.0, e.1)
writes-stay-allowed p field Dst v w c e = ((with_field-kept p field v c).still_valid e.0, e.1)
writes-stay-allowed p field Dscp v w c e = ((with_field-kept p field v c).still_valid e.0, e.1)
writes-stay-allowed p field Ecn v w c e = absurd e
writes-stay-allowed p field Sport v w c e = (record { is_checked = (with_field-kept p field v c).still_valid e.0.is_checked; are_visible = same-ports _ _ (with_field-kept p field v c).same_shape ∙ e.0.are_visible }, e.1)
writes-stay-allowed p field Dport v w c e = (record { is_checked = (with_field-kept p field v c).still_valid e.0.is_checked; are_visible = same-ports _ _ (with_field-kept p field v c).same_shape ∙ e.0.are_visible }, e.1)
writes-stay-allowed p field IcmpType v w c e = absurd e
writes-stay-allowed p field IpOk v w c e = absurd e
writes-stay-allowed p field Ports v w c e = absurd e
writes-stay-allowed p field Mf v w c e = absurd e
writes-stay-allowed p field FragOff v w c e = absurd e
writes-stay-allowed p field Ttl v w c e = ((with_field-kept p field v c).still_valid e.0, e.1)
writes-stay-allowed p field Syn v w c e = absurd e
writes-stay-allowed p field Ack v w c e = absurd e
writes-stay-allowed p field Fin v w c e = absurd e
writes-stay-allowed p field Rst v w c e = absurd e
writes-stay-allowed p field Paint v w c e = e
writes-stay-allowed p field Annotation v w c e = e
