-- Numbers put into bytes.
use Rattle.std.proofs.Common.{◌≡◌, ◌≢◌, ◌∙◌, ap, get_or, refl, ℕ, ◌+◌, ◌-◌, ◌/◌, ◌%◌, ◌<◌, ◌≤◌, List, length, set, take, sum, Bool, true, false, arith, ◌||◌, ◌⊎◌, inl, inr}
use Rattle.std.proofs.lemmas.Bool.Decides.{nat_tests}
use Rattle.std.proofs.lemmas.Grind.{common_steps}
use Rattle.std.proofs.lemmas.List.{get_or-set_other, get_or-set_same, length-set, set-set, set_comm}
use Rattle.mt_packet.proofs.Readable.{tcp_long, udp_long}
use Rattle.mt_packet.specs.Checksum.{words_of, ones_complement, negative_of}
use Rattle.mt_packet.specs.Field.{two_bytes_at}
use Rattle.mt_packet.specs.Ipv4.{header_length, has_ports, has_message, proto_of}
use Rattle.mt_packet.specs.Write.{put_two, put_four, checksum_offset, with_header_checksum}

-- a byte at which a write does not stand
pub put_two-apart : (d : List ℕ) (p v i : ℕ) → i ≢ p → i ≢ p + 1 → get_or (put_two d p v) i 0 ≡ get_or d i 0
put_two-apart d p v i a b =
    get_or-set_other (set d p (v / 256 % 256)) (p + 1) i (v % 256) 0 b ∙ get_or-set_other d p i (v / 256 % 256) 0 a

pub put_four-apart : (d : List ℕ) (p v i : ℕ) → i ≢ p → i ≢ p + 1 → i ≢ p + 2 → i ≢ p + 3 → get_or (put_four d p v) i 0 ≡ get_or d i 0
put_four-apart d p v i a b c e =
    let e' : i ≢ p + 2 + 1 = omega arith in
    put_two-apart (put_two d p (v / 65536)) (p + 2) v i c e' ∙ put_two-apart d p (v / 65536) i a b

-- a number that is put into bytes is read there
pub two-put : (d : List ℕ) (p v : ℕ) → p + 1 < length d → two_bytes_at (put_two d p v) p ≡ v % 65536
two-put d p v within =
    let here : p < length d = omega arith in
    let a : get_or (set d p (v / 256 % 256)) p 0 ≡ v / 256 % 256 = get_or-set_same d p (v / 256 % 256) 0 here in
    let n = length-set d p (v / 256 % 256) in
    let next : p + 1 < length (set d p (v / 256 % 256)) = omega arith in
    let b : get_or (put_two d p v) (p + 1) 0 ≡ v % 256 = get_or-set_same (set d p (v / 256 % 256)) (p + 1) (v % 256) 0 next in
    let c : get_or (put_two d p v) p 0 ≡ get_or (set d p (v / 256 % 256)) p 0 = get_or-set_other (set d p (v / 256 % 256)) (p + 1) p (v % 256) 0 (omega arith) in
    omega arith

-- the later of two writes stays
pub put_two-again : (l : List ℕ) (p u v : ℕ) → put_two (put_two l p u) p v ≡ put_two l p v
put_two-again l p u v =
    let apart : p + 1 ≢ p = omega arith in
    ap (λ m. set m (p + 1) (v % 256))
    (set_comm (set l p (u / 256 % 256)) (p + 1) p (u % 256) (v / 256 % 256) apart
    ∙ ap (λ m. set m (p + 1) (u % 256)) (set-set l p (u / 256 % 256) (v / 256 % 256)))
    ∙ set-set (set l p (v / 256 % 256)) (p + 1) (u % 256) (v % 256)

-- the ones' complement of a sum's ones' complement number
pub negative-ones_complement : (plain : ℕ) → (65535 - ones_complement plain) % 65535 ≡ negative_of plain
negative-ones_complement plain = grind (arith, nat_tests)

-- the header checksum is written through a checksum of 0
pub header-mended : (datagram zeroed after : List ℕ) (header total : ℕ) → header ≡ header_length datagram
    → zeroed ≡ put_two datagram 10 0
    → total ≡ ones_complement (sum (words_of (take header zeroed)))
    → after ≡ put_two zeroed 10 ((65535 - total) % 65535)
    → after ≡ with_header_checksum datagram
unfolding with_header_checksum
header-mended datagram zeroed after header total h z t a =
    a
    ∙ ap (λ d. put_two d 10 ((65535 - total) % 65535)) z
    ∙ put_two-again datagram 10 0 ((65535 - total) % 65535)
    ∙ ap (λ v. put_two datagram 10 v)
    (ap (λ n. (65535 - n) % 65535) t
    ∙ negative-ones_complement (sum (words_of (take header zeroed)))
    ∙ ap (λ w. negative_of (sum (words_of w))) (ap (λ n. take n zeroed) h ∙ ap (λ d. take (header_length datagram) d) z))

-- a message has its protocol
pub message_proto : (datagram : List ℕ) (protocol least : ℕ) → has_message datagram protocol least ≡ true
    → proto_of datagram ≡ protocol
unfolding has_message
message_proto datagram protocol least h = grind (arith, common_steps, nat_tests)

-- one of two tests holds
one_of : (a b : Bool) → (a || b) ≡ true → (a ≡ true) ⊎ (b ≡ true)
one_of true b h = inl refl
one_of false b h = inr h

-- visible ports are those of TCP or of UDP
pub ports-cases : (datagram : List ℕ) → has_ports datagram ≡ true
    → (has_message datagram 6 20 ≡ true) ⊎ (has_message datagram 17 8 ≡ true)
unfolding has_ports
ports-cases datagram h = one_of (has_message datagram 6 20) (has_message datagram 17 8) h

tcp_within : (datagram : List ℕ) → has_message datagram 6 20 ≡ true
    → (20 ≤ length datagram) × (checksum_offset datagram + 1 < length datagram)
tcp_within datagram h =
    let p = message_proto datagram 6 20 h in
    let l = tcp_long datagram h in
    rw p (omega arith, omega arith)

udp_within : (datagram : List ℕ) → has_message datagram 17 8 ≡ true
    → (20 ≤ length datagram) × (checksum_offset datagram + 1 < length datagram)
udp_within datagram h =
    let p = message_proto datagram 17 8 h in
    let l = udp_long datagram h in
    rw p (omega arith, omega arith)

-- the transport checksum lies within the packet
pub checksum_within : (datagram : List ℕ) → has_ports datagram ≡ true
    → (20 ≤ length datagram) × (checksum_offset datagram + 1 < length datagram)
checksum_within datagram h =
    elim (ports-cases datagram h) [ inl t ↦ tcp_within datagram t | inr u ↦ udp_within datagram u ]
