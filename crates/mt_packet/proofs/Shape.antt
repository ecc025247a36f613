-- Two datagrams of one shape: the bytes on which the tests and the offsets of all fields depend.
use Rattle.std.proofs.Common.{◌≡◌, ◌≢◌, ◌∙◌, ap, refl, ℕ, ◌+◌, ◌*◌, ◌/◌, ◌%◌, ◌≤◌, List, length, get_or, set, true, inl, inr, arith}
use Rattle.std.proofs.lemmas.Bool.Decides.{nat_tests}
use Rattle.std.proofs.lemmas.Grind.{common_steps}
use Rattle.std.proofs.lemmas.List.{get_or-set_other, length-set}
use Rattle.mt_packet.proofs.Puts.{ports-cases}
use Rattle.mt_packet.specs.Ipv4.{header_length, total_length, is_readable, proto_of, frag_off_of, mf_of, has_message, has_ports}
use Rattle.mt_packet.specs.Write.{put_two, put_four, checksum_offset, with_header_checksum}

-- the second has the length and the shaping bytes of the first
pub record SameShape (old new : List ℕ) : Type 0 where
  pub same_length : length new ≡ length old
  pub byte_0 : get_or new 0 0 ≡ get_or old 0 0
  pub byte_2 : get_or new 2 0 ≡ get_or old 2 0
  pub byte_3 : get_or new 3 0 ≡ get_or old 3 0
  pub byte_6 : get_or new 6 0 ≡ get_or old 6 0
  pub byte_7 : get_or new 7 0 ≡ get_or old 7 0
  pub byte_9 : get_or new 9 0 ≡ get_or old 9 0

pub SameShape-refl : (d : List ℕ) → SameShape d d
SameShape-refl d =
    record { same_length = refl; byte_0 = refl; byte_2 = refl; byte_3 = refl; byte_6 = refl; byte_7 = refl; byte_9 = refl }

pub SameShape-trans : (a b c : List ℕ) → SameShape a b → SameShape b c → SameShape a c
SameShape-trans a b c p q =
    record {
      same_length = q.same_length ∙ p.same_length;
      byte_0 = q.byte_0 ∙ p.byte_0;
      byte_2 = q.byte_2 ∙ p.byte_2;
      byte_3 = q.byte_3 ∙ p.byte_3;
      byte_6 = q.byte_6 ∙ p.byte_6;
      byte_7 = q.byte_7 ∙ p.byte_7;
      byte_9 = q.byte_9 ∙ p.byte_9;
    }

-- a write at another byte keeps the shape
pub SameShape-set : (d : List ℕ) (i v : ℕ) → 0 ≢ i → 2 ≢ i → 3 ≢ i → 6 ≢ i → 7 ≢ i → 9 ≢ i → SameShape d (set d i v)
SameShape-set d i v n0 n2 n3 n6 n7 n9 =
    record {
      same_length = length-set d i v;
      byte_0 = get_or-set_other d i 0 v 0 n0;
      byte_2 = get_or-set_other d i 2 v 0 n2;
      byte_3 = get_or-set_other d i 3 v 0 n3;
      byte_6 = get_or-set_other d i 6 v 0 n6;
      byte_7 = get_or-set_other d i 7 v 0 n7;
      byte_9 = get_or-set_other d i 9 v 0 n9;
    }

SameShape-beyond : (d : List ℕ) (i v : ℕ) → 10 ≤ i → SameShape d (set d i v)
SameShape-beyond d i v far =
    SameShape-set d i v (omega arith) (omega arith) (omega arith) (omega arith) (omega arith) (omega arith)

pub SameShape-put_two : (d : List ℕ) (p v : ℕ) → 10 ≤ p → SameShape d (put_two d p v)
SameShape-put_two d p v far =
    SameShape-trans d _ _ (SameShape-beyond d p (v / 256 % 256) far)
    (SameShape-beyond (set d p (v / 256 % 256)) (p + 1) (v % 256) (omega arith))

pub SameShape-put_four : (d : List ℕ) (p v : ℕ) → 10 ≤ p → SameShape d (put_four d p v)
SameShape-put_four d p v far =
    SameShape-trans d _ _ (SameShape-put_two d p (v / 65536) far)
    (SameShape-put_two (put_two d p (v / 65536)) (p + 2) v (omega arith))

pub SameShape-header_checksum : (d : List ℕ) → SameShape d (with_header_checksum d)
unfolding with_header_checksum
SameShape-header_checksum d = SameShape-put_two d 10 _ (omega arith)

-- a message stands behind a header of 20 bytes at least
pub message-header : (d : List ℕ) (protocol least : ℕ) → has_message d protocol least ≡ true → 20 ≤ header_length d
unfolding has_message
message-header d protocol least h = grind (arith, common_steps, nat_tests)

pub ports-header : (d : List ℕ) → has_ports d ≡ true → 20 ≤ header_length d
ports-header d h = elim (ports-cases d h) [ inl t ↦ message-header d 6 20 t | inr u ↦ message-header d 17 8 u ]

-- what follows from the shape
pub same-header_length : (d e : List ℕ) → SameShape d e → header_length e ≡ header_length d
same-header_length d e s = ap (λ b. b % 16 * 4) s.byte_0

pub same-total_length : (d e : List ℕ) → SameShape d e → total_length e ≡ total_length d
same-total_length d e s = let p = s.byte_2 in let q = s.byte_3 in cc

pub same-readable : (d e : List ℕ) → SameShape d e → is_readable e ≡ is_readable d
unfolding is_readable
same-readable d e s = let p = s.byte_0 in let q = s.same_length in cc

pub same-proto : (d e : List ℕ) → SameShape d e → proto_of e ≡ proto_of d
unfolding proto_of
same-proto d e s = let r = same-readable d e s in let q = s.byte_9 in cc

pub same-frag_off : (d e : List ℕ) → SameShape d e → frag_off_of e ≡ frag_off_of d
unfolding frag_off_of
same-frag_off d e s = let r = same-readable d e s in let p = s.byte_6 in let q = s.byte_7 in cc

pub same-mf : (d e : List ℕ) → SameShape d e → mf_of e ≡ mf_of d
unfolding mf_of
same-mf d e s = let r = same-readable d e s in let p = s.byte_6 in cc

pub same-message : (d e : List ℕ) (protocol least : ℕ) → SameShape d e → has_message e protocol least ≡ has_message d protocol least
unfolding has_message
same-message d e protocol least s =
    let r = same-readable d e s in
    let p = same-proto d e s in
    let f = same-frag_off d e s in
    let h = same-header_length d e s in
    let t = same-total_length d e s in
    let l = s.same_length in
    cc

pub same-ports : (d e : List ℕ) → SameShape d e → has_ports e ≡ has_ports d
unfolding has_ports
same-ports d e s = let t = same-message d e 6 20 s in let u = same-message d e 17 8 s in cc

pub same-offset : (d e : List ℕ) → SameShape d e → checksum_offset e ≡ checksum_offset d
same-offset d e s = let h = same-header_length d e s in let p = same-proto d e s in cc
