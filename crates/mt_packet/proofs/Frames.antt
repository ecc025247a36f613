-- The IPv4 packet behind the Ethernet header of a frame.
use Rattle.std.proofs.Common.{◌≡◌, ◌∙◌, sym, refl, ℕ, ◌+◌, ◌≤◌, List, [], ◌∷◌, ◌++◌, length, take, drop, Bool, true, arith, ◌↔◌, IsTrue}
use Rattle.std.proofs.lemmas.Bool.Decides.{nat_tests}
use Rattle.std.proofs.lemmas.Grind.{common_steps}
use Rattle.std.proofs.lemmas.List.{length-drop, take-take, drop-take}
use Rattle.mt_packet.proofs.Readable.{ports_long}
use Rattle.mt_packet.specs.Ipv4.{header_length, total_length, has_ports, IsValidIpv4, is_valid_ipv4, is_readable}
use Rattle.mt_packet.specs.Packet.{ethernet_header}
use Rattle.mt_packet.specs.Write.{put_two, put_six}

-- a header with visible ports lies in a frame of at least 34 bytes
pub ports_behind : (frame : List ℕ) → has_ports (drop 14 frame) ≡ true
    → (34 ≤ length frame) × (14 + header_length (drop 14 frame) + 8 ≤ length frame)
ports_behind frame h =
    let l = ports_long (drop 14 frame) h in
    let e = length-drop 14 frame in
    (omega arith, omega arith)

-- a valid packet lies in a frame, with its whole length
pub valid_behind : (frame : List ℕ) → IsValidIpv4 (drop 14 frame)
    → (34 ≤ length frame) × (14 + total_length (drop 14 frame) ≤ length frame)
    × (20 ≤ total_length (drop 14 frame))
valid_behind frame v =
    let e = length-drop 14 frame in
    (omega arith, omega arith, omega arith)

-- a frame that is cut behind its packet
pub trimmed : (frame : List ℕ) (total : ℕ)
    → (take 14 (take (14 + total) frame) ≡ take 14 frame)
    × (drop 14 (take (14 + total) frame) ≡ take total (drop 14 frame))
trimmed frame total = (take-take 14 (14 + total) frame (omega arith), drop-take 14 total frame)

-- an Ethernet header is written over the first 14 bytes
pub encapsulated_bytes : (frame : List ℕ) (kind src dst : ℕ) → 14 ≤ length frame
    → put_two (put_six (put_six frame 0 dst) 6 src) 12 kind ≡ ethernet_header kind src dst ++ drop 14 frame
encapsulated_bytes ([]) kind src dst long = absurd (omega arith)
encapsulated_bytes (a ∷ []) kind src dst long = absurd (omega arith)
encapsulated_bytes (a ∷ b ∷ []) kind src dst long = absurd (omega arith)
encapsulated_bytes (a ∷ b ∷ c ∷ []) kind src dst long = absurd (omega arith)
encapsulated_bytes (a ∷ b ∷ c ∷ d ∷ []) kind src dst long = absurd (omega arith)
encapsulated_bytes (a ∷ b ∷ c ∷ d ∷ e ∷ []) kind src dst long = absurd (omega arith)
encapsulated_bytes (a ∷ b ∷ c ∷ d ∷ e ∷ f ∷ []) kind src dst long = absurd (omega arith)
encapsulated_bytes (a ∷ b ∷ c ∷ d ∷ e ∷ f ∷ g ∷ []) kind src dst long = absurd (omega arith)
encapsulated_bytes (a ∷ b ∷ c ∷ d ∷ e ∷ f ∷ g ∷ h ∷ []) kind src dst long = absurd (omega arith)
encapsulated_bytes (a ∷ b ∷ c ∷ d ∷ e ∷ f ∷ g ∷ h ∷ i ∷ []) kind src dst long = absurd (omega arith)
encapsulated_bytes (a ∷ b ∷ c ∷ d ∷ e ∷ f ∷ g ∷ h ∷ i ∷ j ∷ []) kind src dst long = absurd (omega arith)
encapsulated_bytes (a ∷ b ∷ c ∷ d ∷ e ∷ f ∷ g ∷ h ∷ i ∷ j ∷ k ∷ []) kind src dst long = absurd (omega arith)
encapsulated_bytes (a ∷ b ∷ c ∷ d ∷ e ∷ f ∷ g ∷ h ∷ i ∷ j ∷ k ∷ l ∷ []) kind src dst long = absurd (omega arith)
encapsulated_bytes (a ∷ b ∷ c ∷ d ∷ e ∷ f ∷ g ∷ h ∷ i ∷ j ∷ k ∷ l ∷ m ∷ []) kind src dst long = absurd (omega arith)
encapsulated_bytes (a ∷ b ∷ c ∷ d ∷ e ∷ f ∷ g ∷ h ∷ i ∷ j ∷ k ∷ l ∷ m ∷ n ∷ rest) kind src dst long = refl

-- the test of a valid packet is right
pub valid-holds : (datagram : List ℕ) → is_valid_ipv4 datagram ≡ true → IsValidIpv4 datagram
unfolding is_valid_ipv4 is_readable
valid-holds datagram h =
    record {
      has_fixed_part = grind (arith, nat_tests, common_steps);
      is_version_4 = grind (arith, nat_tests, common_steps);
      header_is_long_enough = grind (arith, nat_tests, common_steps);
      header_is_within = grind (arith, nat_tests, common_steps);
      packet_is_within = grind (arith, nat_tests, common_steps);
      sum_is_right = grind (arith, nat_tests, common_steps);
    }

pub valid-tested : (datagram : List ℕ) → IsValidIpv4 datagram → is_valid_ipv4 datagram ≡ true
unfolding is_valid_ipv4 is_readable
valid-tested datagram v = grind (arith, nat_tests, common_steps)

-- the test and the facts
pub valid-iff : (datagram : List ℕ) (b : Bool) → b ≡ is_valid_ipv4 datagram → IsTrue b ↔ IsValidIpv4 datagram
valid-iff datagram b e = (λ t. valid-holds datagram (sym e ∙ t), λ v. e ∙ valid-tested datagram v)
