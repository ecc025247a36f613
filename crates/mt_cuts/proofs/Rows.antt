-- Two trees built by hand.
use Rattle.std.proofs.Common.{◌≡◌, ℕ, [], ◌∷◌, refl}
use Rattle.mt_packet.specs.declared.field.Field.{Field}
use Rattle.mt_packet.specs.declared.field.Field.TheVariants.{EthType, ArpOp}
use Rattle.mt_cuts.specs.Tree.{Tree, class, cut, value_of}
use Rattle.mt_cuts.specs.View.{node}

-- the classes of a chain that tells IPv4 and ARP requests from other frames
abbrev types : Tree
types =
    node EthType (2047 ∷ 2048 ∷ 2053 ∷ 2054 ∷ 65536 ∷ [])
    (class 0 ∷ class 1 ∷ class 0
    ∷ node ArpOp (0 ∷ 1 ∷ 65536 ∷ []) (class 0 ∷ class 2 ∷ class 0 ∷ [])
    ∷ class 0 ∷ [])

types-view : types ≡ cut EthType 2047 (class 0) (cut EthType 2048 (class 1) (cut EthType 2053 (class 0) (cut EthType 2054 (cut ArpOp 0 (class 0) (cut ArpOp 1 (class 2) (class 0))) (class 0))))
types-view = refl

header_with : ℕ → ℕ → Field → ℕ
header_with ether_type operation EthType = ether_type
header_with ether_type operation ArpOp = operation
header_with ether_type operation _ = 0

types-at_ip : value_of types (header_with 2048 65536) ≡ 1
unfolding header_with
types-at_ip = refl

types-at_request : value_of types (header_with 2054 1) ≡ 2
unfolding header_with
types-at_request = refl

types-at_reply : value_of types (header_with 2054 2) ≡ 0
unfolding header_with
types-at_reply = refl

types-behind : value_of types (header_with 2055 1) ≡ 0
unfolding header_with
types-behind = refl
