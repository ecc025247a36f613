-- The definitions on arguments that were read by hand.
use Rattle.std.proofs.Common.{◌≡◌, [], ◌∷◌, Some, None, true, false, refl}
use Rattle.std.specs.Prelude.{codes}
use Rattle.mt_text.specs.Number.{decimal_value, hexadecimal_value, decimal_of, hexadecimal_of, hexadecimal_of_length, number_of, number_up_to, decimal_up_to}
use Rattle.mt_text.specs.Address.{ipv4_address_of}
use Rattle.mt_kinds.specs.declared.kind.Clause.TheVariants.{EthType, EthDst, ArpOp}
use Rattle.mt_kinds.specs.declared.kind.End.TheVariants.{Dst}
use Rattle.mt_kinds.specs.declared.kind.Kind.TheVariants.{Paint, StoreIPAddress}
use Rattle.mt_kinds.specs.Arguments.{is_keyword, end_of}
use Rattle.mt_lists.specs.Options.{each}
use Rattle.mt_kinds.specs.Patterns.{clause_of, may_stand, together, pattern_of}
use Rattle.mt_kinds.specs.Classes.{paint_of, store_of, plain_kind, frame_kind, datagram_kind, stateless_kind}

arp_requests : pattern_of (codes "12/0806 20/0001 0/020000000002") ≡ Some (EthType 2054 ∷ ArpOp 1 ∷ EthDst 2199023255554 ∷ [])
unfolding pattern_of each clause_of hexadecimal_of_length hexadecimal_value may_stand together
arp_requests = refl

operations_alone : pattern_of (codes "20/0001") ≡ None
unfolding pattern_of each clause_of hexadecimal_of_length hexadecimal_value may_stand together
operations_alone = refl

a_keyword : is_keyword (codes "COUNT_CALL 12 x") ≡ true
unfolding is_keyword
a_keyword = refl

no_keyword : is_keyword (codes "Rate") ≡ false
unfolding is_keyword
no_keyword = refl

greatest_paint : stateless_kind (codes "Paint") (codes "0xFF" ∷ []) ≡ Some (Paint 255)
unfolding stateless_kind plain_kind paint_of number_up_to number_of hexadecimal_of hexadecimal_value
greatest_paint = refl

too_great_a_paint : stateless_kind (codes "Paint") (codes "256" ∷ []) ≡ None
unfolding stateless_kind plain_kind frame_kind datagram_kind paint_of number_up_to number_of decimal_of decimal_value
too_great_a_paint = refl

stored : stateless_kind (codes "StoreIPAddress") (codes "198.51.100.10" ∷ codes "dst" ∷ []) ≡ Some (StoreIPAddress 3325256714 Dst)
unfolding stateless_kind plain_kind frame_kind datagram_kind store_of ipv4_address_of decimal_up_to decimal_of decimal_value end_of
stored = refl
