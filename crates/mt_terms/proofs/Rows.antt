-- Small terms and writes, worked out by hand.
use Rattle.std.proofs.Common.{◌≡◌, [], ◌∷◌, refl}
use Rattle.mt_packet.specs.declared.field.Field.TheVariants.{Device, EthType, Ttl}
use Rattle.mt_terms.specs.declared.term.Part.TheVariants.{Sp}
use Rattle.mt_terms.specs.Terms.{const, entry, minus, flow_part, less_by, passages_of, value_of}
use Rattle.mt_terms.specs.Writes.{with_write}

amounts_are_added : less_by (minus (entry Ttl) 1) 2 ≡ minus (entry Ttl) 3
amounts_are_added = refl

nothing_is_left : value_of (minus (const 1) 2) [] [] ≡ 0
nothing_is_left = refl

port_of_the_second_flow :
    value_of (flow_part 1 Sp) []
    (record { proto = 6; sa = 1; sp = 1000; da = 2; dp = 80 } ∷ record { proto = 6; sa = 3; sp = 2000; da = 4; dp = 443 } ∷ [])
    ≡ 2000
port_of_the_second_flow = refl

two_passages : passages_of (minus (flow_part 1 Sp) 5) ≡ 2
two_passages = refl

write_goes_between : with_write (record { field = EthType; term = const 4 }) (record { field = Device; term = const 5 } ∷ record { field = Ttl; term = const 1 } ∷ []) ≡ record { field = Device; term = const 5 } ∷ record { field = EthType; term = const 4 } ∷ record { field = Ttl; term = const 1 } ∷ []
write_goes_between = refl

write_replaces : with_write (record { field = Ttl; term = const 4 }) (record { field = Device; term = const 5 } ∷ record { field = Ttl; term = const 1 } ∷ []) ≡ record { field = Device; term = const 5 } ∷ record { field = Ttl; term = const 4 } ∷ []
write_replaces = refl
