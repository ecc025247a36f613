-- The pattern that a test stands for.
use Rattle.std.specs.Prelude.{ℕ}
use Rattle.mt_packet.specs.declared.field.Field.{Field}
use Rattle.mt_packet.specs.declared.field.Field.TheVariants as field
use Rattle.mt_packet.specs.declared.span.Span.{Span}
use Rattle.mt_pattern.specs.declared.pattern.Pattern.{Pattern}
use Rattle.mt_pattern.specs.declared.pattern.Pattern.TheVariants.{True, Within, Not, And, Or}
use Rattle.mt_pattern.specs.declared.test.Sides.{Sides}
use Rattle.mt_pattern.specs.declared.test.Sides.TheVariants.{Source, Destination, Either}
use Rattle.mt_pattern.specs.declared.test.Transport.{Transport}
use Rattle.mt_pattern.specs.declared.test.Transport.TheVariants.{Unnamed, Tcp, Udp}
use Rattle.mt_pattern.specs.declared.test.Test.{Test}
use Rattle.mt_pattern.specs.declared.test.Test.TheVariants.{Always, Never, Value, Address, Ports, Fragment, Unfragmented}
use Rattle.mt_pattern.specs.Span.{span}

abbrev pub within : Field → ℕ → ℕ → Pattern
within field lo hi = Within field (span lo hi)

-- the field of one side is in the span, or that of either side, the source first
abbrev pub sides_pattern : Sides → Field → Field → Span → Pattern
sides_pattern Source source destination values = Within source values
sides_pattern Destination source destination values = Within destination values
sides_pattern Either source destination values = Or (Within source values) (Within destination values)

-- the protocol, if one is named, and then the ports
abbrev pub with_transport : Transport → Pattern → Pattern
with_transport Unnamed ports = ports
with_transport Tcp ports = And (within field.Proto 6 6) ports
with_transport Udp ports = And (within field.Proto 17 17) ports

-- more fragments come, or the offset is not 0
abbrev pub fragment_pattern : Pattern
fragment_pattern = Or (within field.Mf 1 1) (within field.FragOff 1 8191)

-- the pattern that a test stands for
abbrev pub pattern_of : Test → Pattern
pattern_of Always = True
pattern_of Never = Not True
pattern_of (Value field values) = Within field values
pattern_of (Address sides addresses) = sides_pattern sides field.Src field.Dst addresses
pattern_of (Ports sides protocol ports) = with_transport protocol (sides_pattern sides field.Sport field.Dport ports)
pattern_of Fragment = fragment_pattern
pattern_of Unfragmented = Not fragment_pattern
