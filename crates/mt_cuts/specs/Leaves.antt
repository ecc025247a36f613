-- The leaves of a tree with their boxes: a span for each field, by field number.
use Rattle.std.specs.Prelude.{ℕ, suc, List, [], ◌∷◌, ◌++◌, slice_get, slice_set, unwrap_or}
use Rattle.mt_packet.specs.Header.{number_of}
use Rattle.mt_packet.specs.declared.field.Field.{Field}
use Rattle.mt_packet.specs.declared.field.Field.TheVariants.{Device, EthType, EthDst, EthSrc, ArpOp, Proto, Src, Dst, Dscp, Ecn, Sport, Dport, IcmpType, IpOk, Ports, Mf, FragOff, Ttl, Syn, Ack, Fin, Rst, Paint, Annotation}
use Rattle.mt_packet.specs.declared.span.Span.{Span}
use Rattle.mt_cuts.specs.declared.leaves.Leaf.{Leaf}
use Rattle.mt_cuts.specs.Tree.{Tree, class, cut, broken}
use Rattle.mt_cuts.specs.Canonical.{least_of, last_of}

-- all fields by their numbers
abbrev pub fields : List Field
fields =
    Device ∷ EthType ∷ EthDst ∷ EthSrc ∷ ArpOp ∷ Proto ∷ Src ∷ Dst ∷ Dscp ∷ Ecn ∷ Sport ∷ Dport ∷ IcmpType
    ∷ IpOk ∷ Ports ∷ Mf ∷ FragOff ∷ Ttl ∷ Syn ∷ Ack ∷ Fin ∷ Rst ∷ Paint ∷ Annotation ∷ []

-- all values of a field
abbrev pub full : ℕ → Field → Span
full devices field = record { lo = least_of field; hi = last_of devices field }

-- the span of a field in a box
abbrev pub span_at : List Span → Field → Span
span_at spans field = unwrap_or (slice_get spans (number_of field)) (record { lo = 0; hi = 0 })

-- a box up to an end, and behind it
abbrev pub up_to : List Span → Field → ℕ → List Span
up_to spans field end = slice_set spans (number_of field) (record { lo = (span_at spans field).lo; hi = end })

abbrev pub behind : List Span → Field → ℕ → List Span
behind spans field end = slice_set spans (number_of field) (record { lo = suc end; hi = (span_at spans field).hi })

-- the leaves of a tree within a box, in order
abbrev pub leaves_of : List Span → Tree → List Leaf
leaves_of spans (class value) = record { spans = spans; value = value } ∷ []
leaves_of spans (cut field end low high) = leaves_of (up_to spans field end) low ++ leaves_of (behind spans field end) high
leaves_of spans broken = []
