-- A rewrite has at most as many writes as there are fields.
use Rattle.std.proofs.Common.{ℕ, suc, ◌+◌, ◌<◌, ◌≤◌, List, [], ◌∷◌, length, arith}
use Rattle.mt_packet.specs.Header.{number_of}
use Rattle.mt_packet.specs.declared.field.Field.{Field}
use Rattle.mt_packet.specs.declared.field.Field.TheVariants.{Device, EthType, EthDst, EthSrc, ArpOp, Proto, Src, Dst, Dscp, Ecn, Sport, Dport, IcmpType, IpOk, Ports, Mf, FragOff, Ttl, Syn, Ack, Fin, Rst, Paint, Annotation}
use Rattle.mt_terms.specs.Writes.{AscendFrom}
use Rattle.mt_terms.specs.declared.writes.FieldWrite.{FieldWrite}

number_below : (f : Field) → number_of f < 24
number_below Device = omega arith
number_below EthType = omega arith
number_below EthDst = omega arith
number_below EthSrc = omega arith
number_below ArpOp = omega arith
number_below Proto = omega arith
number_below Src = omega arith
number_below Dst = omega arith
number_below Dscp = omega arith
number_below Ecn = omega arith
number_below Sport = omega arith
number_below Dport = omega arith
number_below IcmpType = omega arith
number_below IpOk = omega arith
number_below Ports = omega arith
number_below Mf = omega arith
number_below FragOff = omega arith
number_below Ttl = omega arith
number_below Syn = omega arith
number_below Ack = omega arith
number_below Fin = omega arith
number_below Rst = omega arith
number_below Paint = omega arith
number_below Annotation = omega arith

few_from : (least : ℕ) (writes : List FieldWrite) → least ≤ 24 → AscendFrom least writes → length writes + least ≤ 24
few_from least [] small up = omega (arith, small)
few_from least (write ∷ writes) small up =
    let below = number_below write.field in
    let from = up.0 in
    let rest = few_from (suc (number_of write.field)) writes (omega (arith, below)) up.1 in
    omega (arith, from, rest)

pub few_writes : (writes : List FieldWrite) → AscendFrom 0 writes → length writes ≤ 24
few_writes writes up = let few = few_from 0 writes (omega arith) up in omega (arith, few)
