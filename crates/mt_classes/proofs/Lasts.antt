-- The greatest device of the boxes of a partition is the number of devices.
use Rattle.std.proofs.Common.{◌≡◌, ◌∙◌, ◌<◌, ◌≤◌, ℕ, zero, suc, List, [], ◌∷◌, map, get_or, inl, inr, refl, ap, arith}
use Rattle.std.specs.Prelude.{max}
use Rattle.std.proofs.Math.Nat.{le-max_left, le-max_right}
use Rattle.mt_packet.specs.Header.{field_of}
use Rattle.mt_packet.specs.declared.field.Field.{Field}
use Rattle.mt_packet.specs.declared.field.Field.TheVariants.{Device, EthType, EthDst, EthSrc, ArpOp, Proto, Src, Dst, Dscp, Ecn, Sport, Dport, IcmpType, IpOk, Ports, Mf, FragOff, Ttl, Syn, Ack, Fin, Rst, Paint, Annotation}
use Rattle.mt_packet.specs.declared.span.Span.{Span}
use Rattle.mt_boxes.specs.Boxes.{InBox, IsIn, span_at}
use Rattle.mt_cuts.specs.Canonical.{least_of, last_of}
use Rattle.mt_classes.specs.Partition.{HasClass, AreOnDevices, IsPartition}
use Rattle.mt_cuts.specs.Headers.{IsHeaderOf}
use Rattle.mt_classes.specs.Parts.{last_device, last_of_all}

max_upto : (a b n : ℕ) → a ≤ n → b ≤ n → max a b ≤ n
max_upto a b n p q = grind arith

boxes_upto : (devices : ℕ) (boxes : List (List Span)) → AreOnDevices devices boxes → last_device boxes ≤ devices
boxes_upto devices [] on = omega arith
boxes_upto devices (box ∷ boxes) on = max_upto (span_at box 0).hi (last_device boxes) devices on.0.1 (boxes_upto devices boxes on.1)

regions_upto : (devices : ℕ) (regions : List (List (List Span))) → ((number : ℕ) → AreOnDevices devices (get_or regions number [])) → last_of_all regions ≤ devices
regions_upto devices [] on = omega arith
regions_upto devices (region ∷ regions) on =
    max_upto (last_device region) (last_of_all regions) devices (boxes_upto devices region (on 0)) (regions_upto devices regions (λ number. on (suc number)))

box_from : (box : List Span) (header : List ℕ) → InBox box header → get_or header 0 0 ≤ (span_at box 0).hi
box_from [] [] i = omega arith
box_from [] (value ∷ values) i = absurd i
box_from (span ∷ spans) [] i = absurd i
box_from (span ∷ spans) (value ∷ values) i = i.0.1

boxes_from : (boxes : List (List Span)) (header : List ℕ) → IsIn boxes header → get_or header 0 0 ≤ last_device boxes
boxes_from [] header i = absurd i
boxes_from (box ∷ boxes) header (inl i) =
    let le = box_from box header i in let m = le-max_left (span_at box 0).hi (last_device boxes) in omega (arith, le, m)
boxes_from (box ∷ boxes) header (inr i) =
    let le = boxes_from boxes header i in let m = le-max_right (span_at box 0).hi (last_device boxes) in omega (arith, le, m)

regions_from : (regions : List (List (List Span))) (number : ℕ) (header : List ℕ) → HasClass regions number header → get_or header 0 0 ≤ last_of_all regions
regions_from [] number header has = absurd has
regions_from (region ∷ regions) zero header has =
    let le = boxes_from region header has in let m = le-max_left (last_device region) (last_of_all regions) in omega (arith, le, m)
regions_from (region ∷ regions) (suc number) header has =
    let le = regions_from regions number header has in let m = le-max_right (last_device region) (last_of_all regions) in omega (arith, le, m)

-- a header on the last device
abbrev on_last : ℕ → List ℕ
on_last devices =
    devices ∷ 0 ∷ 0 ∷ 0 ∷ 0 ∷ 0 ∷ 0 ∷ 0 ∷ 0 ∷ 0 ∷ 0 ∷ 0 ∷ 0 ∷ 0 ∷ 0 ∷ 0 ∷ 0 ∷ 0 ∷ 0 ∷ 0 ∷ 0 ∷ 0 ∷ 0 ∷ 0 ∷ []

zero_least : (devices : ℕ) → 0 < devices → (field : Field) → least_of field ≤ field_of (on_last devices) field
zero_least devices some Device = omega (arith, some)
zero_least devices some EthType = omega (arith, some)
zero_least devices some EthDst = omega (arith, some)
zero_least devices some EthSrc = omega (arith, some)
zero_least devices some ArpOp = omega (arith, some)
zero_least devices some Proto = omega (arith, some)
zero_least devices some Src = omega (arith, some)
zero_least devices some Dst = omega (arith, some)
zero_least devices some Dscp = omega (arith, some)
zero_least devices some Ecn = omega (arith, some)
zero_least devices some Sport = omega (arith, some)
zero_least devices some Dport = omega (arith, some)
zero_least devices some IcmpType = omega (arith, some)
zero_least devices some IpOk = omega (arith, some)
zero_least devices some Ports = omega (arith, some)
zero_least devices some Mf = omega (arith, some)
zero_least devices some FragOff = omega (arith, some)
zero_least devices some Ttl = omega (arith, some)
zero_least devices some Syn = omega (arith, some)
zero_least devices some Ack = omega (arith, some)
zero_least devices some Fin = omega (arith, some)
zero_least devices some Rst = omega (arith, some)
zero_least devices some Paint = omega (arith, some)
zero_least devices some Annotation = omega (arith, some)

zero_last : (devices : ℕ) → (field : Field) → field_of (on_last devices) field ≤ last_of devices field
zero_last devices Device = omega arith
zero_last devices EthType = omega arith
zero_last devices EthDst = omega arith
zero_last devices EthSrc = omega arith
zero_last devices ArpOp = omega arith
zero_last devices Proto = omega arith
zero_last devices Src = omega arith
zero_last devices Dst = omega arith
zero_last devices Dscp = omega arith
zero_last devices Ecn = omega arith
zero_last devices Sport = omega arith
zero_last devices Dport = omega arith
zero_last devices IcmpType = omega arith
zero_last devices IpOk = omega arith
zero_last devices Ports = omega arith
zero_last devices Mf = omega arith
zero_last devices FragOff = omega arith
zero_last devices Ttl = omega arith
zero_last devices Syn = omega arith
zero_last devices Ack = omega arith
zero_last devices Fin = omega arith
zero_last devices Rst = omega arith
zero_last devices Paint = omega arith
zero_last devices Annotation = omega arith

last_header : (devices : ℕ) → 0 < devices → IsHeaderOf devices (on_last devices)
last_header devices some = record { whole = refl; in_domain = record { from_least = zero_least devices some; to_last = zero_last devices } }

pub last_is : (devices : ℕ) (regions : List (List (List Span))) → IsPartition devices regions → last_of_all regions ≡ devices
last_is devices regions p =
    let upto = regions_upto devices regions p.on_devices in
    let found = p.covered (on_last devices) (last_header devices p.some) in
    let from : devices ≤ last_of_all regions = regions_from regions found.0 (on_last devices) found.1 in
    omega (arith, upto, from)

-- the greatest device that is found
pub devices_are : {A : Type 0} (region_of : A → List (List Span)) (devices last : ℕ) (list classes : List A) → list ≡ classes → last ≡ last_of_all (map region_of list)
    → IsPartition devices (map region_of classes) → last ≡ devices
devices_are region_of devices last list classes same is p =
    is ∙ ap (λ l. last_of_all (map region_of l)) same ∙ last_is devices (map region_of classes) p
