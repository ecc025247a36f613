-- The box of all headers of a chain.
use Rattle.std.proofs.Common.{◌≡◌, ◌<◌, ◌≤◌, ℕ, List, [], ◌∷◌, length, map, slice_get, Some, refl, sym, ◌∙◌, ap, subst, arith}
use Rattle.mt_packet.specs.Header.{number_of, greatest_of, field_of}
use Rattle.mt_packet.specs.declared.field.Field.{Field}
use Rattle.mt_packet.specs.declared.field.Field.TheVariants.{Device, EthType, EthDst, EthSrc, ArpOp, Proto, Src, Dst, Dscp, Ecn, Sport, Dport, IcmpType, IpOk, Ports, Mf, FragOff, Ttl, Syn, Ack, Fin, Rst, Paint, Annotation}
use Rattle.mt_packet.specs.declared.span.Span.{Span}
use Rattle.mt_boxes.specs.Boxes.{InBox, IsBox, IsWithin, header_ranges, span_at}
use Rattle.mt_boxes.proofs.Headers.{in_box_each}
use Rattle.mt_boxes.proofs.Meets.{header_length}
use Rattle.std.proofs.lemmas.Option.{get_or_from_slice_get}
use Rattle.mt_cuts.specs.Canonical.{InDomain, least_of, last_of}
use Rattle.mt_cuts.specs.Leaves.{fields, full}
use Rattle.mt_cuts.specs.Headers.{IsHeaderOf}
use Rattle.mt_synth.proofs.LeafBoxes.{Fits}
use Rattle.mt_synth.proofs.Places.{same_Some}

full_there : (d : ℕ) (f : Field) → slice_get (map (full d) fields) (number_of f) ≡ Some (full d f)
full_there d Device = refl
full_there d EthType = refl
full_there d EthDst = refl
full_there d EthSrc = refl
full_there d ArpOp = refl
full_there d Proto = refl
full_there d Src = refl
full_there d Dst = refl
full_there d Dscp = refl
full_there d Ecn = refl
full_there d Sport = refl
full_there d Dport = refl
full_there d IcmpType = refl
full_there d IpOk = refl
full_there d Ports = refl
full_there d Mf = refl
full_there d FragOff = refl
full_there d Ttl = refl
full_there d Syn = refl
full_there d Ack = refl
full_there d Fin = refl
full_there d Rst = refl
full_there d Paint = refl
full_there d Annotation = refl

-- fields of one number have the same values
pub same_full : (d : ℕ) (f g : Field) → number_of f ≡ number_of g → full d f ≡ full d g
same_full d f g e = same_Some (full d f) (full d g) (sym (full_there d f) ∙ (ap (slice_get (map (full d) fields)) e ∙ full_there d g))

least_below : (d : ℕ) (f : Field) → 0 < d → least_of f ≤ last_of d f
least_below d Device some = omega arith
least_below d _ some = omega arith

last_below : (d : ℕ) (f : Field) → d ≤ 32 → last_of d f ≤ greatest_of f
last_below d Device few = omega arith
last_below d _ few = omega arith

full_formed : (d : ℕ) (list : List Field) → 0 < d → d ≤ 32 → IsBox (map greatest_of list) (map (full d) list)
full_formed d [] some few = tt
full_formed d (f ∷ list) some few = ((least_below d f some, last_below d f few), full_formed d list some few)

pub all_fits : (d : ℕ) → 0 < d → d ≤ 32 → Fits d 0 0 (map (full d) fields)
unfolding header_ranges
all_fits d some few = record {
  formed = full_formed d fields some few;
  room = λ f s later at. (let same = same_Some (full d f) s (sym (full_there d f) ∙ at) in record {
    to_last = ap (λ (s : Span). s.hi) (sym same);
    from_low = λ end least next. subst (λ (s : Span). s.lo ≤ end) same least;
  });
}

span_there : (d : ℕ) (f : Field) → span_at (map (full d) fields) (number_of f) ≡ full d f
span_there d f = get_or_from_slice_get (map (full d) fields) (number_of f) (full d f) (record { lo = 0; hi = 0 }) (full_there d f)

pub in_all : (d : ℕ) (header : List ℕ) → IsHeaderOf d header → InBox (map (full d) fields) header
in_all d header is =
    (in_box_each (map (full d) fields) header refl is.whole).1
    (λ f. subst (λ (s : Span). IsWithin s (field_of header f)) (sym (span_there d f)) (is.in_domain.from_least f, is.in_domain.to_last f))

pub all_in : (d : ℕ) (header : List ℕ) → InBox (map (full d) fields) header → IsHeaderOf d header
all_in d header i =
    let n : length header ≡ 24 = header_length (map (full d) fields) header i in
    let each : (f : Field) → IsWithin (full d f) (field_of header f) =
    (λ f. subst (λ (s : Span). IsWithin s (field_of header f)) (span_there d f) ((in_box_each (map (full d) fields) header refl n).0 i f)) in
    record { whole = n; in_domain = record { from_least = λ f. (each f).0; to_last = λ f. (each f).1 } }

-- a header as a list
listed_at : (header : Field → ℕ) (f : Field) → field_of (map header fields) f ≡ header f
listed_at header Device = refl
listed_at header EthType = refl
listed_at header EthDst = refl
listed_at header EthSrc = refl
listed_at header ArpOp = refl
listed_at header Proto = refl
listed_at header Src = refl
listed_at header Dst = refl
listed_at header Dscp = refl
listed_at header Ecn = refl
listed_at header Sport = refl
listed_at header Dport = refl
listed_at header IcmpType = refl
listed_at header IpOk = refl
listed_at header Ports = refl
listed_at header Mf = refl
listed_at header FragOff = refl
listed_at header Ttl = refl
listed_at header Syn = refl
listed_at header Ack = refl
listed_at header Fin = refl
listed_at header Rst = refl
listed_at header Paint = refl
listed_at header Annotation = refl

pub listed_is : (header : Field → ℕ) → field_of (map header fields) ≡ header
listed_is header = λ i f. listed_at header f i

pub listed_header : (d : ℕ) (header : Field → ℕ) → InDomain d header → IsHeaderOf d (map header fields)
listed_header d header is = record { whole = refl; in_domain = subst (InDomain d) (sym (listed_is header)) is }
