-- Fields and their numbers.
use Rattle.std.proofs.Common.{◌≡◌, ◌≢◌, ◌⊎◌, ◌+◌, ◌<◌, ℕ, suc, List, [], ◌∷◌, length, get_or, refl, sym, ◌∙◌, ap, inl, inr, arith, lit<, eq-eqb, zero, ◌==◌}
use Rattle.std.proofs.lemmas.Bool.{cond-true, cond-false, cases_eq, ne_eqb}
use Rattle.mt_packet.specs.Header.{number_of}
use Rattle.mt_packet.specs.declared.field.Field.{Field}
use Rattle.mt_cuts.specs.Boxes.{with_value}
use Rattle.mt_cuts.specs.Leaves.{fields}
use Rattle.mt_packet.specs.declared.field.Field.TheVariants.{Device, EthType, EthDst, EthSrc, ArpOp, Proto, Src, Dst, Dscp, Ecn, Sport, Dport, IcmpType, IpOk, Ports, Mf, FragOff, Ttl, Syn, Ack, Fin, Rst, Paint, Annotation}

-- the field of a number
pub field_numbered : ℕ → Field
field_numbered number = get_or fields number Device

of_number : (f : Field) → field_numbered (number_of f) ≡ f
unfolding field_numbered
of_number Device = refl
of_number EthType = refl
of_number EthDst = refl
of_number EthSrc = refl
of_number ArpOp = refl
of_number Proto = refl
of_number Src = refl
of_number Dst = refl
of_number Dscp = refl
of_number Ecn = refl
of_number Sport = refl
of_number Dport = refl
of_number IcmpType = refl
of_number IpOk = refl
of_number Ports = refl
of_number Mf = refl
of_number FragOff = refl
of_number Ttl = refl
of_number Syn = refl
of_number Ack = refl
of_number Fin = refl
of_number Rst = refl
of_number Paint = refl
of_number Annotation = refl

pub number_injective : (f g : Field) → number_of f ≡ number_of g → f ≡ g
number_injective f g e = sym (of_number f) ∙ (ap field_numbered e ∙ of_number g)

-- two fields are one, or their numbers differ
pub cases_field : (f g : Field) → (f ≡ g) ⊎ (number_of f ≢ number_of g)
cases_field f g = elim (cases_eq (number_of f) (number_of g)) [ inl e ↦ inl (number_injective f g e) | inr apart ↦ inr apart ]

-- fields whose numbers count up from a number
abbrev pub Count : ℕ → List Field → Type 0
Count from [] = Unit {0}
Count from (f ∷ fs) = (number_of f ≡ from) × Count (suc from) fs

counted : (from i : ℕ) (fs : List Field) → Count from fs → i < length fs → number_of (get_or fs i Device) ≡ from + i
counted from i [] c lt = absurd (omega arith)
counted from zero (f ∷ fs) c lt = c.0 ∙ omega arith
counted from (suc i) (f ∷ fs) c lt = counted (suc from) i fs c.1 (omega arith) ∙ omega arith

pub fields_count : Count 0 fields
fields_count = (refl, (refl, (refl, (refl, (refl, (refl, (refl, (refl, (refl, (refl, (refl, (refl, (refl, (refl, (refl, (refl, (refl, (refl, (refl, (refl, (refl, (refl, (refl, (refl, tt))))))))))))))))))))))))

pub number_numbered : (i : ℕ) → i < 24 → number_of (field_numbered i) ≡ i
unfolding field_numbered
number_numbered i lt = counted 0 i fields (refl, (refl, (refl, (refl, (refl, (refl, (refl, (refl, (refl, (refl, (refl, (refl, (refl, (refl, (refl, (refl, (refl, (refl, (refl, (refl, (refl, (refl, (refl, (refl, tt)))))))))))))))))))))))) lt ∙ omega arith

pub number_below : (f : Field) → number_of f < 24
number_below Device = lit< tt
number_below EthType = lit< tt
number_below EthDst = lit< tt
number_below EthSrc = lit< tt
number_below ArpOp = lit< tt
number_below Proto = lit< tt
number_below Src = lit< tt
number_below Dst = lit< tt
number_below Dscp = lit< tt
number_below Ecn = lit< tt
number_below Sport = lit< tt
number_below Dport = lit< tt
number_below IcmpType = lit< tt
number_below IpOk = lit< tt
number_below Ports = lit< tt
number_below Mf = lit< tt
number_below FragOff = lit< tt
number_below Ttl = lit< tt
number_below Syn = lit< tt
number_below Ack = lit< tt
number_below Fin = lit< tt
number_below Rst = lit< tt
number_below Paint = lit< tt
number_below Annotation = lit< tt

pub with_value_same : (f : Field) (at : ℕ) (header : Field → ℕ) → with_value f at header f ≡ at
with_value_same f at header = cond-true (number_of f == number_of f) at (header f) (eq-eqb (number_of f) (number_of f) refl)

pub with_value_other : (f : Field) (at : ℕ) (header : Field → ℕ) (g : Field) → number_of g ≢ number_of f → with_value f at header g ≡ header g
with_value_other f at header g apart = cond-false (number_of g == number_of f) at (header g) (ne_eqb (number_of g) (number_of f) apart)
