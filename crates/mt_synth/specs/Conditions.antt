-- What a term is that needs no flow.
use Rattle.std.specs.Prelude.{ℕ, ◌≡◌, ◌<◌, ◌-◌, List, []}
use Rattle.mt_packet.specs.Header.{field_of}
use Rattle.mt_packet.specs.declared.field.Field.{Field}
use Rattle.mt_terms.specs.Terms.{TermForm, passages_of, value_of}
use Rattle.mt_synth.specs.declared.conditions.Known.{Known}
use Rattle.mt_synth.specs.declared.conditions.Known.TheVariants.{Number, Left}

-- its value at a header
abbrev pub known_value : Known → List ℕ → ℕ
known_value (Number value) header = value
known_value (Left field amount) header = field_of header field - amount

-- no value of a header is as great as the greatest number of 64 bits
abbrev pub IsNarrow : List ℕ → Type 0
IsNarrow header = (field : Field) → field_of header field < 18446744073709551615

-- the term needs no flow, and its value is that of what it is known to be
pub record IsKnownAs (term : TermForm) (known : Known) : Type 0 where
  pub needs_none : passages_of term ≡ 0
  pub value : (header : List ℕ) → IsNarrow header → value_of term header [] ≡ known_value known header
