-- A packet under way as contracts see it, its plain form, and what holds of each.
use Rattle.std.specs.Prelude.{ℕ, ◌≡◌, ◌≤◌, Bool, List, length, map}
use Rattle.mt_packet.specs.declared.field.Field.{Field}
use Rattle.mt_packet.specs.declared.field.Field.TheVariants as of
use Rattle.mt_packet.specs.declared.layer.Layer.{Layer}
use Rattle.mt_terms.specs.Terms.{TermForm, const, entry, minus, flow_part, term_form}
use Rattle.mt_terms.specs.declared.term.Term.{Term}
use Rattle.mt_trees.specs.Symbols.{Symbol, term_at}

-- its terms, its layer, whether it was checked, and the number of passages behind it
abbrev pub symbol_form : List Term × Layer × Bool × ℕ → Symbol
symbol_form value = record { terms = map term_form value.0; layer = value.1; trim = value.2; passages = value.3 }

-- what a field is as its frame arrives
abbrev pub first_term : Field → TermForm
first_term of.Paint = const 0
first_term of.Annotation = const 0
first_term field = entry field

-- the paint is a number of 8 bits
abbrev pub IsPaint : TermForm → Type 0
IsPaint (const value) = value ≤ 255
IsPaint (entry field) = ⊥
IsPaint (minus term amount) = ⊥
IsPaint (flow_part passage part) = ⊥

-- a term for each field, that of the paint a number
pub record IsSymbol (symbol : Symbol) : Type 0 where
  pub whole : length symbol.terms ≡ 24
  pub paint : IsPaint (term_at symbol of.Paint)
