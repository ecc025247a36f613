-- Patterns and clauses that the header decides: no term that they look at needs a flow.
use Rattle.std.specs.Prelude.{ℕ, ◌≡◌, ◌==◌, Bool, true, ◌&&◌, List, [], ◌∷◌}
use Rattle.mt_packet.specs.declared.field.Field.{Field}
use Rattle.mt_packet.specs.declared.field.Field.TheVariants as of
use Rattle.mt_kinds.specs.declared.kind.Clause.{Clause}
use Rattle.mt_kinds.specs.declared.kind.Clause.TheVariants as clause
use Rattle.mt_pattern.specs.Meaning.{contains_number, meaning_of}
use Rattle.mt_pattern.specs.declared.pattern.Pattern.{Pattern, fold-Pattern}
use Rattle.mt_pattern.specs.declared.pattern.Pattern.TheOpen.{Pattern-F}
use Rattle.mt_terms.specs.Terms.{passages_of, value_of}
use Rattle.mt_trees.specs.Symbols.{Symbol, term_at}
use Rattle.mt_trees.specs.Tests.{Found, value_tried, whole_tested}

-- one layer of a pattern, given whether the patterns in it are decided
abbrev pub layer_decided : Symbol → Pattern-F Bool → Bool
layer_decided symbol Pattern-F.True = true
layer_decided symbol (Pattern-F.Within field span) = passages_of (term_at symbol field) == 0
layer_decided symbol (Pattern-F.Not p) = p
layer_decided symbol (Pattern-F.And p q) = p && q
layer_decided symbol (Pattern-F.Or p q) = p && q

abbrev pub is_decided : Symbol → Pattern → Bool
is_decided symbol pattern = fold-Pattern Bool (layer_decided symbol) pattern

-- the value of a field that the header decides
abbrev pub field_value : List ℕ → Symbol → Field → ℕ
field_value header symbol field = value_of (term_at symbol field) header []

-- whether a pattern holds by these values
abbrev pub pattern_holds : List ℕ → Symbol → Pattern → Bool
pattern_holds header symbol pattern = meaning_of pattern (field_value header symbol)

-- ---- clauses

-- no field that a clause can look at needs a flow
pub record AreKnown (symbol : Symbol) : Type 0 where
  pub eth_type : passages_of (term_at symbol of.EthType) ≡ 0
  pub eth_dst : passages_of (term_at symbol of.EthDst) ≡ 0
  pub eth_src : passages_of (term_at symbol of.EthSrc) ≡ 0
  pub arp_op : passages_of (term_at symbol of.ArpOp) ≡ 0

module _ (header : List ℕ) (symbol : Symbol) where
  -- the packet has an Ethernet header, and the clause holds
  abbrev pub clause_tried : Clause → Found → Found → Found
  clause_tried asked inside outside = whole_tested header symbol (value_tried header symbol asked inside outside) outside

  abbrev pub has_value : Field → ℕ → ℕ → Bool
  has_value field lo hi = contains_number (record { lo = lo; hi = hi }) (field_value header symbol field)

  abbrev pub clause_holds : Clause → Bool
  clause_holds (clause.EthType value) = has_value of.EthType value value
  clause_holds (clause.EthDst value) = has_value of.EthDst value value
  clause_holds (clause.EthSrc value) = has_value of.EthSrc value value
  clause_holds (clause.ArpOp value) = has_value of.ArpOp value value

  -- the packet has an Ethernet header, and each clause holds
  abbrev pub clauses_hold : List Clause → Bool
  clauses_hold [] = true
  clauses_hold (first ∷ rest) = has_value of.EthType 0 65535 && (clause_holds first && clauses_hold rest)
