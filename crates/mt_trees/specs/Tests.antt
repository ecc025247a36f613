-- Tests of terms: what the header decides is decided; what only a flow behind a passage decides stays a test. A tree may
-- be missing where the chain has no way.
use Rattle.std.specs.Prelude.{ℕ, ◌==◌, if◌then◌else◌, List, [], ◌∷◌, Option, option_map, option_and_then}
use Rattle.mt_packet.specs.declared.field.Field.{Field}
use Rattle.mt_packet.specs.declared.field.Field.TheVariants as of
use Rattle.mt_packet.specs.declared.span.Span.{Span}
use Rattle.mt_pattern.specs.Meaning.{contains_number}
use Rattle.mt_pattern.specs.declared.pattern.Pattern.{Pattern, fold-Pattern}
use Rattle.mt_pattern.specs.declared.pattern.Pattern.TheOpen.{Pattern-F}
use Rattle.mt_kinds.specs.declared.kind.Clause.{Clause}
use Rattle.mt_kinds.specs.declared.kind.Clause.TheVariants as clause
use Rattle.mt_terms.specs.Terms.{TermForm, value_of, passages_of}
use Rattle.mt_terms.specs.Trees.{TreeForm, test}
use Rattle.mt_trees.specs.Symbols.{Symbol, term_at}

abbrev pub Found : Type 0
Found = Option TreeForm

-- a test that stays, with both its trees
abbrev pub kept : TermForm → Span → Found → Found → Found
kept term span inside outside = option_and_then (λ y. option_map (λ n. test term span y n) outside) inside

-- whether a term lies in a span
unfoldable pub tested : List ℕ → TermForm → Span → Found → Found → Found
tested header term span inside outside =
    if passages_of term == 0 then (if contains_number span (value_of term header []) then inside else outside) else kept term span inside outside

module _ (header : List ℕ) (symbol : Symbol) where
  abbrev pub field_tested : Field → ℕ → ℕ → Found → Found → Found
  field_tested field lo hi inside outside = tested header (term_at symbol field) (record { lo = lo; hi = hi }) inside outside

  -- the packet has an Ethernet header of 14 bytes
  abbrev pub whole_tested : Found → Found → Found
  whole_tested inside outside = field_tested of.EthType 0 65535 inside outside

  -- its ports are visible
  abbrev pub ports_tested : Found → Found → Found
  ports_tested inside outside = field_tested of.Ports 1 1 inside outside

  -- ---- patterns, from left to right, each side only where it is needed

  abbrev pub Tried : Type 0
  Tried = Found → Found → Found

  abbrev pub layer_tried : Pattern-F Tried → Tried
  layer_tried Pattern-F.True inside outside = inside
  layer_tried (Pattern-F.Within field span) inside outside = tested header (term_at symbol field) span inside outside
  layer_tried (Pattern-F.Not p) inside outside = p outside inside
  layer_tried (Pattern-F.And p q) inside outside = p (q inside outside) outside
  layer_tried (Pattern-F.Or p q) inside outside = p inside (q inside outside)

  abbrev pub pattern_tried : Pattern → Tried
  pattern_tried pattern = fold-Pattern Tried layer_tried pattern

  -- ---- clauses of a Classifier, which hold on no frame below 14 bytes

  abbrev pub value_tried : Clause → Tried
  value_tried (clause.EthType value) inside outside = field_tested of.EthType value value inside outside
  value_tried (clause.EthDst value) inside outside = field_tested of.EthDst value value inside outside
  value_tried (clause.EthSrc value) inside outside = field_tested of.EthSrc value value inside outside
  value_tried (clause.ArpOp value) inside outside = field_tested of.ArpOp value value inside outside

  unfoldable pub clauses_tried : List Clause → Tried
  clauses_tried [] inside outside = inside
  clauses_tried (first ∷ rest) inside outside = whole_tested (value_tried first (clauses_tried rest inside outside) outside) outside
