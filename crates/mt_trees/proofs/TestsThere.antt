-- A tree of tests is there where the trees of both its sides are.
use Rattle.std.proofs.Common.{◌≡◌, ◌∙◌, sym, ap, subst, ℕ, Bool, true, false, List, [], ◌∷◌}
use Rattle.std.specs.Prelude.{Option, Some, ◌==◌, if◌then◌else◌, option_map, option_and_then}
use Rattle.mt_packet.specs.declared.field.Field.{Field}
use Rattle.mt_packet.specs.declared.field.Field.TheVariants as of
use Rattle.mt_packet.specs.declared.span.Span.{Span}
use Rattle.mt_pattern.specs.Meaning.{contains_number}
use Rattle.mt_pattern.specs.declared.pattern.Pattern.{Pattern, map-Pattern, roll-Pattern, fold-roll-Pattern, ind-Pattern}
use Rattle.mt_pattern.specs.declared.pattern.Pattern.TheOpen.{Pattern-F}
use Rattle.mt_kinds.specs.declared.kind.Clause.{Clause}
use Rattle.mt_kinds.specs.declared.kind.Clause.TheVariants as clause
use Rattle.mt_chain.specs.Run.{IsThere}
use Rattle.mt_terms.specs.Terms.{TermForm, value_of, passages_of}
use Rattle.mt_terms.specs.Trees.{test}
use Rattle.mt_trees.specs.Symbols.{Symbol, term_at}
use Rattle.mt_trees.specs.Tests.{Found, Tried, kept, tested, field_tested, whole_tested, ports_tested, layer_tried, pattern_tried, value_tried, clauses_tried}

-- ---- options

-- what is read on from what is there
pub there_then : {A B : Type 0} (found : Option A) (value : A) (go_on : A → Option B) → found ≡ Some value → IsThere (go_on value) → IsThere (option_and_then go_on found)
there_then found value go_on is there = (there.0, ap (option_and_then go_on) is ∙ there.1)

pub there_mapped : {A B : Type 0} (f : A → B) (found : Option A) → IsThere found → IsThere (option_map f found)
there_mapped f found there = (f there.0, ap (option_map f) there.1)

pub one_of : {A : Type 0} (b : Bool) (found other : Option A) → IsThere found → IsThere other → IsThere (if b then found else other)
one_of true found other h k = h
one_of false found other h k = k

-- ---- a test

kept_there : (term : TermForm) (span : Span) (inside outside : Found) → IsThere inside → IsThere outside → IsThere (kept term span inside outside)
kept_there term span inside outside h k =
    there_then inside h.0 (λ y. option_map (λ n. test term span y n) outside) h.1
    (there_mapped (λ n. test term span h.0 n) outside k)

pub tested_there : (header : List ℕ) (term : TermForm) (span : Span) (inside outside : Found) → IsThere inside → IsThere outside → IsThere (tested header term span inside outside)
unfolding tested
tested_there header term span inside outside h k =
    one_of (passages_of term == 0) _ _
    (one_of (contains_number span (value_of term header [])) inside outside h k)
    (kept_there term span inside outside h k)

module _ (header : List ℕ) (symbol : Symbol) where
  pub field_there : (field : Field) (lo hi : ℕ) (inside outside : Found) → IsThere inside → IsThere outside → IsThere (field_tested header symbol field lo hi inside outside)
  field_there field lo hi inside outside = tested_there header (term_at symbol field) (record { lo = lo; hi = hi }) inside outside

  pub whole_there : (inside outside : Found) → IsThere inside → IsThere outside → IsThere (whole_tested header symbol inside outside)
  whole_there = field_there of.EthType 0 65535

  pub ports_there : (inside outside : Found) → IsThere inside → IsThere outside → IsThere (ports_tested header symbol inside outside)
  ports_there = field_there of.Ports 1 1

  -- ---- patterns

  abbrev IsTried : Pattern → Type 0
  IsTried pattern = (inside outside : Found) → IsThere inside → IsThere outside → IsThere (pattern_tried header symbol pattern inside outside)

  abbrev Part : Type 0
  Part = (p : Pattern) × IsTried p

  abbrev pattern_of : Part → Pattern
  pattern_of part = part.0

  layer_there : (y : Pattern-F Part) (inside outside : Found) → IsThere inside → IsThere outside
      → IsThere (layer_tried header symbol (map-Pattern Pattern (Tried header symbol) (pattern_tried header symbol) (map-Pattern Part Pattern pattern_of y)) inside outside)
  layer_there Pattern-F.True inside outside h k = h
  layer_there (Pattern-F.Within field span) inside outside h k = tested_there header (term_at symbol field) span inside outside h k
  layer_there (Pattern-F.Not p) inside outside h k = p.1 outside inside k h
  layer_there (Pattern-F.And p q) inside outside h k = p.1 (pattern_tried header symbol q.0 inside outside) outside (q.1 inside outside h k) k
  layer_there (Pattern-F.Or p q) inside outside h k = p.1 inside (pattern_tried header symbol q.0 inside outside) h (q.1 inside outside h k)

  by_part : (y : Pattern-F Part) → IsTried (roll-Pattern (map-Pattern Part Pattern pattern_of y))
  by_part y inside outside h k =
      subst (λ (f : Tried header symbol). IsThere (f inside outside)) (sym (fold-roll-Pattern (Tried header symbol) (layer_tried header symbol) (map-Pattern Part Pattern pattern_of y)))
      (layer_there y inside outside h k)

  pub pattern_there : (pattern : Pattern) → IsTried pattern
  pattern_there = ind-Pattern IsTried (λ x y is. subst (λ z. IsTried (roll-Pattern z)) is (by_part y))

  -- ---- clauses of a Classifier

  value_there : (first : Clause) (inside outside : Found) → IsThere inside → IsThere outside → IsThere (value_tried header symbol first inside outside)
  value_there (clause.EthType value) = field_there of.EthType value value
  value_there (clause.EthDst value) = field_there of.EthDst value value
  value_there (clause.EthSrc value) = field_there of.EthSrc value value
  value_there (clause.ArpOp value) = field_there of.ArpOp value value

  pub clauses_there : (clauses : List Clause) (inside outside : Found) → IsThere inside → IsThere outside → IsThere (clauses_tried header symbol clauses inside outside)
  unfolding clauses_tried
  clauses_there [] inside outside h k = h
  clauses_there (first ∷ rest) inside outside h k =
      whole_there (value_tried header symbol first (clauses_tried header symbol rest inside outside) outside) outside
      (value_there first (clauses_tried header symbol rest inside outside) outside (clauses_there rest inside outside h k) k) k
