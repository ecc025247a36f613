-- A pattern that is tried by terms: its tree goes on by the side to which the pattern leads.
use Rattle.std.proofs.Common.{◌≡◌, ◌∙◌, sym, ap, subst, ℕ, true, false, List}
use Rattle.std.specs.Prelude.{not, ◌&&◌, ◌||◌}
use Rattle.mt_packet.specs.Packet.{PacketState}
use Rattle.mt_packet.specs.declared.field.Field.{Field}
use Rattle.mt_packet.specs.declared.span.Span.{Span}
use Rattle.mt_pattern.proofs.Meanings.{meaning-true, meaning-within, meaning-not, meaning-and, meaning-or}
use Rattle.mt_pattern.specs.Meaning.{meaning_of as pattern_holds}
use Rattle.mt_pattern.specs.declared.pattern.Pattern.{Pattern, map-Pattern, roll-Pattern, fold-roll-Pattern, ind-Pattern}
use Rattle.mt_pattern.specs.declared.pattern.Pattern.TheVariants.{True, Within, Not, And, Or}
use Rattle.mt_pattern.specs.declared.pattern.Pattern.TheOpen.{Pattern-F}
use Rattle.mt_chain.specs.Run.{Run, Answer}
use Rattle.mt_trees.proofs.Tested.{Agrees, value, IsKnown, tested_agrees}
use Rattle.mt_trees.specs.Meaning.{RewritersState, Under}
use Rattle.mt_trees.specs.Symbols.{Symbol, term_at}
use Rattle.mt_trees.specs.Tests.{Found, Tried, tested, layer_tried, pattern_tried}

-- ---- a trial by the outermost part

module _ (header : List ℕ) (symbol : Symbol) where
  tried-true : pattern_tried header symbol True ≡ (λ inside outside. inside)
  unfolding Rattle.mt_pattern.specs.declared.pattern.Pattern.TheViews.roll-Pattern denote.Hole.Carrier.roll
  tried-true = fold-roll-Pattern (Tried header symbol) (layer_tried header symbol) Pattern-F.True

  pub tried-within : (field : Field) (span : Span) → pattern_tried header symbol (Within field span) ≡ (λ inside outside. tested header (term_at symbol field) span inside outside)
  unfolding Rattle.mt_pattern.specs.declared.pattern.Pattern.TheViews.roll-Pattern denote.Hole.Carrier.roll
  tried-within field span = fold-roll-Pattern (Tried header symbol) (layer_tried header symbol) (Pattern-F.Within field span)

  tried-not : (p : Pattern) → pattern_tried header symbol (Not p) ≡ (λ inside outside. pattern_tried header symbol p outside inside)
  unfolding Rattle.mt_pattern.specs.declared.pattern.Pattern.TheViews.roll-Pattern denote.Hole.Carrier.roll
  tried-not p = fold-roll-Pattern (Tried header symbol) (layer_tried header symbol) (Pattern-F.Not p)

  tried-and : (p q : Pattern) → pattern_tried header symbol (And p q) ≡ (λ inside outside. pattern_tried header symbol p (pattern_tried header symbol q inside outside) outside)
  unfolding Rattle.mt_pattern.specs.declared.pattern.Pattern.TheViews.roll-Pattern denote.Hole.Carrier.roll
  tried-and p q = fold-roll-Pattern (Tried header symbol) (layer_tried header symbol) (Pattern-F.And p q)

  tried-or : (p q : Pattern) → pattern_tried header symbol (Or p q) ≡ (λ inside outside. pattern_tried header symbol p inside (pattern_tried header symbol q inside outside))
  unfolding Rattle.mt_pattern.specs.declared.pattern.Pattern.TheViews.roll-Pattern denote.Hole.Carrier.roll
  tried-or p q = fold-roll-Pattern (Tried header symbol) (layer_tried header symbol) (Pattern-F.Or p q)

-- ---- what it means

module _ (rewriters : RewritersState) (picks : List ℕ) (packet : PacketState) (header : List ℕ) (under : Under) (symbol : Symbol)
    (known : (field : Field) → IsKnown rewriters picks packet header under (term_at symbol field)) where
  abbrev Means : Found → Answer Run → Type 0
  Means found answer = Agrees rewriters picks packet header under found answer

  -- the values of the fields
  abbrev here : Field → ℕ
  here field = value rewriters picks packet header under (term_at symbol field)

  abbrev IsTried : Pattern → Type 0
  IsTried pattern =
      (inside outside : Found) (answer : Answer Run) → (pattern_holds pattern here ≡ true → Means inside answer) → (pattern_holds pattern here ≡ false → Means outside answer)
      → Means (pattern_tried header symbol pattern inside outside) answer

  by_form : (pattern : Pattern) (form : Tried header symbol) → pattern_tried header symbol pattern ≡ form → (inside outside : Found) (answer : Answer Run) → Means (form inside outside) answer → Means (pattern_tried header symbol pattern inside outside) answer
  by_form pattern form is inside outside answer h = subst (λ (f : Tried header symbol). Means (f inside outside) answer) (sym is) h

  is_true : IsTried True
  is_true inside outside answer h k = by_form True _ (tried-true header symbol) inside outside answer (h (meaning-true here))

  is_within : (field : Field) (span : Span) → IsTried (Within field span)
  is_within field span inside outside answer h k =
      by_form (Within field span) _ (tried-within header symbol field span) inside outside answer
      (tested_agrees rewriters picks packet header under (term_at symbol field) span (known field) inside outside answer (λ e. h (meaning-within field span here ∙ e)) (λ e. k (meaning-within field span here ∙ e)))

  is_not : (p : Pattern) → IsTried p → IsTried (Not p)
  is_not p t inside outside answer h k =
      by_form (Not p) _ (tried-not header symbol p) inside outside answer (t outside inside answer (λ e. k (meaning-not p here ∙ ap not e)) (λ e. h (meaning-not p here ∙ ap not e)))

  is_and : (p q : Pattern) → IsTried p → IsTried q → IsTried (And p q)
  is_and p q t s inside outside answer h k =
      by_form (And p q) _ (tried-and header symbol p q) inside outside answer
      (t (pattern_tried header symbol q inside outside) outside answer
      (λ e. s inside outside answer (λ d. h (first e ∙ d)) (λ d. k (first e ∙ d)))
      (λ e. k (meaning-and p q here ∙ ap (λ b. b && pattern_holds q here) e)))
    where
      first : pattern_holds p here ≡ true → pattern_holds (And p q) here ≡ pattern_holds q here
      first e = meaning-and p q here ∙ ap (λ b. b && pattern_holds q here) e

  is_or : (p q : Pattern) → IsTried p → IsTried q → IsTried (Or p q)
  is_or p q t s inside outside answer h k =
      by_form (Or p q) _ (tried-or header symbol p q) inside outside answer
      (t inside (pattern_tried header symbol q inside outside) answer
      (λ e. h (meaning-or p q here ∙ ap (λ b. b || pattern_holds q here) e))
      (λ e. s inside outside answer (λ d. h (second e ∙ d)) (λ d. k (second e ∙ d))))
    where
      second : pattern_holds p here ≡ false → pattern_holds (Or p q) here ≡ pattern_holds q here
      second e = meaning-or p q here ∙ ap (λ b. b || pattern_holds q here) e

  by_part : (y : Pattern-F ((p : Pattern) × IsTried p)) → IsTried (roll-Pattern (map-Pattern ((p : Pattern) × IsTried p) Pattern (λ e. e.0) y))
  unfolding Rattle.mt_pattern.specs.declared.pattern.Pattern.TheViews.roll-Pattern denote.Hole.Carrier.roll
  by_part Pattern-F.True = is_true
  by_part (Pattern-F.Within field span) = is_within field span
  by_part (Pattern-F.Not p) = is_not p.0 p.1
  by_part (Pattern-F.And p q) = is_and p.0 q.0 p.1 q.1
  by_part (Pattern-F.Or p q) = is_or p.0 q.0 p.1 q.1

  pub pattern_agrees : (pattern : Pattern) → IsTried pattern
  pattern_agrees = ind-Pattern IsTried (λ x y is. subst (λ z. IsTried (roll-Pattern z)) is (by_part y))
