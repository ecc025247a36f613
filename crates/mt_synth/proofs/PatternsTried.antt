-- A pattern that is tried, by its outermost part.
use Rattle.std.proofs.Common.{◌≡◌, ℕ, List}
use Rattle.mt_packet.specs.declared.field.Field.{Field}
use Rattle.mt_packet.specs.declared.span.Span.{Span}
use Rattle.mt_pattern.specs.declared.pattern.Pattern.{Pattern, fold-roll-Pattern}
use Rattle.mt_pattern.specs.declared.pattern.Pattern.TheVariants.{True, Within, Not, And, Or}
use Rattle.mt_pattern.specs.declared.pattern.Pattern.TheOpen.{Pattern-F}
use Rattle.mt_trees.specs.Symbols.{Symbol, term_at}
use Rattle.mt_trees.specs.Tests.{Tried, tested, layer_tried, pattern_tried}

module _ (header : List ℕ) (symbol : Symbol) where
  pub tried-true : pattern_tried header symbol True ≡ (λ inside outside. inside)
  unfolding Rattle.mt_pattern.specs.declared.pattern.Pattern.TheViews.roll-Pattern denote.Hole.Carrier.roll
  tried-true = fold-roll-Pattern (Tried header symbol) (layer_tried header symbol) Pattern-F.True

  pub tried-within : (field : Field) (span : Span) → pattern_tried header symbol (Within field span) ≡ (λ inside outside. tested header (term_at symbol field) span inside outside)
  unfolding Rattle.mt_pattern.specs.declared.pattern.Pattern.TheViews.roll-Pattern denote.Hole.Carrier.roll
  tried-within field span = fold-roll-Pattern (Tried header symbol) (layer_tried header symbol) (Pattern-F.Within field span)

  pub tried-not : (p : Pattern) → pattern_tried header symbol (Not p) ≡ (λ inside outside. pattern_tried header symbol p outside inside)
  unfolding Rattle.mt_pattern.specs.declared.pattern.Pattern.TheViews.roll-Pattern denote.Hole.Carrier.roll
  tried-not p = fold-roll-Pattern (Tried header symbol) (layer_tried header symbol) (Pattern-F.Not p)

  pub tried-and : (p q : Pattern) → pattern_tried header symbol (And p q) ≡ (λ inside outside. pattern_tried header symbol p (pattern_tried header symbol q inside outside) outside)
  unfolding Rattle.mt_pattern.specs.declared.pattern.Pattern.TheViews.roll-Pattern denote.Hole.Carrier.roll
  tried-and p q = fold-roll-Pattern (Tried header symbol) (layer_tried header symbol) (Pattern-F.And p q)

  pub tried-or : (p q : Pattern) → pattern_tried header symbol (Or p q) ≡ (λ inside outside. pattern_tried header symbol p inside (pattern_tried header symbol q inside outside))
  unfolding Rattle.mt_pattern.specs.declared.pattern.Pattern.TheViews.roll-Pattern denote.Hole.Carrier.roll
  tried-or p q = fold-roll-Pattern (Tried header symbol) (layer_tried header symbol) (Pattern-F.Or p q)
