-- The meaning of a pattern, by its outermost part.
use Rattle.std.proofs.Common.{◌≡◌, ℕ, Bool, true, not, ◌&&◌, ◌||◌}
use Rattle.mt_packet.specs.declared.field.Field.{Field}
use Rattle.mt_packet.specs.declared.span.Span.{Span}
use Rattle.mt_pattern.specs.declared.pattern.Pattern.{Pattern, fold-Pattern, fold-roll-Pattern}
use Rattle.mt_pattern.specs.declared.pattern.Pattern.TheVariants.{True, Within, Not, And, Or}
use Rattle.mt_pattern.specs.declared.pattern.Pattern.TheOpen.{Pattern-F}
use Rattle.mt_pattern.specs.Meaning.{layer_meaning, meaning_of, contains_number}

pub meaning-true : (value : Field → ℕ) → meaning_of True value ≡ true
unfolding Rattle.mt_pattern.specs.declared.pattern.Pattern.TheViews.roll-Pattern denote.Hole.Carrier.roll
meaning-true value = fold-roll-Pattern Bool (layer_meaning value) Pattern-F.True

pub meaning-within : (field : Field) (span : Span) (value : Field → ℕ) → meaning_of (Within field span) value ≡ contains_number span (value field)
unfolding Rattle.mt_pattern.specs.declared.pattern.Pattern.TheViews.roll-Pattern denote.Hole.Carrier.roll
meaning-within field span value = fold-roll-Pattern Bool (layer_meaning value) (Pattern-F.Within field span)

pub meaning-not : (p : Pattern) (value : Field → ℕ) → meaning_of (Not p) value ≡ not (meaning_of p value)
unfolding Rattle.mt_pattern.specs.declared.pattern.Pattern.TheViews.roll-Pattern denote.Hole.Carrier.roll
meaning-not p value = fold-roll-Pattern Bool (layer_meaning value) (Pattern-F.Not p)

pub meaning-and : (p q : Pattern) (value : Field → ℕ) → meaning_of (And p q) value ≡ meaning_of p value && meaning_of q value
unfolding Rattle.mt_pattern.specs.declared.pattern.Pattern.TheViews.roll-Pattern denote.Hole.Carrier.roll
meaning-and p q value = fold-roll-Pattern Bool (layer_meaning value) (Pattern-F.And p q)

pub meaning-or : (p q : Pattern) (value : Field → ℕ) → meaning_of (Or p q) value ≡ meaning_of p value || meaning_of q value
unfolding Rattle.mt_pattern.specs.declared.pattern.Pattern.TheViews.roll-Pattern denote.Hole.Carrier.roll
meaning-or p q value = fold-roll-Pattern Bool (layer_meaning value) (Pattern-F.Or p q)
