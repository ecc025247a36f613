-- What a pattern means, a truth for each assignment of values to fields, and how large it is.
use Rattle.std.specs.Prelude.{ℕ, ◌+◌, Bool, true, not, ◌&&◌, ◌||◌, nat_le}
use Rattle.mt_packet.specs.declared.field.Field.{Field}
use Rattle.mt_packet.specs.declared.span.Span.{Span}
use Rattle.mt_pattern.specs.declared.pattern.Pattern.{Pattern, fold-Pattern}
use Rattle.mt_pattern.specs.declared.pattern.Pattern.TheOpen.{Pattern-F}

-- the number lies in the span, whose ends are in it
abbrev pub contains_number : Span → ℕ → Bool
contains_number span number = nat_le span.lo number && nat_le number span.hi

-- what one layer of a pattern means, given the meanings of the patterns in it
abbrev pub layer_meaning : (Field → ℕ) → Pattern-F Bool → Bool
layer_meaning value Pattern-F.True = true
layer_meaning value (Pattern-F.Within field span) = contains_number span (value field)
layer_meaning value (Pattern-F.Not p) = not p
layer_meaning value (Pattern-F.And p q) = p && q
layer_meaning value (Pattern-F.Or p q) = p || q

-- whether the pattern holds where the fields have these values
abbrev pub meaning_of : Pattern → (Field → ℕ) → Bool
meaning_of pattern value = fold-Pattern Bool (layer_meaning value) pattern

-- the size of one layer, given the sizes of the patterns in it
abbrev pub layer_size : Pattern-F ℕ → ℕ
layer_size Pattern-F.True = 1
layer_size (Pattern-F.Within field span) = 1
layer_size (Pattern-F.Not p) = 1 + p
layer_size (Pattern-F.And p q) = 1 + p + q
layer_size (Pattern-F.Or p q) = 1 + p + q

-- the size of a pattern: how many `True`, `Within`, `Not`, `And` and `Or` it has
abbrev pub size_of : Pattern → ℕ
size_of pattern = fold-Pattern ℕ layer_size pattern
