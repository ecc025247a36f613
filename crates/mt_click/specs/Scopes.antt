-- Scopes: the body of each class, and all that is outside classes.
use Rattle.std.specs.Prelude.{ℕ, ◌+◌, true, false, if◌then◌else◌}
use Rattle.mt_syntax.specs.declared.phrase.Phrase.{Phrase}
use Rattle.mt_syntax.specs.declared.phrase.Phrase.TheVariants as phrases
use Rattle.mt_click.specs.declared.symbols.Scope.{Scope}

-- the scope behind a phrase
abbrev pub behind : Scope → Phrase → Scope
behind s (phrases.Class w) = record { inside = true; class_count = s.class_count }
behind s phrases.Close = record { inside = false; class_count = s.class_count + 1 }
behind s _ = s

-- the number of a scope: 0 outside classes, and from 1 on the bodies
abbrev pub scope_number : Scope → ℕ
scope_number s = if s.inside then s.class_count + 1 else 0

-- the scope at the beginning
abbrev pub outside : Scope
outside = record { inside = false; class_count = 0 }
