-- What a filter and a classifier of IP packets find for a header (Click manual, in this project's
-- profile).
use Rattle.std.specs.Prelude.{ℕ, Bool, if◌then◌else◌, List, [], ◌∷◌}
use Rattle.mt_packet.specs.Header.{field_of}
use Rattle.mt_pattern.specs.Meaning.{meaning_of}
use Rattle.mt_pattern.specs.declared.pattern.Pattern.{Pattern}
use Rattle.mt_kinds.specs.declared.rule.FilterAction.{FilterAction}
use Rattle.mt_kinds.specs.declared.rule.FilterAction.TheVariants.{Deny}
use Rattle.mt_kinds.specs.declared.rule.Rule.{Rule}

-- the pattern holds for the header
abbrev pub holds_on : List ℕ → Pattern → Bool
holds_on header pattern = meaning_of pattern (field_of header)

-- what the first rule says whose pattern holds; where none does, the packet is denied
unfoldable pub action_on : List ℕ → List Rule → FilterAction
action_on header [] = Deny
action_on header (rule ∷ rules) = if holds_on header rule.pattern then rule.action else action_on header rules
