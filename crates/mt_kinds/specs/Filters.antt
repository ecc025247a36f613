-- The arguments of IPFilter and IPClassifier (Click manual, in this project's profile).
use Rattle.std.specs.Prelude.{ℕ, ◌+◌, ◌||◌, ◌==◌, if◌then◌else◌, List, length, take, drop, codes, Option, Some, None, Result, Ok, Err, option_map}
use Rattle.std.specs.Str.{bytes_eq}
use Rattle.mt_lists.specs.Options.{◌>>=◌}
use Rattle.mt_lists.specs.Cuts.{index_of}
use Rattle.mt_text.specs.Number.{number_up_to}
use Rattle.mt_pattern.specs.Parser.{parse_of}
use Rattle.mt_pattern.specs.declared.pattern.Pattern.{Pattern}
use Rattle.mt_lists.specs.Options.{each}
use Rattle.mt_kinds.specs.declared.rule.FilterAction.{FilterAction}
use Rattle.mt_kinds.specs.declared.rule.FilterAction.TheVariants.{Deny, Out}
use Rattle.mt_kinds.specs.declared.rule.Rule.{Rule}

-- An action: `allow` is output 0, a number from 0 to 511 is that output, and `deny` and `drop` drop.
unfoldable pub action_of : List ℕ → Option FilterAction
action_of word =
    if bytes_eq word (codes "allow") then Some (Out 0)
    else if bytes_eq word (codes "deny") || bytes_eq word (codes "drop") then Some Deny
    else option_map Out (number_up_to 511 word)

abbrev pub if_read : Result Pattern ℕ → Option Pattern
if_read (Ok pattern) = Some pattern
if_read (Err at) = None

-- the pattern that an argument is
unfoldable pub ip_pattern_of : List ℕ → Option Pattern
ip_pattern_of argument = if_read (parse_of argument)

-- an action up to an index and a pattern behind it
unfoldable pub rule_at : List ℕ → Option ℕ → Option Rule
rule_at argument None = None
rule_at argument (Some i) = do
  action ← action_of (take i argument)
  pattern ← ip_pattern_of (drop (i + 1) argument)
  Some (record { action = action; pattern = pattern })

-- a rule: an action, a space and a pattern
abbrev pub rule_of : List ℕ → Option Rule
rule_of argument = rule_at argument (index_of 32 argument)

-- one rule at least
unfoldable pub rules_of : List (List ℕ) → Option (List Rule)
rules_of arguments = if length arguments == 0 then None else each rule_of arguments

-- one pattern at least
unfoldable pub ip_patterns_of : List (List ℕ) → Option (List Pattern)
ip_patterns_of arguments = if length arguments == 0 then None else each ip_pattern_of arguments
