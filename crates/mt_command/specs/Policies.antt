-- The option that names the policy by which ports are taken: `--ports NAME` as two words, or `--ports=NAME`. The
-- names that policies have come from the caller. A value does not begin with `-`, and the option stands at most once.
use Rattle.std.specs.Prelude.{ℕ, ◌==◌, nat_eq, Bool, ◌&&◌, ◌||◌, not, List, length, drop, slice_index, codes}
use Rattle.std.specs.List.{list_any, starts_with}
use Rattle.std.specs.Str.{bytes_eq}

-- the policy where the option is left out
abbrev pub default_policy : List ℕ
default_policy = codes "low"

-- some policy has the name
unfoldable pub is_policy : List (List ℕ) → List ℕ → Bool
is_policy names name = list_any (λ known. bytes_eq known name) names

-- ---- words of the option

-- its name alone: the next word is its value
abbrev pub is_name : List ℕ → Bool
is_name word = bytes_eq word (codes "--ports")

-- what stands in front of a value in one word with the name
abbrev pub value_mark : List ℕ
value_mark = codes "--ports="

-- its name and its value in one word
abbrev pub has_value : List ℕ → Bool
has_value word = starts_with nat_eq word value_mark

-- the value in such a word: it may be empty
abbrev pub value_in : List ℕ → List ℕ
value_in word = drop (length value_mark) word

-- ---- what is right

-- what may stand as a value
unfoldable pub is_value : List (List ℕ) → List ℕ → Bool
is_value names value = not (slice_index value 0 == 45) && is_policy names value

-- a word that begins with `-` is at fault, where the option stands before it or not
unfoldable pub is_refused : List (List ℕ) → Bool → List ℕ → Bool
is_refused names given word = given || not (is_name word || has_value word && is_value names (value_in word))
