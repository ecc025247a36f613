-- The words of a command line, and what is wrong with one of them:
--
--     run CHAIN SCRIPT BINDING.. [--ports NAME]
--
-- Words are numbered from 0. The option stands anywhere before the first `--`. Every other word but that `--` is an
-- operand: the mode, two files, and bindings. The files of all operands differ, and none is `-`.
use Rattle.std.specs.Prelude.{ℕ, ◌==◌, zero, suc, nat_lt, nat_le, Bool, false, ◌&&◌, ◌||◌, not, if◌then◌else◌, List, [], length, take, filter, filter_map, slice_index, slice_index_or, codes, Option, Some, None}
use Rattle.std.specs.List.{list_any, range_with_len}
use Rattle.std.specs.Option.{option_map_or}
use Rattle.std.specs.Str.{bytes_eq}
use Rattle.mt_command.specs.Bindings.{is_binding, bound_file}
use Rattle.mt_command.specs.Policies.{default_policy, is_policy, is_name, has_value, value_in, is_value, is_refused}

-- the word of a number
abbrev pub word_at : List (List ℕ) → ℕ → List ℕ
word_at words n = slice_index_or words n []

-- the numbers below a number
abbrev pub below : ℕ → List ℕ
below n = range_with_len 0 n

-- ---- kinds of words

abbrev pub is_dashes : List ℕ → Bool
is_dashes word = bytes_eq word (codes "--")

-- a `--` stands before the word of a number
unfoldable pub is_behind : List (List ℕ) → ℕ → Bool
is_behind words n = list_any is_dashes (take n words)

-- the word of a number, or the end of the words, stands where a value belongs: behind the option's name. It is the
-- value whatever it is, and at fault if it begins with `-`
unfoldable pub is_awaited : List (List ℕ) → ℕ → Bool
is_awaited words zero = false
is_awaited words (suc n) = is_name (word_at words n) && not (is_behind words n)

-- the first `--`
abbrev pub is_separator : List (List ℕ) → ℕ → Bool
is_separator words n = is_dashes (word_at words n) && not (is_behind words n) && not (is_awaited words n)

-- a word before it that begins with `-`
abbrev pub is_option : List (List ℕ) → ℕ → Bool
is_option words n =
    slice_index (word_at words n) 0 == 45 && not (is_dashes (word_at words n)) && not (is_behind words n) && not (is_awaited words n)

-- every other word that is no value
unfoldable pub is_operand : List (List ℕ) → ℕ → Bool
is_operand words n = nat_lt n (length words) && not (is_awaited words n) && not (is_separator words n) && not (is_option words n)

-- ---- policies

-- the value of the option that the word of a number is or has
unfoldable pub policy_at : List (List ℕ) → ℕ → Option (List ℕ)
policy_at words n =
    if is_awaited words n then Some (word_at words n)
    else if is_option words n && has_value (word_at words n) then Some (value_in (word_at words n))
    else None

-- the values before the word of a number
unfoldable pub policies_before : List (List ℕ) → ℕ → List (List ℕ)
policies_before words n = filter_map (policy_at words) (below n)

-- the option stands with its value before the word of a number
abbrev pub is_given : List (List ℕ) → ℕ → Bool
is_given words n = nat_lt 0 (length (policies_before words n))

-- the policy that the words name, or the default
abbrev pub policy_of : List (List ℕ) → List ℕ
policy_of words = slice_index_or (policies_before words (length words)) 0 default_policy

-- ---- operands

-- the numbers of the operands before the word of a number
unfoldable pub operands_before : List (List ℕ) → ℕ → List ℕ
operands_before words n = filter (is_operand words) (below n)

-- the place of an operand: how many stand before it. The mode has place 0, CHAIN 1, SCRIPT 2, a binding 3 or more
abbrev pub place_of : List (List ℕ) → ℕ → ℕ
place_of words n = length (operands_before words n)

-- the operand at a place is not what stands there
unfoldable pub is_misplaced : ℕ → List ℕ → Bool
is_misplaced place word = if place == 0 then not (bytes_eq word (codes "run")) else nat_le 3 place && not (is_binding word)

-- the file that the operand at a place names
unfoldable pub file_in : ℕ → List ℕ → Option (List ℕ)
file_in place word =
    if place == 0 then None
    else if nat_lt place 3 then Some word
    else if is_binding word then Some (bound_file word)
    else None

-- ---- files

-- the file that the word of a number names
unfoldable pub file_at : List (List ℕ) → ℕ → Option (List ℕ)
file_at words n = if is_operand words n then file_in (place_of words n) (word_at words n) else None

-- a word before that of a number names the file
unfoldable pub is_named : List (List ℕ) → ℕ → List ℕ → Bool
is_named words n file = list_any (λ k. option_map_or (bytes_eq file) (file_at words k) false) (below n)

-- ---- words at fault

-- a file that an operand may not name: `-`, or one that is named before
abbrev pub is_barred : (List ℕ → Bool) → List ℕ → Bool
is_barred named file = bytes_eq file (codes "-") || named file

-- the operand at a place, of which some files are named before
unfoldable pub is_wrong : (List ℕ → Bool) → ℕ → List ℕ → Bool
is_wrong named place word = is_misplaced place word || option_map_or (is_barred named) (file_in place word) false

-- the word of a number stands where a value belongs, and is no name of a policy
abbrev pub is_unknown : List (List ℕ) → List (List ℕ) → ℕ → Bool
is_unknown names words n = nat_lt n (length words) && is_awaited words n && not (is_value names (word_at words n))

-- the word of a number, where policies have some names
unfoldable pub is_at_fault : List (List ℕ) → List (List ℕ) → ℕ → Bool
is_at_fault names words n =
    is_unknown names words n
    || (is_option words n && is_refused names (is_given words n) (word_at words n))
    || (is_operand words n && is_wrong (is_named words n) (place_of words n) (word_at words n))

-- what the words lack at their end: an operand, a value, or a policy of the default's name where none is named
unfoldable pub is_cut_short : List (List ℕ) → List (List ℕ) → Bool
is_cut_short names words =
    nat_lt (length (operands_before words (length words))) 3 || is_awaited words (length words) || not (is_policy names (policy_of words))
