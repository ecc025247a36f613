-- The forms of one argument beside numbers and addresses, each a function of the argument's bytes.
use Rattle.std.specs.Prelude.{ℕ, Bool, false, ◌&&◌, ◌||◌, ◌==◌, if◌then◌else◌, List, length, slice_index, codes, Option, Some, None}
use Rattle.std.specs.List.{prefix_len, slice_split}
use Rattle.std.specs.Str.{bytes_eq}
use Rattle.mt_text.specs.Number.{is_between, number_up_to}
use Rattle.mt_kinds.specs.declared.kind.End.{End}
use Rattle.mt_kinds.specs.declared.kind.End.TheVariants.{Src, Dst}

-- ---- numbers

abbrev pub is_same : ℕ → Option ℕ → Bool
is_same number None = false
is_same number (Some other) = other == number

-- an argument that is this very number
unfoldable pub is_number : ℕ → List ℕ → Bool
is_number number argument = is_same number (number_up_to number argument)

-- ---- words

abbrev pub is_upper : ℕ → Bool
is_upper byte = is_between 65 90 byte

abbrev pub is_keyword_byte : ℕ → Bool
is_keyword_byte byte = is_upper byte || is_between 48 57 byte || byte == 95

-- how many bytes of an upper-case word stand at the front
abbrev pub keyword_len : List ℕ → ℕ
keyword_len argument = prefix_len is_keyword_byte argument

-- An argument that begins with an upper-case word: an upper-case letter, and then upper-case letters, digits and
-- `_` up to a space or the argument's end.
unfoldable pub is_keyword : List ℕ → Bool
is_keyword argument = is_upper (slice_index argument 0) && (length argument == keyword_len argument || slice_index argument (keyword_len argument) == 32)

-- one of the two ends of a packet
unfoldable pub end_of : List ℕ → Option End
end_of argument = if bytes_eq argument (codes "src") then Some Src else if bytes_eq argument (codes "dst") then Some Dst else None

-- the words of an argument between single spaces
abbrev pub words_of : List ℕ → List (List ℕ)
words_of argument = slice_split (λ byte. byte == 32) argument
