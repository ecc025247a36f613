-- Classes of bytes (ASCII), and identifiers of the Click language.
use Rattle.std.specs.Prelude.{ℕ, Bool, ◌&&◌, ◌||◌, ◌==◌, List, slice_index}
use Rattle.std.specs.Char.{is_ascii_alphabetic, is_ascii_digit}
use Rattle.std.specs.List.{list_all}

-- white space: space, tab, line feed, carriage return
abbrev pub is_white : ℕ → Bool
is_white b = b == 32 || b == 9 || b == 10 || b == 13

-- an identifier begins with a letter or an underscore
abbrev pub is_letter : ℕ → Bool
is_letter b = is_ascii_alphabetic b || b == 95

abbrev pub is_digit : ℕ → Bool
is_digit b = is_ascii_digit b

-- and goes on with letters, digits, underscores and at signs
abbrev pub is_name_byte : ℕ → Bool
is_name_byte b = is_letter b || is_digit b || b == 64

-- a whole word that is an identifier, as the name of a device
unfoldable pub is_identifier : List ℕ → Bool
is_identifier word = is_letter (slice_index word 0) && list_all is_name_byte word
