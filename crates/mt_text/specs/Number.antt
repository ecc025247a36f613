-- Numbers in words. A number is one to nine decimal digits, or `0x` and one to eight hexadecimal digits, either
-- case; leading zeros are allowed.
use Rattle.std.specs.Prelude.{◌≡◌, ◌≤◌, ℕ, ◌+◌, ◌-◌, ◌*◌, Bool, ◌&&◌, ◌||◌, ◌==◌, nat_lt, nat_le, if◌then◌else◌, List, length, drop, slice_index, fold, Option, Some, None}
use Rattle.std.specs.List.{list_all}
use Rattle.std.specs.Str.Parse.{IsNumeral, digits_value}
use Rattle.mt_lists.specs.Options.{◌>>=◌}
use Rattle.mt_text.specs.Byte.{is_digit}

abbrev pub is_between : ℕ → ℕ → ℕ → Bool
is_between low high number = nat_le low number && nat_le number high

-- 0 to 9, a to f, A to F
abbrev pub is_hexadecimal : ℕ → Bool
is_hexadecimal byte = is_between 48 57 byte || is_between 97 102 byte || is_between 65 70 byte

-- what a digit stands for, 0 where the byte is none
abbrev pub digit_of : ℕ → ℕ
digit_of byte =
    if is_between 48 57 byte then byte - 48
    else if is_between 97 102 byte then (byte - 97) + 10
    else if is_between 65 70 byte then (byte - 65) + 10
    else 0

-- what digits stand for in base ten, the first the highest
unfoldable pub decimal_value : List ℕ → ℕ
decimal_value word = fold (λ n byte. n * 10 + digit_of byte) 0 word

-- and in base sixteen
unfoldable pub hexadecimal_value : List ℕ → ℕ
hexadecimal_value word = fold (λ n byte. n * 16 + digit_of byte) 0 word

-- one to nine decimal digits
unfoldable pub decimal_of : List ℕ → Option ℕ
decimal_of word = if length word == 0 || nat_lt 9 (length word) then None else if list_all is_digit word then Some (decimal_value word) else None

-- one to eight hexadecimal digits
unfoldable pub hexadecimal_of : List ℕ → Option ℕ
hexadecimal_of word = if length word == 0 || nat_lt 8 (length word) then None else if list_all is_hexadecimal word then Some (hexadecimal_value word) else None

-- exactly so many hexadecimal digits
unfoldable pub hexadecimal_of_length : ℕ → List ℕ → Option ℕ
hexadecimal_of_length count word = if length word == count && list_all is_hexadecimal word then Some (hexadecimal_value word) else None

-- a number: decimal digits, or `0x` and hexadecimal digits
unfoldable pub number_of : List ℕ → Option ℕ
number_of word = if nat_lt 1 (length word) && slice_index word 0 == 48 && slice_index word 1 == 120 then hexadecimal_of (drop 2 word) else decimal_of word

-- a number that is at most the greatest one
unfoldable pub number_up_to : ℕ → List ℕ → Option ℕ
number_up_to greatest word = number_of word >>= λ n. (if nat_le n greatest then Some n else None)

-- decimal digits that stand for at most the greatest number
unfoldable pub decimal_up_to : ℕ → List ℕ → Option ℕ
decimal_up_to greatest word = decimal_of word >>= λ n. (if nat_le n greatest then Some n else None)

-- ---- what decimal digits say

-- one to nine decimal digits that write this number
abbrev pub IsDecimal : List ℕ → ℕ → Type 0
IsDecimal word n = IsNumeral 10 word × (length word ≤ 9) × (digits_value 10 word ≡ n)
