-- Addresses in words: IPv4 in dotted decimal (RFC 791 numbers, as RFC 3986 section 3.2.2 writes them, leading zeros
-- allowed), Ethernet in six pairs of hexadecimal digits joined by colons. Values are in network order: the first
-- part is the highest.
use Rattle.std.specs.Prelude.{ℕ, ◌+◌, ◌*◌, ◌/◌, ◌%◌, nat_lt, Bool, ◌&&◌, ◌==◌, if◌then◌else◌, List, [], ◌∷◌, ◌++◌, decimal, length, take, drop, slice_index, Option, Some, None}
use Rattle.mt_lists.specs.Cuts.{index_of}
use Rattle.mt_lists.specs.Options.{◌>>=◌}
use Rattle.mt_text.specs.Number.{decimal_up_to, hexadecimal_of_length}

-- an IPv4 address: four numbers up to 255 joined by dots
unfoldable pub ipv4_address_of : List ℕ → Option ℕ
ipv4_address_of word = do
  i ← index_of 46 word
  a ← decimal_up_to 255 (take i word)
  j ← index_of 46 (drop (i + 1) word)
  b ← decimal_up_to 255 (take j (drop (i + 1) word))
  k ← index_of 46 (drop (j + 1) (drop (i + 1) word))
  c ← decimal_up_to 255 (take k (drop (j + 1) (drop (i + 1) word)))
  d ← decimal_up_to 255 (drop (k + 1) (drop (j + 1) (drop (i + 1) word)))
  Some (a * 16777216 + b * 65536 + c * 256 + d)

-- the twelve digits of six pairs, with one byte between two pairs
abbrev pub pairs_of : List ℕ → List ℕ
pairs_of word =
    slice_index word 0 ∷ slice_index word 1 ∷ slice_index word 3 ∷ slice_index word 4 ∷ slice_index word 6 ∷ slice_index word 7
    ∷ slice_index word 9 ∷ slice_index word 10 ∷ slice_index word 12 ∷ slice_index word 13 ∷ slice_index word 15 ∷ slice_index word 16 ∷ []

abbrev pub is_colon : List ℕ → ℕ → Bool
is_colon word at = slice_index word at == 58

-- an Ethernet address: six pairs joined by colons
unfoldable pub ethernet_address_of : List ℕ → Option ℕ
ethernet_address_of word =
    if length word == 17 && is_colon word 2 && is_colon word 5 && is_colon word 8 && is_colon word 11 && is_colon word 14
    then hexadecimal_of_length 12 (pairs_of word) else None

-- the standard form of an IPv4 address, its four numbers in decimal
abbrev pub dotted : ℕ → ℕ → ℕ → ℕ → List ℕ
dotted a b c d = decimal a ++ 46 ∷ (decimal b ++ 46 ∷ (decimal c ++ 46 ∷ decimal d))

-- a byte in two hexadecimal digits, in lower case
abbrev pub hexadecimal_digit : ℕ → ℕ
hexadecimal_digit d = if nat_lt d 10 then d + 48 else d + 87

abbrev pub pair : ℕ → List ℕ → List ℕ
pair byte rest = hexadecimal_digit (byte / 16) ∷ hexadecimal_digit (byte % 16) ∷ rest

-- the standard form of an Ethernet address, its six bytes in order
abbrev pub colon_separated : ℕ → ℕ → ℕ → ℕ → ℕ → ℕ → List ℕ
colon_separated a b c d e f = pair a (58 ∷ pair b (58 ∷ pair c (58 ∷ pair d (58 ∷ pair e (58 ∷ pair f [])))))
