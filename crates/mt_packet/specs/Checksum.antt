-- The checksums of RFC 791, RFC 768 and RFC 9293, by plain sums of 16-bit words (RFC 1071).
use Rattle.std.specs.Prelude.{ℕ, ◌+◌, ◌-◌, ◌*◌, ◌%◌, List, [], ◌∷◌, sum, ◌==◌, if◌then◌else◌}

-- the 16-bit words of the bytes, in network order; a last odd byte is followed by a byte of 0
abbrev pub words_of : List ℕ → List ℕ
words_of [] = []
words_of (high ∷ []) = (high * 256) ∷ []
words_of (high ∷ low ∷ rest) = (high * 256 + low) ∷ words_of rest

-- the ones' complement number, from 0 to 65535, of a plain sum: what is past 16 bits is carried round
-- to the low end, so only a sum of 0 gives 0, and 65535 stands for every other multiple of 65535
abbrev pub ones_complement : ℕ → ℕ
ones_complement plain = if plain == 0 then 0 else ((plain - 1) % 65535 + 1)

-- the ones' complement sum of words (RFC 1071)
abbrev pub ones_complement_sum : List ℕ → ℕ
ones_complement_sum words = ones_complement (sum words)

-- the one number from 0 to 65534 that makes a plain sum a multiple of 65535 when it is added
abbrev pub negative_of : ℕ → ℕ
negative_of plain = (65535 - plain % 65535) % 65535

-- a checksum after words have been replaced by words: old words added and new words taken away,
-- modulo 65535 (RFC 1624), from 0 to 65534
abbrev pub checksum_after_write : ℕ → List ℕ → List ℕ → ℕ
checksum_after_write field old new = (field + sum old + negative_of (sum new)) % 65535

-- what UDP makes of it: a field of 0 means no checksum and stays, and a result of 0 is written 65535
abbrev pub udp_after_write : ℕ → ℕ → ℕ
udp_after_write field after = if field == 0 then 0 else (if after == 0 then 65535 else after)

-- the transport checksum after a write, by the protocol: 17 is UDP (RFC 768), 6 is TCP (RFC 9293)
abbrev pub transport_after_write : ℕ → ℕ → List ℕ → List ℕ → ℕ
transport_after_write protocol field old new =
    if protocol == 17 then udp_after_write field (checksum_after_write field old new)
    else checksum_after_write field old new
