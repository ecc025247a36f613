-- Where an argument text ends, of which the comments are hidden.
use Rattle.std.specs.Prelude.{ℕ, ◌+◌, ◌-◌, List, [], ◌∷◌, Option, Some, None, Bool, true, ◌&&◌, ◌==◌, nat_le, if◌then◌else◌}
use Rattle.std.specs.List.{prefix_len}
use Rattle.std.specs.Option.{option_map}

-- how many parentheses are open behind a byte
abbrev pub depth_after : ℕ → ℕ → ℕ
depth_after depth b = if b == 40 then depth + 1 else if b == 41 then depth - 1 else depth

-- how many bytes the matching `)` ends at, with so many parentheses open within
unfoldable pub closing : ℕ → List (Option ℕ) → Option ℕ
closing depth [] = None
closing depth (None ∷ bs) = option_map (λ n. n + 1) (closing depth bs)
closing depth (Some b ∷ bs) = if b == 41 && depth == 0 then Some 1 else option_map (λ n. n + 1) (closing (depth_after depth b) bs)

-- a byte that may stand outside comments
abbrev pub is_plain : Option ℕ → Bool
is_plain None = true
is_plain (Some b) = nat_le b 126

abbrev pub plain_len : List (Option ℕ) → ℕ
plain_len bytes = prefix_len is_plain bytes
