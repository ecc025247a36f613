-- A text and the first place of a byte in it.
use Rattle.std.specs.Prelude.{◌≡◌, ℕ, ◌==◌, false, List, Option}
use Rattle.std.specs.List.{All, position}

-- where a byte stands first in a text
abbrev pub index_of : ℕ → List ℕ → Option ℕ
index_of byte text = position (λ other. other == byte) text

-- the byte stands nowhere in the text
abbrev pub HasNo : ℕ → List ℕ → Type 0
HasNo byte text = All (λ other. (other == byte) ≡ false) text
