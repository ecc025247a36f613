-- The bytes of words.
use Rattle.std.specs.Prelude.{ℕ, ◌-◌, List, [], length, take, drop, Option, Some, None}
use Rattle.mt_syntax.specs.declared.word.Word.{Word}

-- the bytes of a word
unfoldable pub bytes_of : List ℕ → Word → List ℕ
bytes_of text w = take (w.to - w.from) (drop w.from text)

-- without the first byte and the last
abbrev pub within : List ℕ → List ℕ
within whole = take (length whole - 2) (drop 1 whole)

-- an argument text without its parentheses
unfoldable pub inner : List ℕ → Option Word → List ℕ
inner text None = []
inner text (Some w) = within (bytes_of text w)
