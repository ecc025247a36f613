-- What loops over the calls of files do: a whole piece written, a whole file read.
use Rattle.std.specs.Prelude.{◌≡◌, ◌<◌, ◌≤◌, ℕ, List, [], ◌++◌, length, Option, Some, None, ⊤}
use Rattle.mt_io.specs.Files.{Takes, Gains}

-- some front of a piece was added behind what is written
abbrev pub GainsFront : Option (List ℕ) → List ℕ → Option (List ℕ) → Type 0
GainsFront before piece after = (front : List ℕ) × (rest : List ℕ) × (piece ≡ front ++ rest) × Gains before front after

-- some bytes, at most so many, were taken from the front of what is held
abbrev pub TakesAtMost : ℕ → Option (List ℕ) → Option (List ℕ) → Type 0
TakesAtMost most before after = (front : List ℕ) × (length front ≤ most) × Takes before front after

-- a text is all that was held, and no byte is left
abbrev pub IsWhole : Option (List ℕ) → List ℕ → Option (List ℕ) → Type 0
IsWhole None text after = after ≡ None
IsWhole (Some all) text after = (text ≡ all) × (after ≡ Some [])

-- more bytes are held than a limit allows
abbrev pub IsLongerThan : ℕ → Option (List ℕ) → Type 0
IsLongerThan limit None = ⊤
IsLongerThan limit (Some all) = limit < length all
