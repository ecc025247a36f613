-- What calls do to files. A file is named by the bytes of its name; what it holds to be read, or has
-- been given to write, is `None` where it is not told. Whether it is told does not change.
use Rattle.std.specs.Prelude.{◌≡◌, ◌≢◌, ◌≤◌, ℕ, ◌+◌, ◌-◌, ◌^◌, min, List, [], ◌++◌, Option, Some, None, ⊤}

-- these bytes were taken from the front of what is held
abbrev pub Takes : Option (List ℕ) → List ℕ → Option (List ℕ) → Type 0
Takes None bytes after = after ≡ None
Takes (Some all) bytes after = (rest : List ℕ) × (after ≡ Some rest) × (all ≡ bytes ++ rest)

-- no held byte is left
abbrev pub IsAtEnd : Option (List ℕ) → Type 0
IsAtEnd None = ⊤
IsAtEnd (Some all) = all ≡ []

-- these bytes were added behind what is written
abbrev pub Gains : Option (List ℕ) → List ℕ → Option (List ℕ) → Type 0
Gains None bytes after = after ≡ None
Gains (Some before) bytes after = after ≡ Some (before ++ bytes)

-- A count rose. One at the end of its type, 2^64 - 1, is taken to have risen.
abbrev pub Rose : ℕ → ℕ → Type 0
Rose before after = min (before + 1) (2 ^ 64 - 1) ≤ after

-- nothing changed, of any name
abbrev pub IsSame : {X : Type 0} → (List ℕ → X) → (List ℕ → X) → Type 0
IsSame old new = (name : List ℕ) → new name ≡ old name

-- nothing changed of any other name
abbrev pub IsSameBut : {X : Type 0} → List ℕ → (List ℕ → X) → (List ℕ → X) → Type 0
IsSameBut name old new = (other : List ℕ) → other ≢ name → new other ≡ old other

-- no count fell
abbrev pub NeverFell : (List ℕ → ℕ) → (List ℕ → ℕ) → Type 0
NeverFell old new = (name : List ℕ) → old name ≤ new name
