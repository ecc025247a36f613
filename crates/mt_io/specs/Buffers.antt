-- Bytes that are held back, file by file.
use Rattle.std.specs.Prelude.{◌≡◌, ◌≢◌, ◌⊎◌, ℕ, nat_eq, length, List, [], ◌∷◌, ◌++◌, if◌then◌else◌, Option, Some, None, slice_get}
use Rattle.std.specs.Str.{bytes_eq}
use Rattle.mt_io.specs.Files.{Rose}

-- the bytes of one name
pub record Pending : Type 0 where
  pub name : List ℕ
  pub bytes : List ℕ

-- the bytes of a name, none where it has no buffer
abbrev pub pending_of : List Pending → List ℕ → List ℕ
pending_of [] name = []
pending_of (b ∷ bs) name = if bytes_eq b.name name then b.bytes else pending_of bs name

-- bytes that were read ahead, in front of what is still held
abbrev pub ahead : List ℕ → Option (List ℕ) → Option (List ℕ)
ahead bytes None = None
ahead bytes (Some held) = Some (bytes ++ held)

-- bytes that are still to be written, behind what is written
abbrev pub behind : Option (List ℕ) → List ℕ → Option (List ℕ)
behind None bytes = None
behind (Some written) bytes = Some (written ++ bytes)

-- what is told as written of each name are the bytes that are written and some that are pending
abbrev pub HasPending : (List ℕ → Option (List ℕ)) → (List ℕ → Option (List ℕ)) → Type 0
HasPending told written = (name : List ℕ) → (pending : List ℕ) × (told name ≡ behind (written name) pending)

-- the buffer at a place has this name
abbrev pub StandsAt : List Pending → ℕ → List ℕ → Type 0
StandsAt buffers place name = (b : Pending) × (slice_get buffers place ≡ Some b) × (b.name ≡ name)

-- no buffer has this name
abbrev pub HasNone : List Pending → List ℕ → Type 0
HasNone buffers name = (place : ℕ) (b : Pending) → slice_get buffers place ≡ Some b → b.name ≢ name

-- no two buffers have one name
abbrev pub AreApart : List Pending → Type 0
AreApart buffers = (i j : ℕ) (b c : Pending) → slice_get buffers i ≡ Some b → slice_get buffers j ≡ Some c → b.name ≡ c.name → i ≡ j

-- each name that still has bytes has one failure more
abbrev pub HasRisen : List Pending → (List ℕ → ℕ) → (List ℕ → ℕ) → Type 0
HasRisen buffers before after = (place : ℕ) (b : Pending) → slice_get buffers place ≡ Some b → (b.bytes ≡ []) ⊎ Rose (before b.name) (after b.name)

-- the first name that has bytes
abbrev pub first_pending : List Pending → Option (List ℕ)
first_pending [] = None
first_pending (b ∷ bs) = if nat_eq (length b.bytes) 0 then first_pending bs else Some b.name
