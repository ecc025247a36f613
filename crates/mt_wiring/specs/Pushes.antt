-- What a walk over a list adds to another list, and the lowest of some numbers.
use Rattle.std.specs.Prelude.{◌≡◌, ℕ, ◌<◌, ◌≤◌, ◌⊎◌, Bool, true, false, List, Option, Some, None, slice_get, Contains, MatchOption, IfSome, if◌then◌else◌, nat_lt}

-- a list with more elements than before: those with a property
pub record HasPushed {X : Type 0} (old new : List X) (P : X → Type 0) : Type 0 where
  pub kept : (x : X) → Contains old x → Contains new x
  pub only : (x : X) → Contains new x → Contains old x ⊎ P x
  pub all : (x : X) → P x → Contains new x

-- a relation to one of the first so many elements of a list and its place
pub record IsAmong {A X : Type 0} (R : ℕ → A → X → Type 0) (xs : List A) (bound : ℕ) (x : X) : Type 0 where
  pub place : ℕ
  pub below : place < bound
  pub element : A
  pub is : slice_get xs place ≡ Some element
  pub related : R place element x

-- the lowest number with a property
abbrev pub IsLowest : (ℕ → Type 0) → Option ℕ → Type 0
IsLowest P lowest = MatchOption lowest ((n : ℕ) → P n → ⊥) (λ n. P n × ((m : ℕ) → m < n → P m → ⊥))

-- the lowest of the numbers so far and of one more, where it is wanted
abbrev pub lower : Bool → ℕ → Option ℕ → Option ℕ
lower false n lowest = lowest
lower true n None = Some n
lower true n (Some m) = if nat_lt n m then Some n else Some m

-- a number is found, and at most this one
abbrev pub HasAtMost : Option ℕ → ℕ → Type 0
HasAtMost lowest n = MatchOption lowest ⊥ (λ k. k ≤ n)

-- the lowest number so far, before and after one more that is wanted if this holds
pub record HasLowered (Wanted : Type 0) (n : ℕ) (old new : Option ℕ) : Type 0 where
  pub found : IfSome new (λ m. (old ≡ Some m) ⊎ (Wanted × (n ≡ m)))
  pub least : Wanted → HasAtMost new n
  pub kept : (m : ℕ) → HasAtMost old m → HasAtMost new m
