-- Values that are numbered in the order in which they first occur.
use Rattle.std.specs.Prelude.{ℕ, ◌≡◌, ◌<◌, List, length, Option, Some, slice_get}
use Rattle.mt_synth.specs.declared.fault.SynthFault.{SynthFault}
use Rattle.mt_synth.specs.declared.fault.SynthFault.TheVariants.{TooManyClasses, NoMemory}

-- the value is among them
abbrev pub Occurs : List ℕ → ℕ → Type 0
Occurs values value = (at : ℕ) × (slice_get values at ≡ Some value)

-- the numbers of values, by value, and the values by number
pub record IsNumbering (values : List ℕ) (numbers : List (Option ℕ)) (order : List ℕ) : Type 0 where
  -- each value that occurs has a number
  pub numbered : (value : ℕ) → Occurs values value → (number : ℕ) × (slice_get numbers value ≡ Some (Some number))
  -- the number of a value is its place in the order, and the other way round
  pub place : (value number : ℕ) → slice_get numbers value ≡ Some (Some number) → slice_get order number ≡ Some value
  pub back : (value number : ℕ) → slice_get order number ≡ Some value → slice_get numbers value ≡ Some (Some number)
  pub occurs : (value number : ℕ) → slice_get order number ≡ Some value → Occurs values value
  -- a value of a lower number occurs before
  pub first : (i j at value other : ℕ) → i < j → slice_get order i ≡ Some value → slice_get order j ≡ Some other → slice_get values at ≡ Some other
      → (before : ℕ) × (before < at) × (slice_get values before ≡ Some value)

-- so many of the values are different
abbrev pub HasDistinct : List ℕ → ℕ → Type 0
HasDistinct values count =
    (chosen : List ℕ) × (length chosen ≡ count) × ((value i : ℕ) → slice_get chosen i ≡ Some value → Occurs values value)
    × ((i j value : ℕ) → slice_get chosen i ≡ Some value → slice_get chosen j ≡ Some value → i ≡ j)

-- why values could not be numbered
abbrev pub AreTooMany : List ℕ → SynthFault → Type 0
AreTooMany values (TooManyClasses count) = (count ≡ 65536) × HasDistinct values 65536
AreTooMany values NoMemory = Unit {0}
