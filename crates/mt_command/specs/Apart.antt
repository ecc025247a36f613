-- Files of a command that differ from one another and from `-`.
use Rattle.std.specs.Prelude.{◌≡◌, ◌≢◌, ℕ, List, ◌∷◌, map, All, AllPairs, slice_get, codes, Option, Some}
use Rattle.mt_command.specs.declared.binding.Side.{Side}
use Rattle.mt_command.specs.declared.binding.Side.TheVariants.{In, Out}
use Rattle.mt_command.specs.Parts.{RunView, DeviceView, BoundView}

abbrev pub files_of : RunView → List (List ℕ)
files_of run = run.chain ∷ run.script ∷ map (λ b. b.file) run.bindings

-- the chain's file, the script's and those of the bindings all differ, and none is `-`
pub record AreApart (run : RunView) : Type 0 where
  pub differ : AllPairs (λ file other. file ≢ other) (files_of run)
  pub named : All (λ file. file ≢ codes "-") (files_of run)

-- no two devices have one name
abbrev pub HaveNames : List DeviceView → Type 0
HaveNames devices = AllPairs (λ device other. device.name ≢ other.name) devices

-- the file on a side
abbrev pub file_on : Side → BoundView → Option (List ℕ)
file_on In bound = bound.input
file_on Out bound = bound.output

-- the device at a place, from 0, has this file on a side
abbrev pub HasFile : List BoundView → ℕ → Side → List ℕ → Type 0
HasFile bound place side file = (b : BoundView) × (slice_get bound place ≡ Some b) × (file_on side b ≡ Some file)

-- a file is on one side of one device at most, and is neither the chain's nor the script's, nor `-`
pub record AreBoundApart (run : RunView) (bound : List BoundView) : Type 0 where
  pub differ : (j k : ℕ) (s t : Side) (file : List ℕ) → HasFile bound j s file → HasFile bound k t file → (j ≡ k) × (s ≡ t)
  pub not_chain : (j : ℕ) (s : Side) (file : List ℕ) → HasFile bound j s file → file ≢ run.chain
  pub not_script : (j : ℕ) (s : Side) (file : List ℕ) → HasFile bound j s file → file ≢ run.script
  pub named : (j : ℕ) (s : Side) (file : List ℕ) → HasFile bound j s file → file ≢ codes "-"
