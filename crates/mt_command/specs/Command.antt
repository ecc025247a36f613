-- What the words of a command line say: a command, or which word is at fault first.
use Rattle.std.specs.Prelude.{◌≡◌, ℕ, ◌<◌, ◌⊎◌, ⊤, false, IsTrue, List, ◌∷◌, length, Option, Some, None, option_map}
use Rattle.mt_lists.specs.Options.{each}
use Rattle.mt_command.specs.declared.words.WordsFault.{WordsFault}
use Rattle.mt_command.specs.declared.words.WordsFault.TheVariants.{Word, NoMemory}
use Rattle.mt_command.specs.Parts.{RunView}
use Rattle.mt_command.specs.Bindings.{binding_of}
use Rattle.mt_command.specs.Words.{word_at, operands_before, policy_of, is_at_fault, is_cut_short}

-- ---- faults

-- the number of the first word at fault, or else of words that lack something at their end; policies have some names
pub record IsFirstAtFault (names words : List (List ℕ)) (n : ℕ) : Type 0 where
  pub fault : IsTrue (is_at_fault names words n) ⊎ (n ≡ length words) × IsTrue (is_cut_short names words)
  pub first : (k : ℕ) → k < n → is_at_fault names words k ≡ false

-- what a fault tells
abbrev pub IsWordsFault : List (List ℕ) → List (List ℕ) → WordsFault → Type 0
IsWordsFault names words (Word n) = IsFirstAtFault names words n
IsWordsFault names words NoMemory = ⊤

-- ---- commands

-- what the words say, of which the operands are given by their numbers
abbrev pub run_of : List (List ℕ) → List ℕ → Option RunView
run_of words (mode ∷ chain ∷ script ∷ others) =
    option_map (λ bindings. record { chain = word_at words chain; script = word_at words script; bindings = bindings; ports = policy_of words })
    (each (λ n. binding_of n (word_at words n)) others)
run_of words _ = None

-- no word is at fault and none is missing, where policies have some names
pub record IsCommand (names words : List (List ℕ)) (run : RunView) : Type 0 where
  pub faultless : (n : ℕ) → is_at_fault names words n ≡ false
  pub complete : is_cut_short names words ≡ false
  pub says : run_of words (operands_before words (length words)) ≡ Some run
