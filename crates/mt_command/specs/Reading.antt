-- What is kept while the words are read, one after the other.
use Rattle.std.specs.Prelude.{◌≡◌, ◌==◌, ℕ, ◌+◌, ◌<◌, nat_le, Bool, true, false, if◌then◌else◌, List, [], ◌∷◌, map, drop, slice_index, Option, Some, None}
use Rattle.std.specs.BTreeSet.{BTreeSet, contains_by}
use Rattle.std.specs.Cmp.Lexicographic.{slice_cmp}
use Rattle.std.specs.List.{list_all}
use Rattle.std.specs.Option.{option_to_list}
use Rattle.std.specs.Ordering.{nat_cmp}
use denote.Ref.{Bor}
use Rattle.mt_lists.specs.Options.{each}
use Rattle.mt_command.specs.declared.policy.Ports.{Ports}
use Rattle.mt_command.specs.declared.policy.Ports.TheVariants.{Unsaid, Awaited, Named}
use Rattle.mt_command.specs.declared.reader.Kind.{Kind}
use Rattle.mt_command.specs.declared.reader.Kind.TheVariants.{Value, Dashes, Option as Optional, Operand}
use Rattle.mt_command.specs.declared.reader.Reader.{Reader}
use Rattle.mt_command.specs.Parts.{BindingView, binding_view}
use Rattle.mt_command.specs.Bindings.{binding_of}
use Rattle.mt_command.specs.Command.{IsFirstAtFault}
use Rattle.mt_command.specs.Policies.{default_policy, is_policy, is_name, has_value, value_in, is_value}
use Rattle.mt_command.specs.Words.{word_at, is_dashes, is_behind, is_awaited, operands_before, policies_before, is_named, is_at_fault}

-- the kind of a word, where a value is awaited or not, and a `--` stands before it or not
unfoldable pub kind_of : Bool → Bool → List ℕ → Kind
kind_of true behind word = Value
kind_of false true word = Operand
kind_of false false word = if is_dashes word then Dashes else if slice_index word 0 == 45 then Optional else Operand

-- ---- policies

-- what the words have said of the policy so far
pub data Said : Type 0 where
  unsaid : Said
  awaits : Said
  names_it : List ℕ → Said

abbrev pub said_by : Ports → Said
said_by Unsaid = unsaid
said_by Awaited = awaits
said_by (Named name) = names_it name.now

abbrev pub awaits_value : Said → Bool
awaits_value unsaid = false
awaits_value awaits = true
awaits_value (names_it name) = false

abbrev pub policies_in : Said → List (List ℕ)
policies_in unsaid = []
policies_in awaits = []
policies_in (names_it name) = name ∷ []

-- what is said once a value is read, if it is right
unfoldable pub valued : List (List ℕ) → List ℕ → Option Said
valued names value = if is_value names value then Some (names_it value) else None

-- what is said once an option is read, if it is right
unfoldable pub opted : List (List ℕ) → Said → List ℕ → Option Said
opted names unsaid word = if is_name word then Some awaits else if has_value word then valued names (value_in word) else None
opted names awaits word = None
opted names (names_it name) word = None

-- the policy at the end of the words, if there is one
unfoldable pub policy_in : List (List ℕ) → Said → Option (List ℕ)
policy_in names unsaid = if is_policy names default_policy then Some default_policy else None
policy_in names awaits = None
policy_in names (names_it name) = Some name

-- ---- operands

-- the file is among some
abbrev pub holds : BTreeSet (Bor (List ℕ)) → List ℕ → Bool
holds files file = contains_by (λ key. slice_cmp nat_cmp file key.now) files

-- the binding that the operand at a place is
unfoldable pub bound_at : ℕ → ℕ → List ℕ → List BindingView
bound_at place number word = if nat_le 3 place then option_to_list (binding_of number word) else []

-- ---- words that are read

-- so many words are read, and none is at fault
pub record HasRead (names words : List (List ℕ)) (n : ℕ) (behind : Bool) (said : Said) (numbers : List ℕ) (files : List ℕ → Bool) (bindings : List BindingView) : Type 0 where
  pub dashes : behind ≡ is_behind words n
  pub awaited : awaits_value said ≡ is_awaited words n
  pub policies : policies_in said ≡ policies_before words n
  pub known : list_all (is_policy names) (policies_in said) ≡ true
  pub operands : numbers ≡ operands_before words n
  pub named : (file : List ℕ) → files file ≡ is_named words n file
  pub bound : each (λ k. binding_of k (word_at words k)) (drop 3 numbers) ≡ Some bindings
  pub faultless : (k : ℕ) → k < n → is_at_fault names words k ≡ false

-- the same of a reader
abbrev pub Reads : List (List ℕ) → List (List ℕ) → ℕ → Reader → Type 0
Reads names words n r =
    HasRead names words n r.behind (said_by r.ports) r.operands.numbers.items (holds r.operands.files) (map binding_view r.operands.bindings.items)

-- the word of a number was taken, or is the first at fault
abbrev pub HasTaken : List (List ℕ) → List (List ℕ) → ℕ → Reader → Bool → Type 0
HasTaken names words n r true = Reads names words (n + 1) r
HasTaken names words n r false = IsFirstAtFault names words n
