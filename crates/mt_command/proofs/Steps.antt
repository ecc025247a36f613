-- One word more is read, or is the first at fault.
use Rattle.std.proofs.Common.{◌≡◌, ◌∙◌, refl, sym, ap, subst, inl, inr, ℕ, ◌+◌, ◌<◌, ◌≤◌, ◌==◌, Bool, true, false, ◌&&◌, ◌||◌, not, cond, nat_lt, nat_le, List, [], ◌∷◌, ◌++◌, length, drop, slice_index, add-one, arith}
use Rattle.std.specs.Prelude.{codes, Some, None, IsSome}
use Rattle.std.specs.List.{list_all}
use Rattle.std.specs.Option.{option_map_or, option_to_list}
use Rattle.std.specs.Str.{bytes_eq}
use Rattle.std.proofs.lemmas.Bool.{cases_lt}
use Rattle.std.proofs.lemmas.Bool.Decides.{nat_tests}
use Rattle.std.proofs.lemmas.List.{append-nil}
use Rattle.std.proofs.lemmas.List.Folds.{list_any_more}
use Rattle.std.proofs.lemmas.Slice.Eq.{bytes_eq-Decides}
use Rattle.mt_lists.proofs.Bools.{or_false, not_false, not_true, and_true, false_behind}
use Rattle.mt_lists.specs.Options.{each}
use Rattle.mt_command.specs.declared.reader.Kind.{Kind}
use Rattle.mt_command.specs.declared.reader.Kind.TheVariants.{Value, Dashes, Option as Optional, Operand}
use Rattle.mt_command.specs.Parts.{BindingView}
use Rattle.mt_command.specs.Bindings.{binds_on, is_binding, binding_of, bound_on}
use Rattle.mt_command.specs.declared.binding.Side.TheVariants.{In, Out}
use Rattle.mt_command.specs.Policies.{is_policy, is_name, has_value, value_in, is_value, is_refused}
use Rattle.mt_command.specs.Words.{word_at, is_dashes, is_behind, is_awaited, is_separator, is_option, is_operand, policy_at, policies_before, is_given, operands_before, is_misplaced, file_in, file_at, is_named, is_barred, is_wrong, is_at_fault}
use Rattle.mt_command.specs.Command.{IsFirstAtFault}
use Rattle.mt_command.specs.Reading.{kind_of, Said, unsaid, awaits, names_it, awaits_value, policies_in, valued, opted, bound_at, HasRead}
use Rattle.mt_command.proofs.Lists.{any_more, filter_more, found_more, each_behind}

-- ---- kinds, by four tests: a value is awaited, a `--` stands before the word, the word is `--`, and it begins with `-`

abbrev tested : Bool → Bool → Bool → Bool → Kind
tested true behind dashes begins = Value
tested false true dashes begins = Operand
tested false false dashes begins = cond dashes Dashes (cond begins Optional Operand)

kind_tested : (awaited behind : Bool) (word : List ℕ) → kind_of awaited behind word ≡ tested awaited behind (is_dashes word) (slice_index word 0 == 45)
unfolding kind_of
kind_tested true behind word = refl
kind_tested false true word = refl
kind_tested false false word = refl

value_kind : (a c d x : Bool) → tested a c d x ≡ Value → a ≡ true
value_kind true c d x e = refl
value_kind false true d x e = absurd cc
value_kind false false true x e = absurd cc
value_kind false false false true e = absurd cc
value_kind false false false false e = absurd cc

dashes_kind : (a c d x : Bool) → tested a c d x ≡ Dashes → (a ≡ false) × (c ≡ false) × (d ≡ true)
dashes_kind true c d x e = absurd cc
dashes_kind false true d x e = absurd cc
dashes_kind false false true x e = (refl, refl, refl)
dashes_kind false false false true e = absurd cc
dashes_kind false false false false e = absurd cc

option_kind : (a c d x : Bool) → tested a c d x ≡ Optional → (a ≡ false) × (c ≡ false) × (d ≡ false) × (x ≡ true)
option_kind true c d x e = absurd cc
option_kind false true d x e = absurd cc
option_kind false false true x e = absurd cc
option_kind false false false true e = (refl, refl, refl, refl)
option_kind false false false false e = absurd cc

-- an operand stands behind `--`, or is neither that nor an option
operand_kind : (a c d x : Bool) → tested a c d x ≡ Operand → (a ≡ false) × ((d && not c && not a) ≡ false) × ((x && not d && not c && not a) ≡ false) × ((c || d) ≡ c) × ((x && not c) ≡ false)
operand_kind true c d x e = absurd cc
operand_kind false true true true e = (refl, refl, refl, refl, refl)
operand_kind false true true false e = (refl, refl, refl, refl, refl)
operand_kind false true false true e = (refl, refl, refl, refl, refl)
operand_kind false true false false e = (refl, refl, refl, refl, refl)
operand_kind false false true x e = absurd cc
operand_kind false false false true e = absurd cc
operand_kind false false false false e = (refl, refl, refl, refl, refl)

or_nothing : (b : Bool) → (b || false) ≡ b
or_nothing true = refl
or_nothing false = refl

-- ---- words that begin with `-`

is_dashes_begins : (word : List ℕ) → is_dashes word ≡ true → (slice_index word 0 == 45) ≡ true
is_dashes_begins word e =
    let same : word ≡ codes "--" = (bytes_eq-Decides word (codes "--")).0 e in
    ap (λ w. slice_index w 0 == 45) same

is_name_begins : (word : List ℕ) → is_name word ≡ true → (slice_index word 0 == 45) ≡ true
is_name_begins word e =
    let same : word ≡ codes "--ports" = (bytes_eq-Decides word (codes "--ports")).0 e in
    ap (λ w. slice_index w 0 == 45) same

dashes_no_name : (word : List ℕ) → is_dashes word ≡ true → is_name word ≡ false
dashes_no_name word e =
    let same : word ≡ codes "--" = (bytes_eq-Decides word (codes "--")).0 e in
    ap is_name same

-- a test that makes another one true is false with it
false_with : (a b : Bool) → (a ≡ true → b ≡ true) → b ≡ false → a ≡ false
false_with true b h e = absurd (let never : true ≡ false = sym (h refl) ∙ e in cc)
false_with false b h e = refl

no_name_there : (word : List ℕ) (c : Bool) → ((slice_index word 0 == 45) && not c) ≡ false → (is_name word && not c) ≡ false
no_name_there word true e = by (is_name word)
  where
    by : (b : Bool) → (b && false) ≡ false
    by true = refl
    by false = refl
no_name_there word false e = by (is_name word) (slice_index word 0 == 45) (is_name_begins word) e
  where
    by : (a b : Bool) → (a ≡ true → b ≡ true) → (b && true) ≡ false → (a && true) ≡ false
    by true true h e = e
    by true false h e = absurd (let never : false ≡ true = h refl in cc)
    by false b h e = refl

-- ---- what a word adds

module _ (words : List (List ℕ)) (n : ℕ) (within : n < length words) where
  behind_more : is_behind words (n + 1) ≡ (is_behind words n || is_dashes (word_at words n))
  unfolding is_behind
  behind_more = list_any_more is_dashes words n [] within

  awaited_more : is_awaited words (n + 1) ≡ (is_name (word_at words n) && not (is_behind words n))
  unfolding is_awaited
  awaited_more = ap (is_awaited words) (add-one n)

  policies_more : policies_before words (n + 1) ≡ policies_before words n ++ option_to_list (policy_at words n)
  unfolding policies_before
  policies_more = found_more (policy_at words) n

  operands_more : operands_before words (n + 1) ≡ operands_before words n ++ cond (is_operand words n) (n ∷ []) []
  unfolding operands_before
  operands_more = filter_more (is_operand words) n

  named_more : (file : List ℕ) → is_named words (n + 1) file ≡ (is_named words n file || option_map_or (bytes_eq file) (file_at words n) false)
  unfolding is_named
  named_more file = any_more (λ k. option_map_or (bytes_eq file) (file_at words k) false) n

  -- by three tests: a value is awaited, and the word is the first `--` or an option
  is_one : (a s o : Bool) → is_awaited words n ≡ a → is_separator words n ≡ s → is_option words n ≡ o → is_operand words n ≡ (not a && not s && not o)
  unfolding is_operand
  is_one a s o g e h =
      let here : nat_lt n (length words) ≡ true = grind (arith, nat_tests) in
      ap (λ b. b && not (is_awaited words n) && not (is_separator words n) && not (is_option words n)) here
      ∙ ap (λ b. not b && not (is_separator words n) && not (is_option words n)) g
      ∙ ap (λ b. not a && not b && not (is_option words n)) e ∙ ap (λ b. not a && not s && not b) h

  file_of_operand : is_operand words n ≡ true → file_at words n ≡ file_in (length (operands_before words n)) (word_at words n)
  unfolding file_at
  file_of_operand e = ap (λ b. cond b (file_in (length (operands_before words n)) (word_at words n)) None) e

  file_of_none : is_operand words n ≡ false → file_at words n ≡ None
  unfolding file_at
  file_of_none e = ap (λ b. cond b (file_in (length (operands_before words n)) (word_at words n)) None) e

  policy_is : (a o : Bool) → is_awaited words n ≡ a → is_option words n ≡ o
      → policy_at words n ≡ cond a (Some (word_at words n)) (cond (o && has_value (word_at words n)) (Some (value_in (word_at words n))) None)
  unfolding policy_at
  policy_is a o g h =
      ap (λ b. cond b (Some (word_at words n)) (cond (is_option words n && has_value (word_at words n)) (Some (value_in (word_at words n))) None)) g
      ∙ ap (λ b. cond a (Some (word_at words n)) (cond (b && has_value (word_at words n)) (Some (value_in (word_at words n))) None)) h

  module _ (names : List (List ℕ)) where
    fault_is : (a o p : Bool) → is_awaited words n ≡ a → is_option words n ≡ o → is_operand words n ≡ p
        → is_at_fault names words n ≡ ((a && not (is_value names (word_at words n)))
        || (o && is_refused names (is_given words n) (word_at words n))
        || (p && is_wrong (is_named words n) (length (operands_before words n)) (word_at words n)))
    unfolding is_at_fault
    fault_is a o p g e h =
        let here : nat_lt n (length words) ≡ true = grind (arith, nat_tests) in
        ap (λ b. (b && is_awaited words n && not (is_value names (word_at words n))) || (is_option words n && is_refused names (is_given words n) (word_at words n)) || (is_operand words n && is_wrong (is_named words n) (length (operands_before words n)) (word_at words n))) here
        ∙ ap (λ b. (b && not (is_value names (word_at words n))) || (is_option words n && is_refused names (is_given words n) (word_at words n)) || (is_operand words n && is_wrong (is_named words n) (length (operands_before words n)) (word_at words n))) g
        ∙ ap (λ b. (a && not (is_value names (word_at words n))) || (b && is_refused names (is_given words n) (word_at words n)) || (is_operand words n && is_wrong (is_named words n) (length (operands_before words n)) (word_at words n))) e
        ∙ ap (λ b. (a && not (is_value names (word_at words n))) || (o && is_refused names (is_given words n) (word_at words n)) || (b && is_wrong (is_named words n) (length (operands_before words n)) (word_at words n))) h

-- ---- what an option says

-- the option stands with its value
abbrev has_said : Said → Bool
has_said said = nat_lt 0 (length (policies_in said))

none_while_awaited : (said : Said) → awaits_value said ≡ true → policies_in said ≡ []
none_while_awaited unsaid e = refl
none_while_awaited awaits e = refl
none_while_awaited (names_it name) e = absurd (let never : false ≡ true = e in cc)

and_nothing : (b : Bool) → (b && true) ≡ b
and_nothing true = refl
and_nothing false = refl

-- a right value does not begin with `-` and is a name
value_right : (names : List (List ℕ)) (value : List ℕ) → is_value names value ≡ true → ((slice_index value 0 == 45) ≡ false) × (is_policy names value ≡ true)
unfolding is_value
value_right names value e =
    let both = and_true (not (slice_index value 0 == 45)) (is_policy names value) e in
    (not_true (slice_index value 0 == 45) both.0, both.1)

known_one : (names : List (List ℕ)) (value : List ℕ) → is_value names value ≡ true → list_all (is_policy names) (value ∷ []) ≡ true
known_one names value e = ap (λ b. b && true) (value_right names value e).1

valued_some : (names : List (List ℕ)) (value : List ℕ) (next : Said) → valued names value ≡ Some next → (is_value names value ≡ true) × (names_it value ≡ next)
unfolding valued
valued_some names value next e = by (is_value names value) e
  where
    by : (b : Bool) → cond b (Some (names_it value)) None ≡ Some next → (b ≡ true) × (names_it value ≡ next)
    by true h = (refl, let same : Some (names_it value) ≡ Some next = h in cc)
    by false h = absurd (let never : None ≡ Some next = h in cc)

valued_none : (names : List (List ℕ)) (value : List ℕ) → valued names value ≡ None → is_value names value ≡ false
unfolding valued
valued_none names value e = by (is_value names value) e
  where
    by : (b : Bool) → cond b (Some (names_it value)) None ≡ None → b ≡ false
    by true h = absurd (let never : Some (names_it value) ≡ None = h in cc)
    by false h = refl

name_no_value : (word : List ℕ) → is_name word ≡ true → has_value word ≡ false
name_no_value word e =
    let same : word ≡ codes "--ports" = (bytes_eq-Decides word (codes "--ports")).0 e in
    ap has_value same

-- what an option that is right adds
record Opted (names : List (List ℕ)) (said next : Said) (word : List ℕ) : Type 0 where
  right : is_refused names (has_said said) word ≡ false
  awaited : awaits_value next ≡ is_name word
  values : policies_in next ≡ policies_in said ++ option_to_list (cond (has_value word) (Some (value_in word)) None)
  known : list_all (is_policy names) (policies_in next) ≡ true

opted_some : (names : List (List ℕ)) (said next : Said) (word : List ℕ) → opted names said word ≡ Some next → Opted names said next word
unfolding opted is_refused
opted_some names awaits next word e = absurd (let never : None ≡ Some next = e in cc)
opted_some names (names_it name) next word e = absurd (let never : None ≡ Some next = e in cc)
opted_some names unsaid next word e = by (is_name word) (has_value word) refl refl e
  where
    by : (m v : Bool) → is_name word ≡ m → has_value word ≡ v → cond m (Some awaits) (cond v (valued names (value_in word)) None) ≡ Some next → Opted names unsaid next word
    by true v p q h =
        let same : awaits ≡ next = (let some : Some awaits ≡ Some next = h in cc) in
        subst (λ s. Opted names unsaid s word) same (record {
          right = ap (λ b. not (b || has_value word && is_value names (value_in word))) p;
          awaited = sym p;
          values = sym (ap (λ b. option_to_list (cond b (Some (value_in word)) None)) (name_no_value word p));
          known = refl;
        })
    by false true p q h =
        let found = valued_some names (value_in word) next h in
        subst (λ s. Opted names unsaid s word) found.1 (record {
          right = ap (λ b. not (b || has_value word && is_value names (value_in word))) p ∙ ap (λ b. not (b && is_value names (value_in word))) q ∙ ap not found.0;
          awaited = sym p;
          values = sym (ap (λ b. option_to_list (cond b (Some (value_in word)) None)) q);
          known = known_one names (value_in word) found.0;
        })
    by false false p q h = absurd (let never : None ≡ Some next = h in cc)

opted_none : (names : List (List ℕ)) (said : Said) (word : List ℕ) → awaits_value said ≡ false → opted names said word ≡ None → is_refused names (has_said said) word ≡ true
unfolding opted is_refused
opted_none names awaits word free e = absurd (let never : true ≡ false = free in cc)
opted_none names (names_it name) word free e = refl
opted_none names unsaid word free e = by (is_name word) (has_value word) refl refl e
  where
    by : (m v : Bool) → is_name word ≡ m → has_value word ≡ v → cond m (Some awaits) (cond v (valued names (value_in word)) None) ≡ None
        → not (is_name word || has_value word && is_value names (value_in word)) ≡ true
    by true v p q h = absurd (let never : Some awaits ≡ None = h in cc)
    by false true p q h =
        ap (λ b. not (b || has_value word && is_value names (value_in word))) p ∙ ap (λ b. not (b && is_value names (value_in word))) q ∙ ap not (valued_none names (value_in word) h)
    by false false p q h = ap (λ b. not (b || has_value word && is_value names (value_in word))) p ∙ ap (λ b. not (b && is_value names (value_in word))) q

-- ---- what is kept

binding_there : (number : ℕ) (word : List ℕ) → is_binding word ≡ true → IsSome (binding_of number word)
unfolding is_binding binding_of
binding_there number word = by (binds_on In word) (binds_on Out word)
  where
    by : (i o : Bool) → (i || o) ≡ true → IsSome (cond i (Some (bound_on In number word)) (cond o (Some (bound_on Out number word)) None))
    by true o e = refl
    by false true e = refl
    by false false e = absurd cc

-- a binding stands from the fourth operand on
binding_right : (place number : ℕ) (word : List ℕ) → is_misplaced place word ≡ false → nat_le 3 place ≡ true → IsSome (binding_of number word)
unfolding is_misplaced
binding_right place number word right late =
    let three : 3 ≤ place = grind (arith, nat_tests) in
    let later : (place == 0) ≡ false = grind (arith, nat_tests) in
    let test : (true && not (is_binding word)) ≡ false =
    ap (λ b. b && not (is_binding word)) (sym late) ∙ sym (ap (λ b. cond b (not (bytes_eq word (codes "run"))) (nat_le 3 place && not (is_binding word))) later) ∙ right in
    binding_there number word (not_false (is_binding word) test)

pub read_none : (names words : List (List ℕ)) (files : List ℕ → Bool) → ((file : List ℕ) → files file ≡ false) → HasRead names words 0 false unsaid [] files []
unfolding is_behind is_awaited policies_before operands_before is_named each
read_none names words files none = record {
  dashes = refl;
  awaited = refl;
  policies = refl;
  known = refl;
  operands = refl;
  named = none;
  bound = refl;
  faultless = λ k less. absurd (omega (arith, less));
}

module _ (names words : List (List ℕ)) (n : ℕ) (behind : Bool) (said : Said) (numbers : List ℕ) (files : List ℕ → Bool) (bindings : List BindingView) (word : List ℕ)
    (read : HasRead names words n behind said numbers files bindings) (within : n < length words) (is : word ≡ word_at words n) where
  abbrev word_kind : Kind → Type 0
  word_kind k = kind_of (awaits_value said) behind word ≡ k

  abbrev begins : Bool
  begins = slice_index (word_at words n) 0 == 45

  -- by the tests of the word itself
  tests : (k : Kind) → word_kind k → tested (is_awaited words n) (is_behind words n) (is_dashes (word_at words n)) begins ≡ k
  tests k e =
      ap (λ b. tested b (is_behind words n) (is_dashes (word_at words n)) begins) (sym read.awaited)
      ∙ ap (λ b. tested (awaits_value said) b (is_dashes (word_at words n)) begins) (sym read.dashes)
      ∙ ap (λ w. tested (awaits_value said) behind (is_dashes w) (slice_index w 0 == 45)) (sym is)
      ∙ sym (kind_tested (awaits_value said) behind word) ∙ e

  one_more : is_at_fault names words n ≡ false → (k : ℕ) → k < n + 1 → is_at_fault names words k ≡ false
  one_more fine k less = elim (cases_lt k n) [
    | inl before ↦ read.faultless k before
    | inr here ↦ (let same : k ≡ n = omega (arith, less, here) in ap (is_at_fault names words) same ∙ fine)
  ]

  -- a word that is no operand
  no_operand : (now : Bool) (next : Said) → is_operand words n ≡ false → now ≡ is_behind words (n + 1) → awaits_value next ≡ is_awaited words (n + 1)
      → policies_in next ≡ policies_before words (n + 1) → list_all (is_policy names) (policies_in next) ≡ true → is_at_fault names words n ≡ false
      → HasRead names words (n + 1) now next numbers files bindings
  no_operand now next none dashes awaited policies known fine = record {
    dashes = dashes;
    awaited = awaited;
    policies = policies;
    known = known;
    operands = read.operands ∙ sym (operands_more words n within ∙ ap (λ b. operands_before words n ++ cond b (n ∷ []) []) none ∙ append-nil (operands_before words n));
    named = λ file. read.named file ∙ sym (named_more words n within file ∙ ap (λ o. is_named words n file || option_map_or (bytes_eq file) o false) (file_of_none words n within none) ∙ or_nothing (is_named words n file));
    bound = read.bound;
    faultless = one_more fine;
  }

  -- ---- the first `--`

  pub read_dashes : word_kind Dashes → HasRead names words (n + 1) true said numbers files bindings
  read_dashes e =
      let kind = dashes_kind (is_awaited words n) (is_behind words n) (is_dashes (word_at words n)) begins (tests Dashes e) in
      let separator : is_separator words n ≡ true =
      ap (λ b. is_dashes (word_at words n) && not (is_behind words n) && not b) kind.0 ∙ ap (λ b. is_dashes (word_at words n) && not b && true) kind.1 ∙ ap (λ b. b && true && true) kind.2 in
      let option : is_option words n ≡ false = no_option (is_awaited words n) (is_behind words n) (is_dashes (word_at words n)) begins kind.2 in
      let none : is_operand words n ≡ false = is_one words n within false true false kind.0 separator option in
      let policy : policy_at words n ≡ None = policy_is words n within false false kind.0 option in
      no_operand true said none
      (sym (behind_more words n within ∙ ap (λ b. b || is_dashes (word_at words n)) kind.1 ∙ kind.2))
      (read.awaited ∙ kind.0 ∙ sym (awaited_more words n within ∙ ap (λ b. b && not (is_behind words n)) (dashes_no_name (word_at words n) kind.2)))
      (read.policies ∙ sym (policies_more words n within ∙ ap (λ o. policies_before words n ++ option_to_list o) policy ∙ append-nil (policies_before words n)))
      read.known
      (fault_is words n within names false false false kind.0 option none)
    where
      no_option : (a c d x : Bool) → d ≡ true → (x && not d && not c && not a) ≡ false
      no_option a c true true h = refl
      no_option a c true false h = refl
      no_option a c false x h = absurd cc

  -- ---- a value

  module _ (e : word_kind Value) where
    awaited_here : is_awaited words n ≡ true
    awaited_here = value_kind (is_awaited words n) (is_behind words n) (is_dashes (word_at words n)) begins (tests Value e)

    no_separator_here : is_separator words n ≡ false
    no_separator_here = ap (λ b. (is_dashes (word_at words n) && not (is_behind words n)) && not b) awaited_here ∙ false_behind (is_dashes (word_at words n) && not (is_behind words n))

    no_option_here : is_option words n ≡ false
    no_option_here =
        ap (λ b. (begins && not (is_dashes (word_at words n)) && not (is_behind words n)) && not b) awaited_here ∙ false_behind (begins && not (is_dashes (word_at words n)) && not (is_behind words n))

    none_here : is_operand words n ≡ false
    none_here = is_one words n within true false false awaited_here no_separator_here no_option_here

    value_fault : (v : Bool) → is_value names (word_at words n) ≡ v → is_at_fault names words n ≡ (true && not v)
    value_fault v h =
        fault_is words n within names true false false awaited_here no_option_here none_here
        ∙ ap (λ b. (true && not b) || false || false) h ∙ or_nothing ((true && not v) || false) ∙ or_nothing (true && not v)

    pub read_value : (next : Said) → valued names word ≡ Some next → HasRead names words (n + 1) behind next numbers files bindings
    read_value next made =
        let found = valued_some names word next made in
        let right : is_value names (word_at words n) ≡ true = ap (is_value names) (sym is) ∙ found.0 in
        let plain : begins ≡ false = (value_right names (word_at words n) right).0 in
        let no_dashes : is_dashes (word_at words n) ≡ false = false_with (is_dashes (word_at words n)) begins (is_dashes_begins (word_at words n)) plain in
        let no_name : is_name (word_at words n) ≡ false = false_with (is_name (word_at words n)) begins (is_name_begins (word_at words n)) plain in
        let before : policies_before words n ≡ [] = sym read.policies ∙ none_while_awaited said (read.awaited ∙ awaited_here) in
        let policy : policy_at words n ≡ Some (word_at words n) = policy_is words n within true false awaited_here no_option_here in
        no_operand behind next none_here
        (read.dashes ∙ sym (behind_more words n within ∙ ap (λ b. is_behind words n || b) no_dashes ∙ or_nothing (is_behind words n)))
        (ap awaits_value (sym found.1) ∙ sym (awaited_more words n within ∙ ap (λ b. b && not (is_behind words n)) no_name))
        (ap policies_in (sym found.1) ∙ ap (λ w. w ∷ []) is
        ∙ sym (policies_more words n within ∙ ap (λ l. l ++ option_to_list (policy_at words n)) before ∙ ap option_to_list policy))
        (ap (λ s. list_all (is_policy names) (policies_in s)) (sym found.1) ∙ known_one names word found.0)
        (value_fault true right)

    pub value_at_fault : valued names word ≡ None → IsFirstAtFault names words n
    value_at_fault none = record { fault = inl (value_fault false (ap (is_value names) (sym is) ∙ valued_none names word none)); first = read.faultless }

  -- ---- an option

  module _ (e : word_kind Optional) where
    kind_here : (is_awaited words n ≡ false) × (is_behind words n ≡ false) × (is_dashes (word_at words n) ≡ false) × (begins ≡ true)
    kind_here = option_kind (is_awaited words n) (is_behind words n) (is_dashes (word_at words n)) begins (tests Optional e)

    no_separator : is_separator words n ≡ false
    no_separator = ap (λ b. (b && not (is_behind words n)) && not (is_awaited words n)) kind_here.2

    an_option : is_option words n ≡ true
    an_option =
        ap (λ b. begins && not (is_dashes (word_at words n)) && not (is_behind words n) && not b) kind_here.0
        ∙ ap (λ b. begins && not (is_dashes (word_at words n)) && not b && true) kind_here.1
        ∙ ap (λ b. begins && not b && true && true) kind_here.2
        ∙ ap (λ b. b && true && true && true) kind_here.3

    no_operand_here : is_operand words n ≡ false
    no_operand_here = is_one words n within false false true kind_here.0 no_separator an_option

    option_fault : (r : Bool) → is_refused names (has_said said) word ≡ r → is_at_fault names words n ≡ r
    option_fault r h =
        fault_is words n within names false true false kind_here.0 an_option no_operand_here
        ∙ ap (λ b. (false || (true && b)) || false) (ap (is_refused names (is_given words n)) (sym is) ∙ ap (λ l. is_refused names (nat_lt 0 (length l)) word) (sym read.policies) ∙ h)
        ∙ or_nothing r

    pub read_option : (next : Said) → opted names said word ≡ Some next → HasRead names words (n + 1) behind next numbers files bindings
    read_option next made =
        let found = opted_some names said next word made in
        let policy : policy_at words n ≡ cond (has_value (word_at words n)) (Some (value_in (word_at words n))) None = policy_is words n within false true kind_here.0 an_option in
        no_operand behind next no_operand_here
        (read.dashes ∙ sym (behind_more words n within ∙ ap (λ b. is_behind words n || b) kind_here.2 ∙ or_nothing (is_behind words n)))
        (found.awaited ∙ ap is_name is
        ∙ sym (awaited_more words n within ∙ ap (λ b. is_name (word_at words n) && not b) kind_here.1 ∙ and_nothing (is_name (word_at words n))))
        (found.values ∙ ap (λ l. l ++ option_to_list (cond (has_value word) (Some (value_in word)) None)) read.policies
        ∙ ap (λ w. policies_before words n ++ option_to_list (cond (has_value w) (Some (value_in w)) None)) is
        ∙ sym (policies_more words n within ∙ ap (λ o. policies_before words n ++ option_to_list o) policy))
        found.known
        (option_fault false found.right)

    pub option_at_fault : opted names said word ≡ None → IsFirstAtFault names words n
    option_at_fault none = record {
      fault = inl (option_fault true (opted_none names said word (read.awaited ∙ kind_here.0) none));
      first = read.faultless;
    }

  -- ---- an operand

  module _ (e : word_kind Operand) where
    abbrev wrong : Bool
    wrong = is_wrong files (length numbers) word

    kind : (is_awaited words n ≡ false) × (is_separator words n ≡ false) × (is_option words n ≡ false) × ((is_behind words n || is_dashes (word_at words n)) ≡ is_behind words n)
        × ((begins && not (is_behind words n)) ≡ false)
    kind = operand_kind (is_awaited words n) (is_behind words n) (is_dashes (word_at words n)) begins (tests Operand e)

    one : is_operand words n ≡ true
    one = is_one words n within false false false kind.0 kind.1 kind.2

    same_wrong : wrong ≡ is_wrong (is_named words n) (length (operands_before words n)) (word_at words n)
    same_wrong =
        let named : files ≡ is_named words n = λ i file. read.named file i in
        ap (λ f. is_wrong f (length numbers) word) named
        ∙ ap (λ l. is_wrong (is_named words n) (length l) word) read.operands
        ∙ ap (is_wrong (is_named words n) (length (operands_before words n))) is

    fault_wrong : is_at_fault names words n ≡ wrong
    fault_wrong = fault_is words n within names false false true kind.0 kind.2 one ∙ sym same_wrong

    pub wrong_at_fault : wrong ≡ true → IsFirstAtFault names words n
    wrong_at_fault w = record { fault = inl (fault_wrong ∙ w); first = read.faultless }

    pub read_operand : (more : List ℕ) (others : List ℕ → Bool) (bound : List BindingView) → wrong ≡ false → more ≡ numbers ++ n ∷ []
        → ((file : List ℕ) → others file ≡ (files file || option_map_or (bytes_eq file) (file_in (length numbers) word) false))
        → bound ≡ bindings ++ bound_at (length numbers) n word → HasRead names words (n + 1) behind said more others bound
    unfolding is_wrong bound_at
    read_operand more others bound right pushed noted added =
        let placed : is_misplaced (length numbers) word ≡ false = (or_false (is_misplaced (length numbers) word) (option_map_or (is_barred files) (file_in (length numbers) word) false) right).0 in
        let file_is : file_in (length numbers) word ≡ file_at words n =
        ap (file_in (length numbers)) is ∙ ap (λ l. file_in (length l) (word_at words n)) read.operands ∙ sym (file_of_operand words n within one) in
        let binding_is : binding_of n word ≡ binding_of n (word_at words n) = ap (binding_of n) is in
        let policy : policy_at words n ≡ None = policy_is words n within false false kind.0 kind.2 in
        record {
          dashes = read.dashes ∙ sym (behind_more words n within ∙ kind.3);
          awaited = read.awaited ∙ kind.0 ∙ sym (awaited_more words n within ∙ no_name_there (word_at words n) (is_behind words n) kind.4);
          policies = read.policies ∙ sym (policies_more words n within ∙ ap (λ o. policies_before words n ++ option_to_list o) policy ∙ append-nil (policies_before words n));
          known = read.known;
          operands = pushed ∙ ap (λ l. l ++ n ∷ []) read.operands ∙ sym (operands_more words n within ∙ ap (λ b. operands_before words n ++ cond b (n ∷ []) []) one);
          named = λ file. noted file ∙ ap (λ b. b || option_map_or (bytes_eq file) (file_in (length numbers) word) false) (read.named file)
              ∙ ap (λ o. is_named words n file || option_map_or (bytes_eq file) o false) file_is ∙ sym (named_more words n within file);
          bound = ap (λ l. each (λ k. binding_of k (word_at words k)) (drop 3 l)) pushed
              ∙ each_behind (λ k. binding_of k (word_at words k)) numbers bindings n read.bound (λ late. subst IsSome binding_is (binding_right (length numbers) n word placed late))
              ∙ sym (ap Some (added ∙ ap (λ o. bindings ++ cond (nat_le 3 (length numbers)) (option_to_list o) []) binding_is));
          faultless = one_more (fault_wrong ∙ right);
        }
