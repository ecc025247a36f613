-- All words are read.
use Rattle.std.proofs.Common.{◌≡◌, ◌∙◌, refl, sym, ap, subst, inl, inr, ℕ, zero, suc, cond, ◌+◌, ◌<◌, ◌≤◌, ◌==◌, Bool, true, false, ◌&&◌, ◌||◌, not, nat_lt, List, [], ◌∷◌, length, drop, get_or, slice_index, filter, arith}
use Rattle.std.specs.Prelude.{Some, None, option_map, slice_index_or}
use Rattle.std.specs.List.{list_all, range_with_len}
use Rattle.std.proofs.lemmas.Bool.{cases_lt}
use Rattle.std.proofs.lemmas.Bool.Decides.{nat_tests}
use Rattle.std.proofs.lemmas.List.{get_or_past}
use Rattle.mt_lists.proofs.Bools.{chosen, and_first}
use Rattle.mt_lists.specs.Options.{each}
use Rattle.mt_command.specs.Parts.{BindingView, RunView}
use Rattle.mt_command.specs.Bindings.{binding_of}
use Rattle.mt_command.specs.Policies.{default_policy, is_policy, is_value, is_refused}
use Rattle.mt_command.specs.Words.{word_at, is_dashes, is_behind, is_awaited, is_separator, is_option, is_operand, is_given, policy_of, operands_before, is_named, is_wrong, is_at_fault, is_cut_short}
use Rattle.mt_command.specs.Command.{run_of, IsCommand}
use Rattle.mt_command.specs.Reading.{Said, unsaid, awaits, names_it, awaits_value, policies_in, policy_in, HasRead}

-- no word is at fault past the last
pub fine_past : (names words : List (List ℕ)) (n : ℕ) → length words ≤ n → is_at_fault names words n ≡ false
unfolding is_at_fault is_operand
fine_past names words n past =
    let none : word_at words n ≡ [] = get_or_past words n [] past in
    let over : nat_lt n (length words) ≡ false = grind (arith, nat_tests) in
    ap (λ b. (b && is_awaited words n && not (is_value names (word_at words n))) || (is_option words n && is_refused names (is_given words n) (word_at words n)) || (is_operand words n && is_wrong (is_named words n) (length (operands_before words n)) (word_at words n))) over
    ∙ ap (λ w. ((slice_index w 0 == 45 && not (is_dashes w) && not (is_behind words n) && not (is_awaited words n)) && is_refused names (is_given words n) (word_at words n)) || (is_operand words n && is_wrong (is_named words n) (length (operands_before words n)) (word_at words n))) none
    ∙ ap (λ b. (b && not (is_awaited words n) && not (is_separator words n) && not (is_option words n)) && is_wrong (is_named words n) (length (operands_before words n)) (word_at words n)) over

-- ---- numbers of words

kept_below : (test : ℕ → Bool) (a n limit : ℕ) → a + n ≤ limit → (k d : ℕ) → k < length (filter test (range_with_len a n)) → get_or (filter test (range_with_len a n)) k d < limit
kept_below test a zero limit within k d less = absurd (omega (arith, less))
kept_below test a (suc n) limit within k d less = by (test a) (kept_below test (a + 1) n limit (omega (arith, within))) k less
  where
    by : (b : Bool) → ((k d : ℕ) → k < length (filter test (range_with_len (a + 1) n)) → get_or (filter test (range_with_len (a + 1) n)) k d < limit) → (k : ℕ)
        → k < length (cond b (a ∷ filter test (range_with_len (a + 1) n)) (filter test (range_with_len (a + 1) n)))
        → get_or (cond b (a ∷ filter test (range_with_len (a + 1) n)) (filter test (range_with_len (a + 1) n))) k d < limit
    by true later zero less = omega (arith, within)
    by true later (suc k) less = later k d (omega (arith, less))
    by false later k less = later k d less

pub operand_below : (words : List (List ℕ)) (n : ℕ) (numbers : List ℕ) → n ≤ length words → numbers ≡ operands_before words n → (k : ℕ) → k < length numbers → get_or numbers k 0 < length words
unfolding operands_before
operand_below words n numbers within is k less =
    let inside : k < length (operands_before words n) = (let same = ap length is in omega (arith, less, same)) in
    let h = kept_below (is_operand words) 0 n (length words) (omega (arith, within)) k 0 inside in
    let same = ap (λ l. get_or l k 0) is in
    omega (arith, h, same)

-- ---- the policy

-- a policy is there at the end
policy_there : (names : List (List ℕ)) (said : Said) (policy : List ℕ) → list_all (is_policy names) (policies_in said) ≡ true → policy_in names said ≡ Some policy
    → (awaits_value said ≡ false) × (slice_index_or (policies_in said) 0 default_policy ≡ policy) × (is_policy names policy ≡ true)
unfolding policy_in
policy_there names unsaid policy known e = elim (chosen (is_policy names default_policy) (Some default_policy) None (Some policy) e) [
  | inl there ↦ (let same : default_policy ≡ policy = (let some : Some default_policy ≡ Some policy = there.1 in cc) in (refl, same, ap (is_policy names) (sym same) ∙ there.0))
  | inr none ↦ absurd (let never : None ≡ Some policy = none.1 in cc)
]
policy_there names awaits policy known e = absurd (let never : None ≡ Some policy = e in cc)
policy_there names (names_it name) policy known e =
    let same : name ≡ policy = (let some : Some name ≡ Some policy = e in cc) in
    (refl, same, ap (is_policy names) (sym same) ∙ and_first (is_policy names name) true known)

-- none is there: a value is awaited, or the default has no policy
policy_missing : (names : List (List ℕ)) (said : Said) → policy_in names said ≡ None → (awaits_value said || not (is_policy names (slice_index_or (policies_in said) 0 default_policy))) ≡ true
unfolding policy_in
policy_missing names unsaid e = elim (chosen (is_policy names default_policy) (Some default_policy) None None e) [
  | inl there ↦ absurd (let never : Some default_policy ≡ None = there.1 in cc)
  | inr none ↦ ap not none.0
]
policy_missing names awaits e = refl
policy_missing names (names_it name) e = absurd (let never : Some name ≡ None = e in cc)

-- ---- what the words say

said_of : (words : List (List ℕ)) (numbers : List ℕ) (bindings : List BindingView) → 3 ≤ length numbers → each (λ k. binding_of k (word_at words k)) (drop 3 numbers) ≡ Some bindings
    → run_of words numbers ≡ Some (record { chain = word_at words (get_or numbers 1 0); script = word_at words (get_or numbers 2 0); bindings = bindings; ports = policy_of words })
said_of words [] bindings many is = absurd (omega (arith, many))
said_of words (a ∷ []) bindings many is = absurd (omega (arith, many))
said_of words (a ∷ b ∷ []) bindings many is = absurd (omega (arith, many))
said_of words (a ∷ b ∷ c ∷ rest) bindings many is =
    ap (option_map (λ (bindings : List BindingView). record { chain = word_at words b; script = word_at words c; bindings = bindings; ports = policy_of words })) is

later_true : (a b c : Bool) → (b || c) ≡ true → (a || b || c) ≡ true
later_true true b c e = refl
later_true false b c e = e

module _ (names words : List (List ℕ)) (n : ℕ) (behind : Bool) (said : Said) (numbers : List ℕ) (files : List ℕ → Bool) (bindings : List BindingView)
    (all : n ≡ length words) (read_so_far : HasRead names words n behind said numbers files bindings) where
  read : HasRead names words (length words) behind said numbers files bindings
  read = subst (λ k. HasRead names words k behind said numbers files bindings) all read_so_far

  same_policy : slice_index_or (policies_in said) 0 default_policy ≡ policy_of words
  same_policy = ap (λ l. slice_index_or l 0 default_policy) read.policies

  cut_is : is_cut_short names words ≡ (nat_lt (length numbers) 3 || awaits_value said || not (is_policy names (slice_index_or (policies_in said) 0 default_policy)))
  unfolding is_cut_short
  cut_is =
      ap (λ l. nat_lt (length l) 3 || is_awaited words (length words) || not (is_policy names (policy_of words))) (sym read.operands)
      ∙ ap (λ b. nat_lt (length numbers) 3 || b || not (is_policy names (policy_of words))) (sym read.awaited)
      ∙ ap (λ p. nat_lt (length numbers) 3 || awaits_value said || not (is_policy names p)) (sym same_policy)

  pub few_operands : length numbers < 3 → is_cut_short names words ≡ true
  few_operands few =
      let low : nat_lt (length numbers) 3 ≡ true = grind (arith, nat_tests) in
      cut_is ∙ ap (λ b. b || awaits_value said || not (is_policy names (slice_index_or (policies_in said) 0 default_policy))) low

  pub no_policy : policy_in names said ≡ None → is_cut_short names words ≡ true
  no_policy none =
      cut_is ∙ later_true (nat_lt (length numbers) 3) (awaits_value said) (not (is_policy names (slice_index_or (policies_in said) 0 default_policy))) (policy_missing names said none)

  pub command_read : (run : RunView) → 3 ≤ length numbers → policy_in names said ≡ Some run.ports
      → run.chain ≡ word_at words (get_or numbers 1 0) → run.script ≡ word_at words (get_or numbers 2 0) → run.bindings ≡ bindings → IsCommand names words run
  command_read run many policy chain script bound =
      let there = policy_there names said run.ports read.known policy in
      let enough : nat_lt (length numbers) 3 ≡ false = grind (arith, nat_tests) in
      record {
        faultless = λ k. elim (cases_lt k (length words)) [
          | inl inside ↦ read.faultless k inside
          | inr past ↦ fine_past names words k past
        ];
        complete = cut_is
            ∙ ap (λ b. b || awaits_value said || not (is_policy names (slice_index_or (policies_in said) 0 default_policy))) enough
            ∙ ap (λ b. b || not (is_policy names (slice_index_or (policies_in said) 0 default_policy))) there.0
            ∙ ap (λ p. not (is_policy names p)) there.1 ∙ ap not there.2;
        says =
            ap (run_of words) (sym read.operands)
            ∙ said_of words numbers bindings many read.bound
            ∙ made _ _ _ _ run (sym chain) (sym script) (sym bound) (sym same_policy ∙ there.1);
      }
    where
      made : (a b : List ℕ) (bs : List BindingView) (p : List ℕ) (r : RunView) → a ≡ r.chain → b ≡ r.script → bs ≡ r.bindings → p ≡ r.ports
          → Some (record { chain = a; script = b; bindings = bs; ports = p }) ≡ Some r
      made a b bs p r e f g h = ap Some (λ i. record { chain = e i; script = f i; bindings = g i; ports = h i })
