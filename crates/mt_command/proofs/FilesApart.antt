-- The files of a command all differ, and none is `-`.
use Rattle.std.proofs.Common.{◌≡◌, ◌≢◌, ◌∙◌, refl, sym, ap, subst, inl, inr, ℕ, zero, suc, ◌+◌, ◌<◌, ◌≤◌, ◌==◌, Bool, true, false, ◌&&◌, ◌||◌, cond, nat_lt, List, [], ◌∷◌, ◌++◌, length, map, filter, All, AllPairs, Contains, add-one, append_assoc, arith}
use Rattle.std.specs.Prelude.{Some, None, Option, option_map, option_and_then, codes}
use Rattle.std.specs.List.{list_any, filter_map, cons_option}
use Rattle.std.specs.Option.{option_map_or, option_to_list}
use Rattle.std.specs.Str.{bytes_eq}
use Rattle.std.proofs.lemmas.Bool.Decides.{nat_tests}
use Rattle.std.proofs.lemmas.List.{append-nil}
use Rattle.std.proofs.lemmas.List.Elements.{All-nil, All-cons}
use Rattle.std.proofs.lemmas.Slice.Eq.{bytes_eq-Decides}
use Rattle.mt_lists.proofs.Bools.{chosen, or_false}
use Rattle.mt_lists.proofs.Members.{cases_in, none_in}
use Rattle.mt_lists.proofs.Pairs.{no_pairs, one_first, pairs_both}
use Rattle.mt_lists.specs.Options.{each}
use Rattle.mt_command.specs.declared.binding.Side.TheVariants.{In, Out}
use Rattle.mt_command.specs.Apart.{AreApart, files_of}
use Rattle.mt_command.specs.Bindings.{binds_on, is_binding, binding_of, bound_on, bound_file}
use Rattle.mt_command.specs.Command.{run_of, IsCommand}
use Rattle.mt_command.specs.Parts.{BindingView, RunView}
use Rattle.mt_command.specs.Words.{word_at, below, is_option, is_operand, operands_before, is_misplaced, file_in, file_at, is_named, is_barred, is_wrong, is_given, is_unknown, policy_of, is_at_fault}
use Rattle.mt_command.specs.Policies.{is_refused}
use Rattle.mt_command.proofs.Lists.{filter_more, found_more}

-- ---- the files that words name, in their order

abbrev named_before : List (List ℕ) → ℕ → List (List ℕ)
named_before words n = filter_map (file_at words) (below n)

named_more : (words : List (List ℕ)) (n : ℕ) → named_before words (suc n) ≡ named_before words n ++ option_to_list (file_at words n)
named_more words n =
    ap (named_before words) (sym (add-one n)) ∙ found_more (file_at words) n

any_found : (find : ℕ → Option (List ℕ)) (test : List ℕ → Bool) (ks : List ℕ) → list_any (λ k. option_map_or test (find k) false) ks ≡ list_any test (filter_map find ks)
any_found find test [] = refl
any_found find test (k ∷ ks) = by (find k) (any_found find test ks)
  where
    by : (o : Option (List ℕ)) → list_any (λ k. option_map_or test (find k) false) ks ≡ list_any test (filter_map find ks)
        → (option_map_or test o false || list_any (λ k. option_map_or test (find k) false) ks) ≡ list_any test (cons_option o (filter_map find ks))
    by None later = later
    by (Some file) later = ap (λ b. test file || b) later

named_among : (words : List (List ℕ)) (n : ℕ) (file : List ℕ) → is_named words n file ≡ list_any (bytes_eq file) (named_before words n)
unfolding is_named
named_among words n file = any_found (file_at words) (bytes_eq file) (below n)

-- ---- they are apart while no word is at fault

not_equal : (file other : List ℕ) → bytes_eq file other ≡ false → other ≢ file
not_equal file other e same = let never : false ≡ true = sym e ∙ (bytes_eq-Decides file other).1 (sym same) in cc

none_equal : (file : List ℕ) (files : List (List ℕ)) → list_any (bytes_eq file) files ≡ false → (other : List ℕ) → Contains files other → other ≢ file
none_equal file [] e other c = none_in other c
none_equal file (x ∷ xs) e other c =
    let both = or_false (bytes_eq file x) (list_any (bytes_eq file) xs) e in
    elim (cases_in x xs other c) [
      | inl first ↦ subst (λ y. y ≢ file) first (not_equal file x both.0)
      | inr later ↦ none_equal file xs both.1 other later
    ]

-- the file of a word that is not at fault
pub fresh : (names words : List (List ℕ)) (n : ℕ) (file : List ℕ) → is_at_fault names words n ≡ false → file_at words n ≡ Some file → is_barred (is_named words n) file ≡ false
unfolding is_at_fault is_wrong file_at
fresh names words n file fine is =
    elim (chosen (is_operand words n) (file_in (length (operands_before words n)) (word_at words n)) None (Some file) is) [
      | inl there ↦
          let right = or_false (is_unknown names words n || is_option words n && is_refused names (is_given words n) (word_at words n)) (is_operand words n && is_wrong (is_named words n) (length (operands_before words n)) (word_at words n)) fine in
          let wrong : is_wrong (is_named words n) (length (operands_before words n)) (word_at words n) ≡ false =
          ap (λ b. b && is_wrong (is_named words n) (length (operands_before words n)) (word_at words n)) (sym there.0) ∙ right.1 in
          let free = or_false (is_misplaced (length (operands_before words n)) (word_at words n)) (option_map_or (is_barred (is_named words n)) (file_in (length (operands_before words n)) (word_at words n)) false) wrong in
          ap (λ o. option_map_or (is_barred (is_named words n)) o false) (sym there.1) ∙ free.1
      | inr none ↦ absurd (let never : None ≡ Some file = none.1 in cc)
    ]

abbrev pub AllApart : List (List ℕ) → Type 0
AllApart files = AllPairs (λ file other. file ≢ other) files × All (λ file. file ≢ codes "-") files

one_apart : (files : List (List ℕ)) (file : List ℕ) → AllApart files → bytes_eq file (codes "-") ≡ false → list_any (bytes_eq file) files ≡ false → AllApart (files ++ file ∷ [])
one_apart files file apart dash new = (
  pairs_both (λ file other. file ≢ other) files (file ∷ []) apart.0
      (one_first (λ file other. file ≢ other) file [] (λ other c. none_in other c) (no_pairs (λ file other. file ≢ other)))
      (λ x y first second. elim (cases_in file [] y second) [
        | inl same ↦ subst (λ z. x ≢ z) same (none_equal file files new x first)
        | inr none ↦ none_in y none
      ]),
  and_one files apart.1,
)
  where
    and_one : (xs : List (List ℕ)) → All (λ file. file ≢ codes "-") xs → All (λ file. file ≢ codes "-") (xs ++ file ∷ [])
    and_one [] none = All-cons (λ file. file ≢ codes "-") file [] (λ same. not_equal file (codes "-") dash (sym same)) (All-nil (λ file. file ≢ codes "-"))
    and_one (x ∷ xs) all = All-cons (λ file. file ≢ codes "-") x (xs ++ file ∷ []) (all 0 x (omega arith)) (and_one xs (λ k d less. all (suc k) d (omega (arith, less))))

pub apart_before : (names words : List (List ℕ)) (n : ℕ) → ((k : ℕ) → k < n → is_at_fault names words k ≡ false) → AllApart (named_before words n)
apart_before names words zero fine = (no_pairs (λ file other. file ≢ other), All-nil (λ file. file ≢ codes "-"))
apart_before names words (suc n) fine =
    subst AllApart (sym (named_more words n)) (by (file_at words n) refl (apart_before names words n (λ k less. fine k (omega (arith, less)))))
  where
    by : (o : Option (List ℕ)) → file_at words n ≡ o → AllApart (named_before words n) → AllApart (named_before words n ++ option_to_list o)
    by None is apart = subst AllApart (sym (append-nil (named_before words n))) apart
    by (Some file) is apart =
        let free = or_false (bytes_eq file (codes "-")) (is_named words n file) (fresh names words n file (fine n (omega arith)) is) in
        one_apart (named_before words n) file apart free.0 (sym (named_among words n file) ∙ free.1)

-- ---- and are those of the command

abbrev files_from : List (List ℕ) → ℕ → List ℕ → List (List ℕ)
files_from words place [] = []
files_from words place (k ∷ ks) = option_to_list (file_in place (word_at words k)) ++ files_from words (place + 1) ks

files_push : (words : List (List ℕ)) (place : ℕ) (ks : List ℕ) (k : ℕ) → files_from words place (ks ++ k ∷ []) ≡ files_from words place ks ++ option_to_list (file_in (place + length ks) (word_at words k))
files_push words place [] k =
    let here : place ≡ place + 0 = omega arith in
    append-nil (option_to_list (file_in place (word_at words k))) ∙ ap (λ p. option_to_list (file_in p (word_at words k))) here
files_push words place (x ∷ ks) k =
    let on : place + 1 + length ks ≡ place + length (x ∷ ks) = omega arith in
    ap (λ l. option_to_list (file_in place (word_at words x)) ++ l) (files_push words (place + 1) ks k ∙ ap (λ p. files_from words (place + 1) ks ++ option_to_list (file_in p (word_at words k))) on)
    ∙ sym (append_assoc (option_to_list (file_in place (word_at words x))) (files_from words (place + 1) ks) (option_to_list (file_in (place + length (x ∷ ks)) (word_at words k))))

operands_more : (words : List (List ℕ)) (n : ℕ) → operands_before words (suc n) ≡ operands_before words n ++ cond (is_operand words n) (n ∷ []) []
unfolding operands_before
operands_more words n = ap (λ k. filter (is_operand words) (below k)) (sym (add-one n)) ∙ filter_more (is_operand words) n

named_is : (words : List (List ℕ)) (n : ℕ) → named_before words n ≡ files_from words 0 (operands_before words n)
unfolding operands_before file_at
named_is words zero = refl
named_is words (suc n) =
    named_more words n ∙ ap (λ l. l ++ option_to_list (file_at words n)) (named_is words n)
    ∙ by (is_operand words n)
    ∙ sym (ap (files_from words 0) (operands_more words n))
  where
    by : (b : Bool) → files_from words 0 (operands_before words n) ++ option_to_list (cond b (file_in (length (operands_before words n)) (word_at words n)) None)
        ≡ files_from words 0 (operands_before words n ++ cond b (n ∷ []) [])
    by true =
        let none : length (operands_before words n) ≡ 0 + length (operands_before words n) = omega arith in
        ap (λ p. files_from words 0 (operands_before words n) ++ option_to_list (file_in p (word_at words n))) none ∙ sym (files_push words 0 (operands_before words n) n)
    by false = append-nil (files_from words 0 (operands_before words n)) ∙ ap (files_from words 0) (sym (append-nil (operands_before words n)))

-- a binding names its file
file_bound : (place number : ℕ) (word : List ℕ) (b : BindingView) → 3 ≤ place → binding_of number word ≡ Some b → file_in place word ≡ Some b.file
unfolding file_in is_binding binding_of
file_bound place number word b late e =
    let later : (place == 0) ≡ false = grind (arith, nat_tests) in
    let past : nat_lt place 3 ≡ false = grind (arith, nat_tests) in
    ap (λ t. cond t None (cond (nat_lt place 3) (Some word) (cond (is_binding word) (Some (bound_file word)) None))) later
    ∙ ap (λ t. cond t (Some word) (cond (is_binding word) (Some (bound_file word)) None)) past
    ∙ by (binds_on In word) (binds_on Out word) e
  where
    by : (i o : Bool) → cond i (Some (bound_on In number word)) (cond o (Some (bound_on Out number word)) None) ≡ Some b → cond (i || o) (Some (bound_file word)) None ≡ Some b.file
    by true o is = ap (option_map (λ (v : BindingView). v.file)) is
    by false true is = ap (option_map (λ (v : BindingView). v.file)) is
    by false false is = absurd (let never : None ≡ Some b = is in cc)

files_bound : (words : List (List ℕ)) (place : ℕ) (ks : List ℕ) (bindings : List BindingView) → 3 ≤ place → each (λ k. binding_of k (word_at words k)) ks ≡ Some bindings
    → files_from words place ks ≡ map (λ (b : BindingView). b.file) bindings
unfolding each
files_bound words place [] bindings late e = let none : [] ≡ bindings = cc in ap (map (λ (b : BindingView). b.file)) none
files_bound words place (k ∷ ks) bindings late e =
    by (binding_of k (word_at words k)) (each (λ k. binding_of k (word_at words k)) ks) refl (λ bs is. files_bound words (place + 1) ks bs (omega (arith, late)) is) e
  where
    by : (o : Option BindingView) (rest : Option (List BindingView)) → binding_of k (word_at words k) ≡ o
        → ((bs : List BindingView) → rest ≡ Some bs → files_from words (place + 1) ks ≡ map (λ (b : BindingView). b.file) bs)
        → option_and_then (λ y. option_map (λ more. y ∷ more) rest) o ≡ Some bindings
        → option_to_list (file_in place (word_at words k)) ++ files_from words (place + 1) ks ≡ map (λ (b : BindingView). b.file) bindings
    by None rest is later q = absurd (let never : None ≡ Some bindings = q in cc)
    by (Some b) None is later q = absurd (let never : None ≡ Some bindings = q in cc)
    by (Some b) (Some bs) is later q =
        let all : b ∷ bs ≡ bindings = cc in
        ap (λ o. option_to_list o ++ files_from words (place + 1) ks) (file_bound place k (word_at words k) b late is)
        ∙ ap (λ l. b.file ∷ l) (later bs refl) ∙ ap (map (λ (v : BindingView). v.file)) all

files_said : (words : List (List ℕ)) (ks : List ℕ) (run : RunView) → run_of words ks ≡ Some run → files_from words 0 ks ≡ files_of run
unfolding file_in
files_said words [] run e = absurd (let never : None ≡ Some run = e in cc)
files_said words (a ∷ []) run e = absurd (let never : None ≡ Some run = e in cc)
files_said words (a ∷ b ∷ []) run e = absurd (let never : None ≡ Some run = e in cc)
files_said words (a ∷ b ∷ c ∷ ks) run e = by (each (λ k. binding_of k (word_at words k)) ks) refl e
  where
    by : (o : Option (List BindingView)) → each (λ k. binding_of k (word_at words k)) ks ≡ o
        → option_map (λ (bs : List BindingView). record { chain = word_at words b; script = word_at words c; bindings = bs; ports = policy_of words }) o ≡ Some run
        → word_at words b ∷ word_at words c ∷ files_from words 3 ks ≡ files_of run
    by None is q = absurd (let never : None ≡ Some run = q in cc)
    by (Some bs) is q =
        let all : record { chain = word_at words b; script = word_at words c; bindings = bs; ports = policy_of words } ≡ run = cc in
        ap (λ l. word_at words b ∷ word_at words c ∷ l) (files_bound words 3 ks bs (omega arith) is) ∙ ap files_of all

pub files_apart : (names words : List (List ℕ)) (run : RunView) → IsCommand names words run → AreApart run
files_apart names words run c =
    let apart = subst AllApart (named_is words (length words) ∙ files_said words (operands_before words (length words)) run c.says) (apart_before names words (length words) (λ k less. c.faultless k)) in
    record { differ = apart.0; named = apart.1 }
