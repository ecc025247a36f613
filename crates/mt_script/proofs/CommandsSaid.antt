-- The numbers of every command that is read are in range.
use Rattle.std.proofs.Common.{◌≡◌, ◌∙◌, ap, subst, refl, ℕ, zero, suc, ◌<◌, ◌≤◌, ◌↔◌, inl, inr, Bool, leb, ltb, eqb, List, [], ◌∷◌, length, get_or, Option, Some, None, Result, Ok, Err, ok_or, arith}
use Rattle.std.specs.Prelude.{option_and_then, slice_index, if◌then◌else◌}
use Rattle.std.specs.List.{AllByRecursion, AllZip, filter_map, enumerate_from, cons_option, find}
use Rattle.std.specs.Result.{result_ok}
use Rattle.std.specs.Str.{bytes_eq}
use Rattle.std.proofs.lemmas.Bool.Decides.{nat_tests}
use Rattle.std.proofs.lemmas.Option.{cond_some, option_and_then_some}
use Rattle.mt_lists.proofs.Bools.{chosen}
use Rattle.mt_text.specs.Number.{decimal_of, IsDecimal}
use Rattle.mt_script.specs.declared.command.Command.{Command}
use Rattle.mt_script.specs.declared.fault.ScriptWhy.{ScriptWhy}
use Rattle.mt_script.specs.declared.fault.ScriptWhy.TheVariants.{Unknown, Missing, Extra, BadNumber}
use Rattle.mt_script.specs.declared.fault.ScriptFault.{ScriptFault}
use Rattle.mt_script.specs.Printed.{IsNumberFrom, CanBeSaid}
use Rattle.mt_script.specs.Script.{Form, forms, lines_of, words_of, number_from, numbers_from, numbers_of, map_ok, command_by, command_of, said_by, command_in, fault_in, unless_faulty, commands_of}
use Rattle.mt_script.proofs.Numerals.{below_limit}

-- ---- the table

abbrev IsSound : Form → Type 0
IsSound form = (numbers : List ℕ) → AllZip IsNumberFrom form.leasts numbers → CanBeSaid (form.command numbers)

one_of : (leasts numbers : List ℕ) → AllZip IsNumberFrom leasts numbers → (k : ℕ) → k < length leasts → IsNumberFrom (get_or leasts k 0) (get_or numbers k 0)
one_of [] numbers h k within = absurd (omega arith)
one_of (least ∷ leasts) [] h k within = absurd h
one_of (least ∷ leasts) (n ∷ numbers) h zero within = h.0
one_of (least ∷ leasts) (n ∷ numbers) h (suc k) within = one_of leasts numbers h.1 k (omega (arith, within))

first_alone : (least : ℕ) (numbers : List ℕ) → AllZip IsNumberFrom (least ∷ []) numbers → IsNumberFrom least (slice_index numbers 0)
first_alone least numbers h = one_of (least ∷ []) numbers h 0 (omega arith)

all_three : (numbers : List ℕ) → AllZip IsNumberFrom (0 ∷ 0 ∷ 0 ∷ []) numbers
    → IsNumberFrom 0 (slice_index numbers 0) × IsNumberFrom 0 (slice_index numbers 1) × IsNumberFrom 0 (slice_index numbers 2)
all_three numbers h =
    let at = one_of (0 ∷ 0 ∷ 0 ∷ []) numbers h in
    (at 0 (omega arith), at 1 (omega arith), at 2 (omega arith))

table_sound : AllByRecursion IsSound forms
unfolding forms
table_sound = (
  first_alone 1,
  (
    (λ numbers h. (one_of (0 ∷ 1 ∷ []) numbers h 0 (omega arith), one_of (0 ∷ 1 ∷ []) numbers h 1 (omega arith))),
    (all_three, (all_three, (first_alone 1, ((λ numbers h. tt), ((λ numbers h. tt), tt))))),
  ),
)

found_sound : (test : Form → Bool) (table : List Form) (form : Form) → AllByRecursion IsSound table → find test table ≡ Some form → IsSound form
found_sound test [] form h found = absurd cc
found_sound test (first ∷ table) form h found = elim (chosen (test first) (Some first) (find test table) (Some form) found) [
  | inl here ↦ let e : Some first ≡ Some form = here.1 in let same : first ≡ form = cc in subst IsSound same h.0
  | inr further ↦ found_sound test table form h.1 further.1
]

-- ---- numbers

module _ (reads : (word : List ℕ) (n : ℕ) → (decimal_of word ≡ Some n) ↔ IsDecimal word n) where
  number_in_range : (least : ℕ) (word : List ℕ) (n : ℕ) → number_from least word ≡ Some n → IsNumberFrom least n
  unfolding number_from
  number_in_range least word n h = option_and_then_some (λ m. if leb least m then Some m else None) (decimal_of word) n h (λ m is tested.
      (let both = cond_some (leb least m) m n tested in
      let enough = both.0 in
      let below = below_limit word m ((reads word m).0 is) in
      let same = both.1 in
      let le : least ≤ m = grind (arith, nat_tests) in
      (omega (arith, le, same), omega (arith, below, same))))

  numbers_in_range : (leasts : List ℕ) (words : List (List ℕ)) (numbers : List ℕ) → length words ≡ length leasts → numbers_from leasts words ≡ Some numbers → AllZip IsNumberFrom leasts numbers
  unfolding numbers_from
  numbers_in_range [] [] numbers long h = let e : Some [] ≡ Some numbers = h in let same : [] ≡ numbers = cc in subst (AllZip IsNumberFrom []) same tt
  numbers_in_range [] (word ∷ words) numbers long h = absurd (omega (arith, long))
  numbers_in_range (least ∷ leasts) [] numbers long h = absurd (omega (arith, long))
  numbers_in_range (least ∷ leasts) (word ∷ words) numbers long h =
      option_and_then_some (λ n. option_and_then (λ more. Some (n ∷ more)) (numbers_from leasts words)) (number_from least word) numbers h (λ n is later.
      option_and_then_some (λ more. Some (n ∷ more)) (numbers_from leasts words) numbers later (λ more are whole.
      (let same : n ∷ more ≡ numbers = cc in
      subst (AllZip IsNumberFrom (least ∷ leasts)) same (number_in_range least word n is, numbers_in_range leasts words more (omega (arith, long)) are))))

  given_in_range : (leasts : List ℕ) (words : List (List ℕ)) (numbers : List ℕ) → numbers_of leasts words ≡ Ok numbers → AllZip IsNumberFrom leasts numbers
  unfolding numbers_of
  given_in_range leasts words numbers h = elim (chosen (ltb (length words) (length leasts)) (Err Missing) _ (Ok numbers) h) [
    | inl few ↦ absurd (let e : Err Missing ≡ Ok numbers = few.1 in cc)
    | inr enough ↦ elim (chosen (ltb (length leasts) (length words)) (Err Extra) (ok_or (numbers_from leasts words) BadNumber) (Ok numbers) enough.1) [
      | inl many ↦ absurd (let e : Err Extra ≡ Ok numbers = many.1 in cc)
      | inr fits ↦
          let low = enough.0 in
          let high = fits.0 in
          numbers_in_range leasts words numbers (grind (arith, nat_tests)) (was_some (numbers_from leasts words) fits.1)
    ]
  ]
    where
      was_some : (o : Option (List ℕ)) → ok_or o BadNumber ≡ Ok numbers → o ≡ Some numbers
      was_some None e = absurd cc
      was_some (Some ns) e = let same : ns ≡ numbers = cc in ap Some same

  -- ---- a line

  command_can_be_said : (name : List ℕ) (arguments : List (List ℕ)) (command : Command) → command_of name arguments ≡ Ok command → CanBeSaid command
  unfolding command_of
  command_can_be_said name arguments command h = by_form (find (λ form. bytes_eq name form.name) forms) refl h
    where
      by_numbers : (form : Form) → IsSound form → (r : Result (List ℕ) ScriptWhy) → numbers_of form.leasts arguments ≡ r → map_ok form.command r ≡ Ok command → CanBeSaid command
      by_numbers form sound (Err why) is e = absurd (let f : Err why ≡ Ok command = e in cc)
      by_numbers form sound (Ok numbers) is e =
          let f : Ok (form.command numbers) ≡ Ok command = e in
          let same : form.command numbers ≡ command = cc in
          subst CanBeSaid same (sound numbers (given_in_range form.leasts arguments numbers is))

      by_form : (o : Option Form) → find (λ form. bytes_eq name form.name) forms ≡ o → command_by o arguments ≡ Ok command → CanBeSaid command
      by_form None is e = absurd (let f : Err Unknown ≡ Ok command = e in cc)
      by_form (Some form) is e =
          by_numbers form (found_sound (λ form. bytes_eq name form.name) forms form table_sound is) (numbers_of form.leasts arguments) refl e

  words_can_be_said : (words : List (List ℕ)) (command : Command) → said_by words ≡ Ok (Some command) → CanBeSaid command
  unfolding said_by
  words_can_be_said [] command h = absurd (let e : Ok None ≡ Ok (Some command) = h in cc)
  words_can_be_said (name ∷ arguments) command h = elim (chosen (eqb (slice_index name 0) 35) (Ok None) (map_ok Some (command_of name arguments)) (Ok (Some command)) h) [
    | inl comment ↦ absurd (let e : Ok None ≡ Ok (Some command) = comment.1 in cc)
    | inr read ↦ by_result (command_of name arguments) refl read.1
  ]
    where
      by_result : (r : Result Command ScriptWhy) → command_of name arguments ≡ r → map_ok Some r ≡ Ok (Some command) → CanBeSaid command
      by_result (Err why) is e = absurd (let f : Err why ≡ Ok (Some command) = e in cc)
      by_result (Ok found) is e =
          let f : Ok (Some found) ≡ Ok (Some command) = e in
          let same : found ≡ command = cc in
          command_can_be_said name arguments command (is ∙ ap Ok same)

  line_can_be_said : (line : List ℕ) (command : Command) → command_in line ≡ Some command → CanBeSaid command
  unfolding command_in
  line_can_be_said line command h = by_result (said_by (words_of line)) refl h
    where
      by_result : (r : Result (Option Command) ScriptWhy) → said_by (words_of line) ≡ r → option_and_then (λ found. found) (result_ok r) ≡ Some command → CanBeSaid command
      by_result (Err why) is e = absurd (let f : None ≡ Some command = e in cc)
      by_result (Ok found) is e = words_can_be_said (words_of line) command (is ∙ ap Ok e)

  lines_can_be_said : (lines : List (List ℕ)) → AllByRecursion CanBeSaid (filter_map command_in lines)
  lines_can_be_said [] = tt
  lines_can_be_said (line ∷ lines) = by_found (command_in line) refl (lines_can_be_said lines)
    where
      by_found : (o : Option Command) → command_in line ≡ o → AllByRecursion CanBeSaid (filter_map command_in lines) → AllByRecursion CanBeSaid (cons_option o (filter_map command_in lines))
      by_found None is later = later
      by_found (Some command) is later = (line_can_be_said line command is, later)

  pub text_can_be_said : (text : List ℕ) (commands : List Command) → commands_of text ≡ Ok commands → AllByRecursion CanBeSaid commands
  unfolding commands_of
  text_can_be_said text commands h = by_faults (filter_map fault_in (enumerate_from 1 (lines_of text))) h
    where
      by_faults : (faults : List ScriptFault) → unless_faulty faults (filter_map command_in (lines_of text)) ≡ Ok commands → AllByRecursion CanBeSaid commands
      by_faults [] e =
          let f : Ok (filter_map command_in (lines_of text)) ≡ Ok commands = e in
          let same : filter_map command_in (lines_of text) ≡ commands = cc in
          subst (AllByRecursion CanBeSaid) same (lines_can_be_said (lines_of text))
      by_faults (fault ∷ faults) e = absurd (let f : Err fault ≡ Ok commands = e in cc)
