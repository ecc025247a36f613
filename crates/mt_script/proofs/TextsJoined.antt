-- What two texts say, one after the other.
use Rattle.std.proofs.Common.{◌≡◌, ◌≢◌, ◌∙◌, sym, ap, subst, refl, ℕ, zero, suc, ◌+◌, ◌-◌, ◌<◌, false, cond, eqb, List, [], ◌∷◌, ◌++◌, length, map, get_or, take, Option, Some, None, append_assoc, length-append, arith}
use Rattle.std.specs.Prelude.{slice_index, option_map, count_by}
use Rattle.std.specs.List.{filter_map, cons_option, enumerate_from, slice_split}
use Rattle.std.specs.Result.{result_err}
use Rattle.std.specs.Str.Lines.{strip_carriage_return}
use Rattle.std.proofs.lemmas.Bool.Decides.{nat_tests}
use Rattle.std.proofs.lemmas.List.{get_or-append_right}
use Rattle.std.proofs.lemmas.List.Splits.{slice_split_at, slice_split_none, length-slice_split}
use Rattle.mt_lists.specs.Cuts.{HasNo}
use Rattle.mt_lists.proofs.Cuts.{Cut, whole, parts, cut}
use Rattle.mt_script.specs.declared.command.Command.{Command}
use Rattle.mt_script.specs.declared.fault.ScriptWhy.{ScriptWhy}
use Rattle.mt_script.specs.declared.fault.ScriptFault.{ScriptFault}
use Rattle.mt_script.specs.Printed.{later, one_after_other}
use Rattle.mt_script.specs.Script.{is_line_feed, lines_of, words_of, said_by, command_in, fault_in, unless_faulty, commands_of}
use Rattle.mt_script.proofs.LinesFound.{line_off, last_line}
use Rattle.mt_script.proofs.ReadSoFar.{commands_from, faults_from}

-- ---- lines counted

-- a line with its end, and the lines behind it
count_off : (front rest : List ℕ) → HasNo 10 front → count_by is_line_feed (front ++ 10 ∷ rest) ≡ suc (count_by is_line_feed rest)
count_off front rest none =
    let cut_off : length (slice_split is_line_feed (front ++ 10 ∷ rest)) ≡ suc (length (slice_split is_line_feed rest)) = ap length (slice_split_at is_line_feed front 10 rest none refl) in
    omega (arith, cut_off, length-slice_split is_line_feed (front ++ 10 ∷ rest), length-slice_split is_line_feed rest)

count_none : (text : List ℕ) → HasNo 10 text → count_by is_line_feed text ≡ 0
count_none text none =
    let one : length (slice_split is_line_feed text) ≡ 1 = ap length (slice_split_none is_line_feed text none) in
    omega (arith, one, length-slice_split is_line_feed text)

-- ---- the byte at the end

last_behind : (front rest : List ℕ) → slice_index (front ++ 10 ∷ rest) (length (front ++ 10 ∷ rest) - 1) ≢ 13 → slice_index rest (length rest - 1) ≢ 13
last_behind front [] other = λ e. (let f : 0 ≡ 13 = e in omega (arith, f))
last_behind front (byte ∷ rest) other =
    let i : ℕ = length (front ++ 10 ∷ byte ∷ rest) - 1 in
    let long = length-append front (10 ∷ byte ∷ rest) in
    let moved = get_or-append_right front (10 ∷ byte ∷ rest) (length front) i 0 refl (omega (arith, long)) in
    let place : i - length front ≡ suc (length (byte ∷ rest) - 1) = omega (arith, long) in
    λ e. other (moved ∙ ap (λ k. get_or (10 ∷ byte ∷ rest) k 0) place ∙ e)

kept : (text : List ℕ) → slice_index text (length text - 1) ≢ 13 → strip_carriage_return text ≡ text
kept text other =
    let e : eqb (slice_index text (length text - 1)) 13 ≡ false = grind (arith, nat_tests) in
    ap (λ b. cond b (take (length text - 1) text) text) e

-- ---- a line that says nothing

no_word : (number : ℕ) → (command_in [] ≡ None) × (fault_in (number, []) ≡ None)
unfolding command_in fault_in words_of said_by
no_word number = (refl, refl)

-- ---- two texts with a line feed between them

record AreJoined (front behind : List ℕ) : Type 0 where
  commands_are : commands_from (front ++ 10 ∷ behind) ≡ commands_from front ++ commands_from behind
  faults_are : (number : ℕ) → faults_from number (front ++ 10 ∷ behind) ≡ faults_from number front ++ faults_from (number + (count_by is_line_feed front + 1)) behind

cons_front : {A : Type 0} (o : Option A) (xs ys : List A) → cons_option o (xs ++ ys) ≡ cons_option o xs ++ ys
cons_front None xs ys = refl
cons_front (Some x) xs ys = refl

commands_alone : (text : List ℕ) → HasNo 10 text → commands_from text ≡ cons_option (command_in text) []
commands_alone [] none = sym (ap (λ o. cons_option o []) (no_word 0).0)
commands_alone (byte ∷ text) none = ap (filter_map command_in) (last_line (byte ∷ text) (omega arith) none)

faults_alone : (text : List ℕ) (number : ℕ) → HasNo 10 text → faults_from number text ≡ cons_option (fault_in (number, text)) []
faults_alone [] number none = sym (ap (λ o. cons_option o []) (no_word number).1)
faults_alone (byte ∷ text) number none = ap (λ lines. filter_map fault_in (enumerate_from number lines)) (last_line (byte ∷ text) (omega arith) none)

one_line : (front behind : List ℕ) → HasNo 10 front → slice_index front (length front - 1) ≢ 13 → AreJoined front behind
one_line front behind none other =
    let lines : lines_of (front ++ 10 ∷ behind) ≡ front ∷ lines_of behind = line_off front behind none ∙ ap (λ line. line ∷ lines_of behind) (kept front other) in
    record {
      commands_are =
          ap (filter_map command_in) lines
          ∙ cons_front (command_in front) [] (commands_from behind)
          ∙ ap (λ found. found ++ commands_from behind) (sym (commands_alone front none));
      faults_are = λ number.
          (let next : number + 1 ≡ number + (count_by is_line_feed front + 1) = omega (arith, count_none front none) in
          ap (λ ls. filter_map fault_in (enumerate_from number ls)) lines
          ∙ cons_front (fault_in (number, front)) [] (faults_from (number + 1) behind)
          ∙ ap (λ found. found ++ faults_from (number + 1) behind) (sym (faults_alone front number none))
          ∙ ap (λ n. faults_from number front ++ faults_from n behind) next);
    }

more_lines : (front rest behind : List ℕ) → HasNo 10 front → AreJoined rest behind → AreJoined (front ++ 10 ∷ rest) behind
more_lines front rest behind none joined =
    let line : List ℕ = strip_carriage_return front in
    let first : lines_of (front ++ 10 ∷ rest) ≡ line ∷ lines_of rest = line_off front rest none in
    let whole : lines_of ((front ++ 10 ∷ rest) ++ 10 ∷ behind) ≡ line ∷ lines_of (rest ++ 10 ∷ behind) =
    ap lines_of (append_assoc front (10 ∷ rest) (10 ∷ behind)) ∙ line_off front (rest ++ 10 ∷ behind) none in
    record {
      commands_are =
          ap (filter_map command_in) whole
          ∙ ap (cons_option (command_in line)) joined.commands_are
          ∙ cons_front (command_in line) (commands_from rest) (commands_from behind)
          ∙ ap (λ ls. filter_map command_in ls ++ commands_from behind) (sym first);
      faults_are = λ number.
          (let next : (number + 1) + (count_by is_line_feed rest + 1) ≡ number + (count_by is_line_feed (front ++ 10 ∷ rest) + 1) = omega (arith, count_off front rest none) in
          ap (λ ls. filter_map fault_in (enumerate_from number ls)) whole
          ∙ ap (cons_option (fault_in (number, line))) (joined.faults_are (number + 1))
          ∙ cons_front (fault_in (number, line)) (faults_from (number + 1) rest) (faults_from ((number + 1) + (count_by is_line_feed rest + 1)) behind)
          ∙ ap (λ ls. filter_map fault_in (enumerate_from number ls) ++ faults_from ((number + 1) + (count_by is_line_feed rest + 1)) behind) (sym first)
          ∙ ap (λ n. faults_from number (front ++ 10 ∷ rest) ++ faults_from n behind) next);
    }

all_lines : (most : ℕ) (front behind : List ℕ) → length front < most → slice_index front (length front - 1) ≢ 13 → AreJoined front behind
all_lines zero front behind within other = absurd (omega arith)
all_lines (suc most) front behind within other = by_cut (λ rest. all_lines most rest behind) (cut 10 front)
  where
    by_cut : ((rest : List ℕ) → length rest < most → slice_index rest (length rest - 1) ≢ 13 → AreJoined rest behind) → Cut 10 front → AreJoined front behind
    by_cut further (whole none) = one_line front behind none other
    by_cut further (parts line rest is none) =
        let long : length front ≡ length line + suc (length rest) = ap length is ∙ length-append line (10 ∷ rest) in
        let last : slice_index rest (length rest - 1) ≢ 13 = last_behind line rest (subst (λ t. slice_index t (length t - 1) ≢ 13) is other) in
        subst (λ t. AreJoined t behind) (sym is) (more_lines line rest behind none (further rest (omega (arith, long, within)) last))

-- ---- faults further on

fault_later : (lines number : ℕ) (line : List ℕ) → fault_in (lines + number, line) ≡ option_map (later lines) (fault_in (number, line))
unfolding fault_in
fault_later lines number line = by_why (result_err (said_by (words_of line)))
  where
    by_why : (o : Option ScriptWhy) → option_map (λ why. record { line = lines + number; why = why }) o ≡ option_map (later lines) (option_map (λ why. record { line = number; why = why }) o)
    by_why None = refl
    by_why (Some why) = refl

faults_later : (lines number far : ℕ) (ls : List (List ℕ)) → far ≡ lines + number → filter_map fault_in (enumerate_from far ls) ≡ map (later lines) (filter_map fault_in (enumerate_from number ls))
faults_later lines number far [] is = refl
faults_later lines number far (line ∷ ls) is =
    ap (λ o. cons_option o (filter_map fault_in (enumerate_from (far + 1) ls))) (ap (λ n. fault_in (n, line)) is ∙ fault_later lines number line)
    ∙ ap (cons_option (option_map (later lines) (fault_in (number, line)))) (faults_later lines (number + 1) (far + 1) ls (omega (arith, is)))
    ∙ mapped (fault_in (number, line)) (filter_map fault_in (enumerate_from (number + 1) ls))
  where
    mapped : (o : Option ScriptFault) (faults : List ScriptFault) → cons_option (option_map (later lines) o) (map (later lines) faults) ≡ map (later lines) (cons_option o faults)
    mapped None faults = refl
    mapped (Some fault) faults = refl

-- ---- what is told

told : (lines : ℕ) (front behind : List ScriptFault) (ones others : List Command)
    → unless_faulty (front ++ map (later lines) behind) (ones ++ others) ≡ one_after_other lines (unless_faulty front ones) (unless_faulty behind others)
told lines (fault ∷ front) behind ones others = refl
told lines [] (fault ∷ behind) ones others = refl
told lines [] [] ones others = refl

pub texts_joined : (front behind : List ℕ) → slice_index front (length front - 1) ≢ 13
    → commands_of (front ++ 10 ∷ behind) ≡ one_after_other (count_by is_line_feed front + 1) (commands_of front) (commands_of behind)
unfolding commands_of
texts_joined front behind other =
    let joined = all_lines (suc (length front)) front behind (omega arith) other in
    let lines : ℕ = count_by is_line_feed front + 1 in
    let faults : faults_from 1 (front ++ 10 ∷ behind) ≡ faults_from 1 front ++ map (later lines) (faults_from 1 behind) =
    joined.faults_are 1 ∙ ap (λ more. faults_from 1 front ++ more) (faults_later lines 1 (1 + lines) (lines_of behind) (omega arith)) in
    rw (faults, joined.commands_are) (told lines (faults_from 1 front) (faults_from 1 behind) (commands_from front) (commands_from behind))
