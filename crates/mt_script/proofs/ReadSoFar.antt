-- A text of which so many lines are read.
use Rattle.std.proofs.Common.{◌≡◌, ◌∙◌, sym, ap, refl, ℕ, ◌+◌, ◌≤◌, List, [], ◌∷◌, ◌++◌, length, append_assoc, Option, Some, None, Ok, Err, arith}
use Rattle.std.specs.List.{filter_map, cons_option, enumerate_from}
use Rattle.std.specs.Option.{option_to_list}
use Rattle.std.proofs.lemmas.List.{append-nil, length-append}
use Rattle.mt_script.specs.declared.command.Command.{Command}
use Rattle.mt_script.specs.declared.fault.ScriptWhy.{ScriptWhy}
use Rattle.mt_script.specs.declared.fault.ScriptFault.{ScriptFault}
use Rattle.mt_script.specs.Script.{lines_of, words_of, said_by, command_in, fault_in, unless_faulty, commands_of}

-- ---- one line

command_said : (line : List ℕ) (found : Option Command) → Ok found ≡ said_by (words_of line) → command_in line ≡ found
unfolding command_in
command_said line found said = rw (← said) refl

no_fault_said : (line : List ℕ) (number : ℕ) (found : Option Command) → Ok found ≡ said_by (words_of line) → fault_in (number, line) ≡ None
unfolding fault_in
no_fault_said line number found said = rw (← said) refl

fault_said : (line : List ℕ) (number : ℕ) (why : ScriptWhy) → Err why ≡ said_by (words_of line) → fault_in (number, line) ≡ Some (record { line = number; why = why })
unfolding fault_in
fault_said line number why said = rw (← said) refl

-- ---- a text

abbrev pub commands_from : List ℕ → List Command
commands_from text = filter_map command_in (lines_of text)

abbrev pub faults_from : ℕ → List ℕ → List ScriptFault
faults_from number text = filter_map fault_in (enumerate_from number (lines_of text))

-- these commands stand in front of the line with this number, at which the rest begins, and no fault
pub record IsReadSoFar (text : List ℕ) (commands : List Command) (number : ℕ) (rest : List ℕ) : Type 0 where
  pub commands_are : commands_from text ≡ commands ++ commands_from rest
  pub faults_are : faults_from 1 text ≡ faults_from number rest

pub nothing_read : (text : List ℕ) → IsReadSoFar text [] 1 text
nothing_read text = record { commands_are = refl; faults_are = refl }

module _ (text rest line after : List ℕ) (commands : List Command) (number : ℕ) (so_far : IsReadSoFar text commands number rest) (next : lines_of rest ≡ line ∷ lines_of after) where
  more_commands : (found : Option Command) → command_in line ≡ found → commands_from rest ≡ cons_option found (commands_from after)
  more_commands found is = ap (filter_map command_in) next ∙ ap (λ o. cons_option o (commands_from after)) is

  more_faults : (found : Option ScriptFault) → fault_in (number, line) ≡ found → faults_from number rest ≡ cons_option found (faults_from (number + 1) after)
  more_faults found is = ap (λ lines. filter_map fault_in (enumerate_from number lines)) next ∙ ap (λ o. cons_option o (faults_from (number + 1) after)) is

  pub line_read : (found : Option Command) → Ok found ≡ said_by (words_of line) → IsReadSoFar text (commands ++ option_to_list found) (number + 1) after
  line_read found said = record {
    commands_are =
        so_far.commands_are
        ∙ ap (λ more. commands ++ more) (more_commands found (command_said line found said) ∙ listed found)
        ∙ sym (append_assoc commands (option_to_list found) (commands_from after));
    faults_are = so_far.faults_are ∙ more_faults None (no_fault_said line number found said);
  }
    where
      listed : (o : Option Command) → cons_option o (commands_from after) ≡ option_to_list o ++ commands_from after
      listed None = refl
      listed (Some command) = refl

  pub fault_read : (why : ScriptWhy) → Err why ≡ said_by (words_of line) → commands_of text ≡ Err (record { line = number; why = why })
  unfolding commands_of
  fault_read why said = ap (λ faults. unless_faulty faults (commands_from text)) (so_far.faults_are ∙ more_faults (Some (record { line = number; why = why })) (fault_said line number why said))

pub all_read : (text rest : List ℕ) (commands : List Command) (number : ℕ) → IsReadSoFar text commands number rest → length rest ≡ 0 → commands_of text ≡ Ok commands
unfolding commands_of
all_read text rest commands number so_far end =
    let none : rest ≡ [] = empty rest end in
    let all : commands_from text ≡ commands = so_far.commands_are ∙ ap (λ left. commands ++ commands_from left) none ∙ append-nil commands in
    let no_faults : faults_from 1 text ≡ [] = so_far.faults_are ∙ ap (faults_from number) none in
    rw (no_faults, all) refl
  where
    empty : (l : List ℕ) → length l ≡ 0 → l ≡ []
    empty [] h = refl
    empty (x ∷ l) h = absurd (omega (arith, h))

-- one line has one command at most
pub one_at_most : (commands new : List Command) (found : Option Command) → new ≡ commands ++ option_to_list found → length new ≤ length commands + 1
one_at_most commands new None is = omega (arith, ap length is, length-append commands (option_to_list None))
one_at_most commands new (Some command) is = omega (arith, ap length is, length-append commands (command ∷ []))
