-- Commands are read back from their standard form.
use Rattle.std.proofs.Common.{◌≡◌, ◌∙◌, sym, ap, refl, ℕ, ◌+◌, ◌↔◌, true, leb, List, [], ◌∷◌, ◌++◌, length, map, decimal, Some, Ok, ok_or, append_assoc, arith}
use Rattle.std.specs.Prelude.{codes}
use Rattle.std.specs.List.{AllByRecursion, AllZip}
use Rattle.std.proofs.lemmas.Bool.Decides.{nat_tests}
use Rattle.std.proofs.lemmas.Fmt.{decimal_is_IsNumeral, length-decimal-le}
use Rattle.std.proofs.lemmas.List.{append-nil, length-map}
use Rattle.mt_text.specs.Number.{decimal_of, IsDecimal}
use Rattle.mt_script.specs.declared.command.Command.{Command}
use Rattle.mt_script.specs.declared.command.Command.TheVariants.{Feed, Turn, Split, Merge, Step, Drain, Stats}
use Rattle.mt_script.specs.declared.fault.ScriptWhy.TheVariants.{BadNumber}
use Rattle.mt_script.specs.Printed.{parts_of, line_text, script_text, IsNumberFrom, CanBeSaid}
use Rattle.mt_script.specs.Script.{words_of, forms, number_from, numbers_from, numbers_of, command_of, said_by, lines_of, commands_of}
use Rattle.mt_script.proofs.Counted.{as_many}
use Rattle.mt_script.proofs.LinesFound.{line_off}
use Rattle.mt_script.proofs.PrintedWords.{IsPrintedWord, word_tested, AreShort, words_printed, plain_line}
use Rattle.mt_script.proofs.ReadSoFar.{IsReadSoFar, nothing_read, line_read, all_read}

-- ---- numbers

abbrev ReadsDecimals : Type 0
ReadsDecimals = (word : List ℕ) (n : ℕ) → (decimal_of word ≡ Some n) ↔ IsDecimal word n

same_length : (leasts numbers : List ℕ) → AllZip IsNumberFrom leasts numbers → length numbers ≡ length leasts
same_length [] [] h = refl
same_length [] (n ∷ numbers) h = absurd h
same_length (least ∷ leasts) [] h = absurd h
same_length (least ∷ leasts) (n ∷ numbers) h = let same = same_length leasts numbers h.1 in omega (arith, same)

number_read : ReadsDecimals → (least n : ℕ) → IsNumberFrom least n → number_from least (decimal n) ≡ Some n
unfolding number_from
number_read reads least n h =
    let short = h.1 in
    let shown = decimal_is_IsNumeral n (omega (arith, short)) in
    let found : decimal_of (decimal n) ≡ Some n = (reads (decimal n) n).1 (shown.0, length-decimal-le 9 n (omega arith) short (omega arith), shown.1) in
    let le = h.0 in
    let enough : leb least n ≡ true = grind (arith, nat_tests) in
    rw (found, enough) refl

numbers_read : ReadsDecimals → (leasts numbers : List ℕ) → AllZip IsNumberFrom leasts numbers → numbers_from leasts (map decimal numbers) ≡ Some numbers
unfolding numbers_from
numbers_read reads [] [] h = refl
numbers_read reads [] (n ∷ numbers) h = absurd h
numbers_read reads (least ∷ leasts) [] h = absurd h
numbers_read reads (least ∷ leasts) (n ∷ numbers) h = rw (number_read reads least n h.0, numbers_read reads leasts numbers h.1) refl

numbers_given : ReadsDecimals → (leasts numbers : List ℕ) → AllZip IsNumberFrom leasts numbers → numbers_of leasts (map decimal numbers) ≡ Ok numbers
numbers_given reads leasts numbers h =
    as_many leasts (map decimal numbers) (length-map numbers decimal ∙ same_length leasts numbers h) ∙ ap (λ o. ok_or o BadNumber) (numbers_read reads leasts numbers h)

-- ---- a line

-- its name is a word, and its numbers are short
name_printed : (command : Command) → IsPrintedWord (parts_of command).0
name_printed (Feed n) = word_tested (codes "feed") refl
name_printed (Turn s n) = word_tested (codes "turn") refl
name_printed (Split g s t) = word_tested (codes "split") refl
name_printed (Merge g s t) = word_tested (codes "merge") refl
name_printed (Step n) = word_tested (codes "step") refl
name_printed Drain = word_tested (codes "drain") refl
name_printed Stats = word_tested (codes "stats") refl

numbers_short : (command : Command) → CanBeSaid command → AreShort (parts_of command).1
numbers_short (Feed n) h = (h.1, tt)
numbers_short (Turn s n) h = (h.0.1, (h.1.1, tt))
numbers_short (Split g s t) h = (h.0.1, (h.1.1, (h.2.1, tt)))
numbers_short (Merge g s t) h = (h.0.1, (h.1.1, (h.2.1, tt)))
numbers_short (Step n) h = (h.1, tt)
numbers_short Drain h = tt
numbers_short Stats h = tt

said_by_words : ReadsDecimals → (command : Command) → CanBeSaid command → said_by ((parts_of command).0 ∷ map decimal (parts_of command).1) ≡ Ok (Some command)
unfolding said_by command_of forms
said_by_words reads (Feed n) h = rw (numbers_given reads (1 ∷ []) (n ∷ []) (h, tt)) refl
said_by_words reads (Turn s n) h = rw (numbers_given reads (0 ∷ 1 ∷ []) (s ∷ n ∷ []) (h.0, (h.1, tt))) refl
said_by_words reads (Split g s t) h = rw (numbers_given reads (0 ∷ 0 ∷ 0 ∷ []) (g ∷ s ∷ t ∷ []) (h.0, (h.1, (h.2, tt)))) refl
said_by_words reads (Merge g s t) h = rw (numbers_given reads (0 ∷ 0 ∷ 0 ∷ []) (g ∷ s ∷ t ∷ []) (h.0, (h.1, (h.2, tt)))) refl
said_by_words reads (Step n) h = rw (numbers_given reads (1 ∷ []) (n ∷ []) (h, tt)) refl
said_by_words reads Drain h = rw (numbers_given reads [] [] tt) refl
said_by_words reads Stats h = rw (numbers_given reads [] [] tt) refl

said_by_line : ReadsDecimals → (command : Command) → CanBeSaid command → said_by (words_of (line_text command)) ≡ Ok (Some command)
said_by_line reads command h =
    ap said_by (words_printed (parts_of command).0 (parts_of command).1 (name_printed command) (numbers_short command h)) ∙ said_by_words reads command h

-- ---- a script

line_in_front : (command : Command) (rest : List ℕ) → CanBeSaid command → lines_of ((line_text command ++ 10 ∷ []) ++ rest) ≡ line_text command ∷ lines_of rest
line_in_front command rest h =
    let plain = plain_line (parts_of command).0 (parts_of command).1 (name_printed command) (numbers_short command h) in
    ap lines_of (append_assoc (line_text command) (10 ∷ []) rest)
    ∙ line_off (line_text command) rest plain.no_feed
    ∙ ap (λ line. line ∷ lines_of rest) plain.unchanged

printed_from : ReadsDecimals → (text : List ℕ) (done : List Command) (number : ℕ) (commands : List Command) → AllByRecursion CanBeSaid commands
    → IsReadSoFar text done number (script_text commands) → commands_of text ≡ Ok (done ++ commands)
printed_from reads text done number [] h so_far = all_read text [] done number so_far refl ∙ ap Ok (sym (append-nil done))
printed_from reads text done number (command ∷ commands) h so_far =
    let here = line_read text (script_text (command ∷ commands)) (line_text command) (script_text commands) done number so_far (line_in_front command (script_text commands) h.0) (Some command) (sym (said_by_line reads command h.0)) in
    printed_from reads text (done ++ command ∷ []) (number + 1) commands h.1 here ∙ ap Ok (append_assoc done (command ∷ []) commands)

pub script_printed : ReadsDecimals → (commands : List Command) → AllByRecursion CanBeSaid commands → commands_of (script_text commands) ≡ Ok commands
script_printed reads commands h = printed_from reads (script_text commands) [] 1 commands h (nothing_read (script_text commands))
