-- Small scripts, worked out by hand.
use Rattle.std.proofs.Common.{◌≡◌, ℕ, List, [], ◌∷◌, ◌++◌, map, refl}
use Rattle.std.specs.Prelude.{codes, Result, Ok, Err}
use Rattle.mt_text.specs.Number.{decimal_of, decimal_value}
use Rattle.mt_script.specs.declared.command.Command.{Command}
use Rattle.mt_script.specs.declared.command.Command.TheVariants.{Feed, Turn, Split, Merge, Step, Drain, Stats}
use Rattle.mt_script.specs.declared.fault.ScriptWhy.{ScriptWhy}
use Rattle.mt_script.specs.declared.fault.ScriptWhy.TheVariants.{Unknown, BadNumber, Missing, Extra}
use Rattle.mt_script.specs.declared.fault.ScriptFault.{ScriptFault}
use Rattle.mt_script.specs.Script.{words_of, forms, number_from, numbers_from, numbers_of, command_of, said_by, command_in, fault_in, commands_of}

abbrev Row : Type 0
Row = List ℕ × Result (List Command) ScriptFault

-- a text whose lines have no fault, with its commands
abbrev says : List ℕ → List Command → Row
says text commands = (text, Ok commands)

-- a text with its first fault
abbrev refused : List ℕ → ℕ → ScriptWhy → Row
refused text line why = (text, Err (record { line = line; why = why }))

abbrev return : ℕ
return = 13

abbrev rows : List Row
rows =
    says [] []
    ∷ says (codes "feed 40\nturn 1 40\nfeed 2\nsplit 1 1 0\nstep 1\nstep 1\ndrain") (Feed 40 ∷ Turn 1 40 ∷ Feed 2 ∷ Split 1 1 0 ∷ Step 1 ∷ Step 1 ∷ Drain ∷ [])
    ∷ says (codes "merge 0 2 1\nstats\n") (Merge 0 2 1 ∷ Stats ∷ [])
    -- what says nothing: comments, and lines without a word
    ∷ says (codes "# x\n\n" ++ 9 ∷ codes " \nfeed 1" ++ return ∷ codes "\nturn 0 2") (Feed 1 ∷ Turn 0 2 ∷ [])
    ∷ says (codes "#") []
    ∷ says (codes " #feed") []
    -- numbers
    ∷ says (codes "feed 000000001") (Feed 1 ∷ [])
    ∷ says (codes "turn 0 1") (Turn 0 1 ∷ [])
    ∷ refused (codes "feed 1000000000") 1 BadNumber
    ∷ refused (codes "feed x") 1 BadNumber
    ∷ refused (codes "feed #1") 1 BadNumber
    ∷ refused (codes "feed 0") 1 BadNumber
    ∷ refused (codes "turn 0 0") 1 BadNumber
    -- names
    ∷ refused (codes "go") 1 Unknown
    ∷ refused (codes "Feed 1") 1 Unknown
    -- how many arguments there are comes before what they are
    ∷ refused (codes "split 1 0") 1 Missing
    ∷ refused (codes "split x 1") 1 Missing
    ∷ refused (codes "drain 1") 1 Extra
    ∷ refused (codes "feed 1 x") 1 Extra
    -- carriage returns
    ∷ refused (codes "drain" ++ return ∷ []) 1 Unknown
    ∷ says (codes "drain" ++ return ∷ codes "\n") (Drain ∷ [])
    ∷ refused (codes "drain" ++ return ∷ return ∷ codes "\n") 1 Unknown
    ∷ refused (codes "feed" ++ return ∷ codes "1") 1 Unknown
    -- every line counts, and the first fault is told
    ∷ refused (codes "# x\n\nstep\nfeed 1\nstep 0") 3 Missing
    ∷ []

all_rows : map (λ row. commands_of row.0) rows ≡ map (λ row. row.1) rows
unfolding commands_of words_of forms number_from numbers_from numbers_of command_of said_by command_in fault_in decimal_of decimal_value
all_rows = refl
