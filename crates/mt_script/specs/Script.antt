-- Command scripts.
--
-- A script is lines, each ended by a line feed or by a carriage return and a line feed; the last may lack its end.
-- Words are separated by spaces and tabs. A line without a word, and one whose first word begins with `#`, says
-- nothing. Each other line is one of
--
--     feed N     turn S N     split G S T     merge G S T     step N     drain     stats
--
-- where a number is one to nine decimal digits, and N is at least 1. A line is refused as Unknown (its first word
-- is no command), Missing or Extra (fewer or more arguments than the command has), or BadNumber, in this order. The
-- fault of a script is that of its first line that has one, and lines are counted from 1.
use Rattle.std.specs.Prelude.{ℕ, nat_lt, nat_le, Bool, not, ◌||◌, ◌==◌, if◌then◌else◌, List, [], ◌∷◌, codes, length, slice_index, Option, Some, None, option_map, ok_or, Result, Ok, Err}
use Rattle.std.specs.List.{slice_split, filter, filter_map, enumerate_from, find}
use Rattle.std.specs.Result.{result_ok, result_err}
use Rattle.std.specs.Str.{bytes_eq}
use Rattle.std.specs.Str.Lines.{lines}
use Rattle.mt_lists.specs.Options.{◌>>=◌}
use Rattle.mt_text.specs.Number.{decimal_of}
use Rattle.mt_script.specs.declared.command.Command.{Command}
use Rattle.mt_script.specs.declared.command.Command.TheVariants.{Feed, Turn, Split, Merge, Step, Drain, Stats}
use Rattle.mt_script.specs.declared.fault.ScriptWhy.{ScriptWhy}
use Rattle.mt_script.specs.declared.fault.ScriptWhy.TheVariants.{Unknown, BadNumber, Missing, Extra}
use Rattle.mt_script.specs.declared.fault.ScriptFault.{ScriptFault}

-- ---- lines and words

abbrev pub is_line_feed : ℕ → Bool
is_line_feed byte = byte == 10

-- The pieces between line feeds, as std has them. Each but the last loses one carriage return, where it ends in one;
-- an empty last piece is no line.
abbrev pub lines_of : List ℕ → List (List ℕ)
lines_of text = lines text

-- a space or a tab
abbrev pub is_blank : ℕ → Bool
is_blank byte = byte == 32 || byte == 9

abbrev pub is_solid : ℕ → Bool
is_solid byte = not (is_blank byte)

abbrev pub is_word : List ℕ → Bool
is_word piece = nat_lt 0 (length piece)

-- the pieces between spaces and tabs that are not empty
unfoldable pub words_of : List ℕ → List (List ℕ)
words_of line = filter is_word (slice_split is_blank line)

-- ---- the commands

-- a command: its name, the least that each of its numbers may be, and what it is with these numbers
pub record Form : Type 0 where
  pub name : List ℕ
  pub leasts : List ℕ
  pub command : List ℕ → Command

abbrev pub form : List ℕ → List ℕ → (List ℕ → Command) → Form
form name leasts command = record { name = name; leasts = leasts; command = command }

abbrev pub first : List ℕ → ℕ
first numbers = slice_index numbers 0

abbrev pub second : List ℕ → ℕ
second numbers = slice_index numbers 1

abbrev pub third : List ℕ → ℕ
third numbers = slice_index numbers 2

unfoldable pub forms : List Form
forms =
    form (codes "feed") (1 ∷ []) (λ n. Feed (first n))
    ∷ form (codes "turn") (0 ∷ 1 ∷ []) (λ n. Turn (first n) (second n))
    ∷ form (codes "split") (0 ∷ 0 ∷ 0 ∷ []) (λ n. Split (first n) (second n) (third n))
    ∷ form (codes "merge") (0 ∷ 0 ∷ 0 ∷ []) (λ n. Merge (first n) (second n) (third n))
    ∷ form (codes "step") (1 ∷ []) (λ n. Step (first n))
    ∷ form (codes "drain") [] (λ n. Drain)
    ∷ form (codes "stats") [] (λ n. Stats)
    ∷ []

-- one to nine decimal digits that stand for at least so much
unfoldable pub number_from : ℕ → List ℕ → Option ℕ
number_from least word = decimal_of word >>= λ n. (if nat_le least n then Some n else None)

-- the numbers that the words are, each from its least on
unfoldable pub numbers_from : List ℕ → List (List ℕ) → Option (List ℕ)
numbers_from (least ∷ leasts) (word ∷ words) = do
  n ← number_from least word
  more ← numbers_from leasts words
  Some (n ∷ more)
numbers_from _ _ = Some []

-- as many numbers as there are leasts, each from its least on
unfoldable pub numbers_of : List ℕ → List (List ℕ) → Result (List ℕ) ScriptWhy
numbers_of leasts words =
    if nat_lt (length words) (length leasts) then Err Missing
    else if nat_lt (length leasts) (length words) then Err Extra
    else ok_or (numbers_from leasts words) BadNumber

-- ---- a line

abbrev pub map_ok : {A B : Type 0} → (A → B) → Result A ScriptWhy → Result B ScriptWhy
map_ok f (Ok x) = Ok (f x)
map_ok f (Err why) = Err why

-- a form with its numbers, or a name that has none
abbrev pub command_by : Option Form → List (List ℕ) → Result Command ScriptWhy
command_by None arguments = Err Unknown
command_by (Some form) arguments = map_ok form.command (numbers_of form.leasts arguments)

-- the command with this name and these arguments
unfoldable pub command_of : List ℕ → List (List ℕ) → Result Command ScriptWhy
command_of name arguments = command_by (find (λ form. bytes_eq name form.name) forms) arguments

-- what the words of a line say, which may be nothing
unfoldable pub said_by : List (List ℕ) → Result (Option Command) ScriptWhy
said_by [] = Ok None
said_by (name ∷ arguments) = if slice_index name 0 == 35 then Ok None else map_ok Some (command_of name arguments)

-- ---- a text

-- the command of a line, if it has one
unfoldable pub command_in : List ℕ → Option Command
command_in line = result_ok (said_by (words_of line)) >>= λ found. found

-- the fault of a line with its number, if it has one
unfoldable pub fault_in : ℕ × List ℕ → Option ScriptFault
fault_in numbered = option_map (λ why. record { line = numbered.0; why = why }) (result_err (said_by (words_of numbered.1)))

-- the first fault, or the commands where there is none
abbrev pub unless_faulty : List ScriptFault → List Command → Result (List Command) ScriptFault
unless_faulty [] commands = Ok commands
unless_faulty (fault ∷ faults) commands = Err fault

-- the commands of all lines, or the fault of the first that has one
unfoldable pub commands_of : List ℕ → Result (List Command) ScriptFault
commands_of text = unless_faulty (filter_map fault_in (enumerate_from 1 (lines_of text))) (filter_map command_in (lines_of text))
