-- Commands in their standard form, and texts one after the other.
use Rattle.std.specs.Prelude.{ℕ, ◌+◌, ◌<◌, ◌≤◌, List, [], ◌∷◌, ◌++◌, codes, decimal, Result, Ok, Err}
use Rattle.std.specs.List.{flat_map}
use Rattle.mt_script.specs.declared.command.Command.{Command}
use Rattle.mt_script.specs.declared.command.Command.TheVariants.{Feed, Turn, Split, Merge, Step, Drain, Stats}
use Rattle.mt_script.specs.declared.fault.ScriptFault.{ScriptFault}

-- ---- the standard form: the name, each number in decimal behind one space, and a line feed

-- the name of a command, and its numbers in the order of the line
abbrev pub parts_of : Command → List ℕ × List ℕ
parts_of (Feed n) = (codes "feed", n ∷ [])
parts_of (Turn s n) = (codes "turn", s ∷ n ∷ [])
parts_of (Split g s t) = (codes "split", g ∷ s ∷ t ∷ [])
parts_of (Merge g s t) = (codes "merge", g ∷ s ∷ t ∷ [])
parts_of (Step n) = (codes "step", n ∷ [])
parts_of Drain = (codes "drain", [])
parts_of Stats = (codes "stats", [])

abbrev pub numbers_text : List ℕ → List ℕ
numbers_text numbers = flat_map (λ n. 32 ∷ decimal n) numbers

abbrev pub line_text : Command → List ℕ
line_text command = (parts_of command).0 ++ numbers_text (parts_of command).1

abbrev pub script_text : List Command → List ℕ
script_text commands = flat_map (λ command. line_text command ++ 10 ∷ []) commands

-- ---- the commands that a line can say

-- nine digits write it, and it is not below the least
abbrev pub IsNumberFrom : ℕ → ℕ → Type 0
IsNumberFrom least n = (least ≤ n) × (n < 1000000000)

abbrev pub CanBeSaid : Command → Type 0
CanBeSaid (Feed n) = IsNumberFrom 1 n
CanBeSaid (Turn s n) = IsNumberFrom 0 s × IsNumberFrom 1 n
CanBeSaid (Split g s t) = IsNumberFrom 0 g × IsNumberFrom 0 s × IsNumberFrom 0 t
CanBeSaid (Merge g s t) = IsNumberFrom 0 g × IsNumberFrom 0 s × IsNumberFrom 0 t
CanBeSaid (Step n) = IsNumberFrom 1 n
CanBeSaid Drain = Unit {0}
CanBeSaid Stats = Unit {0}

-- ---- texts one after the other

-- a fault so many lines further on
abbrev pub later : ℕ → ScriptFault → ScriptFault
later lines fault = record { line = lines + fault.line; why = fault.why }

-- what two texts say, one after the other, where the first has so many lines
abbrev pub one_after_other : ℕ → Result (List Command) ScriptFault → Result (List Command) ScriptFault → Result (List Command) ScriptFault
one_after_other lines (Ok front) (Ok behind) = Ok (front ++ behind)
one_after_other lines (Ok front) (Err fault) = Err (later lines fault)
one_after_other lines (Err fault) behind = Err fault
