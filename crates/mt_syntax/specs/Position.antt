-- Lines and columns of a text, counted from 1.
use Rattle.std.specs.Prelude.{◌≡◌, ◌⊎◌, Result, Ok, Err, ℕ, ◌+◌, List, [], ◌∷◌, take, count_by, ◌==◌, if◌then◌else◌}
use Rattle.mt_syntax.specs.declared.fault.ClickFault.{ClickFault}
use Rattle.mt_syntax.specs.declared.fault.ClickWhy.TheVariants.{NoMemory}
use Rattle.mt_syntax.specs.declared.fault.Fault.{Fault}

-- one more than the line feeds before a place
abbrev pub line_of : List ℕ → ℕ → ℕ
line_of text at = 1 + count_by (λ b. b == 10) (take at text)

-- the column behind some bytes: behind a line feed it is 1, and each other byte advances it on
abbrev pub column_behind : ℕ → List ℕ → ℕ
column_behind column [] = column
column_behind column (b ∷ bs) = if b == 10 then column_behind 1 bs else column_behind (column + 1) bs

abbrev pub column_of : List ℕ → ℕ → ℕ
column_of text at = column_behind 1 (take at text)

-- What a function returned, seen by view, is what reading a text gives; a fault stands at its line and
-- column. Memory may run out, which has no place.
abbrev pub no_memory : ClickFault
no_memory = record { why = NoMemory; line = 0; column = 0 }

abbrev pub located : List ℕ → Fault → ClickFault
located text f = record { why = f.why; line = line_of text f.at; column = column_of text f.at }

abbrev pub Tells : {X Y : Type 0} → List ℕ → (X → Y) → Result X ClickFault → Result Y Fault → Type 0
Tells text view (Ok x) read = read ≡ Ok (view x)
Tells text view (Err e) read = (e ≡ no_memory) ⊎ ((f : Fault) × (read ≡ Err f) × (e ≡ located text f))
