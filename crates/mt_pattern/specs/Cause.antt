-- What is told of a text.
use Rattle.std.specs.Prelude.{◌≡◌, ◌↔◌, ℕ, List, Result, Ok, Err}
use Rattle.mt_pattern.specs.declared.pattern.Pattern.{Pattern}
use Rattle.mt_pattern.specs.declared.parse.PatternFault.{PatternFault}
use Rattle.mt_pattern.specs.declared.parse.PatternFault.TheVariants.{Bad, NoMemory}
use Rattle.mt_pattern.specs.Grammar.{IsPattern, IsWrongAt}

-- the text is this pattern and no other
abbrev pub IsOnlyPattern : List ℕ → Pattern → Type 0
IsOnlyPattern text found = (p : Pattern) → (found ≡ p) ↔ IsPattern text p

-- the text goes wrong there and nowhere else; for want of memory it may be any text
abbrev pub IsCause : List ℕ → PatternFault → Type 0
IsCause text (Bad at) = (offset : ℕ) → (at ≡ offset) ↔ IsWrongAt text offset
IsCause text NoMemory = Unit {0}

-- the answer is the one that is due, or want of memory
abbrev pub Tells : Result Pattern ℕ → Result Pattern PatternFault → Type 0
Tells due (Ok p) = due ≡ Ok p
Tells due (Err (Bad at)) = due ≡ Err at
Tells due (Err NoMemory) = Unit {0}
