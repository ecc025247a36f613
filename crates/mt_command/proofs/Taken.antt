-- An operand is taken, or is the first word at fault.
use Rattle.std.proofs.Common.{◌≡◌, ℕ, ◌<◌, Bool, true, false, ◌||◌, not, List, [], ◌∷◌, ◌++◌, length, map}
use Rattle.std.specs.Prelude.{Result, Ok, Err, IfOk}
use Rattle.std.specs.Bool.{OnTrue}
use Rattle.std.specs.Option.{option_map_or}
use Rattle.std.specs.Str.{bytes_eq}
use Rattle.mt_command.specs.declared.operands.Operands.{Operands}
use Rattle.mt_command.specs.declared.reader.Kind.TheVariants.{Operand}
use Rattle.mt_command.specs.declared.reader.Reader.{Reader}
use Rattle.mt_command.specs.Parts.{binding_view}
use Rattle.mt_command.specs.Reading.{kind_of, said_by, awaits_value, holds, bound_at, Reads, HasTaken}
use Rattle.mt_command.specs.Words.{word_at, is_wrong, file_in}
use Rattle.mt_command.proofs.Steps.{wrong_at_fault, read_operand}

module _ (names words : List (List ℕ)) (n : ℕ) (old : Reader) (word : List ℕ) (read : Reads names words n old) (within : n < length words) (is : word ≡ word_at words n)
    (kind : kind_of (awaits_value (said_by old.ports)) old.behind word ≡ Operand) (now : Operands) where
  pub operand_taken : {E : Type 0} (r : Result Bool E)
      → IfOk r (λ right. is_wrong (holds old.operands.files) (length old.operands.numbers.items) word ≡ not right)
      → IfOk r (λ right. OnTrue right (now.numbers.items ≡ old.operands.numbers.items ++ n ∷ []))
      → IfOk r (λ right. OnTrue right ((file : List ℕ) → holds now.files file
      ≡ (holds old.operands.files file || option_map_or (bytes_eq file) (file_in (length old.operands.numbers.items) word) false)))
      → IfOk r (λ right. OnTrue right (map binding_view now.bindings.items
      ≡ map binding_view old.operands.bindings.items ++ bound_at (length old.operands.numbers.items) n word))
      → IfOk r (HasTaken names words n (record { behind = old.behind; ports = old.ports; operands = now }))
  operand_taken (Ok true) right added named bound =
      read_operand names words n old.behind (said_by old.ports) old.operands.numbers.items (holds old.operands.files) (map binding_view old.operands.bindings.items) word read within is kind
      now.numbers.items (holds now.files) (map binding_view now.bindings.items) right added named bound
  operand_taken (Ok false) right added named bound =
      wrong_at_fault names words n old.behind (said_by old.ports) old.operands.numbers.items (holds old.operands.files) (map binding_view old.operands.bindings.items) word read within is kind right
  operand_taken (Err e) right added named bound = tt
