-- Parameters in argument texts whose comments are gone: as a function, and as a relation of texts.
use Rattle.std.specs.Prelude.{◌≡◌, ℕ, zero, suc, ◌+◌, List, [], ◌∷◌, ◌++◌, take, drop, Option, Some, None, is_some, Bool, false, ◌&&◌, not, ◌==◌, slice_index, if◌then◌else◌}
use Rattle.std.specs.Option.{option_map}
use Rattle.std.specs.Str.{bytes_eq}
use Rattle.mt_syntax.specs.declared.replacing.Binding.{Binding}
use Rattle.mt_text.specs.Byte.{is_letter}
use Rattle.mt_syntax.specs.Piece.{name_len}
use Rattle.mt_syntax.specs.Spelled.{IsWord}

-- the argument of a parameter; of equal names the first counts
abbrev pub argument_for : List Binding → List ℕ → Option (List ℕ)
argument_for [] name = None
argument_for (b ∷ bs) name = if bytes_eq b.name name then Some b.argument else argument_for bs name

-- `$` and an identifier stand at the front
abbrev pub is_parameter : List ℕ → Bool
is_parameter [] = false
is_parameter (b ∷ bs) = b == 36 && is_letter (slice_index bs 0)

-- the identifier behind the `$`
abbrev pub parameter_name : List ℕ → List ℕ
parameter_name bytes = take (name_len (drop 1 bytes)) (drop 1 bytes)

-- the argument that stands for the parameter at the front
unfoldable pub argument_at : List Binding → List ℕ → Option (List ℕ)
argument_at bindings bytes = if is_parameter bytes then argument_for bindings (parameter_name bytes) else None

-- The text with the argument in place of each parameter; a `$` name that is none stays as it is. Of a
-- name that was replaced `skip` bytes are still ahead.
unfoldable pub replaced_from : List Binding → ℕ → List ℕ → List ℕ
replaced_from bindings skip [] = []
replaced_from bindings (suc skip) (b ∷ bs) = replaced_from bindings skip bs
replaced_from bindings zero (b ∷ bs) =
    elim (argument_at bindings (b ∷ bs)) [ None ↦ b ∷ replaced_from bindings 0 bs | Some argument ↦ argument ++ replaced_from bindings (name_len bs) bs ]

abbrev pub replaced_in : List Binding → List ℕ → List ℕ
replaced_in bindings text = replaced_from bindings 0 text

-- a `$` name that is no parameter stands at the front
abbrev pub is_unknown_at : List Binding → List ℕ → Bool
is_unknown_at bindings bytes = is_parameter bytes && not (is_some (argument_at bindings bytes))

-- where the first `$` name stands that is no parameter
unfoldable pub unknown_in : List Binding → List ℕ → Option ℕ
unknown_in bindings [] = None
unknown_in bindings (b ∷ bs) =
    if is_unknown_at bindings (b ∷ bs) then Some 0 else option_map (λ n. n + 1) (unknown_in bindings bs)

-- A name that has an argument, and what stands behind it: the name does not end within a longer one.
abbrev pub HasArgument : List Binding → List ℕ → List ℕ → List ℕ → Type 0
HasArgument bindings name argument rest = IsWord name rest × (argument_for bindings name ≡ Some argument)

-- A text with the argument in place of each `$` and name that has one, and each other byte as it is. What stands
-- in an argument is not replaced again.
pub data IsReplaced : List Binding → List ℕ → List ℕ → Type 0 where
  ends : (bindings : List Binding) → IsReplaced bindings [] []
  name : (bindings : List Binding) (name argument rest out : List ℕ) → HasArgument bindings name argument rest → IsReplaced bindings rest out → IsReplaced bindings (36 ∷ (name ++ rest)) (argument ++ out)
  other : (bindings : List Binding) (b : ℕ) (rest out : List ℕ) → ((name argument behind : List ℕ) → b ∷ rest ≡ 36 ∷ (name ++ behind) → HasArgument bindings name argument behind → ⊥) → IsReplaced bindings rest out → IsReplaced bindings (b ∷ rest) (b ∷ out)
