-- The first element that passes a test, with the list before the test, so that antt knows the elements' type.
use Rattle.std.proofs.Common.{◌≡◌, ◌<◌, ◌∙◌, ℕ, Bool, true, List, Some, None, length, get_or, position, sym, ap}
use Rattle.std.proofs.lemmas.Option.{slice_get-get_or}
use Rattle.mt_lists.proofs.Positions.{NoneBefore, found, missing}

pub found_in : {X : Type 0} (xs : List X) (p : X → Bool) (i : ℕ) (x : X) → NoneBefore p xs i → i < length xs → x ≡ get_or xs i x → p x ≡ true → Some i ≡ position p xs
found_in xs p i x before lt is passes = sym (found p xs i x before (slice_get-get_or xs i x lt ∙ ap Some (sym is)) passes)

pub missing_in : {X : Type 0} (xs : List X) (p : X → Bool) (i : ℕ) → i ≡ length xs → NoneBefore p xs i → None ≡ position p xs
missing_in xs p i all before = sym (missing p xs i all before)
