-- The words that bind a device: `in:DEVICE=FILE` and `out:DEVICE=FILE`. The device ends at the first `=`. The
-- file is all that stands behind it: it may be empty or have further `=`.
use Rattle.std.specs.Prelude.{◌≡◌, ℕ, ◌==◌, nat_eq, nat_lt, Bool, ◌&&◌, ◌||◌, if◌then◌else◌, List, ◌∷◌, ◌++◌, length, drop, codes, Option, Some, None}
use Rattle.std.specs.List.{position_or_len, before_first, after_first, starts_with}
use Rattle.mt_lists.specs.Cuts.{HasNo}
use Rattle.mt_command.specs.declared.binding.Side.{Side}
use Rattle.mt_command.specs.declared.binding.Side.TheVariants.{In, Out}
use Rattle.mt_command.specs.Parts.{BindingView}

-- what stands in front of a device that is bound on a side
abbrev pub mark_of : Side → List ℕ
mark_of In = codes "in:"
mark_of Out = codes "out:"

-- the sign between a device and its file
abbrev pub is_equals : ℕ → Bool
is_equals byte = byte == 61

-- the word binds a device on a side: there is a `=`, and the mark of the side stands before the first
unfoldable pub binds_on : Side → List ℕ → Bool
binds_on side word =
    nat_lt (position_or_len is_equals word) (length word) && starts_with nat_eq (before_first is_equals word) (mark_of side)

unfoldable pub is_binding : List ℕ → Bool
is_binding word = binds_on In word || binds_on Out word

abbrev pub bound_file : List ℕ → List ℕ
bound_file word = after_first is_equals word

abbrev pub bound_on : Side → ℕ → List ℕ → BindingView
bound_on side number word = record {
  side = side;
  device = drop (length (mark_of side)) (before_first is_equals word);
  file = bound_file word;
  word = number;
}

-- the binding that the word of a number is
unfoldable pub binding_of : ℕ → List ℕ → Option BindingView
binding_of number word =
    if binds_on In word then Some (bound_on In number word)
    else if binds_on Out word then Some (bound_on Out number word)
    else None

-- the same as it is written: the mark of the side, the device, `=` and the file
pub record IsBinding (text : List ℕ) (b : BindingView) : Type 0 where
  pub written : text ≡ mark_of b.side ++ b.device ++ 61 ∷ b.file
  pub ends : HasNo 61 b.device
