-- The arguments of an argument text.
use Rattle.std.specs.Prelude.{ℕ, zero, suc, ◌+◌, Option, Some, None, List, [], ◌∷◌, ◌++◌, length, map, filter, Bool, true, false, ◌&&◌, not, ◌==◌, if◌then◌else◌}
use Rattle.std.specs.List.{flat_map, list_all}
use Rattle.std.specs.Option.{option_to_list}
use Rattle.mt_text.specs.Byte.{is_white}
use Rattle.mt_syntax.specs.Comment.{bare}
use Rattle.mt_syntax.specs.Closing.{depth_after}

-- a text without its comments
abbrev pub shown : List ℕ → List ℕ
shown text = flat_map option_to_list (bare text)

-- where the byte of a number stands that no comment hides; the length of the text where there is none
unfoldable pub shown_index : List (Option ℕ) → ℕ → ℕ
shown_index [] n = 0
shown_index (None ∷ bs) n = shown_index bs n + 1
shown_index (Some b ∷ bs) zero = 0
shown_index (Some b ∷ bs) (suc n) = shown_index bs n + 1

-- White space becomes one space where something that is no white space stands right before it and
-- something stands behind it still; all other white space goes.
unfoldable pub tidy_after : Bool → List ℕ → List ℕ
tidy_after before [] = []
tidy_after before (b ∷ bs) =
    if is_white b then (if before && not (list_all is_white bs) then 32 ∷ tidy_after false bs else tidy_after false bs)
    else b ∷ tidy_after true bs

-- a byte behind others, with a space between where white space separates them
abbrev pub joined : List ℕ → Bool → ℕ → List ℕ
joined bytes gap b = if gap && not (length bytes == 0) then bytes ++ 32 ∷ b ∷ [] else bytes ++ b ∷ []

abbrev pub tidy : List ℕ → List ℕ
tidy text = tidy_after false text

-- a byte in front of the first raw
abbrev pub onto : ℕ → List (List ℕ) → List (List ℕ)
onto b [] = (b ∷ []) ∷ []
onto b (raw ∷ raws) = (b ∷ raw) ∷ raws

-- what stands between the commas outside parentheses
unfoldable pub between_commas : ℕ → List ℕ → List (List ℕ)
between_commas depth [] = [] ∷ []
between_commas depth (b ∷ bs) = if b == 44 && depth == 0 then [] ∷ between_commas depth bs else onto b (between_commas (depth_after depth b) bs)

unfoldable pub separated : List ℕ → List (List ℕ)
separated text = if list_all is_white text then [] else map tidy (between_commas 0 text)

-- arguments as they are written: a comma and a space between two
abbrev pub written : List (List ℕ) → List ℕ
written [] = []
written (a ∷ []) = a
written (a ∷ b ∷ more) = a ++ 44 ∷ 32 ∷ written (b ∷ more)

-- the bytes that are no white space
abbrev pub solid : List ℕ → List ℕ
solid text = filter (λ b. not (is_white b)) text
