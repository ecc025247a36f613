-- The first line of a text, cut off.
use Rattle.std.proofs.Common.{◌≡◌, ◌∙◌, sym, ap, refl, ℕ, ◌+◌, ◌-◌, ◌<◌, false, cond, eqb, List, [], ◌∷◌, ◌++◌, length, take, drop, position, Some, None, arith}
use Rattle.std.specs.List.{slice_split}
use Rattle.std.specs.Str.Lines.{strip_carriage_return, lines_of_parts}
use Rattle.std.proofs.lemmas.Bool.Decides.{nat_tests}
use Rattle.std.proofs.lemmas.List.{take_rest, drop_all}
use Rattle.std.proofs.lemmas.List.Splits.{slice_split_at, slice_split_none, length-slice_split}
use Rattle.mt_lists.specs.Cuts.{HasNo}
use Rattle.mt_lists.proofs.Cuts.{Cut, whole, parts, cut, index_in, no_index, before, behind}
use Rattle.mt_script.specs.Script.{is_line_feed, lines_of}

front_part : (x : List ℕ) (pieces : List (List ℕ)) → 0 < length pieces → lines_of_parts (x ∷ pieces) ≡ strip_carriage_return x ∷ lines_of_parts pieces
front_part x [] some = absurd (omega arith)
front_part x (y ∷ pieces) some = refl

pub some_piece : (text : List ℕ) → 0 < length (slice_split is_line_feed text)
some_piece text = omega (arith, length-slice_split is_line_feed text)

-- a line that is ended
pub line_off : (front rest : List ℕ) → HasNo 10 front → lines_of (front ++ 10 ∷ rest) ≡ strip_carriage_return front ∷ lines_of rest
line_off front rest none =
    ap lines_of_parts (slice_split_at is_line_feed front 10 rest none refl) ∙ front_part front (slice_split is_line_feed rest) (some_piece rest)

-- a last line without an end
pub last_line : (text : List ℕ) → 0 < length text → HasNo 10 text → lines_of text ≡ text ∷ []
last_line text some none =
    let filled : eqb (length text) 0 ≡ false = grind (arith, nat_tests) in
    ap lines_of_parts (slice_split_none is_line_feed text none) ∙ ap (λ b. cond b [] (text ∷ [])) filled

pub line_found : (text : List ℕ) (end : ℕ) → position is_line_feed text ≡ Some end → lines_of text ≡ strip_carriage_return (take end text) ∷ lines_of (take (length text - (end + 1)) (drop (end + 1) text))
line_found text end found = by_cut (cut 10 text)
  where
    by_cut : Cut 10 text → lines_of text ≡ strip_carriage_return (take end text) ∷ lines_of (take (length text - (end + 1)) (drop (end + 1) text))
    by_cut (whole none) = absurd (let e : Some end ≡ None = sym found ∙ no_index 10 text none in cc)
    by_cut (parts front rest is none) =
        let e : Some end ≡ Some (length front) = sym found ∙ ap (position is_line_feed) is ∙ index_in 10 front rest none in
        let place : end ≡ length front = cc in
        rw (take_rest text (end + 1), is, place, before 10 front rest, behind 10 front rest) (line_off front rest none)

pub no_line_found : (text : List ℕ) → 0 < length text → position is_line_feed text ≡ None → lines_of text ≡ text ∷ lines_of (take (length text - length text) (drop (length text) text))
no_line_found text some found = by_cut (cut 10 text)
  where
    nothing_left : lines_of (take (length text - length text) (drop (length text) text)) ≡ []
    nothing_left = rw (take_rest text (length text), drop_all (length text) text (omega arith)) refl

    by_cut : Cut 10 text → lines_of text ≡ text ∷ lines_of (take (length text - length text) (drop (length text) text))
    by_cut (whole none) = last_line text some none ∙ ap (λ l. text ∷ l) (sym nothing_left)
    by_cut (parts front rest is none) = absurd (let e : None ≡ Some (length front) = sym found ∙ ap (position is_line_feed) is ∙ index_in 10 front rest none in cc)
