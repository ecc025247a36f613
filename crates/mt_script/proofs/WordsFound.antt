-- The first word of a line, cut off.
use Rattle.std.proofs.Common.{◌≡◌, ◌∙◌, ap, refl, ℕ, suc, ◌+◌, ◌-◌, ◌<◌, true, false, ltb, cond, Bool, List, [], ◌∷◌, length, take, drop, length-take, arith}
use Rattle.std.specs.List.{slice_split, onto_first, filter, prefix_len}
use Rattle.std.proofs.lemmas.Bool.Decides.{nat_tests}
use Rattle.std.proofs.lemmas.List.{take_rest}
use Rattle.std.proofs.lemmas.List.Sums.{prefix_len-le-length}
use Rattle.mt_script.specs.Script.{is_blank, is_solid, is_word, words_of}

one_more : (n : ℕ) → 1 + n ≡ suc n
one_more n = omega arith

-- ---- blanks in front

pub blanks_off : (line : List ℕ) → words_of (drop (prefix_len is_blank line) line) ≡ words_of line
unfolding words_of
blanks_off [] = refl
blanks_off (byte ∷ line) = by_test (is_blank byte) refl (blanks_off line)
  where
    by_test : (b : Bool) → is_blank byte ≡ b → words_of (drop (prefix_len is_blank line) line) ≡ words_of line → words_of (drop (prefix_len is_blank (byte ∷ line)) (byte ∷ line)) ≡ words_of (byte ∷ line)
    by_test true e later = rw (e, one_more (prefix_len is_blank line)) later
    by_test false e later = let none : prefix_len is_blank (byte ∷ line) ≡ 0 = rw e refl in ap (λ n. words_of (drop n (byte ∷ line))) none

pub solid_left : (line : List ℕ) → 0 < length (drop (prefix_len is_blank line) line) → 0 < prefix_len is_solid (drop (prefix_len is_blank line) line)
solid_left [] some = absurd (omega arith)
solid_left (byte ∷ line) some = by_test (is_blank byte) refl (solid_left line) some
  where
    by_test : (b : Bool) → is_blank byte ≡ b → (0 < length (drop (prefix_len is_blank line) line) → 0 < prefix_len is_solid (drop (prefix_len is_blank line) line))
        → 0 < length (drop (prefix_len is_blank (byte ∷ line)) (byte ∷ line)) → 0 < prefix_len is_solid (drop (prefix_len is_blank (byte ∷ line)) (byte ∷ line))
    by_test true e later h = rw (e, one_more (prefix_len is_blank line)) (later (rw (e, one_more (prefix_len is_blank line)) at h))
    by_test false e later h = rw (e, e) (omega arith)

-- ---- a word in front

-- the first piece, and the words behind it
record FirstPiece (line : List ℕ) : Type 0 where
  others : List (List ℕ)
  pieces : slice_split is_blank line ≡ take (prefix_len is_solid line) line ∷ others
  behind : filter is_word others ≡ words_of (drop (prefix_len is_solid line) line)

first_piece : (line : List ℕ) → FirstPiece line
unfolding words_of
first_piece [] = record { others = []; pieces = refl; behind = refl }
first_piece (byte ∷ line) = by_test (is_blank byte) refl (first_piece line)
  where
    by_test : (b : Bool) → is_blank byte ≡ b → FirstPiece line → FirstPiece (byte ∷ line)
    by_test true e later = record { others = slice_split is_blank line; pieces = rw e refl; behind = rw (e, e) refl }
    by_test false e later = record {
      others = later.others;
      pieces = rw (e, one_more (prefix_len is_solid line)) (ap (onto_first byte) later.pieces);
      behind = rw (e, one_more (prefix_len is_solid line)) later.behind;
    }

some_front : (line : List ℕ) → 0 < prefix_len is_solid line → 0 < length (take (prefix_len is_solid line) line)
some_front line some = omega (arith, length-take (prefix_len is_solid line) line, prefix_len-le-length is_solid line)

pub word_off : (line : List ℕ) → 0 < prefix_len is_solid line → words_of line ≡ take (prefix_len is_solid line) line ∷ words_of (drop (prefix_len is_solid line) line)
unfolding words_of
word_off line some =
    let front : List ℕ = take (prefix_len is_solid line) line in
    let piece = first_piece line in
    let h = some_front line some in
    let filled : ltb 0 (length front) ≡ true = grind (arith, nat_tests) in
    ap (filter is_word) piece.pieces
    ∙ ap (λ b. cond b (front ∷ filter is_word piece.others) (filter is_word piece.others)) filled
    ∙ ap (λ words. front ∷ words) piece.behind

pub word_found : (line : List ℕ) (n : ℕ) → n ≡ prefix_len is_solid line → 0 < prefix_len is_solid line
    → (0 < length (take n line)) × (words_of line ≡ take n line ∷ words_of (take (length line - n) (drop n line)))
word_found line n is some = rw (take_rest line n, is) ((some_front line some, word_off line some))

pub no_words : (line : List ℕ) → length line ≡ 0 → words_of line ≡ []
unfolding words_of
no_words [] none = refl
no_words (byte ∷ line) none = absurd (omega arith)
