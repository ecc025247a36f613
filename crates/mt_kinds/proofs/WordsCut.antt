-- The words of an argument, and the argument that words are.
use Rattle.std.proofs.Common.{◌≡◌, ◌∙◌, sym, ap, subst, ℕ, zero, suc, ◌<◌, List, [], ◌∷◌, ◌++◌, ◌+◌, All, length, refl, length-append, arith}
use Rattle.std.specs.Prelude.{◌==◌}
use Rattle.std.specs.List.{join_with_byte}
use Rattle.std.proofs.lemmas.List.Elements.{All-nil, All-cons}
use Rattle.std.proofs.lemmas.List.Splits.{slice_split_at, slice_split_none, join_with_byte-slice_split}
use Rattle.mt_lists.specs.Cuts.{HasNo}
use Rattle.mt_lists.proofs.Cuts.{Cut, whole, parts, cut}
use Rattle.mt_kinds.specs.Arguments.{words_of}
use Rattle.mt_kinds.specs.RewriterSpelling.{AreWords}

pub one_word : (text : List ℕ) → HasNo 32 text → words_of text ≡ text ∷ []
one_word text none = slice_split_none (λ byte. byte == 32) text none

pub more_words : (front rest : List ℕ) → HasNo 32 front → words_of (front ++ 32 ∷ rest) ≡ front ∷ words_of rest
more_words front rest none = slice_split_at (λ byte. byte == 32) front 32 rest none refl

-- the words of joined words
words_joined : (word : List ℕ) (words : List (List ℕ)) → All (HasNo 32) (word ∷ words) → words_of (join_with_byte 32 (word ∷ words)) ≡ word ∷ words
words_joined word [] none = one_word word (none 0 word (omega arith))
words_joined word (next ∷ words) none =
    more_words word (join_with_byte 32 (next ∷ words)) (none 0 word (omega arith))
    ∙ ap (λ l. word ∷ l) (words_joined next words (λ k d within. none (suc k) d (omega (arith, within))))

pub words_given : (word : List ℕ) (words : List (List ℕ)) (text : List ℕ) → AreWords (word ∷ words) text → words_of text ≡ word ∷ words
words_given word words text are = ap words_of are.0 ∙ words_joined word words are.1

-- no word has a space
spaceless : (most : ℕ) (text : List ℕ) → length text < most → All (HasNo 32) (words_of text)
spaceless zero text within = absurd (omega arith)
spaceless (suc most) text within = by_cut (spaceless most) (cut 32 text)
  where
    by_cut : ((rest : List ℕ) → length rest < most → All (HasNo 32) (words_of rest)) → Cut 32 text → All (HasNo 32) (words_of text)
    by_cut later (whole none) = subst (All (HasNo 32)) (sym (one_word text none)) (All-cons (HasNo 32) text [] none (All-nil (HasNo 32)))
    by_cut later (parts front rest is none) =
        let shorter : length text ≡ length front + suc (length rest) = ap length is ∙ length-append front (32 ∷ rest) in
        subst (All (HasNo 32)) (sym (ap words_of is ∙ more_words front rest none)) (All-cons (HasNo 32) front (words_of rest) none (later rest (omega (arith, shorter, within))))

pub words_are : (text : List ℕ) → AreWords (words_of text) text
words_are text = (sym (join_with_byte-slice_split 32 text), spaceless (suc (length text)) text (omega arith))
