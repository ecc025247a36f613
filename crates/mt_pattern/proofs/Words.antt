-- A word is read byte by byte.
use Rattle.std.proofs.Common.{◌≡◌, ℕ, suc, ◌+◌, ◌<◌, ◌≤◌, true, false, List, ◌∷◌, length, get_or, drop, refl, ap, add-one, drop-cons}
use Rattle.std.proofs.lemmas.List.{drop_all}
use Rattle.mt_pattern.specs.Lexis.{ends_word_at, word_len}

step : (byte : ℕ) (rest : List ℕ) → ends_word_at (byte ∷ rest) ≡ false → word_len (byte ∷ rest) ≡ 1 + word_len rest
unfolding word_len
step byte rest h = rw h refl

stop : (byte : ℕ) (rest : List ℕ) → ends_word_at (byte ∷ rest) ≡ true → word_len (byte ∷ rest) ≡ 0
unfolding word_len
stop byte rest h = rw h refl

pub word_more : (text : List ℕ) (i : ℕ) → ends_word_at (drop i text) ≡ false → i < length text → word_len (drop i text) ≡ 1 + word_len (drop (i + 1) text)
word_more text i h lt = let e = drop-cons text i 0 lt in rw (add-one, e) (step (get_or text i 0) (drop (suc i) text) (rw e at h))

pub word_end : (text : List ℕ) (i : ℕ) → ends_word_at (drop i text) ≡ true → i < length text → word_len (drop i text) ≡ 0
word_end text i h lt = let e = drop-cons text i 0 lt in rw e (stop (get_or text i 0) (drop (suc i) text) (rw e at h))

pub no_word : (text : List ℕ) (i : ℕ) → length text ≤ i → word_len (drop i text) ≡ 0
unfolding word_len
no_word text i h = ap word_len (drop_all i text h)
