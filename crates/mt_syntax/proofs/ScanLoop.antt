-- The tokens of a text, one place on.
use Rattle.std.proofs.Common.{◌≡◌, ℕ, zero, suc, ◌+◌, ◌-◌, ◌<◌, ◌≤◌, List, [], ◌∷◌, length, take, drop, get_or, Bool, refl, sym, ap, ◌∙◌, arith}
use Rattle.std.proofs.lemmas.List.{at_drop_more, at_drop_all}
use Rattle.mt_syntax.specs.declared.token.TokenKind.{TokenKind}
use Rattle.mt_syntax.specs.declared.token.TokenKind.TheVariants as kinds
use Rattle.mt_syntax.specs.declared.piece.Piece.{Piece}
use Rattle.mt_syntax.specs.declared.piece.Piece.TheVariants.{Blank, Taken, Wrong}
use Rattle.mt_syntax.specs.Piece.{piece_at}
use Rattle.mt_syntax.specs.Tokens.{is_name, token, tokens_from}
use Rattle.mt_syntax.proofs.HiddenComments.{to_end}

step_skip : (at : ℕ) (named : Bool) (s b : ℕ) (bs : List ℕ) → 0 < s → tokens_from at named s (b ∷ bs) ≡ tokens_from (at + 1) named (s - 1) bs
unfolding tokens_from
step_skip at named zero b bs h = absurd (omega arith)
step_skip at named (suc s) b bs h = let e : suc s - 1 ≡ s = omega arith in rw e refl

pub tokens_skip : (xs : List ℕ) (at : ℕ) (named : Bool) (s : ℕ) → at < length xs → 0 < s → tokens_from at named s (drop at xs) ≡ tokens_from (at + 1) named (s - 1) (drop (at + 1) xs)
tokens_skip xs at named s lt h = at_drop_more (tokens_from at named s) xs at 0 lt ∙ step_skip at named s (get_or xs at 0) (drop (at + 1) xs) h

pub step_blank : (at : ℕ) (named : Bool) (n b : ℕ) (bs : List ℕ) → piece_at named (b ∷ bs) ≡ Blank n → tokens_from at named 0 (b ∷ bs) ≡ tokens_from (at + 1) named (n - 1) bs
unfolding tokens_from
step_blank at named n b bs h = rw (h, tokens_from) refl

pub step_taken : (at : ℕ) (named : Bool) (kind : TokenKind) (n b : ℕ) (bs : List ℕ) → piece_at named (b ∷ bs) ≡ Taken kind n → tokens_from at named 0 (b ∷ bs) ≡ token kind at (at + n) ∷ tokens_from (at + 1) (is_name kind) (n - 1) bs
unfolding tokens_from
step_taken at named kind n b bs h = rw (h, tokens_from) refl

pub step_wrong : (at : ℕ) (named : Bool) (b : ℕ) (bs : List ℕ) → piece_at named (b ∷ bs) ≡ Wrong → tokens_from at named 0 (b ∷ bs) ≡ token kinds.Broken at at ∷ []
unfolding tokens_from
step_wrong at named b bs h = rw (h, tokens_from) refl

at_place : (xs : List ℕ) (at : ℕ) (named : Bool) (r : Piece) → at < length xs → r ≡ piece_at named (take (length xs - at) (drop at xs)) → piece_at named (get_or xs at 0 ∷ drop (at + 1) xs) ≡ r
at_place xs at named r lt e = sym (at_drop_more (piece_at named) xs at 0 lt) ∙ ap (piece_at named) (sym (to_end xs at)) ∙ sym e

pub tokens_blank : (xs : List ℕ) (at : ℕ) (named : Bool) (s n : ℕ) → at < length xs → s ≡ 0 → Blank n ≡ piece_at named (take (length xs - at) (drop at xs)) → tokens_from at named s (drop at xs) ≡ tokens_from (at + 1) named (n - 1) (drop (at + 1) xs)
tokens_blank xs at named s n lt z e = ap (λ k. tokens_from at named k (drop at xs)) z ∙ at_drop_more (tokens_from at named 0) xs at 0 lt ∙ step_blank at named n (get_or xs at 0) (drop (at + 1) xs) (at_place xs at named (Blank n) lt e)

pub tokens_taken : (xs : List ℕ) (at : ℕ) (named : Bool) (s : ℕ) (kind : TokenKind) (n : ℕ) → at < length xs → s ≡ 0 → Taken kind n ≡ piece_at named (take (length xs - at) (drop at xs)) → tokens_from at named s (drop at xs) ≡ token kind at (at + n) ∷ tokens_from (at + 1) (is_name kind) (n - 1) (drop (at + 1) xs)
tokens_taken xs at named s kind n lt z e = ap (λ k. tokens_from at named k (drop at xs)) z ∙ at_drop_more (tokens_from at named 0) xs at 0 lt ∙ step_taken at named kind n (get_or xs at 0) (drop (at + 1) xs) (at_place xs at named (Taken kind n) lt e)

pub tokens_wrong : (xs : List ℕ) (at : ℕ) (named : Bool) (s : ℕ) → at < length xs → s ≡ 0 → Wrong ≡ piece_at named (take (length xs - at) (drop at xs)) → tokens_from at named s (drop at xs) ≡ token kinds.Broken at at ∷ []
tokens_wrong xs at named s lt z e = ap (λ k. tokens_from at named k (drop at xs)) z ∙ at_drop_more (tokens_from at named 0) xs at 0 lt ∙ step_wrong at named (get_or xs at 0) (drop (at + 1) xs) (at_place xs at named Wrong lt e)

pub tokens_end : (xs : List ℕ) (at : ℕ) (named : Bool) (s : ℕ) → length xs ≤ at → tokens_from at named s (drop at xs) ≡ token kinds.Finish at at ∷ []
unfolding tokens_from
tokens_end xs at named zero le = at_drop_all (tokens_from at named zero) xs at le
tokens_end xs at named (suc s) le = at_drop_all (tokens_from at named (suc s)) xs at le
