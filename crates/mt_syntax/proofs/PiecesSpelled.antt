-- What a piece is spelled like.
use Rattle.std.proofs.Common.{◌≡◌, ℕ, zero, suc, ◌+◌, ◌<◌, ◌≤◌, List, [], ◌∷◌, ◌++◌, length, take, drop, get_or, cond, eqb, ltb, Bool, true, false, ◌&&◌, Option, Some, None, refl, sym, ap, subst, ◌∙◌, inl, inr, arith, length-take, min}
use Rattle.std.specs.Prelude.{IsTrue, codes}
use Rattle.std.specs.List.{AllByRecursion, prefix_len}
use Rattle.std.specs.Str.{bytes_eq}
use Rattle.std.proofs.lemmas.Bool.{eqb-true}
use Rattle.std.proofs.lemmas.Bool.Decides.{nat_tests}
use Rattle.std.proofs.lemmas.Slice.Eq.{bytes_eq-Decides}
use Rattle.std.proofs.lemmas.List.Sums.{prefix_len-le-length}
use Rattle.std.proofs.Math.Seq.{take-append_seam, drop-append_seam}
use Rattle.mt_lists.proofs.Bools.{and_true}
use Rattle.mt_syntax.specs.declared.comment.Comment.{Comment}
use Rattle.mt_syntax.specs.declared.comment.Comment.TheVariants.{Absent, Closed, Open}
use Rattle.mt_syntax.specs.declared.token.TokenKind.TheVariants as kinds
use Rattle.mt_syntax.specs.declared.piece.Piece.{Piece}
use Rattle.mt_syntax.specs.declared.piece.Piece.TheVariants.{Blank, Taken, Wrong}
use Rattle.mt_text.specs.Byte.{is_white, is_letter, is_digit, is_name_byte}
use Rattle.mt_syntax.specs.Comment.{comment_at, hidden, bare}
use Rattle.mt_syntax.specs.Closing.{closing, plain_len}
use Rattle.mt_syntax.specs.Piece.{name_len, digits_len, word_at, digits_at, parameter_at, arguments_to, arguments_at, pair_at, mark_of, mark_at, plain_at, piece_at}
use Rattle.mt_syntax.specs.Spelled.{Stops, IsBlank, IsIdentifier, IsWord, IsToken, IsArgumentText}
use Rattle.mt_syntax.proofs.CommentsSpelled.{front_passes, taken_first, stops_behind, comment_is}
use Rattle.mt_syntax.proofs.ArgumentsSpelled.{argument_is}

-- what a piece is at the front of a text
abbrev pub IsPiece : Bool → Piece → List ℕ → Type 0
IsPiece named (Blank n) bytes = IsBlank (take n bytes) (drop n bytes)
IsPiece named (Taken kind n) bytes = IsToken named kind (take n bytes) (drop n bytes)
IsPiece named Wrong bytes = Unit {0}

by_test : (named t : Bool) (x y : Piece) (bytes : List ℕ) → (t ≡ true → IsPiece named x bytes) → (t ≡ false → IsPiece named y bytes) → IsPiece named (cond t x y) bytes
by_test named true x y bytes a b = a refl
by_test named false x y bytes a b = b refl

letter_goes_on : (b : ℕ) → is_letter b ≡ true → is_name_byte b ≡ true
letter_goes_on b h = rw h refl

pub word_front : (b : ℕ) (bs : List ℕ) → is_letter b ≡ true → IsWord (take (name_len (b ∷ bs)) (b ∷ bs)) (drop (name_len (b ∷ bs)) (b ∷ bs))
word_front b bs h =
    let e : take (name_len (b ∷ bs)) (b ∷ bs) ≡ b ∷ take (name_len bs) bs = taken_first is_name_byte b bs (letter_goes_on b h) in
    (subst IsIdentifier (sym e) (h, front_passes is_name_byte bs), stops_behind is_name_byte (b ∷ bs))

word_is : (named : Bool) (bytes : List ℕ) → is_letter (get_or bytes 0 0) ≡ true → IsPiece named (word_at bytes) bytes
unfolding word_at
word_is named [] h = absurd cc
word_is named (b ∷ bs) h =
    let w = take (name_len (b ∷ bs)) (b ∷ bs) in
    let d = bytes_eq-Decides w (codes "elementclass") in
    by_test named (bytes_eq w (codes "elementclass")) (Taken kinds.Keyword (name_len (b ∷ bs))) (Taken kinds.Name (name_len (b ∷ bs))) (b ∷ bs)
    (λ t. (word_front b bs h, d.0 t))
    (λ f. (word_front b bs h, λ e. (let x : true ≡ false = sym (d.1 e) ∙ f in absurd cc)))

upto_at : (p : ℕ → Bool) (x m : ℕ) (xs : List ℕ) (t : Bool) → p x ≡ t → suc m ≤ cond t (1 + prefix_len p xs) 0 → (m ≤ prefix_len p xs → AllByRecursion (λ c. IsTrue (p c)) (take m xs)) → AllByRecursion (λ c. IsTrue (p c)) (take (suc m) (x ∷ xs))
upto_at p x m xs true e h more = (e, more (omega arith))
upto_at p x m xs false e h more = absurd (omega arith)

front_upto : (p : ℕ → Bool) (xs : List ℕ) (m : ℕ) → m ≤ prefix_len p xs → AllByRecursion (λ c. IsTrue (p c)) (take m xs)
front_upto p [] zero h = tt
front_upto p [] (suc m) h = absurd (omega arith)
front_upto p (x ∷ xs) zero h = tt
front_upto p (x ∷ xs) (suc m) h = upto_at p x m xs (p x) refl h (front_upto p xs m)

digits_is : (named : Bool) (bytes : List ℕ) → is_digit (get_or bytes 0 0) ≡ true → IsPiece named (digits_at bytes) bytes
unfolding digits_at
digits_is named [] h = absurd cc
digits_is named (b ∷ bs) h =
    let d : digits_len (b ∷ bs) ≡ 1 + digits_len bs = rw h refl in
    let n = digits_len (b ∷ bs) in
    let m = min n 9 in
    let l = length-take m (b ∷ bs) in
    let w = prefix_len-le-length is_digit (b ∷ bs) in
    ((omega (arith, l, d), omega (arith, l, d), front_upto is_digit (b ∷ bs) m (omega arith), λ few. (let e : n ≡ m = omega (arith, l, w) in subst (λ k. Stops is_digit (drop k (b ∷ bs))) e (stops_behind is_digit (b ∷ bs)))), refl)

one_more : (n b : ℕ) (bs : List ℕ) → take (1 + n) (b ∷ bs) ≡ b ∷ take n bs
one_more n b bs = let k : 1 + n ≡ suc n = omega arith in rw k refl

one_less : (n b : ℕ) (bs : List ℕ) → drop (1 + n) (b ∷ bs) ≡ drop n bs
one_less n b bs = let k : 1 + n ≡ suc n = omega arith in rw k refl

parameter_is : (named : Bool) (bytes : List ℕ) → get_or bytes 0 0 ≡ 36 → IsPiece named (parameter_at bytes) bytes
unfolding parameter_at
parameter_is named [] e = absurd cc
parameter_is named (x ∷ []) e =
    by_test named (ltb 1 (length (x ∷ [])) && is_letter 0) (Taken kinds.Parameter (1 + name_len [])) Wrong (x ∷ []) (λ t. absurd (let q = (and_true (ltb 1 1) (is_letter 0) t).1 in (let r : is_letter 0 ≡ true = q in cc))) (λ _. tt)
parameter_is named (x ∷ y ∷ bs) e =
    let n = name_len (y ∷ bs) in
    by_test named (ltb 1 (length (x ∷ y ∷ bs)) && is_letter y) (Taken kinds.Parameter (1 + n)) Wrong (x ∷ y ∷ bs)
    (λ t. (take n (y ∷ bs), one_more n x (y ∷ bs) ∙ ap (λ k. k ∷ take n (y ∷ bs)) e, subst (IsWord (take n (y ∷ bs))) (sym (one_less n x (y ∷ bs))) (word_front y bs (and_true (ltb 1 (length (x ∷ y ∷ bs))) (is_letter y) t).1)))
    (λ _. tt)

arguments_to_is : (o : Option ℕ) (b : ℕ) (bs : List ℕ) → b ≡ 40 → closing 0 (hidden 0 bs) ≡ o → IsPiece true (arguments_to o (plain_len (hidden 0 bs))) (b ∷ bs)
arguments_to_is None b bs e c = tt
arguments_to_is (Some n) b bs e c =
    let r = argument_is bs n c in
    let m = min n (plain_len (hidden 0 bs)) in
    let t : take m bs ≡ r.0 = ap (take m) r.2 ∙ ap (λ k. take k (r.0 ++ r.1)) (sym r.3) ∙ take-append_seam r.0 r.1 in
    let d : drop m bs ≡ r.1 = ap (drop m) r.2 ∙ ap (λ k. drop k (r.0 ++ r.1)) (sym r.3) ∙ drop-append_seam r.0 r.1 in
    (r.0, one_more m b bs ∙ ap (λ k. k ∷ take m bs) e ∙ ap (λ (z : List ℕ). 40 ∷ z) t, refl, subst (IsArgumentText r.0) (sym (one_less m b bs ∙ d)) r.4)

arguments_is : (bytes : List ℕ) → get_or bytes 0 0 ≡ 40 → IsPiece true (arguments_at bytes) bytes
unfolding arguments_at
arguments_is [] e = absurd cc
arguments_is (b ∷ bs) e = arguments_to_is (closing 0 (bare bs)) b bs e refl

two_bytes : (bytes : List ℕ) (first second : ℕ) → ltb 1 (length bytes) ≡ true → get_or bytes 0 0 ≡ first → get_or bytes 1 0 ≡ second → take 2 bytes ≡ first ∷ second ∷ []
two_bytes [] first second long a b = absurd (grind (arith, nat_tests))
two_bytes (x ∷ []) first second long a b = absurd (grind (arith, nat_tests))
two_bytes (x ∷ y ∷ bs) first second long a b = ap (λ k. k ∷ y ∷ []) a ∙ ap (λ k. first ∷ k ∷ []) b

colons_is : (named : Bool) (bytes : List ℕ) → get_or bytes 0 0 ≡ 58 → IsPiece named (pair_at 58 kinds.Colons bytes) bytes
unfolding pair_at
colons_is named bytes e =
    by_test named (ltb 1 (length bytes) && eqb (get_or bytes 1 0) 58) (Taken kinds.Colons 2) Wrong bytes (λ t. let q = and_true (ltb 1 (length bytes)) (eqb (get_or bytes 1 0) 58) t in two_bytes bytes 58 58 q.0 e (eqb-true _ _ q.1)) (λ _. tt)

arrow_is : (named : Bool) (bytes : List ℕ) → get_or bytes 0 0 ≡ 45 → IsPiece named (pair_at 62 kinds.Arrow bytes) bytes
unfolding pair_at
arrow_is named bytes e =
    by_test named (ltb 1 (length bytes) && eqb (get_or bytes 1 0) 62) (Taken kinds.Arrow 2) Wrong bytes (λ t. let q = and_true (ltb 1 (length bytes)) (eqb (get_or bytes 1 0) 62) t in two_bytes bytes 45 62 q.0 e (eqb-true _ _ q.1)) (λ _. tt)

one_byte : (bytes : List ℕ) (b : ℕ) → 0 < length bytes → eqb (get_or bytes 0 0) b ≡ true → take 1 bytes ≡ b ∷ []
one_byte [] b long e = absurd (omega arith)
one_byte (x ∷ bs) b long e = ap (λ k. k ∷ []) (eqb-true x b e)

mark_is : (named : Bool) (bytes : List ℕ) → 0 < length bytes → IsPiece named (mark_of (get_or bytes 0 0)) bytes
unfolding mark_of
mark_is named bytes long =
    let b = get_or bytes 0 0 in
    by_test named (eqb b 91) (Taken kinds.LeftBracket 1) _ bytes (one_byte bytes 91 long) (λ _.
    by_test named (eqb b 93) (Taken kinds.RightBracket 1) _ bytes (one_byte bytes 93 long) (λ _.
    by_test named (eqb b 123) (Taken kinds.LeftBrace 1) _ bytes (one_byte bytes 123 long) (λ _.
    by_test named (eqb b 125) (Taken kinds.RightBrace 1) _ bytes (one_byte bytes 125 long) (λ _.
    by_test named (eqb b 124) (Taken kinds.Bar 1) _ bytes (one_byte bytes 124 long) (λ _.
    by_test named (eqb b 59) (Taken kinds.Semicolon 1) _ bytes (one_byte bytes 59 long) (λ _.
    by_test named (eqb b 44) (Taken kinds.Comma 1) Wrong bytes (one_byte bytes 44 long) (λ _. tt)))))))

named_is : (named : Bool) (bytes : List ℕ) → get_or bytes 0 0 ≡ 40 → IsPiece named (cond named (arguments_at bytes) Wrong) bytes
named_is true bytes e = arguments_is bytes e
named_is false bytes e = tt

mark_at_is : (named : Bool) (bytes : List ℕ) → 0 < length bytes → IsPiece named (mark_at named bytes) bytes
unfolding mark_at
mark_at_is named bytes long =
    let b = get_or bytes 0 0 in
    by_test named (eqb b 40) (cond named (arguments_at bytes) Wrong) _ bytes (λ t. named_is named bytes (eqb-true _ _ t)) (λ _.
    by_test named (eqb b 36) (parameter_at bytes) _ bytes (λ t. parameter_is named bytes (eqb-true _ _ t)) (λ _.
    by_test named (eqb b 58) (pair_at 58 kinds.Colons bytes) _ bytes (λ t. colons_is named bytes (eqb-true _ _ t)) (λ _.
    by_test named (eqb b 45) (pair_at 62 kinds.Arrow bytes) (mark_of b) bytes (λ t. arrow_is named bytes (eqb-true _ _ t)) (λ _. mark_is named bytes long))))

white_is : (bytes : List ℕ) → is_white (get_or bytes 0 0) ≡ true → IsBlank (take 1 bytes) (drop 1 bytes)
white_is [] h = absurd cc
white_is (b ∷ bs) h = inl (b, refl, h)

plain_is : (named : Bool) (bytes : List ℕ) → 0 < length bytes → IsPiece named (plain_at named bytes) bytes
unfolding plain_at
plain_is named bytes long =
    let b = get_or bytes 0 0 in
    by_test named (is_white b) (Blank 1) _ bytes (white_is bytes) (λ _.
    by_test named (is_letter b) (word_at bytes) _ bytes (word_is named bytes) (λ _.
    by_test named (is_digit b) (digits_at bytes) (mark_at named bytes) bytes (digits_is named bytes) (λ _. mark_at_is named bytes long)))

-- Each piece is what it is told to be.
pub piece_is : (named : Bool) (bytes : List ℕ) → 0 < length bytes → IsPiece named (piece_at named bytes) bytes
unfolding piece_at
piece_is named bytes long =
    elim (comment_at bytes) as (λ (c : Comment). comment_at bytes ≡ c → IsPiece named (elim c [ Absent ↦ plain_at named bytes | Closed n ↦ Blank n | Open ↦ Wrong ]) bytes) [
      | Absent ↦ λ e. plain_is named bytes long
      | Closed n ↦ λ e. inr (comment_is bytes n e)
      | Open ↦ λ e. tt
    ] refl
