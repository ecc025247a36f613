-- The tokens of a text are spelled in it, with white space and comments before each.
use Rattle.std.proofs.Common.{◌≡◌, ℕ, zero, suc, ◌+◌, ◌-◌, ◌<◌, ◌≤◌, List, [], ◌∷◌, ◌++◌, length, take, drop, get_or, cond, eqb, ltb, Bool, true, false, ◌&&◌, ◌||◌, not, Option, Some, None, refl, sym, ap, subst, ◌∙◌, inl, inr, arith, length-drop, length-take}
use Rattle.std.specs.Prelude.{codes, Result, Ok, Err, IfOk}
use Rattle.std.specs.Global.{Vec}
use Rattle.std.specs.Option.{option_map}
use Rattle.std.specs.Str.{bytes_eq}
use Rattle.std.proofs.lemmas.Bool.Decides.{nat_tests}
use Rattle.std.proofs.lemmas.List.{take-append-drop}
use Rattle.std.proofs.lemmas.List.Sums.{prefix_len-le-length}
use Rattle.mt_lists.proofs.Bools.{and_first}
use Rattle.mt_syntax.specs.declared.comment.Comment.{Comment}
use Rattle.mt_syntax.specs.declared.comment.Comment.TheVariants.{Absent, Closed, Open}
use Rattle.mt_syntax.specs.declared.token.TokenKind.{TokenKind}
use Rattle.mt_syntax.specs.declared.token.TokenKind.TheVariants as kinds
use Rattle.mt_syntax.specs.declared.token.Token.{Token}
use Rattle.mt_syntax.specs.declared.piece.Piece.{Piece}
use Rattle.mt_syntax.specs.declared.piece.Piece.TheVariants.{Blank, Taken, Wrong}
use Rattle.mt_text.specs.Byte.{is_white, is_letter, is_digit, is_name_byte}
use Rattle.mt_syntax.specs.Comment.{line_len, block_len, closed, comment_at, bare}
use Rattle.mt_syntax.specs.Closing.{closing, depth_after, plain_len}
use Rattle.mt_syntax.specs.Piece.{name_len, word_at, digits_at, parameter_at, arguments_to, arguments_at, pair_at, mark_of, mark_at, plain_at, piece_at, PieceWithin}
use Rattle.mt_syntax.specs.Tokens.{is_name, token, tokens_from, tokens_in}
use Rattle.mt_syntax.specs.Spelled.{IsBlank, IsWord, IsToken, BeginsNothing, AreTokensBehind, AreTokens}
use Rattle.mt_syntax.specs.Spelled.AreTokensBehind.{blank, next, broken, finish}
use Rattle.mt_syntax.proofs.HiddenComments.{length_hidden}
use Rattle.mt_syntax.proofs.CommentsSpelled.{comment_has_byte}
use Rattle.mt_syntax.proofs.PiecesFound.{blank_there, token_there}
use Rattle.mt_syntax.proofs.PiecesSpelled.{IsPiece, piece_is}

-- a piece ends within the text

by_test : (t : Bool) (x y : Piece) (most : ℕ) → (t ≡ true → PieceWithin most x) → (t ≡ false → PieceWithin most y) → PieceWithin most (cond t x y)
by_test true x y most a b = a refl
by_test false x y most a b = b refl

word_within : (bytes : List ℕ) → PieceWithin (length bytes) (word_at bytes)
unfolding word_at
word_within bytes =
    by_test (bytes_eq (take (name_len bytes) bytes) (codes "elementclass")) (Taken kinds.Keyword (name_len bytes)) (Taken kinds.Name (name_len bytes)) (length bytes) (λ _. prefix_len-le-length is_name_byte bytes) (λ _. prefix_len-le-length is_name_byte bytes)

digits_within : (bytes : List ℕ) → PieceWithin (length bytes) (digits_at bytes)
unfolding digits_at
digits_within bytes = omega (arith, prefix_len-le-length is_digit bytes)

parameter_within : (bytes : List ℕ) → PieceWithin (length bytes) (parameter_at bytes)
unfolding parameter_at
parameter_within bytes =
    by_test (ltb 1 (length bytes) && is_letter (get_or bytes 1 0)) (Taken kinds.Parameter (1 + name_len (drop 1 bytes))) Wrong (length bytes)
    (λ t. let long : 1 < length bytes = (let e : ltb 1 (length bytes) ≡ true = and_first (ltb 1 (length bytes)) (is_letter (get_or bytes 1 0)) t in grind (arith, nat_tests)) in omega (arith, prefix_len-le-length is_name_byte (drop 1 bytes), length-drop 1 bytes))
    (λ _. tt)

abbrev pub IsUpTo : Option ℕ → ℕ → Type 0
IsUpTo None most = Unit {0}
IsUpTo (Some n) most = n ≤ most

next_up_to : (o : Option ℕ) (most : ℕ) → IsUpTo o most → IsUpTo (option_map (λ n. n + 1) o) (suc most)
next_up_to None most h = tt
next_up_to (Some n) most h = omega arith

closing_test : (t : Bool) (o : Option ℕ) (most : ℕ) → IsUpTo o most → IsUpTo (cond t (Some 1) (option_map (λ n. n + 1) o)) (suc most)
closing_test true o most h = omega arith
closing_test false o most h = next_up_to o most h

closing_up_to : (bs : List (Option ℕ)) (depth : ℕ) → IsUpTo (closing depth bs) (length bs)
unfolding closing
closing_up_to [] depth = tt
closing_up_to (None ∷ bs) depth = next_up_to (closing depth bs) (length bs) (closing_up_to bs depth)
closing_up_to (Some b ∷ bs) depth = closing_test (eqb b 41 && eqb depth 0) (closing (depth_after depth b) bs) (length bs) (closing_up_to bs (depth_after depth b))

arguments_to_within : (o : Option ℕ) (plain most : ℕ) → IsUpTo o most → PieceWithin (suc most) (arguments_to o plain)
arguments_to_within None plain most h = tt
arguments_to_within (Some n) plain most h = omega arith

arguments_within : (bytes : List ℕ) → 0 < length bytes → PieceWithin (length bytes) (arguments_at bytes)
unfolding arguments_at
arguments_within [] long = absurd (omega arith)
arguments_within (b ∷ bs) long = arguments_to_within (closing 0 (bare bs)) (plain_len (bare bs)) (length bs) (subst (IsUpTo (closing 0 (bare bs))) (length_hidden bs 0) (closing_up_to (bare bs) 0))

pair_within : (second : ℕ) (kind : TokenKind) (bytes : List ℕ) → PieceWithin (length bytes) (pair_at second kind bytes)
unfolding pair_at
pair_within second kind bytes =
    by_test (ltb 1 (length bytes) && eqb (get_or bytes 1 0) second) (Taken kind 2) Wrong (length bytes)
    (λ t. let e : ltb 1 (length bytes) ≡ true = and_first (ltb 1 (length bytes)) (eqb (get_or bytes 1 0) second) t in grind (arith, nat_tests))
    (λ _. tt)

mark_within : (b most : ℕ) → 0 < most → PieceWithin most (mark_of b)
unfolding mark_of
mark_within b most long =
    by_test (eqb b 91) (Taken kinds.LeftBracket 1) _ most (λ _. long) (λ _.
    by_test (eqb b 93) (Taken kinds.RightBracket 1) _ most (λ _. long) (λ _.
    by_test (eqb b 123) (Taken kinds.LeftBrace 1) _ most (λ _. long) (λ _.
    by_test (eqb b 125) (Taken kinds.RightBrace 1) _ most (λ _. long) (λ _.
    by_test (eqb b 124) (Taken kinds.Bar 1) _ most (λ _. long) (λ _.
    by_test (eqb b 59) (Taken kinds.Semicolon 1) _ most (λ _. long) (λ _.
    by_test (eqb b 44) (Taken kinds.Comma 1) Wrong most (λ _. long) (λ _. tt)))))))

named_within : (named : Bool) (bytes : List ℕ) → 0 < length bytes → PieceWithin (length bytes) (cond named (arguments_at bytes) Wrong)
named_within true bytes long = arguments_within bytes long
named_within false bytes long = tt

mark_at_within : (named : Bool) (bytes : List ℕ) → 0 < length bytes → PieceWithin (length bytes) (mark_at named bytes)
unfolding mark_at
mark_at_within named bytes long =
    let b = get_or bytes 0 0 in
    by_test (eqb b 40) (cond named (arguments_at bytes) Wrong) _ (length bytes) (λ _. named_within named bytes long) (λ _.
    by_test (eqb b 36) (parameter_at bytes) _ (length bytes) (λ _. parameter_within bytes) (λ _.
    by_test (eqb b 58) (pair_at 58 kinds.Colons bytes) _ (length bytes) (λ _. pair_within 58 kinds.Colons bytes) (λ _.
    by_test (eqb b 45) (pair_at 62 kinds.Arrow bytes) (mark_of b) (length bytes) (λ _. pair_within 62 kinds.Arrow bytes) (λ _. mark_within b (length bytes) long))))

plain_within : (named : Bool) (bytes : List ℕ) → 0 < length bytes → PieceWithin (length bytes) (plain_at named bytes)
unfolding plain_at
plain_within named bytes long =
    let b = get_or bytes 0 0 in
    by_test (is_white b) (Blank 1) _ (length bytes) (λ _. long) (λ _.
    by_test (is_letter b) (word_at bytes) _ (length bytes) (λ _. word_within bytes) (λ _.
    by_test (is_digit b) (digits_at bytes) (mark_at named bytes) (length bytes) (λ _. digits_within bytes) (λ _. mark_at_within named bytes long)))

abbrev pub IsClosedUpTo : Comment → ℕ → Type 0
IsClosedUpTo Absent most = Unit {0}
IsClosedUpTo (Closed n) most = n ≤ most
IsClosedUpTo Open most = Unit {0}

by_comment : (t : Bool) (x y : Comment) (most : ℕ) → (t ≡ true → IsClosedUpTo x most) → (t ≡ false → IsClosedUpTo y most) → IsClosedUpTo (cond t x y) most
by_comment true x y most a b = a refl
by_comment false x y most a b = b refl

short_test : (a : Bool) → IsUpTo (cond (a && false) (Some 2) None) 1
short_test true = tt
short_test false = tt

closing_test_2 : (t : Bool) (o : Option ℕ) (most : ℕ) → IsUpTo o (suc most) → IsUpTo (cond t (Some 2) (option_map (λ n. n + 1) o)) (suc (suc most))
closing_test_2 true o most h = omega arith
closing_test_2 false o most h = next_up_to o (suc most) h

block_test : (b : ℕ) (bs : List ℕ) → IsUpTo (block_len bs) (length bs) → IsUpTo (block_len (b ∷ bs)) (length (b ∷ bs))
block_test b [] h = short_test (eqb b 42)
block_test b (c ∷ bs) h = closing_test_2 (eqb b 42 && eqb c 47) (block_len (c ∷ bs)) (length bs) h

block_up_to : (bs : List ℕ) → IsUpTo (block_len bs) (length bs)
block_up_to [] = tt
block_up_to (b ∷ []) = block_test b [] (block_up_to [])
block_up_to (b ∷ c ∷ bs) = block_test b (c ∷ bs) (block_up_to (c ∷ bs))

closed_within : (o : Option ℕ) (most : ℕ) → IsUpTo o (most - 2) → 2 ≤ most → IsClosedUpTo (closed o) most
closed_within None most h long = tt
closed_within (Some n) most h long = omega arith

or_front : (a b : Bool) → (a || b) ≡ false → a ≡ false
or_front true b e = e
or_front false b e = refl

comment_within : (bytes : List ℕ) → IsClosedUpTo (comment_at bytes) (length bytes)
unfolding comment_at
comment_within bytes =
    let most = length bytes in
    by_comment (ltb most 2 || not (eqb (get_or bytes 0 0) 47)) Absent _ most (λ _. tt) (λ f.
    by_comment (eqb (get_or bytes 1 0) 47) (Closed (line_len bytes)) _ most (λ _. prefix_len-le-length (λ b. not (eqb b 10)) bytes) (λ _.
    by_comment (not (eqb (get_or bytes 1 0) 42)) Absent (closed (block_len (drop 2 bytes))) most (λ _. tt) (λ _.
    let long : ltb most 2 ≡ false = or_front (ltb most 2) (not (eqb (get_or bytes 0 0) 47)) f in
    closed_within (block_len (drop 2 bytes)) most (subst (IsUpTo (block_len (drop 2 bytes))) (length-drop 2 bytes) (block_up_to (drop 2 bytes))) (grind (arith, nat_tests)))))

pub piece_within : (named : Bool) (bytes : List ℕ) → 0 < length bytes → PieceWithin (length bytes) (piece_at named bytes)
unfolding piece_at
piece_within named bytes long =
    elim (comment_at bytes) as (λ (c : Comment). comment_at bytes ≡ c → PieceWithin (length bytes) (elim c [ Absent ↦ plain_at named bytes | Closed n ↦ Blank n | Open ↦ Wrong ])) [
      | Absent ↦ λ e. plain_within named bytes long
      | Closed n ↦ λ e. (let h : IsClosedUpTo (Closed n) (length bytes) = subst (λ (c : Comment). IsClosedUpTo c (length bytes)) e (comment_within bytes) in h)
      | Open ↦ λ e. tt
    ] refl

-- a piece has a byte

pub blank_has_byte : (bytes rest : List ℕ) → IsBlank bytes rest → 0 < length bytes
blank_has_byte bytes rest (inl h) = let n = ap length h.1 in omega arith
blank_has_byte bytes rest (inr h) = comment_has_byte bytes rest h

word_has_byte : (bytes rest : List ℕ) → IsWord bytes rest → 0 < length bytes
word_has_byte [] rest h = absurd h.0
word_has_byte (b ∷ bs) rest h = omega arith

pub token_has_byte : (named : Bool) (kind : TokenKind) (bytes rest : List ℕ) → IsToken named kind bytes rest → 0 < length bytes
token_has_byte named kinds.Name bytes rest h = word_has_byte bytes rest h.0
token_has_byte named kinds.Keyword bytes rest h = word_has_byte bytes rest h.0
token_has_byte named (kinds.Number n) bytes rest h = h.0.0
token_has_byte named kinds.Parameter bytes rest h = let n = ap length h.1 in omega arith
token_has_byte named kinds.Arguments bytes rest h = let n = ap length h.1 in omega arith
token_has_byte named kinds.Colons bytes rest h = let n = ap length h in omega arith
token_has_byte named kinds.Arrow bytes rest h = let n = ap length h in omega arith
token_has_byte named kinds.LeftBracket bytes rest h = let n = ap length h in omega arith
token_has_byte named kinds.RightBracket bytes rest h = let n = ap length h in omega arith
token_has_byte named kinds.LeftBrace bytes rest h = let n = ap length h in omega arith
token_has_byte named kinds.RightBrace bytes rest h = let n = ap length h in omega arith
token_has_byte named kinds.Bar bytes rest h = let n = ap length h in omega arith
token_has_byte named kinds.Semicolon bytes rest h = let n = ap length h in omega arith
token_has_byte named kinds.Comma bytes rest h = let n = ap length h in omega arith
token_has_byte named kinds.Broken bytes rest h = absurd h
token_has_byte named kinds.Finish bytes rest h = absurd h

split_at : (n : ℕ) (bytes : List ℕ) → take n bytes ++ drop n bytes ≡ bytes
split_at n bytes = take-append-drop n bytes

cut_length : (n : ℕ) (bytes : List ℕ) → n ≤ length bytes → length (take n bytes) ≡ n
cut_length n bytes h = omega (arith, length-take n bytes)

nothing_begins : (named : Bool) (b : ℕ) (bs : List ℕ) → piece_at named (b ∷ bs) ≡ Wrong → BeginsNothing named (b ∷ bs)
nothing_begins named b bs e = (
  λ n. cc,
  λ front rest s is. (let x : Blank (length front) ≡ Wrong = sym (blank_there named front rest is) ∙ ap (piece_at named) (sym s) ∙ e in cc),
  λ kind body rest s is. (let x : Taken kind (length body) ≡ Wrong = sym (token_there named kind body rest is) ∙ ap (piece_at named) (sym s) ∙ e in cc),
)

abbrev pub Goes : ℕ → List ℕ → Type 0
Goes at bs = (named : Bool) (m : ℕ) → m ≤ length bs → AreTokensBehind named (at + 1 + m) (drop m bs) (tokens_from (at + 1) named m bs)

by_piece : (at : ℕ) (named : Bool) (b : ℕ) (bs : List ℕ) (p : Piece) → piece_at named (b ∷ bs) ≡ p → Goes at bs → IsPiece named p (b ∷ bs) → PieceWithin (suc (length bs)) p
    → AreTokensBehind named at (b ∷ bs) (elim p [
      | Blank n ↦ tokens_from (at + 1) named (n - 1) bs
      | Taken kind n ↦ token kind at (at + n) ∷ tokens_from (at + 1) (is_name kind) (n - 1) bs
      | Wrong ↦ token kinds.Broken at at ∷ []
    ])
by_piece at named b bs (Blank zero) e ih is within = absurd (let x = blank_has_byte [] (b ∷ bs) is in omega arith)
by_piece at named b bs (Blank (suc m)) e ih is within =
    let k : suc m - 1 ≡ m = omega arith in
    let l : at + 1 + m ≡ at + length (take (suc m) (b ∷ bs)) = omega (arith, cut_length (suc m) (b ∷ bs) within) in
    let h : AreTokensBehind named (at + length (take (suc m) (b ∷ bs))) (drop m bs) (tokens_from (at + 1) named (suc m - 1) bs) = rw (← l, k) (ih named m (omega arith)) in
    subst (λ (x : List ℕ). AreTokensBehind named at x (tokens_from (at + 1) named (suc m - 1) bs)) (split_at (suc m) (b ∷ bs)) (blank named at (take (suc m) (b ∷ bs)) (drop m bs) _ is h)
by_piece at named b bs (Taken kind zero) e ih is within = absurd (let x = token_has_byte named kind [] (b ∷ bs) is in omega arith)
by_piece at named b bs (Taken kind (suc m)) e ih is within =
    let k : suc m - 1 ≡ m = omega arith in
    let body = take (suc m) (b ∷ bs) in
    let n : length body ≡ suc m = cut_length (suc m) (b ∷ bs) within in
    let l : at + 1 + m ≡ at + length body = omega arith in
    let ts = tokens_from (at + 1) (is_name kind) (suc m - 1) bs in
    let h : AreTokensBehind (is_name kind) (at + length body) (drop m bs) ts = rw (← l, k) (ih (is_name kind) m (omega arith)) in
    let g : AreTokensBehind named at (body ++ drop m bs) (token kind at (at + length body) ∷ ts) = next named at kind body (drop m bs) ts is h in
    subst (λ (x : List ℕ). AreTokensBehind named at x (token kind at (at + suc m) ∷ ts)) (split_at (suc m) (b ∷ bs)) (subst (λ j. AreTokensBehind named at (body ++ drop m bs) (token kind at (at + j) ∷ ts)) n g)
by_piece at named b bs Wrong e ih is within = broken named at (b ∷ bs) (nothing_begins named b bs e)

-- The tokens of a text are spelled in it.
pub tokens_are : (bytes : List ℕ) (at : ℕ) (named : Bool) (skip : ℕ) → skip ≤ length bytes → AreTokensBehind named (at + skip) (drop skip bytes) (tokens_from at named skip bytes)
unfolding tokens_from
tokens_are [] at named zero h = let e : at ≡ at + 0 = omega arith in subst (λ k. AreTokensBehind named k [] (token kinds.Finish at at ∷ [])) e (finish named at)
tokens_are [] at named (suc s) h = absurd (omega arith)
tokens_are (b ∷ bs) at named (suc s) h =
    let e : at + 1 + s ≡ at + suc s = omega arith in
    subst (λ k. AreTokensBehind named k (drop s bs) (tokens_from (at + 1) named s bs)) e (tokens_are bs (at + 1) named s (omega arith))
tokens_are (b ∷ bs) at named zero h =
    let e : at ≡ at + 0 = omega arith in
    subst (λ k. AreTokensBehind named k (b ∷ bs) (tokens_from at named 0 (b ∷ bs))) e
    (by_piece at named b bs (piece_at named (b ∷ bs)) refl (λ n m le. tokens_are bs (at + 1) n m le) (piece_is named (b ∷ bs) (omega arith)) (piece_within named (b ∷ bs) (omega arith)))

pub text_is_tokens : (text : List ℕ) → AreTokens 0 text (tokens_in text)
text_is_tokens text = tokens_are text 0 false 0 (omega arith)

pub found_are : {E : Type 0} (text : List ℕ) (r : Result (Vec Token) E) → IfOk r (λ v. v.items ≡ tokens_in text) → IfOk r (λ v. AreTokens 0 text v.items)
found_are text (Ok v) h = subst (AreTokens 0 text) (sym h) (text_is_tokens text)
found_are text (Err e) h = tt
