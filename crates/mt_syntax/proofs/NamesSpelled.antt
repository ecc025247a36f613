-- A token that is a name is spelled as an identifier, and one that is an argument text runs to its `)`
-- or to a byte that may not stand there.
use Rattle.std.proofs.Common.{◌≡◌, ℕ, suc, ◌+◌, ◌-◌, List, [], ◌∷◌, length, take, drop, get_or, min, cond, eqb, ltb, Bool, true, false, ◌&&◌, Option, Some, None, refl, sym, ap, subst, ◌∙◌, arith}
use Rattle.std.specs.Prelude.{IsTrue, codes}
use Rattle.std.specs.List.{Contains, AllByRecursion, prefix_len}
use Rattle.std.specs.Str.{bytes_eq}
use Rattle.std.proofs.lemmas.Bool.{eqb-true}
use Rattle.mt_syntax.specs.declared.comment.Comment.{Comment}
use Rattle.mt_syntax.specs.declared.comment.Comment.TheVariants.{Absent, Closed, Open}
use Rattle.mt_syntax.specs.declared.token.TokenKind.{TokenKind}
use Rattle.mt_syntax.specs.declared.token.TokenKind.TheVariants as kinds
use Rattle.mt_syntax.specs.declared.token.Token.{Token}
use Rattle.mt_syntax.specs.declared.piece.Piece.{Piece}
use Rattle.mt_syntax.specs.declared.piece.Piece.TheVariants.{Blank, Taken, Wrong}
use Rattle.mt_text.specs.Byte.{is_white, is_letter, is_digit, is_name_byte}
use Rattle.mt_syntax.specs.Comment.{comment_at, bare}
use Rattle.mt_syntax.specs.Closing.{closing, plain_len}
use Rattle.mt_syntax.specs.Piece.{name_len, word_at, digits_at, parameter_at, arguments_to, arguments_at, pair_at, mark_of, mark_at, plain_at, piece_at}
use Rattle.mt_syntax.specs.Tokens.{token, tokens_in}
use Rattle.mt_syntax.specs.Words.{bytes_of}
use Rattle.mt_syntax.specs.Reading.{word}
use Rattle.mt_syntax.specs.Spelled.{IsIdentifier}
use Rattle.mt_syntax.proofs.TokenWalk.{each_token, of_one}

-- no byte is a `/`, so that no comment begins in it
abbrev pub HasNoSlash : List ℕ → Type 0
HasNoSlash bytes = AllByRecursion (λ b. b ≡ 47 → ⊥) bytes

-- how far an argument text goes whose bytes behind `(` are given
abbrev pub GoesTo : List ℕ → ℕ → Type 0
GoesTo body n = (m : ℕ) × (closing 0 (bare body) ≡ Some m) × (n ≡ 1 + min m (plain_len (bare body)))

-- what is known of a piece by what it is
abbrev pub IsKnown : Piece → List ℕ → Type 0
IsKnown (Taken kinds.Name n) bytes = IsIdentifier (take n bytes)
IsKnown (Taken kinds.Arguments n) bytes = (get_or bytes 0 0 ≡ 40) × GoesTo (drop 1 bytes) n
IsKnown _ bytes = Unit {0}

by_test : (t : Bool) (x y : Piece) (bytes : List ℕ) → (t ≡ true → IsKnown x bytes) → (t ≡ false → IsKnown y bytes) → IsKnown (cond t x y) bytes
by_test true x y bytes a b = a refl
by_test false x y bytes a b = b refl

-- what stands at the front passes the test
pub front_passes : (p : ℕ → Bool) (xs : List ℕ) → AllByRecursion (λ c. IsTrue (p c)) (take (prefix_len p xs) xs)
front_passes p [] = tt
front_passes p (x ∷ xs) =
    elim (p x) as (λ t. p x ≡ t → AllByRecursion (λ c. IsTrue (p c)) (take (cond t (1 + prefix_len p xs) 0) (x ∷ xs))) [
      | true ↦ λ e. (let k : 1 + prefix_len p xs ≡ suc (prefix_len p xs) = omega arith in rw k (e, front_passes p xs))
      | false ↦ λ e. tt
    ] refl

identifier : (b : ℕ) (bs : List ℕ) → is_letter b ≡ true → IsIdentifier (take (name_len (b ∷ bs)) (b ∷ bs))
identifier b bs h =
    let k : 1 + name_len bs ≡ suc (name_len bs) = omega arith in
    let name : is_name_byte b ≡ true = rw h refl in
    let e : take (name_len (b ∷ bs)) (b ∷ bs) ≡ b ∷ take (name_len bs) bs = rw (name, k) refl in
    subst IsIdentifier (sym e) (h, front_passes is_name_byte bs)

word_known : (bytes : List ℕ) → is_letter (get_or bytes 0 0) ≡ true → IsKnown (word_at bytes) bytes
unfolding word_at
word_known [] h = absurd cc
word_known (b ∷ bs) h =
    by_test (bytes_eq (take (name_len (b ∷ bs)) (b ∷ bs)) (codes "elementclass")) (Taken kinds.Keyword (name_len (b ∷ bs))) (Taken kinds.Name (name_len (b ∷ bs))) (b ∷ bs) (λ t. tt) (λ f. identifier b bs h)

digits_known : (bytes : List ℕ) → IsKnown (digits_at bytes) bytes
unfolding digits_at
digits_known bytes = tt

parameter_known : (bytes : List ℕ) → IsKnown (parameter_at bytes) bytes
unfolding parameter_at
parameter_known bytes = by_test (ltb 1 (length bytes) && is_letter (get_or bytes 1 0)) (Taken kinds.Parameter (1 + name_len (drop 1 bytes))) Wrong bytes (λ _. tt) (λ _. tt)

arguments_to_known : (o : Option ℕ) (bytes : List ℕ) → get_or bytes 0 0 ≡ 40 → closing 0 (bare (drop 1 bytes)) ≡ o → IsKnown (arguments_to o (plain_len (bare (drop 1 bytes)))) bytes
arguments_to_known None bytes first e = tt
arguments_to_known (Some m) bytes first e = (first, (m, e, refl))

arguments_known : (bytes : List ℕ) → get_or bytes 0 0 ≡ 40 → IsKnown (arguments_at bytes) bytes
unfolding arguments_at
arguments_known bytes first = arguments_to_known (closing 0 (bare (drop 1 bytes))) bytes first refl

colons_known : (bytes : List ℕ) → IsKnown (pair_at 58 kinds.Colons bytes) bytes
unfolding pair_at
colons_known bytes = by_test (ltb 1 (length bytes) && eqb (get_or bytes 1 0) 58) (Taken kinds.Colons 2) Wrong bytes (λ _. tt) (λ _. tt)

arrow_known : (bytes : List ℕ) → IsKnown (pair_at 62 kinds.Arrow bytes) bytes
unfolding pair_at
arrow_known bytes = by_test (ltb 1 (length bytes) && eqb (get_or bytes 1 0) 62) (Taken kinds.Arrow 2) Wrong bytes (λ _. tt) (λ _. tt)

mark_known : (b : ℕ) (bytes : List ℕ) → IsKnown (mark_of b) bytes
unfolding mark_of
mark_known b bytes =
    by_test (eqb b 91) (Taken kinds.LeftBracket 1) _ bytes (λ _. tt) (λ _.
    by_test (eqb b 93) (Taken kinds.RightBracket 1) _ bytes (λ _. tt) (λ _.
    by_test (eqb b 123) (Taken kinds.LeftBrace 1) _ bytes (λ _. tt) (λ _.
    by_test (eqb b 125) (Taken kinds.RightBrace 1) _ bytes (λ _. tt) (λ _.
    by_test (eqb b 124) (Taken kinds.Bar 1) _ bytes (λ _. tt) (λ _.
    by_test (eqb b 59) (Taken kinds.Semicolon 1) _ bytes (λ _. tt) (λ _.
    by_test (eqb b 44) (Taken kinds.Comma 1) Wrong bytes (λ _. tt) (λ _. tt)))))))

named_known : (named : Bool) (bytes : List ℕ) → get_or bytes 0 0 ≡ 40 → IsKnown (cond named (arguments_at bytes) Wrong) bytes
named_known true bytes first = arguments_known bytes first
named_known false bytes first = tt

mark_at_known : (named : Bool) (bytes : List ℕ) → IsKnown (mark_at named bytes) bytes
unfolding mark_at
mark_at_known named bytes =
    let b = get_or bytes 0 0 in
    by_test (eqb b 40) (cond named (arguments_at bytes) Wrong) _ bytes (λ t. named_known named bytes (eqb-true _ _ t)) (λ _.
    by_test (eqb b 36) (parameter_at bytes) _ bytes (λ _. parameter_known bytes) (λ _.
    by_test (eqb b 58) (pair_at 58 kinds.Colons bytes) _ bytes (λ _. colons_known bytes) (λ _.
    by_test (eqb b 45) (pair_at 62 kinds.Arrow bytes) (mark_of b) bytes (λ _. arrow_known bytes) (λ _. mark_known b bytes))))

plain_known : (named : Bool) (bytes : List ℕ) → IsKnown (plain_at named bytes) bytes
unfolding plain_at
plain_known named bytes =
    let b = get_or bytes 0 0 in
    by_test (is_white b) (Blank 1) _ bytes (λ _. tt) (λ _.
    by_test (is_letter b) (word_at bytes) _ bytes (word_known bytes) (λ _.
    by_test (is_digit b) (digits_at bytes) (mark_at named bytes) bytes (λ _. digits_known bytes) (λ _. mark_at_known named bytes)))

-- what is known of the piece at the front of a text
pub piece_known : (named : Bool) (bytes : List ℕ) → IsKnown (piece_at named bytes) bytes
unfolding piece_at
piece_known named bytes =
    elim (comment_at bytes) as (λ (c : Comment). IsKnown (elim c [ Absent ↦ plain_at named bytes | Closed n ↦ Blank n | Open ↦ Wrong ]) bytes) [
      | Absent ↦ plain_known named bytes
      | Closed n ↦ tt
      | Open ↦ tt
    ]

-- the bytes of a token that was taken at a place
pub token_bytes : (text : List ℕ) (kind : TokenKind) (at n : ℕ) (bytes : List ℕ) → drop at text ≡ bytes → bytes_of text (word (token kind at (at + n))) ≡ take n bytes
unfolding bytes_of
token_bytes text kind at n bytes e = let k : at + n - at ≡ n = omega arith in rw (k, e) refl

taken_named : (text : List ℕ) (at : ℕ) (named : Bool) (kind : TokenKind) (n b : ℕ) (bs : List ℕ) → drop at text ≡ b ∷ bs → piece_at named (b ∷ bs) ≡ Taken kind n → kind ≡ kinds.Name → IsIdentifier (bytes_of text (word (token kind at (at + n))))
taken_named text at named kind n b bs e is k =
    let same : piece_at named (b ∷ bs) ≡ Taken kinds.Name n = is ∙ ap (λ (x : TokenKind). Taken x n) k in
    let h : IsIdentifier (take n (b ∷ bs)) = subst (λ (p : Piece). IsKnown p (b ∷ bs)) same (piece_known named (b ∷ bs)) in
    subst IsIdentifier (sym (token_bytes text kind at n (b ∷ bs) e)) h

pub named_are_identifiers : (text : List ℕ) → AllByRecursion (λ t. t.kind ≡ kinds.Name → IsIdentifier (bytes_of text (word t))) (tokens_in text)
named_are_identifiers text =
    each_token (λ t. t.kind ≡ kinds.Name → IsIdentifier (bytes_of text (word t))) text
    (λ at named kind n b bs e is. taken_named text at named kind n b bs e is)
    (λ at b bs e k. absurd cc)
    (λ k. absurd cc)

pub named_is_identifier : (text : List ℕ) (t : Token) → Contains (tokens_in text) t → t.kind ≡ kinds.Name → IsIdentifier (bytes_of text (word t))
named_is_identifier text t c = of_one (λ (x : Token). x.kind ≡ kinds.Name → IsIdentifier (bytes_of text (word x))) (tokens_in text) t (named_are_identifiers text) c

-- an identifier has no `/`
letter_no_slash : (b : ℕ) → IsTrue (is_letter b) → b ≡ 47 → ⊥
letter_no_slash b h e = (let x : is_letter 47 ≡ true = subst (λ c. is_letter c ≡ true) e h in cc)

name_no_slash : (b : ℕ) → IsTrue (is_name_byte b) → b ≡ 47 → ⊥
name_no_slash b h e = (let x : is_name_byte 47 ≡ true = subst (λ c. is_name_byte c ≡ true) e h in cc)

names_no_slash : (bs : List ℕ) → AllByRecursion (λ c. IsTrue (is_name_byte c)) bs → HasNoSlash bs
names_no_slash [] h = tt
names_no_slash (b ∷ bs) h = (name_no_slash b h.0, names_no_slash bs h.1)

pub identifier_no_slash : (bytes : List ℕ) → IsIdentifier bytes → HasNoSlash bytes
identifier_no_slash [] h = tt
identifier_no_slash (b ∷ bs) h = (letter_no_slash b h.0, names_no_slash bs h.1)
