-- The tokens of a text, one after another.
use Rattle.std.proofs.Common.{◌≡◌, ℕ, zero, suc, ◌+◌, ◌<◌, ◌≤◌, false, eqb, List, [], ◌∷◌, length, get_or, drop, refl, arith, eq-eqb, drop-cons, length-drop, get_or-drop}
use Rattle.std.specs.Prelude.{Option, Result}
use Rattle.std.specs.List.{prefix_len}
use Rattle.std.proofs.lemmas.List.Sums.{prefix_len_stops}
use Rattle.std.proofs.lemmas.Bool.Decides.{nat_tests}
use Rattle.mt_pattern.specs.declared.pattern.Pattern.{Pattern}
use Rattle.mt_pattern.specs.declared.parser.Parser.{Parser}
use Rattle.mt_text.specs.Byte.{is_white}
use Rattle.mt_pattern.specs.Lexis.{ends_word_at, word_len, token_len, next_offset, token_at, tokens_from}
use Rattle.mt_pattern.specs.declared.keyword.Keyword.{Keyword}
use Rattle.mt_pattern.specs.Keyword.{keyword_of}
use Rattle.mt_pattern.specs.Parser.{run, step_of, finish_of, ended, step_or_fault}

-- a token that does not begin with white space has a byte
first_bytes : (byte : ℕ) (rest : List ℕ) → is_white byte ≡ false → 0 < token_len (byte ∷ rest)
unfolding token_len word_len ends_word_at
first_bytes byte rest h = grind (arith, nat_tests, h)

-- where white space does not run to the end, a token follows it
pub token_some : (text : List ℕ) (offset : ℕ) → next_offset text offset < length text → 0 < token_len (drop (next_offset text offset) text)
token_some text offset lt =
    let spaces = prefix_len is_white (drop offset text) in
    let shorter : spaces < length (drop offset text) = simp length-drop (omega arith) in
    let no_space : is_white (get_or text (offset + spaces) 0) ≡ false = rw get_or-drop at (prefix_len_stops is_white (drop offset text) 0 shorter) in
    let e = drop-cons text (offset + spaces) 0 lt in
    rw e (first_bytes (get_or text (offset + spaces) 0) (drop (suc (offset + spaces)) text) no_space)

below_differs : (a b : ℕ) → a < b → eqb a b ≡ false
below_differs a b lt = grind (arith, nat_tests)

-- no token is left where white space runs to the end
none_left : (most : ℕ) (text : List ℕ) (offset : ℕ) → next_offset text offset ≡ length text → tokens_from most text offset ≡ []
unfolding tokens_from
none_left zero text offset h = refl
none_left (suc most) text offset h = rw (eq-eqb (next_offset text offset) (length text) h) refl

-- else one token is left, and those behind it
one_left : (most : ℕ) (text : List ℕ) (offset : ℕ) → next_offset text offset < length text
    → tokens_from (suc most) text offset ≡ token_at text (next_offset text offset) ∷ tokens_from most text (next_offset text offset + token_len (drop (next_offset text offset) text))
unfolding tokens_from
one_left most text offset lt = rw (below_differs (next_offset text offset) (length text) lt) refl

pub at_end : (most : ℕ) (text : List ℕ) (offset : ℕ) (parser : Parser) (end : ℕ) (r : Result Pattern ℕ) → next_offset text offset ≡ length text
    → run parser (tokens_from most text offset) end ≡ r → ended (finish_of parser) end ≡ r
unfolding run
at_end most text offset parser end r h e = rw (none_left most text offset h) at e

at_token : (most : ℕ) (text : List ℕ) (offset : ℕ) (parser : Parser) (end : ℕ) (r : Result Pattern ℕ) → next_offset text offset < length text
    → run parser (tokens_from (suc most) text offset) end ≡ r
    → step_or_fault (step_of parser (keyword_of (token_at text (next_offset text offset)).word) (token_at text (next_offset text offset)).word) (next_offset text offset) (λ after. run after (tokens_from most text (next_offset text offset + token_len (drop (next_offset text offset) text))) end) ≡ r
unfolding run
at_token most text offset parser end r lt e = rw (one_left most text offset lt) at e

-- the token at the next offset is read, and those behind it are left
pub at_next : (most : ℕ) (text : List ℕ) (offset p n : ℕ) (word : List ℕ) (keyword : Keyword) (next : Option Parser) (parser : Parser) (end : ℕ) (r : Result Pattern ℕ)
    → p ≡ next_offset text offset → next_offset text offset < length text → word ≡ (token_at text p).word → keyword ≡ keyword_of word → n ≡ token_len (drop p text) → next ≡ step_of parser keyword word
    → length text ≤ offset + most → run parser (tokens_from most text offset) end ≡ r
    → (less : ℕ) × (most ≡ suc less) × (step_or_fault next p (λ after. run after (tokens_from less text (p + n)) end) ≡ r)
at_next zero text offset p n word keyword next parser end r p_is lt word_is keyword_is n_is next_is enough e = absurd (omega arith)
at_next (suc less) text offset p n word keyword next parser end r p_is lt word_is keyword_is n_is next_is enough e =
    (less, refl, rw (next_is, keyword_is, word_is, n_is, p_is) (at_token less text offset parser end r lt e))
