-- How a text falls into tokens. White space separates them. A token is a sign, which is `(`, `)`, `!`,
-- `||`, `&&`, `>=`, `<=`, `>` or `<`, or a word, which runs up to white space or to the next sign.
use Rattle.std.specs.Prelude.{◌≡◌, ℕ, zero, suc, ◌+◌, Bool, ◌&&◌, ◌||◌, ◌==◌, nat_lt, if◌then◌else◌, List, [], ◌∷◌, length, take, drop, slice_index}
use Rattle.std.specs.List.{prefix_len}
use Rattle.mt_text.specs.Byte.{is_white}

-- the length of the sign that begins with these two bytes, 0 where none does
abbrev pub sign_of : ℕ → ℕ → ℕ
sign_of first second =
    if first == 40 || first == 41 || first == 33 then 1
    else if first == 62 || first == 60 then (if second == 61 then 2 else 1)
    else if (first == 124 || first == 38) && second == first then 2
    else 0

abbrev pub sign_len : List ℕ → ℕ
sign_len text = sign_of (slice_index text 0) (slice_index text 1)

-- white space or a sign stands at the front
unfoldable pub ends_word_at : List ℕ → Bool
ends_word_at text = is_white (slice_index text 0) || nat_lt 0 (sign_len text)

-- the length of the word at the front
unfoldable pub word_len : List ℕ → ℕ
word_len [] = 0
word_len (byte ∷ rest) = if ends_word_at (byte ∷ rest) then 0 else 1 + word_len rest

-- the length of the token at the front of a text that does not begin with white space
unfoldable pub token_len : List ℕ → ℕ
token_len text = if nat_lt 0 (sign_len text) then sign_len text else word_len text

-- a token: its offset in the text and its bytes
pub record Token : Type 0 where
  pub at : ℕ
  pub word : List ℕ

-- the offset of the first token from a offset on, or the length of the text
abbrev pub next_offset : List ℕ → ℕ → ℕ
next_offset text offset = offset + prefix_len is_white (drop offset text)

-- the token at a offset
abbrev pub token_at : List ℕ → ℕ → Token
token_at text offset = record { at = offset; word = take (token_len (drop offset text)) (drop offset text) }

-- the tokens of a text from a offset on, at most so many
unfoldable pub tokens_from : ℕ → List ℕ → ℕ → List Token
tokens_from zero text offset = []
tokens_from (suc most) text offset =
    let here = next_offset text offset in
    if here == length text then []
    else token_at text here ∷ tokens_from most text (here + token_len (drop here text))

-- the tokens of a text
unfoldable pub tokens_of : List ℕ → List Token
tokens_of text = tokens_from (length text) text 0

-- each of these can stand in a text: its bytes are one token
abbrev pub AreTokens : List Token → Type 0
AreTokens [] = Unit {0}
AreTokens (token ∷ rest) = (tokens_of token.word ≡ record { at = 0; word = token.word } ∷ []) × AreTokens rest
