-- What begins at a place of a text. All of these look at the bytes from that place on.
use Rattle.std.specs.Prelude.{ℕ, ◌+◌, ◌-◌, ◌*◌, ◌≤◌, min, List, length, take, drop, codes, fold, Option, Some, None, Bool, ◌&&◌, ◌==◌, nat_lt, slice_index, if◌then◌else◌}
use Rattle.std.specs.List.{prefix_len}
use Rattle.std.specs.Str.{bytes_eq}
use Rattle.mt_syntax.specs.declared.comment.Comment.TheVariants.{Absent, Closed, Open}
use Rattle.mt_syntax.specs.declared.token.TokenKind.{TokenKind}
use Rattle.mt_syntax.specs.declared.token.TokenKind.TheVariants as kinds
use Rattle.mt_syntax.specs.declared.piece.Piece.{Piece}
use Rattle.mt_syntax.specs.declared.piece.Piece.TheVariants.{Blank, Taken, Wrong}
use Rattle.mt_text.specs.Byte.{is_white, is_letter, is_digit, is_name_byte}
use Rattle.mt_syntax.specs.Comment.{comment_at, bare}
use Rattle.mt_syntax.specs.Closing.{closing, plain_len}

-- the bytes of an identifier
abbrev pub name_len : List ℕ → ℕ
name_len bytes = prefix_len is_name_byte bytes

-- an identifier, of which `elementclass` is none that names anything
unfoldable pub word_at : List ℕ → Piece
word_at bytes = if bytes_eq (take (name_len bytes) bytes) (codes "elementclass") then Taken kinds.Keyword (name_len bytes) else Taken kinds.Name (name_len bytes)

-- the digits at the front
abbrev pub digits_len : List ℕ → ℕ
digits_len bytes = prefix_len is_digit bytes

-- what decimal digits stand for
abbrev pub number_of : List ℕ → ℕ
number_of digits = fold (λ n d. n * 10 + (d - 48)) 0 digits

-- a number: one to nine digits
unfoldable pub digits_at : List ℕ → Piece
digits_at bytes = Taken (kinds.Number (number_of (take (min (digits_len bytes) 9) bytes))) (min (digits_len bytes) 9)

-- `$` and an identifier
unfoldable pub parameter_at : List ℕ → Piece
parameter_at bytes = if nat_lt 1 (length bytes) && is_letter (slice_index bytes 1) then Taken kinds.Parameter (1 + name_len (drop 1 bytes)) else Wrong

-- an argument text: from `(` to the `)` that matches it, or to before its first byte above 126
abbrev pub arguments_to : Option ℕ → ℕ → Piece
arguments_to None plain = Wrong
arguments_to (Some n) plain = Taken kinds.Arguments (1 + min n plain)

unfoldable pub arguments_at : List ℕ → Piece
arguments_at bytes = arguments_to (closing 0 (bare (drop 1 bytes))) (plain_len (bare (drop 1 bytes)))

-- `::` and `->`
unfoldable pub pair_at : ℕ → TokenKind → List ℕ → Piece
pair_at second kind bytes = if nat_lt 1 (length bytes) && slice_index bytes 1 == second then Taken kind 2 else Wrong

-- the tokens of one byte
unfoldable pub mark_of : ℕ → Piece
mark_of b =
    if b == 91 then Taken kinds.LeftBracket 1
    else if b == 93 then Taken kinds.RightBracket 1
    else if b == 123 then Taken kinds.LeftBrace 1
    else if b == 125 then Taken kinds.RightBrace 1
    else if b == 124 then Taken kinds.Bar 1
    else if b == 59 then Taken kinds.Semicolon 1
    else if b == 44 then Taken kinds.Comma 1
    else Wrong

unfoldable pub mark_at : Bool → List ℕ → Piece
mark_at named bytes =
    let b = slice_index bytes 0 in
    if b == 40 then (if named then arguments_at bytes else Wrong)
    else if b == 36 then parameter_at bytes
    else if b == 58 then pair_at 58 kinds.Colons bytes
    else if b == 45 then pair_at 62 kinds.Arrow bytes
    else mark_of b

unfoldable pub plain_at : Bool → List ℕ → Piece
plain_at named bytes =
    let b = slice_index bytes 0 in
    if is_white b then Blank 1
    else if is_letter b then word_at bytes
    else if is_digit b then digits_at bytes
    else mark_at named bytes

-- An argument text may open only behind an identifier, `named`.
unfoldable pub piece_at : Bool → List ℕ → Piece
piece_at named bytes =
    elim (comment_at bytes) [ Absent ↦ plain_at named bytes | Closed n ↦ Blank n | Open ↦ Wrong ]

-- a piece ends within the text
abbrev pub PieceWithin : ℕ → Piece → Type 0
PieceWithin most (Blank n) = n ≤ most
PieceWithin most (Taken kind n) = n ≤ most
PieceWithin most Wrong = Unit {0}
