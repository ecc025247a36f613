-- Texts with the tokens that they are, and lists of tokens that they are not.
use Rattle.std.proofs.Common.{◌≡◌, ℕ, List, [], ◌∷◌, refl, sym, ◌∙◌, inr, arith}
use Rattle.std.specs.Prelude.{codes}
use Rattle.mt_syntax.specs.declared.token.TokenKind.TheVariants as kinds
use Rattle.mt_syntax.specs.declared.token.Token.{Token}
use Rattle.mt_syntax.specs.Comment.{comment_at, hidden}
use Rattle.mt_syntax.specs.Closing.{closing}
use Rattle.mt_syntax.specs.Piece.{word_at, digits_at, arguments_at, mark_of, mark_at, plain_at, piece_at}
use Rattle.mt_syntax.specs.Tokens.{token, tokens_from, tokens_in}
use Rattle.mt_syntax.specs.Spelled.{AreTokens}
use Rattle.mt_syntax.specs.Spelled.AreTokensBehind.{blank, next, finish}
use Rattle.mt_syntax.specs.Spelled.RunsToClose.{ends}
use Rattle.mt_syntax.specs.Spelled.IsPlain.{nothing, byte}
use Rattle.mt_syntax.proofs.CommentsSpelled.{one_byte_no_close}
use Rattle.mt_syntax.proofs.TokensOnly.{text_has_only}

-- a text has one list of tokens
one_list : (text : List ℕ) (ts us : List Token) → AreTokens 0 text ts → AreTokens 0 text us → ts ≡ us
one_list text ts us a b = text_has_only text ts a ∙ sym (text_has_only text us b)

-- an identifier is not cut in two
name_row : AreTokens 0 (codes "a1") (token kinds.Name 0 2 ∷ token kinds.Finish 2 2 ∷ [])
name_row = next _ 0 kinds.Name (codes "a1") [] _ (((refl, (refl, tt)), tt), λ e. cc) (finish _ 2)

name_is_whole : AreTokens 0 (codes "a1") (token kinds.Name 0 1 ∷ token (kinds.Number 1) 1 2 ∷ token kinds.Finish 2 2 ∷ []) → ⊥
name_is_whole h = (let e = one_list (codes "a1") _ _ h name_row in cc)

-- a token is not passed over
token_is_told : AreTokens 0 (codes "a1") (token kinds.Broken 0 0 ∷ []) → ⊥
token_is_told h = (let e = one_list (codes "a1") _ _ h name_row in cc)

-- a comment ends at its first `*/`
comment_row : AreTokens 0 (codes "/**/;") (token kinds.Semicolon 4 5 ∷ token kinds.Finish 5 5 ∷ [])
comment_row = blank _ 0 (codes "/**/") (codes ";") _ (inr (inr ([], refl, one_byte_no_close))) (next _ 4 kinds.Semicolon (codes ";") [] _ refl (finish _ 5))

two_comments : tokens_in (codes "/**/;/**/") ≡ token kinds.Semicolon 4 5 ∷ token kinds.Finish 9 9 ∷ []
unfolding tokens_from piece_at plain_at mark_at mark_of comment_at
two_comments = refl

comment_ends_first : AreTokens 0 (codes "/**/;/**/") (token kinds.Finish 9 9 ∷ []) → ⊥
comment_ends_first h = (let e = text_has_only (codes "/**/;/**/") _ h ∙ two_comments in cc)

half_a_comment : tokens_in (codes "/*/") ≡ token kinds.Broken 0 0 ∷ []
unfolding tokens_from piece_at comment_at
half_a_comment = refl

-- an argument text ends at the `)` that matches, and stands only behind a name
arguments_row : AreTokens 0 (codes "a()") (token kinds.Name 0 1 ∷ token kinds.Arguments 1 3 ∷ token kinds.Finish 3 3 ∷ [])
arguments_row =
    next _ 0 kinds.Name (codes "a") (codes "()") _ (((refl, tt), refl), λ e. cc)
    (next _ 1 kinds.Arguments (codes "()") [] _ (codes ")", refl, refl, ([], [], refl, ends [], byte 41 [] [] (omega arith) (λ o. (let e = o.2 in cc)) (nothing []), tt))
    (finish _ 3))

two_parentheses : tokens_in (codes "a(1)b(2)") ≡ token kinds.Name 0 1 ∷ token kinds.Arguments 1 4 ∷ token kinds.Name 4 5 ∷ token kinds.Arguments 5 8 ∷ token kinds.Finish 8 8 ∷ []
unfolding tokens_from piece_at plain_at word_at mark_at mark_of arguments_at comment_at hidden closing
two_parentheses = refl

arguments_end_first : AreTokens 0 (codes "a(1)b(2)") (token kinds.Name 0 1 ∷ token kinds.Arguments 1 8 ∷ token kinds.Finish 8 8 ∷ []) → ⊥
arguments_end_first h = (let e = text_has_only (codes "a(1)b(2)") _ h ∙ two_parentheses in cc)

behind_a_keyword : tokens_in (codes "elementclass()") ≡ token kinds.Keyword 0 12 ∷ token kinds.Broken 12 12 ∷ []
unfolding tokens_from piece_at plain_at word_at mark_at mark_of arguments_at comment_at hidden closing
behind_a_keyword = refl

no_arguments_there : AreTokens 0 (codes "elementclass()") (token kinds.Keyword 0 12 ∷ token kinds.Arguments 12 14 ∷ token kinds.Finish 14 14 ∷ []) → ⊥
no_arguments_there h = (let e = text_has_only (codes "elementclass()") _ h ∙ behind_a_keyword in cc)

-- an argument text is cut before a byte above 126
cut_row : tokens_in (97 ∷ 40 ∷ 49 ∷ 127 ∷ 41 ∷ []) ≡ token kinds.Name 0 1 ∷ token kinds.Arguments 1 3 ∷ token kinds.Broken 3 3 ∷ []
unfolding tokens_from piece_at plain_at word_at mark_at mark_of arguments_at comment_at hidden closing
cut_row = refl

-- a number has nine digits at most
ten_digits : tokens_in (codes "1234567890") ≡ token (kinds.Number 123456789) 0 9 ∷ token (kinds.Number 0) 9 10 ∷ token kinds.Finish 10 10 ∷ []
unfolding tokens_from piece_at plain_at digits_at comment_at
ten_digits = refl
