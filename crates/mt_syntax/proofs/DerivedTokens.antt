-- What the tokens of a text are that derives a tree, and where a text stops that derives none.
use Rattle.std.proofs.Common.{◌≡◌, ℕ, List, [], ◌∷◌, ◌++◌, sym, subst, ◌∙◌}
use Rattle.std.specs.List.{Contains}
use Rattle.std.proofs.lemmas.List.Elements.{Contains-append_left}
use Rattle.std.specs.Prelude.{Err}
use Rattle.mt_syntax.specs.declared.token.TokenKind.{TokenKind}
use Rattle.mt_syntax.specs.declared.token.TokenKind.TheVariants as kinds
use Rattle.mt_syntax.specs.declared.token.Token.{Token}
use Rattle.mt_syntax.specs.declared.fault.Fault.{Fault}
use Rattle.mt_syntax.specs.Tokens.{EndsText, EndOnce, tokens_in}
use Rattle.mt_syntax.specs.Words.{bytes_of}
use Rattle.mt_syntax.specs.Reading.{word, phrases_in}
use Rattle.mt_syntax.specs.Spelled.{IsIdentifier}
use Rattle.mt_syntax.specs.Grammar.{OuterTree, print_config}
use Rattle.mt_syntax.specs.Derives.{Derives}
use Rattle.mt_syntax.specs.Balance.{NoBroken, AreClosed}
use Rattle.mt_syntax.specs.Stopping.{StopsAt, TextStopsAt}
use Rattle.mt_syntax.proofs.TokensOnly.{text_has_only}
use Rattle.mt_syntax.proofs.TokensEndOnce.{tokens_end_once}
use Rattle.mt_syntax.proofs.NamesSpelled.{named_is_identifier}
use Rattle.mt_syntax.proofs.ArgumentsClosed.{arguments_closed}
use Rattle.mt_syntax.proofs.StopsOnce.{stop_is_told}

-- the tokens of the text are those of the tree, and its end
pub derived_tokens : (text : List ℕ) (tree : List OuterTree) (d : Derives text tree) → tokens_in text ≡ print_config tree ++ d.printed.0 ∷ []
derived_tokens text tree d = sym (text_has_only text d.tokens d.are) ∙ d.printed.2

unlike : (k : TokenKind) → k ≡ kinds.Finish → k ≡ kinds.Broken → ⊥
unlike k a b = let e : kinds.Finish ≡ kinds.Broken = sym a ∙ b in absurd cc

no_end : (t : Token) → (EndsText t.kind → ⊥) → t.kind ≡ kinds.Broken → ⊥
no_end t h e = h (subst EndsText (sym e) tt)

no_broken : (xs : List Token) (f : Token) → f.kind ≡ kinds.Finish → EndOnce (xs ++ f ∷ []) → NoBroken (xs ++ f ∷ [])
no_broken [] f k once = ((λ e. unlike f.kind k e), tt)
no_broken (x ∷ []) f k once = (no_end x once.0, no_broken [] f k once.1)
no_broken (x ∷ y ∷ xs) f k once = (no_end x once.0, no_broken (y ∷ xs) f k once.1)

-- its names are identifiers
pub derived_named : (text : List ℕ) (tree : List OuterTree) → Derives text tree → (t : Token) → Contains (print_config tree) t → t.kind ≡ kinds.Name → IsIdentifier (bytes_of text (word t))
derived_named text tree d t c k =
    named_is_identifier text t (subst (λ ts. Contains ts t) (sym (derived_tokens text tree d)) (Contains-append_left (print_config tree) (d.printed.0 ∷ []) t c)) k

front_closed : (text : List ℕ) (xs ys : List Token) → AreClosed text (xs ++ ys) → AreClosed text xs
front_closed text [] ys h = tt
front_closed text (x ∷ xs) ys h = (h.0, front_closed text xs ys h.1)

-- its argument texts end at the `)` that matches
pub derived_closed : (text : List ℕ) (tree : List OuterTree) → Derives text tree → AreClosed text (print_config tree)
derived_closed text tree d =
    let same = derived_tokens text tree d in
    let none = no_broken (print_config tree) d.printed.0 d.printed.1 (subst EndOnce same (tokens_end_once text)) in
    front_closed text (print_config tree) (d.printed.0 ∷ []) (subst (AreClosed text) same (arguments_closed text (subst NoBroken (sym same) none)))

-- where a text stops, reading fails
pub text_fails : (text : List ℕ) (f : Fault) → TextStopsAt text f → phrases_in text ≡ Err f
text_fails text f stops = stop_is_told (tokens_in text) f (tokens_end_once text) (subst (λ ts. StopsAt ts f) (text_has_only text stops.0 stops.1) stops.2)
