-- Tokens stop to begin a configuration at one token only, and reading fails there.
use Rattle.std.proofs.Common.{◌≡◌, List, [], ◌∷◌, ◌++◌, Result, Ok, Err, refl, sym, ap, subst, ◌∙◌, append_assoc}
use Rattle.std.proofs.lemmas.List.{append-nil}
use Rattle.mt_syntax.specs.declared.token.TokenKind.{TokenKind}
use Rattle.mt_syntax.specs.declared.token.TokenKind.TheVariants as kinds
use Rattle.mt_syntax.specs.declared.token.Token.{Token}
use Rattle.mt_syntax.specs.declared.fault.Fault.{Fault}
use Rattle.mt_syntax.specs.declared.phrase.Phrase.{Phrase}
use Rattle.mt_syntax.specs.Tokens.{EndsText, EndOnce}
use Rattle.mt_syntax.specs.Reading.{fault_at, phrases_of_tokens}
use Rattle.mt_syntax.specs.Grammar.{OuterTree, print_config, IsConfig, ArePrinted}
use Rattle.mt_syntax.specs.Stopping.{Begins, GoesWrong, StopsAt}
use Rattle.mt_syntax.proofs.FaultStops.{reading_stops, read_is_whole}

-- how two places of a list stand to one another
data Places (xs : List Token) (t : Token) (ys : List Token) (u : Token) (after : List Token) : Type 0 where
  same : t ≡ u → xs ≡ ys → Places xs t ys u after
  before : (mid : List Token) → ys ≡ xs ++ t ∷ mid → Places xs t ys u after
  behind : (mid : List Token) → xs ≡ ys ++ u ∷ mid → Places xs t ys u after

one_later : (x y : Token) (xs : List Token) (t : Token) (ys : List Token) (u : Token) (after : List Token) → x ≡ y → Places xs t ys u after → Places (x ∷ xs) t (y ∷ ys) u after
one_later x y xs t ys u after e (same s l) = same s (ap (λ (z : Token). z ∷ xs) e ∙ ap (λ (z : List Token). y ∷ z) l)
one_later x y xs t ys u after e (before mid s) = before mid (ap (λ (l : List Token). y ∷ l) s ∙ ap (λ (z : Token). z ∷ (xs ++ t ∷ mid)) (sym e))
one_later x y xs t ys u after e (behind mid s) = behind mid (ap (λ (l : List Token). x ∷ l) s ∙ ap (λ (z : Token). z ∷ (ys ++ u ∷ mid)) e)

places : (xs : List Token) (t : Token) (after : List Token) (ys : List Token) (u : Token) (later : List Token) → xs ++ t ∷ after ≡ ys ++ u ∷ later → Places xs t ys u after
places [] t after [] u later e = same (let s : t ≡ u = cc in s) refl
places [] t after (y ∷ ys) u later e = before ys (let s : y ≡ t = cc in ap (λ (z : Token). z ∷ ys) s)
places (x ∷ xs) t after [] u later e = behind xs (let s : x ≡ u = cc in ap (λ (z : Token). z ∷ xs) s)
places (x ∷ xs) t after (y ∷ ys) u later e = let s : x ≡ y = cc in let r : xs ++ t ∷ after ≡ ys ++ u ∷ later = cc in one_later x y xs t ys u after s (places xs t after ys u later r)

-- a token with others behind it is no end
front_no_end : (xs : List Token) (t : Token) (mid : List Token) (u : Token) (later : List Token) → EndOnce ((xs ++ t ∷ mid) ++ u ∷ later) → EndsText t.kind → ⊥
front_no_end [] t [] u later once = once.0
front_no_end [] t (m ∷ mid) u later once = once.0
front_no_end (x ∷ []) t mid u later once = front_no_end [] t mid u later once.1
front_no_end (x ∷ y ∷ xs) t mid u later once = front_no_end (y ∷ xs) t mid u later once.1

begins_less : (xs : List Token) (t : Token) (mid : List Token) → Begins (xs ++ t ∷ mid) → Begins (xs ++ t ∷ [])
begins_less xs t mid b =
    (mid ++ b.0, b.1, b.2, b.3 ∙ append_assoc xs (t ∷ mid) b.0 ∙ sym (append_assoc xs (t ∷ []) (mid ++ b.0)))

wrong_begins : (k : TokenKind) (xs : List Token) (t : Token) (mid : List Token) → (EndsText k → ⊥) → GoesWrong k xs t → Begins (xs ++ t ∷ mid) → ⊥
wrong_begins kinds.Finish xs t mid other wrong b = other tt
wrong_begins _ xs t mid other wrong b = wrong (begins_less xs t mid b)

-- where it goes wrong nothing goes on
nothing_later : (tokens xs : List Token) (t : Token) (mid ys : List Token) (u : Token) (later : List Token) → EndOnce tokens → tokens ≡ ys ++ u ∷ later → ys ≡ xs ++ t ∷ mid → GoesWrong t.kind xs t → Begins ys → ⊥
nothing_later tokens xs t mid ys u later once all e wrong b =
    wrong_begins t.kind xs t mid (front_no_end xs t mid u later (subst EndOnce (all ∙ ap (λ (l : List Token). l ++ u ∷ later) e) once)) wrong (subst Begins e b)

-- There is one such place.
pub stops_once : (tokens : List Token) (f g : Fault) → EndOnce tokens → StopsAt tokens f → StopsAt tokens g → f ≡ g
stops_once tokens f g once a b = by_place (places a.0 a.1 a.2 b.0 b.1 b.2 (sym a.3 ∙ b.3))
  where
    by_place : Places a.0 a.1 b.0 b.1 a.2 → f ≡ g
    by_place (same s l) = a.6 ∙ ap fault_at s ∙ sym b.6
    by_place (before mid s) = absurd (nothing_later tokens a.0 a.1 mid b.0 b.1 b.2 once b.3 s a.5 b.4)
    by_place (behind mid s) = absurd (nothing_later tokens b.0 b.1 mid a.0 a.1 a.2 once a.3 s b.5 a.4)

-- a whole configuration goes wrong nowhere
whole_goes_on : (tokens : List Token) (f : Fault) → EndOnce tokens → StopsAt tokens f → (tree : List OuterTree) → IsConfig tree → ArePrinted tree tokens → ⊥
whole_goes_on tokens f once a tree is p = by_place (places a.0 a.1 a.2 (print_config tree) p.0 [] (sym a.3 ∙ p.2))
  where
    ends : EndsText p.0.kind
    ends = subst EndsText (sym p.1) tt

    by_place : Places a.0 a.1 (print_config tree) p.0 a.2 → ⊥
    by_place (same s l) = subst (λ (k : TokenKind). GoesWrong k a.0 a.1) (ap (λ (t : Token). t.kind) s ∙ p.1) a.5 tree is (sym l)
    by_place (before mid s) = nothing_later tokens a.0 a.1 mid (print_config tree) p.0 [] once p.2 s a.5 ([], tree, is, sym (append-nil (print_config tree)))
    by_place (behind mid s) = front_no_end (print_config tree) p.0 mid a.1 a.2 (subst EndOnce (a.3 ∙ ap (λ (l : List Token). l ++ a.1 ∷ a.2) s) once) ends

by_answer : (tokens : List Token) (f : Fault) (read : Result (List Phrase) Fault) → EndOnce tokens → StopsAt tokens f → phrases_of_tokens tokens ≡ read → read ≡ Err f
by_answer tokens f (Ok ps) once a e = let p = read_is_whole tokens ps once e in absurd (whole_goes_on tokens f once a p.0 p.1 p.2)
by_answer tokens f (Err g) once a e = ap (λ (x : Fault). let y : Result (List Phrase) Fault = Err x in y) (stops_once tokens g f once (reading_stops tokens g once e) a)

-- Where tokens stop to begin a configuration, reading fails.
pub stop_is_told : (tokens : List Token) (f : Fault) → EndOnce tokens → StopsAt tokens f → phrases_of_tokens tokens ≡ Err f
stop_is_told tokens f once a = by_answer tokens f (phrases_of_tokens tokens) once a refl
