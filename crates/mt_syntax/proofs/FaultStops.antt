-- Reading fails at the first token with which what precedes begins no configuration.
use Rattle.std.proofs.Common.{◌≡◌, ℕ, zero, suc, ◌≤◌, List, [], ◌∷◌, ◌++◌, length, Bool, false, Some, None, Result, Ok, Err, refl, sym, ap, subst, ◌∙◌, inl, inr, arith, append_assoc, length-append}
use Rattle.std.specs.Option.{option_to_list}
use Rattle.mt_syntax.specs.declared.token.TokenKind.{TokenKind}
use Rattle.mt_syntax.specs.declared.token.TokenKind.TheVariants as kinds
use Rattle.mt_syntax.specs.declared.token.Token.{Token}
use Rattle.mt_syntax.specs.declared.fault.Fault.{Fault}
use Rattle.mt_syntax.specs.declared.phrase.Phrase.{Phrase}
use Rattle.mt_syntax.specs.declared.advance.Stage.{Stage}
use Rattle.mt_syntax.specs.declared.advance.Stage.TheVariants as stages
use Rattle.mt_syntax.specs.declared.advance.Advance.{Advance}
use Rattle.mt_syntax.specs.Tokens.{EndOnce, tokens_in}
use Rattle.mt_syntax.specs.Reading.{fault_at, read_advance, phrases_from, phrases_of_tokens, phrases_in}
use Rattle.mt_syntax.specs.Grammar.{OuterTree, print_config, IsConfig, config_phrases, ArePrinted}
use Rattle.mt_syntax.specs.Stopping.{BeginsNone, IsNone, GoesWrong, StopsAt, TextStopsAt}
use Rattle.mt_syntax.proofs.ReadLoop.{with_front}
use Rattle.mt_syntax.proofs.ConfigPrinted.{printed_is_read}
use Rattle.mt_syntax.proofs.TokensSpelled.{text_is_tokens}
use Rattle.mt_syntax.proofs.TokensEndOnce.{tokens_end_once}
use Rattle.mt_syntax.proofs.TokensMet.{Went, Stuck, first}
use Rattle.mt_syntax.proofs.EndpointsMet.{made_up}
use Rattle.mt_syntax.proofs.StagesEnd.{Ends}
use Rattle.mt_syntax.proofs.AdvancesMet.{onto, Next, Advances, advance_met}

-- what is read from a stage on stops at a token: what precedes can be ended, and with the token nothing
-- is read, whatever follows
record Stops (stage : Stage) (inside : Bool) (tokens : List Token) (f : Fault) : Type 0 where
  pub taken : List Token
  pub at : Token
  pub back : List Token
  pub all : tokens ≡ taken ++ at ∷ back
  pub ending : List Token
  pub ends : Ends stage inside (taken ++ ending)
  pub fault : f ≡ fault_at at
  pub never : (other : List Token) (most : ℕ) (ps : List Phrase) → phrases_from most stage inside (taken ++ at ∷ other) ≡ Ok ps → ⊥

no_advances : (stage : Stage) (inside : Bool) (tokens : List Token) (ps : List Phrase) → phrases_from zero stage inside tokens ≡ Ok ps → ⊥
unfolding phrases_from
no_advances stage inside tokens ps e = absurd cc

moved : (most : ℕ) (stage : Stage) (inside : Bool) (tokens rest : List Token) (s : Advance) → read_advance stage inside tokens ≡ Ok (Some (s, rest))
    → phrases_from (suc most) stage inside tokens ≡ with_front (option_to_list s.phrase) (phrases_from most s.stage s.inside rest)
unfolding phrases_from
moved most stage inside tokens rest s e = rw (phrases_from, e) refl

failed : (most : ℕ) (stage : Stage) (inside : Bool) (tokens : List Token) (f : Fault) → read_advance stage inside tokens ≡ Err f → phrases_from (suc most) stage inside tokens ≡ Err f
unfolding phrases_from
failed most stage inside tokens f e = rw (phrases_from, e) refl

ended : (most : ℕ) (stage : Stage) (inside : Bool) (tokens : List Token) → read_advance stage inside tokens ≡ Ok None → phrases_from (suc most) stage inside tokens ≡ Ok []
unfolding phrases_from
ended most stage inside tokens e = rw (phrases_from, e) refl

rest_failed : (front : List Phrase) (read : Result (List Phrase) Fault) (f : Fault) → with_front front read ≡ Err f → read ≡ Err f
rest_failed front (Ok ps) f e = absurd cc
rest_failed front (Err g) f e = e

rest_read : (front ps : List Phrase) (read : Result (List Phrase) Fault) → with_front front read ≡ Ok ps → ((qs : List Phrase) → read ≡ Ok qs → ⊥) → ⊥
rest_read front ps (Ok qs) e h = h qs refl
rest_read front ps (Err g) e h = absurd cc

both_ways : (read : Result (List Phrase) Fault) (f : Fault) (ps : List Phrase) → read ≡ Err f → read ≡ Ok ps → ⊥
both_ways read f ps e g = absurd (let x : Err f ≡ Ok ps = sym e ∙ g in cc)

same_fault : (read : Result (List Phrase) Fault) (f g : Fault) → read ≡ Err f → read ≡ Err g → f ≡ g
same_fault read f g e h = let x : Result.Err f ≡ Err g = sym e ∙ h in cc

went_stops : (stage : Stage) (inside : Bool) (tokens : List Token) (f : Fault) (w : Went 1 (read_advance stage inside) onto Next (Ends stage inside) tokens) → Stops w.value.stage w.value.inside w.rest f → Stops stage inside tokens f
went_stops stage inside tokens f w x =
    record {
      taken = w.taken ++ x.taken;
      at = x.at;
      back = x.back;
      all = w.all ∙ ap (λ (l : List Token). w.taken ++ l) x.all ∙ sym (append_assoc w.taken x.taken (x.at ∷ x.back));
      ending = x.ending;
      ends = subst (Ends stage inside) (sym (append_assoc w.taken x.taken x.ending)) (w.here (x.taken ++ x.ending) x.ends);
      fault = x.fault;
      never = λ other most ps e. goes_on other most ps e;
    }
  where
    first_same : (xs : List Token) (at : Token) (more back : List Token) → first (xs ++ at ∷ more) ≡ first (xs ++ at ∷ back)
    first_same [] at more back = refl
    first_same (y ∷ ys) at more back = refl

    goes_on : (other : List Token) (most : ℕ) (ps : List Phrase) → phrases_from most stage inside ((w.taken ++ x.taken) ++ x.at ∷ other) ≡ Ok ps → ⊥
    goes_on other zero ps e = no_advances stage inside ((w.taken ++ x.taken) ++ x.at ∷ other) ps e
    goes_on other (suc most) ps e =
        let rest = x.taken ++ x.at ∷ other in
        let m = w.again rest (first_same x.taken x.at other x.back ∙ sym (ap first x.all)) in
        let here = sym (moved most stage inside (w.taken ++ rest) rest w.value m) ∙ ap (phrases_from (suc most) stage inside) (sym (append_assoc w.taken x.taken (x.at ∷ other))) ∙ e in
        rest_read (option_to_list w.value.phrase) ps (phrases_from most w.value.stage w.value.inside rest) here (λ qs g. x.never other most qs g)

stuck_stops : (most : ℕ) (stage : Stage) (inside : Bool) (tokens : List Token) (f : Fault) → phrases_from (suc most) stage inside tokens ≡ Err f → Stuck (read_advance stage inside) (Ends stage inside) tokens → Stops stage inside tokens f
stuck_stops most stage inside tokens f e s =
    record {
      taken = s.taken;
      at = s.at;
      back = s.back;
      all = s.all;
      ending = s.ending;
      ends = s.here;
      fault = same_fault (phrases_from (suc most) stage inside tokens) f (fault_at s.at) e (failed most stage inside tokens (fault_at s.at) (ap (read_advance stage inside) s.all ∙ s.again s.back));
      never = never;
    }
  where
    never : (other : List Token) (n : ℕ) (ps : List Phrase) → phrases_from n stage inside (s.taken ++ s.at ∷ other) ≡ Ok ps → ⊥
    never other zero ps g = no_advances stage inside (s.taken ++ s.at ∷ other) ps g
    never other (suc n) ps g = both_ways (phrases_from (suc n) stage inside (s.taken ++ s.at ∷ other)) (fault_at s.at) ps (failed n stage inside (s.taken ++ s.at ∷ other) (fault_at s.at) (s.again other)) g

by_advance : (most : ℕ) (stage : Stage) (inside : Bool) (tokens : List Token) (f : Fault) → length tokens ≤ suc most → phrases_from (suc most) stage inside tokens ≡ Err f
    → ((next : Stage) (within : Bool) (rest : List Token) → EndOnce rest → length rest ≤ most → phrases_from most next within rest ≡ Err f → Stops next within rest f)
    → Advances (read_advance stage inside) (Ends stage inside) tokens → Stops stage inside tokens f
by_advance most stage inside tokens f le e ih (inl (inl w)) =
    let m = ap (read_advance stage inside) w.all ∙ w.again w.rest refl in
    let late = rest_failed (option_to_list w.value.phrase) (phrases_from most w.value.stage w.value.inside w.rest) f (sym (moved most stage inside tokens w.rest w.value m) ∙ e) in
    went_stops stage inside tokens f w (ih w.value.stage w.value.inside w.rest w.once (omega (arith, ap length w.all, length-append w.taken w.rest, w.long)) late)
by_advance most stage inside tokens f le e ih (inl (inr s)) = stuck_stops most stage inside tokens f e s
by_advance most stage inside tokens f le e ih (inr over) = absurd (both_ways (phrases_from (suc most) stage inside tokens) f [] e (ended most stage inside tokens over.4))

stops : (most : ℕ) (stage : Stage) (inside : Bool) (tokens : List Token) (f : Fault) → EndOnce tokens → length tokens ≤ most → phrases_from most stage inside tokens ≡ Err f → Stops stage inside tokens f
stops zero stage inside [] f once le e = absurd once
stops zero stage inside (t ∷ ts) f once le e = absurd (omega arith)
stops (suc most) stage inside tokens f once le e = by_advance most stage inside tokens f le e (λ next within rest later less g. stops most next within rest f later less g) (advance_met stage inside tokens once)

-- nothing is read of these tokens and those that follow
abbrev Never : List Token → Token → Type 0
Never front t = (other : List Token) (most : ℕ) (ps : List Phrase) → phrases_from most stages.Begin false (front ++ t ∷ other) ≡ Ok ps → ⊥

none_ends : (front : List Token) (t : Token) → t.kind ≡ kinds.Finish → Never front t → IsNone front
none_ends front t k never = λ tree is e.
    never [] (length (front ++ t ∷ [])) (config_phrases tree) (printed_is_read tree (front ++ t ∷ []) is (t, k, ap (λ (x : List Token). x ++ t ∷ []) (sym e)))

none_begins : (front : List Token) (t : Token) → Never front t → BeginsNone (front ++ t ∷ [])
none_begins front t never = λ b.
    let finish = made_up kinds.Finish in
    let whole = print_config b.1 ++ finish ∷ [] in
    let same : whole ≡ front ++ t ∷ (b.0 ++ finish ∷ []) = ap (λ (x : List Token). x ++ finish ∷ []) (b.3 ∙ append_assoc front (t ∷ []) b.0) ∙ append_assoc front (t ∷ b.0) (finish ∷ []) in
    never (b.0 ++ finish ∷ []) (length whole) (config_phrases b.1) (ap (phrases_from (length whole) stages.Begin false) (sym same) ∙ printed_is_read b.1 whole b.2 (finish, refl, refl))

goes_wrong : (k : TokenKind) (front : List Token) (t : Token) → t.kind ≡ k → Never front t → GoesWrong k front t
goes_wrong kinds.Finish front t k never = none_ends front t k never
goes_wrong _ front t k never = none_begins front t never

pub reading_stops : (tokens : List Token) (f : Fault) → EndOnce tokens → phrases_of_tokens tokens ≡ Err f → StopsAt tokens f
reading_stops tokens f once e =
    let x = stops (length tokens) stages.Begin false tokens f once (omega arith) e in
    (x.taken, x.at, x.back, x.all, (x.ending, x.ends.0, x.ends.1, sym x.ends.2), goes_wrong x.at.kind x.taken x.at refl x.never, x.fault)

pub text_stops : (text : List ℕ) (f : Fault) → phrases_in text ≡ Err f → TextStopsAt text f
text_stops text f e = (tokens_in text, text_is_tokens text, reading_stops (tokens_in text) f (tokens_end_once text) e)

-- what is read from a stage on ends a configuration, with the end of the text behind it
abbrev IsWhole : Stage → Bool → List Token → Type 0
IsWhole stage inside tokens = (front : List Token) × (finish : Token) × (finish.kind ≡ kinds.Finish) × (tokens ≡ front ++ finish ∷ []) × Ends stage inside front

went_whole : (stage : Stage) (inside : Bool) (tokens : List Token) (w : Went 1 (read_advance stage inside) onto Next (Ends stage inside) tokens) → IsWhole w.value.stage w.value.inside w.rest → IsWhole stage inside tokens
went_whole stage inside tokens w x =
    (w.taken ++ x.0, x.1, x.2, w.all ∙ ap (λ (l : List Token). w.taken ++ l) x.3 ∙ sym (append_assoc w.taken x.0 (x.1 ∷ [])), w.here x.0 x.4)

rest_is_read : (front ps : List Phrase) (read : Result (List Phrase) Fault) → with_front front read ≡ Ok ps → (qs : List Phrase) × (read ≡ Ok qs)
rest_is_read front ps (Ok qs) e = (qs, refl)
rest_is_read front ps (Err g) e = absurd cc

whole_by : (most : ℕ) (stage : Stage) (inside : Bool) (tokens : List Token) (ps : List Phrase) → phrases_from (suc most) stage inside tokens ≡ Ok ps
    → ((next : Stage) (within : Bool) (rest : List Token) (qs : List Phrase) → EndOnce rest → phrases_from most next within rest ≡ Ok qs → IsWhole next within rest)
    → Advances (read_advance stage inside) (Ends stage inside) tokens → IsWhole stage inside tokens
whole_by most stage inside tokens ps e ih (inl (inl w)) =
    let m = ap (read_advance stage inside) w.all ∙ w.again w.rest refl in
    let late = rest_is_read (option_to_list w.value.phrase) ps (phrases_from most w.value.stage w.value.inside w.rest) (sym (moved most stage inside tokens w.rest w.value m) ∙ e) in
    went_whole stage inside tokens w (ih w.value.stage w.value.inside w.rest late.0 w.once late.1)
whole_by most stage inside tokens ps e ih (inl (inr s)) =
    absurd (both_ways (phrases_from (suc most) stage inside tokens) (fault_at s.at) ps (failed most stage inside tokens (fault_at s.at) (ap (read_advance stage inside) s.all ∙ s.again s.back)) e)
whole_by most stage inside tokens ps e ih (inr over) = ([], over.0, over.1, over.2, over.3)

whole : (most : ℕ) (stage : Stage) (inside : Bool) (tokens : List Token) (ps : List Phrase) → EndOnce tokens → phrases_from most stage inside tokens ≡ Ok ps → IsWhole stage inside tokens
whole zero stage inside tokens ps once e = absurd (no_advances stage inside tokens ps e)
whole (suc most) stage inside tokens ps once e = whole_by most stage inside tokens ps e (λ next within rest qs later g. whole most next within rest qs later g) (advance_met stage inside tokens once)

-- What is read to the end is printed for a tree of the grammar.
pub read_is_whole : (tokens : List Token) (ps : List Phrase) → EndOnce tokens → phrases_of_tokens tokens ≡ Ok ps → (tree : List OuterTree) × IsConfig tree × ArePrinted tree tokens
read_is_whole tokens ps once e =
    let w = whole (length tokens) stages.Begin false tokens ps once e in
    (w.4.0, w.4.1, (w.1, w.2, w.3 ∙ ap (λ (l : List Token). l ++ w.1 ∷ []) w.4.2))
