-- Reading one phrase after the other, as a loop does.
use Rattle.std.proofs.Common.{◌≡◌, ℕ, zero, suc, ◌≤◌, ◌<◌, List, [], ◌∷◌, ◌++◌, length, Bool, Some, None, Result, Ok, Err, refl, sym, ap, ◌∙◌, append_assoc, arith}
use Rattle.std.proofs.lemmas.List.{append-nil}
use Rattle.std.specs.Option.{option_to_list}
use Rattle.mt_syntax.specs.declared.token.Token.{Token}
use Rattle.mt_syntax.specs.declared.fault.Fault.{Fault}
use Rattle.mt_syntax.specs.declared.phrase.Phrase.{Phrase}
use Rattle.mt_syntax.specs.declared.advance.Stage.{Stage}
use Rattle.mt_syntax.specs.declared.advance.Stage.TheVariants as stages
use Rattle.mt_syntax.specs.declared.advance.Advance.{Advance}
use Rattle.mt_syntax.specs.Reading.{◌>>=◌, no_token, phrases_from, read_advance, read_begin, read_done, read_after_endpoint, read_after_name, read_head, read_after_parameter}

-- what was read before, and what is still read
abbrev pub with_front : List Phrase → Result (List Phrase) Fault → Result (List Phrase) Fault
with_front front read = read >>= λ ps. Ok (front ++ ps)

-- some bound covers the rest, and with it the whole is read
abbrev pub IsSoFar : List Phrase → Stage → Bool → List Token → Result (List Phrase) Fault → Type 0
IsSoFar front stage inside rest total = (n : ℕ) × (length rest ≤ n) × (with_front front (phrases_from n stage inside rest) ≡ total)

nothing_left : (stage : Stage) (inside : Bool) → read_advance stage inside [] ≡ Err (no_token [])
unfolding read_advance read_begin read_done read_after_endpoint read_after_name read_head read_after_parameter
nothing_left stages.Begin inside = refl
nothing_left stages.Done inside = refl
nothing_left (stages.Ended port) inside = refl
nothing_left stages.Names inside = refl
nothing_left stages.Head inside = refl
nothing_left stages.Parameters inside = refl

pub regroup : (front new : List Phrase) (read : Result (List Phrase) Fault) → with_front front (read >>= λ ps. Ok (new ++ ps)) ≡ with_front (front ++ new) read
regroup front new (Ok ps) = ap (λ (x : List Phrase). Ok x) (sym (append_assoc front new ps))
regroup front new (Err f) = refl

empty : (ts : List Token) → length ts ≤ 0 → ts ≡ []
empty [] h = refl
empty (t ∷ ts) h = absurd (omega arith)

goes : (n : ℕ) (front : List Phrase) (stage : Stage) (inside : Bool) (rest : List Token) (s : Advance) (after : List Token) (total : Result (List Phrase) Fault)
    → read_advance stage inside rest ≡ Ok (Some (s, after)) → length after < length rest → length rest ≤ n → with_front front (phrases_from n stage inside rest) ≡ total
    → IsSoFar (front ++ option_to_list s.phrase) s.stage s.inside after total
unfolding phrases_from
goes zero front stage inside rest s after total e lt le so_far = absurd (omega arith)
goes (suc n) front stage inside rest s after total e lt le so_far =
    let one : phrases_from (suc n) stage inside rest ≡ (phrases_from n s.stage s.inside after >>= λ ps. Ok (option_to_list s.phrase ++ ps)) = rw (phrases_from, e) refl in
    (n, omega arith, sym (regroup front (option_to_list s.phrase) (phrases_from n s.stage s.inside after)) ∙ ap (with_front front) (sym one) ∙ so_far)

pub goes_on : (front : List Phrase) (stage : Stage) (inside : Bool) (rest : List Token) (s : Advance) (after : List Token) (total : Result (List Phrase) Fault)
    → read_advance stage inside rest ≡ Ok (Some (s, after)) → length after < length rest → IsSoFar front stage inside rest total
    → IsSoFar (front ++ option_to_list s.phrase) s.stage s.inside after total
goes_on front stage inside rest s after total e lt so_far = goes so_far.0 front stage inside rest s after total e lt so_far.1 so_far.2

done : (n : ℕ) (front : List Phrase) (stage : Stage) (inside : Bool) (rest : List Token) (total : Result (List Phrase) Fault)
    → read_advance stage inside rest ≡ Ok None → length rest ≤ n → with_front front (phrases_from n stage inside rest) ≡ total → total ≡ Ok front
unfolding phrases_from
done zero front stage inside rest total e le so_far =
    let no_rest : read_advance stage inside rest ≡ Err (no_token []) = ap (read_advance stage inside) (empty rest le) ∙ nothing_left stage inside in
    absurd (let x : Ok None ≡ Err (no_token []) = sym e ∙ no_rest in cc)
done (suc n) front stage inside rest total e le so_far =
    let one : phrases_from (suc n) stage inside rest ≡ Ok [] = rw (phrases_from, e) refl in
    sym so_far ∙ ap (with_front front) one ∙ ap (λ (x : List Phrase). Ok x) (append-nil front)

pub is_done : (front : List Phrase) (stage : Stage) (inside : Bool) (rest : List Token) (total : Result (List Phrase) Fault)
    → read_advance stage inside rest ≡ Ok None → IsSoFar front stage inside rest total → total ≡ Ok front
is_done front stage inside rest total e so_far = done so_far.0 front stage inside rest total e so_far.1 so_far.2

failed : (n : ℕ) (front : List Phrase) (stage : Stage) (inside : Bool) (rest : List Token) (f : Fault) (total : Result (List Phrase) Fault)
    → read_advance stage inside rest ≡ Err f → length rest ≤ n → with_front front (phrases_from n stage inside rest) ≡ total → total ≡ Err f
unfolding phrases_from
failed zero front stage inside rest f total e le so_far =
    let no_rest : read_advance stage inside rest ≡ Err (no_token []) = ap (read_advance stage inside) (empty rest le) ∙ nothing_left stage inside in
    let same : no_token [] ≡ f = (let x : read_advance stage inside rest ≡ Err f = e in cc) in
    sym so_far ∙ ap (λ (x : Fault). let y : Result (List Phrase) Fault = Err x in y) same
failed (suc n) front stage inside rest f total e le so_far =
    let one : phrases_from (suc n) stage inside rest ≡ Err f = rw (phrases_from, e) refl in
    sym so_far ∙ ap (with_front front) one

pub has_failed : (front : List Phrase) (stage : Stage) (inside : Bool) (rest : List Token) (f : Fault) (total : Result (List Phrase) Fault)
    → read_advance stage inside rest ≡ Err f → IsSoFar front stage inside rest total → total ≡ Err f
has_failed front stage inside rest f total e so_far = failed so_far.0 front stage inside rest f total e so_far.1 so_far.2

pub whole : (read : Result (List Phrase) Fault) → with_front [] read ≡ read
whole (Ok ps) = refl
whole (Err f) = refl

pub begins : (stage : Stage) (inside : Bool) (tokens : List Token) → IsSoFar [] stage inside tokens (phrases_from (length tokens) stage inside tokens)
begins stage inside tokens = (length tokens, omega arith, whole (phrases_from (length tokens) stage inside tokens))
