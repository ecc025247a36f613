-- Replacing parameters gives exactly the text that the relation says.
use Rattle.std.proofs.Common.{◌≡◌, ℕ, zero, suc, List, [], ◌∷◌, ◌++◌, length, take, drop, get_or, cond, eqb, Bool, true, false, Option, Some, None, refl, sym, ap, subst, ◌∙◌}
use Rattle.std.proofs.lemmas.List.{take-append-drop}
use Rattle.std.proofs.lemmas.Bool.{eqb-true}
use Rattle.mt_lists.proofs.Bools.{and_true}
use Rattle.mt_text.specs.Byte.{is_letter}
use Rattle.mt_syntax.specs.declared.replacing.Binding.{Binding}
use Rattle.mt_syntax.specs.Piece.{name_len}
use Rattle.mt_syntax.specs.Spelled.{IsWord}
use Rattle.mt_syntax.specs.Replacing.{argument_for, is_parameter, parameter_name, argument_at, replaced_from, replaced_in, HasArgument, IsReplaced}
use Rattle.mt_syntax.specs.Replacing.IsReplaced.{ends, name, other}
use Rattle.mt_syntax.proofs.PiecesSpelled.{word_front}
use Rattle.mt_syntax.proofs.PiecesFound.{word_len, word_taken}

-- a parameter that has an argument

found : (t : Bool) (o : Option (List ℕ)) (argument : List ℕ) → cond t o None ≡ Some argument → (t ≡ true) × (o ≡ Some argument)
found true o argument e = (refl, e)
found false o argument e = absurd cc

name_behind : (bindings : List Binding) (bs argument : List ℕ) → is_letter (get_or bs 0 0) ≡ true → argument_for bindings (take (name_len bs) bs) ≡ Some argument → HasArgument bindings (take (name_len bs) bs) argument (drop (name_len bs) bs)
name_behind bindings [] argument h e = absurd cc
name_behind bindings (b ∷ bs) argument h e = (word_front b bs h, e)

begins : (bindings : List Binding) (b : ℕ) (bs argument : List ℕ) → argument_at bindings (b ∷ bs) ≡ Some argument → (b ≡ 36) × HasArgument bindings (take (name_len bs) bs) argument (drop (name_len bs) bs)
unfolding argument_at
begins bindings b bs argument e =
    let f = found (is_parameter (b ∷ bs)) (argument_for bindings (parameter_name (b ∷ bs))) argument e in
    let t = and_true (eqb b 36) (is_letter (get_or bs 0 0)) f.0 in
    (eqb-true b 36 t.0, name_behind bindings bs argument t.1 f.1)

letter_first : (bytes rest : List ℕ) → IsWord bytes rest → is_letter (get_or (bytes ++ rest) 0 0) ≡ true
letter_first [] rest w = absurd w.0
letter_first (b ∷ bs) rest w = w.0.0

is_there : (bindings : List Binding) (bytes argument rest : List ℕ) → HasArgument bindings bytes argument rest → argument_at bindings (36 ∷ (bytes ++ rest)) ≡ Some argument
unfolding argument_at
is_there bindings bytes argument rest h = rw (letter_first bytes rest h.0, word_taken bytes rest h.0) h.1

-- what replacing gives is so

put : (bindings : List Binding) (b : ℕ) (bs argument : List ℕ) → argument_at bindings (b ∷ bs) ≡ Some argument → IsReplaced bindings (drop (name_len bs) bs) (replaced_from bindings (name_len bs) bs)
    → IsReplaced bindings (b ∷ bs) (argument ++ replaced_from bindings (name_len bs) bs)
put bindings b bs argument e more =
    let f = begins bindings b bs argument e in
    let whole : 36 ∷ (take (name_len bs) bs ++ drop (name_len bs) bs) ≡ b ∷ bs = ap (λ (x : List ℕ). 36 ∷ x) (take-append-drop (name_len bs) bs) ∙ ap (λ (x : ℕ). x ∷ bs) (sym f.0) in
    subst (λ (x : List ℕ). IsReplaced bindings x (argument ++ replaced_from bindings (name_len bs) bs)) whole
    (name bindings (take (name_len bs) bs) argument (drop (name_len bs) bs) (replaced_from bindings (name_len bs) bs) f.1 more)

no_name : (bindings : List Binding) (b : ℕ) (bs : List ℕ) → argument_at bindings (b ∷ bs) ≡ None → (bytes argument behind : List ℕ) → b ∷ bs ≡ 36 ∷ (bytes ++ behind) → HasArgument bindings bytes argument behind → ⊥
no_name bindings b bs none bytes argument behind e h = let two : Some argument ≡ None = sym (is_there bindings bytes argument behind h) ∙ ap (argument_at bindings) (sym e) ∙ none in cc

at_front : (bindings : List Binding) (b : ℕ) (bs : List ℕ) (o : Option (List ℕ)) → argument_at bindings (b ∷ bs) ≡ o → ((s : ℕ) → IsReplaced bindings (drop s bs) (replaced_from bindings s bs))
    → IsReplaced bindings (b ∷ bs) (elim o [ None ↦ b ∷ replaced_from bindings 0 bs | Some argument ↦ argument ++ replaced_from bindings (name_len bs) bs ])
at_front bindings b bs None e more = other bindings b bs (replaced_from bindings 0 bs) (no_name bindings b bs e) (more 0)
at_front bindings b bs (Some argument) e more = put bindings b bs argument e (more (name_len bs))

is_replaced_from : (bindings : List Binding) (text : List ℕ) (skip : ℕ) → IsReplaced bindings (drop skip text) (replaced_from bindings skip text)
unfolding replaced_from
is_replaced_from bindings [] zero = ends bindings
is_replaced_from bindings [] (suc s) = ends bindings
is_replaced_from bindings (b ∷ bs) (suc s) = is_replaced_from bindings bs s
is_replaced_from bindings (b ∷ bs) zero = at_front bindings b bs (argument_at bindings (b ∷ bs)) refl (is_replaced_from bindings bs)

-- and nothing else is

skipped : (bindings : List Binding) (xs rest : List ℕ) → replaced_from bindings (length xs) (xs ++ rest) ≡ replaced_from bindings 0 rest
unfolding replaced_from
skipped bindings [] rest = refl
skipped bindings (x ∷ xs) rest = skipped bindings xs rest

is_only : (bindings : List Binding) (text out : List ℕ) → IsReplaced bindings text out → replaced_from bindings 0 text ≡ out
unfolding replaced_from
is_only _ _ _ (ends bindings) = refl
is_only _ _ _ (name bindings bytes argument rest out h more) =
    let there = is_there bindings bytes argument rest h in
    let n = word_len bytes rest h.0 in
    let one : replaced_from bindings 0 (36 ∷ (bytes ++ rest)) ≡ argument ++ replaced_from bindings (name_len (bytes ++ rest)) (bytes ++ rest) = rw (there, replaced_from) refl in
    one ∙ ap (λ (k : ℕ). argument ++ replaced_from bindings k (bytes ++ rest)) n ∙ ap (λ (x : List ℕ). argument ++ x) (skipped bindings bytes rest ∙ is_only bindings rest out more)
is_only _ _ _ (other bindings b rest out none more) =
    by_front bindings b rest out (argument_at bindings (b ∷ rest)) refl none (is_only bindings rest out more)
  where
    by_front : (bindings : List Binding) (b : ℕ) (rest out : List ℕ) (o : Option (List ℕ)) → argument_at bindings (b ∷ rest) ≡ o
        → ((bytes argument behind : List ℕ) → b ∷ rest ≡ 36 ∷ (bytes ++ behind) → HasArgument bindings bytes argument behind → ⊥) → replaced_from bindings 0 rest ≡ out
        → elim o [ None ↦ b ∷ replaced_from bindings 0 rest | Some argument ↦ argument ++ replaced_from bindings (name_len rest) rest ] ≡ b ∷ out
    by_front bindings b rest out None e none more = ap (λ (x : List ℕ). b ∷ x) more
    by_front bindings b rest out (Some argument) e none more =
        let f = begins bindings b rest argument e in
        absurd (none (take (name_len rest) rest) argument (drop (name_len rest) rest) (ap (λ (x : ℕ). x ∷ rest) f.0 ∙ ap (λ (x : List ℕ). 36 ∷ x) (sym (take-append-drop (name_len rest) rest))) f.1)

pub replaced_is : (bindings : List Binding) (text out : List ℕ) → replaced_in bindings text ≡ out → IsReplaced bindings text out
replaced_is bindings text out e = subst (IsReplaced bindings text) e (is_replaced_from bindings text 0)

pub replaced_only : (bindings : List Binding) (text out : List ℕ) → IsReplaced bindings text out → replaced_in bindings text ≡ out
replaced_only bindings text out h = is_only bindings text out h
