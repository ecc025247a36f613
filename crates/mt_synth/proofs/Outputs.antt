-- Outputs from 0 on, with one more.
use Rattle.std.proofs.Common.{◌≡◌, ◌∙◌, ℕ, zero, suc, ◌+◌, Bool, true, false, List, [], ◌∷◌, ◌++◌, map, filter, ap, refl, sym, arith, append-nil}
use Rattle.std.specs.List.{range_with_len}
use Rattle.std.proofs.lemmas.List.{map-append}
use Rattle.std.proofs.lemmas.List.Elements.{filter-append}
use Rattle.mt_elements.specs.ChainState.{ChainState}
use Rattle.mt_kinds.specs.Outputs.{filter_outs}
use Rattle.mt_kinds.specs.declared.kind.Kind.{Kind}
use Rattle.mt_kinds.specs.declared.kind.Kind.TheVariants.{IPFilter}
use Rattle.mt_kinds.specs.declared.rule.Rule.{Rule}
use Rattle.mt_trees.specs.Symbols.{Symbol}
use Rattle.mt_synth.specs.Exits.{Exits, counted, by_outputs, exit_forms, exits_of}
use Rattle.mt_synth.specs.Symbols.{symbol_form}
use Rattle.mt_synth.specs.declared.exits.Exit.{Exit}

range_more : (a n : ℕ) → range_with_len a (suc n) ≡ range_with_len a n ++ (a + n) ∷ []
range_more a zero = let same : a ≡ a + 0 = omega arith in ap (λ k. k ∷ []) same
range_more a (suc n) = let same : a + 1 + n ≡ a + suc n = omega arith in ap (λ rest. a ∷ rest) (range_more (a + 1) n ∙ ap (λ k. range_with_len (a + 1) n ++ k ∷ []) same)

-- the first outputs and the next
next : (n : ℕ) → range_with_len 0 (n + 1) ≡ range_with_len 0 n ++ n ∷ []
next n =
    let here : n + 1 ≡ suc n = omega arith in
    let last : 0 + n ≡ n = omega arith in
    ap (range_with_len 0) here ∙ (range_more 0 n ∙ ap (λ k. range_with_len 0 n ++ k ∷ []) last)

pub counted_more : (n : ℕ) (symbol : Symbol) → counted (n + 1) symbol ≡ counted n symbol ++ (n, symbol) ∷ []
counted_more n symbol = ap (map (λ out. (out, symbol))) (next n) ∙ map-append (λ (out : ℕ). (out, symbol)) (range_with_len 0 n) (n ∷ [])

more : (test : ℕ → Bool) (n : ℕ) (symbol : Symbol) → by_outputs test (n + 1) symbol ≡ by_outputs test n symbol ++ map (λ out. (out, symbol)) (filter test (n ∷ []))
more test n symbol =
    ap (λ outs. map (λ (out : ℕ). (out, symbol)) (filter test outs)) (next n)
    ∙ (ap (map (λ (out : ℕ). (out, symbol))) (filter-append test (range_with_len 0 n) (n ∷ [])) ∙ map-append (λ (out : ℕ). (out, symbol)) (filter test (range_with_len 0 n)) (filter test (n ∷ [])))

pub taken_more : (test : ℕ → Bool) (n : ℕ) (symbol : Symbol) → test n ≡ true → by_outputs test (n + 1) symbol ≡ by_outputs test n symbol ++ (n, symbol) ∷ []
taken_more test n symbol e = more test n symbol ∙ rw e refl

pub passed_over : (test : ℕ → Bool) (n : ℕ) (symbol : Symbol) → test n ≡ false → by_outputs test (n + 1) symbol ≡ by_outputs test n symbol
passed_over test n symbol e = more test n symbol ∙ rw e (append-nil (by_outputs test n symbol))

-- an exit more at the end
pub pushed : (exits new : List Exit) (exit : Exit) (form : Symbol) (forms : Exits) → exit_forms exits ≡ forms → new ≡ exits ++ exit ∷ [] → symbol_form exit.symbol ≡ form → exit_forms new ≡ forms ++ (exit.out, form) ∷ []
pushed exits new exit form forms before added same =
    ap exit_forms added ∙ (map-append (λ (e : Exit). (e.out, symbol_form e.symbol)) exits (exit ∷ [])
    ∙ (ap (λ fs. fs ++ (exit.out, symbol_form exit.symbol) ∷ []) before ∙ ap (λ f. forms ++ (exit.out, f) ∷ []) same))

-- the outputs of a filter
pub filter_exits : (chain : ChainState) (at : ℕ × ℕ) (own : Kind) (rules : List Rule) (symbol : Symbol) (count : ℕ) → own ≡ IPFilter rules → count ≡ filter_outs rules → counted count symbol ≡ exits_of chain at own symbol
unfolding exits_of
filter_exits chain at own rules symbol count is same = ap (λ n. counted n symbol) same ∙ sym (ap (λ kind. exits_of chain at kind symbol) is)
