-- The trees of cuts behind the exits of an element, one after the other.
use Rattle.std.proofs.Common.{◌≡◌, ◌∙◌, ap, sym, subst, refl, inl, inr, ◌⊎◌, ℕ, zero, suc, ◌+◌, List, [], ◌∷◌, ◌++◌, length, map}
use Rattle.std.specs.Prelude.{Some, slice_get, option_map}
use Rattle.std.proofs.lemmas.List.{length-append}
use Rattle.std.proofs.lemmas.Option.{slice_get-map}
use Rattle.mt_cuts.specs.Canonical.{IsCanonical}
use Rattle.mt_cuts.specs.View.{tree_of}
use Rattle.mt_cuts.specs.declared.cut.Cut.{Cut}
use Rattle.mt_elements.specs.ChainState.{ChainState}
use Rattle.mt_kinds.specs.declared.kind.Kind.{Kind}
use Rattle.mt_terms.specs.declared.tree.Tree.{Tree}
use Rattle.mt_trees.specs.Elements.{Along, leaves}
use Rattle.mt_trees.specs.Symbols.{Symbol}
use Rattle.mt_synth.specs.Cuts.{Means, Grows, AreBehind, AreCanonical}
use Rattle.mt_synth.specs.Symbols.{symbol_form}
use Rattle.mt_synth.specs.declared.exits.Exit.{Exit}
use Rattle.mt_synth.proofs.Meant.{means_later, grows_on}

-- a place of a list with one element more
pub place_cases : {A : Type 0} (xs : List A) (x : A) (k : ℕ) (y : A) → slice_get (xs ++ x ∷ []) k ≡ Some y → (slice_get xs k ≡ Some y) ⊎ ((k ≡ length xs) × (x ≡ y))
place_cases [] x zero y h = inr (refl, cc)
place_cases [] x (suc k) y h = absurd cc
place_cases (z ∷ zs) x zero y h = inl h
place_cases (z ∷ zs) x (suc k) y h = elim (place_cases zs x k y h) [
  | inl before ↦ inl before
  | inr last ↦ inr (ap suc last.0, last.1)
]

abbrev pub exit_form : Exit → ℕ × Symbol
exit_form exit = (exit.out, symbol_form exit.symbol)

-- what the walk behind the first exits has: a tree of cuts for each
pub record HasWalked (chain : ChainState) (along : List ℕ → Along) (at : ℕ × ℕ) (own : Kind) (old new : List Tree) (exits : List Exit) (cuts : List Cut) (place : ℕ) : Type 0 where
  pub counted : length cuts ≡ place
  pub canonical : AreCanonical chain.entries cuts
  pub behind : AreBehind chain.entries new chain along at own (map exit_form exits) cuts
  pub grown : Grows old new

module _ (chain : ChainState) (along : List ℕ → Along) (at : ℕ × ℕ) (own : Kind) (old : List Tree) (exits : List Exit) where
  pub begun : (cuts : List Cut) → cuts ≡ [] → HasWalked chain along at own old old exits cuts 0
  begun cuts none = record {
    counted = ap length none;
    canonical = λ place cut is. absurd (nothing cuts none place cut is);
    behind = λ place exit cut there is. absurd (nothing cuts none place cut is);
    grown = λ number tree is. is;
  }
    where
      nothing : (cuts : List Cut) → cuts ≡ [] → (place : ℕ) (cut : Cut) → slice_get cuts place ≡ Some cut → ⊥
      nothing [] none place cut is = absurd cc
      nothing (c ∷ cs) none place cut is = absurd cc

  module _ (now new : List Tree) (cuts : List Cut) (place : ℕ) (walked : HasWalked chain along at own old now exits cuts place) (grows : Grows now new)
      (exit : Exit) (there : slice_get exits place ≡ Some exit) (cut : Cut) (canonical : IsCanonical chain.entries (tree_of cut))
      (means : Means chain.entries new (tree_of cut) (λ header. leaves chain header (along header) at own (symbol_form exit.symbol) exit.out)) where
    same_exit : (other : ℕ × Symbol) → slice_get (map exit_form exits) place ≡ Some other → exit_form exit ≡ other
    same_exit other is = let known = sym (slice_get-map exit_form exits place ∙ ap (option_map exit_form) there) ∙ is in cc

    pub further : HasWalked chain along at own old new exits (cuts ++ cut ∷ []) (place + 1)
    further = record {
      counted = length-append cuts (cut ∷ []) ∙ ap (λ n. n + 1) walked.counted;
      canonical = λ k other is. elim (place_cases cuts cut k other is) [
        | inl before ↦ walked.canonical k other before
        | inr last ↦ subst (λ (c : Cut). IsCanonical chain.entries (tree_of c)) last.1 canonical
      ];
      behind = λ k out other at_exit is. elim (place_cases cuts cut k other is) [
        | inl before ↦ means_later chain.entries now new (tree_of other) _ grows (walked.behind k out other at_exit before)
        | inr last ↦ subst (λ (c : Cut). Means chain.entries new (tree_of c) (λ header. leaves chain header (along header) at own out.1 out.0)) last.1
            (subst (λ (e : ℕ × Symbol). Means chain.entries new (tree_of cut) (λ header. leaves chain header (along header) at own e.1 e.0)) (same_exit out (subst (λ n. slice_get (map exit_form exits) n ≡ Some out) (last.0 ∙ walked.counted) at_exit)) means)
      ];
      grown = grows_on old now new walked.grown grows;
    }
