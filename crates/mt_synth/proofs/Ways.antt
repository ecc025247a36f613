-- One element of a walk.
use Rattle.std.proofs.Common.{◌≡◌, ◌∙◌, ap, sym, subst, refl, ℕ, zero, suc, ◌-◌, Bool, true, false, cond, List, arith}
use Rattle.std.specs.Prelude.{Some, None, Option, slice_get, option_and_then}
use Rattle.mt_kinds.specs.Layers.{takes}
use Rattle.mt_kinds.specs.declared.kind.Kind.{Kind}
use Rattle.mt_cuts.specs.View.{tree_of}
use Rattle.mt_cuts.specs.declared.cut.Cut.{Cut}
use Rattle.mt_elements.specs.ChainState.{ChainState, next_of}
use Rattle.mt_chain.specs.Step.{unwired_cause}
use Rattle.mt_terms.specs.Trees.{TreeForm}
use Rattle.mt_terms.specs.declared.tree.Tree.{Tree}
use Rattle.mt_trees.specs.Elements.{Along, by_wire, leaves, class_tree, element_tree, tree_from}
use Rattle.mt_trees.specs.Symbols.{Symbol}
use Rattle.mt_synth.specs.Cuts.{Means, AreBehind}
use Rattle.mt_synth.specs.Exits.{Exits}

module _ (chain : ChainState) (header : List ℕ) (at : ℕ × ℕ) (symbol : Symbol) (tree : TreeForm) where
  pub no_more : (most : ℕ) → most ≡ 0 → tree_from most chain header at symbol ≡ Some tree → ⊥
  unfolding tree_from
  no_more zero is found = absurd cc
  no_more (suc most) is found = absurd (omega (arith, is))

  pub no_element : (most : ℕ) → slice_get chain.kinds at.0 ≡ None → tree_from most chain header at symbol ≡ Some tree → ⊥
  unfolding tree_from
  no_element zero missing found = absurd cc
  no_element (suc most) missing found = let known = sym (ap (option_and_then (element_tree chain header (tree_from most chain header) at symbol)) missing) ∙ found in absurd cc

  pub not_taken : (most : ℕ) (kind : Kind) → slice_get chain.kinds at.0 ≡ Some kind → takes kind symbol.layer ≡ false → tree_from most chain header at symbol ≡ Some tree → ⊥
  unfolding tree_from
  not_taken zero kind is taken found = absurd cc
  not_taken (suc most) kind is taken found =
      let known = sym (ap (option_and_then (element_tree chain header (tree_from most chain header) at symbol)) is
      ∙ ap (λ (b : Bool). cond b (class_tree chain header (tree_from most chain header) at kind symbol) None) taken) ∙ found in absurd cc

-- an element is one step
pub stepped : (chain : ChainState) (header : List ℕ) (at : ℕ × ℕ) (symbol : Symbol) (most : ℕ) (kind : Kind) → (most ≡ 0 → ⊥) → slice_get chain.kinds at.0 ≡ Some kind → takes kind symbol.layer ≡ true
    → class_tree chain header (tree_from (most - 1) chain header) at kind symbol ≡ tree_from most chain header at symbol
unfolding tree_from
stepped chain header at symbol zero kind some is taken = absurd (some refl)
stepped chain header at symbol (suc most) kind some is taken =
    let less : suc most - 1 ≡ most = omega arith in
    ap (λ (n : ℕ). class_tree chain header (tree_from n chain header) at kind symbol) less
    ∙ sym (ap (option_and_then (element_tree chain header (tree_from most chain header) at symbol)) is
    ∙ ap (λ (b : Bool). cond b (class_tree chain header (tree_from most chain header) at kind symbol) None) taken)

-- behind an output
module _ (devices : ℕ) (trees : List Tree) (cut : Cut) (chain : ChainState) (along : List ℕ → Along) (at : ℕ × ℕ) (own : Kind) (symbol : Symbol) (out : ℕ) where
  pub by_next : (found : Option (ℕ × ℕ)) → found ≡ next_of chain at.0 out → Means devices trees (tree_of cut) (λ header. by_wire (along header) symbol found (unwired_cause own out))
      → Means devices trees (tree_of cut) (λ header. leaves chain header (along header) at own symbol out)
  by_next found is means = subst (λ (o : Option (ℕ × ℕ)). Means devices trees (tree_of cut) (λ header. by_wire (along header) symbol o (unwired_cause own out))) is means

-- the exits of an element
pub behind_same : (devices : ℕ) (trees : List Tree) (chain : ChainState) (along : List ℕ → Along) (at : ℕ × ℕ) (own : Kind) (exits others : Exits) (cuts : List Cut) → exits ≡ others
    → AreBehind devices trees chain along at own exits cuts → AreBehind devices trees chain along at own others cuts
behind_same devices trees chain along at own exits others cuts same behind = subst (λ (e : Exits). AreBehind devices trees chain along at own e cuts) same behind
