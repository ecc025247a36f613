-- What a rewriter does where ports are visible and where they are not.
use Rattle.std.proofs.Common.{◌≡◌, ◌∙◌, sym, ap, subst, refl, ℕ, suc, ◌<◌, List, [], ◌∷◌, ◌++◌, length, drop, map, arith}
use Rattle.std.specs.Prelude.{Some, slice_get}
use Rattle.std.proofs.lemmas.Option.{none-some}
use Rattle.mt_packet.specs.declared.cause.Cause.TheVariants.{Unported}
use Rattle.mt_packet.specs.declared.field.Field.{Field}
use Rattle.mt_cuts.specs.Tree as cutting
use Rattle.mt_cuts.specs.Tree.{value_of}
use Rattle.mt_cuts.specs.View.{tree_of}
use Rattle.mt_cuts.specs.declared.cut.Cut.{Cut}
use Rattle.mt_elements.specs.ChainState.{ChainState}
use Rattle.mt_kinds.specs.declared.kind.Kind.{Kind}
use Rattle.mt_kinds.specs.declared.rewriter.Spec.{Spec}
use Rattle.mt_kinds.specs.declared.rewriter.Spec.TheVariants as spec
use Rattle.mt_rewriter.specs.Passages.{unported}
use Rattle.mt_rewriter.specs.declared.passage.Passage.{Passage}
use Rattle.mt_rewriter.specs.declared.passage.Passage.TheVariants as passage
use Rattle.mt_terms.specs.declared.tree.Tree.{Tree}
use Rattle.mt_trees.specs.Elements.{Along, dropped, leaves, passage_tree, passed_tree}
use Rattle.mt_trees.specs.Symbols.{Symbol, annotated}
use Rattle.mt_trees.specs.Tests.{ports_tested}
use Rattle.mt_synth.specs.Cuts.{TreeAt, Means, Grows, AreBehind}
use Rattle.mt_synth.specs.Exits.{Exits, passed_exits, taken_exits}
use Rattle.mt_synth.proofs.Meant.{behind_later, means_values}

pub unported_drops : (s : Spec) → ((out : ℕ) → s ≡ spec.Pass out → ⊥) → unported s ≡ passage.Dropped Unported
unported_drops spec.Drop h = refl
unported_drops (spec.Pass out) h = absurd (h out refl)
unported_drops (spec.Keep fout rout) h = refl
unported_drops (spec.Pattern template) h = refl
unported_drops (spec.Mapper number) h = refl

behind_first : (cuts : List Cut) (place : ℕ) (cut : Cut) → slice_get (drop 1 cuts) place ≡ Some cut → slice_get cuts (suc place) ≡ Some cut
behind_first [] place cut h = absurd (none-some cut h)
behind_first (first ∷ cuts) place cut h = h

pub mapped_behind : {A B : Type 0} (f : A → B) (xs : List A) → map f (drop 1 xs) ≡ drop 1 (map f xs)
mapped_behind f [] = refl
mapped_behind f (x ∷ xs) = refl

module _ (devices : ℕ) (old new : List Tree) (symbol : Symbol) (at : ℕ × ℕ) (result : cutting.Tree) where
  -- what is made where ports are visible, and elsewhere another tree
  abbrev pub Ported : Exits → List Cut → cutting.Tree → Type 0
  Ported exits cuts other =
      (chain : ChainState) (along : List ℕ → Along) (own : Kind) (specs : List Spec) (s : Spec) (other_at : TreeAt) → exits ≡ taken_exits chain at specs s symbol
      → AreBehind devices old chain along at own (taken_exits chain at specs s symbol) cuts → Means devices old other other_at
      → Means devices new result (λ header. ports_tested header symbol (passage_tree chain header (along header) at own symbol specs s) (other_at header))

  abbrev pub Stands : Spec → Passage → List Tree → Exits → List Cut → Type 0
  Stands s p before exits cuts =
      (chain : ChainState) (along : List ℕ → Along) (own : Kind) (specs : List Spec) → exits ≡ passed_exits p symbol ++ taken_exits chain at specs s symbol
      → AreBehind devices before chain along at own (passed_exits p symbol ++ taken_exits chain at specs s symbol) cuts
      → Means devices new result (λ header. ports_tested header symbol (passage_tree chain header (along header) at own symbol specs s) (passed_tree chain header (along header) at own symbol p))

  -- an input that drops what has no visible ports
  pub drops_stand : (s : Spec) (before : List Tree) (exits : Exits) (cuts : List Cut) (other : cutting.Tree) → ((out : ℕ) → s ≡ spec.Pass out → ⊥) → Grows before old
      → Means devices old other (λ header. dropped Unported) → Ported exits cuts other → Stands s (unported s) before exits cuts
  drops_stand s before exits cuts other none grows means ported =
      subst (λ (p : Passage). Stands s p before exits cuts) (sym (unported_drops s none))
      (λ chain along own specs are behind_them. ported chain along own specs s (λ header. dropped Unported) are
      (behind_later devices before old chain along at own (taken_exits chain at specs s symbol) cuts grows behind_them) means)

  first_stands : (cuts : List Cut) (other : cutting.Tree) (chain : ChainState) (along : List ℕ → Along) (own : Kind) (out : ℕ) (more : Exits) → 0 < length cuts
      → ((cut : Cut) → slice_get cuts 0 ≡ Some cut → (header : Field → ℕ) → value_of other header ≡ value_of (tree_of cut) header)
      → AreBehind devices old chain along at own ((out, annotated symbol) ∷ more) cuts → Means devices old other (λ header. leaves chain header (along header) at own (annotated symbol) out)
  first_stands [] other chain along own out more some same behind_them = absurd (omega (arith, some))
  first_stands (cut ∷ cuts) other chain along own out more some same behind_them =
      means_values devices old (tree_of cut) other (λ header. leaves chain header (along header) at own (annotated symbol) out) (same cut refl) (behind_them 0 (out, annotated symbol) cut refl refl)

  -- an input that passes it
  pub pass_stands : (s : Spec) (out : ℕ) (exits rest : Exits) (cuts tail : List Cut) (other : cutting.Tree) → s ≡ spec.Pass out → 0 < length cuts → rest ≡ drop 1 exits → tail ≡ drop 1 cuts
      → ((cut : Cut) → slice_get cuts 0 ≡ Some cut → (header : Field → ℕ) → value_of other header ≡ value_of (tree_of cut) header)
      → Ported rest tail other → Stands s (unported s) old exits cuts
  pass_stands s out exits rest cuts tail other is some are_rest are_tail same ported =
      subst (λ (p : Passage). Stands s p old exits cuts) (sym (ap unported is))
      (λ chain along own specs are behind_them. ported chain along own specs s (λ header. leaves chain header (along header) at own (annotated symbol) out) (are_rest ∙ ap (drop 1) are)
      (λ place exit cut is_exit is_cut. behind_them (suc place) exit cut is_exit (behind_first cuts place cut (ap (λ (xs : List Cut). slice_get xs place) (sym are_tail) ∙ is_cut)))
      (first_stands cuts other chain along own out (taken_exits chain at specs s symbol) some same behind_them))
