-- What a tree of cuts stands for: by other functions, other trees of cuts and later tables, and where a condition selects.
use Rattle.std.proofs.Common.{◌≡◌, ◌∙◌, sym, ap, ℕ, zero, suc, ◌<◌, Bool, true, false, List, [], ◌∷◌, length, slice_get, Some, ◌==◌, arith}
use Rattle.std.proofs.lemmas.Option.{none-some}
use Rattle.std.specs.Prelude.{if◌then◌else◌}
use Rattle.mt_packet.specs.Header.{field_of}
use Rattle.mt_packet.specs.declared.field.Field.{Field}
use Rattle.mt_kinds.specs.declared.kind.Kind.{Kind}
use Rattle.mt_elements.specs.ChainState.{ChainState}
use Rattle.mt_cuts.specs.View.{tree_of}
use Rattle.mt_cuts.specs.declared.cut.Cut.{Cut}
use Rattle.mt_cuts.specs.Tree as cuts
use Rattle.mt_cuts.specs.Tree.{value_of}
use Rattle.mt_terms.specs.Trees.{TreeForm}
use Rattle.mt_terms.specs.declared.tree.Tree.{Tree}
use Rattle.mt_trees.specs.Elements.{Along, leaves}
use Rattle.mt_trees.specs.Tests.{Found}
use Rattle.mt_synth.specs.Cuts.{TreeAt, Means, IsCondition, Grows, AreBehind, tree_numbered}
use Rattle.mt_synth.specs.Exits.{Exits}

-- two functions that are equal at each header
pub means_same : (devices : ℕ) (trees : List Tree) (made : cuts.Tree) (f g : TreeAt) → ((header : List ℕ) → g header ≡ f header) → Means devices trees made f → Means devices trees made g
means_same devices trees made f g same means header domain tree is = means header domain tree (sym (same header) ∙ is)

-- two trees of cuts with the same values
pub means_values : (devices : ℕ) (trees : List Tree) (made other : cuts.Tree) (f : TreeAt) → ((header : Field → ℕ) → value_of other header ≡ value_of made header) → Means devices trees made f → Means devices trees other f
means_values devices trees made other f same means header domain tree is = ap (tree_numbered trees) (same (field_of header)) ∙ means header domain tree is

-- a later table
pub means_later : (devices : ℕ) (old new : List Tree) (made : cuts.Tree) (f : TreeAt) → Grows old new → Means devices old made f → Means devices new made f
means_later devices old new made f grows means header domain tree is = grows _ tree (means header domain tree is)

-- the trees of cuts behind exits
pub behind_later : (devices : ℕ) (old new : List Tree) (chain : ChainState) (along : List ℕ → Along) (at : ℕ × ℕ) (own : Kind) (exits : Exits) (cuts : List Cut) → Grows old new
    → AreBehind devices old chain along at own exits cuts → AreBehind devices new chain along at own exits cuts
behind_later devices old new chain along at own exits cuts grows behind place exit cut is_exit is_cut =
    means_later devices old new (tree_of cut) (λ header. leaves chain header (along header) at own exit.1 exit.0) grows (behind place exit cut is_exit is_cut)

-- a later one of a later one
pub grows_on : (a b c : List Tree) → Grows a b → Grows b c → Grows a c
grows_on a b c first second number tree is = second number tree (first number tree is)

side : (trees : List Tree) (b : Bool) (condition number inner outer : ℕ) (f g : Found) (tree : TreeForm) → condition ≡ (if b then 1 else 0) → number ≡ (if condition == 1 then inner else outer)
    → (f ≡ Some tree → tree_numbered trees inner ≡ Some tree) → (g ≡ Some tree → tree_numbered trees outer ≡ Some tree) → (if b then f else g) ≡ Some tree → tree_numbered trees number ≡ Some tree
side trees true condition number inner outer f g tree is value inside outside found = ap (tree_numbered trees) (value ∙ ap (λ (n : ℕ). if n == 1 then inner else outer) is) ∙ inside found
side trees false condition number inner outer f g tree is value inside outside found = ap (tree_numbered trees) (value ∙ ap (λ (n : ℕ). if n == 1 then inner else outer) is) ∙ outside found

-- one of two trees of cuts where a condition holds and the other elsewhere
pub selected : (devices : ℕ) (trees : List Tree) (condition inner outer made : cuts.Tree) (holds : List ℕ → Bool) (f g : TreeAt) → IsCondition devices condition holds
    → ((header : Field → ℕ) → value_of made header ≡ (if value_of condition header == 1 then value_of inner header else value_of outer header))
    → Means devices trees inner f → Means devices trees outer g → Means devices trees made (λ header. if holds header then f header else g header)
selected devices trees condition inner outer made holds f g is values inside outside header domain tree found =
    side trees (holds header) _ _ _ _ (f header) (g header) tree (is header domain) (values (field_of header)) (inside header domain tree) (outside header domain tree) found

-- what is found stands in the list
pub below_length : {X : Type 0} (xs : List X) (i : ℕ) (x : X) → slice_get xs i ≡ Some x → i < length xs
below_length [] i x e = absurd (none-some x e)
below_length (y ∷ ys) zero x e = omega arith
below_length (y ∷ ys) (suc i) x e = let h = below_length ys i x e in omega (arith, h)

-- the same, of a function that goes on by the side on which a condition lies
pub selected_form : (devices : ℕ) (trees : List Tree) (condition inner outer made : cuts.Tree) (holds : List ℕ → Bool) (form : List ℕ → Found → Found → Found)
    → ((header : List ℕ) (x y : Found) → form header x y ≡ (if holds header then x else y)) → IsCondition devices condition holds
    → ((header : Field → ℕ) → value_of made header ≡ (if value_of condition header == 1 then value_of inner header else value_of outer header))
    → (f g : TreeAt) → Means devices trees inner f → Means devices trees outer g → Means devices trees made (λ header. form header (f header) (g header))
selected_form devices trees condition inner outer made holds form sides is values f g inside outside =
    means_same devices trees made (λ header. if holds header then f header else g header) (λ header. form header (f header) (g header)) (λ header. sides header (f header) (g header))
    (selected devices trees condition inner outer made holds f g is values inside outside)

-- a copy of the first tree of cuts in its place
pub from_copy : (devices : ℕ) (old new : List Tree) (inner copy outer made : cuts.Tree) (form : List ℕ → Found → Found → Found) → ((header : Field → ℕ) → value_of copy header ≡ value_of inner header)
    → ((f g : TreeAt) → Means devices old copy f → Means devices old outer g → Means devices new made (λ header. form header (f header) (g header)))
    → (f g : TreeAt) → Means devices old inner f → Means devices old outer g → Means devices new made (λ header. form header (f header) (g header))
from_copy devices old new inner copy outer made form same means f g inside outside = means f g (means_values devices old inner copy f same inside) outside
