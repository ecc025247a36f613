-- A test stands for the tests of the trees, where it stays, and for one of the two trees, where the header decides it.
use Rattle.std.proofs.Common.{◌≡◌, ◌∙◌, ap, sym, refl, ℕ, ◌+◌, ◌<◌, Bool, true, false, List, [], ◌∷◌, ◌++◌, get_or, length, slice_get, Some, None, arith, inl, inr, ◌==◌}
use Rattle.std.proofs.lemmas.Bool.{cases_eq}
use Rattle.std.proofs.lemmas.Grind.{common_steps}
use Rattle.std.specs.Prelude.{if◌then◌else◌}
use Rattle.std.proofs.lemmas.Bool.Decides.{nat_tests}
use Rattle.std.proofs.lemmas.Option.{none-some}
use Rattle.mt_packet.specs.Header.{field_of}
use Rattle.mt_packet.specs.declared.field.Field.{Field}
use Rattle.mt_packet.specs.declared.span.Span.{Span}
use Rattle.mt_pattern.specs.Meaning.{contains_number}
use Rattle.mt_cuts.specs.Tree as cuts
use Rattle.mt_cuts.specs.Tree.{value_of}
use Rattle.mt_terms.specs.Terms as terms
use Rattle.mt_terms.specs.Terms.{TermForm, passages_of}
use Rattle.mt_terms.specs.Trees.{TreeForm, test}
use Rattle.mt_terms.specs.declared.tree.Tree.{Tree}
use Rattle.mt_trees.specs.Tests.{Found, kept, tested}
use Rattle.mt_synth.specs.Cuts.{TreeAt, Means, Grows, IsCondition, tree_numbered}
use Rattle.mt_synth.specs.Tests.{IsTestOf}
use Rattle.mt_synth.proofs.Meant.{means_same, selected}

kept_found : (trees : List Tree) (term : TermForm) (span : Span) (f g : Found) (number : ℕ) (tree : TreeForm)
    → ((inside outside : TreeForm) → f ≡ Some inside → g ≡ Some outside → tree_numbered trees number ≡ Some (test term span inside outside))
    → kept term span f g ≡ Some tree → tree_numbered trees number ≡ Some tree
kept_found trees term span None g number tree both is = absurd (none-some tree is)
kept_found trees term span (Some inside) None number tree both is = absurd (none-some tree is)
kept_found trees term span (Some inside) (Some outside) number tree both is = both inside outside refl refl ∙ is

-- the numbers of the tests in the place of the pairs
pub tests_kept : (devices : ℕ) (old new : List Tree) (term : TermForm) (span : Span) (inside outside product renamed : cuts.Tree) (pairs : List (ℕ × ℕ)) (names : List ℕ)
    → ((header : Field → ℕ) → slice_get pairs (value_of product header) ≡ Some (value_of inside header, value_of outside header))
    → ((place : ℕ) (pair : ℕ × ℕ) → slice_get pairs place ≡ Some pair → IsTestOf old new term span pair (get_or names place 0))
    → ((header : Field → ℕ) → value_of renamed header ≡ get_or names (value_of product header) 0)
    → (f g : TreeAt) → Means devices old inside f → Means devices old outside g → Means devices new renamed (λ header. kept term span (f header) (g header))
tests_kept devices old new term span inside outside product renamed pairs names stands tests values f g first second header domain tree is =
    ap (tree_numbered new) (values (field_of header)) ∙ kept_found new term span (f header) (g header) _ tree
    (λ i o fi go. tests _ _ (stands (field_of header)) i o (first header domain i fi) (second header domain o go)) is

-- a term that needs no flow
pub tested_decided : (header : List ℕ) (term : TermForm) (span : Span) (f g : Found) → passages_of term ≡ 0
    → tested header term span f g ≡ (if contains_number span (terms.value_of term header []) then f else g)
unfolding tested
tested_decided header term span f g none = let e : (passages_of term == 0) ≡ true = grind (arith, nat_tests) in
    ap (λ (b : Bool). if b then (if contains_number span (terms.value_of term header []) then f else g) else kept term span f g) e

-- a term that needs one
tested_kept : (header : List ℕ) (term : TermForm) (span : Span) (f g : Found) → 0 < passages_of term → tested header term span f g ≡ kept term span f g
unfolding tested
tested_kept header term span f g some = let e : (passages_of term == 0) ≡ false = grind (arith, nat_tests) in
    ap (λ (b : Bool). if b then (if contains_number span (terms.value_of term header []) then f else g) else kept term span f g) e

pub decided_means : (devices : ℕ) (trees : List Tree) (term : TermForm) (span : Span) (condition inside outside made : cuts.Tree) → passages_of term ≡ 0
    → IsCondition devices condition (λ header. contains_number span (terms.value_of term header []))
    → ((header : Field → ℕ) → value_of made header ≡ (if value_of condition header == 1 then value_of inside header else value_of outside header))
    → (f g : TreeAt) → Means devices trees inside f → Means devices trees outside g → Means devices trees made (λ header. tested header term span (f header) (g header))
decided_means devices trees term span condition inside outside made none is values f g first second =
    means_same devices trees made (λ header. if contains_number span (terms.value_of term header []) then f header else g header) _ (λ header. tested_decided header term span (f header) (g header) none)
    (selected devices trees condition inside outside made (λ header. contains_number span (terms.value_of term header [])) f g is values first second)

pub kept_means : (devices : ℕ) (old new : List Tree) (term : TermForm) (span : Span) (inside outside made : cuts.Tree) → 0 < passages_of term
    → ((f g : TreeAt) → Means devices old inside f → Means devices old outside g → Means devices new made (λ header. kept term span (f header) (g header)))
    → (f g : TreeAt) → Means devices old inside f → Means devices old outside g → Means devices new made (λ header. tested header term span (f header) (g header))
kept_means devices old new term span inside outside made some means f g first second =
    means_same devices new made (λ header. kept term span (f header) (g header)) _ (λ header. tested_kept header term span (f header) (g header) some) (means f g first second)

-- one pair more has its number
pub one_more_test : (old mid new : List Tree) (term : TermForm) (span : Span) (pairs : List (ℕ × ℕ)) (names more : List ℕ) (i n : ℕ) → length names ≡ i → more ≡ names ++ n ∷ [] → Grows old mid → Grows mid new
    → IsTestOf mid new term span (get_or pairs i (0, 0)) n
    → ((place : ℕ) → place < i → IsTestOf old mid term span (get_or pairs place (0, 0)) (get_or names place 0))
    → (place : ℕ) → place < i + 1 → IsTestOf old new term span (get_or pairs place (0, 0)) (get_or more place 0)
one_more_test old mid new term span pairs names more i n count is first second here before place lt = elim (cases_eq place i) [
  | inl e ↦ at_end e
  | inr apart ↦ in_front (omega (arith, apart, lt))
]
  where
    at_end : place ≡ i → IsTestOf old new term span (get_or pairs place (0, 0)) (get_or more place 0)
    at_end e inside outside a b =
        let last : get_or more place 0 ≡ n = grind (arith, common_steps, is, count, e) in
        ap (tree_numbered new) last ∙ here inside outside (ap (λ (k : ℕ). tree_numbered mid (get_or pairs k (0, 0)).0) (sym e) ∙ first _ inside a) (ap (λ (k : ℕ). tree_numbered mid (get_or pairs k (0, 0)).1) (sym e) ∙ first _ outside b)

    in_front : place < i → IsTestOf old new term span (get_or pairs place (0, 0)) (get_or more place 0)
    in_front below inside outside a b =
        let same : get_or more place 0 ≡ get_or names place 0 = grind (arith, common_steps, is, count, below) in
        ap (tree_numbered new) same ∙ second _ _ (before place below inside outside a b)
