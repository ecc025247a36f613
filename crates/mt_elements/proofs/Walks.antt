-- Elements and their descriptions, taken one after the other.
use Rattle.std.proofs.Common.{◌≡◌, ◌∙◌, ap, refl, sym, ℕ, ◌-◌, ◌<◌, ◌≤◌, List, [], ◌∷◌, ◌++◌, length, take, drop, get_or, append_assoc, arith}
use Rattle.std.proofs.lemmas.List.{append-nil, take_all}
use Rattle.mt_graph.specs.declared.Element.{Element}
use Rattle.mt_kinds.specs.declared.description.Description.{Description}
use Rattle.mt_kinds.specs.declared.kind.Kind.{Kind}
use Rattle.mt_kinds.specs.declared.rewriter.Pool.{Pool}
use Rattle.mt_elements.specs.Described.{scope_of, kind_of, kinds_of}

-- the first of a list that is not empty
pub front_is : {A : Type 0} (xs : List A) (x : A) → 1 ≤ length xs → x ≡ get_or xs 0 x → xs ≡ x ∷ take (length xs - 1) (drop 1 xs)
front_is [] x some h = absurd (omega (arith, some))
front_is (y ∷ ys) x some h = ap (λ z. z ∷ ys) (sym h) ∙ ap (λ (l : List _). x ∷ l) (sym (take_all (length (y ∷ ys) - 1) ys (omega arith)))

module _ (devices : List (List ℕ)) (pools : List Pool) (names : List (List ℕ)) (done all : List Kind) where
  pub one_kind : (new : List Kind) (rest after : List Element) (left later : List Description) (e : Element) (d : Description) (k : Kind)
      → rest ≡ e ∷ after → left ≡ d ∷ later → k ≡ kind_of devices pools names (scope_of e.name) d → new ≡ done ++ k ∷ []
      → done ++ kinds_of devices pools names rest left ≡ all → new ++ kinds_of devices pools names after later ≡ all
  unfolding kinds_of
  one_kind new rest after left later e d k at_e at_d is made so_far =
      ap (λ (l : List Kind). l ++ kinds_of devices pools names after later) made
      ∙ append_assoc done (k ∷ []) (kinds_of devices pools names after later)
      ∙ ap (λ v. done ++ (v ∷ kinds_of devices pools names after later)) is
      ∙ sym (ap (λ (l : List Element). done ++ kinds_of devices pools names l (d ∷ later)) at_e)
      ∙ sym (ap (λ (l : List Description). done ++ kinds_of devices pools names rest l) at_d)
      ∙ so_far

  no_kinds : (rest : List Element) (left : List Description) → length left ≡ 0 → kinds_of devices pools names rest left ≡ []
  unfolding kinds_of
  no_kinds [] left h = refl
  no_kinds (e ∷ es) [] h = refl
  no_kinds (e ∷ es) (d ∷ ds) h = absurd (omega (arith, h))

  no_elements : (rest : List Element) (left : List Description) → length rest < 1 → kinds_of devices pools names rest left ≡ []
  unfolding kinds_of
  no_elements [] left h = refl
  no_elements (e ∷ es) left h = absurd (omega (arith, h))

  pub described_all : (rest : List Element) (left : List Description) → length left ≡ 0 → done ++ kinds_of devices pools names rest left ≡ all → done ≡ all
  described_all rest left none so_far = sym (ap (λ (l : List Kind). done ++ l) (no_kinds rest left none) ∙ append-nil done) ∙ so_far

  pub walked_all : (rest : List Element) (left : List Description) → length rest < 1 → done ++ kinds_of devices pools names rest left ≡ all → done ≡ all
  walked_all rest left none so_far = sym (ap (λ (l : List Kind). done ++ l) (no_elements rest left none) ∙ append-nil done) ∙ so_far
