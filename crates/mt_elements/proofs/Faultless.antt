-- Elements read one after the other, and the first with which something is wrong.
use Rattle.std.proofs.Common.{◌≡◌, ◌∙◌, ap, refl, sym, inl, inr, ℕ, ◌+◌, ◌<◌, ◌≤◌, List, [], ◌∷◌, ◌++◌, length, take, map, arith}
use Rattle.std.specs.Prelude.{Some, None, Result, Ok, slice_get}
use Rattle.std.specs.List.{flat_map}
use Rattle.std.specs.Result.{result_err}
use Rattle.std.proofs.lemmas.Bool.{cases_lt}
use Rattle.std.proofs.lemmas.List.{take_all, take_more, map-append}
use Rattle.std.proofs.lemmas.List.Folds.{flat_map-map}
use Rattle.std.proofs.lemmas.Option.{same_Some, slice_get_within, get_or_from_slice_get}
use Rattle.mt_graph.specs.declared.Element.{Element}
use Rattle.mt_kinds.specs.declared.description.Description.{Description}
use Rattle.mt_kinds.specs.declared.description.Misread.{Misread}
use Rattle.mt_elements.specs.Described.{describe, scope_of, mapper_names, entry_in, entry_read, entry_names, fault_in, element_fault, AreFaultless}
use Rattle.mt_elements.specs.Told.{IsUnread, told_of, cause_of}

-- nothing is wrong with the first ones
abbrev pub AreRight : List Element → ℕ → Type 0
AreRight elements most = (n : ℕ) (e : Element) → n < most → slice_get elements n ≡ Some e → element_fault elements n e ≡ None

entries_before : (es : List Element) (ds : List Description) → map describe es ≡ map Ok ds → entry_names es ≡ flat_map entry_in ds
entries_before es ds h = sym (flat_map-map entry_read describe es) ∙ ap (flat_map entry_read) h ∙ flat_map-map entry_read Ok ds

module _ (elements : List Element) (number : ℕ) (ds : List Description) (so_far : map describe (take number elements) ≡ map Ok ds) (e : Element) (at_e : slice_get elements number ≡ Some e) where
  -- what is wrong, by the descriptions of the elements before
  fault_is : fault_in (mapper_names elements) (flat_map entry_in ds) (scope_of e.name) (describe e) ≡ element_fault elements number e
  fault_is = ap (λ devices. fault_in (mapper_names elements) devices (scope_of e.name) (describe e)) (sym (entries_before (take number elements) ds so_far))

  -- the same, by names and descriptions as they are read
  pub seen : (r : Result Description Misread) (names : List (List ℕ)) (before : List Description) → result_err r ≡ fault_in names (flat_map entry_in before) (scope_of e.name) (describe e)
      → names ≡ mapper_names elements → before ≡ ds → result_err r ≡ fault_in (mapper_names elements) (flat_map entry_in ds) (scope_of e.name) (describe e)
  seen r names before h named told =
      h
      ∙ ap (λ (n : List (List ℕ)). fault_in n (flat_map entry_in before) (scope_of e.name) (describe e)) named
      ∙ ap (λ (b : List Description). fault_in (mapper_names elements) (flat_map entry_in b) (scope_of e.name) (describe e)) told

  pub one_described : (new : List Description) (d : Description) → describe e ≡ Ok d → new ≡ ds ++ d ∷ [] → map describe (take (number + 1) elements) ≡ map Ok new
  one_described new d says made =
      ap (map describe) (take_more elements number e (slice_get_within elements number e at_e) ∙ ap (λ x. take number elements ++ x ∷ []) (get_or_from_slice_get elements number e e at_e))
      ∙ map-append describe (take number elements) (e ∷ [])
      ∙ ap (λ (l : List (Result Description Misread)). l ++ describe e ∷ []) so_far
      ∙ ap (λ (r : Result Description Misread). map Ok ds ++ r ∷ []) says
      ∙ sym (map-append Ok ds (d ∷ []))
      ∙ ap (map Ok) (sym made)

  pub one_right : AreRight elements number → None ≡ fault_in (mapper_names elements) (flat_map entry_in ds) (scope_of e.name) (describe e) → AreRight elements (number + 1)
  one_right right fine n x within at_x = elim (cases_lt n number) [
    | inl earlier ↦ right n x earlier at_x
    | inr last ↦
        let same : number ≡ n = omega (arith, within, last) in
        let one : e ≡ x = same_Some e x (sym at_e ∙ ap (slice_get elements) same ∙ at_x) in
        ap (element_fault elements n) (sym one) ∙ sym (ap (λ k. element_fault elements k e) same) ∙ sym fault_is ∙ sym fine
  ]

  pub first_wrong : (why : Misread) → AreRight elements number → Some why ≡ fault_in (mapper_names elements) (flat_map entry_in ds) (scope_of e.name) (describe e)
      → IsUnread elements (told_of elements (cause_of why) number)
  first_wrong why right wrong = record {
    number = number;
    element = e;
    why = why;
    stands = at_e;
    wrong = sym fault_is ∙ sym wrong;
    first = λ other before lt at_before. right other before lt at_before;
    told = refl;
  }

pub all_described : (elements : List Element) (number : ℕ) (ds : List Description) → length elements ≤ number → map describe (take number elements) ≡ map Ok ds → map describe elements ≡ map Ok ds
all_described elements number ds all so_far = ap (map describe) (sym (take_all number elements all)) ∙ so_far

pub all_right : (elements : List Element) (number : ℕ) → length elements ≤ number → AreRight elements number → AreFaultless elements
all_right elements number all right n e at_e = let within = slice_get_within elements n e at_e in right n e (omega (arith, all, within)) at_e
