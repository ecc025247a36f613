-- One value more is numbered.
use Rattle.std.proofs.Common.{◌≡◌, ◌≢◌, ◌<◌, ◌≤◌, ℕ, zero, suc, Bool, true, false, List, [], ◌∷◌, ◌++◌, length, map, get_or, slice_get, slice_set, Option, Some, None, is_some, replicate, refl, sym, ◌∙◌, ap, subst, inl, inr, arith}
use Rattle.std.proofs.lemmas.Option.{slice_get_within, slice_get-get_or}
use Rattle.std.proofs.lemmas.Bool.{cases_eq}
use Rattle.mt_cuts.specs.declared.leaves.Leaf.{Leaf}
use Rattle.mt_synth.specs.declared.fault.SynthFault.{SynthFault}
use Rattle.mt_synth.specs.declared.fault.SynthFault.TheVariants.{TooManyClasses, NoMemory}
use Rattle.mt_synth.specs.Numbering.{IsNumbering, HasDistinct, Occurs, AreTooMany}
use Rattle.mt_synth.proofs.Places.{same_Some, in_front, at_last, in_more, set_here, set_other}

no_number : (numbers : List (Option ℕ)) (value number : ℕ) → slice_get numbers value ≡ Some None → slice_get numbers value ≡ Some (Some number) → ⊥
no_number numbers value number none some = let q : Some None ≡ Some (Some number) = sym none ∙ some in cc

same_number : (numbers : List (Option ℕ)) (value i j : ℕ) → slice_get numbers value ≡ Some (Some i) → slice_get numbers value ≡ Some (Some j) → i ≡ j
same_number numbers value i j a b = same_Some i j (same_Some (Some i) (Some j) (sym a ∙ b))

occurs_more : (values : List ℕ) (value v : ℕ) → Occurs values v → Occurs (values ++ value ∷ []) v
occurs_more values value v o = (o.0, in_front values (value ∷ []) o.0 v o.1)

occurs_last : (values : List ℕ) (value : ℕ) → Occurs (values ++ value ∷ []) value
occurs_last values value = (length values, at_last values value)

pub none_numbered : (numbers : List (Option ℕ)) → ((value number : ℕ) → slice_get numbers value ≡ Some (Some number) → ⊥) → IsNumbering [] numbers []
none_numbered numbers none = record {
  numbered = λ value o. absurd (let q : None ≡ Some value = o.1 in cc);
  place = λ value number e. absurd (none value number e);
  back = λ value number e. absurd (let q : None ≡ Some value = e in cc);
  occurs = λ value number e. absurd (let q : None ≡ Some value = e in cc);
  first = λ i j at value other lt a b e. absurd (let q : None ≡ Some value = a in cc);
}

module _ (values : List ℕ) (numbers : List (Option ℕ)) (order : List ℕ) (value : ℕ) (is : IsNumbering values numbers order) where
  -- the value has a number
  pub numbered_again : (number : ℕ) → slice_get numbers value ≡ Some (Some number) → IsNumbering (values ++ value ∷ []) numbers order
  numbered_again number has = record {
    numbered = λ v o. elim (in_more values value o.0 v o.1) [
      | inl h ↦ is.numbered v (o.0, h.1)
      | inr h ↦ (number, subst (λ (v : ℕ). slice_get numbers v ≡ Some (Some number)) h.1 has)
    ];
    place = is.place;
    back = is.back;
    occurs = λ v n e. occurs_more values value v (is.occurs v n e);
    first = λ i j at v other lt a b e. elim (in_more values value at other e) [
      | inl h ↦ earlier (is.first i j at v other lt a b h.1) (omega arith)
      | inr h ↦ (let o = is.occurs other j b in let w = slice_get_within values o.0 other o.1 in earlier (is.first i j o.0 v other lt a b o.1) (omega (arith, w, h.0)))
    ];
  }
    where
      earlier : {at to v : ℕ} → ((before : ℕ) × (before < at) × (slice_get values before ≡ Some v)) → at ≤ to → (before : ℕ) × (before < to) × (slice_get (values ++ value ∷ []) before ≡ Some v)
      earlier {at} {to} {v} b le = let lt = b.1 in (b.0, omega (arith, lt, le), in_front values (value ∷ []) b.0 v b.2)

  module _ (none : slice_get numbers value ≡ Some None) where
    not_in_order : (n : ℕ) → slice_get order n ≡ Some value → ⊥
    not_in_order n e = no_number numbers value n none (is.back value n e)

    numbers_kept : (v : ℕ) → v ≢ value → slice_get (slice_set numbers value (Some (length order))) v ≡ slice_get numbers v
    numbers_kept v apart = set_other numbers value v (Some (length order)) apart

    number_here : slice_get (slice_set numbers value (Some (length order))) value ≡ Some (Some (length order))
    number_here = set_here numbers value (Some (length order)) (slice_get_within numbers value None none)

    -- a value without a number has the next
    pub numbered_next : IsNumbering (values ++ value ∷ []) (slice_set numbers value (Some (length order))) (order ++ value ∷ [])
    numbered_next = record {
      numbered = λ v o. elim (cases_eq v value) [
        | inl e ↦ (length order, subst (λ (w : ℕ). slice_get (slice_set numbers value (Some (length order))) w ≡ Some (Some (length order))) (sym e) number_here)
        | inr apart ↦ (elim (in_more values value o.0 v o.1) [
          | inl h ↦ (let old = is.numbered v (o.0, h.1) in (old.0, numbers_kept v apart ∙ old.1))
          | inr h ↦ absurd (apart (sym h.1))
        ])
      ];
      place = λ v n e. elim (cases_eq v value) [
        | inl same ↦ subst (λ (k : ℕ). slice_get (order ++ value ∷ []) k ≡ Some v) (same_number (slice_set numbers value (Some (length order))) value (length order) n number_here (subst (λ (w : ℕ). slice_get (slice_set numbers value (Some (length order))) w ≡ Some (Some n)) same e))
            (at_last order value ∙ ap Some (sym same))
        | inr apart ↦ in_front order (value ∷ []) n v (is.place v n (sym (numbers_kept v apart) ∙ e))
      ];
      back = λ v n e. elim (in_more order value n v e) [
        | inl h ↦ numbers_kept v (λ same. not_in_order n (h.1 ∙ ap Some same)) ∙ is.back v n h.1
        | inr h ↦ subst (λ (w : ℕ). slice_get (slice_set numbers value (Some (length order))) w ≡ Some (Some n)) h.1 (number_here ∙ ap (λ (k : ℕ). Some (Some k)) (sym h.0))
      ];
      occurs = λ v n e. elim (in_more order value n v e) [
        | inl h ↦ occurs_more values value v (is.occurs v n h.1)
        | inr h ↦ subst (Occurs (values ++ value ∷ [])) h.1 (occurs_last values value)
      ];
      first = λ i j at v other lt a b e. elim (in_more order value j other b) [
        | inl h ↦ (elim (in_more order value i v a) [
          | inl g ↦ (elim (in_more values value at other e) [
            | inl f ↦ before_too at v (is.first i j at v other lt g.1 h.1 f.1)
            | inr f ↦ absurd (not_in_order j (h.1 ∙ ap Some (sym f.1)))
          ])
          | inr g ↦ absurd (omega (arith, lt, h.0, g.0))
        ])
        | inr h ↦ (elim (in_more order value i v a) [
          | inl g ↦ (elim (in_more values value at other e) [
            | inl f ↦ absurd (let old = is.numbered other (at, f.1) in no_number numbers value old.0 none (subst (λ (w : ℕ). slice_get numbers w ≡ Some (Some old.0)) (sym h.1) old.1))
            | inr f ↦ (let o = is.occurs v i g.1 in let w = slice_get_within values o.0 v o.1 in (o.0, omega (arith, w, f.0), in_front values (value ∷ []) o.0 v o.1))
          ])
          | inr g ↦ absurd (omega (arith, lt, h.0, g.0))
        ])
      ];
    }
      where
        before_too : (at v : ℕ) → ((before : ℕ) × (before < at) × (slice_get values before ≡ Some v)) → (before : ℕ) × (before < at) × (slice_get (values ++ value ∷ []) before ≡ Some v)
        before_too at v b = (b.0, b.1, in_front values (value ∷ []) b.0 v b.2)

    -- with it there are so many different values
    pub one_distinct_more : (count : ℕ) → length (order ++ value ∷ []) ≡ count → HasDistinct (values ++ value ∷ []) count
    one_distinct_more count long = (
      order ++ value ∷ [],
      long,
      (λ v i e. elim (in_more order value i v e) [
        | inl h ↦ occurs_more values value v (is.occurs v i h.1)
        | inr h ↦ subst (Occurs (values ++ value ∷ [])) h.1 (occurs_last values value)
      ]),
      λ i j v a b. elim (in_more order value i v a) [
        | inl g ↦ (elim (in_more order value j v b) [
          | inl h ↦ same_number numbers v i j (is.back v i g.1) (is.back v j h.1)
          | inr h ↦ absurd (not_in_order i (g.1 ∙ ap Some (sym h.1)))
        ])
        | inr g ↦ (elim (in_more order value j v b) [
          | inl h ↦ absurd (not_in_order j (h.1 ∙ ap Some (sym g.1)))
          | inr h ↦ g.0 ∙ sym h.0
        ])
      ],
    )

-- the values behind are different too
pub distinct_in_front : (values more : List ℕ) (count : ℕ) → HasDistinct values count → HasDistinct (values ++ more) count
distinct_in_front values more count d = (d.0, d.1, (λ v i e. (let o = d.2 v i e in (o.0, in_front values more o.0 v o.1))), d.3)

-- what an index of the list reads
pub has_number : (numbers : List (Option ℕ)) (value : ℕ) (found : Option ℕ) (b : Bool) → value < length numbers → found ≡ get_or numbers value found → b ≡ is_some found → b ≡ true → (number : ℕ) × (slice_get numbers value ≡ Some (Some number))
has_number numbers value None b lt e is t = absurd (let q : false ≡ true = sym is ∙ t in cc)
has_number numbers value (Some number) b lt e is t = (number, slice_get-get_or numbers value (Some number) lt ∙ ap Some (sym e))

pub has_none : (numbers : List (Option ℕ)) (value : ℕ) (found : Option ℕ) (b : Bool) → value < length numbers → found ≡ get_or numbers value found → b ≡ is_some found → b ≡ false → slice_get numbers value ≡ Some None
has_none numbers value None b lt e is t = slice_get-get_or numbers value None lt ∙ ap Some (sym e)
has_none numbers value (Some number) b lt e is t = absurd (let q : true ≡ false = sym is ∙ t in cc)

pub too_many_in_front : (values more all : List ℕ) (fault : SynthFault) → values ++ more ≡ all → AreTooMany values fault → AreTooMany all fault
too_many_in_front values more all (TooManyClasses count) is h = (h.0, subst (λ (vs : List ℕ). HasDistinct vs 65536) is (distinct_in_front values more 65536 h.1))
too_many_in_front values more all NoMemory is h = tt

-- ---- the loop over the leaves

pub values_more : (done : List Leaf) (leaf : Leaf) → map (λ leaf. leaf.value) (done ++ leaf ∷ []) ≡ map (λ leaf. leaf.value) done ++ leaf.value ∷ []
values_more [] leaf = refl
values_more (other ∷ done) leaf = ap (λ vs. other.value ∷ vs) (values_more done leaf)

values_rest : (done rest : List Leaf) → map (λ leaf. leaf.value) (done ++ rest) ≡ map (λ leaf. leaf.value) done ++ map (λ leaf. leaf.value) rest
values_rest [] rest = refl
values_rest (other ∷ done) rest = ap (λ vs. other.value ∷ vs) (values_rest done rest)

pub fault_stays : (all done after : List Leaf) (leaf : Leaf) (fault : SynthFault) → (done ++ leaf ∷ []) ++ after ≡ all
    → AreTooMany (map (λ leaf. leaf.value) done ++ leaf.value ∷ []) fault → AreTooMany (map (λ leaf. leaf.value) all) fault
fault_stays all done after leaf fault is h =
    too_many_in_front (map (λ leaf. leaf.value) done ++ leaf.value ∷ []) (map (λ leaf. leaf.value) after) (map (λ leaf. leaf.value) all) fault
    (ap (λ vs. vs ++ map (λ leaf. leaf.value) after) (sym (values_more done leaf)) ∙ (sym (values_rest (done ++ leaf ∷ []) after) ∙ ap (λ (ls : List Leaf). map (λ leaf. leaf.value) ls) is)) h

pub none_at_first : (numbers : List (Option ℕ)) (bound : ℕ) → numbers ≡ replicate bound None → IsNumbering [] numbers []
none_at_first numbers bound is = none_numbered numbers (λ value number e. none_in bound value number (subst (λ (ns : List (Option ℕ)). slice_get ns value ≡ Some (Some number)) is e))
  where
    none_in : (n value number : ℕ) → slice_get (replicate n None) value ≡ Some (Some number) → ⊥
    none_in zero value number e = let q : None ≡ Some (Some number) = e in cc
    none_in (suc n) zero number e = let q : Some None ≡ Some (Some number) = e in cc
    none_in (suc n) (suc value) number e = none_in n value number e

-- a copy of nothing is nothing
pub only_none : (R : Option ℕ → Type 0) → ((n : ℕ) → R (Some n) → ⊥) → (found : Option ℕ) → R found → found ≡ None
only_none R none None h = refl
only_none R none (Some n) h = absurd (none n h)
