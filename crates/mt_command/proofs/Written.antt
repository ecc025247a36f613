-- A word is a binding exactly where it is written as one.
use Rattle.std.proofs.Common.{◌≡◌, ◌∙◌, refl, sym, ap, subst, inl, inr, ℕ, zero, suc, ◌+◌, ◌==◌, Bool, true, false, ◌&&◌, cond, nat_eq, nat_lt, List, [], ◌∷◌, ◌++◌, length, take, drop, arith}
use Rattle.std.specs.Prelude.{Some, None, codes}
use Rattle.std.specs.List.{position_or_len, before_first, after_first, starts_with}
use Rattle.std.proofs.lemmas.List.{take-append-drop}
use Rattle.std.proofs.lemmas.List.Elements.{All-cons}
use Rattle.std.proofs.lemmas.Slice.Eq.{bytes_eq-Decides}
use Rattle.mt_lists.proofs.Bools.{chosen}
use Rattle.mt_lists.proofs.Cuts.{Cut, cut, whole, parts, index_in, no_index, before, behind}
use Rattle.mt_lists.specs.Cuts.{HasNo}
use Rattle.mt_command.specs.declared.binding.Side.{Side}
use Rattle.mt_command.specs.declared.binding.Side.TheVariants.{In, Out}
use Rattle.mt_command.specs.Parts.{BindingView}
use Rattle.mt_command.specs.Bindings.{mark_of, is_equals, binds_on, bound_on, binding_of, IsBinding}

-- ---- where the first `=` stands

place_of_some : (at size k : ℕ) → cond (nat_lt at size) (Some at) None ≡ Some k → (at ≡ k) × (nat_lt at size ≡ true)
place_of_some at size k e = elim (chosen (nat_lt at size) (Some at) None (Some k) e) [
  | inl found ↦ ((let same : Some at ≡ Some k = found.1 in cc), found.0)
  | inr none ↦ absurd (let never : None ≡ Some k = none.1 in cc)
]

place_of_none : (at size : ℕ) → cond (nat_lt at size) (Some at) None ≡ None → nat_lt at size ≡ false
place_of_none at size e = elim (chosen (nat_lt at size) (Some at) None None e) [
  | inl found ↦ absurd (let never : Some at ≡ None = found.1 in cc)
  | inr none ↦ none.0
]

-- a word with `=` in it is what stands before and behind the first
module _ (front rest : List ℕ) (none : HasNo 61 front) where
  abbrev whole_word : List ℕ
  whole_word = front ++ 61 ∷ rest

  first_at : (position_or_len is_equals whole_word ≡ length front) × (nat_lt (position_or_len is_equals whole_word) (length whole_word) ≡ true)
  first_at = place_of_some (position_or_len is_equals whole_word) (length whole_word) (length front) (index_in 61 front rest none)

  front_is : before_first is_equals whole_word ≡ front
  front_is = ap (λ k. take k whole_word) first_at.0 ∙ before 61 front rest

  rest_is : after_first is_equals whole_word ≡ rest
  rest_is = ap (λ k. drop (k + 1) whole_word) first_at.0 ∙ behind 61 front rest

  binds_front : (side : Side) → binds_on side whole_word ≡ starts_with nat_eq front (mark_of side)
  unfolding binds_on
  binds_front side = ap (λ b. b && starts_with nat_eq (before_first is_equals whole_word) (mark_of side)) first_at.1 ∙ ap (λ l. starts_with nat_eq l (mark_of side)) front_is

no_equals : (side : Side) (word : List ℕ) → HasNo 61 word → binds_on side word ≡ false
unfolding binds_on
no_equals side word none = ap (λ b. b && starts_with nat_eq (before_first is_equals word) (mark_of side)) (place_of_none (position_or_len is_equals word) (length word) (no_index 61 word none))

-- ---- from the binding to its form

none_behind : (k : ℕ) (text : List ℕ) → HasNo 61 text → HasNo 61 (drop k text)
none_behind zero text none = none
none_behind (suc k) [] none = none
none_behind (suc k) (x ∷ text) none = none_behind k text (λ j d less. none (suc j) d (omega (arith, less)))

marked : (front mark : List ℕ) → starts_with nat_eq front mark ≡ true → front ≡ mark ++ drop (length mark) front
marked front mark e =
    let same : mark ≡ take (length mark) front = (bytes_eq-Decides mark (take (length mark) front)).0 e in
    sym (take-append-drop (length mark) front) ∙ ap (λ l. l ++ drop (length mark) front) (sym same)

abbrev made : Side → ℕ → List ℕ → List ℕ → BindingView
made side number front rest = record { side = side; device = drop (length (mark_of side)) front; file = rest; word = number }

made_is : (side : Side) (number : ℕ) (front rest : List ℕ) → HasNo 61 front → bound_on side number (front ++ 61 ∷ rest) ≡ made side number front rest
made_is side number front rest none = ap (λ l. made side number l (after_first is_equals (front ++ 61 ∷ rest))) (front_is front rest none) ∙ ap (made side number front) (rest_is front rest none)

written_on : (side : Side) (number : ℕ) (front rest : List ℕ) → HasNo 61 front → starts_with nat_eq front (mark_of side) ≡ true → IsBinding (front ++ 61 ∷ rest) (made side number front rest)
written_on side number front rest none e = record {
  written = ap (λ l. l ++ 61 ∷ rest) (marked front (mark_of side) e);
  ends = none_behind (length (mark_of side)) front none;
}

cut_at : (number : ℕ) (front rest : List ℕ) → HasNo 61 front → (b : BindingView) → binding_of number (front ++ 61 ∷ rest) ≡ Some b → IsBinding (front ++ 61 ∷ rest) b × (b.word ≡ number)
unfolding binding_of
cut_at number front rest none b e = by (binds_on In (front ++ 61 ∷ rest)) (binds_on Out (front ++ 61 ∷ rest)) refl refl e
  where
    this : (side : Side) → binds_on side (front ++ 61 ∷ rest) ≡ true → Some (bound_on side number (front ++ 61 ∷ rest)) ≡ Some b → IsBinding (front ++ 61 ∷ rest) b × (b.word ≡ number)
    this side binds is =
        let same : bound_on side number (front ++ 61 ∷ rest) ≡ b = cc in
        let marked_here = written_on side number front rest none (sym (binds_front front rest none side) ∙ binds) in
        (subst (IsBinding (front ++ 61 ∷ rest)) (sym (made_is side number front rest none) ∙ same) marked_here, ap (λ (v : BindingView). v.word) (sym same))

    by : (i o : Bool) → binds_on In (front ++ 61 ∷ rest) ≡ i → binds_on Out (front ++ 61 ∷ rest) ≡ o
        → cond i (Some (bound_on In number (front ++ 61 ∷ rest))) (cond o (Some (bound_on Out number (front ++ 61 ∷ rest))) None) ≡ Some b → IsBinding (front ++ 61 ∷ rest) b × (b.word ≡ number)
    by true o p q is = this In p is
    by false true p q is = this Out q is
    by false false p q is = absurd (let never : None ≡ Some b = is in cc)

pub is_written : (number : ℕ) (word : List ℕ) (b : BindingView) → binding_of number word ≡ Some b → IsBinding word b × (b.word ≡ number)
unfolding binding_of
is_written number word b e = by_cut (cut 61 word)
  where
    by_cut : Cut 61 word → IsBinding word b × (b.word ≡ number)
    by_cut (whole none) = absurd (
        let never : None ≡ Some b =
        sym (ap (λ t. cond t (Some (bound_on In number word)) (cond (binds_on Out word) (Some (bound_on Out number word)) None)) (no_equals In word none)
        ∙ ap (λ t. cond t (Some (bound_on Out number word)) None) (no_equals Out word none)) ∙ e in cc)
    by_cut (parts front rest is none) =
        let there = cut_at number front rest none b (ap (binding_of number) (sym is) ∙ e) in
        (subst (λ w. IsBinding w b) (sym is) there.0, there.1)

-- ---- and back

abbrev with_device : Side → ℕ → List ℕ → List ℕ → BindingView
with_device side number device file = record { side = side; device = device; file = file; word = number }

-- a byte that is no `=` in front
one_on : (byte : ℕ) (text : List ℕ) → (byte == 61) ≡ false → HasNo 61 text → HasNo 61 (byte ∷ text)
one_on byte text e none = All-cons (λ other. (other == 61) ≡ false) byte text e none

read_on : (side : Side) (number : ℕ) (device file : List ℕ) → HasNo 61 device → binding_of number (mark_of side ++ device ++ 61 ∷ file) ≡ Some (with_device side number device file)
unfolding binding_of
read_on In number device file none =
    let no_sign : HasNo 61 (codes "in:" ++ device) = one_on 105 (110 ∷ 58 ∷ device) refl (one_on 110 (58 ∷ device) refl (one_on 58 device refl none)) in
    let binds : binds_on In ((codes "in:" ++ device) ++ 61 ∷ file) ≡ true = binds_front (codes "in:" ++ device) file no_sign In in
    ap (λ t. cond t (Some (bound_on In number ((codes "in:" ++ device) ++ 61 ∷ file))) (cond (binds_on Out ((codes "in:" ++ device) ++ 61 ∷ file)) (Some (bound_on Out number ((codes "in:" ++ device) ++ 61 ∷ file))) None)) binds
    ∙ ap Some (made_is In number (codes "in:" ++ device) file no_sign)
read_on Out number device file none =
    let no_sign : HasNo 61 (codes "out:" ++ device) =
    one_on 111 (117 ∷ 116 ∷ 58 ∷ device) refl (one_on 117 (116 ∷ 58 ∷ device) refl (one_on 116 (58 ∷ device) refl (one_on 58 device refl none))) in
    let other : binds_on In ((codes "out:" ++ device) ++ 61 ∷ file) ≡ false = binds_front (codes "out:" ++ device) file no_sign In in
    let binds : binds_on Out ((codes "out:" ++ device) ++ 61 ∷ file) ≡ true = binds_front (codes "out:" ++ device) file no_sign Out in
    ap (λ t. cond t (Some (bound_on In number ((codes "out:" ++ device) ++ 61 ∷ file))) (cond (binds_on Out ((codes "out:" ++ device) ++ 61 ∷ file)) (Some (bound_on Out number ((codes "out:" ++ device) ++ 61 ∷ file))) None)) other
    ∙ ap (λ t. cond t (Some (bound_on Out number ((codes "out:" ++ device) ++ 61 ∷ file))) None) binds
    ∙ ap Some (made_is Out number (codes "out:" ++ device) file no_sign)

pub is_read : (number : ℕ) (word : List ℕ) (b : BindingView) → IsBinding word b → b.word ≡ number → binding_of number word ≡ Some b
is_read number word b h e =
    ap (binding_of number) h.written ∙ read_on b.side number b.device b.file h.ends
    ∙ ap (λ k. Some (with_device b.side k b.device b.file)) (sym e)
