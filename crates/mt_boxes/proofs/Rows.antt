-- Small boxes of two fields, by hand.
use Rattle.std.proofs.Common.{◌≡◌, ℕ, [], ◌∷◌, List, refl, inl, inr, lit<, lit≤, arith}
use Rattle.std.specs.Prelude.{Some, None}
use Rattle.mt_packet.specs.declared.span.Span.{Span}
use Rattle.mt_boxes.specs.Boxes.{InBox, IsIn, IsBox, corner}
use Rattle.mt_boxes.specs.Least.{IsAtMost}
use Rattle.mt_boxes.specs.Parts.{met, left_of, minus_boxes}
use Rattle.mt_boxes.specs.Meets.{pairs, refined}

abbrev span : ℕ → ℕ → Span
span lo hi = record { lo = lo; hi = hi }

abbrev square : ℕ → ℕ → ℕ → ℕ → List Span
square left right low high = span left right ∷ span low high ∷ []

inside : InBox (square 10 20 30 40) (10 ∷ 40 ∷ [])
inside = ((lit≤ tt, lit≤ tt), ((lit≤ tt, lit≤ tt), tt))

outside_it : InBox (square 10 20 30 40) (21 ∷ 40 ∷ []) → ⊥
outside_it i = omega arith

other_length : InBox (square 10 20 30 40) (10 ∷ []) → ⊥
other_length i = i.1

in_the_second : IsIn (square 0 9 0 9 ∷ square 10 20 30 40 ∷ []) (10 ∷ 40 ∷ [])
in_the_second = inr (inl ((lit≤ tt, lit≤ tt), ((lit≤ tt, lit≤ tt), tt)))

past_the_range : IsBox (255 ∷ 65535 ∷ []) (square 10 256 30 40) → ⊥
past_the_range f = omega arith

no_value : IsBox (255 ∷ 65535 ∷ []) (square 11 10 30 40) → ⊥
no_value f = omega arith

first_corner : corner (square 10 20 30 40) ≡ 10 ∷ 30 ∷ []
first_corner = refl

overlap : met (square 0 10 0 10) (square 5 20 10 20) ≡ Some (square 5 10 10 10)
overlap = refl

touch : met (square 0 9 0 10) (square 10 20 0 10) ≡ None
touch = refl

ring : left_of (square 10 20 30 40) (square 0 255 0 255) ≡ square 0 9 0 255 ∷ square 21 255 0 255 ∷ square 10 20 0 29 ∷ square 10 20 41 255 ∷ []
ring = refl

not_met : left_of (square 10 20 30 40) (square 0 9 0 255) ≡ square 0 9 0 255 ∷ []
not_met = refl

both_cut : minus_boxes (square 0 9 0 0 ∷ []) (square 0 0 0 0 ∷ square 5 9 0 0 ∷ []) ≡ square 1 4 0 0 ∷ []
both_cut = refl

first_field_decides : IsAtMost (1 ∷ 9 ∷ []) (2 ∷ 0 ∷ [])
first_field_decides = inl (lit< tt)

second_field_decides : IsAtMost (2 ∷ 1 ∷ []) (2 ∷ 0 ∷ []) → ⊥
second_field_decides = elim [ inl less ↦ omega arith | inr rest ↦ elim rest.1 [ inl less ↦ omega arith | inr same ↦ (let e = same.0 in omega (arith, e)) ] ]

order_of_pairs : pairs ((square 0 0 0 0 ∷ []) ∷ [] ∷ []) ((square 1 1 1 1 ∷ []) ∷ []) ≡ (square 0 0 0 0 ∷ [], square 1 1 1 1 ∷ []) ∷ ([], square 1 1 1 1 ∷ []) ∷ []
order_of_pairs = refl

first_list_first : refined ((square 0 9 0 9 ∷ []) ∷ (square 10 19 0 9 ∷ []) ∷ []) ((square 5 15 0 9 ∷ []) ∷ (square 0 4 0 9 ∷ []) ∷ [])
    ≡ (square 5 9 0 9 ∷ []) ∷ (square 0 4 0 9 ∷ []) ∷ (square 10 15 0 9 ∷ []) ∷ []
first_list_first = refl
