-- What a look into a slice finds.
use Rattle.std.proofs.Common.{◌≡◌, ◌∙◌, ap, refl, sym, subst, ℕ, zero, suc, ◌<◌, ◌≤◌, nat_lt, true, false, List, [], ◌∷◌, length, map, get_or, slice_get, Some, None, arith}
use Rattle.std.proofs.lemmas.Bool.{ltb-true, ltb-false}
use Rattle.std.proofs.lemmas.List.{length-map}
use Rattle.std.proofs.lemmas.Option.{same_Some, slice_get-get_or, slice_get_read}

module _ {X : Type 0} (all copy : List X) (i : ℕ) (same : copy ≡ all) where
  pub got_at : (x : X) → i < length copy → x ≡ get_or copy i x → slice_get all i ≡ Some x
  got_at x lt is = ap (λ xs. slice_get xs i) (sym same) ∙ slice_get_read copy (length copy) i x refl lt is

  pub got : (x : X) → true ≡ nat_lt i (length copy) → x ≡ get_or copy i x → slice_get all i ≡ Some x
  got x lt is = got_at x (ltb-true i (length copy) (sym lt)) is

  pub gone : false ≡ nat_lt i (length copy) → length all ≤ i
  gone ge = subst (λ xs. length xs ≤ i) same (ltb-false i (length copy) (sym ge))

pub got_map : {X Y : Type 0} (f : X → Y) (xs : List X) (i : ℕ) (x : X) → slice_get xs i ≡ Some x → slice_get (map f xs) i ≡ Some (f x)
got_map f [] i x e = absurd (let q : None ≡ Some x = e in cc)
got_map f (y ∷ ys) zero x e = let q : Some y ≡ Some x = e in let same : y ≡ x = cc in ap (λ z. Some (f z)) same
got_map f (y ∷ ys) (suc i) x e = got_map f ys i x e

pub gone_map : {X Y : Type 0} (f : X → Y) (xs : List X) (i : ℕ) → length xs ≤ i → length (map f xs) ≤ i
gone_map f xs i le = let e = length-map xs f in omega (arith, e, le)

pub number_at : (xs : List ℕ) (i n : ℕ) → i < length xs → n ≡ get_or xs i n → n ≡ get_or xs i 0
number_at xs i n lt e = same_Some n (get_or xs i 0) (sym (slice_get_read xs (length xs) i n refl lt e) ∙ slice_get-get_or xs i 0 lt)
