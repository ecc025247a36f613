-- The line that is found line by line is that of the longest prefix.
use Rattle.std.proofs.Common.{◌≡◌, ◌∙◌, sym, ap, subst, refl, ◌⊎◌, inl, inr, ℕ, zero, suc, ◌<◌, ◌≤◌, Bool, true, false, ◌&&◌, List, [], ◌∷◌, ◌++◌, length, append_assoc, arith}
use Rattle.std.specs.Prelude.{Option, Some, None, if◌then◌else◌, fold, slice_get}
use Rattle.std.proofs.lemmas.Bool.{false≢true, ltb-true, ltb-false}
use Rattle.std.proofs.lemmas.List.{append-nil}
use Rattle.std.proofs.lemmas.Option.{none-some, same_Some, slice_get_within}
use Rattle.mt_kinds.specs.declared.hop.Hop.{Hop}
use Rattle.mt_chain.specs.Route.{is_in, is_longer, better, route_of, IsLongest, IsRoute}

-- ---- a list with one more behind it

last_or_before : {A : Type 0} (xs : List A) (x y : A) (i : ℕ) → slice_get (xs ++ x ∷ []) i ≡ Some y → (slice_get xs i ≡ Some y) ⊎ ((i ≡ length xs) × (x ≡ y))
last_or_before [] x y zero is = inr (refl, same_Some x y is)
last_or_before [] x y (suc i) is = absurd (none-some y is)
last_or_before (z ∷ xs) x y zero is = inl is
last_or_before (z ∷ xs) x y (suc i) is = elim (last_or_before xs x y i is) [
  | inl before ↦ inl before
  | inr last ↦ inr (ap suc last.0, last.1)
]

still_there : {A : Type 0} (xs : List A) (x y : A) (i : ℕ) → slice_get xs i ≡ Some y → slice_get (xs ++ x ∷ []) i ≡ Some y
still_there [] x y i is = absurd (none-some y is)
still_there (z ∷ xs) x y zero is = is
still_there (z ∷ xs) x y (suc i) is = still_there xs x y i is

at_end : {A : Type 0} (xs : List A) (x : A) → slice_get (xs ++ x ∷ []) (length xs) ≡ Some x
at_end [] x = refl
at_end (z ∷ xs) x = at_end xs x

-- ---- one more line

module _ (address : ℕ) (done : List Hop) (hop : Hop) where
  -- what was found stays, where the entry is no better
  kept : (found : Hop) (index : ℕ) → IsLongest address done index found → (is_in address hop ≡ true → hop.length ≤ found.length) → IsLongest address (done ++ hop ∷ []) index found
  kept found index h shorter = record {
    stands = still_there done hop found index h.stands;
    holds = h.holds;
    longest = λ i other is has. elim (last_or_before done hop other i is) [
      | inl before ↦ h.longest i other before has
      | inr last ↦ subst (λ (o : Hop). o.length ≤ found.length) last.1 (shorter (ap (is_in address) last.1 ∙ has))
    ];
    first = λ i other is has earlier. elim (last_or_before done hop other i is) [
      | inl before ↦ h.first i other before has earlier
      | inr last ↦ let at : i ≡ length done = last.0 in let within = slice_get_within done index found h.stands in absurd (omega (arith, within, earlier, at))
    ];
  }

  -- the entry is found, where each before it is shorter
  replaced : is_in address hop ≡ true → ((i : ℕ) (other : Hop) → slice_get done i ≡ Some other → is_in address other ≡ true → other.length < hop.length) → IsLongest address (done ++ hop ∷ []) (length done) hop
  replaced holds shorter = record {
    stands = at_end done hop;
    holds = holds;
    longest = λ i other is has. elim (last_or_before done hop other i is) [
      | inl before ↦ let less = shorter i other before has in omega (arith, less)
      | inr last ↦ let same : hop.length ≡ other.length = ap (λ (o : Hop). o.length) last.1 in omega (arith, same)
    ];
    first = λ i other is has earlier. elim (last_or_before done hop other i is) [
      | inl before ↦ shorter i other before has
      | inr last ↦ let at : i ≡ length done = last.0 in absurd (omega (arith, earlier, at))
    ];
  }

  -- the entry has not the address
  passed_over : is_in address hop ≡ false → (found : Option Hop) → IsRoute address done found → IsRoute address (done ++ hop ∷ []) found
  passed_over out None nowhere = λ i other is. elim (last_or_before done hop other i is) [
    | inl before ↦ nowhere i other before
    | inr last ↦ sym (ap (is_in address) last.1) ∙ out
  ]
  passed_over out (Some found) there = (there.0, kept found there.0 there.1 (λ has. absurd (false≢true (sym out ∙ has))))

  -- it has it, and is longer than what was found
  all_shorter : (found : Option Hop) → IsRoute address done found → is_longer hop found ≡ true → (i : ℕ) (other : Hop) → slice_get done i ≡ Some other → is_in address other ≡ true → other.length < hop.length
  all_shorter None nowhere longer i other is has = absurd (false≢true (sym (nowhere i other is) ∙ has))
  all_shorter (Some found) there longer i other is has =
      let most = there.1.longest i other is has in
      let less = ltb-true found.length hop.length longer in
      omega (arith, most, less)

  -- it is no longer
  no_longer : (found : Option Hop) → IsRoute address done found → is_longer hop found ≡ false → IsRoute address (done ++ hop ∷ []) found
  no_longer None nowhere fails = absurd (false≢true (sym fails))
  no_longer (Some found) there fails = (there.0, kept found there.0 there.1 (λ has. ltb-false found.length hop.length fails))

  one_more : (found : Option Hop) → IsRoute address done found → IsRoute address (done ++ hop ∷ []) (better address found hop)
  unfolding better
  one_more found so_far = by_tests (is_in address hop) (is_longer hop found) refl refl
    where
      by_tests : (b l : Bool) → is_in address hop ≡ b → is_longer hop found ≡ l → IsRoute address (done ++ hop ∷ []) (if b && l then Some hop else found)
      by_tests false l holds longer = passed_over holds found so_far
      by_tests true false holds longer = no_longer found so_far longer
      by_tests true true holds longer = (length done, replaced holds (all_shorter found so_far longer))

-- ---- all lines

all_lines : (address : ℕ) (done rest : List Hop) (found : Option Hop) → IsRoute address done found → IsRoute address (done ++ rest) (fold (better address) found rest)
all_lines address done [] found so_far = subst (λ lines. IsRoute address lines found) (sym (append-nil done)) so_far
all_lines address done (hop ∷ rest) found so_far =
    subst (λ lines. IsRoute address lines (fold (better address) (better address found hop) rest)) (append_assoc done (hop ∷ []) rest)
    (all_lines address (done ++ hop ∷ []) rest (better address found hop) (one_more address done hop found so_far))

-- the entry that is found is the first of those with the longest prefix
pub is_route : (address : ℕ) (hops : List Hop) → IsRoute address hops (route_of address hops)
unfolding route_of
is_route address hops = all_lines address [] hops None (λ i other is. absurd (none-some other is))
