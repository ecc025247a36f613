-- Laws of orders of frames, and of what is written of fates.
use Rattle.std.proofs.Common.{◌≡◌, ℕ, zero, suc, ◌+◌, ◌<◌, List, [], ◌∷◌, ◌++◌, length, refl, sym, ◌∙◌, ap, subst, append_assoc, add-one, add-suc, add-zero, suc-add, zero-add}
use Rattle.std.specs.Prelude.{Some, slice_get, option_map, option_and_then}
use Rattle.std.specs.List.{flat_map, range_with_len}
use Rattle.std.proofs.lemmas.Grind.{flat_map-append}
use Rattle.std.proofs.lemmas.Option.{same_Some, none-some}
use Rattle.std.proofs.lemmas.List.{append-nil, length-append}
use Rattle.mt_lists.specs.Options.{each}
use Rattle.mt_packet.specs.declared.frame.Stamped.{Stamped}
use Rattle.mt_pcap.specs.Text.{record_text}
use Rattle.mt_chain.specs.Fates.{records_sent, fate_text, sent_text}
use Rattle.mt_chain.specs.Order.{numbers, KeepsOrder, in_order}
use Rattle.mt_chain.specs.declared.run.Fate.{Fate}

-- ---- numbers one after the other

one_on : (a n : ℕ) → (a + 1) + n ≡ a + suc n
one_on a n = ap (λ k. k + n) (add-one a) ∙ suc-add a n ∙ sym (add-suc a n)

range-push : (a n : ℕ) → range_with_len a (n + 1) ≡ range_with_len a n ++ (a + n) ∷ []
range-push a zero = ap (λ k. k ∷ []) (sym (add-zero a))
range-push a (suc n) = ap (range_with_len a) (suc-add n 1) ∙ ap (λ l. a ∷ l) (range-push (a + 1) n ∙ ap (λ k. range_with_len (a + 1) n ++ k ∷ []) (one_on a n))

-- one number more
pub numbers-push : (n : ℕ) → numbers (n + 1) ≡ numbers n ++ n ∷ []
numbers-push n = range-push 0 n ∙ ap (λ k. range_with_len 0 n ++ k ∷ []) (zero-add n)

range-get : (a n i m : ℕ) → slice_get (range_with_len a n) i ≡ Some m → m ≡ a + i
range-get a zero i m there = absurd (none-some m there)
range-get a (suc n) zero m there = sym (same_Some a m there) ∙ sym (add-zero a)
range-get a (suc n) (suc i) m there = range-get (a + 1) n i m there ∙ one_on a i

number-get : (n i m : ℕ) → slice_get (numbers n) i ≡ Some m → m ≡ i
number-get n i m there = range-get 0 n i m there ∙ zero-add i

-- ---- frames in the order of their numbers

get-behind : {X : Type 0} (front : List X) (x : X) (rest : List X) → slice_get (front ++ x ∷ rest) (length front) ≡ Some x
get-behind [] x rest = refl
get-behind (y ∷ front) x rest = get-behind front x rest

taken_from : (front rest : List Stamped) → each (slice_get (front ++ rest)) (range_with_len (length front) (length rest)) ≡ Some rest
unfolding each
taken_from front [] = refl
taken_from front (x ∷ rest) =
    let long : length (front ++ x ∷ []) ≡ length front + 1 = length-append front (x ∷ []) in
    ap (option_and_then (λ y. option_map (λ more. y ∷ more) (each (slice_get (front ++ x ∷ rest)) (range_with_len (length front + 1) (length rest))))) (get-behind front x rest)
    ∙ ap (λ n. option_map (λ more. x ∷ more) (each (slice_get (front ++ x ∷ rest)) (range_with_len n (length rest)))) (sym long)
    ∙ ap (λ l. option_map (λ more. x ∷ more) (each (slice_get l) (range_with_len (length (front ++ x ∷ [])) (length rest)))) (sym (append_assoc front (x ∷ []) rest))
    ∙ ap (option_map (λ more. x ∷ more)) (taken_from (front ++ x ∷ []) rest)

-- they are all frames
pub all_in_turn : (frames : List Stamped) → in_order (numbers (length frames)) frames ≡ Some frames
all_in_turn frames = taken_from [] frames

-- and the order of each flow is kept
pub keeps_order : (frames : List Stamped) → KeepsOrder frames (numbers (length frames))
keeps_order frames = record {
  all = record { moves = []; below = tt; is = refl };
  flows = λ i j m n f g lt at_i at_j frame_m frame_n same.
      subst (λ k. k < n) (sym (number-get (length frames) i m at_i))
      (subst (λ k. i < k) (sym (number-get (length frames) j n at_j)) lt);
}

-- ---- what is written

-- the text of one fate more
pub sent_text-push : (device : ℕ) (fates : List Fate) (fate : Fate) → sent_text device (fates ++ fate ∷ []) ≡ sent_text device fates ++ fate_text device fate
sent_text-push device fates fate =
    ap (flat_map record_text) (flat_map-append (records_sent device) fates (fate ∷ []) ∙ ap (λ l. flat_map (records_sent device) fates ++ l) (append-nil (records_sent device fate)))
    ∙ flat_map-append record_text (flat_map (records_sent device) fates) (records_sent device fate)
