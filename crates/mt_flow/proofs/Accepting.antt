-- Mappings accepted one after the other, and taken back.
use Rattle.std.proofs.Common.{◌≡◌, ◌∙◌, ℕ, suc, ◌+◌, ◌≤◌, List, [], ◌∷◌, ◌++◌, length, reverse, sym, ap, refl, subst, arith, length-append, append_assoc, append-nil}
use Rattle.std.proofs.lemmas.List.{reverse-append, reverse-reverse, length-reverse}
use Rattle.mt_flow.specs.declared.mapping.Mapping.{Mapping}
use Rattle.mt_flow.specs.Mappings.{forward_key, StandsForward, AreNew, IsTakenBack}

pub taken_from : (old before : List Mapping) → IsTakenBack old old before before 0
taken_from old before = record { moved = []; old_is = sym (append-nil old); after_is = sym (append-nil before); many = refl }

pub taken_more : (old now new before after : List Mapping) (count : ℕ) (mapping : Mapping) → IsTakenBack old now before after count → now ≡ new ++ mapping ∷ [] → IsTakenBack old new before (after ++ mapping ∷ []) (count + 1)
taken_more old now new before after count mapping t e = record {
  moved = mapping ∷ t.moved;
  old_is = t.old_is ∙ ap (λ ms. ms ++ t.moved) e ∙ append_assoc new (mapping ∷ []) t.moved;
  after_is = ap (λ ms. ms ++ mapping ∷ []) t.after_is ∙ append_assoc before (reverse t.moved) (mapping ∷ []) ∙ ap (λ ms. before ++ ms) (sym (reverse-append (mapping ∷ []) t.moved));
  many = (let m = t.many in omega (arith, m));
}

pub taken_many : (old now before after : List Mapping) (count : ℕ) → IsTakenBack old now before after count → (length old ≡ length now + count) × (length after ≡ length before + count)
taken_many old now before after count t =
    let one = ap length t.old_is in let two = length-append now t.moved in let three = ap length t.after_is in let four = length-append before (reverse t.moved) in let five = length-reverse t.moved in let many = t.many in
    (omega (arith, one, two, many), omega (arith, three, four, five, many))

-- so many accepted so far, the rest in reverse
pub record IsAccepting (kept all now left : List Mapping) (count capacity : ℕ) : Type 0 where
  pub done : List Mapping
  pub rest : List Mapping
  pub all_is : all ≡ done ++ rest
  pub left_is : left ≡ reverse rest
  pub now_is : now ≡ kept ++ done
  pub many : length done ≡ count
  pub fresh : AreNew now rest
  pub room : length all ≤ capacity

pub accepting_from : (kept all left : List Mapping) (capacity : ℕ) → left ≡ reverse all → AreNew kept all → length all ≤ capacity → IsAccepting kept all kept left 0 capacity
accepting_from kept all left capacity e new room = record { done = []; rest = all; all_is = refl; left_is = e; now_is = sym (append-nil kept); many = refl; fresh = new; room = room }

-- the next one
pub record IsNext (kept all now less : List Mapping) (count capacity : ℕ) (mapping : Mapping) : Type 0 where
  pub done : List Mapping
  pub all_is : all ≡ done ++ mapping ∷ reverse less
  pub now_is : now ≡ kept ++ done
  pub many : length done ≡ count
  pub no_forward : StandsForward now (forward_key mapping) → ⊥
  pub fresh : AreNew (now ++ mapping ∷ []) (reverse less)
  pub room : length all ≤ capacity

pub next_of : (kept all now left less : List Mapping) (count capacity : ℕ) (mapping : Mapping) → IsAccepting kept all now left count capacity → left ≡ less ++ mapping ∷ [] → IsNext kept all now less count capacity mapping
next_of kept all now left less count capacity mapping a e =
    let rest_is : a.rest ≡ mapping ∷ reverse less = sym (reverse-reverse a.rest) ∙ ap reverse (sym a.left_is ∙ e) ∙ reverse-append less (mapping ∷ []) in
    let fresh : AreNew now (mapping ∷ reverse less) = subst (λ ms. AreNew now ms) rest_is a.fresh in
    record { done = a.done; all_is = a.all_is ∙ ap (λ ms. a.done ++ ms) rest_is; now_is = a.now_is; many = a.many; no_forward = fresh.0; fresh = fresh.2; room = a.room }

pub accepting_more : (kept all now new less : List Mapping) (count capacity : ℕ) (mapping : Mapping) → IsNext kept all now less count capacity mapping → new ≡ now ++ mapping ∷ [] → IsAccepting kept all new less (count + 1) capacity
accepting_more kept all now new less count capacity mapping n e = record {
  done = n.done ++ mapping ∷ [];
  rest = reverse less;
  all_is = n.all_is ∙ sym (append_assoc n.done (mapping ∷ []) (reverse less));
  left_is = sym (reverse-reverse less);
  now_is = e ∙ ap (λ ms. ms ++ mapping ∷ []) n.now_is ∙ append_assoc kept n.done (mapping ∷ []);
  many = (let l = length-append n.done (mapping ∷ []) in let m = n.many in omega (arith, l, m));
  fresh = subst (λ ms. AreNew ms (reverse less)) (sym e) n.fresh;
  room = n.room;
}

pub accepted_all : (kept all now left : List Mapping) (count capacity : ℕ) → IsAccepting kept all now left count capacity → left ≡ [] → now ≡ kept ++ all
accepted_all kept all now left count capacity a none =
    let rest_is : a.rest ≡ [] = sym (reverse-reverse a.rest) ∙ ap reverse (sym a.left_is ∙ none) in
    a.now_is ∙ ap (λ ms. kept ++ ms) (sym (append-nil a.done) ∙ ap (λ ms. a.done ++ ms) (sym rest_is) ∙ sym a.all_is)

pub next_many : (kept all now less : List Mapping) (count capacity : ℕ) (mapping : Mapping) → IsNext kept all now less count capacity mapping → (length all ≡ count + suc (length less)) × (length now ≡ length kept + count)
next_many kept all now less count capacity mapping n =
    let a = ap length n.all_is in let b = length-append n.done (mapping ∷ reverse less) in let r = length-reverse less in let c = ap length n.now_is in let d = length-append kept n.done in let m = n.many in
    (omega (arith, a, b, r, m), omega (arith, c, d, m))

same_front : (xs ys us vs : List Mapping) → xs ++ ys ≡ us ++ vs → length xs ≡ length us → (xs ≡ us) × (ys ≡ vs)
same_front [] ys [] vs e l = (refl, e)
same_front [] ys (u ∷ us) vs e l = absurd (omega arith)
same_front (x ∷ xs) ys [] vs e l = absurd (omega arith)
same_front (x ∷ xs) ys (u ∷ us) vs e l =
    let first : x ≡ u = cc in
    let rest : xs ++ ys ≡ us ++ vs = cc in
    let more = same_front xs ys us vs rest (omega arith) in
    let front = more.0 in
    ((let both : (x ∷ xs) ≡ (u ∷ us) = cc in both), more.1)

-- taken back after a refusal: all is as before
pub all_back : (kept all now less new after : List Mapping) (count capacity : ℕ) (mapping : Mapping) → IsNext kept all now less count capacity mapping → IsTakenBack now new (less ++ mapping ∷ []) after count → (new ≡ kept) × (reverse after ≡ all)
all_back kept all now less new after count capacity mapping n t =
    let lengths = taken_many now new (less ++ mapping ∷ []) after count t in
    let many = next_many kept all now less count capacity mapping n in
    let one = lengths.0 in let two = many.1 in
    let same = same_front kept n.done new t.moved (sym n.now_is ∙ t.old_is) (omega (arith, one, two)) in
    let after_is : after ≡ (less ++ mapping ∷ []) ++ reverse n.done = t.after_is ∙ ap (λ ms. (less ++ mapping ∷ []) ++ reverse ms) (sym same.1) in (
      sym same.0,
      ap reverse after_is ∙ reverse-append (less ++ mapping ∷ []) (reverse n.done) ∙ ap (λ ms. ms ++ reverse (less ++ mapping ∷ [])) (reverse-reverse n.done) ∙ ap (λ ms. n.done ++ ms) (reverse-append less (mapping ∷ [])) ∙ sym n.all_is,
    )
