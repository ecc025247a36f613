-- The loop over the parts of a node that pushes their leaves.
use Rattle.std.proofs.Common.{◌≡◌, ◌<◌, ◌≤◌, ℕ, suc, List, [], ◌∷◌, ◌++◌, length, map, drop, Some, None, slice_get, Result, Ok, Err, OnOk, refl, sym, ◌∙◌, ap, subst, arith, Bool, true, cond, nat_lt, ◌==◌, ◌&&◌, eq-eqb, append_assoc}
use Rattle.std.proofs.lemmas.Bool.{cond-true, lt-ltb}
use Rattle.mt_packet.specs.Header.{number_of}
use Rattle.mt_packet.specs.declared.field.Field.{Field}
use Rattle.mt_packet.specs.declared.span.Span.{Span}
use Rattle.mt_cuts.specs.declared.cut.Cut.{Cut}
use Rattle.mt_cuts.specs.declared.leaves.Leaf.{Leaf}
use Rattle.mt_cuts.specs.Tree.{Tree, class, cut, broken, value_of}
use Rattle.mt_cuts.specs.View.{tree_of, chain}
use Rattle.mt_cuts.specs.Canonical.{IsRest, last_of}
use Rattle.mt_cuts.specs.Walk.{IsPlace, first_end, ends_at, top}
use Rattle.mt_cuts.specs.Leaves.{up_to, behind, leaves_of}
use Rattle.mt_cuts.proofs.Nodes.{last_is}

pub record Pushing (d : ℕ) (f : Field) (spans : List Span) (ends : List ℕ) (parts : List Cut) (out all : List Leaf) (end last : ℕ) : Type 0 where
  pub from : ℕ
  pub rest : IsRest d (number_of f) from (chain f ends (map tree_of parts))
  pub whole : length spans ≡ 24
  pub is_end : end ≡ first_end last ends parts
  pub pushed : out ++ leaves_of spans (chain f ends (map tree_of parts)) ≡ all

pub pushing_place : (d : ℕ) (f : Field) (from : ℕ) (ends : List ℕ) (parts : List Cut) → IsRest d (number_of f) from (chain f ends (map tree_of parts)) → IsPlace ends parts
pushing_place d f from ends [] r = absurd r
pushing_place d f from ends (p ∷ []) r = (omega arith, omega arith)
pushing_place d f from [] (p ∷ q ∷ ps) r = absurd r
pushing_place d f from (e ∷ es) (p ∷ q ∷ ps) r = let more = pushing_place d f (suc e) es (q ∷ ps) r.high_rest in (omega arith, omega (arith, more.1))

pub pushing_part : (d : ℕ) (f : Field) (from : ℕ) (ends : List ℕ) (parts : List Cut) (p : Cut) → IsRest d (number_of f) from (chain f ends (map tree_of parts)) → slice_get parts 0 ≡ Some p → IsRest d (suc (number_of f)) 0 (tree_of p)
pushing_part d f from ends [] p r is = absurd r
pushing_part d f from ends (q ∷ []) p r is = let same : q ≡ p = cc in subst (λ (c : Cut). IsRest d (suc (number_of f)) 0 (tree_of c)) same (last_is d f from (tree_of q) r).1
pushing_part d f from [] (p ∷ q ∷ ps) p' r is = absurd r
pushing_part d f from (e ∷ es) (p ∷ q ∷ ps) p' r is = let same : p ≡ p' = cc in subst (λ (c : Cut). IsRest d (suc (number_of f)) 0 (tree_of c)) same r.low_rest

-- the first part, and the chain behind its end
pub pushing_more : (d : ℕ) (f : Field) (spans spans' : List Span) (ends ends' : List ℕ) (parts parts' : List Cut) (out out' all : List Leaf) (end end' last : ℕ) (p : Cut)
    → Pushing d f spans ends parts out all end last → last ≡ last_of d f → end < last → slice_get parts 0 ≡ Some p
    → out' ≡ out ++ leaves_of (up_to spans f end) (tree_of p) → spans' ≡ behind spans f end → length spans' ≡ 24
    → ends' ≡ cond (ends_at end ends parts) (drop 1 ends) ends → parts' ≡ cond (ends_at end ends parts) (drop 1 parts) parts → end' ≡ first_end last ends' parts'
    → (w' : Pushing d f spans' ends' parts' out' all end' last) × IsRest d (number_of f) (suc end) (chain f ends' (map tree_of parts'))
pushing_more d f spans spans' ends ends' [] parts' out out' all end end' last p w is lt got o s n es ps e = absurd w.rest
pushing_more d f spans spans' ends ends' (q ∷ []) parts' out out' all end end' last p w is lt got o s n es ps e = absurd (omega (arith, w.is_end))
pushing_more d f spans spans' [] ends' (q ∷ r ∷ rs) parts' out out' all end end' last p w is lt got o s n es ps e = absurd w.rest
pushing_more d f spans spans' (i ∷ is') ends' (q ∷ r ∷ rs) parts' out out' all end end' last p w is lt got o s n es ps e =
    let same : q ≡ p = cc in
    let here : end ≡ i = w.is_end ∙ cond-true (nat_lt 1 (length (q ∷ r ∷ rs))) i last (lt-ltb 1 (length (q ∷ r ∷ rs)) (omega arith)) in
    let passes : ends_at end (i ∷ is') (q ∷ r ∷ rs) ≡ true = ap (λ (b : Bool). b && i == end) (lt-ltb 1 (length (q ∷ r ∷ rs)) (omega arith)) ∙ eq-eqb i end (sym here) in
    let ends_are : ends' ≡ is' = es ∙ cond-true _ _ _ passes in
    let parts_are : parts' ≡ r ∷ rs = ps ∙ cond-true _ _ _ passes in (
      moved same here ends_are parts_are w,
      subst (λ (es : List ℕ). IsRest d (number_of f) (suc end) (chain f es (map tree_of parts'))) (sym ends_are)
          (subst (λ (ps : List Cut). IsRest d (number_of f) (suc end) (chain f is' (map tree_of ps))) (sym parts_are)
          (subst (λ (n : ℕ). IsRest d (number_of f) (suc n) (chain f is' (map tree_of (r ∷ rs)))) (sym here) w.rest.high_rest)),
    )
  where
    moved : q ≡ p → end ≡ i → ends' ≡ is' → parts' ≡ r ∷ rs → Pushing d f spans (i ∷ is') (q ∷ r ∷ rs) out all end last → Pushing d f spans' ends' parts' out' all end' last
    moved same here ends_are parts_are w =
        subst (λ (es : List ℕ). Pushing d f spans' es parts' out' all end' last) (sym ends_are)
        (subst (λ (ps : List Cut). Pushing d f spans' is' ps out' all end' last) (sym parts_are)
        (record {
          from = suc i;
          rest = w.rest.high_rest;
          whole = n;
          is_end = e ∙ (ap (λ (es : List ℕ). first_end last es parts') ends_are ∙ ap (λ (ps : List Cut). first_end last is' ps) parts_are);
          pushed =
              ap (λ (xs : List Leaf). xs ++ leaves_of spans' (chain f is' (map tree_of (r ∷ rs)))) o
              ∙ (append_assoc out (leaves_of (up_to spans f end) (tree_of p)) (leaves_of spans' (chain f is' (map tree_of (r ∷ rs))))
              ∙ (ap (λ (ss : List Span). out ++ (leaves_of (up_to spans f end) (tree_of p) ++ leaves_of ss (chain f is' (map tree_of (r ∷ rs))))) s
              ∙ (ap (λ (n : ℕ). out ++ (leaves_of (up_to spans f n) (tree_of p) ++ leaves_of (behind spans f n) (chain f is' (map tree_of (r ∷ rs))))) here
              ∙ (ap (λ (c : Cut). out ++ (leaves_of (up_to spans f i) (tree_of c) ++ leaves_of (behind spans f i) (chain f is' (map tree_of (r ∷ rs))))) (sym same) ∙ w.pushed))));
        }))

-- the last part
pub pushing_last : (d : ℕ) (f : Field) (spans : List Span) (ends : List ℕ) (parts : List Cut) (out all : List Leaf) (end last : ℕ) (p : Cut)
    → Pushing d f spans ends parts out all end last → last ≡ last_of d f → last ≤ end → slice_get parts 0 ≡ Some p → out ++ leaves_of spans (tree_of p) ≡ all
pushing_last d f spans ends [] out all end last p w is le got = absurd w.rest
pushing_last d f spans ends (q ∷ []) out all end last p w is le got =
    let same : q ≡ p = cc in
    ap (λ (c : Cut). out ++ leaves_of spans (tree_of c)) (sym same) ∙ (ap (λ (t : Tree). out ++ leaves_of spans t) (sym (last_is d f w.from (tree_of q) w.rest).0) ∙ w.pushed)
pushing_last d f spans [] (q ∷ r ∷ rs) out all end last p w is le got = absurd w.rest
pushing_last d f spans (i ∷ is') (q ∷ r ∷ rs) out all end last p w is le got =
    let here : end ≡ i = w.is_end ∙ cond-true (nat_lt 1 (length (q ∷ r ∷ rs))) i last (lt-ltb 1 (length (q ∷ r ∷ rs)) (omega arith)) in
    absurd (omega (arith, w.rest.before_last))

-- a tree that cuts nothing is one leaf
pub one_leaf : (d settled : ℕ) (spans : List Span) (t : Tree) (value : ℕ) → IsRest d settled 0 t → top t ≡ None → ((h : Field → ℕ) → value_of t h ≡ value) → leaves_of spans t ≡ record { spans = spans; value = value } ∷ []
one_leaf d settled spans (class n) value r is means = ap (λ (n : ℕ). record { spans = spans; value = n } ∷ []) (means (λ f. 0))
one_leaf d settled spans broken value r is means = absurd r
one_leaf d settled spans (cut g e low high) value r is means = absurd cc

-- the parts of a tree at the field that it cuts first
pub pushing_start : (d k : ℕ) (f : Field) (t : Tree) (ends : List ℕ) (parts : List Cut) → IsRest d k 0 t → Some f ≡ top t → chain f ends (map tree_of parts) ≡ t → (k ≤ number_of f) × IsRest d (number_of f) 0 (chain f ends (map tree_of parts))
pushing_start d k f (class value) ends parts r is chain_is = absurd cc
pushing_start d k f broken ends parts r is chain_is = absurd r
pushing_start d k f (cut g e low high) ends parts r is chain_is =
    let same : number_of f ≡ number_of g = cc in (
      omega (arith, r.rises),
      subst (IsRest d (number_of f) 0) (sym chain_is)
          (record { rises = omega arith; from_least = r.from_least; goes_on = λ same. omega arith; before_last = r.before_last; low_rest = r.low_rest; high_rest = r.high_rest; apart = r.apart }),
    )

-- what a result says of a list
pub on_ok : {A E : Type 0} (r : Result A E) (P Q : Type 0) → (P → Q) → OnOk r P → OnOk r Q
on_ok (Ok x) P Q step h = step h
on_ok (Err e) P Q step h = h

-- the end behind an end
pub pushing_above : (d : ℕ) (f : Field) (spans : List Span) (ends : List ℕ) (parts : List Cut) (out all : List Leaf) (end end' last : ℕ) → Pushing d f spans ends parts out all end' last → suc end ≤ last → last ≡ last_of d f
    → IsRest d (number_of f) (suc end) (chain f ends (map tree_of parts)) → end < end'
pushing_above d f spans ends [] out all end end' last w lt is r = absurd r
pushing_above d f spans ends (q ∷ []) out all end end' last w lt is r = omega (arith, w.is_end)
pushing_above d f spans [] (q ∷ r' ∷ rs) out all end end' last w lt is r = absurd r
pushing_above d f spans (i ∷ is') (q ∷ r' ∷ rs) out all end end' last w lt is r =
    let here : end' ≡ i = w.is_end ∙ cond-true (nat_lt 1 (length (q ∷ r' ∷ rs))) i last (lt-ltb 1 (length (q ∷ r' ∷ rs)) (omega arith)) in
    omega (arith, r.goes_on refl)
