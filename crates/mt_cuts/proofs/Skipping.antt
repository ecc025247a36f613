-- Places behind parts that were passed unseen.
use Rattle.std.proofs.Common.{◌≡◌, ◌<◌, ◌≤◌, ℕ, suc, List, [], ◌∷◌, length, map, drop, refl, sym, ◌∙◌, ap, subst, arith, inl, inr, Bool, true, false, cond, nat_le, ◌&&◌}
use Rattle.std.proofs.lemmas.Bool.{cond-true, cond-false, le-leb, lt-leb, lt-ltb, cases_lt}
use Rattle.mt_packet.specs.Header.{number_of}
use Rattle.mt_packet.specs.declared.field.Field.{Field}
use Rattle.mt_cuts.specs.declared.cut.Cut.{Cut}
use Rattle.mt_cuts.specs.Tree.{Tree}
use Rattle.mt_cuts.specs.View.{tree_of, chain}
use Rattle.mt_cuts.specs.Canonical.{IsRest, finishes, all_true}
use Rattle.mt_cuts.specs.Walk.{IsPlace}
use Rattle.mt_cuts.specs.Skip.{past, ends_by}
use Rattle.mt_cuts.proofs.Nodes.{last_is}
use Rattle.mt_cuts.proofs.Trees.{piece_high}
use Rattle.mt_cuts.proofs.Walks.{Stands, later_rest}

ends_by-more : {A : Type 0} (v e : ℕ) (es : List ℕ) (p q : A) (ps : List A) → ends_by v (e ∷ es) (p ∷ q ∷ ps) ≡ nat_le e v
ends_by-more v e es p q ps = ap (λ (b : Bool). b && nat_le e v) (lt-ltb 1 (length (p ∷ q ∷ ps)) (omega arith))

-- one part more is passed
pub past_more : {A : Type 0} (v : ℕ) (ends : List ℕ) (parts : List A) → IsPlace ends parts → ends_by v ends parts ≡ true → (past v (drop 1 ends) (drop 1 parts) ≡ past v ends parts) × IsPlace (drop 1 ends) (drop 1 parts)
past_more v ends [] at by = absurd (omega (arith, at.0))
past_more v ends (p ∷ []) at by = absurd cc
past_more v [] (p ∷ q ∷ ps) at by = absurd (omega (arith, at.1))
past_more v (e ∷ es) (p ∷ q ∷ ps) at by =
    (sym (cond-true (nat_le e v) (past v es (q ∷ ps)) (e ∷ es, p ∷ q ∷ ps) (sym (ends_by-more v e es p q ps) ∙ by)), (omega arith, omega (arith, at.1)))

-- none is passed
pub past_ends : {A : Type 0} (v : ℕ) (ends : List ℕ) (parts : List A) → ends_by v ends parts ≡ false → past v ends parts ≡ (ends, parts)
past_ends v ends [] by = refl
past_ends v ends (p ∷ []) by = refl
past_ends v [] (p ∷ q ∷ ps) by = refl
past_ends v (e ∷ es) (p ∷ q ∷ ps) by = cond-false (nat_le e v) (past v es (q ∷ ps)) (e ∷ es, p ∷ q ∷ ps) (sym (ends_by-more v e es p q ps) ∙ by)

pub stands_past : (d : ℕ) (f : Field) (from end : ℕ) (t : Tree) (ends : List ℕ) (parts : List Cut) → Stands d f from t ends (map tree_of parts) → from ≤ suc end → Stands d f (suc end) t (past end ends parts).0 (map tree_of (past end ends parts).1)
stands_past d f from end t ends [] s le = absurd s.rest
stands_past d f from end t ends (p ∷ []) s le =
    let alone = last_is d f from (tree_of p) s.rest in
    record { rest = subst (IsRest d (number_of f) (suc end)) (sym alone.0) (later_rest d f (suc end) (tree_of p) alone.1); same = λ at above. s.same at (omega arith) }
stands_past d f from end t [] (p ∷ q ∷ ps) s le = absurd s.rest
stands_past d f from end t (e ∷ es) (p ∷ q ∷ ps) s le =
    elim (cases_lt end e) [
      | inl above ↦ subst (λ (r : List ℕ × List Cut). Stands d f (suc end) t r.0 (map tree_of r.1)) (sym (cond-false (nat_le e end) (past end es (q ∷ ps)) (e ∷ es, p ∷ q ∷ ps) (lt-leb e end above))) (stayed above s)
      | inr by ↦ subst (λ (r : List ℕ × List Cut). Stands d f (suc end) t r.0 (map tree_of r.1)) (sym (cond-true (nat_le e end) (past end es (q ∷ ps)) (e ∷ es, p ∷ q ∷ ps) (le-leb e end by))) (stands_past d f (suc e) end t es (q ∷ ps) (passed s) (omega arith))
    ]
  where
    stayed : end < e → Stands d f from t (e ∷ es) (map tree_of (p ∷ q ∷ ps)) → Stands d f (suc end) t (e ∷ es) (map tree_of (p ∷ q ∷ ps))
    stayed above s =
        record { rest = record { rises = s.rest.rises; from_least = s.rest.from_least; goes_on = λ same. above; before_last = s.rest.before_last; low_rest = s.rest.low_rest; high_rest = s.rest.high_rest; apart = s.rest.apart }; same = λ at low. s.same at (omega (arith, low)) }

    passed : Stands d f from t (e ∷ es) (map tree_of (p ∷ q ∷ ps)) → Stands d f (suc e) t es (map tree_of (q ∷ ps))
    passed s =
        record { rest = s.rest.high_rest; same = λ at above. sym (piece_high f at e (tree_of p) (chain f es (map tree_of (q ∷ ps))) (omega arith)) ∙ s.same at (omega (arith, s.rest.goes_on refl)) }

pub right : (b c : Bool) → (b && c) ≡ true → c ≡ true
right true c h = h
right false c h = absurd cc

pub finish_past : (d v : ℕ) (ends : List ℕ) (parts : List Cut) → all_true (map (finishes d) parts) ≡ true → all_true (map (finishes d) (past v ends parts).1) ≡ true
finish_past d v ends [] h = h
finish_past d v ends (p ∷ []) h = h
finish_past d v [] (p ∷ q ∷ ps) h = h
finish_past d v (e ∷ es) (p ∷ q ∷ ps) h = either (nat_le e v) (finish_past d v es (q ∷ ps) (right (finishes d p) (all_true (map (finishes d) (q ∷ ps))) h))
  where
    either : (b : Bool) → all_true (map (finishes d) (past v es (q ∷ ps)).1) ≡ true → all_true (map (finishes d) (cond b (past v es (q ∷ ps)) (e ∷ es, p ∷ q ∷ ps)).1) ≡ true
    either true more = more
    either false more = h
