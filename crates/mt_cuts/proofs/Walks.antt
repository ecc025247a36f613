-- Places among the parts of a tree.
use Rattle.std.proofs.Common.{◌≡◌, ◌<◌, ◌≤◌, ℕ, suc, List, [], ◌∷◌, length, drop, Some, slice_get, refl, sym, ◌∙◌, ap, subst, arith, inl, inr, Bool, false, cond, nat_lt, ◌==◌, ◌&&◌, eq-eqb}
use Rattle.std.proofs.lemmas.Bool.{cond-true, cond-false, lt-ltb, cases_eq, ne_eqb}
use Rattle.mt_packet.specs.Header.{number_of}
use Rattle.mt_packet.specs.declared.field.Field.{Field}
use Rattle.mt_cuts.specs.Tree.{Tree, class, cut, broken, value_of, piece}
use Rattle.mt_cuts.specs.View.{chain, last_part}
use Rattle.mt_cuts.specs.Canonical.{IsRest, least_of, last_of}
use Rattle.mt_cuts.specs.Walk.{IsPlace, first_end, ends_at}
use Rattle.mt_cuts.proofs.Trees.{piece_low, piece_high, piece_other, value_piece}
use Rattle.mt_cuts.proofs.Nodes.{last_is}

-- a tree on later fields is its own piece, and the rest of a tree from any value on
pub later_piece : (d : ℕ) (f : Field) (at : ℕ) (t : Tree) → IsRest d (suc (number_of f)) 0 t → piece f at t ≡ t
later_piece d f at (class value) r = refl
later_piece d f at broken r = refl
later_piece d f at (cut g e low high) r = piece_other f at g e low high (λ same. omega (arith, r.rises, same))

pub later_rest : (d : ℕ) (f : Field) (from : ℕ) (t : Tree) → IsRest d (suc (number_of f)) 0 t → IsRest d (number_of f) from t
later_rest d f from (class value) r = tt
later_rest d f from broken r = r
later_rest d f from (cut g e low high) r =
    record { rises = omega (arith, r.rises); from_least = r.from_least; goes_on = λ same. absurd (omega (arith, r.rises, same)); before_last = r.before_last; low_rest = r.low_rest; high_rest = r.high_rest; apart = r.apart }

pub later_alone : (d : ℕ) (f : Field) (t : Tree) → IsRest d (suc (number_of f)) 0 t → last_part f t ≡ t
later_alone d f (class value) r = refl
later_alone d f broken r = refl
later_alone d f (cut g e low high) r = cond-false (number_of g == number_of f) broken (cut g e low high) (ne_eqb (number_of g) (number_of f) (λ same. omega (arith, r.rises, same)))

-- what is left of the parts of a tree from a value on
pub record Stands (d : ℕ) (f : Field) (from : ℕ) (t : Tree) (ends : List ℕ) (parts : List Tree) : Type 0 where
  pub rest : IsRest d (number_of f) from (chain f ends parts)
  pub same : (at : ℕ) → from ≤ at → piece f at (chain f ends parts) ≡ piece f at t

pub begins : (d : ℕ) (f : Field) (t : Tree) (ends : List ℕ) (parts : List Tree) → IsRest d (number_of f) 0 t → chain f ends parts ≡ t → Stands d f 0 t ends parts
begins d f t ends parts r is = record { rest = subst (IsRest d (number_of f) 0) (sym is) r; same = λ at low. ap (piece f at) is }

chain_place : (d : ℕ) (f : Field) (from : ℕ) (ends : List ℕ) (parts : List Tree) → IsRest d (number_of f) from (chain f ends parts) → IsPlace ends parts
chain_place d f from ends [] r = absurd r
chain_place d f from ends (p ∷ []) r = (omega arith, omega arith)
chain_place d f from [] (p ∷ q ∷ ps) r = absurd r
chain_place d f from (e ∷ es) (p ∷ q ∷ ps) r = let more = chain_place d f (suc e) es (q ∷ ps) r.high_rest in (omega arith, omega (arith, more.1))

pub stands_place : (d : ℕ) (f : Field) (from : ℕ) (t : Tree) (ends : List ℕ) (parts : List Tree) → Stands d f from t ends parts → IsPlace ends parts
stands_place d f from t ends parts s = chain_place d f from ends parts s.rest

-- the first part
chain_part : (d : ℕ) (f : Field) (from : ℕ) (ends : List ℕ) (parts : List Tree) (p : Tree) → IsRest d (number_of f) from (chain f ends parts) → slice_get parts 0 ≡ Some p → IsRest d (suc (number_of f)) 0 p
chain_part d f from ends [] p r is = absurd r
chain_part d f from ends (q ∷ []) p r is = let same : q ≡ p = cc in subst (IsRest d (suc (number_of f)) 0) same (last_is d f from q r).1
chain_part d f from [] (p ∷ q ∷ ps) p' r is = absurd r
chain_part d f from (e ∷ es) (p ∷ q ∷ ps) p' r is = let same : p ≡ p' = cc in subst (IsRest d (suc (number_of f)) 0) same r.low_rest

pub stands_part : (d : ℕ) (f : Field) (from : ℕ) (t : Tree) (ends : List ℕ) (parts : List Tree) (p : Tree) → Stands d f from t ends parts → slice_get parts 0 ≡ Some p → IsRest d (suc (number_of f)) 0 p
stands_part d f from t ends parts p s is = chain_part d f from ends parts p s.rest is

-- the end of the first part is a value of the field
one_end : (last : ℕ) (ends : List ℕ) (p : Tree) → first_end last ends (p ∷ []) ≡ last
one_end last ends p = refl

more_end : (last e : ℕ) (es : List ℕ) (p q : Tree) (ps : List Tree) → first_end last (e ∷ es) (p ∷ q ∷ ps) ≡ e
more_end last e es p q ps = cond-true (nat_lt 1 (length (p ∷ q ∷ ps))) e last (lt-ltb 1 (length (p ∷ q ∷ ps)) (omega arith))

pub record Ends (d : ℕ) (f : Field) (from end : ℕ) : Type 0 where
  pub from_start : from ≤ end
  pub to_last : end ≤ last_of d f
  pub least : end < last_of d f → least_of f ≤ end

chain_end : (d : ℕ) (f : Field) (from : ℕ) (ends : List ℕ) (parts : List Tree) → IsRest d (number_of f) from (chain f ends parts) → from ≤ last_of d f → Ends d f from (first_end (last_of d f) ends parts)
chain_end d f from ends [] r room = absurd r
chain_end d f from ends (p ∷ []) r room = record { from_start = room; to_last = omega arith; least = λ lt. absurd (omega arith) }
chain_end d f from [] (p ∷ q ∷ ps) r room = absurd r
chain_end d f from (e ∷ es) (p ∷ q ∷ ps) r room =
    subst (Ends d f from) (sym (more_end (last_of d f) e es p q ps)) (record { from_start = r.goes_on refl; to_last = omega (arith, r.before_last); least = λ lt. r.from_least })

pub stands_end : (d : ℕ) (f : Field) (from : ℕ) (t : Tree) (ends : List ℕ) (parts : List Tree) → Stands d f from t ends parts → from ≤ last_of d f → Ends d f from (first_end (last_of d f) ends parts)
stands_end d f from t ends parts s room = chain_end d f from ends parts s.rest room

-- up to its end the first part is the piece, and at the last end for all values
chain_covers : (d : ℕ) (f : Field) (from : ℕ) (ends : List ℕ) (parts : List Tree) (p : Tree) (end at : ℕ) → IsRest d (number_of f) from (chain f ends parts) → slice_get parts 0 ≡ Some p → end ≤ first_end (last_of d f) ends parts → (end < last_of d f → at ≤ end) → piece f at (chain f ends parts) ≡ p
chain_covers d f from ends [] p end at r is le covered = absurd r
chain_covers d f from ends (q ∷ []) p end at r is le covered =
    let same : q ≡ p = cc in
    let alone = last_is d f from q r in
    ap (piece f at) alone.0 ∙ (later_piece d f at q alone.1 ∙ same)
chain_covers d f from [] (p ∷ q ∷ ps) p' end at r is le covered = absurd r
chain_covers d f from (e ∷ es) (p ∷ q ∷ ps) p' end at r is le covered =
    let same : p ≡ p' = cc in
    let here_end = more_end (last_of d f) e es p q ps in
    let below : end ≤ e = subst (λ (n : ℕ). end ≤ n) here_end le in
    piece_low f at e p (chain f es (q ∷ ps)) (omega (arith, r.before_last, covered (omega (arith, r.before_last)))) ∙ same

pub stands_value : (d : ℕ) (f : Field) (from : ℕ) (t : Tree) (ends : List ℕ) (parts : List Tree) (p : Tree) (end : ℕ) → Stands d f from t ends parts → slice_get parts 0 ≡ Some p → end ≤ first_end (last_of d f) ends parts
    → (h : Field → ℕ) → from ≤ h f → (end < last_of d f → h f ≤ end) → value_of t h ≡ value_of p h
stands_value d f from t ends parts p end s is le h low covered =
    sym (value_piece f t h) ∙ ap (λ (u : Tree). value_of u h) (sym (s.same (h f) low) ∙ chain_covers d f from ends parts p end (h f) s.rest is le covered)

-- behind an end
one_stays : (end : ℕ) (ends : List ℕ) (p : Tree) → ends_at end ends (p ∷ []) ≡ false
one_stays end ends p = refl

more_ends : (end e : ℕ) (es : List ℕ) (p q : Tree) (ps : List Tree) → ends_at end (e ∷ es) (p ∷ q ∷ ps) ≡ (e == end)
more_ends end e es p q ps = ap (λ (b : Bool). b && e == end) (lt-ltb 1 (length (p ∷ q ∷ ps)) (omega arith))

pub behind_ends : {A : Type 0} → ℕ → List ℕ → List A → List ℕ
behind_ends end ends parts = cond (ends_at end ends parts) (drop 1 ends) ends

pub behind_parts : {A : Type 0} → ℕ → List ℕ → List A → List A
behind_parts end ends parts = cond (ends_at end ends parts) (drop 1 parts) parts

chain_behind : (d : ℕ) (f : Field) (from end : ℕ) (t : Tree) (ends : List ℕ) (parts : List Tree) → IsRest d (number_of f) from (chain f ends parts) → ((at : ℕ) → from ≤ at → piece f at (chain f ends parts) ≡ piece f at t) → from ≤ end → end < last_of d f → end ≤ first_end (last_of d f) ends parts
    → Stands d f (suc end) t (cond (ends_at end ends parts) (drop 1 ends) ends) (cond (ends_at end ends parts) (drop 1 parts) parts)
chain_behind d f from end t ends [] r same low lt le = absurd r
chain_behind d f from end t ends (p ∷ []) r same low lt le =
    let alone = last_is d f from p r in
    record { rest = subst (IsRest d (number_of f) (suc end)) (sym alone.0) (later_rest d f (suc end) p alone.1); same = λ at above. same at (omega arith) }
chain_behind d f from end t [] (p ∷ q ∷ ps) r same low lt le = absurd r
chain_behind d f from end t (e ∷ es) (p ∷ q ∷ ps) r same low lt le =
    let below : end ≤ e = subst (λ (n : ℕ). end ≤ n) (more_end (last_of d f) e es p q ps) le in
    subst (λ (b : Bool). Stands d f (suc end) t (cond b es (e ∷ es)) (cond b (q ∷ ps) (p ∷ q ∷ ps))) (sym (more_ends end e es p q ps))
    (elim (cases_eq e end) [
      | inl equal ↦ subst (λ (b : Bool). Stands d f (suc end) t (cond b es (e ∷ es)) (cond b (q ∷ ps) (p ∷ q ∷ ps))) (sym (eq-eqb e end equal)) (passed equal r same)
      | inr apart ↦ subst (λ (b : Bool). Stands d f (suc end) t (cond b es (e ∷ es)) (cond b (q ∷ ps) (p ∷ q ∷ ps))) (sym (ne_eqb e end apart)) (stayed (omega arith) r same)
    ])
  where
    passed : e ≡ end → IsRest d (number_of f) from (chain f (e ∷ es) (p ∷ q ∷ ps)) → ((at : ℕ) → from ≤ at → piece f at (chain f (e ∷ es) (p ∷ q ∷ ps)) ≡ piece f at t) → Stands d f (suc end) t es (q ∷ ps)
    passed equal r same =
        record { rest = subst (λ (n : ℕ). IsRest d (number_of f) (suc n) (chain f es (q ∷ ps))) equal r.high_rest; same = λ at above. sym (piece_high f at e p (chain f es (q ∷ ps)) (omega arith)) ∙ same at (omega (arith, r.goes_on refl)) }

    stayed : end < e → IsRest d (number_of f) from (chain f (e ∷ es) (p ∷ q ∷ ps)) → ((at : ℕ) → from ≤ at → piece f at (chain f (e ∷ es) (p ∷ q ∷ ps)) ≡ piece f at t) → Stands d f (suc end) t (e ∷ es) (p ∷ q ∷ ps)
    stayed above r same =
        record { rest = record { rises = r.rises; from_least = r.from_least; goes_on = λ same. above; before_last = r.before_last; low_rest = r.low_rest; high_rest = r.high_rest; apart = r.apart }; same = λ at le. same at (omega (arith, low)) }

pub stands_behind : (d : ℕ) (f : Field) (from end : ℕ) (t : Tree) (ends : List ℕ) (parts : List Tree) → Stands d f from t ends parts → from ≤ end → end < last_of d f → end ≤ first_end (last_of d f) ends parts → Stands d f (suc end) t (cond (ends_at end ends parts) (drop 1 ends) ends) (cond (ends_at end ends parts) (drop 1 parts) parts)
stands_behind d f from end t ends parts s low lt le = chain_behind d f from end t ends parts s.rest s.same low lt le
