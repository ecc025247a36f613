-- The loop of a merge: three places, and the node made so far.
use Rattle.std.proofs.Common.{◌≡◌, ◌⊎◌, ◌+◌, ◌<◌, ◌≤◌, ℕ, suc, List, [], ◌∷◌, length, map, drop, min, Option, Some, None, Result, Ok, Err, IfOk, slice_get, slice_index, nat_le, refl, sym, ◌∙◌, ap, subst, arith, inl, inr, Bool, true, false, cond, nat_lt, ◌==◌, ◌&&◌}
use Rattle.std.proofs.lemmas.List.{length-map}
use Rattle.std.proofs.lemmas.Bool.{cond-true, cond-false, le-leb, lt-leb, cases_lt, cases_Bool}
use Rattle.mt_packet.specs.Header.{number_of}
use Rattle.mt_packet.specs.declared.field.Field.{Field}
use Rattle.mt_cuts.specs.declared.cut.Cut.{Cut}
use Rattle.mt_cuts.specs.Tree.{Tree, class, cut, broken, value_of}
use Rattle.mt_cuts.specs.View.{tree_of, chain, last_part}
use Rattle.mt_cuts.specs.Canonical.{IsRest, last_of, finishes, all_true}
use Rattle.mt_cuts.specs.Walk.{top, earlier, IsPlace, first_end, ends_at, put, Joined}
use Rattle.mt_cuts.proofs.Walks.{Stands, begins, Ends, stands_place, stands_part, stands_end, stands_value, stands_behind, later_alone}
use Rattle.mt_cuts.proofs.Merging.{Merging, merging_weaker}
use Rattle.mt_cuts.proofs.Made.{made_begins, made_goes, made_ends}

-- a place whose first part goes up to an end at least
pub record At (d : ℕ) (f : Field) (end : ℕ) (t : Tree) (ends : List ℕ) (parts : List Cut) : Type 0 where
  pub from : ℕ
  pub stands : Stands d f from t ends (map tree_of parts)
  pub low : from ≤ end
  pub high : end ≤ first_end (last_of d f) ends parts

pub place : (d : ℕ) (f : Field) (from : ℕ) (t : Tree) (ends : List ℕ) (parts : List Cut) → Stands d f from t ends (map tree_of parts) → IsPlace ends parts
place d f from t ends parts s = subst (λ (n : ℕ). (0 < n) × (n ≤ length ends + 1)) (length-map parts tree_of) (stands_place d f from t ends (map tree_of parts) s)

ends-map : (last : ℕ) (ends : List ℕ) (parts : List Cut) → first_end last ends (map tree_of parts) ≡ first_end last ends parts
ends-map last ends parts = ap (λ (n : ℕ). cond (nat_lt 1 n) (slice_index ends 0) last) (length-map parts tree_of)

pub first_ends : (d : ℕ) (f : Field) (from : ℕ) (t : Tree) (ends : List ℕ) (parts : List Cut) → Stands d f from t ends (map tree_of parts) → from ≤ last_of d f → Ends d f from (first_end (last_of d f) ends parts)
first_ends d f from t ends parts s room = subst (Ends d f from) (ends-map (last_of d f) ends parts) (stands_end d f from t ends (map tree_of parts) s room)

dropped : (parts : List Cut) → map tree_of (drop 1 parts) ≡ drop 1 (map tree_of parts)
dropped [] = refl
dropped (p ∷ ps) = refl

chosen_parts : (b : Bool) (parts : List Cut) → map tree_of (cond b (drop 1 parts) parts) ≡ cond b (drop 1 (map tree_of parts)) (map tree_of parts)
chosen_parts true parts = dropped parts
chosen_parts false parts = refl

-- behind an end
pub at_behind : (d : ℕ) (f : Field) (end : ℕ) (t : Tree) (ends ends' : List ℕ) (parts parts' : List Cut) → At d f end t ends parts → end < last_of d f → ends' ≡ cond (ends_at end ends parts) (drop 1 ends) ends → parts' ≡ cond (ends_at end ends parts) (drop 1 parts) parts → Stands d f (suc end) t ends' (map tree_of parts')
at_behind d f end t ends ends' parts parts' a lt e p =
    let tests : ends_at end ends (map tree_of parts) ≡ ends_at end ends parts = ap (λ (n : ℕ). nat_lt 1 n && slice_index ends 0 == end) (length-map parts tree_of) in
    let moved = stands_behind d f a.from end t ends (map tree_of parts) a.stands a.low lt (subst (λ (n : ℕ). end ≤ n) (sym (ends-map (last_of d f) ends parts)) a.high) in
    let same = subst (λ (b : Bool). Stands d f (suc end) t (cond b (drop 1 ends) ends) (cond b (drop 1 (map tree_of parts)) (map tree_of parts))) tests moved in
    subst (λ (es : List ℕ). Stands d f (suc end) t es (map tree_of parts')) (sym e)
    (subst (λ (ps : List Tree). Stands d f (suc end) t (cond (ends_at end ends parts) (drop 1 ends) ends) ps) (sym (ap (map tree_of) p ∙ chosen_parts (ends_at end ends parts) parts)) same)

pub first_of : (parts : List Cut) (p : Cut) → slice_get parts 0 ≡ Some p → slice_get (map tree_of parts) 0 ≡ Some (tree_of p)
first_of [] p is = absurd cc
first_of (q ∷ qs) p is = let same : q ≡ p = cc in ap (λ (c : Cut). Some (tree_of c)) same

pub first_rest : (d : ℕ) (f : Field) (from : ℕ) (t : Tree) (ends : List ℕ) (parts : List Cut) (p : Cut) → Stands d f from t ends (map tree_of parts) → slice_get parts 0 ≡ Some p → IsRest d (suc (number_of f)) 0 (tree_of p)
first_rest d f from t ends parts p s is = stands_part d f from t ends (map tree_of parts) (tree_of p) s (first_of parts p is)

pub first_value : (d : ℕ) (f : Field) (from : ℕ) (t : Tree) (ends : List ℕ) (parts : List Cut) (p : Cut) (end : ℕ) → Stands d f from t ends (map tree_of parts) → slice_get parts 0 ≡ Some p → end ≤ first_end (last_of d f) ends parts
    → (h : Field → ℕ) → from ≤ h f → (end < last_of d f → h f ≤ end) → value_of t h ≡ value_of (tree_of p) h
first_value d f from t ends parts p end s is le h low covered =
    stands_value d f from t ends (map tree_of parts) (tree_of p) end s (first_of parts p is) (subst (λ (n : ℕ). end ≤ n) (sym (ends-map (last_of d f) ends parts)) le) h low covered

-- the least of three ends
pub least_of_three : (d : ℕ) (f : Field) (from i j k : ℕ) → Ends d f from i → Ends d f from j → Ends d f from k → Ends d f from (min i (min j k))
least_of_three d f from i j k a b c =
    record {
      from_start = omega (arith, a.from_start, b.from_start, c.from_start);
      to_last = omega (arith, a.to_last);
      least = λ lt. elim (cases_lt i (min j k)) [
        | inl less ↦ let low = a.least (omega arith) in omega (arith, low)
        | inr more ↦ elim (cases_lt j k) [
          | inl less ↦ let low = b.least (omega arith) in omega (arith, low)
          | inr more' ↦ let low = c.least (omega arith) in omega (arith, low)
        ]
      ];
    }

-- a value is chosen of those of three trees
abbrev pub Chosen : (ℕ → ℕ → ℕ → ℕ → Type 0) → Tree → Tree → Tree → (Field → ℕ) → ℕ → Type 0
Chosen C a b c h n = C (value_of a h) (value_of b h) (value_of c h) n

-- what was chosen stays so
abbrev pub Keeps : (ℕ → ℕ → ℕ → ℕ → Type 0) → (ℕ → ℕ → ℕ → ℕ → Type 0) → Type 0
Keeps C D = (x y z n : ℕ) → C x y z n → D x y z n

-- a merge of the first parts has the wanted values up to the least end
pub part_means : (d : ℕ) (f : Field) (from end : ℕ) (C : ℕ → ℕ → ℕ → ℕ → Type 0) (a b c : Tree) (xe ye ze : List ℕ) (xp yp zp : List Cut) (p q r : Cut) (part : Tree)
    → Stands d f from a xe (map tree_of xp) → Stands d f from b ye (map tree_of yp) → Stands d f from c ze (map tree_of zp)
    → slice_get xp 0 ≡ Some p → slice_get yp 0 ≡ Some q → slice_get zp 0 ≡ Some r
    → end ≤ first_end (last_of d f) xe xp → end ≤ first_end (last_of d f) ye yp → end ≤ first_end (last_of d f) ze zp
    → ((h : Field → ℕ) → Chosen C (tree_of p) (tree_of q) (tree_of r) h (value_of part h))
    → (h : Field → ℕ) → from ≤ h f → (end < last_of d f → h f ≤ end) → Chosen C a b c h (value_of part h)
part_means d f from end C a b c xe ye ze xp yp zp p q r part x y z i j k le le' le'' means h low covered =
    subst (λ (u : ℕ). C u (value_of b h) (value_of c h) (value_of part h)) (sym (first_value d f from a xe xp p end x i le h low covered))
    (subst (λ (u : ℕ). C (value_of (tree_of p) h) u (value_of c h) (value_of part h)) (sym (first_value d f from b ye yp q end y j le' h low covered))
    (subst (λ (u : ℕ). C (value_of (tree_of p) h) (value_of (tree_of q) h) u (value_of part h)) (sym (first_value d f from c ze zp r end z k le'' h low covered)) (means h)))

pub record Loop (d : ℕ) (f : Field) (P : (Field → ℕ) → ℕ → Type 0) (a b c : Tree) (xe ye ze : List ℕ) (xp yp zp : List Cut) (ends : List ℕ) (parts : List Cut) (here : Cut) (end : ℕ) : Type 0 where
  pub x : At d f end a xe xp
  pub y : At d f end b ye yp
  pub z : At d f end c ze zp
  pub made : Merging d f P ends (map tree_of parts) (tree_of here) end
  pub parts_finish : all_true (map (finishes d) parts) ≡ true
  pub here_finishes : finishes d here ≡ true

pub loop_begins : (d : ℕ) (f : Field) (C : ℕ → ℕ → ℕ → ℕ → Type 0) (a b c : Tree) (xe ye ze : List ℕ) (xp yp zp : List Cut) (ends : List ℕ) (parts : List Cut) (here p q r : Cut) (end : ℕ)
    → Stands d f 0 a xe (map tree_of xp) → Stands d f 0 b ye (map tree_of yp) → Stands d f 0 c ze (map tree_of zp)
    → slice_get xp 0 ≡ Some p → slice_get yp 0 ≡ Some q → slice_get zp 0 ≡ Some r
    → end ≡ min (first_end (last_of d f) xe xp) (min (first_end (last_of d f) ye yp) (first_end (last_of d f) ze zp))
    → IsRest d (suc (number_of f)) 0 (tree_of here) → ((h : Field → ℕ) → Chosen C (tree_of p) (tree_of q) (tree_of r) h (value_of (tree_of here) h)) → finishes d here ≡ true
    → ends ≡ [] → parts ≡ [] → Loop d f (Chosen C a b c) a b c xe ye ze xp yp zp ends parts here end
loop_begins d f C a b c xe ye ze xp yp zp ends parts here p q r end x y z i j k is later means ends_well es ps =
    let e = least_of_three d f 0 _ _ _ (first_ends d f 0 a xe xp x (omega arith)) (first_ends d f 0 b ye yp y (omega arith)) (first_ends d f 0 c ze zp z (omega arith)) in
    let e' = subst (Ends d f 0) (sym is) e in
    let m = made_begins d f (Chosen C a b c) ends parts here end e' later
    (part_means d f 0 end C a b c xe ye ze xp yp zp p q r (tree_of here) x y z i j k (omega (arith, is)) (omega (arith, is)) (omega (arith, is)) means) ends_well es ps in
    record {
      x = record { from = 0; stands = x; low = omega arith; high = omega (arith, is) };
      y = record { from = 0; stands = y; low = omega arith; high = omega (arith, is) };
      z = record { from = 0; stands = z; low = omega arith; high = omega (arith, is) };
      made = m.made;
      parts_finish = m.parts_finish;
      here_finishes = m.here_finishes;
    }

pub loop_goes : (d : ℕ) (f : Field) (C : ℕ → ℕ → ℕ → ℕ → Type 0) (a b c : Tree) (xe ye ze xe' ye' ze' : List ℕ) (xp yp zp xp' yp' zp' : List Cut) (ends ends' : List ℕ) (parts parts' : List Cut) (here here' part p q r : Cut) (end end' : ℕ)
    → Loop d f (Chosen C a b c) a b c xe ye ze xp yp zp ends parts here end → end < last_of d f
    → Stands d f (suc end) a xe' (map tree_of xp') → Stands d f (suc end) b ye' (map tree_of yp') → Stands d f (suc end) c ze' (map tree_of zp')
    → slice_get xp' 0 ≡ Some p → slice_get yp' 0 ≡ Some q → slice_get zp' 0 ≡ Some r
    → IsRest d (suc (number_of f)) 0 (tree_of part) → ((h : Field → ℕ) → Chosen C (tree_of p) (tree_of q) (tree_of r) h (value_of (tree_of part) h)) → finishes d part ≡ true
    → Joined ends parts ends' parts' here end part here'
    → end' ≡ min (first_end (last_of d f) xe' xp') (min (first_end (last_of d f) ye' yp') (first_end (last_of d f) ze' zp'))
    → Loop d f (Chosen C a b c) a b c xe' ye' ze' xp' yp' zp' ends' parts' here' end'
loop_goes d f C a b c xe ye ze xe' ye' ze' xp yp zp xp' yp' zp' ends ends' parts parts' here here' part p q r end end' l lt x y z i j k later means well joined is =
    let e = least_of_three d f (suc end) _ _ _ (first_ends d f (suc end) a xe' xp' x (omega arith)) (first_ends d f (suc end) b ye' yp' y (omega arith)) (first_ends d f (suc end) c ze' zp' z (omega arith)) in
    let e' = subst (Ends d f (suc end)) (sym is) e in
    let covered = part_means d f (suc end) end' C a b c xe' ye' ze' xp' yp' zp' p q r (tree_of part) x y z i j k (omega (arith, is)) (omega (arith, is)) (omega (arith, is)) means in
    let m = made_goes d f (Chosen C a b c) ends ends' parts parts' here here' part end end' (record { made = l.made; parts_finish = l.parts_finish; here_finishes = l.here_finishes }) lt e' later covered well joined in
    record {
      x = record { from = suc end; stands = x; low = e'.from_start; high = omega (arith, is) };
      y = record { from = suc end; stands = y; low = e'.from_start; high = omega (arith, is) };
      z = record { from = suc end; stands = z; low = e'.from_start; high = omega (arith, is) };
      made = m.made;
      parts_finish = m.parts_finish;
      here_finishes = m.here_finishes;
    }

-- the fields that three trees cut first
NotBefore : Field → Option Field → Type 0
NotBefore f o = (g : Field) → o ≡ Some g → number_of f ≤ number_of g

earlier_cases : (i j : Field) → ((earlier (Some i) (Some j) ≡ Some i) × (number_of i ≤ number_of j)) ⊎ ((earlier (Some i) (Some j) ≡ Some j) × (number_of j ≤ number_of i))
earlier_cases i j =
    elim (cases_lt (number_of j) (number_of i)) [
      | inl lt ↦ inr (cond-false (nat_le (number_of i) (number_of j)) (Some i) (Some j) (lt-leb (number_of i) (number_of j) lt), omega arith)
      | inr le ↦ inl (cond-true (nat_le (number_of i) (number_of j)) (Some i) (Some j) (le-leb (number_of i) (number_of j) le), le)
    ]

below_field : (f i g : Field) → number_of f ≤ number_of i → Some i ≡ Some g → number_of f ≤ number_of g
below_field f i g le e = let same : i ≡ g = cc in subst (λ (g : Field). number_of f ≤ number_of g) same le

earlier_least : (o u : Option Field) (f : Field) → NotBefore f (earlier o u) → NotBefore f o × NotBefore f u
unfolding NotBefore
earlier_least None u f h = ((λ g e. absurd cc), h)
earlier_least (Some i) None f h = (h, (λ g e. absurd cc))
earlier_least (Some i) (Some j) f h =
    elim (earlier_cases i j) [
      | inl w ↦ let le = h i w.0 in ((λ g e. below_field f i g le e), (λ g e. below_field f j g (omega (arith, le, w.1)) e))
      | inr w ↦ let le = h j w.0 in ((λ g e. below_field f i g (omega (arith, le, w.1)) e), (λ g e. below_field f j g le e))
    ]

earlier_one : (o u : Option Field) (f : Field) → earlier o u ≡ Some f → (o ≡ Some f) ⊎ (u ≡ Some f)
earlier_one None u f is = inr is
earlier_one (Some i) None f is = inl is
earlier_one (Some i) (Some j) f is =
    elim (earlier_cases i j) [
      | inl w ↦ inl (sym w.0 ∙ is)
      | inr w ↦ inr (sym w.0 ∙ is)
    ]

earlier_none : (o u : Option Field) → earlier o u ≡ None → (o ≡ None) × (u ≡ None)
earlier_none None u is = (refl, is)
earlier_none (Some i) None is = absurd cc
earlier_none (Some i) (Some j) is = elim (cases_Bool (nat_le (number_of i) (number_of j))) [
  | inl t ↦ absurd (never i (sym (cond-true (nat_le (number_of i) (number_of j)) (Some i) (Some j) t) ∙ is))
  | inr u ↦ absurd (never j (sym (cond-false (nat_le (number_of i) (number_of j)) (Some i) (Some j) u) ∙ is))
]
  where
    never : (g : Field) → Some g ≡ None → ⊥
    never g e = absurd cc

-- a tree whose first cut is not before a field
raised : (d k : ℕ) (f : Field) (t : Tree) → IsRest d k 0 t → NotBefore f (top t) → IsRest d (number_of f) 0 t
unfolding NotBefore
raised d k f (class value) r least = tt
raised d k f broken r least = r
raised d k f (cut g e low high) r least =
    record { rises = least g refl; from_least = r.from_least; goes_on = λ same. omega arith; before_last = r.before_last; low_rest = r.low_rest; high_rest = r.high_rest; apart = r.apart }

begun : (d k : ℕ) (f : Field) (t : Tree) → IsRest d k 0 t → top t ≡ Some f → k ≤ number_of f
begun d k f (class value) r is = absurd cc
begun d k f broken r is = absurd r
begun d k f (cut g e low high) r is = let same : number_of g ≡ number_of f = cc in omega (arith, r.rises)

pub tops_some : (d k : ℕ) (f : Field) (t u v : Tree) → IsRest d k 0 t → IsRest d k 0 u → IsRest d k 0 v → earlier (top t) (earlier (top u) (top v)) ≡ Some f → (k ≤ number_of f) × IsRest d (number_of f) 0 t × IsRest d (number_of f) 0 u × IsRest d (number_of f) 0 v
unfolding NotBefore
tops_some d k f t u v r s w is =
    let outer = earlier_least (top t) (earlier (top u) (top v)) f (first_itself is) in
    let inner = earlier_least (top u) (top v) f outer.1 in
    let begins : k ≤ number_of f = elim (earlier_one (top t) (earlier (top u) (top v)) f is) [
      | inl e ↦ begun d k f t r e
      | inr e ↦ elim (earlier_one (top u) (top v) f e) [ inl e' ↦ begun d k f u s e' | inr e' ↦ begun d k f v w e' ]
    ] in
    (begins, raised d k f t r outer.0, raised d k f u s inner.0, raised d k f v w inner.1)
  where
    first_itself : {o : Option Field} → o ≡ Some f → NotBefore f o
    first_itself e g e' = below_field f f g (omega arith) (sym e ∙ e')

pub tops_none : (t u v : Tree) → earlier (top t) (earlier (top u) (top v)) ≡ None → (top t ≡ None) × (top u ≡ None) × (top v ≡ None)
tops_none t u v is = let outer = earlier_none (top t) (earlier (top u) (top v)) is in let inner = earlier_none (top u) (top v) outer.1 in (outer.0, inner.0, inner.1)

-- where a merge begins
pub record Start (d k : ℕ) (f : Field) (a b c : Tree) (xe ye ze : List ℕ) (xp yp zp : List Cut) : Type 0 where
  pub settled : k ≤ number_of f
  pub x : Stands d f 0 a xe (map tree_of xp)
  pub y : Stands d f 0 b ye (map tree_of yp)
  pub z : Stands d f 0 c ze (map tree_of zp)

pub starts : (d k : ℕ) (f : Field) (a b c : Tree) (xe ye ze : List ℕ) (xp yp zp : List Cut) (r s w i : Option Field) → IsRest d k 0 a → IsRest d k 0 b → IsRest d k 0 c
    → r ≡ top a → s ≡ top b → w ≡ top c → i ≡ earlier s w → Some f ≡ earlier r i
    → chain f xe (map tree_of xp) ≡ a → chain f ye (map tree_of yp) ≡ b → chain f ze (map tree_of zp) ≡ c → Start d k f a b c xe ye ze xp yp zp
starts d k f a b c xe ye ze xp yp zp r s w i ra rb rc er es ew ei is ex ey ez =
    let tops : earlier (top a) (earlier (top b) (top c)) ≡ Some f =
    ap (λ (o : Option Field). earlier o (earlier (top b) (top c))) (sym er)
    ∙ (ap (λ (o : Option Field). earlier r (earlier o (top c))) (sym es)
    ∙ (ap (λ (o : Option Field). earlier r (earlier s o)) (sym ew) ∙ (ap (earlier r) (sym ei) ∙ sym is))) in
    let facts = tops_some d k f a b c ra rb rc tops in
    record { settled = facts.0; x = begins d f a xe (map tree_of xp) facts.1 ex; y = begins d f b ye (map tree_of yp) facts.2 ey; z = begins d f c ze (map tree_of zp) facts.3 ez }

-- what the loop has behind the end of its first parts
pub record Moved (d : ℕ) (f : Field) (end : ℕ) (a b c : Tree) (xe ye ze : List ℕ) (xp yp zp : List Cut) : Type 0 where
  pub x : Stands d f (suc end) a xe (map tree_of xp)
  pub y : Stands d f (suc end) b ye (map tree_of yp)
  pub z : Stands d f (suc end) c ze (map tree_of zp)

pub moves : (d : ℕ) (f : Field) (P : (Field → ℕ) → ℕ → Type 0) (a b c : Tree) (xe ye ze xe' ye' ze' : List ℕ) (xp yp zp xp' yp' zp' : List Cut) (ends : List ℕ) (parts : List Cut) (here : Cut) (end : ℕ)
    → Loop d f P a b c xe ye ze xp yp zp ends parts here end → end < last_of d f
    → xe' ≡ cond (ends_at end xe xp) (drop 1 xe) xe → xp' ≡ cond (ends_at end xe xp) (drop 1 xp) xp
    → ye' ≡ cond (ends_at end ye yp) (drop 1 ye) ye → yp' ≡ cond (ends_at end ye yp) (drop 1 yp) yp
    → ze' ≡ cond (ends_at end ze zp) (drop 1 ze) ze → zp' ≡ cond (ends_at end ze zp) (drop 1 zp) zp
    → Moved d f end a b c xe' ye' ze' xp' yp' zp'
moves d f P a b c xe ye ze xe' ye' ze' xp yp zp xp' yp' zp' ends parts here end l lt ex px ey py ez pz =
    record { x = at_behind d f end a xe xe' xp xp' l.x lt ex px; y = at_behind d f end b ye ye' yp yp' l.y lt ey py; z = at_behind d f end c ze ze' zp zp' l.z lt ez pz }

pub least_above : (d : ℕ) (f : Field) (end end' : ℕ) (a b c : Tree) (xe ye ze : List ℕ) (xp yp zp : List Cut) → Moved d f end a b c xe ye ze xp yp zp → end < last_of d f
    → end' ≡ min (first_end (last_of d f) xe xp) (min (first_end (last_of d f) ye yp) (first_end (last_of d f) ze zp)) → end < end'
least_above d f end end' a b c xe ye ze xp yp zp m lt is =
    let x = first_ends d f (suc end) a xe xp m.x (omega arith) in
    let y = first_ends d f (suc end) b ye yp m.y (omega arith) in
    let z = first_ends d f (suc end) c ze zp m.z (omega arith) in
    omega (arith, is, x.from_start, y.from_start, z.from_start)

pub loop_ends : (d k : ℕ) (f : Field) (P : (Field → ℕ) → ℕ → Type 0) (a b c : Tree) (xe ye ze : List ℕ) (xp yp zp : List Cut) (ends : List ℕ) (parts : List Cut) (here : Cut) (end : ℕ)
    → Loop d f P a b c xe ye ze xp yp zp ends parts here end → last_of d f ≤ end → k ≤ number_of f → (t : Tree) → t ≡ put f ends (map tree_of parts) (tree_of here) → IsRest d k 0 t × ((h : Field → ℕ) → P h (value_of t h))
loop_ends d k f P a b c xe ye ze xp yp zp ends parts here end l whole le t is =
    made_ends d k f P ends parts here end l.made whole le t is

pub loop_lengths : (d : ℕ) (f : Field) (P : (Field → ℕ) → ℕ → Type 0) (a b c : Tree) (xe ye ze : List ℕ) (xp yp zp : List Cut) (ends : List ℕ) (parts : List Cut) (here : Cut) (end : ℕ)
    → Loop d f P a b c xe ye ze xp yp zp ends parts here end → length ends ≡ length parts
loop_lengths d f P a b c xe ye ze xp yp zp ends parts here end l = l.made.as_many ∙ length-map parts tree_of

pub loop_alone : (d : ℕ) (f : Field) (P : (Field → ℕ) → ℕ → Type 0) (a b c : Tree) (xe ye ze : List ℕ) (xp yp zp : List Cut) (ends : List ℕ) (parts : List Cut) (here : Cut) (end : ℕ)
    → Loop d f P a b c xe ye ze xp yp zp ends parts here end → last_part f (tree_of here) ≡ tree_of here
loop_alone d f P a b c xe ye ze xp yp zp ends parts here end l = later_alone d f (tree_of here) l.made.later

-- what holds of a result
pub if_ok : {A E : Type 0} (r : Result A E) (P Q : A → Type 0) → ((x : A) → P x → Q x) → IfOk r P → IfOk r Q
if_ok (Ok x) P Q step h = step x h
if_ok (Err e) P Q step h = h

pub whole : {last field_last end : ℕ} → last ≡ field_last → last ≤ end → field_last ≤ end
whole is le = omega arith

-- what was chosen before a choice more
pub loop_keeps : (d : ℕ) (f : Field) (C D : ℕ → ℕ → ℕ → ℕ → Type 0) (a b c : Tree) (xe ye ze : List ℕ) (xp yp zp : List Cut) (ends : List ℕ) (parts : List Cut) (here : Cut) (end : ℕ)
    → Keeps C D → Loop d f (Chosen C a b c) a b c xe ye ze xp yp zp ends parts here end → Loop d f (Chosen D a b c) a b c xe ye ze xp yp zp ends parts here end
loop_keeps d f C D a b c xe ye ze xp yp zp ends parts here end keeps l =
    record {
      x = l.x;
      y = l.y;
      z = l.z;
      made = merging_weaker d f (Chosen C a b c) (Chosen D a b c) ends (map tree_of parts) (tree_of here) end (λ h n chosen. keeps (value_of a h) (value_of b h) (value_of c h) n chosen) l.made;
      parts_finish = l.parts_finish;
      here_finishes = l.here_finishes;
    }
