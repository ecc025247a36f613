-- The loop of a choice between two trees: places in the condition and in the first tree, what is left of the
-- second one, and the node made so far.
use Rattle.std.proofs.Common.{◌≡◌, ◌≢◌, ◌<◌, ◌≤◌, ℕ, suc, List, [], ◌∷◌, length, map, drop, min, Some, Result, Ok, Err, IfOk, slice_get, slice_index, refl, sym, ◌∙◌, ap, subst, arith, inl, inr, Bool, true, false, cond, nat_lt, ◌==◌, ◌&&◌, eq-eqb}
use Rattle.std.proofs.lemmas.Bool.{cond-true, cond-false, cases_eq, ne_eqb}
use Rattle.mt_packet.specs.Header.{number_of}
use Rattle.mt_packet.specs.declared.field.Field.{Field}
use Rattle.mt_cuts.specs.declared.cut.Cut.{Cut}
use Rattle.mt_cuts.specs.Tree.{Tree, value_of}
use Rattle.mt_cuts.specs.View.{tree_of, chain, last_part}
use Rattle.mt_cuts.specs.Canonical.{IsRest, last_of, finishes, all_true}
use Rattle.mt_cuts.specs.Walk.{IsPlace, first_end, ends_at, Joined}
use Rattle.mt_cuts.specs.Skip.{past}
use Rattle.mt_cuts.proofs.Walks.{Stands, Ends}
use Rattle.mt_cuts.proofs.Merging.{Merging}
use Rattle.mt_cuts.proofs.Made.{made_begins, made_goes}
use Rattle.mt_cuts.proofs.Skipping.{stands_past, finish_past, right}
use Rattle.mt_cuts.proofs.Loops.{At, Chosen, at_behind, first_ends, first_value, least_of_three}

-- a tree that does not cut the field is the only part
pub only_part : (f : Field) (c c' : Cut) (ends : List ℕ) (parts : List Cut) → c ≡ c' → last_part f (tree_of c) ≡ tree_of c → ends ≡ [] → parts ≡ c' ∷ [] → chain f ends (map tree_of parts) ≡ tree_of c
only_part f c c' ends parts same alone e p = ap (λ (ps : List Cut). chain f ends (map tree_of ps)) p ∙ (ap (λ (c : Cut). last_part f (tree_of c)) (sym same) ∙ alone)

pub both_ok : {A E : Type 0} (r : Result A E) (P Q R : A → Type 0) → ((x : A) → P x → Q x → R x) → IfOk r P → IfOk r Q → IfOk r R
both_ok (Ok x) P Q R step p q = step x p q
both_ok (Err e) P Q R step p q = p

-- the second value where the first is 1, else the third
abbrev pub Selects : ℕ → ℕ → ℕ → ℕ → Type 0
Selects x y z n = n ≡ cond (x == 1) y z

selects : (n x x' y y' z z' : ℕ) → x' ≡ x → n ≡ cond (x == 1) y z → (x ≡ 1 → y' ≡ y) → (x ≢ 1 → z' ≡ z) → Selects x' y' z' n
selects n x x' y y' z z' same is one other =
    elim (cases_eq x 1) [
      | inl e ↦ is ∙ (cond-true (x == 1) y z (eq-eqb x 1 e) ∙ (sym (one e) ∙ sym (cond-true (x' == 1) y' z' (eq-eqb x' 1 (same ∙ e)))))
      | inr apart ↦ is ∙ (cond-false (x == 1) y z (ne_eqb x 1 apart) ∙ (sym (other apart) ∙ sym (cond-false (x' == 1) y' z' (ne_eqb x' 1 (λ e. apart (sym same ∙ e))))))
    ]

-- a step from a value of the field on: the first parts of three places, whether the condition fails or holds
-- there for all headers, and what was taken of the third
pub record Step (d : ℕ) (f : Field) (from : ℕ) (a b c : Tree) (xe ye ze : List ℕ) (xp yp zp : List Cut) (p q r : Cut) (fails holds : Bool) (end : ℕ) (taken : Tree) : Type 0 where
  pub x : Stands d f from a xe (map tree_of xp)
  pub y : Stands d f from b ye (map tree_of yp)
  pub z : Stands d f from c ze (map tree_of zp)
  pub first : slice_get xp 0 ≡ Some p
  pub second : slice_get yp 0 ≡ Some q
  pub third : slice_get zp 0 ≡ Some r
  pub never : fails ≡ true → (h : Field → ℕ) → value_of (tree_of p) h ≢ 1
  pub always : holds ≡ true → (h : Field → ℕ) → value_of (tree_of p) h ≡ 1
  pub least : end ≡ min (first_end (last_of d f) xe xp) (min (cond fails (last_of d f) (first_end (last_of d f) ye yp)) (cond holds (last_of d f) (first_end (last_of d f) ze zp)))
  pub room : from ≤ last_of d f
  pub kept : holds ≡ false → (h : Field → ℕ) → value_of taken h ≡ value_of (tree_of r) h

seen : (b : Bool) (d : ℕ) (f : Field) (from e : ℕ) → from ≤ last_of d f → Ends d f from e → Ends d f from (cond b (last_of d f) e)
seen true d f from e room ends = record { from_start = room; to_last = omega arith; least = λ lt. absurd (omega arith) }
seen false d f from e room ends = ends

pub step_ends : (d : ℕ) (f : Field) (from : ℕ) (a b c : Tree) (xe ye ze : List ℕ) (xp yp zp : List Cut) (p q r : Cut) (fails holds : Bool) (end : ℕ) (taken : Tree) → Step d f from a b c xe ye ze xp yp zp p q r fails holds end taken → Ends d f from end
step_ends d f from a b c xe ye ze xp yp zp p q r fails holds end taken s =
    subst (Ends d f from) (sym s.least)
    (least_of_three d f from _ _ _ (first_ends d f from a xe xp s.x s.room) (seen fails d f from _ s.room (first_ends d f from b ye yp s.y s.room)) (seen holds d f from _ s.room (first_ends d f from c ze zp s.z s.room)))

step_means : (d : ℕ) (f : Field) (from : ℕ) (a b c : Tree) (xe ye ze : List ℕ) (xp yp zp : List Cut) (p q r : Cut) (fails holds : Bool) (end : ℕ) (taken part : Tree) → Step d f from a b c xe ye ze xp yp zp p q r fails holds end taken
    → ((h : Field → ℕ) → value_of part h ≡ cond (value_of (tree_of p) h == 1) (value_of (tree_of q) h) (value_of taken h))
    → (h : Field → ℕ) → from ≤ h f → (end < last_of d f → h f ≤ end) → Chosen Selects a b c h (value_of part h)
step_means d f from a b c xe ye ze xp yp zp p q r fails holds end taken part s is h low covered =
    selects (value_of part h) (value_of (tree_of p) h) (value_of a h) (value_of (tree_of q) h) (value_of b h) (value_of taken h) (value_of c h)
    (first_value d f from a xe xp p end s.x s.first (omega (arith, s.least)) h low covered) (is h)
    (λ one. of_second fails (omega (arith, s.least)) s.never one)
    (λ other. of_third holds (omega (arith, s.least)) s.always s.kept other)
  where
    of_second : (b' : Bool) → end ≤ cond b' (last_of d f) (first_end (last_of d f) ye yp) → (b' ≡ true → (h : Field → ℕ) → value_of (tree_of p) h ≢ 1) → value_of (tree_of p) h ≡ 1 → value_of b h ≡ value_of (tree_of q) h
    of_second true le never one = absurd (never refl h one)
    of_second false le never one = first_value d f from b ye yp q end s.y s.second le h low covered

    of_third : (b' : Bool) → end ≤ cond b' (last_of d f) (first_end (last_of d f) ze zp) → (b' ≡ true → (h : Field → ℕ) → value_of (tree_of p) h ≡ 1) → (b' ≡ false → (h : Field → ℕ) → value_of taken h ≡ value_of (tree_of r) h) → value_of (tree_of p) h ≢ 1 → value_of c h ≡ value_of taken h
    of_third true le always same other = absurd (other (always refl h))
    of_third false le always same other = first_value d f from c ze zp r end s.z s.third le h low covered ∙ sym (same refl h)

-- in front of the last end, a part is passed where it ends
passes : {A : Type 0} (last end : ℕ) (ends : List ℕ) (parts : List A) → end < last → (first_end last ends parts == end) ≡ ends_at end ends parts
passes last end ends parts lt = either (nat_lt 1 (length parts)) (slice_index ends 0)
  where
    either : (b : Bool) (e : ℕ) → (cond b e last == end) ≡ (b && e == end)
    either true e = refl
    either false e = ne_eqb last end (λ same. omega arith)

-- what is left of the third tree behind an end
abbrev left_ends : Bool → ℕ → ℕ → List ℕ → List Cut → List ℕ
left_ends holds last end ze zp = cond holds (past end ze zp).0 (cond (first_end last ze zp == end) (drop 1 ze) ze)

abbrev left_parts : Bool → ℕ → ℕ → List ℕ → List Cut → List Cut
left_parts holds last end ze zp = cond holds (past end ze zp).1 (cond (first_end last ze zp == end) (drop 1 zp) zp)

left_stands : (holds : Bool) (d : ℕ) (f : Field) (from end : ℕ) (c : Tree) (ze ze' : List ℕ) (zp zp' : List Cut) → Stands d f from c ze (map tree_of zp) → from ≤ end → end ≤ cond holds (last_of d f) (first_end (last_of d f) ze zp) → end < last_of d f
    → ze' ≡ left_ends holds (last_of d f) end ze zp → zp' ≡ left_parts holds (last_of d f) end ze zp → Stands d f (suc end) c ze' (map tree_of zp')
left_stands true d f from end c ze ze' zp zp' s low le lt e p =
    subst (λ (es : List ℕ). Stands d f (suc end) c es (map tree_of zp')) (sym e)
    (subst (λ (ps : List Cut). Stands d f (suc end) c (past end ze zp).0 (map tree_of ps)) (sym p) (stands_past d f from end c ze zp s (omega arith)))
left_stands false d f from end c ze ze' zp zp' s low le lt e p =
    let same = passes (last_of d f) end ze zp lt in
    at_behind d f end c ze ze' zp zp' (record { from = from; stands = s; low = low; high = le }) lt
    (e ∙ ap (λ (b : Bool). cond b (drop 1 ze) ze) same)
    (p ∙ ap (λ (b : Bool). cond b (drop 1 zp) zp) same)

left_finish : (holds : Bool) (d last end : ℕ) (ze : List ℕ) (zp : List Cut) → all_true (map (finishes d) zp) ≡ true → all_true (map (finishes d) (left_parts holds last end ze zp)) ≡ true
left_finish true d last end ze zp h = finish_past d end ze zp h
left_finish false d last end ze zp h = either (first_end last ze zp == end) zp h
  where
    either : (b : Bool) (ps : List Cut) → all_true (map (finishes d) ps) ≡ true → all_true (map (finishes d) (cond b (drop 1 ps) ps)) ≡ true
    either false ps h = h
    either true [] h = h
    either true (p ∷ ps) h = right (finishes d p) (all_true (map (finishes d) ps)) h

-- a place has a first part
pub first_there : (ends : List ℕ) (parts : List Cut) → IsPlace ends parts → (p : Cut) × (slice_get parts 0 ≡ Some p)
first_there ends [] at = absurd (omega (arith, at.0))
first_there ends (p ∷ ps) at = (p, refl)

pub record Selecting (d : ℕ) (f : Field) (a b c : Tree) (xe ye ze : List ℕ) (xp yp zp : List Cut) (ends : List ℕ) (parts : List Cut) (here : Cut) (end : ℕ) : Type 0 where
  pub x : At d f end a xe xp
  pub from : ℕ
  pub y : Stands d f from b ye (map tree_of yp)
  pub low : from ≤ end
  pub z : end < last_of d f → Stands d f (suc end) c ze (map tree_of zp)
  pub rest_finish : all_true (map (finishes d) zp) ≡ true
  pub made : Merging d f (Chosen Selects a b c) ends (map tree_of parts) (tree_of here) end
  pub parts_finish : all_true (map (finishes d) parts) ≡ true
  pub here_finishes : finishes d here ≡ true

pub selecting_begins : (d : ℕ) (f : Field) (a b c : Tree) (xe ye ze ze' : List ℕ) (xp yp zp zp' : List Cut) (ends : List ℕ) (parts : List Cut) (here p q r : Cut) (fails holds : Bool) (end : ℕ) (taken : Tree)
    → Step d f 0 a b c xe ye ze xp yp zp p q r fails holds end taken → IsRest d (suc (number_of f)) 0 (tree_of here)
    → ((h : Field → ℕ) → value_of (tree_of here) h ≡ cond (value_of (tree_of p) h == 1) (value_of (tree_of q) h) (value_of taken h)) → finishes d here ≡ true
    → ends ≡ [] → parts ≡ [] → all_true (map (finishes d) zp) ≡ true
    → ze' ≡ left_ends holds (last_of d f) end ze zp → zp' ≡ left_parts holds (last_of d f) end ze zp
    → Selecting d f a b c xe ye ze' xp yp zp' ends parts here end
selecting_begins d f a b c xe ye ze ze' xp yp zp zp' ends parts here p q r fails holds end taken s later means well es ps all e' p' =
    let m = made_begins d f (Chosen Selects a b c) ends parts here end (step_ends d f 0 a b c xe ye ze xp yp zp p q r fails holds end taken s) later
    (step_means d f 0 a b c xe ye ze xp yp zp p q r fails holds end taken (tree_of here) s means) well es ps in
    record {
      x = record { from = 0; stands = s.x; low = omega arith; high = omega (arith, s.least) };
      from = 0;
      y = s.y;
      low = omega arith;
      z = λ lt. left_stands holds d f 0 end c ze ze' zp zp' s.z (omega arith) (omega (arith, s.least)) lt e' p';
      rest_finish = subst (λ (ps : List Cut). all_true (map (finishes d) ps) ≡ true) (sym p') (left_finish holds d (last_of d f) end ze zp all);
      made = m.made;
      parts_finish = m.parts_finish;
      here_finishes = m.here_finishes;
    }

-- behind an end
pub record Passed (d : ℕ) (f : Field) (end : ℕ) (a b c : Tree) (xe ye ze : List ℕ) (xp yp zp : List Cut) : Type 0 where
  pub x : Stands d f (suc end) a xe (map tree_of xp)
  pub y : Stands d f (suc end) b ye (map tree_of yp)
  pub z : Stands d f (suc end) c ze (map tree_of zp)

pub selecting_passes : (d : ℕ) (f : Field) (a b c : Tree) (xe ye ze xe' ye' : List ℕ) (xp yp zp xp' yp' : List Cut) (ends : List ℕ) (parts : List Cut) (here : Cut) (end : ℕ)
    → Selecting d f a b c xe ye ze xp yp zp ends parts here end → end < last_of d f
    → xe' ≡ cond (ends_at end xe xp) (drop 1 xe) xe → xp' ≡ cond (ends_at end xe xp) (drop 1 xp) xp
    → ye' ≡ (past end ye yp).0 → yp' ≡ (past end ye yp).1
    → Passed d f end a b c xe' ye' ze xp' yp' zp
selecting_passes d f a b c xe ye ze xe' ye' xp yp zp xp' yp' ends parts here end s lt ex px ey py =
    let le = s.low in
    record {
      x = at_behind d f end a xe xe' xp xp' s.x lt ex px;
      y = subst (λ (es : List ℕ). Stands d f (suc end) b es (map tree_of yp')) (sym ey)
          (subst (λ (ps : List Cut). Stands d f (suc end) b (past end ye yp).0 (map tree_of ps)) (sym py) (stands_past d f s.from end b ye yp s.y (omega arith)));
      z = s.z lt;
    }

pub selecting_goes : (d : ℕ) (f : Field) (a b c : Tree) (xe ye ze xe' ye' ze' : List ℕ) (xp yp zp xp' yp' zp' : List Cut) (ends ends' : List ℕ) (parts parts' : List Cut) (here here' part p q r : Cut) (fails holds : Bool) (end end' : ℕ) (taken : Tree)
    → Selecting d f a b c xe ye ze xp yp zp ends parts here end → end < last_of d f
    → Step d f (suc end) a b c xe' ye' ze xp' yp' zp p q r fails holds end' taken → IsRest d (suc (number_of f)) 0 (tree_of part)
    → ((h : Field → ℕ) → value_of (tree_of part) h ≡ cond (value_of (tree_of p) h == 1) (value_of (tree_of q) h) (value_of taken h)) → finishes d part ≡ true
    → Joined ends parts ends' parts' here end part here'
    → ze' ≡ left_ends holds (last_of d f) end' ze zp → zp' ≡ left_parts holds (last_of d f) end' ze zp
    → Selecting d f a b c xe' ye' ze' xp' yp' zp' ends' parts' here' end'
selecting_goes d f a b c xe ye ze xe' ye' ze' xp yp zp xp' yp' zp' ends ends' parts parts' here here' part p q r fails holds end end' taken w lt s later means well joined e' p' =
    let e = step_ends d f (suc end) a b c xe' ye' ze xp' yp' zp p q r fails holds end' taken s in
    let m = made_goes d f (Chosen Selects a b c) ends ends' parts parts' here here' part end end' (record { made = w.made; parts_finish = w.parts_finish; here_finishes = w.here_finishes }) lt e later
    (step_means d f (suc end) a b c xe' ye' ze xp' yp' zp p q r fails holds end' taken (tree_of part) s means) well joined in
    record {
      x = record { from = suc end; stands = s.x; low = e.from_start; high = omega (arith, s.least) };
      from = suc end;
      y = s.y;
      low = e.from_start;
      z = λ lt'. left_stands holds d f (suc end) end' c ze ze' zp zp' s.z e.from_start (omega (arith, s.least)) lt' e' p';
      rest_finish = subst (λ (ps : List Cut). all_true (map (finishes d) ps) ≡ true) (sym p') (left_finish holds d (last_of d f) end' ze zp w.rest_finish);
      made = m.made;
      parts_finish = m.parts_finish;
      here_finishes = m.here_finishes;
    }
