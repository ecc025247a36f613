-- The comment at the front of a text is what the text says.
use Rattle.std.proofs.Common.{◌≡◌, ℕ, zero, suc, ◌+◌, ◌<◌, List, [], ◌∷◌, ◌++◌, length, take, drop, get_or, cond, eqb, ltb, Bool, true, false, ◌&&◌, ◌||◌, not, Option, Some, None, refl, sym, ap, subst, ◌∙◌, inl, inr, arith, append_assoc, length-append}
use Rattle.std.specs.Prelude.{IsTrue}
use Rattle.std.specs.List.{AllByRecursion, prefix_len}
use Rattle.std.specs.Option.{option_map}
use Rattle.std.proofs.lemmas.Bool.{eqb-true}
use Rattle.std.proofs.lemmas.Bool.Decides.{nat_tests}
use Rattle.mt_lists.proofs.Bools.{chosen, and_true, or_false, true_behind, false_behind, not_true}
use Rattle.mt_syntax.specs.declared.comment.Comment.TheVariants.{Absent, Closed}
use Rattle.mt_syntax.specs.Comment.{line_len, block_len, closed, comment_at}
use Rattle.mt_syntax.specs.Spelled.{Stops, EndsLine, IsLineComment, HasNoClose, IsBlockComment, IsComment, OpensComment}

not_not : (a : Bool) → not a ≡ false → a ≡ true
not_not true e = refl
not_not false e = absurd cc

-- what stands at the front passes the test
passes_at : (p : ℕ → Bool) (t : Bool) (x : ℕ) (xs : List ℕ) → p x ≡ t → AllByRecursion (λ c. IsTrue (p c)) (take (prefix_len p xs) xs) → AllByRecursion (λ c. IsTrue (p c)) (take (cond t (1 + prefix_len p xs) 0) (x ∷ xs))
passes_at p true x xs e more = let k : 1 + prefix_len p xs ≡ suc (prefix_len p xs) = omega arith in rw k (e, more)
passes_at p false x xs e more = tt

pub front_passes : (p : ℕ → Bool) (xs : List ℕ) → AllByRecursion (λ c. IsTrue (p c)) (take (prefix_len p xs) xs)
front_passes p [] = tt
front_passes p (x ∷ xs) = passes_at p (p x) x xs refl (front_passes p xs)

-- where the first byte passes, it is taken
pub taken_first : (p : ℕ → Bool) (x : ℕ) (xs : List ℕ) → p x ≡ true → take (prefix_len p (x ∷ xs)) (x ∷ xs) ≡ x ∷ take (prefix_len p xs) xs
taken_first p x xs e = let k : 1 + prefix_len p xs ≡ suc (prefix_len p xs) = omega arith in rw (e, k) refl

-- and what stands behind does not pass
stops_at : (p : ℕ → Bool) (t : Bool) (x : ℕ) (xs : List ℕ) → p x ≡ t → Stops p (drop (prefix_len p xs) xs) → Stops p (drop (cond t (1 + prefix_len p xs) 0) (x ∷ xs))
stops_at p true x xs e more = let k : 1 + prefix_len p xs ≡ suc (prefix_len p xs) = omega arith in rw k more
stops_at p false x xs e more = ap not e

pub stops_behind : (p : ℕ → Bool) (xs : List ℕ) → Stops p (drop (prefix_len p xs) xs)
stops_behind p [] = tt
stops_behind p (x ∷ xs) = stops_at p (p x) x xs refl (stops_behind p xs)

-- so it is told how long the front is
pub prefix_stops : (p : ℕ → Bool) (xs rest : List ℕ) → AllByRecursion (λ c. IsTrue (p c)) xs → Stops p rest → prefix_len p (xs ++ rest) ≡ length xs
prefix_stops p [] [] all stops = refl
prefix_stops p [] (b ∷ bs) all stops = let f : p b ≡ false = not_true (p b) stops in rw f refl
prefix_stops p (x ∷ xs) rest all stops =
    let t : p x ≡ true = all.0 in
    let e = prefix_stops p xs rest all.1 stops in
    rw (t, e) (omega arith)

no_line_feed : (xs : List ℕ) → AllByRecursion (λ c. IsTrue (not (eqb c 10))) xs → AllByRecursion (λ b. b ≡ 10 → ⊥) xs
no_line_feed [] h = tt
no_line_feed (x ∷ xs) h = (λ e. grind (arith, nat_tests, h.0), no_line_feed xs h.1)

in_line : (x : ℕ) → (x ≡ 10 → ⊥) → not (eqb x 10) ≡ true
in_line x h = let f : eqb x 10 ≡ false = grind (arith, nat_tests) in ap not f

all_in_line : (xs : List ℕ) → AllByRecursion (λ b. b ≡ 10 → ⊥) xs → AllByRecursion (λ c. IsTrue (not (eqb c 10))) xs
all_in_line [] h = tt
all_in_line (x ∷ xs) h = (in_line x h.0, all_in_line xs h.1)

ends_line : (xs : List ℕ) → Stops (λ c. not (eqb c 10)) xs → EndsLine xs
ends_line [] h = tt
ends_line (x ∷ xs) h = eqb-true x 10 (not_not (eqb x 10) (not_true (not (eqb x 10)) h))

line_stops : (xs : List ℕ) → EndsLine xs → Stops (λ c. not (eqb c 10)) xs
line_stops [] h = tt
line_stops (x ∷ xs) h = rw h refl

-- a line's comment
line_is : (bytes : List ℕ) (n : ℕ) → ltb (length bytes) 2 ≡ false → eqb (get_or bytes 0 0) 47 ≡ true → eqb (get_or bytes 1 0) 47 ≡ true → line_len bytes ≡ n → IsLineComment (take n bytes) (drop n bytes)
line_is [] n long a b e = absurd (grind (arith, nat_tests))
line_is (x ∷ []) n long a b e = absurd (grind (arith, nat_tests))
line_is (x ∷ y ∷ bs) n long a b e =
    let p : ℕ → Bool = λ c. not (eqb c 10) in
    let xe : x ≡ 47 = eqb-true _ _ a in
    let ye : y ≡ 47 = eqb-true _ _ b in
    let px : p x ≡ true = rw xe refl in
    let py : p y ≡ true = rw ye refl in
    let t : take (line_len (x ∷ y ∷ bs)) (x ∷ y ∷ bs) ≡ x ∷ y ∷ take (line_len bs) bs = taken_first p x (y ∷ bs) px ∙ ap (λ (z : List ℕ). x ∷ z) (taken_first p y bs py) in
    let u : take n (x ∷ y ∷ bs) ≡ 47 ∷ 47 ∷ take (line_len bs) bs = rw (← e) (t ∙ rw (xe, ye) refl) in
    (take (line_len bs) bs, u, no_line_feed (take (line_len bs) bs) (front_passes p bs), subst (λ k. EndsLine (drop k (x ∷ y ∷ bs))) e (ends_line _ (stops_behind p (x ∷ y ∷ bs))))

-- a block's comment
pub some_is : (o : Option ℕ) (n : ℕ) → option_map (λ k. k + 1) o ≡ Some n → (m : ℕ) × (o ≡ Some m) × (n ≡ suc m)
some_is None n e = absurd cc
some_is (Some m) n e = (m, refl, (let x : m + 1 ≡ n = cc in omega arith))

abbrev pub IsBlockEnd : List ℕ → List ℕ → Type 0
IsBlockEnd bytes inner = (bytes ≡ inner ++ 42 ∷ 47 ∷ []) × HasNoClose (inner ++ 42 ∷ [])

pub one_byte_no_close : HasNoClose (42 ∷ [])
one_byte_no_close front back e =
    let n = ap length e in
    let m = length-append front (42 ∷ 47 ∷ back) in
    omega arith

ends_here : (b : ℕ) (bs : List ℕ) (n : ℕ) → (eqb b 42 && eqb (get_or bs 0 0) 47) ≡ true → Some 2 ≡ Some n → (inner : List ℕ) × IsBlockEnd (take n (b ∷ bs)) inner
ends_here b [] n t e = absurd (let x = and_true (eqb b 42) (eqb 0 47) t in (let y : eqb 0 47 ≡ true = x.1 in cc))
ends_here b (c ∷ bs) n t e =
    let x = and_true (eqb b 42) (eqb c 47) t in
    let be : b ≡ 42 = eqb-true _ _ x.0 in
    let ce : c ≡ 47 = eqb-true _ _ x.1 in
    let ne : 2 ≡ n = cc in
    ([], (rw (← ne, be, ce) refl, one_byte_no_close))

-- a first byte that begins no `*/` may stand before
first_of : (bs : List ℕ) (m : ℕ) (y : ℕ) (ys : List ℕ) → take m bs ≡ y ∷ ys → get_or bs 0 0 ≡ y
first_of [] zero y ys e = absurd (let x : [] ≡ y ∷ ys = e in cc)
first_of [] (suc m) y ys e = absurd (let x : [] ≡ y ∷ ys = e in cc)
first_of (b ∷ bs) zero y ys e = absurd (let x : [] ≡ y ∷ ys = e in cc)
first_of (b ∷ bs) (suc m) y ys e = (let x : b ∷ take m bs ≡ y ∷ ys = e in cc)

begins_no_close : (b : ℕ) (bs : List ℕ) (m : ℕ) (inner back : List ℕ) → (eqb b 42 && eqb (get_or bs 0 0) 47) ≡ false → take m bs ≡ inner ++ 42 ∷ 47 ∷ [] → b ∷ (inner ++ 42 ∷ []) ≡ 42 ∷ 47 ∷ back → ⊥
begins_no_close b bs m [] back f t e =
    let x = ap (λ (xs : List ℕ). get_or xs 1 0) e in
    omega (arith, x)
begins_no_close b bs m (y ∷ ys) back f t e =
    let g : get_or bs 0 0 ≡ y = first_of bs m y (ys ++ 42 ∷ 47 ∷ []) t in
    let be : b ≡ 42 = (let z : b ∷ y ∷ (ys ++ 42 ∷ []) ≡ 42 ∷ 47 ∷ back = e in cc) in
    let ye : y ≡ 47 = (let z : b ∷ y ∷ (ys ++ 42 ∷ []) ≡ 42 ∷ 47 ∷ back = e in cc) in
    let w : (eqb b 42 && eqb (get_or bs 0 0) 47) ≡ true = rw (be, g, ye) refl in
    (let z : true ≡ false = sym w ∙ f in cc)

later_no_close : (b : ℕ) (bs : List ℕ) (m : ℕ) (inner : List ℕ) → (eqb b 42 && eqb (get_or bs 0 0) 47) ≡ false → take m bs ≡ inner ++ 42 ∷ 47 ∷ [] → HasNoClose (inner ++ 42 ∷ []) → HasNoClose (b ∷ (inner ++ 42 ∷ []))
later_no_close b bs m inner f t h [] back e = begins_no_close b bs m inner back f t e
later_no_close b bs m inner f t h (x ∷ front) back e = h front back (let z : b ∷ (inner ++ 42 ∷ []) ≡ x ∷ (front ++ 42 ∷ 47 ∷ back) = e in cc)

block_is : (bs : List ℕ) (n : ℕ) → block_len bs ≡ Some n → (inner : List ℕ) × IsBlockEnd (take n bs) inner
block_is [] n e = absurd cc
block_is (b ∷ bs) n e =
    elim (chosen (eqb b 42 && eqb (get_or bs 0 0) 47) (Some 2) (option_map (λ k. k + 1) (block_len bs)) (Some n) e) [
      | inl h ↦ ends_here b bs n h.0 h.1
      | inr h ↦
          let s = some_is (block_len bs) n h.1 in
          let r : (inner : List ℕ) × IsBlockEnd (take s.0 bs) inner = block_is bs s.0 s.1 in
          (b ∷ r.0, (ap (λ k. take k (b ∷ bs)) s.2 ∙ ap (λ (z : List ℕ). b ∷ z) r.1.0, later_no_close b bs s.0 r.0 h.0 r.1.0 r.1.1))
    ]

closed_is : (o : Option ℕ) (n : ℕ) → closed o ≡ Closed n → (m : ℕ) × (o ≡ Some m) × (n ≡ suc (suc m))
closed_is None n e = absurd cc
closed_is (Some m) n e = (m, refl, (let x : m + 2 ≡ n = cc in omega arith))

block_comment : (bytes : List ℕ) (n : ℕ) → ltb (length bytes) 2 ≡ false → eqb (get_or bytes 0 0) 47 ≡ true → eqb (get_or bytes 1 0) 42 ≡ true → closed (block_len (drop 2 bytes)) ≡ Closed n → IsBlockComment (take n bytes)
block_comment [] n long a b e = absurd (grind (arith, nat_tests))
block_comment (x ∷ []) n long a b e = absurd (grind (arith, nat_tests))
block_comment (x ∷ y ∷ bs) n long a b e =
    let xe : x ≡ 47 = eqb-true _ _ a in
    let ye : y ≡ 42 = eqb-true _ _ b in
    let s = closed_is (block_len bs) n e in
    let r = block_is bs s.0 s.1 in
    (r.0, ap (λ k. take k (x ∷ y ∷ bs)) s.2 ∙ ap (λ k. k ∷ y ∷ take s.0 bs) xe ∙ ap (λ k. 47 ∷ k ∷ take s.0 bs) ye ∙ ap (λ (z : List ℕ). 47 ∷ 42 ∷ z) r.1.0, r.1.1)

-- a comment that is closed is one of a line or of a block
pub comment_is : (bytes : List ℕ) (n : ℕ) → comment_at bytes ≡ Closed n → IsComment (take n bytes) (drop n bytes)
unfolding comment_at
comment_is bytes n e =
    let a = get_or bytes 0 0 in
    let b = get_or bytes 1 0 in
    elim (chosen (ltb (length bytes) 2 || not (eqb a 47)) Absent (cond (eqb b 47) (Closed (line_len bytes)) (cond (not (eqb b 42)) Absent (closed (block_len (drop 2 bytes))))) (Closed n) e) [
      | inl h ↦ absurd (let x : Absent ≡ Closed n = h.1 in cc)
      | inr h ↦
          let f = or_false (ltb (length bytes) 2) (not (eqb a 47)) h.0 in
          let slash = not_not (eqb a 47) f.1 in
          elim (chosen (eqb b 47) (Closed (line_len bytes)) (cond (not (eqb b 42)) Absent (closed (block_len (drop 2 bytes)))) (Closed n) h.1) [
            | inl g ↦ inl (line_is bytes n f.0 slash g.0 (let x : Closed (line_len bytes) ≡ Closed n = g.1 in cc))
            | inr g ↦ elim (chosen (not (eqb b 42)) Absent (closed (block_len (drop 2 bytes))) (Closed n) g.1) [
              | inl k ↦ absurd (let x : Absent ≡ Closed n = k.1 in cc)
              | inr k ↦ inr (block_comment bytes n f.0 slash (not_not (eqb b 42) k.0) k.1)
            ]
          ]
    ]

-- The other way round: what is a comment is found.

pub absent_at : (b : ℕ) (bs : List ℕ) → eqb b 47 ≡ false → comment_at (b ∷ bs) ≡ Absent
unfolding comment_at
absent_at b bs f = rw (f, true_behind (ltb (length (b ∷ bs)) 2)) refl

slash_at : (c : ℕ) (bs : List ℕ) → comment_at (47 ∷ c ∷ bs) ≡ cond (eqb c 47) (Closed (line_len (47 ∷ c ∷ bs))) (cond (not (eqb c 42)) Absent (closed (block_len bs)))
unfolding comment_at
slash_at c bs = let f : ltb (length (47 ∷ c ∷ bs)) 2 ≡ false = grind (arith, nat_tests) in rw f refl

line_at : (inner rest : List ℕ) → AllByRecursion (λ b. b ≡ 10 → ⊥) inner → EndsLine rest → comment_at (47 ∷ 47 ∷ (inner ++ rest)) ≡ Closed (length (47 ∷ 47 ∷ inner))
line_at inner rest all ends = slash_at 47 (inner ++ rest) ∙ ap (λ (k : ℕ). Closed k) (prefix_stops (λ c. not (eqb c 10)) (47 ∷ 47 ∷ inner) rest (refl, (refl, all_in_line inner all)) (line_stops rest ends))

block_off : (b : ℕ) (bs : List ℕ) → (eqb b 42 && eqb (get_or bs 0 0) 47) ≡ false → block_len (b ∷ bs) ≡ option_map (λ n. n + 1) (block_len bs)
block_off b bs f = rw f refl

block_first : (inner rest : List ℕ) → HasNoClose (inner ++ 42 ∷ []) → block_len (inner ++ 42 ∷ 47 ∷ rest) ≡ Some (length inner + 2)
block_first [] rest h = refl
block_first (x ∷ []) rest h = block_off x (42 ∷ 47 ∷ rest) (false_behind (eqb x 42))
block_first (x ∷ y ∷ ys) rest h =
    let f : (eqb x 42 && eqb y 47) ≡ false = elim (eqb x 42 && eqb y 47) as (λ (t : Bool). (eqb x 42 && eqb y 47) ≡ t → t ≡ false) [
      | true ↦ λ e. absurd (let t = and_true (eqb x 42) (eqb y 47) e in (let xe : x ≡ 42 = eqb-true _ _ t.0 in (let ye : y ≡ 47 = eqb-true _ _ t.1 in h [] (ys ++ 42 ∷ []) (ap (λ k. k ∷ y ∷ (ys ++ 42 ∷ [])) xe ∙ ap (λ k. 42 ∷ k ∷ (ys ++ 42 ∷ [])) ye))))
      | false ↦ λ e. refl
    ] refl in
    let ih : block_len (y ∷ (ys ++ 42 ∷ 47 ∷ rest)) ≡ Some (length (y ∷ ys) + 2) = block_first (y ∷ ys) rest (λ front back e. h (x ∷ front) back (ap (λ (z : List ℕ). x ∷ z) e)) in
    let n : length (y ∷ ys) + 2 + 1 ≡ length (x ∷ y ∷ ys) + 2 = omega arith in
    block_off x (y ∷ (ys ++ 42 ∷ 47 ∷ rest)) f ∙ ap (option_map (λ k. k + 1)) ih ∙ ap (λ (k : ℕ). Some k) n

block_at : (inner rest : List ℕ) → HasNoClose (inner ++ 42 ∷ []) → comment_at (47 ∷ 42 ∷ ((inner ++ 42 ∷ 47 ∷ []) ++ rest)) ≡ Closed (length (47 ∷ 42 ∷ (inner ++ 42 ∷ 47 ∷ [])))
block_at inner rest h =
    let n : length inner + 2 + 2 ≡ length (47 ∷ 42 ∷ (inner ++ 42 ∷ 47 ∷ [])) = omega (arith, length-append inner (42 ∷ 47 ∷ [])) in
    ap (λ (z : List ℕ). comment_at (47 ∷ 42 ∷ z)) (append_assoc inner (42 ∷ 47 ∷ []) rest) ∙ slash_at 42 (inner ++ 42 ∷ 47 ∷ rest) ∙ ap closed (block_first inner rest h) ∙ ap (λ (k : ℕ). Closed k) n

pub is_comment_at : (bytes rest : List ℕ) → IsComment bytes rest → comment_at (bytes ++ rest) ≡ Closed (length bytes)
is_comment_at bytes rest (inl h) = subst (λ (x : List ℕ). comment_at (x ++ rest) ≡ Closed (length x)) (sym h.1) (line_at h.0 rest h.2 h.3)
is_comment_at bytes rest (inr h) = subst (λ (x : List ℕ). comment_at (x ++ rest) ≡ Closed (length x)) (sym h.1) (block_at h.0 rest h.2)

pub comment_has_byte : (bytes rest : List ℕ) → IsComment bytes rest → 0 < length bytes
comment_has_byte bytes rest (inl h) = let n = ap length h.1 in omega arith
comment_has_byte bytes rest (inr h) = let n = ap length h.1 in omega arith

closed_not_absent : (o : Option ℕ) → closed o ≡ Absent → ⊥
closed_not_absent None e = cc
closed_not_absent (Some n) e = cc

-- where no comment is found, none opens
pub absent_opens_none : (bytes : List ℕ) → comment_at bytes ≡ Absent → OpensComment bytes → ⊥
absent_opens_none bytes e h =
    let f : comment_at (47 ∷ h.0 ∷ h.1) ≡ Absent = ap comment_at (sym h.2) ∙ e in
    elim h.3 [
      | inl s ↦ (let g : Closed (line_len (47 ∷ 47 ∷ h.1)) ≡ Absent = sym (slash_at 47 h.1) ∙ ap (λ c. comment_at (47 ∷ c ∷ h.1)) (sym s) ∙ f in cc)
      | inr s ↦ closed_not_absent (block_len h.1) (sym (slash_at 42 h.1) ∙ ap (λ c. comment_at (47 ∷ c ∷ h.1)) (sym s) ∙ f)
    ]

one_byte_absent : (b : ℕ) → comment_at (b ∷ []) ≡ Absent
unfolding comment_at
one_byte_absent b = refl

opens_none : (b c : ℕ) (bs : List ℕ) → (t u v : Bool) → eqb b 47 ≡ t → eqb c 47 ≡ u → eqb c 42 ≡ v → (OpensComment (b ∷ c ∷ bs) → ⊥) → comment_at (b ∷ c ∷ bs) ≡ Absent
opens_none b c bs false u v e f g h = absent_at b (c ∷ bs) e
opens_none b c bs true true v e f g h = absurd (h (c, bs, ap (λ k. k ∷ c ∷ bs) (eqb-true b 47 e), inl (eqb-true c 47 f)))
opens_none b c bs true false true e f g h = absurd (h (c, bs, ap (λ k. k ∷ c ∷ bs) (eqb-true b 47 e), inr (eqb-true c 42 g)))
opens_none b c bs true false false e f g h = ap (λ k. comment_at (k ∷ c ∷ bs)) (eqb-true b 47 e) ∙ slash_at c bs ∙ rw (f, g) refl

pub opens_none_at : (b : ℕ) (bs : List ℕ) → (OpensComment (b ∷ bs) → ⊥) → comment_at (b ∷ bs) ≡ Absent
opens_none_at b [] h = one_byte_absent b
opens_none_at b (c ∷ bs) h = opens_none b c bs (eqb b 47) (eqb c 47) (eqb c 42) refl refl refl h
