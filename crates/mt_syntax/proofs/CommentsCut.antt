-- A text that is cut where none of its comments runs over the cut.
use Rattle.std.proofs.Common.{◌≡◌, ◌⊎◌, ℕ, zero, suc, ◌+◌, ◌-◌, ◌<◌, ◌≤◌, List, [], ◌∷◌, length, take, get_or, cond, eqb, ltb, Bool, true, false, ◌&&◌, not, Option, Some, None, refl, sym, ap, subst, ◌∙◌, inl, inr, arith}
use Rattle.std.specs.Option.{option_map}
use Rattle.std.proofs.lemmas.Bool.Decides.{nat_tests}
use Rattle.mt_lists.proofs.Bools.{chosen}
use Rattle.mt_syntax.specs.declared.comment.Comment.{Comment}
use Rattle.mt_syntax.specs.declared.comment.Comment.TheVariants.{Absent, Closed, Open}
use Rattle.mt_syntax.specs.Comment.{line_len, block_len, closed, comment_at, hidden}
use Rattle.mt_syntax.specs.Closing.{closing, depth_after}

-- which comment stands at the front, by the first bytes

starts : (x y : ℕ) (bs : List ℕ) → comment_at (x ∷ y ∷ bs) ≡ cond (not (eqb x 47)) Absent (cond (eqb y 47) (Closed (line_len (x ∷ y ∷ bs))) (cond (not (eqb y 42)) Absent (closed (block_len bs))))
unfolding comment_at
starts x y bs = let t : ltb (length (x ∷ y ∷ bs)) 2 ≡ false = grind (arith, nat_tests) in rw t refl

short_absent : (bytes : List ℕ) → length bytes < 2 → comment_at bytes ≡ Absent
unfolding comment_at
short_absent bytes h = let t : ltb (length bytes) 2 ≡ true = grind (arith, nat_tests) in rw t refl

closed_not_absent : (o : Option ℕ) → closed o ≡ Absent → ⊥
closed_not_absent None e = cc
closed_not_absent (Some n) e = cc

absent_test : (a b c : Bool) (n m : ℕ) (o r : Option ℕ) → cond a Absent (cond b (Closed n) (cond c Absent (closed o))) ≡ Absent → cond a Absent (cond b (Closed m) (cond c Absent (closed r))) ≡ Absent
absent_test true b c n m o r e = refl
absent_test false true c n m o r e = absurd cc
absent_test false false true n m o r e = refl
absent_test false false false n m o r e = absurd (closed_not_absent o e)

-- where no comment begins, none begins in what is left
absent_cut : (bytes : List ℕ) (k : ℕ) → comment_at bytes ≡ Absent → comment_at (take k bytes) ≡ Absent
absent_cut bytes zero e = short_absent [] (omega arith)
absent_cut [] (suc k) e = e
absent_cut (x ∷ bs) (suc zero) e = short_absent (x ∷ []) (omega arith)
absent_cut (x ∷ []) (suc (suc k)) e = e
absent_cut (x ∷ y ∷ bs) (suc (suc k)) e =
    starts x y (take k bs) ∙ absent_test (not (eqb x 47)) (eqb y 47) (not (eqb y 42)) (line_len (x ∷ y ∷ bs)) (line_len (x ∷ y ∷ take k bs)) (block_len bs) (block_len (take k bs)) (sym (starts x y bs) ∙ e)

-- a comment's length in what is left

abbrev pub KeepsLine : List ℕ → ℕ → Type 0
KeepsLine bytes k = line_len bytes ≤ k → line_len (take k bytes) ≡ line_len bytes

line_test : (t : Bool) (k n m : ℕ) → (n ≤ k → m ≡ n) → cond t (1 + n) 0 ≤ suc k → cond t (1 + m) 0 ≡ cond t (1 + n) 0
line_test true k n m h le = ap (λ x. 1 + x) (h (omega (arith, le)))
line_test false k n m h le = refl

line_cut : (bytes : List ℕ) (k : ℕ) → KeepsLine bytes k
line_cut [] zero le = refl
line_cut [] (suc k) le = refl
line_cut (b ∷ bs) zero le = omega (arith, le)
line_cut (b ∷ bs) (suc k) le = line_test (not (eqb b 10)) k (line_len bs) (line_len (take k bs)) (λ h. line_cut bs k h) le

one_more : (o : Option ℕ) (m : ℕ) → option_map (λ n. n + 1) o ≡ Some m → (n : ℕ) × (o ≡ Some n) × (m ≡ suc n)
one_more None m e = absurd cc
one_more (Some n) m e = (n, refl, (let x : n + 1 ≡ m = cc in omega (arith, x)))

block_low : (bytes : List ℕ) (m : ℕ) → block_len bytes ≡ Some m → 2 ≤ m
block_low [] m e = absurd cc
block_low (b ∷ bs) m e = elim (chosen (eqb b 42 && eqb (get_or bs 0 0) 47) (Some 2) (option_map (λ n. n + 1) (block_len bs)) (Some m) e) [
  | inl h ↦ (let x : 2 ≡ m = (let y : Some 2 ≡ Some m = h.1 in cc) in omega (arith, x))
  | inr h ↦ (let o = one_more (block_len bs) m h.1 in omega (arith, o.2, block_low bs o.0 o.1))
]

first_cut : (bs : List ℕ) (k : ℕ) → 1 ≤ k → get_or (take k bs) 0 0 ≡ get_or bs 0 0
first_cut bs zero le = absurd (omega arith)
first_cut [] (suc k) le = refl
first_cut (b ∷ bs) (suc k) le = refl

block_cut : (bytes : List ℕ) (k m : ℕ) → block_len bytes ≡ Some m → m ≤ k → block_len (take k bytes) ≡ Some m
block_cut [] k m e le = absurd cc
block_cut (b ∷ bs) zero m e le = absurd (omega (arith, le, block_low (b ∷ bs) m e))
block_cut (b ∷ bs) (suc k) m e le = elim (chosen (eqb b 42 && eqb (get_or bs 0 0) 47) (Some 2) (option_map (λ n. n + 1) (block_len bs)) (Some m) e) [
  | inl h ↦
      (let x : 2 ≡ m = (let y : Some 2 ≡ Some m = h.1 in cc) in
      let f = first_cut bs k (omega (arith, x, le)) in
      rw (f, h.0) h.1)
  | inr h ↦
      (let o = one_more (block_len bs) m h.1 in
      let low = block_low bs o.0 o.1 in
      let f = first_cut bs k (omega (arith, o.2, low, le)) in
      let more = block_cut bs k o.0 o.1 (omega (arith, o.2, le)) in
      rw (f, h.0, more) (ap (λ (x : ℕ). Some x) (omega (arith, o.2))))
]

closed_some : (o : Option ℕ) (n : ℕ) → closed o ≡ Closed n → (m : ℕ) × (o ≡ Some m) × (n ≡ m + 2)
closed_some None n e = absurd cc
closed_some (Some m) n e = (m, refl, (let x : m + 2 ≡ n = cc in sym x))

-- a comment has two bytes at least
closed_low : (bytes : List ℕ) (n : ℕ) → comment_at bytes ≡ Closed n → 2 ≤ n
closed_low [] n e = absurd (let x : Absent ≡ Closed n = sym (short_absent [] (omega arith)) ∙ e in cc)
closed_low (x ∷ []) n e = absurd (let y : Absent ≡ Closed n = sym (short_absent (x ∷ []) (omega arith)) ∙ e in cc)
closed_low (x ∷ y ∷ bs) n e =
    elim (chosen (not (eqb x 47)) Absent _ (Closed n) (sym (starts x y bs) ∙ e)) [
      | inl h ↦ absurd (let z : Absent ≡ Closed n = h.1 in cc)
      | inr h ↦ elim (chosen (eqb y 47) (Closed (line_len (x ∷ y ∷ bs))) _ (Closed n) h.1) [
        | inl g ↦
            (let first : not (eqb x 10) ≡ true = grind (arith, nat_tests, h.0) in
            let second : not (eqb y 10) ≡ true = grind (arith, nat_tests, g.0) in
            let len : line_len (x ∷ y ∷ bs) ≡ 1 + (1 + line_len bs) = rw (first, second) refl in
            let z : line_len (x ∷ y ∷ bs) ≡ n = (let w : Closed (line_len (x ∷ y ∷ bs)) ≡ Closed n = g.1 in cc) in
            omega (arith, len, z))
        | inr g ↦ elim (chosen (not (eqb y 42)) Absent (closed (block_len bs)) (Closed n) g.1) [
          | inl k ↦ absurd (let z : Absent ≡ Closed n = k.1 in cc)
          | inr k ↦ (let c = closed_some (block_len bs) n k.1 in omega (arith, c.2))
        ]
      ]
    ]

pub closed_cut : (bytes : List ℕ) (k n : ℕ) → comment_at bytes ≡ Closed n → n ≤ k → comment_at (take k bytes) ≡ Closed n
closed_cut bytes zero n e le = absurd (omega (arith, le, closed_low bytes n e))
closed_cut bytes (suc zero) n e le = absurd (omega (arith, le, closed_low bytes n e))
closed_cut [] (suc (suc k)) n e le = e
closed_cut (x ∷ []) (suc (suc k)) n e le = e
closed_cut (x ∷ y ∷ bs) (suc (suc k)) n e le =
    elim (chosen (not (eqb x 47)) Absent _ (Closed n) (sym (starts x y bs) ∙ e)) [
      | inl h ↦ absurd (let z : Absent ≡ Closed n = h.1 in cc)
      | inr h ↦ starts x y (take k bs) ∙ rw h.0 (elim (chosen (eqb y 47) (Closed (line_len (x ∷ y ∷ bs))) _ (Closed n) h.1) [
        | inl g ↦
            (let z : line_len (x ∷ y ∷ bs) ≡ n = (let w : Closed (line_len (x ∷ y ∷ bs)) ≡ Closed n = g.1 in cc) in
            let same : line_len (x ∷ y ∷ take k bs) ≡ line_len (x ∷ y ∷ bs) = line_cut (x ∷ y ∷ bs) (suc (suc k)) (omega (arith, z, le)) in
            rw g.0 (ap (λ (j : ℕ). Closed j) (same ∙ z)))
        | inr g ↦ rw g.0 (elim (chosen (not (eqb y 42)) Absent (closed (block_len bs)) (Closed n) g.1) [
          | inl j ↦ absurd (let z : Absent ≡ Closed n = j.1 in cc)
          | inr j ↦
              (let c = closed_some (block_len bs) n j.1 in
              let more = block_cut bs k c.0 c.1 (omega (arith, c.2, le)) in
              rw (j.0, more) (ap (λ (i : ℕ). Closed i) (sym c.2)))
        ])
      ])
    ]

-- where an argument text ends, in what is left

closing_none : (bs : List ℕ) (s depth : ℕ) → length bs ≤ s → closing depth (hidden s bs) ≡ None
unfolding closing hidden
closing_none [] zero depth le = refl
closing_none [] (suc s) depth le = refl
closing_none (b ∷ bs) zero depth le = absurd (omega (arith, le))
closing_none (b ∷ bs) (suc s) depth le = ap (option_map (λ n. n + 1)) (closing_none bs s depth (omega (arith, le)))

pub next_closing : (depth m : ℕ) (bs : List (Option ℕ)) → closing depth (None ∷ bs) ≡ Some m → (n : ℕ) × (closing depth bs ≡ Some n) × (m ≡ suc n)
unfolding closing
next_closing depth m bs e = one_more (closing depth bs) m e

-- the byte ends the text, or the text goes on
pub here_or_next : (depth b m : ℕ) (bs : List (Option ℕ)) → closing depth (Some b ∷ bs) ≡ Some m → (((eqb b 41 && eqb depth 0) ≡ true) × (m ≡ 1)) ⊎ (((eqb b 41 && eqb depth 0) ≡ false) × ((n : ℕ) × (closing (depth_after depth b) bs ≡ Some n) × (m ≡ suc n)))
unfolding closing
here_or_next depth b m bs e = elim (chosen (eqb b 41 && eqb depth 0) (Some 1) (option_map (λ n. n + 1) (closing (depth_after depth b) bs)) (Some m) e) [
  | inl h ↦ inl (h.0, (let x : 1 ≡ m = (let y : Some 1 ≡ Some m = h.1 in cc) in sym x))
  | inr h ↦ inr (h.0, one_more (closing (depth_after depth b) bs) m h.1)
]

pub closing_low : (bs : List (Option ℕ)) (depth m : ℕ) → closing depth bs ≡ Some m → 1 ≤ m
unfolding closing
closing_low [] depth m e = absurd cc
closing_low (None ∷ bs) depth m e = let n = next_closing depth m bs e in omega (arith, n.2)
closing_low (Some b ∷ bs) depth m e = elim (here_or_next depth b m bs e) [
  | inl h ↦ omega (arith, h.1)
  | inr h ↦ (let n = h.1 in omega (arith, n.2))
]

-- it ends behind the comment that it begins in
closing_skips : (bs : List ℕ) (s depth m : ℕ) → closing depth (hidden s bs) ≡ Some m → suc s ≤ m
unfolding hidden
closing_skips bs zero depth m e = closing_low (hidden zero bs) depth m e
closing_skips [] (suc s) depth m e = absurd (let x : None ≡ Some m = sym (closing_none [] (suc s) depth (omega arith)) ∙ e in cc)
closing_skips (b ∷ bs) (suc s) depth m e =
    let n = next_closing depth m (hidden s bs) e in
    omega (arith, n.2, closing_skips bs s depth n.0 n.1)

-- one place of a text

pub hidden_absent : (b : ℕ) (bs : List ℕ) → comment_at (b ∷ bs) ≡ Absent → hidden 0 (b ∷ bs) ≡ Some b ∷ hidden 0 bs
unfolding hidden
hidden_absent b bs h = rw (h, hidden) refl

pub hidden_closed : (b : ℕ) (bs : List ℕ) (n : ℕ) → comment_at (b ∷ bs) ≡ Closed n → hidden 0 (b ∷ bs) ≡ None ∷ hidden (n - 1) bs
unfolding hidden
hidden_closed b bs n h = rw (h, hidden) refl

pub hidden_open : (b : ℕ) (bs : List ℕ) → comment_at (b ∷ bs) ≡ Open → hidden 0 (b ∷ bs) ≡ None ∷ hidden (length bs) bs
unfolding hidden
hidden_open b bs h = rw (h, hidden) refl

nothing_hidden : (s : ℕ) → hidden s [] ≡ []
unfolding hidden
nothing_hidden zero = refl
nothing_hidden (suc s) = refl

abbrev pub IsCutWell : List ℕ → ℕ → ℕ → ℕ → Type 0
IsCutWell bs s j m = j ≤ m → m ≤ suc j → hidden s (take j bs) ≡ take j (hidden s bs)

cut_nothing : (bs : List ℕ) (s : ℕ) → hidden s (take 0 bs) ≡ take 0 (hidden s bs)
cut_nothing bs s = nothing_hidden s

cut_absent : (b : ℕ) (bs : List ℕ) (depth j m : ℕ) → comment_at (b ∷ bs) ≡ Absent → closing depth (hidden 0 (b ∷ bs)) ≡ Some m → ((d n : ℕ) → closing d (hidden 0 bs) ≡ Some n → IsCutWell bs 0 j n) → IsCutWell (b ∷ bs) 0 (suc j) m
cut_absent b bs depth j m c e more low high =
    let left = hidden_absent b (take j bs) (absent_cut (b ∷ bs) (suc j) c) in
    let whole = hidden_absent b bs c in
    let next : closing depth (Some b ∷ hidden 0 bs) ≡ Some m = ap (closing depth) (sym whole) ∙ e in
    let rest : hidden 0 (take j bs) ≡ take j (hidden 0 bs) = elim (here_or_next depth b m (hidden 0 bs) next) [
      | inl h ↦ (let z : 0 ≡ j = omega (arith, low, h.1) in subst (λ k. hidden 0 (take k bs) ≡ take k (hidden 0 bs)) z (cut_nothing bs 0))
      | inr h ↦ (let n = h.1 in more (depth_after depth b) n.0 n.1 (omega (arith, n.2, low)) (omega (arith, n.2, high)))
    ] in
    left ∙ ap (λ (x : List (Option ℕ)). Some b ∷ x) rest ∙ sym (ap (take (suc j)) whole)

cut_closed : (b : ℕ) (bs : List ℕ) (depth j m n : ℕ) → comment_at (b ∷ bs) ≡ Closed n → closing depth (hidden 0 (b ∷ bs)) ≡ Some m → ((d i : ℕ) → closing d (hidden (n - 1) bs) ≡ Some i → IsCutWell bs (n - 1) j i) → IsCutWell (b ∷ bs) 0 (suc j) m
cut_closed b bs depth j m n c e more low high =
    let whole = hidden_closed b bs n c in
    let next : closing depth (None ∷ hidden (n - 1) bs) ≡ Some m = ap (closing depth) (sym whole) ∙ e in
    let i = next_closing depth m (hidden (n - 1) bs) next in
    let far = closing_skips bs (n - 1) depth i.0 i.1 in
    let left = hidden_closed b (take j bs) n (closed_cut (b ∷ bs) (suc j) n c (omega (arith, far, i.2, high))) in
    let rest = more depth i.0 i.1 (omega (arith, i.2, low)) (omega (arith, i.2, high)) in
    left ∙ ap (λ (x : List (Option ℕ)). None ∷ x) rest ∙ sym (ap (take (suc j)) whole)

-- A text that is cut right before the `)` that ends it, or right behind it, keeps its comments.
pub cut : (bs : List ℕ) (s depth j m : ℕ) → closing depth (hidden s bs) ≡ Some m → IsCutWell bs s j m
unfolding hidden
cut bs s depth zero m e low high = cut_nothing bs s
cut [] s depth (suc j) m e low high = absurd (let x : None ≡ Some m = sym (closing_none [] s depth (omega arith)) ∙ e in cc)
cut (b ∷ bs) (suc s) depth (suc j) m e low high =
    let n = next_closing depth m (hidden s bs) e in
    ap (λ (x : List (Option ℕ)). None ∷ x) (cut bs s depth j n.0 n.1 (omega (arith, n.2, low)) (omega (arith, n.2, high)))
cut (b ∷ bs) zero depth (suc j) m e low high =
    elim (comment_at (b ∷ bs)) as (λ (c : Comment). comment_at (b ∷ bs) ≡ c → hidden zero (take (suc j) (b ∷ bs)) ≡ take (suc j) (hidden zero (b ∷ bs))) [
      | Absent ↦ λ c. cut_absent b bs depth j m c e (λ d n h. cut bs 0 d j n h) low high
      | Closed n ↦ λ c. cut_closed b bs depth j m n c e (λ d i h. cut bs (n - 1) d j i h) low high
      | Open ↦ λ c. absurd (
          let next : closing depth (None ∷ hidden (length bs) bs) ≡ Some m = ap (closing depth) (sym (hidden_open b bs c)) ∙ e in
          let n = next_closing depth m (hidden (length bs) bs) next in
          let x : None ≡ Some n.0 = sym (closing_none bs (length bs) depth (omega arith)) ∙ n.1 in cc)
    ] refl
