-- Where an argument text ends is what the text says.
use Rattle.std.proofs.Common.{◌≡◌, ◌⊎◌, ℕ, zero, suc, ◌+◌, ◌-◌, ◌<◌, ◌≤◌, List, [], ◌∷◌, ◌++◌, length, take, drop, get_or, eqb, leb, Bool, true, false, Option, Some, None, refl, sym, ap, subst, ◌∙◌, inl, inr, arith, append_assoc, length-append, min}
use Rattle.std.specs.Option.{option_map}
use Rattle.std.proofs.lemmas.Bool.Decides.{nat_tests}
use Rattle.std.proofs.lemmas.List.{take-append-drop}
use Rattle.mt_syntax.specs.declared.comment.Comment.{Comment}
use Rattle.mt_syntax.specs.declared.comment.Comment.TheVariants.{Absent, Closed, Open}
use Rattle.mt_syntax.specs.Comment.{comment_at, hidden, nothings}
use Rattle.mt_syntax.specs.Closing.{closing, plain_len}
use Rattle.mt_syntax.specs.Spelled.{IsComment, OpensComment, RunsToClose, IsPlain, IsCutOff, IsArgumentText}
use Rattle.mt_syntax.specs.Spelled.RunsToClose.{ends, falls, rises, passes, comment as in_comment}
use Rattle.mt_syntax.specs.Spelled.IsPlain.{nothing, byte, comment as plain_comment}
use Rattle.mt_syntax.proofs.HiddenComments.{step_absent, step_closed, step_open, all_hidden, plain_some, plain_stop, closing_nothings}
use Rattle.mt_syntax.proofs.CommentsSpelled.{some_is, comment_is, is_comment_at, comment_has_byte, absent_opens_none, opens_none_at}

-- a text whose comments are hidden, unit by unit

hidden_nothing : hidden 0 [] ≡ []
unfolding hidden
hidden_nothing = refl

hidden_past : (front rest : List ℕ) → hidden (length front) (front ++ rest) ≡ nothings front ++ hidden 0 rest
unfolding hidden
hidden_past [] rest = refl
hidden_past (x ∷ xs) rest = ap (λ (ys : List (Option ℕ)). None ∷ ys) (hidden_past xs rest)

hidden_byte : (b : ℕ) (bs : List ℕ) → (OpensComment (b ∷ bs) → ⊥) → hidden 0 (b ∷ bs) ≡ Some b ∷ hidden 0 bs
hidden_byte b bs h = step_absent b bs (opens_none_at b bs h)

hidden_comment : (front rest : List ℕ) → IsComment front rest → hidden 0 (front ++ rest) ≡ nothings front ++ hidden 0 rest
hidden_comment [] rest h = absurd (let n = comment_has_byte [] rest h in omega arith)
hidden_comment (b ∷ bs) rest h =
    let k : suc (length bs) - 1 ≡ length bs = omega arith in
    step_closed (length (b ∷ bs)) b (bs ++ rest) (is_comment_at (b ∷ bs) rest h) ∙ ap (λ (ys : List (Option ℕ)). None ∷ ys) (ap (λ j. hidden j (bs ++ rest)) k ∙ hidden_past bs rest)

-- what begins a text: a comment, an open one, or a byte; an empty text begins nothing
data Begin : List ℕ → Type 0 where
  begins_comment : (front rest : List ℕ) → IsComment front rest → Begin (front ++ rest)
  unseen : (bs : List ℕ) → hidden 0 bs ≡ nothings bs → Begin bs
  begins_byte : (b : ℕ) (rest : List ℕ) → (OpensComment (b ∷ rest) → ⊥) → Begin (b ∷ rest)

begin_of : (bs : List ℕ) → Begin bs
begin_of [] = unseen [] hidden_nothing
begin_of (b ∷ bs) =
    elim (comment_at (b ∷ bs)) as (λ (c : Comment). comment_at (b ∷ bs) ≡ c → Begin (b ∷ bs)) [
      | Absent ↦ λ e. begins_byte b bs (absent_opens_none (b ∷ bs) e)
      | Closed n ↦ λ e. subst Begin (take-append-drop n (b ∷ bs)) (begins_comment (take n (b ∷ bs)) (drop n (b ∷ bs)) (comment_is (b ∷ bs) n e))
      | Open ↦ λ e. unseen (b ∷ bs) (step_open b bs e ∙ ap (λ (x : List (Option ℕ)). None ∷ x) (all_hidden bs (length bs) (omega arith)))
    ] refl

-- which parenthesis a byte is
data Paren : ℕ → Type 0 where
  left : Paren 40
  right : Paren 41
  none : (b : ℕ) → (b ≡ 40 → ⊥) → (b ≡ 41 → ⊥) → Paren b

paren_case : (b : ℕ) (t u : Bool) → eqb b 40 ≡ t → eqb b 41 ≡ u → Paren b
paren_case b true u e f = let x : b ≡ 40 = grind (arith, nat_tests) in subst Paren (sym x) left
paren_case b false true e f = let x : b ≡ 41 = grind (arith, nat_tests) in subst Paren (sym x) right
paren_case b false false e f = none b (grind (arith, nat_tests)) (grind (arith, nat_tests))

paren_of : (b : ℕ) → Paren b
paren_of b = paren_case b (eqb b 40) (eqb b 41) refl refl

-- one place on

closing_past : (d : ℕ) (front : List ℕ) (ys : List (Option ℕ)) (n : ℕ) → closing d ys ≡ Some n → closing d (nothings front ++ ys) ≡ Some (length front + n)
unfolding closing
closing_past d [] ys n e = e ∙ ap (λ (k : ℕ). Some k) (omega arith)
closing_past d (x ∷ xs) ys n e = ap (option_map (λ k. k + 1)) (closing_past d xs ys n e) ∙ ap (λ (k : ℕ). Some k) (omega arith)

closing_is_past : (d : ℕ) (front : List ℕ) (ys : List (Option ℕ)) (n : ℕ) → closing d (nothings front ++ ys) ≡ Some n → (m : ℕ) × (closing d ys ≡ Some m) × (n ≡ length front + m)
unfolding closing
closing_is_past d [] ys n e = (n, e, omega arith)
closing_is_past d (x ∷ xs) ys n e =
    let s = some_is (closing d (nothings xs ++ ys)) n e in
    let r = closing_is_past d xs ys s.0 s.1 in
    (r.0, r.1, (let a = s.2 in let b = r.2 in omega arith))

closing_left : (d : ℕ) (ys : List (Option ℕ)) → closing d (Some 40 ∷ ys) ≡ option_map (λ n. n + 1) (closing (suc d) ys)
unfolding closing
closing_left d ys = let k : d + 1 ≡ suc d = omega arith in ap (λ j. option_map (λ n. n + 1) (closing j ys)) k

closing_right : (d : ℕ) (ys : List (Option ℕ)) → closing (suc d) (Some 41 ∷ ys) ≡ option_map (λ n. n + 1) (closing d ys)
unfolding closing
closing_right d ys =
    let k : suc d - 1 ≡ d = omega arith in
    let f : eqb (suc d) 0 ≡ false = grind (arith, nat_tests) in
    rw (f, k) refl

closing_last : (ys : List (Option ℕ)) → closing 0 (Some 41 ∷ ys) ≡ Some 1
unfolding closing
closing_last ys = refl

closing_byte : (d b : ℕ) (ys : List (Option ℕ)) → (b ≡ 40 → ⊥) → (b ≡ 41 → ⊥) → closing d (Some b ∷ ys) ≡ option_map (λ n. n + 1) (closing d ys)
unfolding closing
closing_byte d b ys l r =
    let f : eqb b 40 ≡ false = grind (arith, nat_tests) in
    let g : eqb b 41 ≡ false = grind (arith, nat_tests) in
    rw (g, f) refl

more_of : (o : Option ℕ) (n : ℕ) → o ≡ Some n → option_map (λ k. k + 1) o ≡ Some (suc n)
more_of o n e = ap (option_map (λ k. k + 1)) e ∙ ap (λ (k : ℕ). Some k) (omega arith)

-- what runs to its `)` is found to end there
pub closes_there : (d : ℕ) (bytes rest : List ℕ) → RunsToClose d bytes rest → closing d (hidden 0 (bytes ++ rest)) ≡ Some (length bytes)
closes_there _ _ _ (ends rest) = ap (closing 0) (hidden_byte 41 rest (λ h. let x : 41 ∷ rest ≡ 47 ∷ h.0 ∷ h.1 = h.2 in let y = ap (λ (xs : List ℕ). get_or xs 0 0) x in omega (arith, y))) ∙ closing_last (hidden 0 rest)
closes_there _ _ _ (falls d bytes rest h) = ap (closing (suc d)) (hidden_byte 41 (bytes ++ rest) (λ h. let y = ap (λ (xs : List ℕ). get_or xs 0 0) h.2 in omega (arith, y))) ∙ closing_right d _ ∙ more_of _ _ (closes_there d bytes rest h)
closes_there _ _ _ (rises d bytes rest h) = ap (closing d) (hidden_byte 40 (bytes ++ rest) (λ h. let y = ap (λ (xs : List ℕ). get_or xs 0 0) h.2 in omega (arith, y))) ∙ closing_left d _ ∙ more_of _ _ (closes_there (suc d) bytes rest h)
closes_there _ _ _ (passes d b bytes rest l r f h) = ap (closing d) (hidden_byte b (bytes ++ rest) f) ∙ closing_byte d b _ l r ∙ more_of _ _ (closes_there d bytes rest h)
closes_there _ _ _ (in_comment d front bytes rest c h) =
    ap (λ (z : List ℕ). closing d (hidden 0 z)) (append_assoc front bytes rest) ∙ ap (closing d) (hidden_comment front (bytes ++ rest) c) ∙ closing_past d front _ _ (closes_there d bytes rest h) ∙ ap (λ (k : ℕ). Some k) (sym (length-append front bytes))

plain_past : (front : List ℕ) (ys : List (Option ℕ)) → plain_len (nothings front ++ ys) ≡ length front + plain_len ys
plain_past [] ys = omega arith
plain_past (x ∷ xs) ys = let e = plain_past xs ys in omega arith

-- what is plain is found to be so
pub plain_there : (bytes rest : List ℕ) → IsPlain bytes rest → plain_len (hidden 0 (bytes ++ rest)) ≡ length bytes + plain_len (hidden 0 rest)
plain_there _ _ (nothing rest) = omega arith
plain_there _ _ (byte b bytes rest le f h) =
    let e = ap plain_len (hidden_byte b (bytes ++ rest) f) in
    let s = plain_some b (hidden 0 (bytes ++ rest)) le in
    let ih = plain_there bytes rest h in
    omega arith
plain_there _ _ (plain_comment front bytes rest c h) =
    let a = ap (λ (z : List ℕ). plain_len (hidden 0 z)) (append_assoc front bytes rest) in
    let e = ap plain_len (hidden_comment front (bytes ++ rest) c) in
    let s = plain_past front (hidden 0 (bytes ++ rest)) in
    let n = length-append front bytes in
    let ih = plain_there bytes rest h in
    omega arith

opens_same : (b : ℕ) (xs ys : List ℕ) → xs ≡ ys → (OpensComment (b ∷ xs) → ⊥) → OpensComment (b ∷ ys) → ⊥
opens_same b xs ys e f o = f (o.0, o.1, ap (λ (z : List ℕ). b ∷ z) e ∙ o.2, o.3)

-- The other way round: the bytes up to the `)` that is found run to it, and are plain up to where they are cut.

abbrev pub IsReadSo : ℕ → List ℕ → ℕ → ℕ → Type 0
IsReadSo d bs n p = (inner : List ℕ) × (more : List ℕ) × (behind : List ℕ) × (bs ≡ inner ++ (more ++ behind)) × (length inner ≡ min n p) × RunsToClose d (inner ++ more) behind × IsPlain inner (more ++ behind) × IsCutOff more

abbrev pub Reads : ℕ → List ℕ → Type 0
Reads d bs = (n : ℕ) → closing d (hidden 0 bs) ≡ Some n → IsReadSo d bs n (plain_len (hidden 0 bs))

behind_comment : (d : ℕ) (front rest : List ℕ) (n p m q : ℕ) (inner more behind : List ℕ) → IsComment front rest → n ≡ length front + m → p ≡ length front + q
    → rest ≡ inner ++ (more ++ behind) → length inner ≡ min m q → RunsToClose d (inner ++ more) behind → IsPlain inner (more ++ behind) → IsCutOff more → IsReadSo d (front ++ rest) n p
behind_comment d front rest n p m q inner more behind is en ep a l runs plain cut =
    let b : rest ≡ (inner ++ more) ++ behind = a ∙ sym (append_assoc inner more behind) in
    let k = length-append front inner in (
      front ++ inner,
      more,
      behind,
      ap (λ (z : List ℕ). front ++ z) a ∙ sym (append_assoc front inner (more ++ behind)),
      omega arith,
      subst (λ (z : List ℕ). RunsToClose d z behind) (sym (append_assoc front inner more)) (in_comment d front (inner ++ more) behind (subst (IsComment front) b is) runs),
      plain_comment front inner (more ++ behind) (subst (IsComment front) a is) plain,
      cut,
    )

reads_comment : (d : ℕ) (front rest : List ℕ) → IsComment front rest → Reads d rest → Reads d (front ++ rest)
reads_comment d front rest is ih n e =
    let h = hidden_comment front rest is in
    let s = closing_is_past d front (hidden 0 rest) n (sym (ap (closing d) h) ∙ e) in
    let r = ih s.0 s.1 in
    let p = ap plain_len h ∙ plain_past front (hidden 0 rest) in
    behind_comment d front rest n (plain_len (hidden 0 (front ++ rest))) s.0 (plain_len (hidden 0 rest)) r.0 r.1 r.2 is s.2 p r.3 r.4 r.5 r.6 r.7

-- a byte up to 126 goes on as its rest does
abbrev pub GoesOn : ℕ → ℕ → ℕ → List ℕ → Type 0
GoesOn d e b rest = (bytes behind : List ℕ) → rest ≡ bytes ++ behind → RunsToClose e bytes behind → RunsToClose d (b ∷ bytes) behind

behind_byte : (d e b : ℕ) (rest : List ℕ) (n p m q : ℕ) (inner more behind : List ℕ) → b ≤ 126 → (OpensComment (b ∷ rest) → ⊥) → GoesOn d e b rest → n ≡ suc m → p ≡ 1 + q
    → rest ≡ inner ++ (more ++ behind) → length inner ≡ min m q → RunsToClose e (inner ++ more) behind → IsPlain inner (more ++ behind) → IsCutOff more → IsReadSo d (b ∷ rest) n p
behind_byte d e b rest n p m q inner more behind le f goes en ep a l runs plain cut = (
  b ∷ inner,
  more,
  behind,
  ap (λ (z : List ℕ). b ∷ z) a,
  omega arith,
  goes (inner ++ more) behind (a ∙ sym (append_assoc inner more behind)) runs,
  byte b inner (more ++ behind) le (opens_same b rest (inner ++ (more ++ behind)) a f) plain,
  cut,
)

reads_on : (d e b : ℕ) (rest : List ℕ) → b ≤ 126 → (OpensComment (b ∷ rest) → ⊥) → closing d (Some b ∷ hidden 0 rest) ≡ option_map (λ n. n + 1) (closing e (hidden 0 rest)) → GoesOn d e b rest → Reads e rest → Reads d (b ∷ rest)
reads_on d e b rest le f step goes ih n c =
    let h = hidden_byte b rest f in
    let s = some_is (closing e (hidden 0 rest)) n (sym step ∙ sym (ap (closing d) h) ∙ c) in
    let r = ih s.0 s.1 in
    let p = ap plain_len h ∙ plain_some b (hidden 0 rest) le in
    behind_byte d e b rest n (plain_len (hidden 0 (b ∷ rest))) s.0 (plain_len (hidden 0 rest)) r.0 r.1 r.2 le f goes s.2 p r.3 r.4 r.5 r.6 r.7

-- at one above 126 the text is cut
behind_cut : (d b : ℕ) (rest : List ℕ) (n p : ℕ) (inner more behind : List ℕ) → 126 < b → (OpensComment (b ∷ rest) → ⊥) → p ≡ 0 → rest ≡ inner ++ (more ++ behind) → RunsToClose d (inner ++ more) behind → IsReadSo d (b ∷ rest) n p
behind_cut d b rest n p inner more behind gt f ep a runs =
    let e : rest ≡ (inner ++ more) ++ behind = a ∙ sym (append_assoc inner more behind) in (
      [],
      b ∷ (inner ++ more),
      behind,
      ap (λ (z : List ℕ). b ∷ z) e,
      omega arith,
      passes d b (inner ++ more) behind (λ x. omega arith) (λ x. omega arith) (opens_same b rest ((inner ++ more) ++ behind) e f) runs,
      nothing (b ∷ ((inner ++ more) ++ behind)),
      gt,
    )

reads_cut : (d b : ℕ) (rest : List ℕ) → 126 < b → (OpensComment (b ∷ rest) → ⊥) → Reads d rest → Reads d (b ∷ rest)
reads_cut d b rest gt f ih n c =
    let h = hidden_byte b rest f in
    let s = some_is (closing d (hidden 0 rest)) n (sym (closing_byte d b (hidden 0 rest) (λ x. omega arith) (λ x. omega arith)) ∙ sym (ap (closing d) h) ∙ c) in
    let r = ih s.0 s.1 in
    let p = ap plain_len h ∙ plain_stop b (hidden 0 rest) gt in
    behind_cut d b rest n (plain_len (hidden 0 (b ∷ rest))) r.0 r.1 r.2 gt f p r.3 r.5

reads_last : (rest : List ℕ) → (OpensComment (41 ∷ rest) → ⊥) → Reads 0 (41 ∷ rest)
reads_last rest f n c =
    let h = hidden_byte 41 rest f in
    let one : Some 1 ≡ Some n = sym (closing_last (hidden 0 rest)) ∙ sym (ap (closing 0) h) ∙ c in
    let k : 1 ≡ n = cc in
    let p = ap plain_len h ∙ plain_some 41 (hidden 0 rest) (omega arith) in
    (41 ∷ [], [], rest, refl, omega arith, ends rest, byte 41 [] rest (omega arith) f (nothing rest), tt)

reads_byte : (d b : ℕ) (rest : List ℕ) → Paren b → (OpensComment (b ∷ rest) → ⊥) → ((e : ℕ) → Reads e rest) → Reads d (b ∷ rest)
reads_byte d _ rest left f ih = reads_on d (suc d) 40 rest (omega arith) f (closing_left d (hidden 0 rest)) (λ bytes behind _ r. rises d bytes behind r) (ih (suc d))
reads_byte zero _ rest right f ih = reads_last rest f
reads_byte (suc d) _ rest right f ih = reads_on (suc d) d 41 rest (omega arith) f (closing_right d (hidden 0 rest)) (λ bytes behind _ r. falls d bytes behind r) (ih d)
reads_byte d _ rest (none b l r) f ih =
    elim (leb b 126) as (λ (t : Bool). leb b 126 ≡ t → Reads d (b ∷ rest)) [
      | true ↦ λ e. reads_on d d b rest (let x : b ≤ 126 = grind (arith, nat_tests) in x) f (closing_byte d b (hidden 0 rest) l r) (λ bytes behind a g. passes d b bytes behind l r (opens_same b rest (bytes ++ behind) a f) g) (ih d)
      | false ↦ λ e. reads_cut d b rest (let x : 126 < b = grind (arith, nat_tests) in x) f (ih d)
    ] refl

reads_begin : (most d : ℕ) (bs : List ℕ) → Begin bs → length bs ≤ suc most → ((e : ℕ) (cs : List ℕ) → length cs ≤ most → Reads e cs) → Reads d bs
reads_begin most d _ (begins_comment front rest is) le ih =
    let n = length-append front rest in
    let m = comment_has_byte front rest is in
    reads_comment d front rest is (ih d rest (omega arith))
reads_begin most d _ (unseen bs h) le ih = λ n e. absurd (let x : None ≡ Some n = sym (closing_nothings d bs) ∙ sym (ap (closing d) h) ∙ e in cc)
reads_begin most d _ (begins_byte b rest f) le ih = reads_byte d b rest (paren_of b) f (λ e. ih e rest (omega arith))

empty : (xs : List ℕ) → length xs ≤ 0 → xs ≡ []
empty [] h = refl
empty (x ∷ xs) h = absurd (omega arith)

reads_all : (most d : ℕ) (bs : List ℕ) → length bs ≤ most → Reads d bs
reads_all zero d [] le = reads_begin 0 d [] (begin_of []) (omega arith) (λ e cs l n c. absurd (let x : None ≡ Some n = sym (ap (closing e) (ap (hidden 0) (empty cs l) ∙ hidden_nothing) ∙ closing_nothings e []) ∙ c in cc))
reads_all zero d (b ∷ bs) le = absurd (omega arith)
reads_all (suc most) d bs le = reads_begin most d bs (begin_of bs) le (reads_all most)

-- an argument text that is found is one
pub argument_is : (bs : List ℕ) (n : ℕ) → closing 0 (hidden 0 bs) ≡ Some n → (inner : List ℕ) × (rest : List ℕ) × (bs ≡ inner ++ rest) × (length inner ≡ min n (plain_len (hidden 0 bs))) × IsArgumentText inner rest
argument_is bs n e =
    let r = reads_all (length bs) 0 bs (omega arith) n e in
    (r.0, r.1 ++ r.2, r.3, r.4, (r.1, r.2, refl, r.5, r.6, r.7))

plain_cut : (more behind : List ℕ) → IsCutOff more → (more ≡ []) ⊎ (plain_len (hidden 0 (more ++ behind)) ≡ 0)
plain_cut [] behind h = inl refl
plain_cut (b ∷ bs) behind h =
    let e = ap plain_len (hidden_byte b (bs ++ behind) (λ o. let y = ap (λ (xs : List ℕ). get_or xs 0 0) o.2 in omega (arith, y, h))) in
    inr (e ∙ plain_stop b (hidden 0 (bs ++ behind)) h)

-- what is an argument text is found
pub argument_there : (inner rest : List ℕ) → IsArgumentText inner rest → (n : ℕ) × (closing 0 (hidden 0 (inner ++ rest)) ≡ Some n) × (min n (plain_len (hidden 0 (inner ++ rest))) ≡ length inner)
argument_there inner rest h =
    let more = h.0 in
    let behind = h.1 in
    let a : inner ++ rest ≡ (inner ++ more) ++ behind = ap (λ (z : List ℕ). inner ++ z) h.2 ∙ sym (append_assoc inner more behind) in
    let c = ap (λ (z : List ℕ). closing 0 (hidden 0 z)) a ∙ closes_there 0 (inner ++ more) behind h.3 in
    let p = plain_there inner rest h.4 in
    let l = length-append inner more in
    let q : plain_len (hidden 0 rest) ≡ plain_len (hidden 0 (more ++ behind)) = ap (λ (z : List ℕ). plain_len (hidden 0 z)) h.2 in (
      length (inner ++ more),
      c,
      elim (plain_cut more behind h.5) [
        | inl e ↦ (let m : length more ≡ 0 = ap length e in omega arith)
        | inr e ↦ omega arith
      ],
    )
