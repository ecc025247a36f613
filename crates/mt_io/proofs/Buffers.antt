-- Bytes that are held back, and the buffers of several names.
use Rattle.std.proofs.Common.{◌≡◌, ◌≢◌, ◌⊎◌, inl, inr, true, false, get_or, ℕ, zero, suc, ◌+◌, ◌-◌, ◌<◌, ◌≤◌, List, [], ◌∷◌, ◌++◌, length, take, drop, min, Option, Some, None, refl, sym, ap, ◌∙◌, subst, append_assoc, arith}
use Rattle.std.specs.List.{slice_range, slice_get}
use Rattle.std.specs.Prelude.{if◌then◌else◌, nat_eq, Result, Ok, Err, OnOk, OnErr}
use Rattle.std.proofs.lemmas.Bool.Decides.{nat_tests}
use Rattle.mt_io.specs.Laws.{at_each_name, rose_then_never_fell, never_fell_then_rose}
use Rattle.std.specs.Str.{bytes_eq}
use Rattle.std.proofs.Math.ListN.{set}
use Rattle.std.proofs.lemmas.Bool.{cases_Bool, cases_lt}
use Rattle.std.proofs.lemmas.Option.{slice_get_within, slice_get_read, same_Some, get_or_from_slice_get}
use Rattle.std.proofs.lemmas.Slice.Eq.{bytes_eq-Decides}
use Rattle.std.proofs.lemmas.List.{drop-drop, drop-append-le, length-take-le, append-nil, length-append, take-append-drop, take-append-le, take-take}
use Rattle.std.proofs.lemmas.Slice.{between_is, take-put_mid}
use borrow.Rule.Slice.PartMut.{put_mid}
use Rattle.mt_io.specs.Files.{Takes, Gains, Rose, IsSameBut, NeverFell}
use Rattle.mt_io.specs.Buffers.{Pending, pending_of, first_pending, ahead, behind, StandsAt, HasNone, AreApart, HasRisen}

-- ---- one buffer

-- a front was taken
pub passed : (xs : List ℕ) (i j n : ℕ) → slice_range xs (i + n) j ≡ drop n (slice_range xs i j)
passed xs i j n = between_is xs (i + n) j ∙ sym (drop-drop n i (take j xs)) ∙ ap (drop n) (sym (between_is xs i j))

-- a piece was added behind what was there, in a vector of m bytes
pub added : (xs piece rest : List ℕ) (i j m : ℕ) → i ≤ j → j ≤ length xs → j + length piece ≤ m
    → slice_range (take m (put_mid j (j + length piece - j) xs piece ++ rest)) i (j + length piece) ≡ slice_range xs i j ++ piece
added xs piece rest i j m before within room =
    let all = put_mid j (j + length piece - j) xs piece in
    let front : length (take j xs) ≡ j = length-take-le j xs within in
    let there : i ≤ length (take j xs) = omega (arith, front) in
    let long : j + length piece ≤ length all = omega (arith, front, length-append (take j xs) (piece ++ drop (j + length piece - j) (drop j xs)), length-append piece (drop (j + length piece - j) (drop j xs))) in
    between_is _ i (j + length piece)
    ∙ ap (drop i) (take-take (j + length piece) m (all ++ rest) room ∙ take-append-le (j + length piece) all rest long ∙ take-put_mid j (j + length piece - j) xs piece (j + length piece) refl within)
    ∙ drop-append-le i (take j xs) piece there ∙ ap (λ (l : List ℕ). l ++ piece) (sym (between_is xs i j))

-- what was written in part is pending no more
pub written_in_part : (before after : Option (List ℕ)) (pending : List ℕ) (n : ℕ) → Gains before (take n pending) after → behind after (drop n pending) ≡ behind before pending
written_in_part None None pending n gained = refl
written_in_part None (Some w) pending n gained = cc
written_in_part (Some old) None pending n gained = cc
written_in_part (Some old) (Some new) pending n gained =
    let whole : (old ++ take n pending) ++ drop n pending ≡ old ++ pending = append_assoc old (take n pending) (drop n pending) ∙ ap (λ (l : List ℕ). old ++ l) (take-append-drop n pending) in
    let is : new ≡ old ++ take n pending = cc in
    ap (λ (l : List ℕ). Some (l ++ drop n pending)) is ∙ ap (λ (l : List ℕ). Some l) whole

-- ---- the buffers of several names

name_is : (a b : List ℕ) → bytes_eq a b ≡ true → a ≡ b
name_is a b same = (bytes_eq-Decides a b).0 same

same_name : (name : List ℕ) → bytes_eq name name ≡ true
same_name name = (bytes_eq-Decides name name).1 refl

other_name : (a b : List ℕ) → a ≢ b → bytes_eq a b ≡ false
other_name a b apart = elim (cases_Bool (bytes_eq a b)) [
  | inl same ↦ absurd (apart (name_is a b same))
  | inr other ↦ other
]

apart_behind : (b : Pending) (bs : List Pending) → AreApart (b ∷ bs) → AreApart bs
apart_behind b bs apart i j c d is js same = let e = apart (suc i) (suc j) c d is js same in omega (arith, e)

-- what stands at a place is what its name has
pub pending_at : (bs : List Pending) (place : ℕ) (b : Pending) → AreApart bs → slice_get bs place ≡ Some b → pending_of bs b.name ≡ b.bytes
pending_at [] place b apart at = cc
pending_at (first ∷ bs) zero b apart at =
    let here : first ≡ b = cc in
    ap (λ (p : Pending). if bytes_eq p.name b.name then p.bytes else pending_of bs b.name) here ∙ ap (λ t. if t then b.bytes else pending_of bs b.name) (same_name b.name)
pending_at (first ∷ bs) (suc place) b apart at =
    let other : bytes_eq first.name b.name ≡ false = other_name first.name b.name (λ same. let e = apart zero (suc place) first b refl at same in absurd (omega (arith, e))) in
    ap (λ t. if t then first.bytes else pending_of bs b.name) other ∙ pending_at bs place b (apart_behind first bs apart) at

-- a name with no buffer has nothing
pub nothing_of : (bs : List Pending) (name : List ℕ) → HasNone bs name → pending_of bs name ≡ []
nothing_of [] name none = refl
nothing_of (first ∷ bs) name none =
    ap (λ t. if t then first.bytes else pending_of bs name) (other_name first.name name (none zero first refl))
    ∙ nothing_of bs name (λ place b at. none (suc place) b at)

-- other names keep what they have
pub pending_elsewhere : (bs : List Pending) (place : ℕ) (b b' : Pending) (name : List ℕ) → slice_get bs place ≡ Some b → b'.name ≡ b.name → name ≢ b.name → pending_of (set bs place b') name ≡ pending_of bs name
pending_elsewhere [] place b b' name at same other = cc
pending_elsewhere (first ∷ bs) zero b b' name at same other =
    let here : first ≡ b = cc in
    let before : bytes_eq first.name name ≡ false = other_name first.name name (λ e. other (sym e ∙ ap (λ (p : Pending). p.name) here)) in
    let after : bytes_eq b'.name name ≡ false = other_name b'.name name (λ e. other (sym e ∙ same)) in
    ap (λ t. if t then b'.bytes else pending_of bs name) after ∙ sym (ap (λ t. if t then first.bytes else pending_of bs name) before)
pending_elsewhere (first ∷ bs) (suc place) b b' name at same other =
    ap (λ (l : List ℕ). if bytes_eq first.name name then first.bytes else l) (pending_elsewhere bs place b b' name at same other)

get_set_same : (bs : List Pending) (place : ℕ) (b b' : Pending) → slice_get bs place ≡ Some b → slice_get (set bs place b') place ≡ Some b'
get_set_same [] place b b' at = cc
get_set_same (first ∷ bs) zero b b' at = refl
get_set_same (first ∷ bs) (suc place) b b' at = get_set_same bs place b b' at

-- the names stay where they are
names_stay : (bs : List Pending) (place i : ℕ) (b b' c : Pending) → slice_get bs place ≡ Some b → b'.name ≡ b.name → slice_get (set bs place b') i ≡ Some c → (d : Pending) × (slice_get bs i ≡ Some d) × (d.name ≡ c.name)
names_stay [] place i b b' c at same here = cc
names_stay (first ∷ bs) zero zero b b' c at same here = (first, refl, let new : b' ≡ c = cc in let old : first ≡ b = cc in ap (λ (p : Pending). p.name) old ∙ sym same ∙ ap (λ (p : Pending). p.name) new)
names_stay (first ∷ bs) zero (suc i) b b' c at same here = (c, here, refl)
names_stay (first ∷ bs) (suc place) zero b b' c at same here = (c, here, refl)
names_stay (first ∷ bs) (suc place) (suc i) b b' c at same here = names_stay bs place i b b' c at same here

pub apart_set : (bs : List Pending) (place : ℕ) (b b' : Pending) → AreApart bs → slice_get bs place ≡ Some b → b'.name ≡ b.name → AreApart (set bs place b')
apart_set bs place b b' apart at same i j c d is js equal =
    let one = names_stay bs place i b b' c at same is in
    let two = names_stay bs place j b b' d at same js in
    apart i j one.0 two.0 one.1 two.1 (one.2 ∙ equal ∙ sym two.2)

-- an empty buffer more
pub pending_push : (bs : List Pending) (b : Pending) (name : List ℕ) → b.bytes ≡ [] → pending_of (bs ++ b ∷ []) name ≡ pending_of bs name
pending_push [] b name empty = elim (cases_Bool (bytes_eq b.name name)) [
  | inl same ↦ ap (λ t. if t then b.bytes else []) same ∙ empty
  | inr other ↦ ap (λ t. if t then b.bytes else []) other
]
pending_push (first ∷ bs) b name empty = ap (λ (l : List ℕ). if bytes_eq first.name name then first.bytes else l) (pending_push bs b name empty)

get_push : (bs : List Pending) (b c : Pending) (i : ℕ) → slice_get (bs ++ b ∷ []) i ≡ Some c → (slice_get bs i ≡ Some c) ⊎ ((i ≡ length bs) × (b ≡ c))
get_push [] b c zero at = inr (refl, cc)
get_push [] b c (suc i) at = cc
get_push (first ∷ bs) b c zero at = inl at
get_push (first ∷ bs) b c (suc i) at = elim (get_push bs b c i at) [
  | inl there ↦ inl there
  | inr here ↦ inr (ap suc here.0, here.1)
]

pub apart_push : (bs : List Pending) (b : Pending) → AreApart bs → HasNone bs b.name → AreApart (bs ++ b ∷ [])
apart_push bs b apart none i j c d is js same = elim (get_push bs b c i is) [
  | inl one ↦ elim (get_push bs b d j js) [
    | inl two ↦ apart i j c d one two same
    | inr two ↦ absurd (none i c one (same ∙ sym (ap (λ (p : Pending). p.name) two.1)))
  ]
  | inr one ↦ elim (get_push bs b d j js) [
    | inl two ↦ absurd (none j d two (sym same ∙ sym (ap (λ (p : Pending). p.name) one.1)))
    | inr two ↦ one.0 ∙ sym two.0
  ]
]

pub get_last : (bs : List Pending) (b : Pending) → slice_get (bs ++ b ∷ []) (length bs) ≡ Some b
get_last [] b = refl
get_last (first ∷ bs) b = get_last bs b

-- ---- one buffer of them changed

-- The buffer at a place, which has this name, was b and is b'.
pub record Change (was now : List Pending) (name : List ℕ) (b b' : Pending) : Type 0 where
  pub named : b.name ≡ name
  pub before : pending_of was name ≡ b.bytes
  pub after : pending_of now name ≡ b'.bytes
  pub others : IsSameBut name (pending_of was) (pending_of now)
  pub apart : AreApart now

pub change : (was bs : List Pending) (place : ℕ) (name : List ℕ) (b b' : Pending) → bs ≡ was → StandsAt was place name → b ≡ get_or bs place b → AreApart bs → b'.name ≡ b.name
    → Change was (set bs place b') name b b'
change was bs place name b b' whole found at apart same =
    let stands : StandsAt bs place name = subst (λ (l : List Pending). StandsAt l place name) (sym whole) found in
    let here : slice_get bs place ≡ Some b = slice_get_read bs (length bs) place b refl (slice_get_within bs place stands.0 stands.1) at in
    let one : b ≡ stands.0 = same_Some b stands.0 (sym here ∙ stands.1) in
    let named : b.name ≡ name = ap (λ (p : Pending). p.name) one ∙ stands.2 in
    let still_apart : AreApart (set bs place b') = apart_set bs place b b' apart here same in
    record {
      named = named;
      before = ap (λ (l : List Pending). pending_of l name) (sym whole) ∙ ap (pending_of bs) (sym named) ∙ pending_at bs place b apart here;
      after = ap (pending_of (set bs place b')) (sym (same ∙ named)) ∙ pending_at (set bs place b') place b' still_apart (get_set_same bs place b b' here);
      others = λ other apart_from. pending_elsewhere bs place b b' other here same (λ e. apart_from (e ∙ named)) ∙ ap (λ (l : List Pending). pending_of l other) whole;
      apart = still_apart;
    }

pub is_within : (was bs : List Pending) (place : ℕ) (name : List ℕ) → bs ≡ was → StandsAt was place name → place < length bs
is_within was bs place name whole found =
    slice_get_within bs place found.0 (subst (λ (l : List Pending). slice_get l place ≡ Some found.0) (sym whole) found.1)

pub min_of_nothing : (n : ℕ) (bytes : List ℕ) → bytes ≡ [] → 0 ≡ min n (length bytes)
min_of_nothing n bytes none = let empty = ap length none in omega (arith, empty)

-- the buffer at a place has the name that it was tested for
pub stood_at : (bs was : List Pending) (place : ℕ) (b : Pending) (name : List ℕ) → bs ≡ was → b ≡ get_or bs place b → place < length bs → bytes_eq b.name name ≡ true → StandsAt was place name
stood_at bs was place b name whole at within same =
    (b, subst (λ (l : List Pending). slice_get l place ≡ Some b) whole (slice_get_read bs (length bs) place b refl within at), name_is b.name name same)

-- one write more of what is pending
pub flushed_more : (middle after : Option (List ℕ)) (all : Option (List ℕ)) (xs ys : List ℕ) (i j n : ℕ) → ys ≡ xs → Gains middle (take n (slice_range ys i j)) after → behind middle (slice_range xs i j) ≡ all → behind after (slice_range xs (i + n) j) ≡ all
flushed_more middle after all xs ys i j n same gained kept =
    ap (behind after) (passed xs i j n)
    ∙ written_in_part middle after (slice_range xs i j) n (subst (λ (l : List ℕ). Gains middle (take n (slice_range l i j)) after) same gained) ∙ kept

-- a search that passed one place more
pub not_before : (bs : List Pending) (i : ℕ) (b : Pending) (name : List ℕ) → b ≡ get_or bs i b → bytes_eq b.name name ≡ false → ((k : ℕ) → k < i → (c : Pending) → slice_get bs k ≡ Some c → c.name ≢ name)
    → (k : ℕ) → k < i + 1 → (c : Pending) → slice_get bs k ≡ Some c → c.name ≢ name
not_before bs i b name at other before k within c is same = elim (cases_lt k i) [
  | inl less ↦ before k less c is same
  | inr more ↦
      let here : k ≡ i = omega arith in
      let there : c ≡ b = sym (get_or_from_slice_get bs k c b is) ∙ ap (λ n. get_or bs n b) here ∙ sym at in
      let found : bytes_eq b.name name ≡ true = (bytes_eq-Decides b.name name).1 (ap (λ (p : Pending). p.name) (sym there) ∙ same) in
      let contra : true ≡ false = sym found ∙ other in cc
]

pub none_of_all : (bs : List Pending) (n : ℕ) (name : List ℕ) → length bs ≤ n → ((k : ℕ) → k < n → (c : Pending) → slice_get bs k ≡ Some c → c.name ≢ name) → HasNone bs name
none_of_all bs n name past before place b at = before place (let within = slice_get_within bs place b at in omega arith) b at

-- ---- all buffers written, one after the other

pub either : {X E : Type 0} (r : Result X E) (P Q : Type 0) → OnOk r P → OnErr r Q → P ⊎ Q
either (Ok x) P Q ok err = inl ok
either (Err e) P Q ok err = inr err

-- what is written with what is pending is the same of every name
pub all_kept : (was now : List Pending) (name : List ℕ) (b b' : Pending) (middle after all : List ℕ → Option (List ℕ)) → Change was now name b b'
    → behind (after name) b'.bytes ≡ behind (middle name) b.bytes → IsSameBut name middle after
    → ((n : List ℕ) → behind (middle n) (pending_of was n) ≡ all n) → (n : List ℕ) → behind (after n) (pending_of now n) ≡ all n
all_kept was now name b b' middle after all one here others kept n =
    at_each_name (λ m. behind (after m) (pending_of now m) ≡ all m) name n
    (ap (behind (after name)) one.after ∙ here ∙ ap (behind (middle name)) (sym one.before) ∙ kept name)
    (λ apart. ap (λ w. behind w (pending_of now n)) (others n apart) ∙ ap (behind (middle n)) (one.others n apart) ∙ kept n)

get_set_other : (bs : List Pending) (place i : ℕ) (b' : Pending) → i ≢ place → slice_get (set bs place b') i ≡ slice_get bs i
get_set_other [] place i b' apart = refl
get_set_other (first ∷ bs) zero zero b' apart = absurd (apart refl)
get_set_other (first ∷ bs) zero (suc i) b' apart = refl
get_set_other (first ∷ bs) (suc place) zero b' apart = refl
get_set_other (first ∷ bs) (suc place) (suc i) b' apart = get_set_other bs place i b' (λ e. apart (ap suc e))

pub risen_more : (bs : List Pending) (place : ℕ) (b b' : Pending) (before middle after : List ℕ → ℕ) → b ≡ get_or bs place b → place < length bs
    → (b'.bytes ≡ []) ⊎ Rose (middle b.name) (after b.name) → b'.name ≡ b.name → NeverFell before middle → NeverFell middle after
    → ((k : ℕ) → k < place → (c : Pending) → slice_get bs k ≡ Some c → (c.bytes ≡ []) ⊎ Rose (before c.name) (middle c.name))
    → (k : ℕ) → k < place + 1 → (c : Pending) → slice_get (set bs place b') k ≡ Some c → (c.bytes ≡ []) ⊎ Rose (before c.name) (after c.name)
risen_more bs place b b' before middle after at room here same first later earlier k within c is = elim (cases_lt k place) [
  | inl less ↦ elim (earlier k less c (sym (get_set_other bs place k b' (λ (e : k ≡ place). absurd (omega (arith, e)))) ∙ is)) [
    | inl empty ↦ inl empty
    | inr rose ↦ inr (rose_then_never_fell before middle after c.name rose later)
  ]
  | inr more ↦
      let there : k ≡ place = omega arith in
      let stands : slice_get bs place ≡ Some b = slice_get_read bs (length bs) place b refl room at in
      let one : b' ≡ c = same_Some b' c (sym (get_set_same bs place b b' stands) ∙ ap (λ n. slice_get (set bs place b') n) (sym there) ∙ is) in
      let risen : (b'.bytes ≡ []) ⊎ Rose (before b'.name) (after b'.name) = elim here [
        | inl empty ↦ inl empty
        | inr rose ↦ inr (subst (λ (n : List ℕ). Rose (before n) (after n)) (sym same) (never_fell_then_rose before middle after b.name first rose))
      ] in
      subst (λ (p : Pending). (p.bytes ≡ []) ⊎ Rose (before p.name) (after p.name)) one risen
]

-- the first name that has bytes, behind buffers that have none
pub first_here : (bs : List Pending) (i : ℕ) (b : Pending) → b ≡ get_or bs i b → i < length bs → 0 < length b.bytes → ((k : ℕ) → k < i → (c : Pending) → slice_get bs k ≡ Some c → c.bytes ≡ []) → first_pending bs ≡ Some b.name
first_here [] i b at within some none = absurd (omega arith)
first_here (first ∷ bs) zero b at within some none =
    let here : b ≡ first = at in
    let not_empty : nat_eq (length first.bytes) 0 ≡ false = let n = ap (λ (p : Pending). length p.bytes) here in grind (arith, nat_tests) in
    ap (λ t. if t then first_pending bs else Some first.name) not_empty ∙ ap (λ (p : Pending). Some p.name) (sym here)
first_here (first ∷ bs) (suc i) b at within some none =
    let empty : nat_eq (length first.bytes) 0 ≡ true = ap (λ (l : List ℕ). nat_eq (length l) 0) (none zero (omega arith) first refl) in
    ap (λ t. if t then first_pending bs else Some first.name) empty ∙ first_here bs i b at (omega arith) some (λ k less c is. none (suc k) (omega arith) c is)

pub first_none : (bs : List Pending) (i : ℕ) → length bs ≤ i → ((k : ℕ) → k < i → (c : Pending) → slice_get bs k ≡ Some c → c.bytes ≡ []) → first_pending bs ≡ None
first_none [] i past none = refl
first_none (first ∷ bs) i past none =
    let empty : nat_eq (length first.bytes) 0 ≡ true = ap (λ (l : List ℕ). nat_eq (length l) 0) (none zero (omega arith) first refl) in
    ap (λ t. if t then first_pending bs else Some first.name) empty ∙ first_none bs (i - 1) (omega arith) (λ k less c is. none (suc k) (omega arith) c is)

pub none_more : (bs : List Pending) (i : ℕ) (b : Pending) → b ≡ get_or bs i b → i < length bs → b.bytes ≡ [] → ((k : ℕ) → k < i → (c : Pending) → slice_get bs k ≡ Some c → c.bytes ≡ [])
    → (k : ℕ) → k < i + 1 → (c : Pending) → slice_get bs k ≡ Some c → c.bytes ≡ []
none_more bs i b at room empty none k within c is = elim (cases_lt k i) [
  | inl less ↦ none k less c is
  | inr more ↦
      let there : k ≡ i = omega arith in
      let one : b ≡ c = same_Some b c (sym (slice_get_read bs (length bs) i b refl room at) ∙ ap (λ n. slice_get bs n) (sym there) ∙ is) in
      ap (λ (p : Pending). p.bytes) (sym one) ∙ empty
]

pub no_bytes : (bytes : List ℕ) → nat_eq (length bytes) 0 ≡ true → bytes ≡ []
no_bytes [] is = refl
no_bytes (b ∷ bytes) is = absurd (grind (arith, nat_tests))

-- where no name has bytes, none is pending
pub none_pending : (bs : List Pending) (name : List ℕ) → first_pending bs ≡ None → pending_of bs name ≡ []
none_pending [] name none = refl
none_pending (first ∷ bs) name none = elim (cases_Bool (nat_eq (length first.bytes) 0)) [
  | inl empty ↦
      let rest : first_pending bs ≡ None = sym (ap (λ t. if t then first_pending bs else Some first.name) empty) ∙ none in
      let gone : first.bytes ≡ [] = no_bytes first.bytes empty in
      elim (cases_Bool (bytes_eq first.name name)) [
        | inl same ↦ ap (λ t. if t then first.bytes else pending_of bs name) same ∙ gone
        | inr other ↦ ap (λ t. if t then first.bytes else pending_of bs name) other ∙ none_pending bs name rest
      ]
  | inr some ↦ let contra : Some first.name ≡ None = sym (ap (λ t. if t then first_pending bs else Some first.name) some) ∙ none in cc
]

-- the first name that has bytes has one failure more
pub first_has_risen : (bs : List Pending) (before after : List ℕ → ℕ) (name : List ℕ) → HasRisen bs before after → first_pending bs ≡ Some name → Rose (before name) (after name)
first_has_risen [] before after name risen first_is = cc
first_has_risen (first ∷ bs) before after name risen first_is = elim (cases_Bool (nat_eq (length first.bytes) 0)) [
  | inl empty ↦ first_has_risen bs before after name (λ place b is. risen (suc place) b is) (sym (ap (λ t. if t then first_pending bs else Some first.name) empty) ∙ first_is)
  | inr some ↦
      let is : first.name ≡ name = same_Some first.name name (sym (ap (λ t. if t then first_pending bs else Some first.name) some) ∙ first_is) in
      elim (risen zero first refl) [
        | inl gone ↦ let contra : true ≡ false = sym (ap (λ (l : List ℕ). nat_eq (length l) 0) gone) ∙ some in cc
        | inr rose ↦ subst (λ (n : List ℕ). Rose (before n) (after n)) is rose
      ]
]

-- ---- reads

pub took_ahead : (bytes left buf : List ℕ) (inner : Option (List ℕ)) (n : ℕ) → left ≡ drop n bytes → take n buf ≡ take n bytes → Takes (ahead bytes inner) (take n buf) (ahead left inner)
took_ahead bytes left buf None n rest front = refl
took_ahead bytes left buf (Some all) n rest front =
    let whole : bytes ≡ take n buf ++ left = sym (take-append-drop n bytes) ∙ ap (λ (l : List ℕ). l ++ drop n bytes) (sym front) ∙ ap (λ (l : List ℕ). take n buf ++ l) (sym rest) in
    (left ++ all, refl, ap (λ (l : List ℕ). l ++ all) whole ∙ append_assoc (take n buf) left all)

ahead_of_taken : (bytes read : List ℕ) (inner inner' : Option (List ℕ)) → bytes ≡ [] → Takes inner read inner' → ahead bytes inner ≡ ahead read inner'
ahead_of_taken bytes read None None empty taken = refl
ahead_of_taken bytes read None (Some rest) empty taken = cc
ahead_of_taken bytes read (Some all) None empty taken = cc (taken.1)
ahead_of_taken bytes read (Some all) (Some rest) empty taken =
    let one : taken.0 ≡ rest = cc (taken.1) in
    ap (λ (l : List ℕ). Some (l ++ all)) empty ∙ ap (λ (l : List ℕ). Some l) (taken.2 ∙ ap (λ (l : List ℕ). read ++ l) one)

pub read_then_took : (bytes read left buf : List ℕ) (inner inner' : Option (List ℕ)) (n : ℕ) → bytes ≡ [] → Takes inner read inner' → left ≡ drop n read → take n buf ≡ take n read → Takes (ahead bytes inner) (take n buf) (ahead left inner')
read_then_took bytes read left buf inner inner' n empty taken rest front =
    subst (λ (o : Option (List ℕ)). Takes o (take n buf) (ahead left inner')) (sym (ahead_of_taken bytes read inner inner' empty taken)) (took_ahead read left buf inner' n rest front)

pub nothing_there : (bytes : List ℕ) (count room : ℕ) → count ≡ min room (length bytes) → count ≤ 0 → 0 < room → bytes ≡ []
nothing_there [] count room is none some = refl
nothing_there (b ∷ bytes) count room is none some = absurd (omega arith)

pub behind_nothing : (written : Option (List ℕ)) (bytes : List ℕ) → bytes ≡ [] → behind written bytes ≡ written
behind_nothing None bytes none = refl
behind_nothing (Some w) bytes none = ap (λ (l : List ℕ). Some (w ++ l)) none ∙ ap (λ (l : List ℕ). Some l) (append-nil w)
