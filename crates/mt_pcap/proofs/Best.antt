-- The first record of least time, as a loop over the captures finds it.
use Rattle.std.proofs.Common.{◌≡◌, ℕ, ◌+◌, ◌<◌, ◌≤◌, Bool, true, false, List, length, get_or, inl, inr, refl, sym, ap, ◌∙◌, arith}
use Rattle.std.specs.Prelude.{Option, Some, None, MatchOption, nat_le, if◌then◌else◌}
use Rattle.std.proofs.lemmas.Bool.{cases_lt, le-leb, lt-leb}
use Rattle.std.proofs.lemmas.List.{get_or_default}
use Rattle.std.proofs.lemmas.List.Sums.{list_all-from_AllPass}
use Rattle.std.proofs.lemmas.List.Folds.{list_all_at}
use Rattle.std.proofs.lemmas.List.Elements.{All-from_get_or}
use Rattle.std.proofs.lemmas.Option.{slice_get-get_or}
use Rattle.mt_pcap.specs.Capture.{Capture, ended}
use Rattle.mt_pcap.specs.Merge.{first_stamp, is_from, is_least, next_index}
use Rattle.mt_lists.proofs.Positions.{NoneBefore, found, missing}

-- the time of the first record at a index
abbrev pub stamp_at : List Capture → ℕ → Option ℕ
stamp_at left k = first_stamp (get_or left k (ended None))

-- the first record at a index is of least time among those before another index, and the first such
pub record IsBest (left : List Capture) (i index stamp : ℕ) : Type 0 where
  pub within : index < i
  pub here : stamp_at left index ≡ Some stamp
  pub least : (k t : ℕ) → k < i → stamp_at left k ≡ Some t → stamp ≤ t
  pub first : (k t : ℕ) → k < index → stamp_at left k ≡ Some t → stamp < t

-- what is known of the captures before a index
pub record Best (left : List Capture) (i : ℕ) (best : Option (ℕ × ℕ)) : Type 0 where
  pub known : MatchOption best ((k : ℕ) → k < i → stamp_at left k ≡ None) (λ b. IsBest left i b.0 b.1)

pub nothing_yet : (left : List Capture) → Best left 0 None
nothing_yet left = record { known = λ k lt. absurd (omega arith) }

-- a capture with no record left
pub skipped : (left : List Capture) (i : ℕ) (best : Option (ℕ × ℕ)) → stamp_at left i ≡ None → Best left i best → Best left (i + 1) best
skipped left i None none known = record {
  known = λ k lt. elim (cases_lt k i) [
    | inl before ↦ known.known k before
    | inr last ↦ let same : k ≡ i = omega arith in ap (stamp_at left) same ∙ none
  ];
}
skipped left i (Some b) none known =
    let is = known.known in
    record {
      known = record {
        within = let w = is.within in omega arith;
        here = is.here;
        least = λ k t lt some. elim (cases_lt k i) [
          | inl before ↦ is.least k t before some
          | inr last ↦ let same : k ≡ i = omega arith in let at : stamp_at left k ≡ None = ap (stamp_at left) same ∙ none in absurd cc
        ];
        first = is.first;
      };
    }

-- the first that is found
found_first : (left : List Capture) (i stamp : ℕ) → stamp_at left i ≡ Some stamp → ((k : ℕ) → k < i → stamp_at left k ≡ None) → IsBest left (i + 1) i stamp
found_first left i stamp here none = record {
  within = omega arith;
  here = here;
  least = λ k t lt some. elim (cases_lt k i) [
    | inl before ↦ let at = none k before in absurd cc
    | inr last ↦ let same : k ≡ i = omega arith in let at : stamp_at left k ≡ Some stamp = ap (stamp_at left) same ∙ here in let e : stamp ≡ t = cc in omega (arith, e)
  ];
  first = λ k t lt some. let at = none k lt in absurd cc;
}

-- one that is not before the best so far
kept : (left : List Capture) (i index least stamp : ℕ) → stamp_at left i ≡ Some stamp → least ≤ stamp → IsBest left i index least → IsBest left (i + 1) index least
kept left i index least stamp here le is = record {
  within = let w = is.within in omega arith;
  here = is.here;
  least = λ k t lt some. elim (cases_lt k i) [
    | inl before ↦ is.least k t before some
    | inr last ↦ let same : k ≡ i = omega arith in let at : stamp_at left k ≡ Some stamp = ap (stamp_at left) same ∙ here in let e : stamp ≡ t = cc in omega (arith, e)
  ];
  first = is.first;
}

-- one that is before it
taken_over : (left : List Capture) (i index least stamp : ℕ) → stamp_at left i ≡ Some stamp → stamp < least → IsBest left i index least → IsBest left (i + 1) i stamp
taken_over left i index least stamp here earlier is = record {
  within = omega arith;
  here = here;
  least = λ k t lt some. elim (cases_lt k i) [
    | inl before ↦ let le = is.least k t before some in omega arith
    | inr last ↦ let same : k ≡ i = omega arith in let at : stamp_at left k ≡ Some stamp = ap (stamp_at left) same ∙ here in let e : stamp ≡ t = cc in omega (arith, e)
  ];
  first = λ k t lt some. let le = is.least k t lt some in omega arith;
}

pub sooner_best : (left : List Capture) (i stamp : ℕ) (best : Option (ℕ × ℕ)) (after : ℕ × ℕ) → stamp_at left i ≡ Some stamp
    → MatchOption best (after ≡ (i, stamp)) (λ b. after ≡ (if nat_le b.1 stamp then b else (i, stamp)))
    → Best left i best → IsBest left (i + 1) after.0 after.1
sooner_best left i stamp None after here is known = rw is (found_first left i stamp here known.known)
sooner_best left i stamp (Some b) after here is known = elim (cases_lt stamp b.1) [
  | inl earlier ↦ let e : after ≡ (i, stamp) = is ∙ ap (λ (t : Bool). if t then b else (i, stamp)) (lt-leb b.1 stamp earlier) in
      rw e (taken_over left i b.0 b.1 stamp here earlier known.known)
  | inr le ↦ let e : after ≡ b = is ∙ ap (λ (t : Bool). if t then b else (i, stamp)) (le-leb b.1 stamp le) in
      rw e (kept left i b.0 b.1 stamp here le known.known)
]

-- the capture that a loop reads at a index
at_place : (left : List Capture) (i : ℕ) (x : Capture) → i < length left → x ≡ get_or left i x → first_stamp x ≡ stamp_at left i
at_place left i x lt is = ap first_stamp (is ∙ get_or_default left i x (ended None) lt)

pub one_skipped : (left : List Capture) (i : ℕ) (best : Option (ℕ × ℕ)) (x : Capture) → i < length left → x ≡ get_or left i x → None ≡ first_stamp x → Best left i best → Best left (i + 1) best
one_skipped left i best x lt is none known = skipped left i best (sym (none ∙ at_place left i x lt is)) known

pub one_seen : (left : List Capture) (i : ℕ) (best : Option (ℕ × ℕ)) (x : Capture) (stamp : ℕ) (after : ℕ × ℕ) → i < length left → x ≡ get_or left i x → Some stamp ≡ first_stamp x
    → MatchOption best (after ≡ (i, stamp)) (λ b. after ≡ (if nat_le b.1 stamp then b else (i, stamp)))
    → Best left i best → Best left (i + 1) (Some after)
one_seen left i best x stamp after lt is some sooner known =
    record { known = sooner_best left i stamp best after (sym (some ∙ at_place left i x lt is)) sooner known }

-- ---- at the end of the captures

abbrev test : List Capture → Capture → Bool
test left c = is_least left (first_stamp c)

-- a time that no other is before
passes : (left : List Capture) (stamp : ℕ) → ((k t : ℕ) → k < length left → stamp_at left k ≡ Some t → stamp ≤ t) → is_least left (Some stamp) ≡ true
passes left stamp least =
    list_all-from_AllPass (λ c. is_from stamp (first_stamp c)) left
    (All-from_get_or (λ c. is_from stamp (first_stamp c) ≡ true) left (ended None) (λ k lt. at (stamp_at left k) (λ t is. least k t lt is)))
  where
    at : (o : Option ℕ) → ((t : ℕ) → o ≡ Some t → stamp ≤ t) → is_from stamp o ≡ true
    at None le = refl
    at (Some t) le = le-leb stamp t (le t refl)

-- a time that another is before, and no time
fails : (left : List Capture) (o : Option ℕ) (index stamp : ℕ) → index < length left → stamp_at left index ≡ Some stamp → ((t : ℕ) → o ≡ Some t → stamp < t) → is_least left o ≡ false
fails left None index stamp lt here later = refl
fails left (Some t) index stamp lt here later =
    list_all_at (λ c. is_from t (first_stamp c)) left index (ended None) lt (ap (is_from t) here ∙ lt-leb t stamp (later t refl))

-- a loop that has seen all knows the index
pub best_found : (left : List Capture) (i index stamp : ℕ) → i ≡ length left → Best left i (Some (index, stamp)) → Some index ≡ next_index left
unfolding next_index
best_found left i index stamp all known =
    let is = known.known in
    let within = is.within in
    let lt : index < length left = omega arith in
    let none : NoneBefore (test left) left index = λ k d before.
    ap (λ c. is_least left (first_stamp c)) (get_or_default left k d (ended None) (omega arith))
    ∙ fails left (stamp_at left k) index stamp lt is.here (λ t some. is.first k t before some) in
    let here : is_least left (stamp_at left index) ≡ true = ap (is_least left) is.here ∙ passes left stamp (λ k t below some. is.least k t (omega arith) some) in
    sym (found (test left) left index (get_or left index (ended None)) none (slice_get-get_or left index (ended None) lt) here)

pub none_found : (left : List Capture) (i : ℕ) → i ≡ length left → Best left i None → None ≡ next_index left
unfolding next_index
none_found left i all known =
    sym (missing (test left) left i all (λ k d before.
    ap (λ c. is_least left (first_stamp c)) (get_or_default left k d (ended None) (omega arith)) ∙ ap (is_least left) (known.known k before)))
