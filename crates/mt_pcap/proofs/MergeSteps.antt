-- What a step of a merge gives, and why it ends.
use Rattle.std.proofs.Common.{◌≡◌, ℕ, zero, suc, ◌+◌, ◌<◌, Bool, true, false, List, [], ◌∷◌, length, get_or, position, refl, sym, ap, subst, ◌∙◌, arith}
use Rattle.std.specs.Prelude.{Option, Some, None, MatchOption, slice_get, slice_set, nat_le, option_map, option_and_then, is_some, ◌==◌, ◌&&◌, if◌then◌else◌}
use Rattle.std.proofs.lemmas.Option.{option_and_then_some, slice_get-get_or, slice_get_within, get_or_from_slice_get}
use Rattle.std.proofs.lemmas.Bool.{eqb-true}
use Rattle.std.proofs.lemmas.List.{nil_from_length}
use Rattle.std.proofs.lemmas.List.Quantifiers.{position-Some}
use Rattle.mt_pcap.specs.declared.fault.PcapFault.{PcapFault}
use Rattle.mt_pcap.specs.Capture.{Capture, ended}
use Rattle.mt_pcap.specs.Merge.{MergedEnd, Done, Fault, first_of, first_stamp, behind, is_at_fault, fault_met, next_index, Taken, taken, ends, gives, merge_step_of, step}
use Rattle.mt_pcap.proofs.Best.{stamp_at, IsBest, Best, nothing_yet, skipped, sooner_best, best_found, none_found}

mapped : {A B : Type 0} (f : A → B) (o : Option A) (y : B) → option_map f o ≡ Some y → (x : A) × (o ≡ Some x) × (f x ≡ y)
mapped f None y e = absurd cc
mapped f (Some x) y e = (x, refl, cc)

-- ---- the index of least time

abbrev sooner_of : Option (ℕ × ℕ) → ℕ × ℕ → ℕ × ℕ
sooner_of None here = here
sooner_of (Some b) here = if nat_le b.1 here.1 then b else here

sooner_is : (best : Option (ℕ × ℕ)) (i stamp : ℕ) → MatchOption best (sooner_of best (i, stamp) ≡ (i, stamp)) (λ b. sooner_of best (i, stamp) ≡ (if nat_le b.1 stamp then b else (i, stamp)))
sooner_is None i stamp = refl
sooner_is (Some b) i stamp = refl

best_next : (left : List Capture) (i : ℕ) (o : Option ℕ) → stamp_at left i ≡ o → (b : Option (ℕ × ℕ)) × Best left i b → (b : Option (ℕ × ℕ)) × Best left (i + 1) b
best_next left i None none before = (before.0, skipped left i before.0 none before.1)
best_next left i (Some stamp) here before =
    (Some (sooner_of before.0 (i, stamp)), record { known = sooner_best left i stamp before.0 (sooner_of before.0 (i, stamp)) here (sooner_is before.0 i stamp) before.1 })

pub best_to : (left : List Capture) (i : ℕ) → (b : Option (ℕ × ℕ)) × Best left i b
best_to left zero = (None, nothing_yet left)
best_to left (suc i) =
    let next = best_next left i (stamp_at left i) refl (best_to left i) in
    let e : i + 1 ≡ suc i = omega arith in
    (next.0, subst (λ n. Best left n next.0) e next.1)

chosen_by : (left : List Capture) (index : ℕ) (b : Option (ℕ × ℕ)) → next_index left ≡ Some index → Best left (length left) b → (stamp : ℕ) × IsBest left (length left) index stamp
chosen_by left index None chosen known = let none = none_found left (length left) refl known in absurd cc
chosen_by left index (Some b) chosen known =
    let found = best_found left (length left) b.0 b.1 refl known in
    let same : b.0 ≡ index = cc in
    (b.1, subst (λ p. IsBest left (length left) p b.1) same known.known)

-- the index that comes next is that of a first record of least time
pub chosen_best : (left : List Capture) (index : ℕ) → next_index left ≡ Some index → (stamp : ℕ) × IsBest left (length left) index stamp
chosen_best left index chosen = let b = best_to left (length left) in chosen_by left index b.0 chosen b.1

-- ---- a record is given

pub record Gives (left : List Capture) (next : Taken) : Type 0 where
  pub index : ℕ
  pub capture : Capture
  pub unmet : fault_met left ≡ None
  pub chosen : next_index left ≡ Some index
  pub there : slice_get left index ≡ Some capture
  pub first : first_of capture ≡ Some next.given
  pub device_is : next.device ≡ index + 1
  pub left_is : next.left ≡ slice_set left index (behind capture)

step_gives : (met : Option (ℕ × PcapFault)) (some : Option Taken) (next : Taken) → merge_step_of met some ≡ gives next → (met ≡ None) × (some ≡ Some next)
step_gives (Some fault) some next e = absurd cc
step_gives None None next e = absurd cc
step_gives None (Some other) next e = (refl, cc)

abbrev pub taken_from : List Capture → ℕ → Capture → ℕ × List ℕ → Taken
taken_from left index c r = record { device = index + 1; given = r; left = slice_set left index (behind c) }

pub gives_next : (left : List Capture) (next : Taken) → step left ≡ gives next → Gives left next
unfolding step taken
gives_next left next is =
    let s = step_gives (fault_met left) (taken left) next is in
    option_and_then_some (λ index. option_and_then (λ c. option_map (taken_from left index c) (first_of c)) (slice_get left index)) (next_index left) next s.1 (λ index chosen e.
    option_and_then_some (λ c. option_map (taken_from left index c) (first_of c)) (slice_get left index) next e (λ c there f.
    let m = mapped (taken_from left index c) (first_of c) next f in
    record {
      index = index;
      capture = c;
      unmet = s.0;
      chosen = chosen;
      there = there;
      first = m.1 ∙ ap (λ (t : Taken). Some t.given) m.2;
      device_is = sym (ap (λ (t : Taken). t.device) m.2);
      left_is = sym (ap (λ (t : Taken). t.left) m.2);
    }))

-- ---- it ends

-- a fault is met at a index
pub record FaultAt (left : List Capture) (fault : ℕ × PcapFault) : Type 0 where
  pub index : ℕ
  pub capture : Capture
  pub there : slice_get left index ≡ Some capture
  pub empty : capture.records ≡ []
  pub end_is : capture.end ≡ Some fault.1
  pub device_is : fault.0 ≡ index + 1
  pub before : (k : ℕ) (c : Capture) → k < index → slice_get left k ≡ Some c → is_at_fault c ≡ false

left_true : (a b : Bool) → (a && b) ≡ true → a ≡ true
left_true true b is = refl
left_true false b is = is

none_left : (c : Capture) → is_at_fault c ≡ true → c.records ≡ []
none_left c is = by_records c.records (is_some c.end) is
  where
    by_records : (records : List (ℕ × List ℕ)) (other : Bool) → ((length records == 0) && other) ≡ true → records ≡ []
    by_records records other is = nil_from_length records (eqb-true (length records) 0 (left_true (length records == 0) other is))

pub fault_at : (left : List Capture) (fault : ℕ × PcapFault) → fault_met left ≡ Some fault → FaultAt left fault
unfolding fault_met
fault_at left fault met =
    option_and_then_some (λ index. option_and_then (λ c. option_map (λ (f : PcapFault). (index + 1, f)) c.end) (slice_get left index)) (position is_at_fault left) fault met (λ index found e.
    option_and_then_some (λ c. option_map (λ (f : PcapFault). (index + 1, f)) c.end) (slice_get left index) fault e (λ c there g.
    let m = mapped (λ (f : PcapFault). (index + 1, f)) c.end fault g in
    let p = position-Some is_at_fault left index c found in
    record {
      index = index;
      capture = c;
      there = there;
      empty = none_left c (sym (ap is_at_fault (get_or_from_slice_get left index c c there)) ∙ p.1);
      end_is = m.1 ∙ ap (λ (x : ℕ × PcapFault). Some x.1) m.2;
      device_is = sym (ap (λ (x : ℕ × PcapFault). x.0) m.2);
      before = λ k d lt here. sym (ap is_at_fault (get_or_from_slice_get left k d c here)) ∙ p.2 k lt;
    }))

-- no record is left
empty_of : (c : Capture) → first_stamp c ≡ None → c.records ≡ []
empty_of c none = by_records c.records none
  where
    by_records : (records : List (ℕ × List ℕ)) → option_map (λ (r : ℕ × List ℕ). r.0) (slice_get records 0) ≡ None → records ≡ []
    by_records [] none = refl
    by_records (r ∷ records) none = absurd cc

pub taken_some : (left : List Capture) (index : ℕ) (c : Capture) (r : ℕ × List ℕ) → next_index left ≡ Some index → slice_get left index ≡ Some c → first_of c ≡ Some r → taken left ≡ Some (taken_from left index c r)
unfolding taken
taken_some left index c r chosen there first =
    ap (option_and_then (λ p. option_and_then (λ d. option_map (taken_from left p d) (first_of d)) (slice_get left p))) chosen
    ∙ ap (option_and_then (λ d. option_map (taken_from left index d) (first_of d))) there
    ∙ ap (option_map (taken_from left index c)) first

empty_by : (left : List Capture) (b : Option (ℕ × ℕ)) → taken left ≡ None → Best left (length left) b → (k : ℕ) (c : Capture) → slice_get left k ≡ Some c → c.records ≡ []
empty_by left None none known k c there =
    let lt : k < length left = slice_get_within left k c there in
    empty_of c (ap first_stamp (sym (get_or_from_slice_get left k c (ended None) there)) ∙ known.known k lt)
empty_by left (Some b) none known k c there =
    let is = known.known in
    let found = best_found left (length left) b.0 b.1 refl known in
    let m = mapped (λ (r : ℕ × List ℕ). r.0) (first_of (get_or left b.0 (ended None))) b.1 is.here in
    let some = taken_some left b.0 (get_or left b.0 (ended None)) m.0 (sym found) (slice_get-get_or left b.0 (ended None) is.within) m.1 in
    absurd cc

pub all_empty : (left : List Capture) → taken left ≡ None → (k : ℕ) (c : Capture) → slice_get left k ≡ Some c → c.records ≡ []
all_empty left none = let b = best_to left (length left) in empty_by left b.0 none b.1

-- why a merge ends
pub data EndsBy (left : List Capture) (end : MergedEnd) : Type 0 where
  by_fault : (fault : ℕ × PcapFault) → FaultAt left fault → end ≡ Fault fault.0 fault.1 → EndsBy left end
  by_want : ((k : ℕ) (c : Capture) → slice_get left k ≡ Some c → c.records ≡ []) → end ≡ Done → EndsBy left end

ends_how : (left : List Capture) (met : Option (ℕ × PcapFault)) (some : Option Taken) (end : MergedEnd) → fault_met left ≡ met → taken left ≡ some → merge_step_of met some ≡ ends end → EndsBy left end
ends_how left (Some fault) some end met is e = by_fault fault (fault_at left fault met) cc
ends_how left None None end met is e = by_want (all_empty left is) cc
ends_how left None (Some next) end met is e = absurd cc

pub ends_by : (left : List Capture) (end : MergedEnd) → step left ≡ ends end → EndsBy left end
unfolding step
ends_by left end is = ends_how left (fault_met left) (taken left) end refl refl is
