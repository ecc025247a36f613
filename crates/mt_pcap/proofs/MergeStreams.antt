-- Merging as captures are read: what is left of each of several captures, and the step of their merge.
use Rattle.std.proofs.Common.{◌≡◌, ◌≢◌, ◌⊎◌, inl, inr, ℕ, zero, suc, ◌+◌, ◌^◌, ◌<◌, ◌≤◌, false, List, [], ◌∷◌, length, map, get_or, position, Option, Some, None, refl, sym, ap, subst, ◌∙◌, arith}
use Rattle.std.specs.Prelude.{slice_get, slice_set, option_map, option_and_then, is_some, IsSome, MatchOption, nat_le, if◌then◌else◌, ◌&&◌}
use Rattle.std.proofs.Math.ListN.{set}
use Rattle.std.proofs.lemmas.Bool.{cases_lt, cases_eq, ne_eqb}
use Rattle.std.proofs.lemmas.List.{length-map, length-set, get_or_past}
use Rattle.std.proofs.lemmas.Option.{option_and_then_some, slice_get-get_or, slice_get_within, slice_get_read, get_or_from_slice_get, slice_get-map, same_Some, none-some}
use Rattle.mt_io.specs.Files.{IsSameBut, Rose, NeverFell}
use Rattle.mt_io.specs.Copy.{TakesAtMost}
use Rattle.mt_io.specs.Laws.{never_fell_then_rose}
use Rattle.mt_lists.specs.Options.{each}
use Rattle.mt_lists.proofs.Positions.{NoneBefore, found, missing}
use Rattle.mt_pcap.specs.declared.fault.PcapFault.{PcapFault}
use Rattle.mt_pcap.specs.declared.fault.PcapFault.TheVariants.{ReadFault}
use Rattle.mt_pcap.specs.Capture.{Capture, ended}
use Rattle.mt_pcap.specs.Stream.{Standing, over, ReaderState, left_at, in_front, IsLeft}
use Rattle.mt_pcap.specs.Merge.{Done, Fault, first_of, first_stamp, behind, is_at_fault, fault_met, next_index, Taken, taken, ends, step, stamped}
use Rattle.mt_pcap.specs.Sources.{Source, begun, names_of, AreApart, IsSameBeside, behind_head, left_in, all_left, EndsSo, GivesSo, HasFailed}
use Rattle.mt_pcap.specs.Filling.{IsReady, AreReady, count_of, IsBalanced, AreBalanced, stands_ready, stamp_of, alone_of, heads_of, HasTaken, IsOfMerge}
use Rattle.mt_pcap.proofs.Merges.{step-fault, step-done, step-next}
use Rattle.mt_pcap.proofs.Best.{stamp_at, Best, nothing_yet, one_seen, one_skipped, best_found, none_found}
use Rattle.mt_pcap.proofs.MergeSteps.{best_to}

-- ---- elements of lists

pub get-set_same : {X : Type 0} (xs : List X) (k : ℕ) (x y : X) → slice_get xs k ≡ Some x → slice_get (set xs k y) k ≡ Some y
get-set_same [] k x y there = absurd (none-some x there)
get-set_same (z ∷ xs) zero x y there = refl
get-set_same (z ∷ xs) (suc k) x y there = get-set_same xs k x y there

pub get-set_other : {X : Type 0} (xs : List X) (k j : ℕ) (y : X) → j ≢ k → slice_get (set xs k y) j ≡ slice_get xs j
get-set_other [] k j y other = refl
get-set_other (z ∷ xs) zero zero y other = absurd (other refl)
get-set_other (z ∷ xs) zero (suc j) y other = refl
get-set_other (z ∷ xs) (suc k) zero y other = refl
get-set_other (z ∷ xs) (suc k) (suc j) y other = get-set_other xs k j y (λ e. other (ap suc e))

-- an element of a list of which one element was replaced
pub set_cases : {X : Type 0} (xs : List X) (k j : ℕ) (x y z : X) → slice_get xs k ≡ Some x → slice_get (set xs k y) j ≡ Some z → ((j ≡ k) × (z ≡ y)) ⊎ ((j ≢ k) × (slice_get xs j ≡ Some z))
set_cases xs k j x y z here there =
    elim (cases_eq j k) [
      | inl same ↦ inl (same, sym (same_Some y z (sym (get-set_same xs k x y here) ∙ ap (λ n. slice_get (set xs k y) n) (sym same) ∙ there)))
      | inr other ↦ inr (other, sym (get-set_other xs k j y other) ∙ there)
    ]

-- ---- each of a list

pub each_alike : {A B : Type 0} (f g : A → Option B) (xs ys : List A) → length xs ≡ length ys → ((k : ℕ) (x y : A) → slice_get xs k ≡ Some x → slice_get ys k ≡ Some y → f x ≡ g y) → each f xs ≡ each g ys
unfolding each
each_alike f g [] [] long same = refl
each_alike f g [] (y ∷ ys) long same = absurd (omega arith)
each_alike f g (x ∷ xs) [] long same = absurd (omega arith)
each_alike f g (x ∷ xs) (y ∷ ys) long same =
    ap (λ o. option_and_then (λ z. option_map (λ more. z ∷ more) (each f xs)) o) (same 0 x y refl refl)
    ∙ ap (λ o. option_and_then (λ z. option_map (λ more. z ∷ more) o) (g y)) (each_alike f g xs ys (omega arith) (λ k a b. same (suc k) a b))

pub each_of : {A B : Type 0} (f : A → Option B) (xs : List A) (ys : List B) → length xs ≡ length ys → ((k : ℕ) (x : A) (y : B) → slice_get xs k ≡ Some x → slice_get ys k ≡ Some y → f x ≡ Some y) → each f xs ≡ Some ys
unfolding each
each_of f [] [] long is = refl
each_of f [] (y ∷ ys) long is = absurd (omega arith)
each_of f (x ∷ xs) [] long is = absurd (omega arith)
each_of f (x ∷ xs) (y ∷ ys) long is =
    ap (λ o. option_and_then (λ z. option_map (λ more. z ∷ more) (each f xs)) o) (is 0 x y refl refl)
    ∙ ap (λ o. option_map (λ more. y ∷ more) o) (each_of f xs ys (omega arith) (λ k a b. is (suc k) a b))

-- what was read of each
pub record EachIs {A B : Type 0} (f : A → Option B) (xs : List A) (ys : List B) : Type 0 where
  pub long : length xs ≡ length ys
  pub at : (k : ℕ) (x : A) → slice_get xs k ≡ Some x → (y : B) × (slice_get ys k ≡ Some y) × (f x ≡ Some y)

mapped : {A B : Type 0} (f : A → B) (o : Option A) (y : B) → option_map f o ≡ Some y → (x : A) × (o ≡ Some x) × (f x ≡ y)
mapped f None y e = absurd cc
mapped f (Some x) y e = (x, refl, cc)

no_some : {A : Type 0} (x : A) → None ≡ Some x → ⊥
no_some x e = cc

each_first : {A B : Type 0} (f : A → Option B) (x : A) (xs : List A) (y : B) (ys : List B) → f x ≡ Some y → EachIs f xs ys → EachIs f (x ∷ xs) (y ∷ ys)
each_first f x xs y ys first rest = record { long = omega (arith, rest.long); at = at f x xs y ys first rest }
  where
    at : {A B : Type 0} (f : A → Option B) (x : A) (xs : List A) (y : B) (ys : List B) → f x ≡ Some y → EachIs f xs ys → (k : ℕ) (z : A) → slice_get (x ∷ xs) k ≡ Some z → (w : B) × (slice_get (y ∷ ys) k ≡ Some w) × (f z ≡ Some w)
    at f x xs y ys first rest zero z there = (y, refl, ap f (sym (same_Some x z there)) ∙ first)
    at f x xs y ys first rest (suc k) z there = rest.at k z there

pub each_is : {A B : Type 0} (f : A → Option B) (xs : List A) (ys : List B) → each f xs ≡ Some ys → EachIs f xs ys
unfolding each
each_is f [] [] is = record { long = refl; at = λ k x there. absurd (no_some x there) }
each_is f [] (y ∷ ys) is = absurd cc
each_is f (x ∷ xs) ys is =
    option_and_then_some (λ y. option_map (λ more. y ∷ more) (each f xs)) (f x) ys is (λ y first e.
    let m = mapped (λ more. y ∷ more) (each f xs) ys e in
    subst (EachIs f (x ∷ xs)) m.2 (each_first f x xs y m.0 first (each_is f xs m.0 m.1)))

-- ---- one capture

-- an end that is known of what was held is known of what is held later
pub over_left : (standing : Standing) (end : Option PcapFault) (most : ℕ) (before after : Option (List ℕ)) → TakesAtMost most before after → IsLeft (option_map (left_at standing) before) (ended end)
    → option_map (left_at (over end)) after ≡ option_map (left_at standing) before
over_left standing end most None after took is = ap (option_map (left_at (over end))) took.2
over_left standing end most (Some all) after took is = ap (option_map (left_at (over end))) took.2.1 ∙ ap (λ (c : Capture). Some c) (sym is)

-- a capture that is ready is at no fault, and has the time of the record that was read
ready_left : (held : List ℕ → Option (List ℕ)) (s : Source) (c : Capture) → IsReady s → left_in held s ≡ Some c → (is_at_fault c ≡ false) × (first_stamp c ≡ first_stamp (alone_of s.head)) × ((s.head ≡ None) → c ≡ ended None)
ready_left held s c ready is = by_head s.head s.reader.standing (held s.reader.name) c ready is
  where
    by_head : (head : Option (ℕ × List ℕ)) (standing : Standing) (bytes : Option (List ℕ)) (c : Capture) → stands_ready head standing → behind_head head (option_map (left_at standing) bytes) ≡ Some c
        → (is_at_fault c ≡ false) × (first_stamp c ≡ first_stamp (alone_of head)) × ((head ≡ None) → c ≡ ended None)
    by_head None standing bytes c ready is =
        let at : option_map (left_at (over None)) bytes ≡ Some c = ap (λ (t : Standing). option_map (left_at t) bytes) (sym ready) ∙ is in
        let m = mapped (left_at (over None)) bytes c at in
        (ap is_at_fault (sym m.2), ap first_stamp (sym m.2), λ _. sym m.2)
    by_head (Some r) standing bytes c ready is =
        let m = mapped (in_front r) (option_map (left_at standing) bytes) c is in
        (ap is_at_fault (sym m.2) ∙ not_empty r m.0, ap first_stamp (sym m.2), λ none. absurd (no_some r (sym none)))
      where
        not_empty : (r : ℕ × List ℕ) (c : Capture) → is_at_fault (in_front r c) ≡ false
        not_empty r c = ap (λ b. b && is_some c.end) (ne_eqb (suc (length c.records)) 0 (λ e. omega arith))

-- ---- all of them

pub names_same : (xs : List Source) (j k : ℕ) (x s : Source) → AreApart (names_of xs) → slice_get xs j ≡ Some x → slice_get xs k ≡ Some s → j ≢ k → x.reader.name ≢ s.reader.name
names_same xs j k x s apart at_j at_k other same =
    other (apart j k s.reader.name
    (slice_get-map (λ (t : Source). t.reader.name) xs j ∙ ap (option_map (λ (t : Source). t.reader.name)) at_j ∙ ap (λ n. Some n) same)
    (slice_get-map (λ (t : Source). t.reader.name) xs k ∙ ap (option_map (λ (t : Source). t.reader.name)) at_k))

-- a capture went on, and left what it left before
pub all_left_set : (old new : List ℕ → Option (List ℕ)) (xs : List Source) (k : ℕ) (s t : Source) → AreApart (names_of xs) → slice_get xs k ≡ Some s → IsSameBut s.reader.name old new → left_in new t ≡ left_in old s
    → all_left new (set xs k t) ≡ all_left old xs
all_left_set old new xs k s t apart there others kept =
    each_alike (left_in new) (left_in old) (set xs k t) xs (length-set xs k t) (λ j x y at_new at_old.
    elim (set_cases xs k j s t x there at_new) [
      | inl same ↦
          let is : y ≡ s = same_Some y s (sym at_old ∙ ap (slice_get xs) same.0 ∙ there) in
          ap (left_in new) same.1 ∙ kept ∙ ap (left_in old) (sym is)
      | inr other ↦
          let is : x ≡ y = same_Some x y (sym other.1 ∙ at_old) in
          let held : new y.reader.name ≡ old y.reader.name = others y.reader.name (names_same xs j k y s apart at_old there other.0) in
          ap (left_in new) is ∙ ap (λ o. behind_head y.head (option_map (left_at y.reader.standing) o)) held
    ])

pub names_set : (xs : List Source) (k : ℕ) (s t : Source) → slice_get xs k ≡ Some s → t.reader.name ≡ s.reader.name → names_of (set xs k t) ≡ names_of xs
names_set [] k s t there same = refl
names_set (x ∷ xs) zero s t there same = ap (λ n. n ∷ names_of xs) (same ∙ ap (λ (u : Source). u.reader.name) (sym (same_Some x s there)))
names_set (x ∷ xs) (suc k) s t there same = ap (λ l. x.reader.name ∷ l) (names_set xs k s t there same)

pub balanced_set : (old xs : List Source) (k : ℕ) (s t : Source) → slice_get old k ≡ Some s → slice_get xs k ≡ Some s → IsBalanced s t → AreBalanced old xs → AreBalanced old (set xs k t)
balanced_set old xs k s t first there step all j a b at_old at_new =
    elim (set_cases xs k j s t b there at_new) [
      | inl same ↦
          let is : a ≡ s = same_Some a s (sym at_old ∙ ap (slice_get old) same.0 ∙ first) in
          rw (is, same.1) step
      | inr other ↦ all j a b at_old other.1
    ]

pub ready_set : (xs : List Source) (k : ℕ) (s t : Source) → slice_get xs k ≡ Some s → IsReady t → ((j : ℕ) (u : Source) → j < k → slice_get xs j ≡ Some u → IsReady u) → (j : ℕ) (u : Source) → j < k + 1 → slice_get (set xs k t) j ≡ Some u → IsReady u
ready_set xs k s t there ready before j u lt at =
    elim (set_cases xs k j s t u there at) [
      | inl same ↦ rw same.1 ready
      | inr other ↦ let ne = other.0 in before j u (omega arith) other.1
    ]

-- ---- the step

no_source : Source
no_source = record { reader = record { name = []; given = 0; standing = over None }; head = None }

-- none of the first captures is at a fault
pub none_at_fault : (held : List ℕ → Option (List ℕ)) (xs : List Source) (left : List Capture) (k : ℕ) → EachIs (left_in held) xs left → k ≤ length left
    → ((j : ℕ) (s : Source) → j < k → slice_get xs j ≡ Some s → IsReady s) → NoneBefore is_at_fault left k
none_at_fault held xs left k each le ready j d lt =
    let long = each.long in
    let s : Source = get_or xs j no_source in
    let there : slice_get xs j ≡ Some s = slice_get-get_or xs j no_source (omega arith) in
    let at = each.at j s there in
    ap is_at_fault (get_or_from_slice_get left j at.0 d at.1) ∙ (ready_left held s at.0 (ready j s lt there) at.2).0

pub met_at : (left : List Capture) (k : ℕ) (fault : PcapFault) → position is_at_fault left ≡ Some k → slice_get left k ≡ Some (ended (Some fault)) → fault_met left ≡ Some (k + 1, fault)
unfolding fault_met
met_at left k fault first there =
    ap (option_and_then (λ index. option_and_then (λ (c : Capture). option_map (λ (f : PcapFault). (index + 1, f)) c.end) (slice_get left index))) first
    ∙ ap (option_and_then (λ (c : Capture). option_map (λ (f : PcapFault). (k + 1, f)) c.end)) there

pub met_none : (left : List Capture) → position is_at_fault left ≡ None → fault_met left ≡ None
unfolding fault_met
met_none left none = ap (option_and_then (λ index. option_and_then (λ (c : Capture). option_map (λ (f : PcapFault). (index + 1, f)) c.end) (slice_get left index))) none

-- a capture ends with a fault, and those before it are ready
pub fault_here : (held : List ℕ → Option (List ℕ)) (xs : List Source) (k device : ℕ) (s : Source) (fault : PcapFault) → slice_get xs k ≡ Some s → device ≡ k + 1
    → ((j : ℕ) (u : Source) → j < k → slice_get xs j ≡ Some u → IsReady u) → IsLeft (left_in held s) (ended (Some fault)) → EndsSo (all_left held xs) (Fault device fault)
fault_here held xs k device s fault there device_is before is = by_left (all_left held xs) refl
  where
    left_is : (o : Option Capture) (c d : Capture) → IsLeft o d → o ≡ Some c → c ≡ d
    left_is None c d is at = absurd (none-some c at)
    left_is (Some b) c d is at = same_Some c b (sym at) ∙ is

    by_left : (o : Option (List Capture)) → all_left held xs ≡ o → EndsSo o (Fault device fault)
    by_left None told = tt
    by_left (Some left) told =
        let each = each_is (left_in held) xs left told in
        let at = each.at k s there in
        let ends_as : at.0 ≡ ended (Some fault) = left_is (left_in held s) at.0 (ended (Some fault)) is at.2 in
        let here : slice_get left k ≡ Some (ended (Some fault)) = at.1 ∙ ap (λ (c : Capture). Some c) ends_as in
        let lt : k < length left = slice_get_within left k (ended (Some fault)) here in
        let first = found is_at_fault left k (ended (Some fault)) (none_at_fault held xs left k each (omega arith) before) here refl in
        step-fault left (k + 1, fault) (met_at left k fault first here) ∙ ap (λ d. ends (Fault d fault)) (sym device_is)

-- all are ready
record Ready (held : List ℕ → Option (List ℕ)) (xs : List Source) (left : List Capture) : Type 0 where
  each : EachIs (left_in held) xs left
  unmet : fault_met left ≡ None
  same : (k : ℕ) → stamp_at left k ≡ stamp_at (heads_of xs) k

all_ready : (held : List ℕ → Option (List ℕ)) (xs : List Source) (left : List Capture) → AreReady xs → all_left held xs ≡ Some left → Ready held xs left
all_ready held xs left ready told =
    let each = each_is (left_in held) xs left told in
    let none = missing is_at_fault left (length left) refl (none_at_fault held xs left (length left) each (omega arith) (λ j s _ at. ready j s at)) in
    record { each = each; unmet = met_none left none; same = same each }
  where
    same : EachIs (left_in held) xs left → (k : ℕ) → stamp_at left k ≡ stamp_at (heads_of xs) k
    same each k =
        let long = each.long in
        let mapped_long = length-map xs (λ (s : Source). alone_of s.head) in
        elim (cases_lt k (length xs)) [
          | inl lt ↦
              let s : Source = get_or xs k no_source in
              let there : slice_get xs k ≡ Some s = slice_get-get_or xs k no_source lt in
              let at = each.at k s there in
              let head : slice_get (heads_of xs) k ≡ Some (alone_of s.head) = slice_get-map (λ (t : Source). alone_of t.head) xs k ∙ ap (option_map (λ (t : Source). alone_of t.head)) there in
              ap first_stamp (get_or_from_slice_get left k at.0 (ended None) at.1)
              ∙ (ready_left held s at.0 (ready k s there) at.2).1
              ∙ ap first_stamp (sym (get_or_from_slice_get (heads_of xs) k (alone_of s.head) (ended None) head))
          | inr past ↦
              ap first_stamp (get_or_past left k (ended None) (omega arith))
              ∙ ap first_stamp (sym (get_or_past (heads_of xs) k (ended None) (omega arith)))
        ]

-- captures whose first records are of the same times
best_same : (one two : List Capture) (i : ℕ) (best : Option (ℕ × ℕ)) → ((k : ℕ) → stamp_at two k ≡ stamp_at one k) → Best one i best → Best two i best
best_same one two i None same known = record { known = λ k lt. same k ∙ known.known k lt }
best_same one two i (Some b) same known =
    let is = known.known in
    record {
      known = record {
        within = is.within;
        here = same b.0 ∙ is.here;
        least = λ k t lt at. is.least k t lt (sym (same k) ∙ at);
        first = λ k t lt at. is.first k t lt (sym (same k) ∙ at);
      };
    }

pub next_same : (one two : List Capture) → length one ≡ length two → ((k : ℕ) → stamp_at two k ≡ stamp_at one k) → next_index two ≡ next_index one
next_same one two long same = by_best (best_to one (length one)).0 (best_to one (length one)).1
  where
    by_best : (best : Option (ℕ × ℕ)) → Best one (length one) best → next_index two ≡ next_index one
    by_best None known = sym (none_found two (length one) long (best_same one two (length one) None same known)) ∙ none_found one (length one) refl known
    by_best (Some b) known = sym (best_found two (length one) b.0 b.1 long (best_same one two (length one) (Some b) same known)) ∙ best_found one (length one) b.0 b.1 refl known

taken_none : (left : List Capture) → next_index left ≡ None → taken left ≡ None
unfolding taken
taken_none left none = ap (option_and_then (λ index. option_and_then (λ c. option_map (λ r. record { device = index + 1; given = r; left = slice_set left index (behind c) }) (first_of c)) (slice_get left index))) none

taken_at : (left : List Capture) (k : ℕ) (r : ℕ × List ℕ) (rest : Capture) → next_index left ≡ Some k → slice_get left k ≡ Some (in_front r rest)
    → taken left ≡ Some (record { device = k + 1; given = r; left = slice_set left k rest })
unfolding taken
taken_at left k r rest chosen there =
    ap (option_and_then (λ index. option_and_then (λ c. option_map (λ r. record { device = index + 1; given = r; left = slice_set left index (behind c) }) (first_of c)) (slice_get left index))) chosen
    ∙ ap (option_and_then (λ c. option_map (λ r. record { device = k + 1; given = r; left = slice_set left k (behind c) }) (first_of c))) there

-- the loop that looks for the record that comes next
head_at : (xs : List Source) (i : ℕ) (s : Source) → i < length xs → s ≡ get_or xs i s → alone_of s.head ≡ get_or (heads_of xs) i (alone_of s.head)
head_at xs i s lt is =
    let there : slice_get xs i ≡ Some s = slice_get_read xs (length xs) i s refl lt is in
    sym (get_or_from_slice_get (heads_of xs) i (alone_of s.head) (alone_of s.head) (slice_get-map (λ (t : Source). alone_of t.head) xs i ∙ ap (option_map (λ (t : Source). alone_of t.head)) there))

stamp_is : (s : Source) → stamp_of s ≡ first_stamp (alone_of s.head)
stamp_is s = by_head s.head
  where
    by_head : (head : Option (ℕ × List ℕ)) → option_map (λ (r : ℕ × List ℕ). r.0) head ≡ first_stamp (alone_of head)
    by_head None = refl
    by_head (Some r) = refl

pub no_head_yet : (xs : List Source) → Best (heads_of xs) 0 None
no_head_yet xs = nothing_yet (heads_of xs)

pub head_seen : (xs : List Source) (i : ℕ) (best : Option (ℕ × ℕ)) (s : Source) (stamp : ℕ) (after : ℕ × ℕ) → i < length xs → s ≡ get_or xs i s → Some stamp ≡ stamp_of s
    → MatchOption best (after ≡ (i, stamp)) (λ b. after ≡ (if nat_le b.1 stamp then b else (i, stamp)))
    → Best (heads_of xs) i best → Best (heads_of xs) (i + 1) (Some after)
head_seen xs i best s stamp after lt is some sooner known =
    one_seen (heads_of xs) i best (alone_of s.head) stamp after (omega (arith, lt, length-map xs (λ (t : Source). alone_of t.head))) (head_at xs i s lt is) (some ∙ stamp_is s) sooner known

pub head_skipped : (xs : List Source) (i : ℕ) (best : Option (ℕ × ℕ)) (s : Source) → i < length xs → s ≡ get_or xs i s → None ≡ stamp_of s → Best (heads_of xs) i best → Best (heads_of xs) (i + 1) best
head_skipped xs i best s lt is none known =
    one_skipped (heads_of xs) i best (alone_of s.head) (omega (arith, lt, length-map xs (λ (t : Source). alone_of t.head))) (head_at xs i s lt is) (none ∙ stamp_is s) known

pub head_found : (xs : List Source) (i index stamp : ℕ) → i ≡ length xs → Best (heads_of xs) i (Some (index, stamp)) → Some index ≡ next_index (heads_of xs)
head_found xs i index stamp all known = best_found (heads_of xs) i index stamp (all ∙ sym (length-map xs (λ (t : Source). alone_of t.head))) known

pub no_head_found : (xs : List Source) (i : ℕ) → i ≡ length xs → Best (heads_of xs) i None → None ≡ next_index (heads_of xs)
no_head_found xs i all known = none_found (heads_of xs) i (all ∙ sym (length-map xs (λ (t : Source). alone_of t.head))) known

pub head_there : (xs : List Source) (i index stamp : ℕ) → i ≡ length xs → Best (heads_of xs) i (Some (index, stamp)) → (s : Source) × (slice_get xs index ≡ Some s) × IsSome s.head
head_there xs i index stamp all known =
    let is = known.known in
    let within = is.within in
    let s : Source = get_or xs index no_source in
    let there : slice_get xs index ≡ Some s = slice_get-get_or xs index no_source (omega arith) in
    let head : slice_get (heads_of xs) index ≡ Some (alone_of s.head) = slice_get-map (λ (t : Source). alone_of t.head) xs index ∙ ap (option_map (λ (t : Source). alone_of t.head)) there in
    (s, there, some_head s.head stamp (ap first_stamp (sym (get_or_from_slice_get (heads_of xs) index (alone_of s.head) (ended None) head)) ∙ is.here))
  where
    some_head : (head : Option (ℕ × List ℕ)) (stamp : ℕ) → first_stamp (alone_of head) ≡ Some stamp → IsSome head
    some_head None stamp is = absurd (no_some stamp is)
    some_head (Some r) stamp is = refl

-- no record comes next
pub done_here : (held : List ℕ → Option (List ℕ)) (xs : List Source) → AreReady xs → next_index (heads_of xs) ≡ None → EndsSo (all_left held xs) Done
done_here held xs ready none = by_left (all_left held xs) refl
  where
    by_left : (o : Option (List Capture)) → all_left held xs ≡ o → EndsSo o Done
    by_left None told = tt
    by_left (Some left) told =
        let all = all_ready held xs left ready told in
        let long : length (heads_of xs) ≡ length left = length-map xs (λ (s : Source). alone_of s.head) ∙ all.each.long in
        step-done left all.unmet (taken_none left (next_same (heads_of xs) left long all.same ∙ none))

-- what is left behind the record that was taken
all_left_taken : (held : List ℕ → Option (List ℕ)) (xs : List Source) (left : List Capture) (k : ℕ) (s t : Source) (c : Capture) → EachIs (left_in held) xs left → slice_get xs k ≡ Some s → left_in held t ≡ Some c
    → all_left held (set xs k t) ≡ Some (set left k c)
all_left_taken held xs left k s t c each there is =
    let here = each.at k s there in
    each_of (left_in held) (set xs k t) (set left k c) (length-set xs k t ∙ each.long ∙ sym (length-set left k c)) (λ j x y at_x at_y.
    elim (set_cases xs k j s t x there at_x) [
      | inl same ↦
          let y_is : y ≡ c = same_Some y c (sym at_y ∙ ap (slice_get (set left k c)) same.0 ∙ get-set_same left k here.0 c here.1) in
          ap (left_in held) same.1 ∙ is ∙ ap (λ (d : Capture). Some d) (sym y_is)
      | inr other ↦
          let at = each.at j x other.1 in
          let y_is : y ≡ at.0 = same_Some y at.0 (sym at_y ∙ get-set_other left k j c other.0 ∙ at.1) in
          at.2 ∙ ap (λ (d : Capture). Some d) (sym y_is)
    ])

untold_set : (held : List ℕ → Option (List ℕ)) (xs : List Source) (k : ℕ) (s t : Source) → slice_get xs k ≡ Some s → left_in held s ≡ behind_head s.head (left_in held t) → all_left held xs ≡ None → all_left held (set xs k t) ≡ None
untold_set held xs k s t there split none = by_left (all_left held (set xs k t)) refl
  where
    some_front : (head : Option (ℕ × List ℕ)) (o : Option Capture) (c : Capture) → o ≡ Some c → (d : Capture) × (behind_head head o ≡ Some d)
    some_front None o c is = (c, is)
    some_front (Some r) o c is = (in_front r c, ap (option_map (in_front r)) is)

    by_left : (o : Option (List Capture)) → all_left held (set xs k t) ≡ o → o ≡ None
    by_left None told = refl
    by_left (Some left) told =
        let each = each_is (left_in held) (set xs k t) left told in
        let here = each.at k t (get-set_same xs k s t there) in
        let front = some_front s.head (left_in held t) here.0 here.2 in
        let whole = each_of (left_in held) xs (set left k front.0) (sym (length-set xs k t) ∙ each.long ∙ sym (length-set left k front.0)) (λ j x y at_x at_y.
        elim (cases_eq j k) [
          | inl same ↦
              let x_is : x ≡ s = same_Some x s (sym at_x ∙ ap (slice_get xs) same ∙ there) in
              let y_is : y ≡ front.0 = same_Some y front.0 (sym at_y ∙ ap (slice_get (set left k front.0)) same ∙ get-set_same left k here.0 front.0 here.1) in
              ap (left_in held) x_is ∙ split ∙ front.1 ∙ ap (λ (d : Capture). Some d) (sym y_is)
          | inr other ↦
              let at = each.at j x (get-set_other xs k j t other ∙ at_x) in
              let y_is : y ≡ at.0 = same_Some y at.0 (sym at_y ∙ get-set_other left k j front.0 other ∙ at.1) in
              at.2 ∙ ap (λ (d : Capture). Some d) (sym y_is)
        ]) in
        absurd (none-some (set left k front.0) (sym none ∙ whole))

-- a record was taken
pub gives_here : (held : List ℕ → Option (List ℕ)) (xs new : List Source) (device number : ℕ) (r : ℕ × List ℕ) → AreReady xs → HasTaken xs device r new
    → GivesSo number (all_left held xs) (record { stamp = r.0; device = device; number = number; frame = r.1 }) (all_left held new)
gives_here held xs new device number r ready taken_so = by_left (all_left held xs) refl
  where
    k : ℕ
    k = taken_so.index

    s : Source
    s = taken_so.source

    t : Source
    t = record { reader = s.reader; head = None }

    split : left_in held s ≡ behind_head s.head (left_in held t)
    split = refl

    by_left : (o : Option (List Capture)) → all_left held xs ≡ o → GivesSo number o (record { stamp = r.0; device = device; number = number; frame = r.1 }) (all_left held new)
    by_left None told = ap (all_left held) taken_so.after ∙ untold_set held xs k s t taken_so.there split told
    by_left (Some left) told =
        let all = all_ready held xs left ready told in
        let long : length (heads_of xs) ≡ length left = length-map xs (λ (u : Source). alone_of u.head) ∙ all.each.long in
        let here = all.each.at k s taken_so.there in
        let m = mapped (in_front r) (left_in held t) here.0 (ap (λ h. behind_head h (left_in held t)) (sym taken_so.head) ∙ here.2) in
        let there : slice_get left k ≡ Some (in_front r m.0) = here.1 ∙ ap (λ (c : Capture). Some c) (sym m.2) in
        let chosen = next_same (heads_of xs) left long all.same ∙ taken_so.next in
        let next : Taken = record { device = k + 1; given = r; left = slice_set left k m.0 } in
        (next, step-next left next all.unmet (taken_at left k r m.0 chosen there), ap (λ d. stamped number (record { device = d; given = r; left = slice_set left k m.0 })) taken_so.device_is, ap (all_left held) taken_so.after ∙ all_left_taken held xs left k s t m.0 all.each taken_so.there m.1)

-- ---- a loop that fills one capture after the other

-- a place that was not reached yet is as it was
pub untouched_set : (old xs : List Source) (k : ℕ) (t : Source) → ((j : ℕ) → k ≤ j → slice_get xs j ≡ slice_get old j) → (j : ℕ) → k + 1 ≤ j → slice_get (set xs k t) j ≡ slice_get old j
untouched_set old xs k t kept j le = get-set_other xs k j t (λ e. omega (arith, e, le)) ∙ kept j (omega arith)

pub name_at : (xs : List Source) (k : ℕ) (s : Source) → slice_get xs k ≡ Some s → slice_get (names_of xs) k ≡ Some s.reader.name
name_at xs k s there = slice_get-map (λ (t : Source). t.reader.name) xs k ∙ ap (option_map (λ (t : Source). t.reader.name)) there

pub beside_more : (xs : List Source) (k : ℕ) (s : Source) (old middle new : List ℕ → Option (List ℕ)) → slice_get xs k ≡ Some s → IsSameBeside (names_of xs) old middle → IsSameBut s.reader.name middle new → IsSameBeside (names_of xs) old new
beside_more xs k s old middle new there one two other none = two other (none k s.reader.name (name_at xs k s there)) ∙ one other none

pub failed_here : (xs : List Source) (k : ℕ) (s : Source) (fault : PcapFault) (old middle new : List ℕ → ℕ) → slice_get xs k ≡ Some s → fault ≡ ReadFault → NeverFell old middle
    → (s.reader.standing ≡ over (Some ReadFault)) ⊎ Rose (middle s.reader.name) (new s.reader.name) → HasFailed xs (k + 1) fault old new
failed_here xs k s fault old middle new there is kept (inl stood) = (k, s, refl, there, inl (stood ∙ ap (λ (f : PcapFault). over (Some f)) (sym is)))
failed_here xs k s fault old middle new there is kept (inr rose) = (k, s, refl, there, inr (never_fell_then_rose old middle new s.reader.name kept rose))

-- ---- a merge goes on

count_le : (head : Option (ℕ × List ℕ)) → count_of head ≤ 1
count_le None = omega arith
count_le (Some r) = omega arith

pub room_of : (xs : List Source) (given : ℕ) → IsOfMerge xs given → given < 16777217 → (k : ℕ) (s : Source) → slice_get xs k ≡ Some s → s.reader.given < 2 ^ 32
room_of xs given of fewer k s there = omega (arith, of.counted k s there, count_le s.head, fewer)

pub of_merge_filled : (xs ys : List Source) (given : ℕ) → IsOfMerge xs given → length ys ≡ length xs → names_of ys ≡ names_of xs → AreBalanced xs ys → IsOfMerge ys given
of_merge_filled xs ys given of long names balanced = record {
  few = let f = of.few in omega arith;
  apart = subst AreApart (sym names) of.apart;
  counted = λ k t there.
      let lt = slice_get_within ys k t there in
      let s : Source = get_or xs k no_source in
      let at : slice_get xs k ≡ Some s = slice_get-get_or xs k no_source (omega arith) in
      omega (arith, balanced k s t at there, of.counted k s at);
}

pub of_merge_taken : (xs new : List Source) (given device : ℕ) (r : ℕ × List ℕ) → IsOfMerge xs given → HasTaken xs device r new → IsOfMerge new (given + 1)
of_merge_taken xs new given device r of gone =
    let t : Source = record { reader = gone.source.reader; head = None } in
    subst (λ l. IsOfMerge l (given + 1)) (sym gone.after) (record {
      few = omega (arith, of.few, length-set xs gone.index t);
      apart = subst AreApart (sym (names_set xs gone.index gone.source t gone.there refl)) of.apart;
      counted = λ j u at. elim (set_cases xs gone.index j gone.source t u gone.there at) [
        | inl same ↦
            let one : count_of gone.source.head ≡ 1 = ap count_of gone.head in
            let le : gone.source.reader.given ≤ given + 1 + 0 = omega (arith, of.counted gone.index gone.source gone.there, one) in
            rw same.1 le
        | inr other ↦ omega (arith, of.counted j u other.1)
      ];
    })

pub names_taken : (xs new : List Source) (device : ℕ) (r : ℕ × List ℕ) → HasTaken xs device r new → names_of new ≡ names_of xs
names_taken xs new device r gone = ap names_of gone.after ∙ names_set xs gone.index gone.source (record { reader = gone.source.reader; head = None }) gone.there refl

pub device_within : (xs new : List Source) (device : ℕ) (r : ℕ × List ℕ) → HasTaken xs device r new → (1 ≤ device) × (device ≤ length xs)
device_within xs new device r gone =
    let lt = slice_get_within xs gone.index gone.source gone.there in
    let is = gone.device_is in
    (omega arith, omega arith)

pub same_names : (readers : List ReaderState) → names_of (begun readers) ≡ map (λ (r : ReaderState). r.name) readers
same_names [] = refl
same_names (r ∷ readers) = ap (λ l. r.name ∷ l) (same_names readers)

pub of_merge_begun : (readers : List ReaderState) → length readers ≤ 32 → AreApart (map (λ (r : ReaderState). r.name) readers) → ((k : ℕ) (r : ReaderState) → slice_get readers k ≡ Some r → r.given ≡ 0) → IsOfMerge (begun readers) 0
of_merge_begun readers few apart none = record {
  few = omega (arith, few, length-map readers start);
  apart = subst AreApart (sym (same_names readers)) apart;
  counted = λ k s there.
      let m = mapped start (slice_get readers k) s (sym (slice_get-map start readers k) ∙ there) in
      let g : s.reader.given ≡ 0 = ap (λ (t : Source). t.reader.given) (sym m.2) ∙ none k m.0 m.1 in
      omega (arith, g);
}
  where
    start : ReaderState → Source
    start r = record { reader = r; head = None }
