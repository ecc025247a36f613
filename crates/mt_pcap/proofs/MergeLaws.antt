-- What holds of each merge, by induction over its steps.
use Rattle.std.proofs.Common.{◌≡◌, ◌≢◌, ℕ, zero, suc, ◌+◌, ◌<◌, ◌≤◌, ◌⊎◌, inl, inr, true, false, cond, List, [], ◌∷◌, ◌++◌, length, map, drop, get_or, refl, sym, ap, subst, ◌∙◌, arith}
use Rattle.std.specs.Prelude.{Option, Some, None, slice_get, slice_set, option_map, is_some, All, ◌==◌, ◌&&◌}
use Rattle.std.specs.List.{filter}
use Rattle.std.proofs.lemmas.Bool.{cases_lt, cases_eq, eq-eqb, ne_eqb}
use Rattle.std.proofs.lemmas.Option.{slice_get-get_or, slice_get_within, get_or_from_slice_get}
use Rattle.std.proofs.lemmas.List.{append-nil, append_cancel_left, length-set, get_or-set_same, get_or-set_other}
use Rattle.std.proofs.lemmas.List.Elements.{All-nil, All-cons, All-weaker, All-drop}
use Rattle.mt_packet.specs.declared.frame.Stamped.{Stamped}
use Rattle.mt_pcap.specs.declared.fault.PcapFault.{PcapFault}
use Rattle.mt_pcap.specs.Capture.{Capture, ended}
use Rattle.mt_pcap.specs.Laws.{IsWritable}
use Rattle.mt_pcap.specs.Merge.{MergedEnd, Done, Fault, Frames, most_frames, first_of, first_stamp, behind, is_at_fault, Taken, MergeStep, ends, gives, step, Merge, stamped, merge_from, merge_of}
use Rattle.mt_pcap.specs.MergeFacts.{of_device, AreFronts, AreAll, IsMet, AreNumbered, Ascends, IsInOrder, IsNoLater, MergeIsSound}
use Rattle.mt_pcap.proofs.Merges.{merge-ends, merge-full, merge-more}
use Rattle.mt_pcap.proofs.Best.{stamp_at}
use Rattle.mt_pcap.proofs.MergeSteps.{Gives, gives_next, FaultAt, EndsBy, by_fault, by_want, ends_by, chosen_best}

-- ---- the induction

module _ (P : ℕ → ℕ → List Capture → Merge → Type 0)
    (at_end : (room number : ℕ) (left : List Capture) (end : MergedEnd) → EndsBy left end → P room number left (record { frames = []; end = end }))
    (at_limit : (number : ℕ) (left : List Capture) → P 0 number left (record { frames = []; end = Frames (most_frames + 1) }))
    (at_next : (room number : ℕ) (left : List Capture) (next : Taken) → Gives left next → P room (number + 1) next.left (merge_from room (number + 1) next.left)
    → P (suc room) number left (record { frames = stamped number next ∷ (merge_from room (number + 1) next.left).frames; end = (merge_from room (number + 1) next.left).end })) where
  stopped : (number : ℕ) (left : List Capture) (s : MergeStep) → step left ≡ s → P 0 number left (merge_from 0 number left)
  stopped number left (ends end) is = subst (P 0 number left) (sym (merge-ends 0 number left end is)) (at_end 0 number left end (ends_by left end is))
  stopped number left (gives next) is = subst (P 0 number left) (sym (merge-full number left next is)) (at_limit number left)

  stepped : (room number : ℕ) (left : List Capture) (s : MergeStep) → step left ≡ s → ((next : List Capture) → P room (number + 1) next (merge_from room (number + 1) next))
      → P (suc room) number left (merge_from (suc room) number left)
  stepped room number left (ends end) is others = subst (P (suc room) number left) (sym (merge-ends (suc room) number left end is)) (at_end (suc room) number left end (ends_by left end is))
  stepped room number left (gives next) is others = subst (P (suc room) number left) (sym (merge-more room number left next is)) (at_next room number left next (gives_next left next is) (others next.left))

  pub by_steps : (room number : ℕ) (left : List Capture) → P room number left (merge_from room number left)
  by_steps zero number left = stopped number left (step left) refl
  by_steps (suc room) number left = stepped room number left (step left) refl (by_steps room (number + 1))

-- ---- how many

abbrev pub IsCounted : ℕ → ℕ → List Capture → Merge → Type 0
IsCounted room number left m = (length m.frames ≤ room) × ((count : ℕ) → m.end ≡ Frames count → (count ≡ most_frames + 1) × (length m.frames ≡ room))

ends_not_full : (left : List Capture) (end : MergedEnd) (count : ℕ) → EndsBy left end → end ≡ Frames count → ⊥
ends_not_full left end count (by_fault fault at is) e = let f : Fault fault.0 fault.1 ≡ Frames count = sym is ∙ e in cc
ends_not_full left end count (by_want empty is) e = let f : Done ≡ Frames count = sym is ∙ e in cc

pub counted : (room number : ℕ) (left : List Capture) → IsCounted room number left (merge_from room number left)
counted = by_steps IsCounted
    (λ room number left end by. (omega arith, λ count e. absurd (ends_not_full left end count by e)))
    (λ number left. (omega arith, λ count e. (cc, refl)))
    (λ room number left next g h. (omega (arith, h.0), λ count e. let r = h.1 count e in (r.0, omega (arith, r.1))))

-- ---- the numbers

abbrev pub HasNumbers : ℕ → ℕ → List Capture → Merge → Type 0
HasNumbers room number left m = (k : ℕ) (f : Stamped) → slice_get m.frames k ≡ Some f → f.number ≡ number + k

numbers_next : (number : ℕ) (x : Stamped) (frames : List Stamped) → x.number ≡ number → ((k : ℕ) (f : Stamped) → slice_get frames k ≡ Some f → f.number ≡ number + 1 + k)
    → (k : ℕ) (f : Stamped) → slice_get (x ∷ frames) k ≡ Some f → f.number ≡ number + k
numbers_next number x frames first others zero f there = let e : x ≡ f = cc in let n = ap (λ (g : Stamped). g.number) e in omega (arith, n, first)
numbers_next number x frames first others (suc k) f there = let n = others k f there in omega (arith, n)

pub numbered : (room number : ℕ) (left : List Capture) → HasNumbers room number left (merge_from room number left)
numbered = by_steps HasNumbers
    (λ room number left end by k f there. absurd cc)
    (λ number left k f there. absurd cc)
    (λ room number left next g h. numbers_next number (stamped number next) (merge_from room (number + 1) next.left).frames refl h)

-- ---- what is left behind a record

-- one of what is left is as before, or that whose first record was taken
after_set : (left : List Capture) (i k : ℕ) (y c : Capture) → slice_get (slice_set left i y) k ≡ Some c → ((k ≡ i) × (c ≡ y)) ⊎ ((k ≢ i) × (slice_get left k ≡ Some c))
after_set left i k y c there =
    let within : k < length left = omega (arith, slice_get_within (slice_set left i y) k c there, length-set left i y) in
    let here : get_or (slice_set left i y) k c ≡ c = get_or_from_slice_get (slice_set left i y) k c c there in
    elim (cases_eq k i) [
      | inl same ↦
          let in_list : i < length left = omega arith in
          let at : get_or (slice_set left i y) i c ≡ c = subst (λ n. get_or (slice_set left i y) n c ≡ c) same here in
          inl (same, sym at ∙ get_or-set_same left i y c in_list)
      | inr other ↦
          let e : get_or left k c ≡ c = sym (get_or-set_other left i k y c other) ∙ here in
          inr (other, slice_get-get_or left k c within ∙ ap Some e)
    ]

set_other : (left : List Capture) (i k : ℕ) (y c : Capture) → k ≢ i → slice_get left k ≡ Some c → slice_get (slice_set left i y) k ≡ Some c
set_other left i k y c other there =
    let lt = slice_get_within left k c there in
    let within : k < length (slice_set left i y) = omega (arith, lt, length-set left i y) in
    slice_get-get_or (slice_set left i y) k c within ∙ ap Some (get_or-set_other left i k y c other ∙ get_or_from_slice_get left k c c there)

set_same : (left : List Capture) (i : ℕ) (y c : Capture) → slice_get left i ≡ Some c → slice_get (slice_set left i y) i ≡ Some y
set_same left i y c there =
    let lt = slice_get_within left i c there in
    let within : i < length (slice_set left i y) = omega (arith, lt, length-set left i y) in
    slice_get-get_or (slice_set left i y) i y within ∙ ap Some (get_or-set_same left i y y lt)

-- the first record and those behind it are all
pub first_and_behind : (c : Capture) (r : ℕ × List ℕ) → first_of c ≡ Some r → c.records ≡ r ∷ (behind c).records
first_and_behind c r first = by_records c.records r first
  where
    by_records : (records : List (ℕ × List ℕ)) (r : ℕ × List ℕ) → slice_get records 0 ≡ Some r → records ≡ r ∷ drop 1 records
    by_records [] r first = absurd cc
    by_records (x ∷ records) r first = cc

-- ---- each frame is a record of its device's capture

-- what holds of each record that is left, with its device
abbrev pub AllLeft : (ℕ → ℕ × List ℕ → Type 0) → List Capture → Type 0
AllLeft Q left = (k : ℕ) (c : Capture) → slice_get left k ≡ Some c → All (Q (k + 1)) c.records

abbrev pub OfRecord : (ℕ → ℕ × List ℕ → Type 0) → Stamped → Type 0
OfRecord Q f = Q f.device (f.stamp, f.frame)

given_holds : (Q : ℕ → ℕ × List ℕ → Type 0) (left : List Capture) (next : Taken) → Gives left next → AllLeft Q left → Q next.device next.given
given_holds Q left next g all =
    let there = g.there in
    let first = g.first in
    let lt = slice_get_within g.capture.records 0 next.given first in
    let at : Q (g.index + 1) (get_or g.capture.records 0 next.given) = all g.index g.capture there 0 next.given lt in
    subst (λ d. Q d next.given) (sym g.device_is) (subst (Q (g.index + 1)) (get_or_from_slice_get g.capture.records 0 next.given next.given first) at)

left_holds : (Q : ℕ → ℕ × List ℕ → Type 0) (left : List Capture) (next : Taken) → Gives left next → AllLeft Q left → AllLeft Q next.left
left_holds Q left next g all k c there =
    elim (after_set left g.index k (behind g.capture) c (ap (λ l. slice_get l k) (sym g.left_is) ∙ there)) [
      | inl (same, is) ↦
          let at : All (Q (k + 1)) g.capture.records = subst (λ n. All (Q (n + 1)) g.capture.records) (sym same) (all g.index g.capture g.there) in
          subst (λ (d : Capture). All (Q (k + 1)) d.records) (sym is) (All-drop (Q (k + 1)) 1 g.capture.records at)
      | inr (other, is) ↦ all k c is
    ]

pub records_hold : (Q : ℕ → ℕ × List ℕ → Type 0) (room number : ℕ) (left : List Capture) → AllLeft Q left → All (OfRecord Q) (merge_from room number left).frames
records_hold Q = by_steps (λ room number left m. AllLeft Q left → All (OfRecord Q) m.frames)
    (λ room number left end by all. All-nil (OfRecord Q))
    (λ number left all. All-nil (OfRecord Q))
    (λ room number left next g h all.
    All-cons (OfRecord Q) (stamped number next) (merge_from room (number + 1) next.left).frames (given_holds Q left next g all) (h (left_holds Q left next g all)))

-- ---- the frames of a device, and the records that are not given

pub record Splits (device : ℕ) (c : Capture) (m : Merge) : Type 0 where
  pub rest : List (ℕ × List ℕ)
  pub parts : c.records ≡ of_device device m.frames ++ rest
  pub done : m.end ≡ Done → rest ≡ []
  pub fault : (f : PcapFault) → m.end ≡ Fault device f → (rest ≡ []) × (c.end ≡ Some f)
  pub lower : (d : ℕ) (f : PcapFault) → m.end ≡ Fault d f → device < d → rest ≡ [] → c.end ≡ None

abbrev pub AllSplit : ℕ → ℕ → List Capture → Merge → Type 0
AllSplit room number left m = (k : ℕ) (c : Capture) → slice_get left k ≡ Some c → Splits (k + 1) c m

no_fault : (c : Capture) → is_at_fault c ≡ false → c.records ≡ [] → c.end ≡ None
no_fault c is empty = by_end c.end c.records is empty
  where
    by_end : (end : Option PcapFault) (records : List (ℕ × List ℕ)) → ((length records == 0) && is_some end) ≡ false → records ≡ [] → end ≡ None
    by_end None records is empty = refl
    by_end (Some f) [] is empty = absurd cc
    by_end (Some f) (r ∷ records) is empty = absurd cc

split_at_fault : (left : List Capture) (end : MergedEnd) (fault : ℕ × PcapFault) → FaultAt left fault → end ≡ Fault fault.0 fault.1 → AllSplit 0 0 left (record { frames = []; end = end })
split_at_fault left end fault at is k c there = record {
  rest = c.records;
  parts = refl;
  done = λ e. let f : Fault fault.0 fault.1 ≡ Done = sym is ∙ e in absurd cc;
  fault = λ f e.
      let g : Fault fault.0 fault.1 ≡ Fault (k + 1) f = sym is ∙ e in
      let d : fault.0 ≡ k + 1 = cc in
      let w : fault.1 ≡ f = cc in
      let p = at.device_is in
      let same : at.index ≡ k = omega arith in
      let there_too : slice_get left k ≡ Some at.capture = subst (λ n. slice_get left n ≡ Some at.capture) same at.there in
      let one : at.capture ≡ c = cc in
      (subst (λ (x : Capture). x.records ≡ []) one at.empty, subst (λ (x : Capture). x.end ≡ Some f) one (at.end_is ∙ ap Some w));
  lower = λ d f e lt empty.
      let g : Fault fault.0 fault.1 ≡ Fault d f = sym is ∙ e in
      let same : fault.0 ≡ d = cc in
      let p = at.device_is in
      let before : k < at.index = omega arith in
      no_fault c (at.before k c before there) empty;
}

split_at_want : (left : List Capture) (end : MergedEnd) → ((k : ℕ) (c : Capture) → slice_get left k ≡ Some c → c.records ≡ []) → end ≡ Done → AllSplit 0 0 left (record { frames = []; end = end })
split_at_want left end empty is k c there = record {
  rest = c.records;
  parts = refl;
  done = λ e. empty k c there;
  fault = λ f e. let g : Done ≡ Fault (k + 1) f = sym is ∙ e in absurd cc;
  lower = λ d f e lt none. let g : Done ≡ Fault d f = sym is ∙ e in absurd cc;
}

split_at_end : (left : List Capture) (end : MergedEnd) → EndsBy left end → AllSplit 0 0 left (record { frames = []; end = end })
split_at_end left end (by_fault fault at is) = split_at_fault left end fault at is
split_at_end left end (by_want empty is) = split_at_want left end empty is

split_at_limit : (left : List Capture) → AllSplit 0 0 left (record { frames = []; end = Frames (most_frames + 1) })
split_at_limit left k c there = record {
  rest = c.records;
  parts = refl;
  done = λ e. absurd cc;
  fault = λ f e. absurd cc;
  lower = λ d f e lt none. absurd cc;
}

-- the frames of a device with one more in front, of this device and of another
pub own_frame : (device : ℕ) (x : Stamped) (frames : List Stamped) → x.device ≡ device → of_device device (x ∷ frames) ≡ (x.stamp, x.frame) ∷ of_device device frames
own_frame device x frames is =
    let t : (x.device == device) ≡ true = eq-eqb x.device device is in
    ap (λ b. map (λ (f : Stamped). (f.stamp, f.frame)) (cond b (x ∷ filter (λ (f : Stamped). f.device == device) frames) (filter (λ (f : Stamped). f.device == device) frames))) t

pub other_frame : (device : ℕ) (x : Stamped) (frames : List Stamped) → x.device ≢ device → of_device device (x ∷ frames) ≡ of_device device frames
other_frame device x frames is =
    let t : (x.device == device) ≡ false = ne_eqb x.device device is in
    ap (λ b. map (λ (f : Stamped). (f.stamp, f.frame)) (cond b (x ∷ filter (λ (f : Stamped). f.device == device) frames) (filter (λ (f : Stamped). f.device == device) frames))) t

split_own : (number : ℕ) (left : List Capture) (next : Taken) (m : Merge) (c : Capture) (g : Gives left next) → c ≡ g.capture → Splits (g.index + 1) (behind c) m
    → Splits (g.index + 1) c (record { frames = stamped number next ∷ m.frames; end = m.end })
split_own number left next m c g is s = record {
  rest = s.rest;
  parts =
      first_and_behind c next.given (ap first_of is ∙ g.first)
      ∙ ap (λ l. next.given ∷ l) s.parts
      ∙ ap (λ l. l ++ s.rest) (sym (own_frame (g.index + 1) (stamped number next) m.frames g.device_is));
  done = s.done;
  fault = s.fault;
  lower = s.lower;
}

split_other : (number k : ℕ) (next : Taken) (m : Merge) (c : Capture) → next.device ≢ k + 1 → Splits (k + 1) c m
    → Splits (k + 1) c (record { frames = stamped number next ∷ m.frames; end = m.end })
split_other number k next m c other s = record {
  rest = s.rest;
  parts = s.parts ∙ ap (λ l. l ++ s.rest) (sym (other_frame (k + 1) (stamped number next) m.frames other));
  done = s.done;
  fault = s.fault;
  lower = s.lower;
}

split_next : (number : ℕ) (left : List Capture) (next : Taken) (m : Merge) → Gives left next → AllSplit 0 0 next.left m → AllSplit 0 0 left (record { frames = stamped number next ∷ m.frames; end = m.end })
split_next number left next m g h k c there = elim (cases_eq k g.index) [
  | inl same ↦
      let at : slice_get left g.index ≡ Some c = subst (λ n. slice_get left n ≡ Some c) same there in
      let is : c ≡ g.capture = let t = g.there in cc in
      let behind_it : slice_get next.left g.index ≡ Some (behind c) = ap (λ l. slice_get l g.index) g.left_is ∙ set_same left g.index (behind g.capture) c at ∙ ap (λ x. Some (behind x)) (sym is) in
      subst (λ n. Splits (n + 1) c (record { frames = stamped number next ∷ m.frames; end = m.end })) (sym same) (split_own number left next m c g is (h g.index (behind c) behind_it))
  | inr other ↦
      let still : slice_get next.left k ≡ Some c = ap (λ l. slice_get l k) g.left_is ∙ set_other left g.index k (behind g.capture) c other there in
      let d = g.device_is in
      split_other number k next m c (λ e. other (omega (arith, e, d))) (h k c still)
]

pub all_split : (room number : ℕ) (left : List Capture) → AllSplit room number left (merge_from room number left)
all_split = by_steps AllSplit
    (λ room number left end by. split_at_end left end by)
    (λ number left. split_at_limit left)
    (λ room number left next g h. split_next number left next (merge_from room (number + 1) next.left) g h)

-- the device of a fault has a capture
abbrev pub FaultIsThere : ℕ → ℕ → List Capture → Merge → Type 0
FaultIsThere room number left m = (d : ℕ) (f : PcapFault) → m.end ≡ Fault d f → (index : ℕ) × (index < length left) × (d ≡ index + 1)

there_at_end : (left : List Capture) (end : MergedEnd) → EndsBy left end → FaultIsThere 0 0 left (record { frames = []; end = end })
there_at_end left end (by_fault fault at is) d f e =
    let g : Fault fault.0 fault.1 ≡ Fault d f = sym is ∙ e in
    let same : fault.0 ≡ d = cc in
    (at.index, slice_get_within left at.index at.capture at.there, sym same ∙ at.device_is)
there_at_end left end (by_want empty is) d f e = let g : Done ≡ Fault d f = sym is ∙ e in absurd cc

pub fault_is_there : (room number : ℕ) (left : List Capture) → FaultIsThere room number left (merge_from room number left)
fault_is_there = by_steps FaultIsThere
    (λ room number left end by. there_at_end left end by)
    (λ number left d f e. absurd cc)
    (λ room number left next g h d f e.
    let t = h d f e in
    let same : length next.left ≡ length left = ap length g.left_is ∙ length-set left g.index (behind g.capture) in
    (t.0, omega (arith, t.1, same), t.2))

-- ---- the order

abbrev pub AllInOrder : List Capture → Type 0
AllInOrder left = (k : ℕ) (c : Capture) → slice_get left k ≡ Some c → IsInOrder c

-- a record of a device is no earlier than a frame, and of no lower device where they are of equal time
abbrev IsBehind : Stamped → ℕ → ℕ × List ℕ → Type 0
IsBehind x device r = (x.stamp < r.0) ⊎ ((x.stamp ≡ r.0) × (x.device ≤ device))

abbrev NotBefore : ℕ × List ℕ → ℕ × List ℕ → Type 0
NotBefore r s = r.0 ≤ s.0

order_behind : (c : Capture) → IsInOrder c → IsInOrder (behind c)
order_behind c order = by_records c.records order
  where
    by_records : (records : List (ℕ × List ℕ)) → Ascends NotBefore records → Ascends NotBefore (drop 1 records)
    by_records [] order = order
    by_records (r ∷ records) order = order.1

order_left : (left : List Capture) (next : Taken) → Gives left next → AllInOrder left → AllInOrder next.left
order_left left next g order k c there =
    elim (after_set left g.index k (behind g.capture) c (ap (λ l. slice_get l k) (sym g.left_is) ∙ there)) [
      | inl (same, is) ↦ subst IsInOrder (sym is) (order_behind g.capture (order g.index g.capture g.there))
      | inr (other, is) ↦ order k c is
    ]

-- the records of a capture in order are no earlier than the first
none_earlier : (x : Stamped) (device : ℕ) (records : List (ℕ × List ℕ)) → Ascends NotBefore records → ((r : ℕ × List ℕ) → slice_get records 0 ≡ Some r → IsBehind x device r) → All (IsBehind x device) records
none_earlier x device [] order first = All-nil (IsBehind x device)
none_earlier x device (r ∷ records) order first =
    let here = first r refl in
    All-cons (IsBehind x device) r records here (All-weaker (NotBefore r) (IsBehind x device) (λ s le. later r s le here) records order.0)
  where
    later : (r s : ℕ × List ℕ) → r.0 ≤ s.0 → IsBehind x device r → IsBehind x device s
    later r s le (inl before) = inl (omega arith)
    later r s le (inr (equal, device_le)) = elim (cases_lt x.stamp s.0) [
      | inl before ↦ inl before
      | inr not_before ↦ inr (omega arith, device_le)
    ]

-- behind the one that is given, in its own capture
own_behind : (number : ℕ) (next : Taken) (c : Capture) → first_of c ≡ Some next.given → IsInOrder c → All (IsBehind (stamped number next) next.device) (behind c).records
own_behind number next c first order =
    let parts = first_and_behind c next.given first in
    let whole : Ascends NotBefore (next.given ∷ (behind c).records) = subst (Ascends NotBefore) parts order in
    All-weaker (NotBefore next.given) (IsBehind (stamped number next) next.device) (λ s le. elim (cases_lt next.given.0 s.0) [
      | inl before ↦ inl before
      | inr not_before ↦ inr (omega arith, omega arith)
    ]) (behind c).records whole.0

-- and in another
other_behind : (left : List Capture) (number : ℕ) (next : Taken) (g : Gives left next) (k : ℕ) (c : Capture) → k ≢ g.index → slice_get left k ≡ Some c → IsInOrder c → All (IsBehind (stamped number next) (k + 1)) c.records
other_behind left number next g k c other there order =
    none_earlier (stamped number next) (k + 1) c.records order (λ r first.
    let best = chosen_best left g.index g.chosen in
    let is = best.1 in
    let lt = slice_get_within left k c there in
    let at_k : stamp_at left k ≡ Some r.0 = ap first_stamp (get_or_from_slice_get left k c (ended None) there) ∙ ap (option_map (λ (s : ℕ × List ℕ). s.0)) first in
    let at_place : stamp_at left g.index ≡ Some next.given.0 = ap first_stamp (get_or_from_slice_get left g.index g.capture (ended None) g.there) ∙ ap (option_map (λ (s : ℕ × List ℕ). s.0)) g.first in
    let known = is.here in
    let same : best.0 ≡ next.given.0 = cc in
    let le : best.0 ≤ r.0 = is.least k r.0 lt at_k in
    let d = g.device_is in
    elim (cases_lt k g.index) [
      | inl before ↦ let less : best.0 < r.0 = is.first k r.0 before at_k in inl (omega arith)
      | inr from ↦ elim (cases_lt next.given.0 r.0) [
        | inl less ↦ inl less
        | inr not_less ↦ inr (omega arith, omega arith)
      ]
    ])

all_behind : (left : List Capture) (number : ℕ) (next : Taken) → Gives left next → AllInOrder left → AllLeft (IsBehind (stamped number next)) next.left
all_behind left number next g order k c there =
    elim (after_set left g.index k (behind g.capture) c (ap (λ l. slice_get l k) (sym g.left_is) ∙ there)) [
      | inl (same, is) ↦
          let e : next.device ≡ k + 1 = g.device_is ∙ ap (λ n. n + 1) (sym same) in
          subst (λ (d : Capture). All (IsBehind (stamped number next) (k + 1)) d.records) (sym is)
          (subst (λ n. All (IsBehind (stamped number next) n) (behind g.capture).records) e (own_behind number next g.capture g.first (order g.index g.capture g.there)))
      | inr (other, is) ↦ other_behind left number next g k c other is (order k c is)
    ]

pub ascending : (room number : ℕ) (left : List Capture) → AllInOrder left → Ascends IsNoLater (merge_from room number left).frames
ascending = by_steps (λ room number left m. AllInOrder left → Ascends IsNoLater m.frames)
    (λ room number left end by order. tt)
    (λ number left order. tt)
    (λ room number left next g h order.
    (records_hold (IsBehind (stamped number next)) room (number + 1) next.left (all_behind left number next g order), h (order_left left next g order)))

-- ---- of a merge from its start

module _ (captures : List Capture) (m : Merge) (is : m ≡ merge_of captures) where
  from_start : m ≡ merge_from most_frames 0 captures
  unfolding merge_of
  from_start = is

  pub few : length m.frames ≤ most_frames
  few = subst (λ (n : Merge). length n.frames ≤ most_frames) (sym from_start) (counted most_frames 0 captures).0

  pub numbers : AreNumbered m.frames
  numbers = subst (λ (n : Merge). AreNumbered n.frames) (sym from_start) (λ k f there. let e = numbered most_frames 0 captures k f there in omega (arith, e))

  pub hold : (Q : ℕ → ℕ × List ℕ → Type 0) → AllLeft Q captures → All (λ f. Q f.device (f.stamp, f.frame)) m.frames
  hold Q all = subst (λ (n : Merge). All (OfRecord Q) n.frames) (sym from_start) (records_hold Q most_frames 0 captures all)

  pub devices : All (λ f. (1 ≤ f.device) × (f.device ≤ length captures)) m.frames
  devices = hold (λ device r. (1 ≤ device) × (device ≤ length captures)) (λ k c there i d lt. let w = slice_get_within captures k c there in (omega arith, omega arith))

  splits : (k : ℕ) (c : Capture) → slice_get captures k ≡ Some c → Splits (k + 1) c m
  splits k c there = subst (Splits (k + 1) c) (sym from_start) (all_split most_frames 0 captures k c there)

  pub fronts : AreFronts captures m.frames
  fronts k c there = let s = splits k c there in record { rest = s.rest; parts = s.parts }

  all_of : (front all rest : List (ℕ × List ℕ)) → all ≡ front ++ rest → rest ≡ [] → front ≡ all
  all_of front all rest parts none = sym (parts ∙ ap (λ l. front ++ l) none ∙ append-nil front)

  rest_of : (front all rest : List (ℕ × List ℕ)) → all ≡ front ++ rest → front ≡ all → rest ≡ []
  rest_of front all rest parts whole = append_cancel_left front rest [] (sym parts ∙ sym whole ∙ sym (append-nil front))

  pub done_stands : m.end ≡ Done → AreAll captures m.frames
  done_stands e k c there = let s = splits k c there in all_of (of_device (k + 1) m.frames) c.records s.rest s.parts (s.done e)

  pub fault_stands : (device : ℕ) (fault : PcapFault) → m.end ≡ Fault device fault → IsMet captures m.frames device fault
  fault_stands device fault e =
      let t = subst (λ (n : Merge). (d : ℕ) (f : PcapFault) → n.end ≡ Fault d f → (index : ℕ) × (index < length captures) × (d ≡ index + 1)) (sym from_start) (fault_is_there most_frames 0 captures) device fault e in
      let c = get_or captures t.0 (ended None) in
      let there : slice_get captures t.0 ≡ Some c = slice_get-get_or captures t.0 (ended None) t.1 in
      let s = splits t.0 c there in
      let at = s.fault fault (e ∙ ap (λ d. Fault d fault) t.2) in
      record {
        index = t.0;
        capture = c;
        device_is = t.2;
        there = there;
        end_is = at.1;
        given = ap (λ d. of_device d m.frames) t.2 ∙ all_of (of_device (t.0 + 1) m.frames) c.records s.rest s.parts at.0;
        lowest = λ k other lt here whole.
            let o = splits k other here in
            let d = t.2 in
            o.lower device fault e (omega arith) (rest_of (of_device (k + 1) m.frames) other.records o.rest o.parts whole);
      }

  pub limit_stands : (count : ℕ) → m.end ≡ Frames count → (count ≡ most_frames + 1) × (length m.frames ≡ most_frames)
  limit_stands = subst (λ (n : Merge). (count : ℕ) → n.end ≡ Frames count → (count ≡ most_frames + 1) × (length n.frames ≡ most_frames)) (sym from_start) (counted most_frames 0 captures).1

  pub in_order : All IsInOrder captures → Ascends IsNoLater m.frames
  in_order order = subst (λ (n : Merge). Ascends IsNoLater n.frames) (sym from_start)
      (ascending most_frames 0 captures (λ k c there. subst IsInOrder (get_or_from_slice_get captures k c c there) (order k c (slice_get_within captures k c there))))

-- what holds of each record of the captures holds of each frame
of_captures : (P : ℕ × List ℕ → Type 0) (captures : List Capture) → All (λ c. All P c.records) captures → AllLeft (λ device r. P r) captures
of_captures P captures all k c there =
    subst (λ (d : Capture). All P d.records) (get_or_from_slice_get captures k c c there) (all k c (slice_get_within captures k c there))

pub merge_sound : MergeIsSound
merge_sound captures = record {
  few = few captures (merge_of captures) refl;
  numbers = numbers captures (merge_of captures) refl;
  devices = devices captures (merge_of captures) refl;
  fronts = fronts captures (merge_of captures) refl;
  all_given = done_stands captures (merge_of captures) refl;
  fault = fault_stands captures (merge_of captures) refl;
  limit = limit_stands captures (merge_of captures) refl;
  ascending = in_order captures (merge_of captures) refl;
  writable = λ all. hold captures (merge_of captures) refl (λ device r. IsWritable r) (of_captures IsWritable captures all);
}
