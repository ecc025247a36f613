-- Frames that were given of captures are those of the merge where one of the captures ends behind its last record that was
-- given, if the last frame is one of it.
use Rattle.std.proofs.Common.{◌≡◌, ◌≢◌, inl, inr, ℕ, zero, suc, ◌+◌, ◌-◌, ◌<◌, Bool, true, false, not, cond, List, [], ◌∷◌, ◌++◌, length, drop, get_or, position, Option, Some, None, refl, sym, ap, subst, ◌∙◌, arith}
use Rattle.std.specs.Prelude.{slice_get, slice_set, option_map, option_and_then, is_some, ◌==◌, ◌&&◌}
use Rattle.std.specs.List.{position_or_len}
use Rattle.std.proofs.Math.ListN.{set}
use Rattle.std.proofs.lemmas.Bool.{cases_eq, cases_Bool, ne_eqb}
use Rattle.std.proofs.lemmas.Bool.Decides.{nat_tests}
use Rattle.std.proofs.lemmas.List.{length-set, set-set, set_comm, get_or-set_same, get_or-set_other}
use Rattle.std.proofs.lemmas.List.Quantifiers.{position-Some}
use Rattle.std.proofs.lemmas.Option.{none-some, same_Some, slice_get_within, slice_get-get_or, get_or_from_slice_get}
use Rattle.mt_lists.proofs.Positions.{NoneBefore, missing}
use Rattle.mt_packet.specs.declared.frame.Stamped.{Stamped}
use Rattle.mt_pcap.specs.declared.fault.PcapFault.{PcapFault}
use Rattle.mt_pcap.specs.Capture.{Capture, ended}
use Rattle.mt_pcap.specs.Merge.{first_of, first_stamp, behind, is_at_fault, fault_met, next_index, Taken, gives, step}
use Rattle.mt_pcap.specs.MergeFacts.{of_device}
use Rattle.mt_pcap.specs.StreamLaws.{IsMergedSo}
use Rattle.mt_pcap.specs.Merged.{all_in_front}
use Rattle.mt_pcap.proofs.Best.{stamp_at}
use Rattle.mt_pcap.proofs.Merges.{step-next}
use Rattle.mt_pcap.proofs.MergeSteps.{Gives, gives_next, taken_some}
use Rattle.mt_pcap.proofs.MergeLaws.{first_and_behind, own_frame, other_frame}
use Rattle.mt_pcap.proofs.MergeStreams.{get-set_same, get-set_other, next_same, met_none}

-- ---- what was given of one capture

-- what is left of a capture, behind its frames among those that were given
pub given_of : (number : ℕ) (left : List Capture) (frames : List Stamped) (after : List Capture) (k : ℕ) (c : Capture) → IsMergedSo number left frames after → slice_get left k ≡ Some c
    → (rest : Capture) × (slice_get after k ≡ Some rest) × (c ≡ all_in_front (of_device (k + 1) frames) rest)
given_of number left [] after k c is there = (c, ap (λ l. slice_get l k) is ∙ there, refl)
given_of number left (f ∷ frames) after k c is there =
    let next = is.0 in
    let g = gives_next left next is.1 in
    let device : f.device ≡ g.index + 1 = ap (λ (x : Stamped). x.device) is.2 ∙ g.device_is in
    elim (cases_eq k g.index) [
      | inl same ↦
          let here : c ≡ g.capture = same_Some c g.capture (sym there ∙ ap (slice_get left) same ∙ g.there) in
          let left_there : slice_get next.left k ≡ Some (behind g.capture) = ap (λ l. slice_get l k) g.left_is ∙ ap (slice_get (set left g.index (behind g.capture))) same ∙ get-set_same left g.index g.capture (behind g.capture) g.there in
          let others = given_of (number + 1) next.left frames after k (behind g.capture) is.3 left_there in
          let own : of_device (k + 1) (f ∷ frames) ≡ next.given ∷ of_device (k + 1) frames = own_frame (k + 1) f frames (device ∙ ap (λ n. n + 1) (sym same)) ∙ ap (λ (x : Stamped). (x.stamp, x.frame) ∷ of_device (k + 1) frames) is.2 in
          let records : c.records ≡ of_device (k + 1) (f ∷ frames) ++ others.0.records =
          ap (λ (d : Capture). d.records) here ∙ first_and_behind g.capture next.given g.first ∙ ap (λ (d : Capture). next.given ∷ d.records) others.2 ∙ ap (λ l. l ++ others.0.records) (sym own) in
          let end : c.end ≡ others.0.end = ap (λ (d : Capture). d.end) here ∙ ap (λ (d : Capture). d.end) others.2 in
          (others.0, others.1, same_capture c (all_in_front (of_device (k + 1) (f ∷ frames)) others.0) records end)
      | inr other ↦
          let left_there : slice_get next.left k ≡ Some c = ap (λ l. slice_get l k) g.left_is ∙ get-set_other left g.index k (behind g.capture) other ∙ there in
          let others = given_of (number + 1) next.left frames after k c is.3 left_there in
          let none : of_device (k + 1) (f ∷ frames) ≡ of_device (k + 1) frames = other_frame (k + 1) f frames (λ e. other (omega (arith, e, device))) in
          (others.0, others.1, others.2 ∙ ap (λ l. all_in_front l others.0) (sym none))
    ]
  where
    same_capture : (c d : Capture) → c.records ≡ d.records → c.end ≡ d.end → c ≡ d
    same_capture c d records end = λ i. record { records = records i; end = end i }

-- ---- the last frame

-- the last frame, if there is one, is of this device
abbrev pub LastIs : ℕ → List Stamped → Type 0
LastIs device frames = (last : Stamped) → slice_get frames (length frames - 1) ≡ Some last → last.device ≡ device

last_behind : (device : ℕ) (f : Stamped) (frames : List Stamped) → LastIs device (f ∷ frames) → LastIs device frames
last_behind device f [] is last there = absurd (none-some last there)
last_behind device f (g ∷ frames) is last there =
    let at : length (f ∷ g ∷ frames) - 1 ≡ suc (length (g ∷ frames) - 1) = omega arith in
    is last (ap (slice_get (f ∷ g ∷ frames)) at ∙ there)

last_only : (device : ℕ) (f : Stamped) → LastIs device (f ∷ []) → f.device ≡ device
last_only device f is = is f refl

-- so there is a frame of it
some_frame : (device : ℕ) (f : Stamped) (frames : List Stamped) → LastIs device (f ∷ frames) → (r : ℕ × List ℕ) × (rest : List (ℕ × List ℕ)) × (of_device device (f ∷ frames) ≡ r ∷ rest)
some_frame device f [] is = ((f.stamp, f.frame), [], own_frame device f [] (last_only device f is))
some_frame device f (g ∷ frames) is =
    let others = some_frame device g frames (last_behind device f (g ∷ frames) is) in
    elim (cases_eq f.device device) [
      | inl own ↦ ((f.stamp, f.frame), of_device device (g ∷ frames), own_frame device f (g ∷ frames) own)
      | inr other ↦ (others.0, others.1, other_frame device f (g ∷ frames) other ∙ others.2)
    ]

-- ---- a step where one capture is cut behind its first record

-- one that passes is found
some_passes : {X : Type 0} (p : X → Bool) (xs : List X) (j : ℕ) (x : X) → slice_get xs j ≡ Some x → p x ≡ true → position_or_len p xs < length xs
some_passes p [] j x there passes = absurd (none-some x there)
some_passes p (z ∷ xs) zero x there passes =
    let here : p z ≡ true = ap p (same_Some z x there) ∙ passes in
    let none : position_or_len p (z ∷ xs) ≡ 0 = ap (λ b. cond (not b) (1 + position_or_len p xs) 0) here in
    omega (arith, none)
some_passes p (z ∷ xs) (suc j) x there passes =
    let others = some_passes p xs j x there passes in
    elim (cases_Bool (p z)) [
      | inl here ↦ let none : position_or_len p (z ∷ xs) ≡ 0 = ap (λ b. cond (not b) (1 + position_or_len p xs) 0) here in omega (arith, none)
      | inr not_here ↦ let more : position_or_len p (z ∷ xs) ≡ 1 + position_or_len p xs = ap (λ b. cond (not b) (1 + position_or_len p xs) 0) not_here in omega (arith, more, others)
    ]

position_some : {X : Type 0} (p : X → Bool) (xs : List X) → position_or_len p xs < length xs → position p xs ≡ Some (position_or_len p xs)
position_some p xs within = grind (arith, nat_tests)

right_true : (a b : Bool) → (a && b) ≡ true → b ≡ true
right_true true b is = is
right_true false b is = absurd cc

-- where no fault is met, none of the captures is at one
met_some : (left : List Capture) (i : ℕ) (c : Capture) (end : Option PcapFault) → position is_at_fault left ≡ Some i → slice_get left i ≡ Some c → c.end ≡ end → is_some end ≡ true → fault_met left ≡ None → ⊥
unfolding fault_met
met_some left i c None first there is some unmet = cc
met_some left i c (Some fault) first there is some unmet =
    let met : fault_met left ≡ Some (i + 1, fault) =
    ap (option_and_then (λ index. option_and_then (λ (d : Capture). option_map (λ (f : PcapFault). (index + 1, f)) d.end) (slice_get left index))) first
    ∙ ap (option_and_then (λ (d : Capture). option_map (λ (f : PcapFault). (i + 1, f)) d.end)) there
    ∙ ap (option_map (λ (f : PcapFault). (i + 1, f))) is in
    absurd (none-some (i + 1, fault) (sym unmet ∙ met))

none_met : (left : List Capture) → fault_met left ≡ None → NoneBefore is_at_fault left (length left)
none_met left unmet j d lt =
    elim (cases_Bool (is_at_fault (get_or left j d))) [
      | inr fails ↦ fails
      | inl passes ↦
          let within = some_passes is_at_fault left j (get_or left j d) (slice_get-get_or left j d lt) passes in
          let first = position_some is_at_fault left within in
          let c = get_or left (position_or_len is_at_fault left) d in
          let p = position-Some is_at_fault left (position_or_len is_at_fault left) d first in
          absurd (met_some left (position_or_len is_at_fault left) c c.end first (slice_get-get_or left (position_or_len is_at_fault left) d within) refl (right_true (length c.records == 0) (is_some c.end) p.1) unmet)
    ]

-- one capture in place of another with the same first record
module _ (left : List Capture) (next : Taken) (g : Gives left next) (k : ℕ) (c d : Capture) (there : slice_get left k ≡ Some c) (alike : first_of d ≡ first_of c) (not_at_fault : is_at_fault d ≡ false) where
  put_none : NoneBefore is_at_fault (set left k d) (length (set left k d))
  put_none j x lt =
      elim (cases_eq j k) [
        | inl same ↦ ap (λ n. is_at_fault (get_or (set left k d) n x)) same ∙ ap is_at_fault (get_or-set_same left k d x (slice_get_within left k c there)) ∙ not_at_fault
        | inr other ↦ ap is_at_fault (get_or-set_other left k j d x other) ∙ none_met left g.unmet j x (omega (arith, lt, length-set left k d))
      ]

  put_unmet : fault_met (set left k d) ≡ None
  put_unmet = met_none (set left k d) (missing is_at_fault (set left k d) (length (set left k d)) refl put_none)

  put_stamps : (j : ℕ) → stamp_at (set left k d) j ≡ stamp_at left j
  put_stamps j =
      elim (cases_eq j k) [
        | inl same ↦
            ap (stamp_at (set left k d)) same
            ∙ ap first_stamp (get_or-set_same left k d (ended None) (slice_get_within left k c there))
            ∙ ap (option_map (λ (r : ℕ × List ℕ). r.0)) alike
            ∙ ap first_stamp (sym (get_or_from_slice_get left k c (ended None) there))
            ∙ ap (stamp_at left) (sym same)
        | inr other ↦ ap first_stamp (get_or-set_other left k j d (ended None) other)
      ]

  put_chosen : next_index (set left k d) ≡ Some g.index
  put_chosen = next_same left (set left k d) (sym (length-set left k d)) put_stamps ∙ g.chosen

  put_gives : (x : Capture) → slice_get (set left k d) g.index ≡ Some x → first_of x ≡ Some next.given
      → step (set left k d) ≡ gives (record { device = g.index + 1; given = next.given; left = slice_set (set left k d) g.index (behind x) })
  put_gives x at first =
      step-next (set left k d) (record { device = g.index + 1; given = next.given; left = slice_set (set left k d) g.index (behind x) }) put_unmet (taken_some (set left k d) g.index x next.given put_chosen at first)

  -- it gives its own record
  pub put_own : k ≡ g.index → step (set left k d) ≡ gives (record { device = next.device; given = next.given; left = set next.left k (behind d) })
  put_own same =
      let here : c ≡ g.capture = same_Some c g.capture (sym there ∙ ap (slice_get left) same ∙ g.there) in
      let at : slice_get (set left k d) g.index ≡ Some d = ap (slice_get (set left k d)) (sym same) ∙ get-set_same left k c d there in
      let first : first_of d ≡ Some next.given = alike ∙ ap first_of here ∙ g.first in
      let rest : slice_set (set left k d) g.index (behind d) ≡ set next.left k (behind d) =
      ap (λ n. slice_set (set left k d) n (behind d)) (sym same) ∙ set-set left k d (behind d) ∙ sym (set-set left k (behind g.capture) (behind d))
      ∙ ap (λ n. set (set left n (behind g.capture)) k (behind d)) same ∙ ap (λ l. set l k (behind d)) (sym g.left_is) in
      put_gives d at first ∙ ap (λ l. gives (record { device = g.index + 1; given = next.given; left = l })) rest ∙ ap (λ n. gives (record { device = n; given = next.given; left = set next.left k (behind d) })) (sym g.device_is)

  -- or another gives its
  pub put_other : k ≢ g.index → step (set left k d) ≡ gives (record { device = next.device; given = next.given; left = set next.left k d })
  put_other other =
      let at : slice_get (set left k d) g.index ≡ Some g.capture = get-set_other left k g.index d (λ e. other (sym e)) ∙ g.there in
      let rest : slice_set (set left k d) g.index (behind g.capture) ≡ set next.left k d = set_comm left k g.index d (behind g.capture) other ∙ ap (λ l. set l k d) (sym g.left_is) in
      put_gives g.capture at g.first ∙ ap (λ l. gives (record { device = g.index + 1; given = next.given; left = l })) rest ∙ ap (λ n. gives (record { device = n; given = next.given; left = set next.left k d })) (sym g.device_is)

-- ---- all steps

-- these records alone
abbrev only : List (ℕ × List ℕ) → Option PcapFault → Capture
only records end = record { records = records; end = end }

not_empty : (records rest : List (ℕ × List ℕ)) (r : ℕ × List ℕ) (end : Option PcapFault) → records ≡ r ∷ rest → is_at_fault (only records end) ≡ false
not_empty records rest r end is = ap (λ l. is_at_fault (only l end)) is ∙ ap (λ b. b && is_some end) (ne_eqb (suc (length rest)) 0 (λ e. omega arith))

pub cut_front : (number : ℕ) (left : List Capture) (frames : List Stamped) (after : List Capture) (k : ℕ) (c : Capture) (end : Option PcapFault) → IsMergedSo number left frames after → slice_get left k ≡ Some c → LastIs (k + 1) frames
    → IsMergedSo number (set left k (record { records = of_device (k + 1) frames; end = end })) frames (set after k (record { records = []; end = end }))
cut_front number left [] after k c end is there last = ap (λ l. set l k (only [] end)) is
cut_front number left (f ∷ frames) after k c end is there last =
    let next = is.0 in
    let g = gives_next left next is.1 in
    let device : f.device ≡ g.index + 1 = ap (λ (x : Stamped). x.device) is.2 ∙ g.device_is in
    let some = some_frame (k + 1) f frames last in
    let own = of_device (k + 1) (f ∷ frames) in
    let d = only own end in
    let whole = given_of number left (f ∷ frames) after k c is there in
    let first_c : first_of c ≡ Some some.0 = ap first_of whole.2 ∙ ap (λ l. slice_get (l ++ whole.0.records) 0) some.2 in
    let alike : first_of d ≡ first_of c = ap (λ l. slice_get l 0) some.2 ∙ sym first_c in
    let not_at_fault : is_at_fault d ≡ false = not_empty own some.1 some.0 end some.2 in
    elim (cases_eq k g.index) [
      | inl same ↦
          let left_there : slice_get next.left k ≡ Some (behind g.capture) = ap (λ l. slice_get l k) g.left_is ∙ ap (slice_get (set left g.index (behind g.capture))) same ∙ get-set_same left g.index g.capture (behind g.capture) g.there in
          let others = cut_front (number + 1) next.left frames after k (behind g.capture) end is.3 left_there (last_behind (k + 1) f frames last) in
          let behind_is : only (of_device (k + 1) frames) end ≡ behind d = ap (λ l. only (drop 1 l) end) (sym (own_frame (k + 1) f frames (device ∙ ap (λ n. n + 1) (sym same)))) in (
            record { device = next.device; given = next.given; left = set next.left k (behind d) },
            put_own left next g k c d there alike not_at_fault same,
            is.2,
            subst (λ x. IsMergedSo (number + 1) (set next.left k x) frames (set after k (only [] end))) behind_is others,
          )
      | inr other ↦
          let left_there : slice_get next.left k ≡ Some c = ap (λ l. slice_get l k) g.left_is ∙ get-set_other left g.index k (behind g.capture) other ∙ there in
          let others = cut_front (number + 1) next.left frames after k c end is.3 left_there (last_behind (k + 1) f frames last) in
          let records_are : only (of_device (k + 1) frames) end ≡ d = ap (λ l. only l end) (sym (other_frame (k + 1) f frames (λ e. other (omega (arith, e, device))))) in (
            record { device = next.device; given = next.given; left = set next.left k d },
            put_other left next g k c d there alike not_at_fault other,
            is.2,
            subst (λ x. IsMergedSo (number + 1) (set next.left k x) frames (set after k (only [] end))) records_are others,
          )
    ]
