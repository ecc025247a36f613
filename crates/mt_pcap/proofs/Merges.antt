-- A merge one step further, and where a loop that takes these steps stands.
use Rattle.std.proofs.Common.{◌≡◌, ◌≢◌, ℕ, zero, suc, ◌+◌, ◌-◌, ◌≤◌, List, [], ◌∷◌, ◌++◌, length, Some, None, refl, sym, ap, ◌∙◌, append_assoc, arith}
use Rattle.std.proofs.lemmas.List.{append-nil, length-append}
use Rattle.mt_packet.specs.declared.frame.Stamped.{Stamped}
use Rattle.mt_pcap.specs.declared.fault.PcapFault.{PcapFault}
use Rattle.mt_pcap.specs.Capture.{Capture}
use Rattle.mt_pcap.specs.Merge.{MergedEnd, Done, Fault, Frames, most_frames, fault_met, Taken, taken, ends, gives, merge_step_of, step, Merge, stamped, stops, goes_on, merge_from, merge_of}

-- ---- one step

pub step-fault : (left : List Capture) (fault : ℕ × PcapFault) → fault_met left ≡ Some fault → step left ≡ ends (Fault fault.0 fault.1)
unfolding step
step-fault left fault met = ap (λ o. merge_step_of o (taken left)) met

pub step-done : (left : List Capture) → fault_met left ≡ None → taken left ≡ None → step left ≡ ends Done
unfolding step
step-done left unmet none = ap (λ o. merge_step_of o (taken left)) unmet ∙ ap (merge_step_of None) none

pub step-next : (left : List Capture) (next : Taken) → fault_met left ≡ None → taken left ≡ Some next → step left ≡ gives next
unfolding step
step-next left next unmet some = ap (λ o. merge_step_of o (taken left)) unmet ∙ ap (merge_step_of None) some

-- ---- the merge at each of them

ended_so : MergedEnd → Merge
ended_so end = record { frames = []; end = end }

pub merge-ends : (room number : ℕ) (left : List Capture) (end : MergedEnd) → step left ≡ ends end → merge_from room number left ≡ record { frames = []; end = end }
unfolding merge_from
merge-ends zero number left end is = ap stops is
merge-ends (suc room) number left end is = ap (goes_on number (merge_from room (number + 1))) is

pub merge-full : (number : ℕ) (left : List Capture) (next : Taken) → step left ≡ gives next → merge_from 0 number left ≡ record { frames = []; end = Frames (most_frames + 1) }
unfolding merge_from
merge-full number left next is = ap stops is

pub merge-more : (room number : ℕ) (left : List Capture) (next : Taken) → step left ≡ gives next
    → merge_from (suc room) number left ≡ record { frames = stamped number next ∷ (merge_from room (number + 1) next.left).frames; end = (merge_from room (number + 1) next.left).end }
unfolding merge_from
merge-more room number left next is = ap (goes_on number (merge_from room (number + 1))) is

-- ---- the loop

-- what is still to come of what is left, where so many frames are given
abbrev pub to_come : List Stamped → List Capture → Merge
to_come frames left = merge_from (most_frames - length frames) (length frames) left

-- the frames given and those still to come are all
pub record Stands (frames : List Stamped) (left : List Capture) (all : Merge) : Type 0 where
  pub within : length frames ≤ most_frames
  pub frames_are : frames ++ (to_come frames left).frames ≡ all.frames
  pub end_is : (to_come frames left).end ≡ all.end

pub begins : (left : List Capture) (frames : List Stamped) → frames ≡ [] → Stands frames left (merge_of left)
unfolding merge_of
begins left frames none = rw none (record { within = omega arith; frames_are = refl; end_is = refl })

pub at_end : (frames : List Stamped) (left : List Capture) (all : Merge) (end : MergedEnd) → Stands frames left all → step left ≡ ends end → (frames ≡ all.frames) × (end ≡ all.end)
at_end frames left all end stands is =
    let come = merge-ends (most_frames - length frames) (length frames) left end is in
    let no_more : (to_come frames left).frames ≡ [] = ap (λ (m : Merge). m.frames) come in
    (sym (append-nil frames) ∙ ap (λ l. frames ++ l) (sym no_more) ∙ stands.frames_are, sym (ap (λ (m : Merge). m.end) come) ∙ stands.end_is)

pub at_limit : (frames : List Stamped) (left : List Capture) (all : Merge) (next : Taken) → Stands frames left all → length frames ≡ most_frames → step left ≡ gives next
    → (frames ≡ all.frames) × (Frames (most_frames + 1) ≡ all.end)
at_limit frames left all next stands full is =
    let none : most_frames - length frames ≡ 0 = omega (arith, full) in
    let come : to_come frames left ≡ record { frames = []; end = Frames (most_frames + 1) } = ap (λ room. merge_from room (length frames) left) none ∙ merge-full (length frames) left next is in
    let no_more : (to_come frames left).frames ≡ [] = ap (λ (m : Merge). m.frames) come in
    (sym (append-nil frames) ∙ ap (λ l. frames ++ l) (sym no_more) ∙ stands.frames_are, sym (ap (λ (m : Merge). m.end) come) ∙ stands.end_is)

pub one_more : (frames : List Stamped) (left : List Capture) (all : Merge) (next : Taken) → Stands frames left all → length frames ≢ most_frames → step left ≡ gives next
    → Stands (frames ++ stamped (length frames) next ∷ []) next.left all
one_more frames left all next stands fewer is =
    let n = length frames in
    let within = stands.within in
    let new = frames ++ stamped n next ∷ [] in
    let longer : length new ≡ n + 1 = length-append frames (stamped n next ∷ []) in
    let room : most_frames - n ≡ suc (most_frames - (n + 1)) = omega arith in
    let come = ap (λ r. merge_from r n left) room ∙ merge-more (most_frames - (n + 1)) n left next is in
    let same : merge_from (most_frames - (n + 1)) (n + 1) next.left ≡ to_come new next.left = ap (λ k. merge_from (most_frames - k) k next.left) (sym longer) in
    let gone : (to_come frames left).frames ≡ stamped n next ∷ (to_come new next.left).frames = ap (λ (m : Merge). m.frames) come ∙ ap (λ (m : Merge). stamped n next ∷ m.frames) same in
    record {
      within = omega (arith, longer);
      frames_are = append_assoc frames (stamped n next ∷ []) (to_come new next.left).frames ∙ ap (λ l. frames ++ l) (sym gone) ∙ stands.frames_are;
      end_is = sym (ap (λ (m : Merge). m.end) come ∙ ap (λ (m : Merge). m.end) same) ∙ stands.end_is;
    }
