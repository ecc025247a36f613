-- What is given one after the other is the whole, by induction on what was given.
use Rattle.std.proofs.Common.{◌≡◌, ℕ, suc, ◌+◌, ◌-◌, ◌≤◌, List, [], ◌∷◌, ◌++◌, length, refl, sym, ap, ◌∙◌, arith}
use Rattle.mt_packet.specs.declared.frame.Stamped.{Stamped}
use Rattle.mt_pcap.specs.Capture.{Capture}
use Rattle.mt_pcap.specs.Stream.{in_front}
use Rattle.mt_pcap.specs.Merge.{MergedEnd, Frames, most_frames, ends, gives, step, Taken, stamped, Merge, merge_from, merge_of}
use Rattle.mt_pcap.specs.StreamLaws.{ReadsToEnd, IsMergedSo, MergesToEnd, MergesToLimit, MergesFront, MergesOneMore}
use Rattle.mt_pcap.proofs.Merges.{merge-ends, merge-full, merge-more}

pub reads_to_end : ReadsToEnd
reads_to_end capture [] end is = is
reads_to_end capture (r ∷ records) end is = is.1 ∙ ap (in_front r) (reads_to_end is.0 records end is.2)

abbrev with_frame : Stamped → Merge → Merge
with_frame frame m = record { frames = frame ∷ m.frames; end = m.end }

-- one more frame, where there is room
one_more : (room number : ℕ) (left : List Capture) (frame : Stamped) (next : Taken) → step left ≡ gives next → frame ≡ stamped number next
    → merge_from (suc room) number left ≡ with_frame frame (merge_from room (number + 1) next.left)
one_more room number left frame next gave is = merge-more room number left next gave ∙ ap (λ f. with_frame f (merge_from room (number + 1) next.left)) (sym is)

merged_to_end : (room number : ℕ) (left : List Capture) (frames : List Stamped) (after : List Capture) (end : MergedEnd) → length frames ≤ room → IsMergedSo number left frames after → step after ≡ ends end
    → merge_from room number left ≡ record { frames = frames; end = end }
merged_to_end room number left [] after end fits is stopped = merge-ends room number left end (ap step (sym is) ∙ stopped)
merged_to_end room number left (frame ∷ frames) after end fits is stopped =
    let fewer : room ≡ suc (room - 1) = omega arith in
    ap (λ n. merge_from n number left) fewer
    ∙ one_more (room - 1) number left frame is.0 is.1 is.2
    ∙ ap (with_frame frame) (merged_to_end (room - 1) (number + 1) is.0.left frames after end (omega arith) is.3 stopped)

merged_to_limit : (room number : ℕ) (left : List Capture) (frames : List Stamped) (after : List Capture) (next : Taken) → length frames ≡ room → IsMergedSo number left frames after → step after ≡ gives next
    → merge_from room number left ≡ record { frames = frames; end = Frames (most_frames + 1) }
merged_to_limit room number left [] after next full is gave =
    let none : room ≡ 0 = omega (arith, full) in
    ap (λ n. merge_from n number left) none ∙ merge-full number left next (ap step (sym is) ∙ gave)
merged_to_limit room number left (frame ∷ frames) after next full is gave =
    let fewer : room ≡ suc (room - 1) = omega arith in
    ap (λ n. merge_from n number left) fewer
    ∙ one_more (room - 1) number left frame is.0 is.1 is.2
    ∙ ap (with_frame frame) (merged_to_limit (room - 1) (number + 1) is.0.left frames after next (omega arith) is.3 gave)

pub merges_to_end : MergesToEnd
unfolding merge_of
merges_to_end captures frames after end fits is stopped = merged_to_end most_frames 0 captures frames after end fits is stopped

pub merges_to_limit : MergesToLimit
unfolding merge_of
merges_to_limit captures frames after next full is gave = merged_to_limit most_frames 0 captures frames after next full is gave

-- ---- a front of a merge

front_of : (room number : ℕ) (left : List Capture) (frames : List Stamped) (after : List Capture) → length frames ≤ room → IsMergedSo number left frames after
    → (rest : List Stamped) × ((merge_from room number left).frames ≡ frames ++ rest)
front_of room number left [] after fits is = ((merge_from room number left).frames, refl)
front_of room number left (frame ∷ frames) after fits is =
    let fewer : room ≡ suc (room - 1) = omega arith in
    let others = front_of (room - 1) (number + 1) is.0.left frames after (omega arith) is.3 in (
      others.0,
      ap (λ n. (merge_from n number left).frames) fewer
          ∙ ap (λ (m : Merge). m.frames) (one_more (room - 1) number left frame is.0 is.1 is.2)
          ∙ ap (λ l. frame ∷ l) others.1,
    )

pub merges_front : MergesFront
unfolding merge_of
merges_front captures frames after fits is = front_of most_frames 0 captures frames after fits is

pub merges_one_more : MergesOneMore
merges_one_more number left [] middle frame next is gave frame_is =
    (next, ap step (sym is) ∙ gave, frame_is ∙ ap (λ n. stamped n next) (omega arith), refl)
merges_one_more number left (f ∷ frames) middle frame next is gave frame_is =
    let later : number + length (f ∷ frames) ≡ number + 1 + length frames = omega arith in
    (is.0, is.1, is.2, merges_one_more (number + 1) is.0.left frames middle frame next is.3 gave (frame_is ∙ ap (λ n. stamped n next) later))
