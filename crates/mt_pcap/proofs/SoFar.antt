-- A merge from its beginning: one frame more, its end, and a read that fails.
use Rattle.std.proofs.Common.{◌≡◌, inl, inr, ℕ, ◌+◌, ◌-◌, ◌<◌, ◌≤◌, List, [], ◌∷◌, ◌++◌, length, map, get_or, Option, Some, None, refl, sym, ap, subst, ◌∙◌, append_assoc, arith}
use Rattle.std.specs.Prelude.{slice_get, slice_set, option_map, IfSome, ◌==◌}
use Rattle.std.specs.List.{filter}
use Rattle.std.proofs.lemmas.Bool.{cases_eq}
use Rattle.std.proofs.lemmas.List.{append-nil, map-append, length-append, length-map}
use Rattle.std.proofs.lemmas.List.Elements.{filter-append}
use Rattle.std.proofs.lemmas.Option.{none-some, same_Some, slice_get-map, slice_get_within, slice_get-get_or}
use Rattle.mt_packet.specs.declared.frame.Stamped.{Stamped}
use Rattle.mt_pcap.specs.declared.fault.PcapFault.TheVariants.{ReadFault}
use Rattle.mt_pcap.specs.Capture.{Capture, ended, capture_of}
use Rattle.mt_pcap.specs.Stream.{ReaderState, left_at, IsWithin, TakesSo, HasNoRecord}
use Rattle.mt_pcap.specs.Merge.{MergedEnd, Fault, Frames, most_frames, step, stamped, merge_of}
use Rattle.mt_pcap.specs.MergeFacts.{of_device}
use Rattle.mt_pcap.specs.Sources.{Source, MergeState, begun, all_left, EndsSo, GivesSo}
use Rattle.mt_pcap.specs.Filling.{IsReady, stands_ready}
use Rattle.mt_pcap.specs.Opened.{capture_in, captures_in, AreOpened}
use Rattle.mt_pcap.specs.Merged.{head_in_front, source_left, all_in_front, IsUnended, HasGiven, AreReadyBut, HasBroken, IsGivenSo, HasMerged, broken_at}
use Rattle.mt_pcap.specs.MergedLaws.{BeginsToMerge, MergesOn, MergesWhole, MergesFull, MergesSoFar, MergesBroken, FailsToRead, OpenedStill, MergedStill}
use Rattle.mt_pcap.proofs.Ends.{get_last}
use Rattle.mt_pcap.proofs.Streams.{takes_so_twice}
use Rattle.mt_pcap.proofs.ToEnd.{merges_to_end, merges_to_limit, merges_front, merges_one_more}
use Rattle.mt_pcap.proofs.MergeStreams.{each_is, name_at, same_names}
use Rattle.mt_pcap.proofs.Goes.{unread}
use Rattle.mt_pcap.proofs.AllGoes.{name_agrees}
use Rattle.mt_pcap.proofs.Broken.{LastIs, cut_front}

-- ---- before the first frame

given_none : (o : Option (List Capture)) → IsGivenSo o [] o
given_none None = refl
given_none (Some captures) = (captures, refl, refl)

-- what was read of a capture that was opened
reader_of : (readers : List ReaderState) (k : ℕ) (s : Source) (o : Option ReaderState) → slice_get readers k ≡ o → option_map unread o ≡ Some s → (r : ReaderState) × (slice_get readers k ≡ Some r) × (unread r ≡ s)
reader_of readers k s None there is = absurd (none-some s is)
reader_of readers k s (Some r) there is = (r, there, same_Some (unread r) s is)

begun_at : (readers : List ReaderState) (k : ℕ) (s : Source) → slice_get (begun readers) k ≡ Some s → (r : ReaderState) × (slice_get readers k ≡ Some r) × (unread r ≡ s)
begun_at readers k s there = reader_of readers k s (slice_get readers k) refl (sym (slice_get-map unread readers k) ∙ there)

begun_merge : (names : List (List ℕ)) (first held : List ℕ → Option (List ℕ)) (readers : List ReaderState) → AreOpened names first held readers → HasMerged names first held [] (record { sources = begun readers; given = 0 })
begun_merge names first held readers opened = record {
  named = same_names readers ∙ opened.named;
  counted = refl;
  given = subst (IsGivenSo (captures_in first names) []) (sym opened.left) (given_none (captures_in first names));
  read = λ k s there.
      let r = begun_at readers k s there in
      let one = opened.read k r.0 r.1 in
      subst (λ (t : Source). TakesSo (first t.reader.name) (held t.reader.name) (λ bytes. IsUnended t → (behind : List ℕ) → capture_of (bytes ++ behind) ≡ all_in_front (of_device (k + 1) []) (source_left t behind))) r.2
      (one.0, one.1, λ unended behind. sym (one.2.1 behind));
  unbroken = λ k s fault there is.
      let r = begun_at readers k s there in
      let one = opened.read k r.0 r.1 in
      subst IsWithin (ap (λ (t : Source). t.reader.standing) r.2 ∙ is) one.2.0;
  ready = λ last there. absurd (none-some last there);
}

pub begins_to_merge : BeginsToMerge
begins_to_merge names first held readers merge opened sources given =
    subst (HasMerged names first held []) (λ i. record { sources = sym sources i; given = sym given i }) (begun_merge names first held readers opened)

-- ---- one frame more

given_more : (o old new : Option (List Capture)) (frames : List Stamped) (number : ℕ) (frame : Stamped) → number ≡ length frames → IsGivenSo o frames old → GivesSo number old frame new → IsGivenSo o (frames ++ frame ∷ []) new
given_more None None new frames number frame counted so gives = gives
given_more None (Some left) new frames number frame counted so gives = absurd (none-some left (sym so))
given_more (Some captures) None new frames number frame counted so gives = absurd (none-some so.0 so.1)
given_more (Some captures) (Some left) new frames number frame counted so gives =
    let same : left ≡ so.0 = same_Some left so.0 so.1 in
    let next = gives.0 in (
      next.left,
      gives.3,
      merges_one_more 0 captures frames so.0 frame next so.2 (ap step (sym same) ∙ gives.1) (gives.2 ∙ ap (λ n. stamped n next) (counted ∙ omega arith)),
    )

-- the frames of a device, with one more
device_more : (device : ℕ) (frames : List Stamped) (frame : Stamped) → of_device device (frames ++ frame ∷ []) ≡ of_device device frames ++ of_device device (frame ∷ [])
device_more device frames frame =
    ap (map (λ (f : Stamped). (f.stamp, f.frame))) (filter-append (λ (f : Stamped). f.device == device) frames (frame ∷ []))
    ∙ map-append (λ (f : Stamped). (f.stamp, f.frame)) (filter (λ (f : Stamped). f.device == device) frames) (filter (λ (f : Stamped). f.device == device) (frame ∷ []))

-- what was read of a capture, with what it gave since
read_more : (records more : List (ℕ × List ℕ)) (s t : Source) (a b : List ℕ) → (IsUnended s → (behind : List ℕ) → capture_of (a ++ behind) ≡ all_in_front records (source_left s behind)) → HasGiven more s b t
    → IsUnended t → (behind : List ℕ) → capture_of ((a ++ b) ++ behind) ≡ all_in_front (records ++ more) (source_left t behind)
read_more records more s t a b read given unended behind =
    let before = given unended in
    ap capture_of (append_assoc a b behind)
    ∙ read before.0 (b ++ behind)
    ∙ ap (all_in_front records) (before.1 behind)
    ∙ ap (λ l. record { records = l; end = (source_left t behind).end }) (sym (append_assoc records more (source_left t behind).records))

pub merges_on : MergesOn
merges_on names first old new frames merge after frame merged gives given ready unbroken named counted = record {
  named = named ∙ merged.named;
  counted = counted ∙ ap (λ n. n + 1) merged.counted ∙ sym (length-append frames (frame ∷ []));
  given = given_more (captures_in first names) (all_left old merge.sources) (all_left new after.sources) frames merge.given frame merged.counted merged.given gives;
  read = λ k t there.
      let lt = slice_get_within after.sources k t there in
      let long : length after.sources ≡ length merge.sources = sym (length-map after.sources (λ (s : Source). s.reader.name)) ∙ ap length named ∙ length-map merge.sources (λ (s : Source). s.reader.name) in
      let s : Source = get_or merge.sources k t in
      let at : slice_get merge.sources k ≡ Some s = slice_get-get_or merge.sources k t (omega arith) in
      let same : t.reader.name ≡ s.reader.name = name_agrees merge.sources after.sources k s t named at there in
      let both : TakesSo (first s.reader.name) (new s.reader.name) (λ bytes. IsUnended t → (behind : List ℕ) → capture_of (bytes ++ behind) ≡ all_in_front (of_device (k + 1) frames ++ of_device (k + 1) (frame ∷ [])) (source_left t behind)) =
      takes_so_twice (first s.reader.name) (old s.reader.name) (new s.reader.name) _ (λ bytes. HasGiven (of_device (k + 1) (frame ∷ [])) s bytes t) _ (merged.read k s at) (given k s t at there)
      (λ a b. read_more (of_device (k + 1) frames) (of_device (k + 1) (frame ∷ [])) s t a b) in
      subst (λ n. TakesSo (first n) (new n) (λ bytes. IsUnended t → (behind : List ℕ) → capture_of (bytes ++ behind) ≡ all_in_front (of_device (k + 1) (frames ++ frame ∷ [])) (source_left t behind))) (sym same)
      (subst (λ l. TakesSo (first s.reader.name) (new s.reader.name) (λ bytes. IsUnended t → (behind : List ℕ) → capture_of (bytes ++ behind) ≡ all_in_front l (source_left t behind))) (sym (device_more (k + 1) frames frame)) both);
  unbroken = unbroken merged.unbroken;
  ready = λ last there.
      let end : length (frames ++ frame ∷ []) - 1 ≡ length frames = omega (arith, length-append frames (frame ∷ [])) in
      let is : frame ≡ last = same_Some frame last (sym (get_last frames frame) ∙ ap (slice_get (frames ++ frame ∷ [])) (sym end) ∙ there) in
      subst (λ (f : Stamped). AreReadyBut f.device after.sources) is ready;
}

-- ---- the end

ends_whole : (o left : Option (List Capture)) (frames : List Stamped) (end : MergedEnd) → length frames ≤ most_frames → IsGivenSo o frames left → EndsSo left end → IfSome o (λ captures. merge_of captures ≡ record { frames = frames; end = end })
ends_whole None left frames end fits so ended_so = tt
ends_whole (Some captures) left frames end fits so ended_so = merges_to_end captures frames so.0 end fits so.2 (subst (λ l. EndsSo l end) so.1 ended_so)

pub merges_whole : MergesWhole
merges_whole names first held frames merge end merged fits ended_so = ends_whole (captures_in first names) (all_left held merge.sources) frames end fits merged.given ended_so

ends_full : (o left : Option (List Capture)) (frames : List Stamped) (number : ℕ) (frame : Stamped) (after : Option (List Capture)) → length frames ≡ most_frames → IsGivenSo o frames left → GivesSo number left frame after
    → IfSome o (λ captures. merge_of captures ≡ record { frames = frames; end = Frames (most_frames + 1) })
ends_full None left frames number frame after full so gives = tt
ends_full (Some captures) left frames number frame after full so gives =
    let next = subst (λ l. GivesSo number l frame after) so.1 gives in
    merges_to_limit captures frames so.0 next.0 full so.2 next.1

pub merges_full : MergesFull
merges_full names first held frames merge frame after merged full gives = ends_full (captures_in first names) (all_left held merge.sources) frames merge.given frame after full merged.given gives

front_so : (o left : Option (List Capture)) (frames : List Stamped) → length frames ≤ most_frames → IsGivenSo o frames left → IfSome o (λ captures. (rest : List Stamped) × ((merge_of captures).frames ≡ frames ++ rest))
front_so None left frames fits so = tt
front_so (Some captures) left frames fits so = merges_front captures frames so.0 fits so.2

pub merges_so_far : MergesSoFar
merges_so_far names first held frames merge merged fits = front_so (captures_in first names) (all_left held merge.sources) frames fits merged.given

-- ---- a read that fails

-- the capture of the device has given the last frame
not_ready : (s : Source) → s.head ≡ None → IsUnended s → IsReady s → ⊥
not_ready s none unended ready = unended (subst (λ h. stands_ready h s.reader.standing) none ready)

last_of : (names : List (List ℕ)) (first held after : List ℕ → Option (List ℕ)) (frames : List Stamped) (merge : MergeState) (device : ℕ) → HasMerged names first held frames merge → (b : HasBroken merge.sources device held after) → LastIs (b.index + 1) frames
last_of names first held after frames merge device merged b last there =
    elim (cases_eq last.device (b.index + 1)) [
      | inl same ↦ same
      | inr other ↦ absurd (not_ready b.source b.no_head b.unended (merged.ready last there b.index b.source b.there (λ e. other (sym e))))
    ]

-- what was given of the capture is what was read of it
records_are : (records : List (ℕ × List ℕ)) (s : Source) (a b : List ℕ) → (IsUnended s → (behind : List ℕ) → capture_of (a ++ behind) ≡ all_in_front records (source_left s behind)) → s.head ≡ None → IsUnended s → HasNoRecord s.reader.standing b
    → (capture_of (a ++ b)).records ≡ records
records_are records s a b read none unended cut =
    ap (λ (c : Capture). c.records) (read unended b)
    ∙ ap (λ h. records ++ (head_in_front h (left_at s.reader.standing b)).records) none
    ∙ ap (λ l. records ++ l) cut
    ∙ append-nil records

breaks_so : (o left : Option (List Capture)) (frames : List Stamped) (k device : ℕ) (bytes : List ℕ) → length frames ≤ most_frames → IsGivenSo o frames left → LastIs (k + 1) frames → device ≡ k + 1
    → EndsSo (option_map (λ l. slice_set l k (ended (Some ReadFault))) left) (Fault device ReadFault) → ((captures : List Capture) → o ≡ Some captures → k < length captures) → (capture_of bytes).records ≡ of_device (k + 1) frames
    → IfSome o (λ captures. merge_of (slice_set captures k (broken_at bytes)) ≡ record { frames = frames; end = Fault device ReadFault })
breaks_so None left frames k device bytes fits so last device_is met within records = tt
breaks_so (Some captures) left frames k device bytes fits so last device_is met within records =
    let there = slice_get-get_or captures k (ended None) (within captures refl) in
    let cut = cut_front 0 captures frames so.0 k (get_or captures k (ended None)) (Some ReadFault) so.2 there last in
    let broken = subst (λ r. merge_of (slice_set captures k (record { records = r; end = Some ReadFault })) ≡ record { frames = frames; end = Fault device ReadFault }) (sym records)
    (merges_to_end (slice_set captures k (record { records = of_device (k + 1) frames; end = Some ReadFault })) frames (slice_set so.0 k (ended (Some ReadFault))) (Fault device ReadFault) fits cut
    (subst (λ l. EndsSo (option_map (λ l. slice_set l k (ended (Some ReadFault))) l) (Fault device ReadFault)) so.1 met)) in
    broken

pub merges_broken : MergesBroken
merges_broken names first held after frames merge device merged fits b = record {
  index = b.index;
  name = b.source.reader.name;
  device_is = b.device_is;
  there = there;
  merged =
      takes_so_twice (first b.source.reader.name) (held b.source.reader.name) (after b.source.reader.name)
      (λ bytes. IsUnended b.source → (behind : List ℕ) → capture_of (bytes ++ behind) ≡ all_in_front (of_device (b.index + 1) frames) (source_left b.source behind)) (HasNoRecord b.source.reader.standing)
      (λ bytes. IfSome (captures_in first names) (λ captures. merge_of (slice_set captures b.index (broken_at bytes)) ≡ record { frames = frames; end = Fault device ReadFault }))
      (merged.read b.index b.source b.there) b.cut
      (λ x y read cut. breaks_so (captures_in first names) (all_left held merge.sources) frames b.index device (x ++ y) fits merged.given (last_of names first held after frames merge device merged b) b.device_is b.met within
      (records_are (of_device (b.index + 1) frames) b.source x y read b.no_head b.unended cut));
}
  where
    there : slice_get names b.index ≡ Some b.source.reader.name
    there = ap (λ l. slice_get l b.index) (sym merged.named) ∙ name_at merge.sources b.index b.source b.there

    within : (captures : List Capture) → captures_in first names ≡ Some captures → b.index < length captures
    within captures told = let long = (each_is (capture_in first) names captures told).long in let lt = slice_get_within names b.index b.source.reader.name there in omega arith

pub fails_to_read : FailsToRead
fails_to_read names first held frames merge device old new merged failed =
    elim failed.4 [
      | inl stood ↦ absurd (merged.unbroken failed.0 failed.1 ReadFault failed.3 stood)
      | inr rose ↦ (failed.0, failed.1.reader.name, failed.2, ap (λ l. slice_get l failed.0) (sym merged.named) ∙ name_at merge.sources failed.0 failed.1 failed.3, rose)
    ]

-- ---- calls that read no file

pub opened_still : OpenedStill
opened_still names first old new readers same opened = subst (λ held. AreOpened names first held readers) (λ i name. sym (same name) i) opened

pub merged_still : MergedStill
merged_still names first old new frames merge same merged = subst (λ held. HasMerged names first held frames merge) (λ i name. sym (same name) i) merged
