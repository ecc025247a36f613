-- What the captures of a merge gave, as they are filled one after the other, and as a record is taken.
use Rattle.std.proofs.Common.{◌≡◌, inl, inr, ℕ, ◌+◌, ◌<◌, List, [], ◌∷◌, ◌++◌, length, Option, Some, None, refl, sym, ap, subst, ◌∙◌, arith}
use Rattle.std.specs.Prelude.{slice_get, slice_set, option_map}
use Rattle.std.proofs.Math.ListN.{set}
use Rattle.std.proofs.lemmas.Option.{same_Some, slice_get_within}
use Rattle.std.proofs.lemmas.List.{get_or-set_other}
use Rattle.mt_io.specs.Files.{IsSameBut}
use Rattle.mt_lists.proofs.Positions.{NoneBefore, found}
use Rattle.mt_packet.specs.declared.frame.Stamped.{Stamped}
use Rattle.mt_pcap.specs.declared.fault.PcapFault.{PcapFault}
use Rattle.mt_pcap.specs.declared.fault.PcapFault.TheVariants.{ReadFault}
use Rattle.mt_pcap.specs.Capture.{Capture, ended}
use Rattle.mt_pcap.specs.Stream.{over, left_at, TakesSo, HasNoRecord}
use Rattle.mt_pcap.specs.Merge.{Fault, is_at_fault}
use Rattle.mt_pcap.specs.MergeFacts.{of_device}
use Rattle.mt_pcap.specs.Sources.{Source, names_of, AreApart, left_in, all_left, EndsSo}
use Rattle.mt_pcap.specs.Filling.{IsReady, AreReady, HasTaken}
use Rattle.mt_pcap.specs.Merged.{head_in_front, IsUnended, HasGiven, HaveGiven, AreUnbroken, AreReadyBut, HasBroken}
use Rattle.mt_pcap.proofs.Merges.{step-fault}
use Rattle.mt_pcap.proofs.MergeLaws.{own_frame, other_frame}
use Rattle.mt_pcap.proofs.MergeStreams.{set_cases, get-set_same, each_is, name_at, names_same, none_at_fault, met_at}
use Rattle.mt_pcap.proofs.Streams.{nothing_so, takes_so_twice}
use Rattle.mt_pcap.proofs.Goes.{given_nothing, given_twice}

-- a name stands where it stood
pub name_agrees : (old xs : List Source) (k : ℕ) (s t : Source) → names_of xs ≡ names_of old → slice_get old k ≡ Some s → slice_get xs k ≡ Some t → t.reader.name ≡ s.reader.name
name_agrees old xs k s t names at_s at_t = same_Some t.reader.name s.reader.name (sym (name_at xs k t at_t) ∙ ap (λ l. slice_get l k) names ∙ name_at old k s at_s)

-- ---- what they gave

pub none_given_yet : (xs : List Source) (held : List ℕ → Option (List ℕ)) → HaveGiven [] xs xs held held
none_given_yet xs held k s t at_s at_t =
    subst (λ u. TakesSo (held s.reader.name) (held s.reader.name) (λ bytes. HasGiven [] s bytes u)) (same_Some s t (sym at_s ∙ at_t)) (given_nothing s (held s.reader.name) (held s.reader.name) refl)

-- one of them went on
pub one_given : (old xs : List Source) (k : ℕ) (s t : Source) (first before after : List ℕ → Option (List ℕ)) → AreApart (names_of xs) → names_of xs ≡ names_of old → slice_get xs k ≡ Some s
    → IsSameBut s.reader.name before after → TakesSo (before s.reader.name) (after s.reader.name) (λ bytes. HasGiven [] s bytes t) → HaveGiven [] old xs first before → HaveGiven [] old (set xs k t) first after
one_given old xs k s t first before after apart names there others step all j a u at_a at_u =
    elim (set_cases xs k j s t u there at_u) [
      | inl same ↦
          let here : slice_get xs j ≡ Some s = ap (slice_get xs) same.0 ∙ there in
          let named : s.reader.name ≡ a.reader.name = name_agrees old xs j a s names at_a here in
          let on : TakesSo (before a.reader.name) (after a.reader.name) (λ bytes. HasGiven [] s bytes t) = subst (λ n. TakesSo (before n) (after n) (λ bytes. HasGiven [] s bytes t)) named step in
          subst (λ v. TakesSo (first a.reader.name) (after a.reader.name) (λ bytes. HasGiven [] a bytes v)) (sym same.1)
          (takes_so_twice (first a.reader.name) (before a.reader.name) (after a.reader.name) (λ bytes. HasGiven [] a bytes s) (λ bytes. HasGiven [] s bytes t) (λ bytes. HasGiven [] a bytes t) (all j a s at_a here) on (given_twice [] [] a s t))
      | inr other ↦
          let named : u.reader.name ≡ a.reader.name = name_agrees old xs j a u names at_a other.1 in
          let kept : after a.reader.name ≡ before a.reader.name = others a.reader.name (λ e. names_same xs j k u s apart other.1 there other.0 (named ∙ e)) in
          subst (λ o. TakesSo (first a.reader.name) o (λ bytes. HasGiven [] a bytes u)) (sym kept) (all j a u at_a other.1)
    ]

-- a record was taken
abbrev frame_of : ℕ → ℕ → ℕ × List ℕ → Stamped
frame_of device number r = record { stamp = r.0; device = device; number = number; frame = r.1 }

abbrev without_head : Source → Source
without_head s = record { reader = s.reader; head = None }

head_given : (s : Source) (r : ℕ × List ℕ) → s.head ≡ Some r → HasGiven (r ∷ []) s [] (without_head s)
head_given s r is unended = (unended, λ behind. ap (λ h. head_in_front h (left_at s.reader.standing behind)) is)

pub taken_given : (old xs new : List Source) (device number : ℕ) (r : ℕ × List ℕ) (first held : List ℕ → Option (List ℕ)) → HasTaken xs device r new → HaveGiven [] old xs first held
    → HaveGiven (record { stamp = r.0; device = device; number = number; frame = r.1 } ∷ []) old new first held
taken_given old xs new device number r first held gone all j a u at_a at_u =
    elim (set_cases xs gone.index j gone.source (without_head gone.source) u gone.there (ap (λ l. slice_get l j) (sym gone.after) ∙ at_u)) [
      | inl same ↦
          let here : slice_get xs j ≡ Some gone.source = ap (slice_get xs) same.0 ∙ gone.there in
          let given : of_device (j + 1) (frame_of device number r ∷ []) ≡ r ∷ [] = own_frame (j + 1) (frame_of device number r) [] (gone.device_is ∙ ap (λ n. n + 1) (sym same.0)) in
          let both : TakesSo (first a.reader.name) (held a.reader.name) (λ bytes. HasGiven (r ∷ []) a bytes (without_head gone.source)) =
          takes_so_twice (first a.reader.name) (held a.reader.name) (held a.reader.name) (λ bytes. HasGiven [] a bytes gone.source) (λ bytes. HasGiven (r ∷ []) gone.source bytes (without_head gone.source)) (λ bytes. HasGiven (r ∷ []) a bytes (without_head gone.source)) (all j a gone.source at_a here)
          (nothing_so (held a.reader.name) (held a.reader.name) (λ bytes. HasGiven (r ∷ []) gone.source bytes (without_head gone.source)) refl (head_given gone.source r gone.head)) (given_twice [] (r ∷ []) a gone.source (without_head gone.source)) in
          subst (λ v. TakesSo (first a.reader.name) (held a.reader.name) (λ bytes. HasGiven (of_device (j + 1) (frame_of device number r ∷ [])) a bytes v)) (sym same.1)
          (subst (λ l. TakesSo (first a.reader.name) (held a.reader.name) (λ bytes. HasGiven l a bytes (without_head gone.source))) (sym given) both)
      | inr other ↦
          let d = gone.device_is in
          let ne = other.0 in
          let none : of_device (j + 1) (frame_of device number r ∷ []) ≡ [] = other_frame (j + 1) (frame_of device number r) [] (λ e. ne (omega (arith, d, e))) in
          subst (λ l. TakesSo (first a.reader.name) (held a.reader.name) (λ bytes. HasGiven l a bytes u)) (sym none) (all j a u at_a other.1)
    ]

-- ---- whether they are at a fault, and ready

pub unbroken_set : (xs : List Source) (k : ℕ) (s t : Source) → slice_get xs k ≡ Some s → ((fault : PcapFault) → t.reader.standing ≡ over (Some fault) → s.reader.standing ≡ over (Some fault)) → AreUnbroken xs → AreUnbroken (set xs k t)
unbroken_set xs k s t there same unbroken j u fault at is =
    elim (set_cases xs k j s t u there at) [
      | inl here ↦ unbroken k s fault there (same fault (ap (λ (v : Source). v.reader.standing) (sym here.1) ∙ is))
      | inr other ↦ unbroken j u fault other.1 is
    ]

pub unbroken_taken : (xs new : List Source) (device : ℕ) (r : ℕ × List ℕ) → HasTaken xs device r new → AreUnbroken xs → AreUnbroken new
unbroken_taken xs new device r gone unbroken = subst AreUnbroken (sym gone.after) (unbroken_set xs gone.index gone.source (without_head gone.source) gone.there (λ fault is. is) unbroken)

pub ready_taken : (xs new : List Source) (device : ℕ) (r : ℕ × List ℕ) → HasTaken xs device r new → AreReady xs → AreReadyBut device new
ready_taken xs new device r gone ready j u at apart =
    elim (set_cases xs gone.index j gone.source (without_head gone.source) u gone.there (ap (λ l. slice_get l j) (sym gone.after) ∙ at)) [
      | inl same ↦ let d = gone.device_is in absurd (apart (ap (λ n. n + 1) same.0 ∙ sym d))
      | inr other ↦ ready j u other.1
    ]

-- ---- a read failed

-- where the capture ended here with a fault, the merge would end with it
met_here : (held : List ℕ → Option (List ℕ)) (xs : List Source) (k : ℕ) (s : Source) → slice_get xs k ≡ Some s → ((j : ℕ) (u : Source) → j < k → slice_get xs j ≡ Some u → IsReady u)
    → EndsSo (option_map (λ left. slice_set left k (ended (Some ReadFault))) (all_left held xs)) (Fault (k + 1) ReadFault)
met_here held xs k s there before = by_left (all_left held xs) refl
  where
    by_left : (o : Option (List Capture)) → all_left held xs ≡ o → EndsSo (option_map (λ left. slice_set left k (ended (Some ReadFault))) o) (Fault (k + 1) ReadFault)
    by_left None told = tt
    by_left (Some left) told =
        let each = each_is (left_in held) xs left told in
        let at = each.at k s there in
        let lt : k < length left = slice_get_within left k at.0 at.1 in
        let here : slice_get (set left k (ended (Some ReadFault))) k ≡ Some (ended (Some ReadFault)) = get-set_same left k at.0 (ended (Some ReadFault)) at.1 in
        let none : NoneBefore is_at_fault (set left k (ended (Some ReadFault))) k = λ j d lower.
        ap is_at_fault (get_or-set_other left k j (ended (Some ReadFault)) d (λ e. omega arith)) ∙ none_at_fault held xs left k each (omega arith) before j d lower in
        let first = found is_at_fault (set left k (ended (Some ReadFault))) k (ended (Some ReadFault)) none here refl in
        step-fault (set left k (ended (Some ReadFault))) (k + 1, ReadFault) (met_at (set left k (ended (Some ReadFault))) k ReadFault first here)

-- what was taken holds no whole record, what was taken before included
cut_later : (s : Source) (a b : List ℕ) → s.head ≡ None → IsUnended s → HasGiven [] s a s → HasNoRecord s.reader.standing b → HasNoRecord s.reader.standing (a ++ b)
cut_later s a b no_head unended one none =
    let bare = λ (held : List ℕ). ap (λ h. head_in_front h (left_at s.reader.standing held)) no_head in
    ap (λ (c : Capture). c.records) (sym (bare (a ++ b)) ∙ (one unended).1 b ∙ bare b) ∙ none

pub broken_here : (old xs : List Source) (k : ℕ) (s : Source) (first before after : List ℕ → Option (List ℕ)) → slice_get old k ≡ Some s → slice_get xs k ≡ Some s → all_left before xs ≡ all_left first old
    → ((j : ℕ) (u : Source) → j < k → slice_get xs j ≡ Some u → IsReady u) → HaveGiven [] old xs first before
    → (s.head ≡ None) × IsUnended s × TakesSo (before s.reader.name) (after s.reader.name) (HasNoRecord s.reader.standing) → HasBroken old (k + 1) first after
broken_here old xs k s first before after there still left ready given failed = record {
  index = k;
  source = s;
  device_is = refl;
  there = there;
  no_head = failed.0;
  unended = failed.1;
  cut = takes_so_twice (first s.reader.name) (before s.reader.name) (after s.reader.name) (λ bytes. HasGiven [] s bytes s) (HasNoRecord s.reader.standing) (HasNoRecord s.reader.standing) (given k s s there still) failed.2 (λ a b one none. cut_later s a b failed.0 failed.1 one none);
  met = subst (λ o. EndsSo (option_map (λ left. slice_set left k (ended (Some ReadFault))) o) (Fault (k + 1) ReadFault)) left (met_here before xs k s still ready);
}
