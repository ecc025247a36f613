-- What is written to the files of devices.
use Rattle.std.proofs.Common.{◌≡◌, ◌≢◌, inl, inr, true, false, ℕ, ◌+◌, List, [], ◌∷◌, ◌++◌, sym, ◌∙◌, ap, subst, arith}
use Rattle.std.specs.Prelude.{Some, None, slice_get, nat_eq, if◌then◌else◌, Result, OnErr}
use Rattle.std.specs.List.{flat_map}
use Rattle.std.proofs.lemmas.Bool.{cases_eq}
use Rattle.std.proofs.lemmas.Bool.Decides.{nat_tests}
use Rattle.std.proofs.lemmas.List.{append-nil}
use Rattle.mt_io.specs.Files.{Gains, IsSame, NeverFell}
use Rattle.mt_io.specs.Copy.{GainsFront}
use Rattle.mt_io.specs.Laws.{gains_nothing, gains_twice, gains_then_front, gains_front, front_of_nothing, then_rose, rose_then}
use Rattle.mt_pcap.specs.Text.{record_text}
use Rattle.mt_packet.specs.declared.frame.Stamped.{Stamped}
use Rattle.mt_chain.specs.declared.run.Fate.{Fate}
use Rattle.mt_chain.specs.declared.run.Fate.TheVariants.{Sent}
use Rattle.mt_chain.specs.Fates.{fate_text}
use Rattle.metron.specs.Serving.{Held, Outputs, IsFile, AreFilesApart, AllGain, AllGainFront, IsSameElsewhere, OutputFault}
use Rattle.metron.specs.declared.outcome.FileId.TheVariants as file
use Rattle.metron.specs.declared.outcome.Fault.{Fault}
use Rattle.metron.specs.declared.outcome.Fault.TheVariants.{Write, Memory}

-- ---- all files

module _ (outputs : Outputs) where
  pub all_nothing : (old new : Held) (text : ℕ → List ℕ) → IsSame old new → ((device : ℕ) → text device ≡ []) → AllGain outputs old new text
  all_nothing old new text same none index name is = subst (λ t. Gains (old name) t (new name)) (sym (none (index + 1))) (gains_nothing (old name) (new name) (same name))

  pub all_twice : (old middle new : Held) (first second whole : ℕ → List ℕ) → ((device : ℕ) → whole device ≡ first device ++ second device)
      → AllGain outputs old middle first → AllGain outputs middle new second → AllGain outputs old new whole
  all_twice old middle new first second whole is one two index name file =
      subst (λ t. Gains (old name) t (new name)) (sym (is (index + 1))) (gains_twice (old name) (middle name) (new name) _ _ (one index name file) (two index name file))

  pub all_then_front : (old middle new : Held) (first second whole : ℕ → List ℕ) → ((device : ℕ) → whole device ≡ first device ++ second device)
      → AllGain outputs old middle first → AllGainFront outputs middle new second → AllGainFront outputs old new whole
  all_then_front old middle new first second whole is one two index name file =
      subst (λ t. GainsFront (old name) t (new name)) (sym (is (index + 1))) (gains_then_front (old name) (middle name) (new name) _ _ (one index name file) (two index name file))

  pub all_front : (old new : Held) (text : ℕ → List ℕ) → AllGain outputs old new text → AllGainFront outputs old new text
  all_front old new text all index name file = gains_front (old name) (new name) (text (index + 1)) (all index name file)

  pub all_from_same : (old middle new : Held) (text : ℕ → List ℕ) → IsSame old middle → AllGain outputs middle new text → AllGain outputs old new text
  all_from_same old middle new text same all index name file = subst (λ o. Gains o (text (index + 1)) (new name)) (same name) (all index name file)

  pub fronts_from_same : (old middle new : Held) (text : ℕ → List ℕ) → IsSame old middle → AllGainFront outputs middle new text → AllGainFront outputs old new text
  fronts_from_same old middle new text same all index name file = subst (λ o. GainsFront o (text (index + 1)) (new name)) (same name) (all index name file)

  pub all_then_same : (old middle new : Held) (text : ℕ → List ℕ) → AllGain outputs old middle text → IsSame middle new → AllGain outputs old new text
  all_then_same old middle new text all same index name file = subst (λ o. Gains (old name) (text (index + 1)) o) (sym (same name)) (all index name file)

  pub fronts_then_same : (old middle new : Held) (text : ℕ → List ℕ) → AllGainFront outputs old middle text → IsSame middle new → AllGainFront outputs old new text
  fronts_then_same old middle new text all same index name file = subst (λ o. GainsFront (old name) (text (index + 1)) o) (sym (same name)) (all index name file)

  -- ---- other files

  pub elsewhere_same : (old new : Held) → IsSame old new → IsSameElsewhere outputs old new
  elsewhere_same old new same other apart = same other

  pub elsewhere_twice : (old middle new : Held) → IsSameElsewhere outputs old middle → IsSameElsewhere outputs middle new → IsSameElsewhere outputs old new
  elsewhere_twice old middle new one two other apart = two other apart ∙ one other apart

  -- ---- one file

  module _ (index : ℕ) (name : List ℕ) (is : IsFile outputs index name) (apart : AreFilesApart outputs) (old new : Held) (others : (other : List ℕ) → other ≢ name → new other ≡ old other) where
    -- a file of another device is another file
    is_other : (k : ℕ) (other : List ℕ) → IsFile outputs k other → k ≢ index → other ≢ name
    is_other k other file differs same = differs (apart k index name (subst (λ (n : List ℕ). IsFile outputs k n) same file) is)

    same_name : (k : ℕ) (other : List ℕ) → IsFile outputs k other → k ≡ index → other ≡ name
    same_name k other file same = let e : Some (Some other) ≡ Some (Some name) = sym file ∙ ap (slice_get outputs) same ∙ is in cc

    pub one_gains : (text : ℕ → List ℕ) (piece : List ℕ) → text (index + 1) ≡ piece → ((k : ℕ) → k ≢ index → text (k + 1) ≡ []) → Gains (old name) piece (new name) → AllGain outputs old new text
    one_gains text piece here none gained k other file = elim (cases_eq k index) [
      | inl same ↦
          subst (λ (n : List ℕ). Gains (old n) (text (k + 1)) (new n)) (sym (same_name k other file same))
          (subst (λ t. Gains (old name) t (new name)) (sym (ap (λ j. text (j + 1)) same ∙ here)) gained)
      | inr differs ↦ subst (λ t. Gains (old other) t (new other)) (sym (none k differs)) (gains_nothing (old other) (new other) (others other (is_other k other file differs)))
    ]

    pub one_front : (text : ℕ → List ℕ) (piece : List ℕ) → text (index + 1) ≡ piece → GainsFront (old name) piece (new name) → AllGainFront outputs old new text
    one_front text piece here gained k other file = elim (cases_eq k index) [
      | inl same ↦
          subst (λ (n : List ℕ). GainsFront (old n) (text (k + 1)) (new n)) (sym (same_name k other file same))
          (subst (λ t. GainsFront (old name) t (new name)) (sym (ap (λ j. text (j + 1)) same ∙ here)) gained)
      | inr differs ↦ front_of_nothing (old other) (new other) (text (k + 1)) (others other (is_other k other file differs))
    ]

    pub one_elsewhere : IsSameElsewhere outputs old new
    one_elsewhere other different = others other (different index name is)

-- ---- faults

pub fault_between : (outputs : Outputs) (old old' new new' : List ℕ → ℕ) (fault : Fault) → NeverFell old old' → NeverFell new new' → OutputFault outputs old' new fault → OutputFault outputs old new' fault
fault_between outputs old old' new new' (Write (file.Output device)) before after h = record {
  index = h.index;
  name = h.name;
  device_is = h.device_is;
  file_is = h.file_is;
  rose = rose_then (old h.name) (new h.name) (new' h.name) (then_rose (old h.name) (old' h.name) (new h.name) (before h.name) h.rose) (after h.name);
}
fault_between outputs old old' new new' Memory before after h = tt
fault_between outputs old old' new new' fault before after h = h

-- ---- the record of one frame

module _ (outputs : Outputs) (device : ℕ) (frame : Stamped) where
  here_text : (index : ℕ) → device ≡ index + 1 → fate_text (index + 1) (Sent device frame) ≡ record_text (frame.stamp, frame.frame)
  here_text index is =
      let same : nat_eq device (index + 1) ≡ true = grind (arith, nat_tests) in
      ap (λ b. flat_map record_text (if b then (frame.stamp, frame.frame) ∷ [] else [])) same ∙ append-nil (record_text (frame.stamp, frame.frame))

  other_text : (index k : ℕ) → device ≡ index + 1 → k ≢ index → fate_text (k + 1) (Sent device frame) ≡ []
  other_text index k is differs =
      let other : nat_eq device (k + 1) ≡ false = grind (arith, nat_tests) in
      ap (λ b. flat_map record_text (if b then (frame.stamp, frame.frame) ∷ [] else [])) other

  -- the device has no file
  pub sent_nowhere : (old new : Held) → IsSame old new → ((index : ℕ) (name : List ℕ) → IsFile outputs index name → device ≢ index + 1) → AllGain outputs old new (λ on. fate_text on (Sent device frame))
  sent_nowhere old new same none index name file =
      let differs = none index name file in
      let other : nat_eq device (index + 1) ≡ false = grind (arith, nat_tests) in
      subst (λ t. Gains (old name) t (new name)) (sym (ap (λ b. flat_map record_text (if b then (frame.stamp, frame.frame) ∷ [] else [])) other)) (gains_nothing (old name) (new name) (same name))

  module _ (index : ℕ) (name : List ℕ) (is : device ≡ index + 1) (file : IsFile outputs index name) (apart : AreFilesApart outputs) (old new : Held) (others : (other : List ℕ) → other ≢ name → new other ≡ old other) where
    pub sent_whole : Gains (old name) (record_text (frame.stamp, frame.frame)) (new name) → AllGain outputs old new (λ on. fate_text on (Sent device frame))
    sent_whole gained = one_gains outputs index name file apart old new others (λ on. fate_text on (Sent device frame)) (record_text (frame.stamp, frame.frame)) (here_text index is) (λ k differs. other_text index k is differs) gained

    pub sent_front : GainsFront (old name) (record_text (frame.stamp, frame.frame)) (new name) → AllGainFront outputs old new (λ on. fate_text on (Sent device frame))
    sent_front gained = one_front outputs index name file apart old new others (λ on. fate_text on (Sent device frame)) (record_text (frame.stamp, frame.frame)) (here_text index is) gained

-- what one file shows of a fate is what a fate shows
pub front_of_fate : {E : Type 0} (r : Result Unit E) (outputs : Outputs) (old new : Held) (device : ℕ) (frame : Stamped) (fate : Fate) → fate ≡ Sent device frame
    → OnErr r (AllGainFront outputs old new (λ on. fate_text on (Sent device frame))) → OnErr r (AllGainFront outputs old new (λ on. fate_text on fate))
front_of_fate r outputs old new device frame fate is h = subst (λ (f : Fate). OnErr r (AllGainFront outputs old new (λ on. fate_text on f))) (sym is) h

-- where no file stands, there is none
pub no_file_there : (outputs : Outputs) (place index : ℕ) (name : List ℕ) → slice_get outputs place ≡ Some None → IsFile outputs index name → index ≡ place → ⊥
no_file_there outputs place index name none file same = let e : Some (Some name) ≡ Some None = sym file ∙ ap (λ k. slice_get outputs k) same ∙ none in none_is_some name e
  where
    none_is_some : (name : List ℕ) → Some (Some name) ≡ Some None → ⊥
    none_is_some name e = cc
