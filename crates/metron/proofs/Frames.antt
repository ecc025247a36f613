-- Serving frame after frame, and how it ends.
use Rattle.std.proofs.Common.{◌≡◌, inl, inr, ℕ, ◌+◌, ◌<◌, ◌≤◌, false, List, [], ◌∷◌, ◌++◌, length, refl, sym, ◌∙◌, ap, subst, arith}
use Rattle.std.specs.Prelude.{Option, Some, slice_get}
use Rattle.std.proofs.lemmas.List.{length-append, length-map}
use Rattle.mt_io.specs.Files.{IsSame, NeverFell, Rose}
use Rattle.mt_io.specs.Laws.{then_rose}
use Rattle.mt_packet.specs.declared.frame.Stamped.{Stamped}
use Rattle.mt_pcap.specs.Capture.{Capture, IsOfBytes, is_header_fault}
use Rattle.mt_pcap.specs.declared.fault.PcapFault.{PcapFault}
use Rattle.mt_pcap.specs.declared.fault.PcapFault.TheVariants.{ReadFault, NoMemory, NotPcap, WrongLink, BadRecord, Torn}
use Rattle.mt_pcap.specs.Merge as merges
use Rattle.mt_pcap.specs.Merge.{most_frames}
use Rattle.mt_pcap.specs.Merged.{HasBroken, HasMerged}
use Rattle.mt_pcap.specs.MergedLaws.{MergesWhole, MergesFull, MergesSoFar, MergesBroken, FailsToRead}
use Rattle.mt_pcap.specs.Sources.{Source, MergeState, names_of, all_left, IsSameBeside, EndsSo, GivesSo, HasFailed}
use Rattle.mt_elements.specs.ChainState.{ChainState}
use Rattle.mt_rewriter.specs.Mappings.{TablesState, first_tables}
use Rattle.mt_chain.specs.Sequence.{OneBehind}
use Rattle.mt_chain.specs.Fates.{sent_text}
use Rattle.metron.specs.Outcome.{Account}
use Rattle.metron.specs.Serving.{Held, Outputs, AllGain, AllGainFront, OutputFault, HasInputRisen, AreFirst, HasServed, HasServedOne, HasNotServedOne, MergeCause, IsServing}
use Rattle.metron.specs.Serving.IsServing.{all_served, input_failed, broken_off}
use Rattle.metron.specs.declared.outcome.Fault.{Fault}
use Rattle.metron.specs.declared.outcome.Fault.TheVariants.{Done, Frames}
use Rattle.metron.proofs.Outputs.{all_front, all_then_same, fault_between}
use Rattle.metron.proofs.Served.{IsAt, begun, none_yet, served, one_served, broken}

-- nothing changed of the files beside some, twice
pub beside_twice : {X : Type 0} (names : List (List ℕ)) (old middle new : List ℕ → X) → IsSameBeside names old middle → IsSameBeside names middle new → IsSameBeside names old new
beside_twice names old middle new one two other apart = two other apart ∙ one other apart

pub beside_same : {X : Type 0} (names : List (List ℕ)) (old new : List ℕ → X) → IsSame old new → IsSameBeside names old new
beside_same names old new same other apart = same other

-- as many captures as before
pub as_many : (sources others : List Source) → names_of others ≡ names_of sources → length others ≡ length sources
as_many sources others same =
    let one = length-map others (λ (s : Source). s.reader.name) in
    let two = length-map sources (λ (s : Source). s.reader.name) in
    sym one ∙ ap length same ∙ two

in_front : (chain : ChainState) (outputs : Outputs) (old new : Held) (account : Account) (frames : List Stamped) → HasServed AllGain chain outputs old new account frames → HasServed AllGainFront chain outputs old new account frames
in_front chain outputs old new account frames s = record { fates = s.fates; run = s.run; counted = s.counted; numbered = s.numbered; written = all_front outputs old new (λ device. sent_text device s.fates) s.written }

-- ---- under way

-- so many frames came and were served
pub record IsUnderWay (chain : ChainState) (outputs : Outputs) (names : List (List ℕ)) (first held : Held) (merge : MergeState) (tables : TablesState) (old new : Held) (account : Account) : Type 0 where
  pub frames : List Stamped
  pub few : length frames ≤ most_frames
  pub merged : HasMerged names first held frames merge
  pub at : IsAt chain outputs tables old new account frames

module _ (chain : ChainState) (outputs : Outputs) (names : List (List ℕ)) (first : Held) where
  pub starts : (held : Held) (merge : MergeState) (tables : TablesState) (old new : Held) (account : Account) (classes : ℕ) → HasMerged names first held [] merge → tables ≡ first_tables chain → account ≡ none_yet classes → IsSame old new
      → IsUnderWay chain outputs names first held merge tables old new account
  starts held merge tables old new account classes merged initial none same = record {
    frames = [];
    few = omega arith;
    merged = merged;
    at = begun chain outputs tables old new account classes initial none same;
  }

  -- nothing was written meanwhile
  pub still : (held : Held) (merge : MergeState) (tables : TablesState) (old middle new : Held) (account : Account) → IsSame middle new → IsUnderWay chain outputs names first held merge tables old middle account
      → IsUnderWay chain outputs names first held merge tables old new account
  still held merge tables old middle new account same way = record {
    frames = way.frames;
    few = way.few;
    merged = way.merged;
    at = record {
      fates = way.at.fates;
      runs = way.at.runs;
      counted = way.at.counted;
      numbered = way.at.numbered;
      written = all_then_same outputs old middle new (λ device. sent_text device way.at.fates) way.at.written same;
    };
  }

  module _ (held : Held) (merge : MergeState) (tables : TablesState) (old middle : Held) (account : Account) (way : IsUnderWay chain outputs names first held merge tables old middle account) where
    counted : merge.given ≡ length way.frames
    counted = way.merged.counted

    longer : (frame : Stamped) → length (way.frames ++ frame ∷ []) ≡ length way.frames + 1
    longer frame = length-append way.frames (frame ∷ [])

    -- one frame more was given
    module _ (after : Held) (merge' : MergeState) (frame : Stamped) (room : merge.given < most_frames) (numbered : frame.number ≡ merge.given)
        (more : HasMerged names first after (way.frames ++ frame ∷ []) merge') where
      still_few : length (way.frames ++ frame ∷ []) ≤ most_frames
      still_few = let l = longer frame in let c = counted in omega (arith, l, c, room)

      -- and was served
      pub goes_on : OneBehind → (tables' : TablesState) (new : Held) (account' : Account) → HasServedOne AllGain chain outputs tables tables' frame middle new account account'
          → IsUnderWay chain outputs names first after merge' tables' old new account'
      goes_on one_behind tables' new account' one = record {
        frames = way.frames ++ frame ∷ [];
        few = still_few;
        merged = more;
        at = one_served chain outputs tables old middle account way.frames way.at one_behind frame (numbered ∙ counted) tables' new account' one;
      }

      -- or was not, or in part
      pub breaks : MergesSoFar → OneBehind → (held' new : Held) (account' : Account) (fault : Fault) (reads reads' writes between writes' : List ℕ → ℕ) → HasNotServedOne chain outputs tables frame middle new account account'
          → NeverFell writes between → OutputFault outputs between writes' fault → IsServing chain names outputs first held' old new reads reads' writes writes' account' fault
      breaks law one_behind held' new account' fault reads reads' writes between writes' stopped fell why =
          let h = broken chain outputs tables old middle account way.frames way.at one_behind frame (numbered ∙ counted) new account' stopped in
          broken_off h.0 (elim h.1 [
            | inl same ↦ subst (λ (l : List Stamped). AreFirst names first l) (sym same) (law names first held way.frames merge way.merged way.few)
            | inr one ↦ subst (λ (l : List Stamped). AreFirst names first l) (sym one) (law names first after (way.frames ++ frame ∷ []) merge' more still_few)
          ])
          (fault_between outputs writes between writes' writes' fault fell (λ name. omega arith) why) h.2

    module _ (held' : Held) (reads before reads' writes writes' : List ℕ → ℕ) where
      -- the merge is done
      pub ends_done : MergesWhole → EndsSo (all_left held merge.sources) merges.Done → IsServing chain names outputs first held' old middle reads reads' writes writes' account Done
      ends_done law ended =
          all_served way.frames merges.Done (law names first held way.frames merge merges.Done way.merged way.few ended) tt refl (served chain outputs tables old middle account way.frames way.at)

      -- there is one frame too many
      pub ends_limit : MergesFull → (frame : Stamped) (after : Option (List Capture)) → most_frames ≤ merge.given → GivesSo merge.given (all_left held merge.sources) frame after
          → IsServing chain names outputs first held' old middle reads reads' writes writes' account (Frames (most_frames + 1))
      ends_limit law frame after full gives =
          let many : length way.frames ≡ most_frames = let c = counted in let f = way.few in omega (arith, full, c, f) in
          all_served way.frames (merges.Frames (most_frames + 1)) (law names first held way.frames merge frame after way.merged many gives) tt refl
          (served chain outputs tables old middle account way.frames way.at)

      rose_since : NeverFell reads before → (device : ℕ) → ((index : ℕ) × (name : List ℕ) × (device ≡ index + 1) × (slice_get names index ≡ Some name) × Rose (before name) (reads' name)) → HasInputRisen names device reads reads'
      rose_since fell device h = record {
        index = h.0;
        name = h.1;
        device_is = h.2;
        file_is = h.3;
        rose = then_rose (reads h.1) (before h.1) (reads' h.1) (fell h.1) h.4;
      }

      -- the merge ends with a fault
      pub ends_fault : MergesWhole → MergesSoFar → MergesBroken → FailsToRead → (device : ℕ) (why : PcapFault) (fault : Fault) → MergeCause device why fault
          → (IsOfBytes (Some why) → EndsSo (all_left held merge.sources) (merges.Fault device why)) → is_header_fault (Some why) ≡ false
          → NeverFell reads before → (why ≡ ReadFault → HasFailed merge.sources device why before reads') → (why ≡ ReadFault → HasBroken merge.sources device held held')
          → IsServing chain names outputs first held' old middle reads reads' writes writes' account fault
      ends_fault whole so_far cut fails device ReadFault fault is ended kind fell rose off =
          input_failed way.frames device (cut names first held held' way.frames merge device way.merged way.few (off refl)) is
          (rose_since fell device (fails names first held way.frames merge device before reads' way.merged (rose refl))) (served chain outputs tables old middle account way.frames way.at)
      ends_fault whole so_far cut fails device NoMemory fault is ended kind fell rose off =
          broken_off way.frames (so_far names first held way.frames merge way.merged way.few) (subst (λ f. OutputFault outputs writes writes' f) (sym is) tt)
          (in_front chain outputs old middle account way.frames (served chain outputs tables old middle account way.frames way.at))
      ends_fault whole so_far cut fails device NotPcap fault is ended kind fell rose off = absurd cc
      ends_fault whole so_far cut fails device (WrongLink link) fault is ended kind fell rose off = absurd cc
      ends_fault whole so_far cut fails device (BadRecord offset) fault is ended kind fell rose off =
          all_served way.frames (merges.Fault device (BadRecord offset)) (whole names first held way.frames merge (merges.Fault device (BadRecord offset)) way.merged way.few (ended tt)) tt is
          (served chain outputs tables old middle account way.frames way.at)
      ends_fault whole so_far cut fails device (Torn offset) fault is ended kind fell rose off =
          all_served way.frames (merges.Fault device (Torn offset)) (whole names first held way.frames merge (merges.Fault device (Torn offset)) way.merged way.few (ended tt)) tt is
          (served chain outputs tables old middle account way.frames way.at)
