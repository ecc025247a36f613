-- A run through a chain, seen from before the files of the command were read, and from after more was read and
-- written.
use Rattle.std.proofs.Common.{◌≡◌, ◌<◌, ◌≤◌, ℕ, suc, false, List, [], ◌∷◌, ◌++◌, length, refl, sym, ◌∙◌, ap, subst, arith}
use Rattle.std.specs.Prelude.{Option, Some, slice_get, slice_set, option_map, option_and_then, IfSome}
use Rattle.mt_io.specs.Files.{IsSame, NeverFell, Takes}
use Rattle.mt_io.specs.Laws.{then_rose, rose_then, same_twice}
use Rattle.mt_lists.specs.Options.{each}
use Rattle.mt_pcap.specs.Capture.{Capture, capture_of, is_header_fault}
use Rattle.mt_pcap.specs.declared.fault.PcapFault.TheVariants.{ReadFault}
use Rattle.mt_packet.specs.declared.frame.Stamped.{Stamped}
use Rattle.mt_pcap.specs.Merge as merges
use Rattle.mt_pcap.specs.Merge.{merge_of}
use Rattle.mt_pcap.specs.Merged.{IsBrokenMerge, broken_at}
use Rattle.mt_pcap.specs.Opened.{capture_in, captures_in}
use Rattle.mt_elements.specs.ChainState.{ChainState}
use Rattle.mt_chain.specs.declared.run.Fate.{Fate}
use Rattle.mt_chain.specs.Fates.{device_text}
use Rattle.mt_command.specs.Parts.{BoundView}
use Rattle.metron.specs.Inputs.{Told, inputs_of, outputs_of, BeginsWell, BeginWell, CaptureFault, ScriptFault, IsChainFault, text_limit, IsBusy}
use Rattle.metron.specs.Serving.{Held, Outputs, AllGain, AllGainFront, HasInputRisen}
use Rattle.metron.specs.Outcome.{Account}
use Rattle.metron.specs.Causes.{Call, State, HasWritten, IsRefusal, IsRunOf, IsRun}
use Rattle.metron.specs.Causes.IsRefusal.{no_memory, no_command, chain_refused, not_bound, script_refused}
use Rattle.metron.specs.Causes.IsRunOf.{capture_refused, ended, input_failed, broken_off}
use Rattle.metron.specs.Causes.IsRun.{refused, ran}
use Rattle.metron.specs.declared.outcome.FileId.TheVariants as file
use Rattle.metron.specs.declared.outcome.Fault.{Fault}
use Rattle.metron.specs.declared.outcome.Fault.TheVariants.{Unbuilt, TooLong, Script, Capture as CaptureTold, Read}
use Rattle.metron.proofs.Outputs.{all_from_same, fronts_from_same, all_then_same, fronts_then_same, elsewhere_twice, elsewhere_same, fault_between}

le_refl : (n : ℕ) → n ≤ n
le_refl n = omega arith

-- ---- files that are read later

-- the files of the captures hold what they held
abbrev pub AreSame : List (List ℕ) → Held → Held → Type 0
AreSame names old new = (k : ℕ) (name : List ℕ) → slice_get names k ≡ Some name → new name ≡ old name

pub captures_same : (names : List (List ℕ)) (old new : Held) → AreSame names old new → captures_in new names ≡ captures_in old names
unfolding each
captures_same [] old new same = refl
captures_same (name ∷ names) old new same =
    ap (λ (o : Told). option_and_then (λ c. option_map (λ more. c ∷ more) (captures_in new names)) (option_map capture_of o)) (same 0 name refl)
    ∙ ap (λ (o : Option (List Capture)). option_and_then (λ c. option_map (λ more. c ∷ more) o) (capture_in old name)) (captures_same names old new (λ k other at. same (suc k) other at))

begins_same : (old new : Held) (name : List ℕ) → new name ≡ old name → BeginsWell new name → BeginsWell old name
begins_same old new name same h = subst (λ (o : Told). IfSome (option_map capture_of o) (λ c. is_header_fault c.end ≡ false)) same h

begin_same : (names : List (List ℕ)) (old new : Held) (n : ℕ) → AreSame names old new → BeginWell new names n → BeginWell old names n
begin_same names old new n same h index name lt at = begins_same old new name (same index name at) (h index name lt at)

risen_between : (names : List (List ℕ)) (device : ℕ) (old old' new new' : List ℕ → ℕ) → NeverFell old old' → NeverFell new new' → HasInputRisen names device old' new → HasInputRisen names device old new'
risen_between names device old old' new new' before after h = record {
  index = h.index;
  name = h.name;
  device_is = h.device_is;
  file_is = h.file_is;
  rose = rose_then (old h.name) (new h.name) (new' h.name) (then_rose (old h.name) (old' h.name) (new h.name) (before h.name) h.rose) (after h.name);
}

capture_between : (names : List (List ℕ)) (held held' : Held) (old old' new new' : List ℕ → ℕ) (fault : Fault) → AreSame names held held' → NeverFell old old' → NeverFell new new'
    → CaptureFault held' names old' new fault → CaptureFault held names old new' fault
capture_between names held held' old old' new new' (CaptureTold device why) same before after h = record {
  index = h.index;
  name = h.name;
  device_is = h.device_is;
  file_is = h.file_is;
  of_header = h.of_header;
  ends = subst (λ (o : Told). IfSome (option_map capture_of o) (λ c. c.end ≡ Some why)) (same h.index h.name h.file_is) h.ends;
  first = begin_same names held held' h.index same h.first;
}
capture_between names held held' old old' new new' (Read (file.Capture device)) same before after h = risen_between names device old old' new new' before after h
capture_between names held held' old old' new new' fault same before after h = h

-- ---- a run through a chain

module _ (chain : ChainState) (bound : List BoundView) (s0 s1 s2 s3 : State) (account : Account) (fault : Fault)
    (held : AreSame (inputs_of chain bound) s0.held s1.held) (held_behind : IsSame s2.held s3.held) (written_before : IsSame s0.written s1.written) (written_behind : IsSame s2.written s3.written)
    (reads_before : NeverFell s0.failed_reads s1.failed_reads) (reads_behind : NeverFell s2.failed_reads s3.failed_reads)
    (writes_before : NeverFell s0.failed_writes s1.failed_writes) (writes_behind : NeverFell s2.failed_writes s3.failed_writes) where
  inputs : List (List ℕ)
  inputs = inputs_of chain bound

  outputs : Outputs
  outputs = outputs_of bound

  told : captures_in s1.held (inputs_of chain bound) ≡ captures_in s0.held (inputs_of chain bound)
  told = captures_same (inputs_of chain bound) s0.held s1.held held

  -- the merge of captures of which one was cut off
  cut_between : (frames : List Stamped) (device : ℕ) → IsBrokenMerge (inputs_of chain bound) s1.held s2.held frames device → IsBrokenMerge (inputs_of chain bound) s0.held s3.held frames device
  cut_between frames device cut = record {
    index = cut.index;
    name = cut.name;
    device_is = cut.device_is;
    there = cut.there;
    merged = (
      cut.merged.0,
      subst (λ (o : Told). Takes o cut.merged.0 (s3.held cut.name)) (held cut.index cut.name cut.there) (subst (λ (o : Told). Takes (s1.held cut.name) cut.merged.0 o) (sym (held_behind cut.name)) cut.merged.1),
      subst (λ (o : Option (List Capture)). IfSome o (λ cs. merge_of (slice_set cs cut.index (broken_at cut.merged.0)) ≡ record { frames = frames; end = merges.Fault device ReadFault })) told cut.merged.2,
    );
  }

  wrote_all : (fates : List Fate) → HasWritten AllGain bound s1 s2 fates → HasWritten AllGain bound s0 s3 fates
  wrote_all fates w = record {
    written = all_then_same (outputs_of bound) s0.written s2.written s3.written (λ device. device_text device fates) (all_from_same (outputs_of bound) s0.written s1.written s2.written (λ device. device_text device fates) written_before w.written) written_behind;
    others = elsewhere_twice (outputs_of bound) s0.written s2.written s3.written
        (elsewhere_twice (outputs_of bound) s0.written s1.written s2.written (elsewhere_same (outputs_of bound) s0.written s1.written written_before) w.others)
        (elsewhere_same (outputs_of bound) s2.written s3.written written_behind);
  }

  wrote_front : (fates : List Fate) → HasWritten AllGainFront bound s1 s2 fates → HasWritten AllGainFront bound s0 s3 fates
  wrote_front fates w = record {
    written = fronts_then_same (outputs_of bound) s0.written s2.written s3.written (λ device. device_text device fates) (fronts_from_same (outputs_of bound) s0.written s1.written s2.written (λ device. device_text device fates) written_before w.written) written_behind;
    others = elsewhere_twice (outputs_of bound) s0.written s2.written s3.written
        (elsewhere_twice (outputs_of bound) s0.written s1.written s2.written (elsewhere_same (outputs_of bound) s0.written s1.written written_before) w.others)
        (elsewhere_same (outputs_of bound) s2.written s3.written written_behind);
  }

  pub widened : IsRunOf chain bound s1 s2 account fault → IsRunOf chain bound s0 s3 account fault
  widened (capture_refused why u) =
      capture_refused (capture_between (inputs_of chain bound) s0.held s1.held s0.failed_reads s1.failed_reads s2.failed_reads s3.failed_reads fault held reads_before reads_behind why)
      (record { written = same_twice _ _ _ written_before (same_twice _ _ _ u.written written_behind); none_served = u.none_served })
  widened (ended frames fates end begin merged sound is run classes wrote) =
      ended frames fates end (begin_same (inputs_of chain bound) s0.held s1.held (length (inputs_of chain bound)) held begin)
      (subst (λ (o : Option (List Capture)). IfSome o (λ cs. merge_of cs ≡ record { frames = frames; end = end })) told merged) sound is run classes (wrote_all fates wrote)
  widened (input_failed frames fates device begin cut is rose run classes wrote) =
      input_failed frames fates device (begin_same (inputs_of chain bound) s0.held s1.held (length (inputs_of chain bound)) held begin)
      (cut_between frames device cut) is
      (risen_between (inputs_of chain bound) device s0.failed_reads s1.failed_reads s2.failed_reads s3.failed_reads reads_before reads_behind rose) run classes (wrote_all fates wrote)
  widened (broken_off frames fates begin front why run classes wrote) =
      broken_off frames fates (begin_same (inputs_of chain bound) s0.held s1.held (length (inputs_of chain bound)) held begin)
      (subst (λ (o : Option (List Capture)). IfSome o (λ cs. (rest : List Stamped) × ((merge_of cs).frames ≡ frames ++ rest))) told front)
      (fault_between (outputs_of bound) s0.failed_writes s1.failed_writes s2.failed_writes s3.failed_writes fault writes_before writes_behind why) run classes (wrote_front fates wrote)

-- ---- texts that are read later

pub script_between : (held held' : Told) (before before' after after' : ℕ) (fault : Fault) → held' ≡ held → before ≤ before' → after ≤ after' → ScriptFault held' before' after fault → ScriptFault held before after' fault
script_between held held' before before' after after' (TooLong file.Script) same le le' h = subst (λ (o : Told). IfSome o (λ text. text_limit < length text)) same h
script_between held held' before before' after after' (Script f) same le le' h = subst (λ (o : Told). ScriptFault o before' after (Script f)) same h
script_between held held' before before' after after' (Unbuilt file.Script) same le le' h = subst (λ (o : Told). IfSome o IsBusy) same h
script_between held held' before before' after after' (Read file.Script) same le le' h = rose_then before after after' (then_rose before before' after le h) le'
script_between held held' before before' after after' fault same le le' h = h

chain_later : (held : Told) (before after after' : ℕ) (fault : Fault) → after ≤ after' → IsChainFault held before after fault → IsChainFault held before after' fault
chain_later held before after after' (Read file.Chain) le h = rose_then before after after' h le
chain_later held before after after' fault le h = h

-- ---- a whole run

module _ (call : Call) (old middle new : State) (account : Account) (fault : Fault)
    (held : IsSame middle.held new.held) (written : IsSame middle.written new.written) (reads : NeverFell middle.failed_reads new.failed_reads) (writes : NeverFell middle.failed_writes new.failed_writes) where
  refusal_later : IsRefusal call old middle fault → IsRefusal call old new fault
  refusal_later (no_memory is) = no_memory is
  refusal_later (no_command n first is) = no_command n first is
  refusal_later (chain_refused c is why) = chain_refused c is (chain_later _ _ _ _ fault (reads c.chain) why)
  refusal_later (not_bound c chain stands why) = not_bound c chain stands why
  refusal_later (script_refused c chain bound stands why) = script_refused c chain bound stands (script_between _ _ _ _ _ _ fault refl (le_refl (old.failed_reads c.script)) (reads c.script) why)

  -- nothing more was told as written, and no count fell
  pub later : IsRun call old middle account fault → IsRun call old new account fault
  later (refused why u) = refused (refusal_later why) (record { written = same_twice _ _ _ u.written written; none_served = u.none_served })
  later (ran c chain bound stands run) =
      ran c chain bound stands
      (widened chain bound old old middle new account fault (λ k name at. refl) held (λ name. refl) written (λ name. le_refl (old.failed_reads name)) reads (λ name. le_refl (old.failed_writes name)) writes run)

-- what is told of two states is the same
pub record IsSameState (old new : State) : Type 0 where
  pub held : IsSame old.held new.held
  pub written : IsSame old.written new.written
  pub failed_reads : IsSame old.failed_reads new.failed_reads
  pub failed_writes : IsSame old.failed_writes new.failed_writes

same_state : (old new : State) → IsSameState old new → new ≡ old
same_state old new same = λ i. record {
  held = λ n. same.held n i;
  written = λ n. same.written n i;
  failed_reads = λ n. same.failed_reads n i;
  failed_writes = λ n. same.failed_writes n i;
}

pub from_same : (call : Call) (old begun new : State) (account : Account) (fault : Fault) → IsSameState old begun → IsRun call begun new account fault → IsRun call old new account fault
from_same call old begun new account fault same run = subst (λ (s : State). IsRun call s new account fault) (same_state old begun same) run
