-- Opening, beginning and serving, one after the other, are one run through a chain.
use Rattle.std.proofs.Common.{◌≡◌, inl, inr, ◌≤◌, ℕ, List, [], ◌++◌, length, map, refl, sym, ◌∙◌, ap, subst, arith}
use Rattle.std.specs.Prelude.{Option, Some, None, IfSome}
use Rattle.std.proofs.lemmas.Option.{get_or_from_slice_get}
use Rattle.std.proofs.lemmas.List.{append-nil, length-map}
use Rattle.mt_io.specs.Files.{IsSame, NeverFell}
use Rattle.mt_io.specs.Copy.{GainsFront}
use Rattle.mt_io.specs.Laws.{then_rose}
use Rattle.mt_packet.specs.declared.frame.Stamped.{Stamped}
use Rattle.mt_pcap.specs.Capture.{Capture}
use Rattle.mt_pcap.specs.Merge.{merge_of}
use Rattle.mt_pcap.specs.Merged.{IsWholeMerge, IsBrokenMerge}
use Rattle.mt_pcap.specs.Opened.{captures_in, AreOpened}
use Rattle.mt_pcap.specs.Sources.{Source, begun}
use Rattle.mt_pcap.specs.Stream.{ReaderState}
use Rattle.mt_pcap.specs.Text.{header_text}
use Rattle.mt_elements.specs.ChainState.{ChainState}
use Rattle.mt_chain.specs.Sequence.{run_each, run_all}
use Rattle.mt_chain.specs.declared.run.Fate.{Fate}
use Rattle.mt_chain.specs.Fates.{packets_of, sent_text, device_text}
use Rattle.mt_chain.specs.Order.{numbers, KeepsOrder, in_order}
use Rattle.mt_chain.specs.Laws.{all_in_turn, keeps_order}
use Rattle.mt_command.specs.Parts.{BoundView}
use Rattle.metron.specs.Outcome.{Account, nothing_served}
use Rattle.metron.specs.Written.{writes_all, writes_each}
use Rattle.metron.specs.Inputs.{inputs_of, outputs_of, BeginsWell, CaptureFault}
use Rattle.metron.specs.Serving.{Held, Outputs, AllGain, AllGainFront, IsSameElsewhere, OutputFault, HasInputRisen, AreFirst, HasServed, IsServing}
use Rattle.metron.specs.Serving.IsServing.{all_served, input_failed as served_part, broken_off as served_some}
use Rattle.metron.specs.Causes.{State, HasRun, HasWritten, AllBegin, IsClassCount, IsRunOf}
use Rattle.metron.specs.Causes.IsRunOf.{capture_refused, ended, input_failed, broken_off}
use Rattle.metron.specs.declared.outcome.Fault.{Fault}
use Rattle.metron.proofs.Outputs.{all_twice, all_then_front, fronts_from_same, elsewhere_twice, elsewhere_same, fault_between}

-- captures that were opened begin with headers
pub all_begin : (names : List (List ℕ)) (first held : Held) (readers : List ReaderState) → AreOpened names first held readers → AllBegin first names
all_begin names first held readers opened index name lt at = subst (BeginsWell first) (get_or_from_slice_get names index name name at) (opened.begin index name lt)

abbrev begun_one : ReaderState → Source
begun_one r = record { reader = r; head = None }

-- as many captures as files
pub as_many_begun : (readers : List ReaderState) (names : List (List ℕ)) → map (λ (r : ReaderState). r.name) readers ≡ names → length (begun readers) ≡ length names
as_many_begun readers names named =
    let one = length-map readers (λ (r : ReaderState). begun_one r) in
    let two = length-map readers (λ (r : ReaderState). r.name) in
    one ∙ sym two ∙ ap length named

-- no frame is a front of every merge
no_frame : (names : List (List ℕ)) (first : Held) → AreFirst names first []
no_frame names first = by_told (captures_in first names)
  where
    by_told : (captures : Option (List Capture)) → IfSome captures (λ cs. (rest : List Stamped) × ((merge_of cs).frames ≡ [] ++ rest))
    by_told None = tt
    by_told (Some cs) = ((merge_of cs).frames, refl)

same_count : (n : ℕ) → n ≤ n
same_count n = omega arith

-- with no frame the text of a device is a header
front_of_header : (outputs : Outputs) (old new : Held) → AllGainFront outputs old new (λ device. header_text) → AllGainFront outputs old new (λ device. device_text device [])
front_of_header outputs old new fronts index name is = subst (λ text. GainsFront (old name) text (new name)) (sym (append-nil header_text)) (fronts index name is)

input_earlier : (inputs : List (List ℕ)) (device : ℕ) (old old' new : List ℕ → ℕ) → NeverFell old old' → HasInputRisen inputs device old' new → HasInputRisen inputs device old new
input_earlier inputs device old old' new fell h = record {
  index = h.index;
  name = h.name;
  device_is = h.device_is;
  file_is = h.file_is;
  rose = then_rose (old h.name) (old' h.name) (new h.name) (fell h.name) h.rose;
}

nothing_run : (chain : ChainState) → HasRun chain [] nothing_served []
unfolding run_each run_all writes_each
nothing_run chain = record {
  served = [];
  in_order = all_in_turn [];
  keeps = keeps_order [];
  in_turn = refl;
  run = refl;
  counted = refl;
}

module _ (chain : ChainState) (account : Account) where
  has_run : (frames : List Stamped) (fates : List Fate) → run_all chain (packets_of frames) account.picks ≡ Some fates → writes_all chain frames account.picks ≡ Some account.writes → account.order ≡ numbers (length frames)
      → HasRun chain frames account fates
  has_run frames fates run counted numbered = record {
    served = frames;
    in_order = ap (λ (o : List ℕ). in_order o frames) numbered ∙ all_in_turn frames;
    keeps = subst (KeepsOrder frames) (sym numbered) (keeps_order frames);
    in_turn = numbered;
    run = run;
    counted = counted;
  }

  module _ (bound : List BoundView) (s1 s4 : State) (none : account ≡ nothing_served) (same : IsSame s1.written s4.written) (fault : Fault) where
    -- a capture was not opened, or there was no memory
    pub not_opened : CaptureFault s1.held (inputs_of chain bound) s1.failed_reads s4.failed_reads fault → IsRunOf chain bound s1 s4 account fault
    not_opened why = capture_refused why (record { written = same; none_served = none })

  module _ (bound : List BoundView) (s1 s4 : State) (none : account ≡ nothing_served) (fault : Fault) (begin : AllBegin s1.held (inputs_of chain bound))
      (w2 : Held) (f2 : List ℕ → ℕ) (same : IsSame s1.written w2) (fell : NeverFell s1.failed_writes f2) where
    -- an output was not begun
    pub not_begun : AllGainFront (outputs_of bound) w2 s4.written (λ device. header_text) → IsSameElsewhere (outputs_of bound) w2 s4.written
        → OutputFault (outputs_of bound) f2 s4.failed_writes fault → IsRunOf chain bound s1 s4 account fault
    not_begun fronts others why =
        broken_off [] [] begin (no_frame (inputs_of chain bound) s1.held)
        (fault_between (outputs_of bound) s1.failed_writes f2 s4.failed_writes s4.failed_writes fault fell (λ name. same_count (s4.failed_writes name)) why)
        (subst (λ (a : Account). HasRun chain [] a []) (sym none) (nothing_run chain)) (inl (ap (λ (a : Account). a.classes) none))
        (record {
          written = fronts_from_same (outputs_of bound) s1.written w2 s4.written (λ device. device_text device []) same (front_of_header (outputs_of bound) w2 s4.written fronts);
          others = elsewhere_twice (outputs_of bound) s1.written w2 s4.written (elsewhere_same (outputs_of bound) s1.written w2 same) others;
        })

  module _ (bound : List BoundView) (s1 s4 : State) (fault : Fault) (begin : AllBegin s1.held (inputs_of chain bound))
      (w3 : Held) (r3 f3 : List ℕ → ℕ)
      (headers : AllGain (outputs_of bound) s1.written w3 (λ device. header_text)) (before : IsSameElsewhere (outputs_of bound) s1.written w3) (behind : IsSameElsewhere (outputs_of bound) w3 s4.written)
      (read : NeverFell s1.failed_reads r3) (wrote : NeverFell s1.failed_writes f3) (classes : IsClassCount chain account.classes) where
    written_all : (frames : List Stamped) (served : HasServed AllGain chain (outputs_of bound) w3 s4.written account frames) → HasWritten AllGain bound s1 s4 served.fates
    written_all frames served = record {
      written = all_twice (outputs_of bound) s1.written w3 s4.written (λ device. header_text) (λ device. sent_text device served.fates) (λ device. device_text device served.fates) (λ device. refl) headers served.written;
      others = elsewhere_twice (outputs_of bound) s1.written w3 s4.written before behind;
    }

    written_front : (frames : List Stamped) (served : HasServed AllGainFront chain (outputs_of bound) w3 s4.written account frames) → HasWritten AllGainFront bound s1 s4 served.fates
    written_front frames served = record {
      written = all_then_front (outputs_of bound) s1.written w3 s4.written (λ device. header_text) (λ device. sent_text device served.fates) (λ device. device_text device served.fates) (λ device. refl) headers served.written;
      others = elsewhere_twice (outputs_of bound) s1.written w3 s4.written before behind;
    }

    -- the frames were served, to the end or not
    pub run_of : (names : List (List ℕ)) → names ≡ inputs_of chain bound
        → IsServing chain names (outputs_of bound) s1.held s4.held w3 s4.written r3 s4.failed_reads f3 s4.failed_writes account fault → IsRunOf chain bound s1 s4 account fault
    run_of names named (all_served frames end merged sound is served) =
        ended frames served.fates end begin (subst (λ (l : List (List ℕ)). IsWholeMerge l s1.held frames end) named merged) sound is
        (has_run frames served.fates served.run served.counted served.numbered) classes (written_all frames served)
    run_of names named (served_part frames device cut is rose served) =
        input_failed frames served.fates device begin (subst (λ (l : List (List ℕ)). IsBrokenMerge l s1.held s4.held frames device) named cut) is
        (input_earlier (inputs_of chain bound) device s1.failed_reads r3 s4.failed_reads read (subst (λ (l : List (List ℕ)). HasInputRisen l device r3 s4.failed_reads) named rose))
        (has_run frames served.fates served.run served.counted served.numbered) classes (written_all frames served)
    run_of names named (served_some frames front why served) =
        broken_off frames served.fates begin (subst (λ (l : List (List ℕ)). AreFirst l s1.held frames) named front)
        (fault_between (outputs_of bound) s1.failed_writes f3 s4.failed_writes s4.failed_writes fault wrote (λ name. same_count (s4.failed_writes name)) why)
        (has_run frames served.fates served.run served.counted served.numbered) (inr classes) (written_front frames served)
