use Rattle.std.proofs.Common.{◌≡◌, ◌<◌, ◌+◌, length, get_or, refl, sym, ap, subst, ◌∙◌, rules, arith, Some, Err}
use Rattle.std.specs.Prelude.{slice_get}
use Rattle.std.proofs.Math.Nat.{le_refl}
use Rattle.std.proofs.lemmas.Option.{slice_get-get_or, slice_get_within}
use Rattle.mt_pcap.specs.declared.fault.PcapFault.{PcapFault}
use Rattle.mt_pcap.specs.Merge.{Fault}
use Rattle.mt_pcap.specs.Sources.{Source, AreApart, names_of, EndsSo}
use Rattle.mt_pcap.proofs.MergeStreams.{all_left_set, names_set, balanced_set, ready_set, untouched_set, beside_more, failed_here, fault_here}
use Rattle.mt_pcap.proofs.AllGoes.{one_given, unbroken_set, broken_here}
use Rattle.mt_pcap.proofs.merging.fill_all.Goals as goal

-- a fault is met

pub returns-in-Err-clause-left : goal.returns-in-Err-clause-left
returns-in-Err-clause-left g c =
    let kept = c.loop-index.invariant in
    let xs = c.loop-index.queues in
    let s : Source = get_or xs c.loop-index.index c.index-queues-index.result in
    let there : slice_get xs c.loop-index.index ≡ Some s = slice_get-get_or xs c.loop-index.index c.index-queues-index.result (omega arith) in
    let apart : AreApart (names_of xs) = subst AreApart (sym kept.names) c.requires.apart in
    λ other. all_left_set _ _ xs c.loop-index.index s c.fill.new.self apart there c.in-Err.ensures.other_files (c.in-Err.ensures.left other) ∙ kept.left

pub returns-in-Err-clause-fault : goal.returns-in-Err-clause-fault
returns-in-Err-clause-fault g c =
    let kept = c.loop-index.invariant in
    let xs = c.loop-index.queues in
    let s : Source = get_or xs c.loop-index.index c.index-queues-index.result in
    let there : slice_get xs c.loop-index.index ≡ Some s = slice_get-get_or xs c.loop-index.index c.index-queues-index.result (omega arith) in
    λ named. subst (λ o. EndsSo o (Fault (c.loop-index.index + 1) c.in-Err.fault)) kept.left
    (fault_here _ xs c.loop-index.index (c.loop-index.index + 1) s c.in-Err.fault there refl kept.ready (c.in-Err.ensures.fault named))

pub returns-in-Err-clause-read_fault : goal.returns-in-Err-clause-read_fault
returns-in-Err-clause-read_fault g c =
    let kept = c.loop-index.invariant in
    let xs = c.loop-index.queues in
    let s : Source = get_or xs c.loop-index.index c.index-queues-index.result in
    let there : slice_get xs c.loop-index.index ≡ Some s = slice_get-get_or xs c.loop-index.index c.index-queues-index.result (omega arith) in
    let first : slice_get c.args.queues.now c.loop-index.index ≡ Some s = sym (kept.untouched c.loop-index.index (le_refl c.loop-index.index)) ∙ there in
    λ is. failed_here c.args.queues.now c.loop-index.index s c.in-Err.fault _ _ _ first is kept.read_faults (c.in-Err.ensures.read_fault (ap (λ (f : PcapFault). Err f) is))

pub returns-in-Err-clause-broken : goal.returns-in-Err-clause-broken
returns-in-Err-clause-broken g c =
    let kept = c.loop-index.invariant in
    let xs = c.loop-index.queues in
    let s : Source = get_or xs c.loop-index.index c.index-queues-index.result in
    let there : slice_get xs c.loop-index.index ≡ Some s = slice_get-get_or xs c.loop-index.index c.index-queues-index.result (omega arith) in
    let first : slice_get c.args.queues.now c.loop-index.index ≡ Some s = sym (kept.untouched c.loop-index.index (le_refl c.loop-index.index)) ∙ there in
    λ is. broken_here c.args.queues.now xs c.loop-index.index s _ _ _ first there kept.left kept.ready kept.given (c.in-Err.ensures.cut is)

pub returns-in-Err-clause-past_header : goal.returns-in-Err-clause-past_header
returns-in-Err-clause-past_header g c =
    let kept = c.loop-index.invariant in
    let xs = c.loop-index.queues in
    let s : Source = get_or xs c.loop-index.index c.index-queues-index.result in
    let there : slice_get xs c.loop-index.index ≡ Some s = slice_get-get_or xs c.loop-index.index c.index-queues-index.result (omega arith) in
    λ old. c.in-Err.ensures.past_header (λ other. kept.unbroken old c.loop-index.index s other there)

pub returns-in-Err-clause-names : goal.returns-in-Err-clause-names
returns-in-Err-clause-names g c =
    let kept = c.loop-index.invariant in
    let xs = c.loop-index.queues in
    let s : Source = get_or xs c.loop-index.index c.index-queues-index.result in
    let there : slice_get xs c.loop-index.index ≡ Some s = slice_get-get_or xs c.loop-index.index c.index-queues-index.result (omega arith) in
    names_set xs c.loop-index.index s c.fill.new.self there c.in-Err.ensures.name ∙ kept.names

pub returns-in-Err-clause-balanced : goal.returns-in-Err-clause-balanced
returns-in-Err-clause-balanced g c =
    let kept = c.loop-index.invariant in
    let xs = c.loop-index.queues in
    let s : Source = get_or xs c.loop-index.index c.index-queues-index.result in
    let there : slice_get xs c.loop-index.index ≡ Some s = slice_get-get_or xs c.loop-index.index c.index-queues-index.result (omega arith) in
    let first : slice_get c.args.queues.now c.loop-index.index ≡ Some s = sym (kept.untouched c.loop-index.index (le_refl c.loop-index.index)) ∙ there in
    balanced_set c.args.queues.now xs c.loop-index.index s c.fill.new.self first there c.in-Err.ensures.balanced kept.balanced

pub returns-in-Err-clause-other_files : goal.returns-in-Err-clause-other_files
returns-in-Err-clause-other_files g c =
    let kept = c.loop-index.invariant in
    let xs = c.loop-index.queues in
    let s : Source = get_or xs c.loop-index.index c.index-queues-index.result in
    let there : slice_get xs c.loop-index.index ≡ Some s = slice_get-get_or xs c.loop-index.index c.index-queues-index.result (omega arith) in
    let first : slice_get c.args.queues.now c.loop-index.index ≡ Some s = sym (kept.untouched c.loop-index.index (le_refl c.loop-index.index)) ∙ there in
    beside_more c.args.queues.now c.loop-index.index s _ _ _ first kept.other_files c.in-Err.ensures.other_files

-- one more is ready

pub loop-index-preserved : goal.loop-index-preserved
loop-index-preserved g c =
    let kept = c.loop-index.invariant in
    let xs = c.loop-index.queues in
    let s : Source = get_or xs c.loop-index.index c.index-queues-index.result in
    let there : slice_get xs c.loop-index.index ≡ Some s = slice_get-get_or xs c.loop-index.index c.index-queues-index.result (omega arith) in
    let first : slice_get c.args.queues.now c.loop-index.index ≡ Some s = sym (kept.untouched c.loop-index.index (le_refl c.loop-index.index)) ∙ there in
    let apart : AreApart (names_of xs) = subst AreApart (sym kept.names) c.requires.apart in
    record {
      names = names_set xs c.loop-index.index s c.fill.new.self there c.in-Ok.ensures.name ∙ kept.names;
      untouched = untouched_set c.args.queues.now xs c.loop-index.index c.fill.new.self kept.untouched;
      ready = ready_set xs c.loop-index.index s c.fill.new.self there c.in-Ok.ensures.ready kept.ready;
      balanced = balanced_set c.args.queues.now xs c.loop-index.index s c.fill.new.self first there c.in-Ok.ensures.balanced kept.balanced;
      given = one_given c.args.queues.now xs c.loop-index.index s c.fill.new.self _ _ _ apart kept.names there c.in-Ok.ensures.other_files c.in-Ok.ensures.goes_on kept.given;
      unbroken = λ first_unbroken. unbroken_set xs c.loop-index.index s c.fill.new.self there c.in-Ok.ensures.unbroken (kept.unbroken first_unbroken);
      left = all_left_set _ _ xs c.loop-index.index s c.fill.new.self apart there c.in-Ok.ensures.other_files c.in-Ok.ensures.left ∙ kept.left;
      other_files = beside_more c.args.queues.now c.loop-index.index s _ _ _ first kept.other_files c.in-Ok.ensures.other_files;
      written = search rules;
      read_faults = search rules;
      write_faults = search rules;
    }

pub returns-clause-ready : goal.returns-clause-ready
returns-clause-ready g c = λ k s at.
    let within : k < length c.loop-index.queues = slice_get_within c.loop-index.queues k s at in
    c.loop-index.invariant.ready k s (omega arith) at
