use Rattle.std.proofs.Common.{◌≡◌, ◌≤◌, ℕ, List, [], length, map, take, refl, sym, ◌∙◌, ap, subst, arith, rules}
use Rattle.std.proofs.lemmas.List.{length-map}
use Rattle.mt_io.specs.Laws.{never_fell_twice}
use Rattle.mt_pcap.specs.Merged.{HasMerged}
use Rattle.mt_pcap.specs.Opened.{AreOpened}
use Rattle.mt_pcap.specs.Sources.{AreApart}
use Rattle.mt_pcap.specs.Text.{header_text}
use Rattle.mt_command.specs.Parts.{BoundView, bound_view}
use Rattle.metron.specs.Inputs.{or_empty, inputs_of, outputs_of}
use Rattle.metron.specs.Serving.{AreFilesApart, Outputs, IsSameElsewhere, IsServing}
use Rattle.mt_synth.specs.Classes.{class_form}
use Rattle.metron.specs.Outcome.{account_of}
use Rattle.metron.specs.Causes.{State, state_of}
use Rattle.metron.proofs.Outputs.{all_from_same, elsewhere_twice, elsewhere_same}
use Rattle.metron.proofs.Passes.{all_begin, as_many_begun, not_begun, run_of}
use Rattle.metron.proofs.command.run_chain.Goals as goal

pub overflow_cast-count : goal.overflow_cast-count
overflow_cast-count g c =
    let same = ap length c.list.ensures in
    let few = c.requires.numbered in
    omega (arith, same, few)

pub open_captures-requires-clause-apart : goal.open_captures-requires-clause-apart
open_captures-requires-clause-apart g c =
    subst AreApart (sym (ap (map (λ f. f.now)) c.deref.ensures.value ∙ c.in-Ok.ensures ∙ ap (λ n. map (λ (b : BoundView). or_empty b.input) (take n (map bound_view c.args.bound.now))) c.entries.ensures)) c.requires.inputs

pub new-requires-clause-apart : goal.new-requires-clause-apart
new-requires-clause-apart g c =
    let names : List (List ℕ) = inputs_of c.args.chain (map bound_view c.args.bound.now) in
    let opened : AreOpened names (g.F.Files.held c.args.files.now) (g.F.Files.held c.open_captures.new.files) c.in-Ok-open_captures.readers.items =
    subst (λ (l : List (List ℕ)). AreOpened l (g.F.Files.held c.args.files.now) (g.F.Files.held c.open_captures.new.files) c.in-Ok-open_captures.readers.items)
    (ap (map (λ f. f.now)) c.deref.ensures.value ∙ c.in-Ok.ensures ∙ ap (λ n. map (λ (b : BoundView). or_empty b.input) (take n (map bound_view c.args.bound.now))) c.entries.ensures)
    c.in-Ok-open_captures.ensures.opened in
    subst AreApart (sym opened.named) c.requires.inputs

pub serve-requires-clause-apart : goal.serve-requires-clause-apart
serve-requires-clause-apart g c = subst AreFilesApart (sym (c.deref_mut.ensures.value ∙ c.in-Ok-open_outputs.ensures.names)) c.requires.outputs

pub serve-requires-clause-begun : goal.serve-requires-clause-begun
serve-requires-clause-begun g c =
    let names : List (List ℕ) = inputs_of c.args.chain (map bound_view c.args.bound.now) in
    let opened : AreOpened names (g.F.Files.held c.args.files.now) (g.F.Files.held c.open_captures.new.files) c.in-Ok-open_captures.readers.items =
    subst (λ (l : List (List ℕ)). AreOpened l (g.F.Files.held c.args.files.now) (g.F.Files.held c.open_captures.new.files) c.in-Ok-open_captures.readers.items)
    (ap (map (λ f. f.now)) c.deref.ensures.value ∙ c.in-Ok.ensures ∙ ap (λ n. map (λ (b : BoundView). or_empty b.input) (take n (map bound_view c.args.bound.now))) c.entries.ensures)
    c.in-Ok-open_captures.ensures.opened in
    let same = ap length c.in-Ok-new.ensures.sources in
    let many = as_many_begun c.in-Ok-open_captures.readers.items names opened.named in
    let few = c.requires.known in
    (c.args.chain, c.in-Ok-open_worker.ensures, omega (arith, same, many, few))

pub returns-in-Err-open_outputs-clause-run : goal.returns-in-Err-open_outputs-clause-run
returns-in-Err-open_outputs-clause-run g c =
    let names : List (List ℕ) = inputs_of c.args.chain (map bound_view c.args.bound.now) in
    let opened : AreOpened names (g.F.Files.held c.args.files.now) (g.F.Files.held c.open_captures.new.files) c.in-Ok-open_captures.readers.items =
    subst (λ (l : List (List ℕ)). AreOpened l (g.F.Files.held c.args.files.now) (g.F.Files.held c.open_captures.new.files) c.in-Ok-open_captures.readers.items)
    (ap (map (λ f. f.now)) c.deref.ensures.value ∙ c.in-Ok.ensures ∙ ap (λ n. map (λ (b : BoundView). or_empty b.input) (take n (map bound_view c.args.bound.now))) c.entries.ensures)
    c.in-Ok-open_captures.ensures.opened in
    let s1 : State = state_of g.F.Files.held g.F.Files.written g.F.Files.read_faults g.F.Files.write_faults c.args.files.now in
    let s4 : State = state_of g.F.Files.held g.F.Files.written g.F.Files.read_faults g.F.Files.write_faults c.open_outputs.new.files in
    not_begun c.args.chain (account_of c.args.tally.now) (map bound_view c.args.bound.now) s1 s4 c.requires.first c.in-Err-open_outputs.fault (all_begin names _ _ _ opened)
    (g.F.Files.written c.open_captures.new.files) (g.F.Files.write_faults c.open_captures.new.files) c.open_captures.ensures.written c.open_captures.ensures.write_faults
    c.in-Err-open_outputs.ensures.err c.open_outputs.ensures.other_written c.in-Err-open_outputs.ensures.cause

pub returns-clause-run : goal.returns-clause-run
returns-clause-run g c =
    let names : List (List ℕ) = inputs_of c.args.chain (map bound_view c.args.bound.now) in
    let opened : AreOpened names (g.F.Files.held c.args.files.now) (g.F.Files.held c.open_captures.new.files) c.in-Ok-open_captures.readers.items =
    subst (λ (l : List (List ℕ)). AreOpened l (g.F.Files.held c.args.files.now) (g.F.Files.held c.open_captures.new.files) c.in-Ok-open_captures.readers.items)
    (ap (map (λ f. f.now)) c.deref.ensures.value ∙ c.in-Ok.ensures ∙ ap (λ n. map (λ (b : BoundView). or_empty b.input) (take n (map bound_view c.args.bound.now))) c.entries.ensures)
    c.in-Ok-open_captures.ensures.opened in
    let s1 : State = state_of g.F.Files.held g.F.Files.written g.F.Files.read_faults g.F.Files.write_faults c.args.files.now in
    let s4 : State = state_of g.F.Files.held g.F.Files.written g.F.Files.read_faults g.F.Files.write_faults c.serve.new.files in
    let outputs : Outputs = outputs_of (map bound_view c.args.bound.now) in
    let listed : c.serve.new.tally.classes ≡ length c.list.result.now = search rules in
    let told : c.serve.new.tally.classes ≡ length c.args.classes = listed ∙ ap length c.list.ensures in
    let same = ap length c.in-Ok-new.ensures.sources in
    let many = as_many_begun c.in-Ok-open_captures.readers.items names opened.named in
    let few = c.requires.known in
    let known : length c.in-Ok-new.merge.sources ≤ c.args.chain.entries = omega (arith, same, many, few) in
    let counted : c.serve.new.tally.classes ≡ length (map class_form c.args.classes) = told ∙ sym (length-map c.args.classes class_form) in
    let writers : c.deref_mut.result.now ≡ outputs = c.deref_mut.ensures.value ∙ c.in-Ok-open_outputs.ensures.names in
    let merged : HasMerged names s1.held (g.F.Files.held c.open_outputs.new.files) [] c.in-Ok-new.merge =
    c.merges_all.ensures.begins names s1.held (g.F.Files.held c.open_outputs.new.files) c.in-Ok-open_captures.readers.items c.in-Ok-new.merge
    (c.merges_all.ensures.opened_still names s1.held (g.F.Files.held c.open_captures.new.files) (g.F.Files.held c.open_outputs.new.files) c.in-Ok-open_captures.readers.items c.open_outputs.ensures.held opened)
    c.in-Ok-new.ensures.sources c.in-Ok-new.ensures.given in
    run_of c.args.chain (account_of c.serve.new.tally) (map bound_view c.args.bound.now) s1 s4 c.serve.result (all_begin names _ _ _ opened)
    (g.F.Files.written c.open_outputs.new.files) (g.F.Files.read_faults c.open_outputs.new.files) (g.F.Files.write_faults c.open_outputs.new.files)
    (all_from_same outputs s1.written (g.F.Files.written c.open_captures.new.files) (g.F.Files.written c.open_outputs.new.files) (λ device. header_text) c.open_captures.ensures.written c.in-Ok-open_outputs.ensures.ok)
    (elsewhere_twice outputs s1.written (g.F.Files.written c.open_captures.new.files) (g.F.Files.written c.open_outputs.new.files) (elsewhere_same outputs s1.written (g.F.Files.written c.open_captures.new.files) c.open_captures.ensures.written) c.open_outputs.ensures.other_written)
    (subst (λ (w : Outputs). IsSameElsewhere w (g.F.Files.written c.open_outputs.new.files) s4.written) writers c.serve.ensures.other_written)
    (never_fell_twice _ _ _ c.open_captures.ensures.read_faults c.open_outputs.ensures.read_faults) (never_fell_twice _ _ _ c.open_captures.ensures.write_faults c.open_outputs.ensures.write_faults)
    (map class_form c.args.classes, c.requires.classes, counted)
    names refl
    (subst (λ (w : Outputs). IsServing c.args.chain names w s1.held s4.held (g.F.Files.written c.open_outputs.new.files) s4.written (g.F.Files.read_faults c.open_outputs.new.files) s4.failed_reads (g.F.Files.write_faults c.open_outputs.new.files) s4.failed_writes (account_of c.serve.new.tally) c.serve.result)
    writers (c.serve.ensures.serving c.args.chain c.in-Ok-open_worker.ensures known names s1.held merged))
