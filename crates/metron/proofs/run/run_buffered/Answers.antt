use Rattle.std.proofs.Common.{refl, map, subst, rules}
use Rattle.std.specs.String.{string_bytes}
use Rattle.mt_io.specs.Laws.{same_refl, never_fell_refl}
use Rattle.mt_command.specs.Parts.{run_view}
use Rattle.metron.specs.Causes.{Call, State, call_of, state_of}
use Rattle.mt_command.specs.Command.{IsWordsFault}
use Rattle.metron.specs.Causes.IsRefusal.{no_command, no_memory}
use Rattle.metron.specs.Causes.IsRun.{refused}
use Rattle.metron.specs.Finish.IsServed.{all_written}
use Rattle.metron.proofs.Stages.{from_same}
use Rattle.metron.proofs.Finished.{same_then_fell, outputs_from}
use Rattle.metron.proofs.run.run_buffered.Goals as goal

pub returns-in-Err-Word : goal.returns-in-Err-Word
returns-in-Err-Word g c =
    let call : Call = call_of (map (λ policy. policy.name) c.args.policies.list.items) (map string_bytes c.args.words.now) in
    let s : State = state_of g.F.Files.held g.F.Files.written g.F.Files.read_faults g.F.Files.write_faults c.args.files in
    all_written s (refused (no_command c.in-Err-Word.word (subst (IsWordsFault call.policies call.words) c.in-Err-Word.field-0-is c.in-Err-Word.ensures.fault) (search rules)) (record { written = same_refl _; none_served = c.requires.first })) (same_refl _)
    (record { reads = never_fell_refl _; writes = never_fell_refl _ })

pub returns-in-Err-NoMemory : goal.returns-in-Err-NoMemory
returns-in-Err-NoMemory g c =
    let s : State = state_of g.F.Files.held g.F.Files.written g.F.Files.read_faults g.F.Files.write_faults c.args.files in
    all_written s (refused (no_memory refl) (record { written = same_refl _; none_served = c.requires.first })) (same_refl _) (record { reads = never_fell_refl _; writes = never_fell_refl _ })

-- from the state before the files had buffers
pub returns : goal.returns
returns g c =
    let call : Call = call_of (map (λ policy. policy.name) c.args.policies.list.items) (map string_bytes c.args.words.now) in
    let old : State = state_of g.F.Files.held g.F.Files.written g.F.Files.read_faults g.F.Files.write_faults c.args.files in
    c.finish_run.ensures call (run_view c.in-Ok.read.0) old _ c.in-Ok.ensures.command
    (from_same _ _ _ _ _ _ (record { held = c.new-buffered.ensures.held; written = c.new-buffered.ensures.written; failed_reads = c.new-buffered.ensures.read_faults; failed_writes = c.new-buffered.ensures.write_faults })
    (c.run_command-ended.ensures.run call c.in-Ok.ensures.command))
    (outputs_from call old.held _ (run_view c.in-Ok.read.0) _ c.new-buffered.ensures.held (c.run_command-ended.ensures.outputs call c.in-Ok.ensures.command))
    (same_then_fell _ _ _ c.new-buffered.ensures.write_faults c.run_command-ended.ensures.write_faults)
