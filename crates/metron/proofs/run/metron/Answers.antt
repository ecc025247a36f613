use Rattle.std.proofs.Common.{map}
use Rattle.std.specs.String.{string_bytes}
use Rattle.metron.specs.Causes.{Call, State, call_of, state_of, IsRun}
use Rattle.metron.specs.Outcome.{told_of}
use Rattle.metron.proofs.Exact.{exact, complete, finished, early, moved}
use Rattle.metron.proofs.run.metron.Goals as goal

pub returns-clause-run : goal.returns-clause-run
returns-clause-run g c =
    let call : Call = call_of (map (λ policy. policy.name) c.args.policies.list.items) (map string_bytes c.args.words.now) in
    let old : State = state_of g.F.Files.held g.F.Files.written g.F.Files.read_faults g.F.Files.write_faults c.args.files.now in
    let new : State = state_of g.F.Files.held g.F.Files.written g.F.Files.read_faults g.F.Files.write_faults c.run-fault.new.files in
    let ran : IsRun call old new (told_of c.new.result) c.new.result.fault = moved call old new _ _ _ _ c.new.ensures.fault c.new.ensures.told c.run-fault.ensures in
    ran

pub returns-clause-done : goal.returns-clause-done
returns-clause-done g c =
    let call : Call = call_of (map (λ policy. policy.name) c.args.policies.list.items) (map string_bytes c.args.words.now) in
    let old : State = state_of g.F.Files.held g.F.Files.written g.F.Files.read_faults g.F.Files.write_faults c.args.files.now in
    let new : State = state_of g.F.Files.held g.F.Files.written g.F.Files.read_faults g.F.Files.write_faults c.run-fault.new.files in
    let ran : IsRun call old new (told_of c.new.result) c.new.result.fault = moved call old new _ _ _ _ c.new.ensures.fault c.new.ensures.told c.run-fault.ensures in
    finished call old new _ _ ran

pub returns-clause-nothing_written : goal.returns-clause-nothing_written
returns-clause-nothing_written g c =
    let call : Call = call_of (map (λ policy. policy.name) c.args.policies.list.items) (map string_bytes c.args.words.now) in
    let old : State = state_of g.F.Files.held g.F.Files.written g.F.Files.read_faults g.F.Files.write_faults c.args.files.now in
    let new : State = state_of g.F.Files.held g.F.Files.written g.F.Files.read_faults g.F.Files.write_faults c.run-fault.new.files in
    let ran : IsRun call old new (told_of c.new.result) c.new.result.fault = moved call old new _ _ _ _ c.new.ensures.fault c.new.ensures.told c.run-fault.ensures in
    early call old new _ _ ran

pub returns-clause-exact : goal.returns-clause-exact
returns-clause-exact g c =
    let call : Call = call_of (map (λ policy. policy.name) c.args.policies.list.items) (map string_bytes c.args.words.now) in
    let old : State = state_of g.F.Files.held g.F.Files.written g.F.Files.read_faults g.F.Files.write_faults c.args.files.now in
    let new : State = state_of g.F.Files.held g.F.Files.written g.F.Files.read_faults g.F.Files.write_faults c.run-fault.new.files in
    let ran : IsRun call old new (told_of c.new.result) c.new.result.fault = moved call old new _ _ _ _ c.new.ensures.fault c.new.ensures.told c.run-fault.ensures in
    exact c.one_answer_of_runs.ensures call old new _ _ ran

pub returns-clause-complete : goal.returns-clause-complete
returns-clause-complete g c =
    let call : Call = call_of (map (λ policy. policy.name) c.args.policies.list.items) (map string_bytes c.args.words.now) in
    let old : State = state_of g.F.Files.held g.F.Files.written g.F.Files.read_faults g.F.Files.write_faults c.args.files.now in
    let new : State = state_of g.F.Files.held g.F.Files.written g.F.Files.read_faults g.F.Files.write_faults c.run-fault.new.files in
    let ran : IsRun call old new (told_of c.new.result) c.new.result.fault = moved call old new _ _ _ _ c.new.ensures.fault c.new.ensures.told c.run-fault.ensures in
    complete c.one_answer_of_runs.ensures call old new _ (exact c.one_answer_of_runs.ensures call old new _ _ ran)
