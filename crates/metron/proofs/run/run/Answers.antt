use Rattle.std.proofs.Common.{map, subst, rules}
use Rattle.std.specs.String.{string_bytes}
use Rattle.mt_io.specs.Laws.{same_refl}
use Rattle.mt_command.specs.Command.{IsWordsFault}
use Rattle.metron.specs.Causes.{Call, call_of}
use Rattle.metron.specs.Causes.IsRefusal.{no_command}
use Rattle.metron.specs.Causes.IsRun.{refused}
use Rattle.metron.proofs.run.run.Goals as goal

pub returns-in-Ok : goal.returns-in-Ok
returns-in-Ok g c = c.run_command.ensures.run (call_of (map (λ policy. policy.name) c.args.policies.list.items) (map string_bytes c.args.words.now)) c.in-Ok.ensures.command

pub returns-in-Err-Word : goal.returns-in-Err-Word
returns-in-Err-Word g c =
    let call : Call = call_of (map (λ policy. policy.name) c.args.policies.list.items) (map string_bytes c.args.words.now) in
    refused (no_command c.in-Err-Word.word (subst (IsWordsFault call.policies call.words) c.in-Err-Word.field-0-is c.in-Err-Word.ensures.fault) (search rules)) (record { written = same_refl _; none_served = c.requires.first })
