use Rattle.std.proofs.Common.{refl, ◌+◌, [], ◌∷◌, map, length, sym, ◌∙◌, ap, subst, rules}
use Rattle.std.proofs.lemmas.List.{length-append}
use Rattle.mt_io.specs.Laws.{same_twice, never_fell_twice}
use Rattle.mt_command.specs.Parts.{bound_view}
use Rattle.metron.specs.Inputs.{outputs_of}
use Rattle.metron.specs.Serving.{Outputs}
use Rattle.metron.proofs.Begun.{AreBegun, all_begun, some_begun, one_begun, one_partly, one_elsewhere, begin_fault, next_output, made_next, all_made}
use Rattle.metron.proofs.ends.open_outputs.Goals as goal

pub returns-in-Err-clause-err : goal.returns-in-Err-clause-err
returns-in-Err-clause-err g c =
    let outputs : Outputs = outputs_of (map bound_view c.args.bound.now) in
    let here = next_output c.loop-rest.writers.items c.loop-rest.rest.now outputs _ c.in-len1-up.len_at_least c.loop-rest.invariant.made in
    one_partly outputs (length c.loop-rest.writers.items) _ (g.F.Files.written c.loop-rest.files) c.requires.apart c.loop-rest.invariant.begun _ here (g.F.Files.written c.begin.new.files) c.in-Err.ensures.other_written c.in-Err.ensures.err

pub returns-in-Err-clause-cause : goal.returns-in-Err-clause-cause
returns-in-Err-clause-cause g c =
    let outputs : Outputs = outputs_of (map bound_view c.args.bound.now) in
    let here = next_output c.loop-rest.writers.items c.loop-rest.rest.now outputs _ c.in-len1-up.len_at_least c.loop-rest.invariant.made in
    begin_fault outputs (length c.loop-rest.writers.items) c.loop-rest.number _ _ (g.F.Files.write_faults c.loop-rest.files) (g.F.Files.write_faults c.begin.new.files) c.in-Err.fault c.loop-rest.invariant.counted here c.loop-rest.invariant.write_faults c.in-Err.ensures.cause

pub returns-in-Err-clause-other_written : goal.returns-in-Err-clause-other_written
returns-in-Err-clause-other_written g c =
    let outputs : Outputs = outputs_of (map bound_view c.args.bound.now) in
    let here = next_output c.loop-rest.writers.items c.loop-rest.rest.now outputs _ c.in-len1-up.len_at_least c.loop-rest.invariant.made in
    one_elsewhere outputs (length c.loop-rest.writers.items) _ (g.F.Files.written c.loop-rest.files) c.requires.apart c.loop-rest.invariant.begun _ here (g.F.Files.written c.begin.new.files) c.in-Err.ensures.other_written c.loop-rest.invariant.others

pub returns-in-Err-push-clause-err : goal.returns-in-Err-push-clause-err
returns-in-Err-push-clause-err g c =
    let outputs : Outputs = outputs_of (map bound_view c.args.bound.now) in
    let here = next_output c.loop-rest.writers.items c.loop-rest.rest.now outputs _ c.in-len1-up.len_at_least c.loop-rest.invariant.made in
    some_begun outputs (length c.loop-rest.writers.items + 1) _ (g.F.Files.written c.begin.new.files) c.requires.apart
    (one_begun outputs (length c.loop-rest.writers.items) _ (g.F.Files.written c.loop-rest.files) c.requires.apart c.loop-rest.invariant.begun _ here (g.F.Files.written c.begin.new.files) c.in-Ok.ensures.other_written c.in-Ok.ensures.ok)

pub returns-in-Err-push-clause-other_written : goal.returns-in-Err-push-clause-other_written
returns-in-Err-push-clause-other_written g c =
    let outputs : Outputs = outputs_of (map bound_view c.args.bound.now) in
    let here = next_output c.loop-rest.writers.items c.loop-rest.rest.now outputs _ c.in-len1-up.len_at_least c.loop-rest.invariant.made in
    one_elsewhere outputs (length c.loop-rest.writers.items) _ (g.F.Files.written c.loop-rest.files) c.requires.apart c.loop-rest.invariant.begun _ here (g.F.Files.written c.begin.new.files) c.in-Ok.ensures.other_written c.loop-rest.invariant.others

pub loop-rest-preserved : goal.loop-rest-preserved
loop-rest-preserved g c =
    let outputs : Outputs = outputs_of (map bound_view c.args.bound.now) in
    let here = next_output c.loop-rest.writers.items c.loop-rest.rest.now outputs _ c.in-len1-up.len_at_least c.loop-rest.invariant.made in
    record {
      made = made_next c.loop-rest.writers.items c.push.new.self.items c.in-Ok.writer c.loop-rest.rest.now _ outputs _ c.in-len1-up.len_at_least c.in-Ok-push.ensures.items c.in-Ok.ensures.name refl c.loop-rest.invariant.made;
      counted = search rules;
      room = search rules;
      begun = subst (λ k. AreBegun outputs k (g.F.Files.written c.args.files.now) (g.F.Files.written c.begin.new.files)) (sym (ap length c.in-Ok-push.ensures.items ∙ length-append c.loop-rest.writers.items (c.in-Ok.writer ∷ [])))
          (one_begun outputs (length c.loop-rest.writers.items) _ (g.F.Files.written c.loop-rest.files) c.requires.apart c.loop-rest.invariant.begun _ here (g.F.Files.written c.begin.new.files) c.in-Ok.ensures.other_written c.in-Ok.ensures.ok);
      others = one_elsewhere outputs (length c.loop-rest.writers.items) _ (g.F.Files.written c.loop-rest.files) c.requires.apart c.loop-rest.invariant.begun _ here (g.F.Files.written c.begin.new.files) c.in-Ok.ensures.other_written c.loop-rest.invariant.others;
      held = same_twice _ _ _ c.loop-rest.invariant.held c.begin.ensures.held;
      read_faults = never_fell_twice _ _ _ c.loop-rest.invariant.read_faults c.begin.ensures.read_faults;
      write_faults = never_fell_twice _ _ _ c.loop-rest.invariant.write_faults c.begin.ensures.write_faults;
    }

pub returns-clause-ok : goal.returns-clause-ok
returns-clause-ok g c =
    let outputs : Outputs = outputs_of (map bound_view c.args.bound.now) in
    all_begun outputs (length c.loop-rest.writers.items) _ (g.F.Files.written c.loop-rest.files) (all_made c.loop-rest.writers.items c.loop-rest.rest.now outputs c.in_default.len_below c.loop-rest.invariant.made) c.loop-rest.invariant.begun
