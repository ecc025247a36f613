use Rattle.std.proofs.Common.{sym, ◌∙◌, ap, map, subst, List}
use Rattle.mt_command.specs.Parts.{bound_view}
use Rattle.mt_command.specs.declared.devices.Bound.{Bound}
use Rattle.metron.specs.Inputs.{Told, outputs_of}
use Rattle.metron.specs.Serving.{Outputs}
use Rattle.metron.specs.Causes.{State, state_of}
use Rattle.metron.specs.Finish.{AreOutputs, UnwrittenCause}
use Rattle.metron.specs.Finish.IsServed.{all_written, some_pending}
use Rattle.metron.proofs.Finished.{finish_fault, rose_since, fell_then_same}
use Rattle.metron.proofs.run.finish_run.Goals as goal

-- all was written: the inner files have what the run told
pub returns-in-Ok : goal.returns-in-Ok
returns-in-Ok g c = λ call command old account is run are fell.
    all_written _ run
    (λ name. ap (λ f. g.F.Files.written f name) c.into_inner.ensures.inner ∙ sym (c.in-Ok.ensures.ok name))
    (record {
      reads = fell_then_same _ _ _ c.finish.ensures.read_faults c.into_inner.ensures.read_faults;
      writes = fell_then_same _ _ _ c.finish.ensures.write_faults c.into_inner.ensures.write_faults;
    })

-- some bytes are pending: the writes of an output failed
pub returns-in-Err : goal.returns-in-Err
returns-in-Err g c = λ call command old account is run are fell.
    let new : State = state_of g.F.Files.held g.F.Files.written g.F.Files.read_faults g.F.Files.write_faults c.into_inner-in-Err.result in
    let outputs : Outputs = outputs_of (map bound_view c.deref.result.now) in
    some_pending command _ c.args.ended.now.fault is run
    (λ name. let pending = c.into_inner-in-Err.ensures.written name in (pending.0, sym (c.finish.ensures.written name) ∙ pending.1))
    (record {
      reads = fell_then_same _ _ _ c.finish.ensures.read_faults c.into_inner-in-Err.ensures.read_faults;
      writes = fell_then_same _ _ _ c.finish.ensures.write_faults c.into_inner-in-Err.ensures.write_faults;
    })
    (finish_fault call old new command c.unwritten_fault-fault.result outputs _
    (subst (λ (l : List Bound). AreOutputs call old.held command (outputs_of (map bound_view l))) (sym c.deref.ensures.value) are)
    (rose_since _ old.failed_writes _ _ new.failed_writes fell c.into_inner-in-Err.ensures.write_faults c.in-Err.ensures.err)
    (subst (λ (o : Told). UnwrittenCause outputs o c.unwritten_fault-fault.result) c.unwritten.ensures c.unwritten_fault-fault.ensures))
