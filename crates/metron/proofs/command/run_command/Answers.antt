use Rattle.std.proofs.Common.{List, length, map, sym, ap, subst, arith}
use Rattle.std.proofs.lemmas.List.{length-map}
use Rattle.mt_pcap.specs.Sources.{AreApart}
use Rattle.mt_command.specs.declared.devices.Bound.{Bound}
use Rattle.mt_command.specs.Parts.{run_view, bound_view}
use Rattle.metron.specs.Inputs.{inputs_of, outputs_of}
use Rattle.metron.specs.Serving.{AreFilesApart}
use Rattle.metron.specs.Outcome.{account_of}
use Rattle.metron.specs.Causes.{State, state_of, IsRunOf}
use Rattle.metron.specs.Causes.IsRun.{refused}
use Rattle.metron.proofs.Files.{inputs_apart, outputs_apart}
use Rattle.metron.proofs.Commands.{few_devices, ran_so}
use Rattle.metron.proofs.command.run_command.Goals as goal

pub returns-in-Err-clause-run : goal.returns-in-Err-clause-run
returns-in-Err-clause-run g c = λ call is. refused (c.in-Err.ensures.err call is) (record { written = c.prepare.ensures.written; none_served = c.requires.first })

pub run_chain-fault-requires-clause-few : goal.run_chain-fault-requires-clause-few
run_chain-fault-requires-clause-few g c =
    let few = few_devices c.in-Ok.prepared.chain _ _ c.is_accepted.ensures.accepted c.in-Ok.ensures.bound in
    let viewed = length-map c.in-Ok.prepared.bound.items bound_view in
    let same = ap length c.deref.ensures.value in
    omega (arith, few, viewed, same)

pub run_chain-fault-requires-clause-inputs : goal.run_chain-fault-requires-clause-inputs
run_chain-fault-requires-clause-inputs g c =
    subst (λ (l : List Bound). AreApart (inputs_of c.in-Ok.prepared.chain (map bound_view l))) (sym c.deref.ensures.value)
    (inputs_apart c.in-Ok.prepared.chain _ _ c.in-Ok.ensures.bound (run_view c.args.command.now) c.in-Ok.ensures.apart)

pub run_chain-fault-requires-clause-outputs : goal.run_chain-fault-requires-clause-outputs
run_chain-fault-requires-clause-outputs g c =
    subst (λ (l : List Bound). AreFilesApart (outputs_of (map bound_view l))) (sym c.deref.ensures.value)
    (outputs_apart c.in-Ok.prepared.chain _ _ c.in-Ok.ensures.bound (run_view c.args.command.now) c.in-Ok.ensures.apart)

pub returns-clause-run : goal.returns-clause-run
returns-clause-run g c = λ call is.
    let s0 : State = state_of g.F.Files.held g.F.Files.written g.F.Files.read_faults g.F.Files.write_faults c.args.files.now in
    let s1 : State = state_of g.F.Files.held g.F.Files.written g.F.Files.read_faults g.F.Files.write_faults c.prepare.new.files in
    let s2 : State = state_of g.F.Files.held g.F.Files.written g.F.Files.read_faults g.F.Files.write_faults c.run_chain-fault.new.files in
    ran_so (run_view c.args.command.now) c.in-Ok.prepared.chain (map bound_view c.in-Ok.prepared.bound.items) c.in-Ok.ensures.bound c.in-Ok.ensures.apart s0 s1 s2 (account_of c.run_chain-fault.new.tally) c.run_chain-fault.result
    c.prepare.ensures.other_held c.prepare.ensures.written c.prepare.ensures.read_faults c.prepare.ensures.write_faults
    (subst (λ (l : List Bound). IsRunOf c.in-Ok.prepared.chain (map bound_view l) s1 s2 (account_of c.run_chain-fault.new.tally) c.run_chain-fault.result) c.deref.ensures.value c.run_chain-fault.ensures.run)
    call (c.in-Ok.ensures.ok call is)

pub returns-clause-few : goal.returns-clause-few
returns-clause-few g c =
    let few = few_devices c.in-Ok.prepared.chain _ _ c.is_accepted.ensures.accepted c.in-Ok.ensures.bound in
    let viewed = length-map c.in-Ok.prepared.bound.items bound_view in
    omega (arith, few, viewed)
