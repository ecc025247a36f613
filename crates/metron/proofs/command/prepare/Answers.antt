use Rattle.std.proofs.Common.{map, rules}
use Rattle.mt_command.specs.Parts.{run_view, bound_view}
use Rattle.mt_command.specs.Devices.{AreBound}
use Rattle.metron.specs.Inputs.{devices_of}
use Rattle.metron.specs.Causes.{State, state_of, BindCause}
use Rattle.metron.specs.Causes.IsRefusal.{chain_refused}
use Rattle.metron.proofs.Commands.{HasRead, binds_not, script_not, prepared}
use Rattle.metron.proofs.command.prepare.Goals as goal

pub returns-in-Err-clause-err : goal.returns-in-Err-clause-err
returns-in-Err-clause-err g c = λ call is. chain_refused (run_view c.args.command.now) is c.in-Err.ensures.err

pub returns-in-Err-bind_devices-clause-err : goal.returns-in-Err-bind_devices-clause-err
returns-in-Err-bind_devices-clause-err g c =
    let s0 : State = state_of g.F.Files.held g.F.Files.written g.F.Files.read_faults g.F.Files.write_faults c.args.files.now in
    let s1 : State = state_of g.F.Files.held g.F.Files.written g.F.Files.read_faults g.F.Files.write_faults c.read_chain.new.files in
    let read1 : HasRead (run_view c.args.command.now).chain s0 s1 = record { other_files = c.read_chain.ensures.other_files; written = c.read_chain.ensures.written; read_faults = c.read_chain.ensures.read_faults; write_faults = c.read_chain.ensures.write_faults } in
    let why : BindCause (run_view c.args.command.now).bindings (devices_of c.in-Ok.read.0) c.in-Err-bind_devices.fault = search rules in
    binds_not (run_view c.args.command.now) c.in-Ok.read.0 s0 s1 s1 c.requires read1 c.in-Ok.ensures.ok c.in-Err-bind_devices.fault why

pub returns-in-Ok-read_script-clause-ok : goal.returns-in-Ok-read_script-clause-ok
returns-in-Ok-read_script-clause-ok g c =
    let s0 : State = state_of g.F.Files.held g.F.Files.written g.F.Files.read_faults g.F.Files.write_faults c.args.files.now in
    let s1 : State = state_of g.F.Files.held g.F.Files.written g.F.Files.read_faults g.F.Files.write_faults c.read_chain.new.files in
    let read1 : HasRead (run_view c.args.command.now).chain s0 s1 = record { other_files = c.read_chain.ensures.other_files; written = c.read_chain.ensures.written; read_faults = c.read_chain.ensures.read_faults; write_faults = c.read_chain.ensures.write_faults } in
    let are : AreBound (run_view c.args.command.now).bindings (devices_of c.in-Ok.read.0) (map bound_view c.in-Ok-bind_devices.bound.items) = search rules in
    prepared (run_view c.args.command.now) c.in-Ok.read.0 s0 s1 s1 c.requires read1 c.in-Ok.ensures.ok (map bound_view c.in-Ok-bind_devices.bound.items) are c.in-Ok-read_script.ensures.ok

pub returns-in-Ok-read_script-clause-apart : goal.returns-in-Ok-read_script-clause-apart
returns-in-Ok-read_script-clause-apart g c =
    let are : AreBound (run_view c.args.command.now).bindings (devices_of c.in-Ok.read.0) (map bound_view c.in-Ok-bind_devices.bound.items) = search rules in
    c.bound_files_are_apart.ensures (run_view c.args.command.now) (devices_of c.in-Ok.read.0) (map bound_view c.in-Ok-bind_devices.bound.items) c.requires c.in-Ok.ensures.names are

pub returns-clause-err : goal.returns-clause-err
returns-clause-err g c =
    let s0 : State = state_of g.F.Files.held g.F.Files.written g.F.Files.read_faults g.F.Files.write_faults c.args.files.now in
    let s1 : State = state_of g.F.Files.held g.F.Files.written g.F.Files.read_faults g.F.Files.write_faults c.read_chain.new.files in
    let s2 : State = state_of g.F.Files.held g.F.Files.written g.F.Files.read_faults g.F.Files.write_faults c.read_script.new.files in
    let read1 : HasRead (run_view c.args.command.now).chain s0 s1 = record { other_files = c.read_chain.ensures.other_files; written = c.read_chain.ensures.written; read_faults = c.read_chain.ensures.read_faults; write_faults = c.read_chain.ensures.write_faults } in
    let read2 : HasRead (run_view c.args.command.now).script s1 s2 = record { other_files = c.read_script.ensures.other_files; written = c.read_script.ensures.written; read_faults = c.read_script.ensures.read_faults; write_faults = c.read_script.ensures.write_faults } in
    let are : AreBound (run_view c.args.command.now).bindings (devices_of c.in-Ok.read.0) (map bound_view c.in-Ok-bind_devices.bound.items) = search rules in
    script_not (run_view c.args.command.now) c.in-Ok.read.0 s0 s1 s2 c.requires read1 c.in-Ok.ensures.ok (map bound_view c.in-Ok-bind_devices.bound.items) are read2 c.in-Err-read_script.fault c.in-Err-read_script.ensures.err
