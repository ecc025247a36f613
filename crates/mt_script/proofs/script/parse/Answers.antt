use Rattle.std.proofs.Common.{◌≡◌, inr, length, arith}
use Rattle.std.proofs.lemmas.Bool.Decides.{nat_tests}
use Rattle.mt_script.proofs.ReadSoFar.{line_read, fault_read, all_read, one_at_most}
use Rattle.mt_script.proofs.script.parse.Goals as goal

pub returns-in-Err-clause-fault : goal.returns-in-Err-clause-fault
returns-in-Err-clause-fault c =
    inr (fault_read c.args.text.now c.loop-rest.rest.now c.first_line.result.0.now c.first_line.result.1.now c.loop-rest.commands.items c.loop-rest.line c.loop-rest.invariant.read c.first_line.ensures.lines c.in-Err.why c.in-Err.ensures)

pub loop-rest-preserved : goal.loop-rest-preserved
loop-rest-preserved c =
    let pushed = c.in_ok-push_found.ensures in
    let one = one_at_most c.loop-rest.commands.items c.push_found.new.commands.items c.in-Ok.found pushed in
    let shorter = c.first_line.ensures.shorter in
    record {
      read = rw pushed (line_read c.args.text.now c.loop-rest.rest.now c.first_line.result.0.now c.first_line.result.1.now c.loop-rest.commands.items c.loop-rest.line c.loop-rest.invariant.read c.first_line.ensures.lines c.in-Ok.found c.in-Ok.ensures);
      few = omega (arith, one, shorter);
      number = omega (arith, shorter);
    }

pub returns-clause-commands : goal.returns-clause-commands
returns-clause-commands c =
    let end : length c.loop-rest.rest.now ≡ 0 = grind (arith, nat_tests) in
    all_read c.args.text.now c.loop-rest.rest.now c.loop-rest.commands.items c.loop-rest.line c.loop-rest.invariant.read end
