use Rattle.std.proofs.Common.{sym, ap}
use Rattle.std.specs.Prelude.{if◌then◌else◌}
use Rattle.mt_chain.proofs.TestsAgree.{header_step}
use Rattle.mt_chain.proofs.step.check_header.Goals as goal

pub returns-then-check_ip-clause-step : goal.returns-then-check_ip-clause-step
returns-then-check_ip-clause-step c =
    header_step c.check_ip.result c.args.packet.now c.check_ip.new.self 0 c.requires.taken c.requires.sound c.check_ip.ensures.valid c.check_ip.ensures.after
    (sym (ap (λ b. if b then 0 else 1) c.if-check_ip.true))

pub returns-else-check_ip-clause-step : goal.returns-else-check_ip-clause-step
returns-else-check_ip-clause-step c =
    header_step c.check_ip.result c.args.packet.now c.check_ip.new.self 1 c.requires.taken c.requires.sound c.check_ip.ensures.valid c.check_ip.ensures.after
    (sym (ap (λ b. if b then 0 else 1) c.if-check_ip.false))
