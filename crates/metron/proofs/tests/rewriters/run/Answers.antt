use Rattle.std.proofs.Common.{sym, ap, subst, arith}
use Rattle.mt_packet.specs.Packet.{PacketState}
use Rattle.mt_elements.specs.ChainState.{entry_of}
use Rattle.mt_chain.specs.Run.{IsThere}
use Rattle.metron.proofs.tests.rewriters.run.Goals as goal

pub run_one-requires-clause-known : goal.run_one-requires-clause-known
run_one-requires-clause-known c =
    subst (λ device. IsThere (entry_of c.args.chain.now device)) (sym (ap (λ (p : PacketState). p.device) c.new-packet.ensures))
    (c.devices_have_entries.ensures c.args.chain.now c.args.device c.is_accepted.ensures.numbered (omega (arith, c.if-device-eq0.false)) (omega (arith, c.if-device-entries.false, c.entries.ensures)))
