use Rattle.metron.proofs.Known.{known_is_taken}
use Rattle.metron.proofs.policies.command_of.Goals as goal

pub unreachable-requires : goal.unreachable-requires
unreachable-requires g c = known_is_taken (λ policy. policy.name) c.args.policies.list.items c.in-Ok.run'.ports.now c.take.result c.take.ensures.taken c.in-Ok.ensures.known c.in-None.is
