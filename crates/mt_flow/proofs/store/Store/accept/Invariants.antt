use Rattle.std.proofs.Common.{vec_capacity, vec_len}
use Rattle.mt_flow.proofs.Accepting.{IsAccepting}
use Rattle.mt_flow.proofs.store.Store.accept.Given as goal

abbrev pub invariant-loop-mapping : goal.invariant-loop-mapping
invariant-loop-mapping l = IsAccepting l.fn.self l.fn.mappings.items l.self l.mappings.items l.accepted (vec_capacity l.mappings)

abbrev pub decreases-loop-mapping : goal.decreases-loop-mapping
decreases-loop-mapping l = vec_len l.mappings
