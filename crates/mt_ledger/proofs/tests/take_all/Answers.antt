use Rattle.std.proofs.Common.{◌≡◌, ◌<◌, ◌∙◌, ℕ, List, Some, length, slice_get, ap, arith}
use Rattle.std.specs.List.{remove}
use Rattle.std.proofs.lemmas.List.Edits.{length-remove}
use Rattle.std.proofs.lemmas.Option.{slice_get_within}
use Rattle.mt_ledger.specs.Pools.{PoolPorts, ports_at, with_ports}
use Rattle.mt_ledger.proofs.Together.{changed_here}
use Rattle.mt_ledger.proofs.tests.take_all.Goals as goal

one_less : (old new : List PoolPorts) (port : ℕ) → 0 < length old → new ≡ with_ports old 0 (remove (ports_at old 0) 0) → slice_get (ports_at old 0) 0 ≡ Some port → length (ports_at new 0) < length (ports_at old 0)
one_less old new port there e first =
    let left = ap (λ (pools : List PoolPorts). length (ports_at pools 0)) e ∙ ap length (changed_here old 0 (remove (ports_at old 0) 0) there) in
    let less = length-remove (ports_at old 0) 0 (slice_get_within (ports_at old 0) 0 port first) in
    omega (arith, left, less)

pub loop-token-smaller : goal.loop-token-smaller
loop-token-smaller c = one_less c.loop-token.shares c.take.new.self c.in-Some.token.port c.loop-token.invariant.there c.in-Some.ensures.rest c.in-Some.ensures.port.1
