use Rattle.std.proofs.Common.{◌≡◌, ◌++◌, length}
use Rattle.mt_click.specs.Connections.{connections_from}
use Rattle.mt_click.proofs.connections.connections_at.Given as goal

abbrev pub invariant-loop-rest : goal.invariant-loop-rest
invariant-loop-rest l = l.connections.items ++ connections_from l.table.created.now l.rest ≡ connections_from l.table.created.now l.all

abbrev pub decreases-loop-rest : goal.decreases-loop-rest
decreases-loop-rest l = length l.rest
