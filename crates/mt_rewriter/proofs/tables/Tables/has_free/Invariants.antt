use Rattle.std.proofs.Common.{◌≡◌, ◌-◌, suc}
use Rattle.mt_rewriter.specs.Tries.{free_among, has_free}
use Rattle.mt_rewriter.proofs.tables.Tables.has_free.Given as goal

-- no port so far is free
abbrev pub invariant-loop-port : goal.invariant-loop-port
invariant-loop-port l = has_free l.self.mappings l.number l.pool ≡ free_among l.self.mappings l.number (suc l.pool.hi - l.port) l.port
