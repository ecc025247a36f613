use Rattle.std.proofs.Common.{◌≡◌}
use Rattle.std.specs.Prelude.{not}
use Rattle.std.specs.List.{list_any}
use Rattle.mt_rewriter.specs.Mappings.{holds, is_free}
use Rattle.mt_rewriter.proofs.tables.Tables.is_free.Given as goal

-- no mapping so far holds it
abbrev pub invariant-loop-translation : goal.invariant-loop-translation
invariant-loop-translation l = is_free l.self.mappings l.pool l.port ≡ not (list_any (holds l.pool l.port) l.translation-iterator)
