use Rattle.std.proofs.Common.{◌≡◌, ◌≤◌, drop}
use Rattle.std.specs.Prelude.{max}
use Rattle.mt_kinds.specs.Outputs.{greatest}
use Rattle.mt_kinds.specs.Ports.{spec_outs}
use Rattle.mt_kinds.proofs.ports.rewriter_outs.Given as goal

abbrev pub invariant-loop-spec : goal.invariant-loop-spec
invariant-loop-spec l = record {
  so_far : greatest (spec_outs l.mappers) l.specs ≡ max l.count (greatest (spec_outs l.mappers) (drop l.spec-index l.specs));
  few : l.count ≤ 512;
}
