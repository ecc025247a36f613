use Rattle.std.proofs.Common.{map, ℕ, List, Bor}
use Rattle.mt_elements.proofs.InRange.{specs_in_range, templates_in_range}
use Rattle.mt_elements.proofs.kinds.kind_of.Goals as goal

pub new-requires-clause-outputs : goal.new-requires-clause-outputs
new-requires-clause-outputs c =
    rw c.in_ok-specs-in-Rewriter.ensures
    (specs_in_range c.args.pools.now.keys (map (λ (x : Bor (List ℕ)). x.now) c.args.names.now) c.args.scope.now c.as_slice.result.now (rw c.as_slice.ensures.value c.as_slice.ensures.specs))

pub new-requires-in-Mapper-clause-outputs : goal.new-requires-in-Mapper-clause-outputs
new-requires-in-Mapper-clause-outputs c =
    rw c.in_ok-templates-in-Mapper.ensures
    (templates_in_range c.args.pools.now.keys c.as_slice-in-Mapper.result.now (rw c.as_slice-in-Mapper.ensures.value c.as_slice-in-Mapper.ensures.templates))
