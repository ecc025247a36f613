use Rattle.std.proofs.Common.{◌≡◌, ℕ, false, get_or, length, map, All}
use Rattle.std.specs.Prelude.{◌||◌}
use Rattle.mt_kinds.specs.Outputs.{TemplateInRange}
use Rattle.mt_kinds.specs.Ports.{is_in}
use Rattle.mt_kinds.proofs.mappers.forward_of.Given as goal

abbrev pub invariant-loop-rest : goal.invariant-loop-rest
invariant-loop-rest l = record {
  range : All TemplateInRange l.rest;
  so_far : (out : ℕ) → (get_or l.outs out false || is_in out (map (λ template. template.fout) l.rest)) ≡ is_in out (map (λ template. template.fout) l.templates);
}

abbrev pub decreases-loop-rest : goal.decreases-loop-rest
decreases-loop-rest l = length l.rest
