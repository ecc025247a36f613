use Rattle.std.proofs.Common.{◌≡◌, ℕ, false, get_or, length, All}
use Rattle.std.specs.Prelude.{◌||◌}
use Rattle.mt_kinds.specs.Outputs.{SpecInRange}
use Rattle.mt_kinds.specs.Ports.{is_reply_out}
use Rattle.mt_kinds.proofs.ports.rewriter_replies.Given as goal

abbrev pub invariant-loop-rest : goal.invariant-loop-rest
invariant-loop-rest l = record {
  range : All SpecInRange l.rest;
  so_far : (out : ℕ) → (get_or l.replies out false || is_reply_out l.mappers l.rest out) ≡ is_reply_out l.mappers l.specs out;
}

abbrev pub decreases-loop-rest : goal.decreases-loop-rest
decreases-loop-rest l = length l.rest
