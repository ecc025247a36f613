use Rattle.std.proofs.Common.{sym, ◌∙◌, arith}
use Rattle.std.proofs.lemmas.Grind.{common_steps}
use Rattle.mt_elements.proofs.Scopes.{reaches_slash, passes_over, nothing_left}
use Rattle.mt_elements.proofs.describing.scope_length.Goals as goal

pub returns-then-last-eq47-clause-length : goal.returns-then-last-eq47-clause-length
returns-then-last-eq47-clause-length c = sym (reaches_slash c.loop-rest.rest.now c.in-len1-up.len_at_least c.if-last-eq47.true) ∙ c.loop-rest.invariant.same

pub loop-rest-preserved : goal.loop-rest-preserved
loop-rest-preserved c = record {
  same = passes_over c.loop-rest.rest.now c.in-len1-up.len_at_least c.if-last-eq47.false ∙ c.loop-rest.invariant.same;
  within = grind (arith, common_steps);
}

pub returns-clause-length : goal.returns-clause-length
returns-clause-length c = sym (nothing_left c.loop-rest.rest.now c.in_default.len_below) ∙ c.loop-rest.invariant.same
