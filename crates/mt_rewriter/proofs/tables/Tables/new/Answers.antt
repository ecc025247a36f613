use Rattle.mt_rewriter.proofs.First.{first_made}
use Rattle.mt_rewriter.proofs.tables.Tables.new.Goals as goal

pub returns-clause-kept : goal.returns-clause-kept
returns-clause-kept c =
    first_made c.args.chain.now c.new.result.entries c.loop-rest.turns.items c.loop-rest.rest.now c.new.ensures.empty c.loop-rest.invariant c.in_default.len_below
