use Rattle.metron.proofs.Begun.{file_first}
use Rattle.metron.proofs.run.device_of.Goals as goal

pub returns-then-is_file : goal.returns-then-is_file
returns-then-is_file c = file_first c.args.bound.now c.loop-rest.rest.now c.loop-rest.index _ c.args.name.now c.loop-rest.invariant c.in-len1-up.len_at_least c.if-is_file.ensures
