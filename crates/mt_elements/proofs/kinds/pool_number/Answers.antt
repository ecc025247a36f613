use Rattle.mt_elements.specs.Described.{is_pool}
use Rattle.mt_elements.proofs.Lookups.{or_length}
use Rattle.mt_elements.proofs.kinds.pool_number.Goals as goal

pub returns : goal.returns
returns c = rw (c.unwrap_or.ensures, c.get_index_of.ensures.index, c.len.ensures.len) (or_length (is_pool c.args.pool) c.args.pools.now.keys)
