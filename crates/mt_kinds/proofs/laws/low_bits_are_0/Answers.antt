use Rattle.mt_kinds.proofs.ArgumentsSpelled.{low_bits}
use Rattle.mt_kinds.proofs.laws.low_bits_are_0.Goals as goal

pub returns : goal.returns
returns c = low_bits
