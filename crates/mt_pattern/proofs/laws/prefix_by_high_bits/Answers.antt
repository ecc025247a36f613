use Rattle.mt_pattern.proofs.Spans.{prefix_by_high_bits}
use Rattle.mt_pattern.proofs.laws.prefix_by_high_bits.Goals as goal

pub returns : goal.returns
returns c = λ address len n. prefix_by_high_bits address len n
