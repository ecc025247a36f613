-- proofs/laws/written_sums_settle/Answers.antt
use Rattle.mt_packet.proofs.Settled.{written-sums-settle}
use Rattle.mt_packet.proofs.laws.written_sums_settle.Goals as goal

pub returns : goal.returns
returns c = written-sums-settle
