use Rattle.mt_pcap.proofs.ToEnd.{reads_to_end}
use Rattle.mt_pcap.proofs.laws.reads_to_end.Goals as goal

pub returns : goal.returns
returns c = reads_to_end
