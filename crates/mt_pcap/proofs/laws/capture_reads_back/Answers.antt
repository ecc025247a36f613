use Rattle.mt_pcap.proofs.Again.{reads_back}
use Rattle.mt_pcap.proofs.laws.capture_reads_back.Goals as goal

pub returns : goal.returns
returns c = reads_back
