use Rattle.mt_pcap.proofs.Again.{stands_alone}
use Rattle.mt_pcap.proofs.laws.capture_stands_alone.Goals as goal

pub returns : goal.returns
returns c = stands_alone
