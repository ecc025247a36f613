use Rattle.mt_pcap.proofs.Stands.{capture_of-stands}
use Rattle.mt_pcap.proofs.laws.capture_stands.Goals as goal

pub returns : goal.returns
returns c = capture_of-stands
