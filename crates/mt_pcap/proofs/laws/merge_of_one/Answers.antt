use Rattle.mt_pcap.proofs.Alone.{merge_of-one}
use Rattle.mt_pcap.proofs.laws.merge_of_one.Goals as goal

pub returns : goal.returns
returns c = merge_of-one
