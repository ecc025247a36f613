use Rattle.mt_pcap.proofs.MergeLaws.{merge_sound}
use Rattle.mt_pcap.proofs.laws.merge_is_sound.Goals as goal

pub returns : goal.returns
returns c = merge_sound
