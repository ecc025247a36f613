use Rattle.mt_pcap.proofs.Numbers.{IsBytes-from_all}
use Rattle.mt_pcap.proofs.Facts.{capture_of-sound}
use Rattle.mt_pcap.proofs.laws.capture_is_sound.Goals as goal

pub returns : goal.returns
returns c = λ bytes all. let s = capture_of-sound bytes (IsBytes-from_all bytes all) in (s.writable, s.few, s.named)
