use Rattle.std.proofs.Common.{refl}
use Rattle.mt_pcap.specs.Format.{head_bytes, four}
use Rattle.mt_pcap.specs.Text.{record_head_text}
use Rattle.mt_pcap.proofs.writing.record_head.Goals as goal

pub returns : goal.returns
unfolding record_head_text head_bytes four
returns c = rw (c.write_u32-4.ensures, c.write_u32-3.ensures, c.write_u32-2.ensures, c.write_u32.ensures) refl
