use Rattle.std.proofs.Common.{refl}
use Rattle.mt_pcap.specs.Format.{header_bytes, four, two, magic}
use Rattle.mt_pcap.specs.Text.{header_text}
use Rattle.mt_pcap.proofs.writing.header.Goals as goal

pub returns : goal.returns
unfolding header_text header_bytes four two magic
returns c = rw (c.write_u32-3.ensures, c.write_u32-2.ensures, c.write_u16-2.ensures, c.write_u16.ensures, c.write_u32.ensures) refl
