use Rattle.mt_pcap.proofs.Streams.{begins_well}
use Rattle.mt_pcap.proofs.reader.Reader.open.Goals as goal

pub returns-in-Ok-take_header-clause-begins : goal.returns-in-Ok-take_header-clause-begins
returns-in-Ok-take_header-clause-begins g c = begins_well c.in-Ok-take_header.form _
