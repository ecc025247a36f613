-- Where a reader stands, by its fields.
use Rattle.std.specs.Prelude.{ℕ, []}
use Rattle.mt_pcap.specs.declared.form.Form.{Form}
use Rattle.mt_pcap.specs.declared.reader.Progress.{Progress}
use Rattle.mt_pcap.specs.declared.reader.Progress.TheVariants.{Record, Data, Over}
use Rattle.mt_pcap.specs.Stream.{Standing, within, over}

abbrev pub standing_of : Form → ℕ → Progress → Standing
standing_of form offset Record = within form offset []
standing_of form offset (Data head) = within form offset head
standing_of form offset (Over end) = over end
