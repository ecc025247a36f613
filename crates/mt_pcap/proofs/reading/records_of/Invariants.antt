use Rattle.std.proofs.Common.{◌≡◌, ◌≤◌, ◌-◌, length, drop}
use Rattle.mt_pcap.specs.Capture.{all_records}
use Rattle.mt_pcap.proofs.Loop.{with_front}
use Rattle.mt_pcap.proofs.reading.records_of.Given as goal

-- the records found, with those of the rest, are those of all
abbrev pub invariant-loop-rest : goal.invariant-loop-rest
invariant-loop-rest l = record {
  within : length l.rest ≤ length l.bytes;
  all : with_front l.records.items (all_records l.form (length l.bytes - length l.rest) l.rest) ≡ all_records l.form 24 (drop 24 l.bytes);
}

abbrev pub decreases-loop-rest : goal.decreases-loop-rest
decreases-loop-rest l = length l.rest
