use Rattle.mt_pcap.proofs.ToEnd.{merges_to_end, merges_to_limit}
use Rattle.mt_pcap.proofs.laws.merges_to_end.Goals as goal

pub returns-clause-to_end : goal.returns-clause-to_end
returns-clause-to_end c = merges_to_end

pub returns-clause-to_limit : goal.returns-clause-to_limit
returns-clause-to_limit c = merges_to_limit
