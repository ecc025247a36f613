use Rattle.mt_pcap.proofs.ToEnd.{merges_front, merges_one_more}
use Rattle.mt_pcap.proofs.laws.merges_front.Goals as goal

pub returns-clause-front : goal.returns-clause-front
returns-clause-front c = merges_front

pub returns-clause-one_more : goal.returns-clause-one_more
returns-clause-one_more c = merges_one_more
