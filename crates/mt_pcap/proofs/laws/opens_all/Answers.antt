use Rattle.mt_pcap.proofs.Opening.{leave_together, none_opened, one_more_opened}
use Rattle.mt_pcap.proofs.laws.opens_all.Goals as goal

pub returns-clause-together : goal.returns-clause-together
returns-clause-together c = leave_together

pub returns-clause-none : goal.returns-clause-none
returns-clause-none c = none_opened

pub returns-clause-one_more : goal.returns-clause-one_more
returns-clause-one_more c = one_more_opened
