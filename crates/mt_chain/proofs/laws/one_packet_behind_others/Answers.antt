use Rattle.mt_chain.proofs.Sequence.{one_more}
use Rattle.mt_chain.proofs.laws.one_packet_behind_others.Goals as goal

pub returns : goal.returns
returns c = λ chain tables picks packets packet. one_more chain tables picks packets packet
