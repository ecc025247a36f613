use Rattle.mt_chain.proofs.Kept.{run_keeps}
use Rattle.mt_chain.proofs.laws.fates_come_from_packets.Goals as goal

pub returns : goal.returns
returns c = λ chain tables kept packet picks run is. (run_keeps c.decisions_keep_tables.ensures c.mappings_stay.ensures chain picks tables packet run kept is).0
