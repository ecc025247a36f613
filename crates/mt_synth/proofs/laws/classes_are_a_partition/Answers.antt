use Rattle.mt_synth.specs.Laws.{ClassesPartition}
use Rattle.mt_synth.proofs.Partitioned.{classes_partition}
use Rattle.mt_synth.proofs.laws.classes_are_a_partition.Goals as goal

pub returns : goal.returns
returns c = classes_partition
