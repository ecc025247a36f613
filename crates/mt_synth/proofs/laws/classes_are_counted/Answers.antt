use Rattle.mt_synth.proofs.Counted.{classes_counted}
use Rattle.mt_synth.proofs.laws.classes_are_counted.Goals as goal

pub returns : goal.returns
returns c = classes_counted
