use Rattle.mt_rewriter.proofs.Remembered.{stays}
use Rattle.mt_rewriter.proofs.laws.mappings_stay.Goals as goal

pub returns : goal.returns
returns c = λ mappers pools picks tables element input used spec flow decision is. stays mappers pools picks tables element input used spec flow decision is
