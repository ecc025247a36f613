use Rattle.mt_rewriter.proofs.Remembered.{were_free}
use Rattle.mt_rewriter.proofs.laws.ports_were_free.Goals as goal

pub returns : goal.returns
returns c = λ mappers pools picks tables element input used spec flow decision is. were_free mappers pools picks tables element input used spec flow decision is
