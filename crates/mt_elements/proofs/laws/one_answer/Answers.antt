use Rattle.mt_elements.proofs.OneAnswer.{one_chain, not_refused, one_refusal}
use Rattle.mt_elements.proofs.laws.one_answer.Goals as goal

pub returns-clause-chain : goal.returns-clause-chain
returns-clause-chain c = one_chain

pub returns-clause-either : goal.returns-clause-either
returns-clause-either c = not_refused

pub returns-clause-refusal : goal.returns-clause-refusal
returns-clause-refusal c = one_refusal
