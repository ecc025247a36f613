use Rattle.mt_terms.proofs.Differences.{whole_less, difference_less, stays_plain}
use Rattle.mt_terms.proofs.laws.less_takes_an_amount.Goals as goal

pub returns-clause-whole : goal.returns-clause-whole
returns-clause-whole c = whole_less

pub returns-clause-difference : goal.returns-clause-difference
returns-clause-difference c = difference_less

pub returns-clause-plain : goal.returns-clause-plain
returns-clause-plain c = stays_plain
