-- The derived order puts two as equal exactly where `==` holds.
use Rattle.std.proofs.Common.{◌∙◌, sym}
use Rattle.std.specs.Cmp.{Equal-is}
use Rattle.mt_terms.specs.Orders.{compare_terms}
use Rattle.mt_terms.specs.contracts.term.TermOrd.TheImpl.Laws as laws
use Rattle.mt_terms.proofs.Same.{decides_terms}
use Rattle.mt_terms.proofs.laws.terms_have_one_order.Goals as goal

pub returns-clause-equal : goal.returns-clause-equal
returns-clause-equal c = decides_terms

pub returns-clause-same : goal.returns-clause-same
returns-clause-same c a b = (
  λ e. (decides_terms a b).0 (laws.matches_eq-law a b ∙ (Equal-is (compare_terms a b)).1 e),
  λ same. (Equal-is (compare_terms a b)).0 (sym (laws.matches_eq-law a b) ∙ (decides_terms a b).1 same),
)

pub returns-clause-total : goal.returns-clause-total
returns-clause-total c = laws.total-law
