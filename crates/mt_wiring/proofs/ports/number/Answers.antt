use Rattle.std.proofs.Common.{◌≡◌, ℕ, true, eqb, ◌&&◌, arith}
use Rattle.std.proofs.lemmas.Bool.Decides.{nat_tests}
use Rattle.mt_wiring.proofs.PortNumbers.{distinct_apart}
use Rattle.mt_wiring.proofs.ports.number.Goals as goal

own : (a b : ℕ) → (eqb a a && eqb b b) ≡ true
own a b = grind (arith, nat_tests)

pub returns-clause-apart : goal.returns-clause-apart
returns-clause-apart c = distinct_apart _ (λ x. own x.0 x.1) c.insert_full.new.self.keys c.insert_full.ensures.unique
