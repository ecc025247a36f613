-- Canonical trees with the same values are equal.
use Rattle.std.proofs.Common.{ap}
use Rattle.mt_cuts.specs.Tree.{Tree, value_of}
use Rattle.mt_cuts.specs.View.{tree_of}
use Rattle.mt_cuts.proofs.Unique.{unique}
use Rattle.mt_cuts.proofs.same.is_same_function.Goals as goal

pub returns-clause-function : goal.returns-clause-function
returns-clause-function c = (
  λ e header inside. ap (λ (t : Tree). value_of t header) (c.is_same.ensures.0 e),
  λ same. c.is_same.ensures.1 (unique c.args.devices (tree_of c.args.a.now) (tree_of c.args.b.now) c.requires.some c.requires.left c.requires.right same),
)
