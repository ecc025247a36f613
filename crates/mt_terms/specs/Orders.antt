-- What `==` and `cmp` answer at two terms and at two trees.
use Rattle.std.specs.Prelude.{Bool}
use Rattle.std.specs.declared.cmp.Ordering.{Ordering}
use Rattle.mt_terms.specs.declared.term.Term.{Term}
use Rattle.mt_terms.specs.declared.tree.Tree.{Tree}
use Rattle.mt_terms.specs.contracts.term.TermPartialEq.TheImpl as term_eq
use Rattle.mt_terms.specs.contracts.term.TermOrd.TheImpl as term_ord
use Rattle.mt_terms.specs.contracts.tree.TreePartialEq.TheImpl as tree_eq
use Rattle.mt_terms.specs.contracts.tree.TreeOrd.TheImpl as tree_ord

abbrev pub equal_terms : Term → Term → Bool
equal_terms a b = term_eq.ghosts.eq a b

abbrev pub compare_terms : Term → Term → Ordering
compare_terms a b = term_ord.ghosts.cmp a b

abbrev pub equal_trees : Tree → Tree → Bool
equal_trees a b = tree_eq.ghosts.eq a b

abbrev pub compare_trees : Tree → Tree → Ordering
compare_trees a b = tree_ord.ghosts.cmp a b
