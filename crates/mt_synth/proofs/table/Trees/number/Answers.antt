use Rattle.std.proofs.Common.{rules, ◌≡◌, ◌++◌, ◌∷◌, [], length, Some, None, sym, subst}
use Rattle.std.specs.BTreeMap as map
use Rattle.mt_terms.specs.Orders.{compare_trees}
use Rattle.mt_terms.specs.Trees.{tree_form}
use Rattle.mt_synth.specs.Table.{IsTable}
use Rattle.mt_synth.proofs.TableNumbers.{numbered, numbered_last, one_more}
use Rattle.mt_synth.proofs.table.Trees.number.Goals as goal

pub invariant_of-self-2 : goal.invariant_of-self-2
invariant_of-self-2 c =
    let absent : map.get compare_trees c.self.inside.numbers c.args.tree ≡ None = search rules in
    let copied : tree_form c.in_ok-key.key ≡ tree_form c.args.tree = search rules in
    let updates : map.Updates compare_trees c.self.inside.numbers c.insert.new.self c.in_ok-key.key (Some (length c.self.inside.list.items)) = search rules in
    let items : c.push_reserved.new.self.items ≡ c.self.inside.list.items ++ c.args.tree ∷ [] = search rules in
    subst (λ trees. IsTable trees c.insert.new.self) (sym items)
    (numbered c.self.inside.list.items c.self.inside.numbers c.insert.new.self c.in_ok-key.key c.args.tree c.self.invariant absent copied updates)

pub returns-clause-number : goal.returns-clause-number
returns-clause-number c = search (rules, numbered_last)

pub returns-clause-grows : goal.returns-clause-grows
returns-clause-grows c = search (rules, one_more)
