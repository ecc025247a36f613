use Rattle.std.proofs.Common.{◌≡◌, ℕ, List, ap, sym, subst, ◌∙◌, ◌≤◌, length, map, IfOk}
use Rattle.mt_packet.specs.declared.flow.Flow.{Flow}
use Rattle.mt_terms.specs.Terms.{passages_of, term_form}
use Rattle.mt_terms.specs.Trees.{TreeForm, branch_form, branches_of, op_form, tree_form, rewrite_form}
use Rattle.mt_terms.specs.Trees.{passage as op}
use Rattle.mt_terms.specs.declared.tree.Tree.{Tree}
use Rattle.mt_pipeline.proofs.Leads.{form-leaf, form-drop, form-test, form-op, at_leaf, at_drop, at_test, chosen_is, test_known}
use Rattle.mt_pipeline.specs.Walking.{EndsStep, known, state_of}
use Rattle.mt_pipeline.proofs.steps.step.Goals as goal

pub value-requires : goal.value-requires
value-requires g c =
    let r = state_of c.args.given.now.rewriters.now in
    let under = known c.args.passed.now.items c.args.resources.now.store c.args.ledger.now c.args.journal.now.picks.items in
    record {
      passages =
          subst (λ (l : List Flow). passages_of (term_form c.in-Test.term) ≤ length l) (sym c.deref.ensures.value)
          (test_known r c.args.journal.now.picks.items c.args.header.now (tree_form c.args.tree.now) under (term_form c.in-Test.term) c.in-Test.span (tree_form c.in-Test.inside.value) (tree_form c.in-Test.outside.value)
          (ap tree_form c.in-Test.is ∙ form-test c.in-Test.term c.in-Test.span c.in-Test.inside c.in-Test.outside) c.requires.walks);
    }

pub returns-in-Leaf-clause-next : goal.returns-in-Leaf-clause-next
returns-in-Leaf-clause-next g c =
    at_leaf (state_of c.args.given.now.rewriters.now) c.args.journal.now.picks.items c.args.header.now (tree_form c.args.tree.now) (known c.args.passed.now.items c.args.resources.now.store c.args.ledger.now c.args.journal.now.picks.items)
    (rewrite_form c.in-Leaf.rewrite) c.in-Leaf.device (ap tree_form c.in-Leaf.is ∙ form-leaf c.in-Leaf.rewrite c.in-Leaf.device)

pub returns-in-Drop-clause-next : goal.returns-in-Drop-clause-next
returns-in-Drop-clause-next g c =
    at_drop (state_of c.args.given.now.rewriters.now) c.args.journal.now.picks.items c.args.header.now (tree_form c.args.tree.now) (known c.args.passed.now.items c.args.resources.now.store c.args.ledger.now c.args.journal.now.picks.items)
    c.in-Drop.why (ap tree_form c.in-Drop.is ∙ form-drop c.in-Drop.why)

pub returns-in-Test-clause-next : goal.returns-in-Test-clause-next
returns-in-Test-clause-next g c =
    at_test (state_of c.args.given.now.rewriters.now) c.args.journal.now.picks.items c.args.header.now (tree_form c.args.tree.now) (known c.args.passed.now.items c.args.resources.now.store c.args.ledger.now c.args.journal.now.picks.items)
    (term_form c.in-Test.term) c.in-Test.span (tree_form c.in-Test.inside.value) (tree_form c.in-Test.outside.value)
    (ap tree_form c.in-Test.is ∙ form-test c.in-Test.term c.in-Test.span c.in-Test.inside c.in-Test.outside)
    (tree_form c.side.result.now)
    (chosen_is (tree_form c.side.result.now) c.contains-holds.result c.in-Test.span c.value.result (term_form c.in-Test.term) c.args.header.now c.deref.result.now c.args.passed.now.items
    c.deref-in-Test.result.now c.deref-in-Test-2.result.now c.in-Test.inside.value c.in-Test.outside.value
    c.side.ensures c.contains-holds.ensures c.value.ensures.value c.deref.ensures.value c.deref-in-Test.ensures c.deref-in-Test-2.ensures)

pub returns-in-Op-clause-next : goal.returns-in-Op-clause-next
returns-in-Op-clause-next g c =
    let form : tree_form c.args.tree.now ≡ op (op_form c.in-Op.code) (branches_of (map branch_form c.deref-in-Op.result.now)) =
    ap tree_form c.in-Op.is ∙ form-op c.in-Op.code c.in-Op.branches ∙ ap (λ (l : List (ℕ × Tree)). op (op_form c.in-Op.code) (branches_of (map branch_form l))) (sym c.deref-in-Op.ensures.value) in
    subst
    (λ (t : TreeForm). IfOk c.at_passage.result (EndsStep c.args.given.now.rewriters.now c.args.given.now.gone.now c.at_passage.new.journal.picks.items c.args.header.now t
    (known c.args.passed.now.items c.args.resources.now.store c.args.ledger.now c.args.journal.now.picks.items)
    c.at_passage.new.resources c.at_passage.new.ledger
    (known c.at_passage.new.passed.items c.at_passage.new.resources.store c.at_passage.new.ledger c.at_passage.new.journal.picks.items)))
    (sym form) c.at_passage.ensures.next
