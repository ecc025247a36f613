use Rattle.std.proofs.Common.{◌≡◌, List, ap, sym, subst, ◌∙◌, map}
use Rattle.mt_packet.specs.declared.flow.Flow.{Flow}
use Rattle.mt_terms.specs.Trees.{BranchForms, OpForm, branch_form, branches_of, op_form}
use Rattle.mt_pipeline.proofs.Leads.{op_spec, op_arrives, op_branch, op_step, told_passage}
use Rattle.mt_pipeline.specs.Walking.{Arrives, GoesBehind, arriving, known, state_of}
use Rattle.mt_pipeline.proofs.steps.at_passage.Goals as goal

pub spec_of-spec-requires : goal.spec_of-spec-requires
spec_of-spec-requires g c =
    op_spec (state_of c.args.given.now.rewriters.now) c.args.journal.now.picks.items c.args.header.now (op_form c.args.code.now) (branches_of (map branch_form c.args.branches.now))
    (known c.args.passed.now.items c.args.resources.now.store c.args.ledger.now c.args.journal.now.picks.items) c.requires.walks

pub arriving-flow-requires : goal.arriving-flow-requires
arriving-flow-requires g c =
    subst (λ (l : List Flow). Arrives c.args.header.now l (op_form c.args.code.now)) (sym c.deref.ensures.value)
    (op_arrives (state_of c.args.given.now.rewriters.now) c.args.journal.now.picks.items c.args.header.now (op_form c.args.code.now) (branches_of (map branch_form c.args.branches.now))
    (known c.args.passed.now.items c.args.resources.now.store c.args.ledger.now c.args.journal.now.picks.items) c.requires.walks)

pub behind-requires-clause-branch : goal.behind-requires-clause-branch
behind-requires-clause-branch g c =
    let rewriters = c.args.given.now.rewriters.now in
    let gone = c.args.given.now.gone.now in
    let code : OpForm = op_form c.args.code.now in
    let branches : BranchForms = branches_of (map branch_form c.args.branches.now) in
    let passed = c.args.passed.now.items in
    let flow_is : c.arriving-flow.result ≡ arriving c.args.header.now passed code = c.arriving-flow.ensures ∙ ap (λ (l : List Flow). arriving c.args.header.now l code) c.deref.ensures.value in
    let has =
    told_passage rewriters gone c.args.header.now code branches passed c.spec_of-spec.result c.arriving-flow.result c.args.resources.now c.pass.new.resources c.args.ledger.now c.pass.new.ledger c.args.journal.now.picks.items c.pass.new.journal.picks.items
    c.spec_of-spec.ensures flow_is c.in_ok-passage.field-0 c.in-Through.passage c.in-Through.is c.in_ok-passage.ensures.passed in
    op_branch rewriters gone c.args.header.now code branches passed c.spec_of-spec.result c.arriving-flow.result c.args.resources.now c.pass.new.resources c.args.ledger.now c.pass.new.ledger c.args.journal.now.picks.items c.pass.new.journal.picks.items
    c.spec_of-spec.ensures flow_is c.in-Through.passage has c.requires.walks c.pass.ensures.step.picks c.pass.ensures.step.picks_are

pub returns-in-Through-clause-next : goal.returns-in-Through-clause-next
returns-in-Through-clause-next g c =
    let rewriters = c.args.given.now.rewriters.now in
    let gone = c.args.given.now.gone.now in
    let code : OpForm = op_form c.args.code.now in
    let branches : BranchForms = branches_of (map branch_form c.args.branches.now) in
    let passed = c.args.passed.now.items in
    let flow_is : c.arriving-flow.result ≡ arriving c.args.header.now passed code = c.arriving-flow.ensures ∙ ap (λ (l : List Flow). arriving c.args.header.now l code) c.deref.ensures.value in
    let has =
    told_passage rewriters gone c.args.header.now code branches passed c.spec_of-spec.result c.arriving-flow.result c.args.resources.now c.pass.new.resources c.args.ledger.now c.pass.new.ledger c.args.journal.now.picks.items c.pass.new.journal.picks.items
    c.spec_of-spec.ensures flow_is c.in_ok-passage.field-0 c.in-Through.passage c.in-Through.is c.in_ok-passage.ensures.passed in
    op_step rewriters gone c.args.header.now code branches passed c.spec_of-spec.result c.arriving-flow.result c.args.resources.now c.pass.new.resources c.args.ledger.now c.pass.new.ledger c.args.journal.now.picks.items c.pass.new.journal.picks.items
    c.spec_of-spec.ensures flow_is c.behind.new.passed.items c.in-Through.passage has c.behind.result
    (subst (λ (l : List Flow). GoesBehind branches c.arriving-flow.result l c.behind.new.passed.items c.in-Through.passage c.behind.result) c.reserve.ensures.items c.behind.ensures)
