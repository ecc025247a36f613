use Rattle.std.proofs.Common.{◌∙◌, ap}
use Rattle.mt_elements.specs.ChainState.{ChainState, next_of}
use Rattle.mt_elements.proofs.ChainNext.{no_row, row_ends, row_leads}
use Rattle.mt_elements.proofs.Looked.{got, gone, got_map, gone_map}
use Rattle.mt_elements.proofs.chain.Chain.next.Goals as goal

pub returns-in_err-row : goal.returns-in_err-row
returns-in_err-row c =
    c.from_residual.ensures
    ∙ no_row c.self.inside.layout _ c.args.element c.args.out c.self.invariant.accepted.wired c.self.invariant.next
    (gone_map (λ v. v.items) c.self.inside.table.items c.args.element (gone c.self.inside.table.items c.deref.result.now c.args.element c.deref.ensures.value c.in_err-row.ensures.lookup.0))
    ∙ ap (λ (chain : ChainState). next_of chain c.args.element c.args.out) c.self.view_is

pub returns-in_err-get : goal.returns-in_err-get
returns-in_err-get c =
    c.from_residual-in_err-get.ensures
    ∙ row_ends c.self.inside.layout _ c.args.element c.args.out c.in_ok-row.row.now.items c.self.invariant.accepted.wired c.self.invariant.next
    (got_map (λ v. v.items) c.self.inside.table.items c.args.element c.in_ok-row.row.now
    (got c.self.inside.table.items c.deref.result.now c.args.element c.deref.ensures.value c.in_ok-row.row.now c.in_ok-row.ensures.lookup.0 c.in_ok-row.ensures.lookup.1))
    (gone c.in_ok-row.row.now.items c.deref-2.result.now c.args.out c.deref-2.ensures.value c.in_err-get.ensures.lookup.0)
    ∙ ap (λ (chain : ChainState). next_of chain c.args.element c.args.out) c.self.view_is

pub returns : goal.returns
returns c =
    row_leads c.self.inside.layout _ c.args.element c.args.out c.in_ok-row.row.now.items c.in_ok-get.field-0.now c.self.invariant.next
    (got_map (λ v. v.items) c.self.inside.table.items c.args.element c.in_ok-row.row.now
    (got c.self.inside.table.items c.deref.result.now c.args.element c.deref.ensures.value c.in_ok-row.row.now c.in_ok-row.ensures.lookup.0 c.in_ok-row.ensures.lookup.1))
    (got c.in_ok-row.row.now.items c.deref-2.result.now c.args.out c.deref-2.ensures.value c.in_ok-get.field-0.now c.in_ok-get.ensures.lookup.0 c.in_ok-get.ensures.lookup.1)
    ∙ ap (λ (chain : ChainState). next_of chain c.args.element c.args.out) c.self.view_is
