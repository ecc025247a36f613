use Rattle.std.proofs.Common.{◌∙◌, ap}
use Rattle.mt_elements.specs.ChainState.{ChainState, entry_of}
use Rattle.mt_elements.proofs.ChainNext.{no_entry}
use Rattle.mt_elements.proofs.Looked.{got, gone}
use Rattle.mt_elements.proofs.chain.Chain.entry.Goals as goal

pub returns-in_err-get : goal.returns-in_err-get
returns-in_err-get c =
    c.from_residual.ensures
    ∙ no_entry c.self.inside.layout c.self.inside.arrivals.items c.args.device c.self.invariant.numbered c.self.invariant.arrives
    (gone c.self.inside.arrivals.items c.deref.result.now c.args.device c.deref.ensures.value c.in_err-get.ensures.lookup.0)
    ∙ ap (λ (chain : ChainState). entry_of chain c.args.device) c.self.view_is

pub returns : goal.returns
returns c =
    c.self.invariant.arrives.each c.args.device c.in_ok-get.field-0.now
    (got c.self.inside.arrivals.items c.deref.result.now c.args.device c.deref.ensures.value c.in_ok-get.field-0.now c.in_ok-get.ensures.lookup.0 c.in_ok-get.ensures.lookup.1)
    ∙ ap (λ (chain : ChainState). entry_of chain c.args.device) c.self.view_is
