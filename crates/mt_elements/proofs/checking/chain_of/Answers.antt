use Rattle.std.proofs.Common.{subst, List}
use Rattle.mt_graph.specs.declared.Element.{Element}
use Rattle.mt_elements.specs.Described.{IsChainOf}
use Rattle.mt_elements.specs.Refused.{IsRefused, IsRefusedChain, refused}
use Rattle.mt_elements.specs.Told.{Tells}
use Rattle.mt_elements.proofs.Checked.{weaker}
use Rattle.mt_elements.proofs.Turns.{turns_short}
use Rattle.mt_elements.proofs.checking.chain_of.Goals as goal

pub returns-in-Err-clause-refused : goal.returns-in-Err-clause-refused
returns-in-Err-clause-refused c =
    let made = subst (λ (es : List Element). IsChainOf es c.args.graph.wires.items c.in_ok-layout.layout) c.deref.ensures.value c.in_ok-layout.ensures.chain in
    weaker (IsRefusedChain c.args.graph.elements.items c.in_ok-layout.layout) (IsRefused c.args.graph.elements.items c.args.graph.wires.items) c.in-Err.refusal
    (λ f r. refused c.in_ok-layout.layout made r)
    (subst (λ (es : List Element). Tells (IsRefusedChain es c.in_ok-layout.layout) c.in-Err.refusal) c.deref-2.ensures.value c.in-Err.ensures.refused)

pub new-requires-clause-short : goal.new-requires-clause-short
new-requires-clause-short c =
    let made = subst (λ (es : List Element). IsChainOf es c.args.graph.wires.items c.in_ok-layout.layout) c.deref.ensures.value c.in_ok-layout.ensures.chain in
    turns_short c.args.graph.elements.items c.args.graph.wires.items c.in_ok-layout.layout made c.requires.arguments
