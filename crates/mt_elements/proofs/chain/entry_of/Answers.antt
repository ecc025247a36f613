use Rattle.std.proofs.Common.{◌∙◌, refl, sym, arith}
use Rattle.mt_elements.specs.ChainState.{is_entry}
use Rattle.mt_lists.proofs.Positions.{found, missing}
use Rattle.mt_elements.proofs.Looked.{got_at}
use Rattle.mt_elements.proofs.chain.entry_of.Goals as goal

pub returns-then-is_entry : goal.returns-then-is_entry
returns-then-is_entry c =
    sym (found (is_entry c.args.device) c.args.kinds.now c.loop-element.element c.index-kinds-element.result c.loop-element.invariant
    (got_at c.args.kinds.now c.args.kinds.now c.loop-element.element refl c.index-kinds-element.result c.loop-element-test.true c.index-kinds-element.is)
    (sym c.is_entry.ensures ∙ c.if-is_entry.true))

pub returns : goal.returns
returns c = sym (missing (is_entry c.args.device) c.args.kinds.now c.loop-element.element (omega (arith, c.loop-element-test.false, c.loop-element.auto.element-end)) c.loop-element.invariant)
