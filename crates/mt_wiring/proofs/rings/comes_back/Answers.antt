use Rattle.mt_wiring.proofs.RingsCleared.{not_back, found_back, below_more}
use Rattle.mt_wiring.proofs.rings.comes_back.Goals as goal

pub returns-then-is_clear-clause-returns : goal.returns-then-is_clear-clause-returns
returns-then-is_clear-clause-returns c = not_back c.args.graph.now c.args.clear.now c.args.node c.is_clear.result c.requires.clear c.is_clear.ensures c.if-is_clear.true

pub returns-then-is_clear-clause-marks : goal.returns-then-is_clear-clause-marks
returns-then-is_clear-clause-marks c = below_more c.args.node _ c.requires.fresh

pub returns-clause-returns : goal.returns-clause-returns
returns-clause-returns c =
    found_back c.args.graph.now c.args.node c.in_ok-nodes.nodes.items c.deref.result.now c.leads_back.result c.deref.ensures.value c.in_ok-nodes.ensures.sound c.in_ok-nodes.ensures.complete c.leads_back.ensures
