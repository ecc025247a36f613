use Rattle.std.proofs.Common.{sym}
use Rattle.std.proofs.Common.{subst}
use Rattle.mt_elements.specs.Numbered.{IsNumbered}
use Rattle.mt_elements.proofs.Numbered.{numbered}
use Rattle.mt_elements.proofs.layout.layout_of.Goals as goal

pub returns-clause-numbered : goal.returns-clause-numbered
returns-clause-numbered c =
    subst IsNumbered (sym c.in_ok-layout.ensures)
    (numbered c.args.elements.now c.args.wires.items c.in_ok-descriptions.descriptions.items c.in_ok-descriptions.ensures.described c.in_ok-descriptions.ensures.faultless)
