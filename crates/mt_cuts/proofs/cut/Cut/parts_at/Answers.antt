-- A tree that cuts another field is its own last part.
use Rattle.std.proofs.Common.{sym, ◌∙◌}
use Rattle.mt_cuts.specs.View.{tree_of}
use Rattle.mt_cuts.proofs.Nodes.{opened, alone-cuts}
use Rattle.mt_cuts.proofs.cut.Cut.parts_at.Goals as goal

pub returns-else-number : goal.returns-else-number
returns-else-number c =
    let o = opened c.args.self.now c.in-Cuts.own c.in-Cuts.ends c.in-Cuts.next c.in-Cuts.is c.requires in
    rw (c.alone-else-number.ensures.ends, c.alone-else-number.ensures.parts)
    (alone-cuts (tree_of c.args.self.now) c.args.field c.in-Cuts.own c.in-Cuts.ends.items _ o (λ e. c.if-number.false (c.number.ensures.number ∙ (e ∙ sym c.number-in-Cuts.ensures.number))))
