-- A tree that cuts another field is its own last part.
use Rattle.std.proofs.Common.{sym, ◌∙◌}
use Rattle.mt_cuts.specs.View.{tree_of}
use Rattle.mt_cuts.proofs.Nodes.{opened, alone-cuts}
use Rattle.mt_cuts.proofs.Selecting.{only_part, both_ok}
use Rattle.mt_cuts.proofs.left.Left.of.Goals as goal

pub returns-then-number-clause-parts : goal.returns-then-number-clause-parts
returns-then-number-clause-parts c =
    let o = opened c.args.tree c.in-Cuts.own c.in-Cuts.ends c.in-Cuts.next c.in-Cuts.is c.requires in
    both_ok c.alone-then-number.result _ _ _
    (λ left e p. only_part c.args.field c.args.tree _ left.ends.items left.parts.items c.in-Cuts.is
    (alone-cuts (tree_of c.args.tree) c.args.field c.in-Cuts.own c.in-Cuts.ends.items _ o (λ same. c.if-number.true (c.number.ensures.number ∙ (same ∙ sym c.number-in-Cuts.ensures.number)))) e p)
    c.alone-then-number.ensures.ends c.alone-then-number.ensures.parts
