use Rattle.std.proofs.Common.{◌-◌, List, subst, arith}
use Rattle.mt_packet.specs.declared.span.Span.{Span}
use Rattle.mt_cuts.specs.View.{tree_of}
use Rattle.mt_classes.specs.Parts.{TellsBox}
use Rattle.mt_classes.proofs.Fields.{box_starts, box_ends, leaf_canonical, field_more}
use Rattle.mt_classes.proofs.building.cut_of_box.Goals as goal

pub loop-at-init : goal.loop-at-init
loop-at-init c = record {
  below = omega arith;
  canonical = leaf_canonical c.args.devices c.args.number (tree_of c.leaf-cut.result) c.leaf-cut.ensures.tree;
  tells = box_starts c.args.devices c.args.number c.args.none c.spans-spans.result.now (tree_of c.leaf-cut.result) c.spans-spans.ensures.whole c.leaf-cut.ensures.tree;
}

pub loop-at-preserved : goal.loop-at-preserved
loop-at-preserved c =
    let some = c.loop-at-test.true in
    let upto = c.loop-at.invariant.below in
    record {
      below = omega (arith, upto);
      canonical = c.in_ok-cut.ensures.canonical;
      tells = field_more c.args.devices c.args.number c.args.none (c.loop-at.at - 1) c.loop-at.at c.spans-spans.result.now _ _ (tree_of c.loop-at.cut) (tree_of c.in_ok-cut.cut)
          (omega (arith, some)) (omega (arith, some, upto)) c.spans-spans.ensures.whole c.loop-at.invariant.tells c.in_ok-cut.ensures.value;
    }

pub returns-clause-tells : goal.returns-clause-tells
returns-clause-tells c =
    subst (λ (spans : List Span). TellsBox c.args.devices c.args.number c.args.none spans (tree_of c.loop-at.cut)) c.spans-spans.ensures.spans
    (box_ends c.args.devices c.args.number c.args.none c.loop-at.at c.spans-spans.result.now (tree_of c.loop-at.cut) c.loop-at-test.false c.loop-at.invariant.tells)
