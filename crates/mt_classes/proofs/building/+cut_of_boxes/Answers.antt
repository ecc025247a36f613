use Rattle.std.proofs.Common.{◌/◌, length}
use Rattle.std.proofs.lemmas.List.{take_rest}
use Rattle.mt_cuts.specs.View.{tree_of}
use Rattle.mt_classes.proofs.Halves.{boxes_by_halves}
use Rattle.mt_classes.proofs.building.+cut_of_boxes.Goals as goal

pub returns-clause-tells : goal.returns-clause-tells
returns-clause-tells t c =
    boxes_by_halves c.args.devices c.args.number c.args.none (length c.args.boxes.now / 2) c.args.boxes.now _ (tree_of c.in_ok-front.front) (tree_of c.in_ok-back.back) (tree_of c.in_ok-cut.cut)
    c.requires (take_rest c.args.boxes.now (length c.args.boxes.now / 2)) c.in_ok-front.ensures.tells c.in_ok-back.ensures.tells c.in_ok-cut.ensures.value
