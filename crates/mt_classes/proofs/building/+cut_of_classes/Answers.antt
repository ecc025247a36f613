use Rattle.std.proofs.Common.{◌/◌, length, arith}
use Rattle.std.proofs.lemmas.List.{take_rest}
use Rattle.mt_cuts.specs.View.{tree_of}
use Rattle.mt_classes.proofs.Halves.{classes_by_halves}
use Rattle.mt_classes.proofs.building.+cut_of_classes.Goals as goal

pub returns-clause-tells : goal.returns-clause-tells
returns-clause-tells t c =
    classes_by_halves (λ class. class.0) c.args.devices c.args.first c.args.none (length c.args.part.now.classes.now / 2) c.args.part.now.classes.now _ (tree_of c.in_ok-front.front) (tree_of c.in_ok-back.back) (tree_of c.in_ok-cut.cut)
    c.requires (omega arith) (take_rest c.args.part.now.classes.now (length c.args.part.now.classes.now / 2)) c.in_ok-front.ensures.tells c.in_ok-back.ensures.tells c.in_ok-cut.ensures.value
