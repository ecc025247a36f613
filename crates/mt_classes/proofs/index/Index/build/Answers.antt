use Rattle.std.proofs.Common.{arith}
use Rattle.mt_cuts.specs.View.{tree_of}
use Rattle.mt_classes.proofs.Lasts.{devices_are}
use Rattle.mt_classes.proofs.Found.{found_in}
use Rattle.mt_classes.proofs.index.Index.build.Goals as goal

pub overflow_cast-devices : goal.overflow_cast-devices
overflow_cast-devices c =
    let p = c.requires.partition.1 in
    let is = devices_are (λ class. class.0) c.requires.partition.0 c.last_of_all-devices.result c.list-list.result.now c.args.classes.now c.list-list.ensures c.last_of_all-devices.ensures p in
    let few = p.few in
    omega (arith, is, few)

pub invariant_of-result : goal.invariant_of-result
invariant_of-result c =
    let p = c.requires.partition.1 in
    let is = devices_are (λ class. class.0) c.requires.partition.0 c.last_of_all-devices.result c.list-list.result.now c.args.classes.now c.list-list.ensures c.last_of_all-devices.ensures p in
    let some = p.some in
    (omega (arith, is, some), c.in_ok-cut.ensures.canonical)

pub returns : goal.returns
returns c =
    let p = c.requires.partition.1 in
    let is = devices_are (λ class. class.0) c.requires.partition.0 c.last_of_all-devices.result c.list-list.result.now c.args.classes.now c.list-list.ensures c.last_of_all-devices.ensures p in
    found_in (λ class. class.0) c.requires.partition.0 c.last_of_all-devices.result _ c.list-list.result.now c.args.classes.now (tree_of c.in_ok-cut.cut) c.list-list.ensures is p c.in_ok-cut.ensures.tells
