-- Classes without a box.
use Rattle.std.proofs.Common.{◌++◌, [], ◌∷◌, length, get_or}
use Rattle.mt_synth.proofs.Places.{first_left, step_on}
use Rattle.mt_synth.proofs.Collected.{class_pushed}
use Rattle.mt_synth.proofs.collecting.without_boxes.Goals as goal

pub bounds-trees-value : goal.bounds-trees-value
bounds-trees-value c =
    let i = c.loop-rest.invariant in
    c.requires.named (length i.0) _ (first_left c.args.order.now i.0 c.loop-rest.rest.now 0 i.1 c.in-len1-up.len_at_least)

pub loop-rest-preserved : goal.loop-rest-preserved
loop-rest-preserved c =
    let i = c.loop-rest.invariant in
    let lt = c.requires.named (length i.0) _ (first_left c.args.order.now i.0 c.loop-rest.rest.now 0 i.1 c.in-len1-up.len_at_least) in (
      i.0 ++ get_or c.loop-rest.rest.now 0 0 ∷ [],
      step_on c.args.order.now i.0 c.loop-rest.rest.now 0 i.1 c.in-len1-up.len_at_least,
      class_pushed c.args.trees.now i.0 c.loop-rest.classes.items c.push.new.self.items (get_or c.loop-rest.rest.now 0 0) c.new.result c.index-trees-value.result c.in_ok-copy.field-0 i.2
          lt c.index-trees-value.is c.in_ok-copy.ensures c.new.ensures c.in_ok-push.ensures.items,
    )
