-- The box of one leaf more.
use Rattle.std.proofs.Common.{◌≡◌, ◌<◌, ◌++◌, [], ◌∷◌, ℕ, List, Some, length, map, get_or, slice_get, sym, subst, arith}
use Rattle.mt_cuts.specs.declared.leaves.Leaf.{Leaf}
use Rattle.mt_synth.proofs.Places.{first_left, step_on}
use Rattle.mt_synth.proofs.Collected.{class_there, apart_there, collected_more, has_found, not_found, leaf_numbered, leaf_below, order_below}
use Rattle.mt_synth.proofs.collecting.collected.Goals as goal

pub without_boxes-requires : goal.without_boxes-requires
without_boxes-requires c =
    record {
      named = subst (λ (order : List ℕ). (number value : ℕ) → slice_get order number ≡ Some value → value < length c.args.trees.now) (sym c.deref.ensures.value)
          (order_below c.args.leaves.now c.args.made.now.numbers.items c.args.made.now.order.items (length c.args.trees.now) c.requires.numbering c.requires.named);
    }

pub index-requires : goal.index-requires
index-requires c =
    let i = c.loop-rest.invariant in let d : Leaf = record { spans = []; value = 0 } in
    let w = leaf_below c.args.leaves.now c.args.made.now.numbers.items c.args.made.now.order.items (length i.0) (get_or c.loop-rest.rest.now 0 d) c.requires.numbering (first_left c.args.leaves.now i.0 c.loop-rest.rest.now d i.1 c.in-len1-up.len_at_least) in
    omega (arith, w)

pub add_box-requires-clause-there : goal.add_box-requires-clause-there
add_box-requires-clause-there c =
    let i = c.loop-rest.invariant in let d : Leaf = record { spans = []; value = 0 } in
    let w = leaf_below c.args.leaves.now c.args.made.now.numbers.items c.args.made.now.order.items (length i.0) (get_or c.loop-rest.rest.now 0 d) c.requires.numbering (first_left c.args.leaves.now i.0 c.loop-rest.rest.now d i.1 c.in-len1-up.len_at_least) in
    class_there c.args.trees.now (map (λ leaf. leaf.value) c.args.leaves.now) c.args.made.now.numbers.items c.args.made.now.order.items i.0 c.loop-rest.classes.items (get_or c.loop-rest.rest.now 0 d) c.in-Some.number
    c.requires.numbering i.2 (has_found c.args.made.now.numbers.items (get_or c.loop-rest.rest.now 0 d).value c.in-Some.number c.index.result.now w c.index.ensures c.in-Some.is)

pub add_box-requires-clause-formed : goal.add_box-requires-clause-formed
add_box-requires-clause-formed c =
    let i = c.loop-rest.invariant in let d : Leaf = record { spans = []; value = 0 } in
    c.requires.formed (length i.0) _ (first_left c.args.leaves.now i.0 c.loop-rest.rest.now d i.1 c.in-len1-up.len_at_least)

pub add_box-requires-clause-apart : goal.add_box-requires-clause-apart
add_box-requires-clause-apart c =
    let i = c.loop-rest.invariant in let d : Leaf = record { spans = []; value = 0 } in
    let here = first_left c.args.leaves.now i.0 c.loop-rest.rest.now d i.1 c.in-len1-up.len_at_least in
    let w = leaf_below c.args.leaves.now c.args.made.now.numbers.items c.args.made.now.order.items (length i.0) (get_or c.loop-rest.rest.now 0 d) c.requires.numbering here in
    apart_there c.args.trees.now (map (λ leaf. leaf.value) c.args.leaves.now) c.args.made.now.numbers.items c.args.made.now.order.items i.0 c.loop-rest.classes.items (get_or c.loop-rest.rest.now 0 d) c.in-Some.number
    c.requires.numbering i.2 (has_found c.args.made.now.numbers.items (get_or c.loop-rest.rest.now 0 d).value c.in-Some.number c.index.result.now w c.index.ensures c.in-Some.is)
    c.args.leaves.now c.loop-rest.rest.now i.1 here c.requires.apart

pub loop-rest-preserved-in_ok-add_box : goal.loop-rest-preserved-in_ok-add_box
loop-rest-preserved-in_ok-add_box c =
    let i = c.loop-rest.invariant in let d : Leaf = record { spans = []; value = 0 } in
    let here = first_left c.args.leaves.now i.0 c.loop-rest.rest.now d i.1 c.in-len1-up.len_at_least in
    let w = leaf_below c.args.leaves.now c.args.made.now.numbers.items c.args.made.now.order.items (length i.0) (get_or c.loop-rest.rest.now 0 d) c.requires.numbering here in (
      i.0 ++ get_or c.loop-rest.rest.now 0 d ∷ [],
      step_on c.args.leaves.now i.0 c.loop-rest.rest.now d i.1 c.in-len1-up.len_at_least,
      collected_more c.args.trees.now (map (λ leaf. leaf.value) c.args.leaves.now) c.args.made.now.numbers.items c.args.made.now.order.items i.0 c.loop-rest.classes.items (get_or c.loop-rest.rest.now 0 d) c.in-Some.number
          c.requires.numbering i.2 (has_found c.args.made.now.numbers.items (get_or c.loop-rest.rest.now 0 d).value c.in-Some.number c.index.result.now w c.index.ensures c.in-Some.is)
          c.add_box.new.classes.items c.in_ok-add_box.ensures,
    )

pub loop-rest-preserved : goal.loop-rest-preserved
loop-rest-preserved c =
    let i = c.loop-rest.invariant in let d : Leaf = record { spans = []; value = 0 } in
    let here = first_left c.args.leaves.now i.0 c.loop-rest.rest.now d i.1 c.in-len1-up.len_at_least in
    let w = leaf_below c.args.leaves.now c.args.made.now.numbers.items c.args.made.now.order.items (length i.0) (get_or c.loop-rest.rest.now 0 d) c.requires.numbering here in
    let n = leaf_numbered c.args.leaves.now c.args.made.now.numbers.items c.args.made.now.order.items (length i.0) (get_or c.loop-rest.rest.now 0 d) c.requires.numbering here in
    absurd (not_found c.args.made.now.numbers.items (get_or c.loop-rest.rest.now 0 d).value c.index.result.now w c.index.ensures c.in_default-index.not-Some n.0 n.1)
