use Rattle.std.proofs.Common.{◌≡◌, ◌++◌, map, drop}
use Rattle.std.specs.List.{filter_map}
use Rattle.mt_boxes.specs.Parts.{met}
use Rattle.mt_boxes.proofs.refinement.push_common.Given as goal

-- the boxes so far, and those with the boxes from here on
abbrev pub invariant-loop-other : goal.invariant-loop-other
invariant-loop-other l =
    map (λ of. of.spans) l.boxes.items ++ filter_map (met l.of.spans) (map (λ of. of.spans) (drop l.other-index l.others))
    ≡ map (λ of. of.spans) l.fn.boxes.items ++ filter_map (met l.of.spans) (map (λ of. of.spans) l.others)
