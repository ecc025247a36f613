use Rattle.std.proofs.Common.{◌≡◌, [], map, drop}
use Rattle.mt_boxes.specs.Visible.{visible_spans}
use Rattle.mt_boxes.proofs.Unseen.{seen_behind}
use Rattle.mt_boxes.proofs.projection.project.Given as goal

-- what the boxes from here on add to what is seen
abbrev pub invariant-loop-of : goal.invariant-loop-of
invariant-loop-of l =
    seen_behind (map visible_spans (map (λ of. of.spans) (drop l.of-index l.of-items))) (map (λ of. of.spans) l.seen.items) ≡ seen_behind (map visible_spans l.region) []
