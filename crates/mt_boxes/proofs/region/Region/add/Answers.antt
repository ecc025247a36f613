use Rattle.std.proofs.Common.{◌∙◌, ap, map}
use Rattle.std.proofs.lemmas.List.{map_push}
use Rattle.mt_boxes.specs.Boxes.{header_ranges}
use Rattle.mt_boxes.specs.declared.boxes.HeaderBox.{HeaderBox}
use Rattle.mt_boxes.proofs.Sets.{region_pushed}
use Rattle.mt_boxes.proofs.region.Region.add.Goals as goal

pub invariant_of-self-2 : goal.invariant_of-self-2
invariant_of-self-2 c =
    region_pushed header_ranges (map (λ of. of.spans) c.self.inside.boxes.items) c.args.self.now (map (λ of. of.spans) c.push.new.self.items) c.args.of.spans c.self.view_is
    (ap (map (λ (of : HeaderBox). of.spans)) c.in_ok-push.ensures.items ∙ map_push (λ (of : HeaderBox). of.spans) c.self.inside.boxes.items c.args.of)
    c.self.invariant c.requires.formed c.requires.apart
