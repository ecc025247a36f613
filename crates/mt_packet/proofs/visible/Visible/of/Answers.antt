-- proofs/visible/Visible/of/Answers.antt
use Rattle.std.proofs.Common.{◌≡◌}
use Rattle.mt_packet.specs.Header.{visible_of}
use Rattle.mt_packet.proofs.Ranges.{copied-same, copied-in_ranges}
use Rattle.mt_packet.proofs.visible.Visible.of.Goals as goal

pub returns-clause-same : goal.returns-clause-same
returns-clause-same c =
    let e : c.copy_fields.new.values ≡ visible_of c.args.header.now = cc in
    copied-same c.copy_fields.new.values c.args.header.now e

pub returns-clause-ranges : goal.returns-clause-ranges
returns-clause-ranges c =
    let e : c.copy_fields.new.values ≡ visible_of c.args.header.now = cc in
    copied-in_ranges c.copy_fields.new.values c.args.header.now e c.values.ensures.ranges

pub invariant_of-result : goal.invariant_of-result
invariant_of-result c =
    let e : c.copy_fields.new.values ≡ visible_of c.args.header.now = cc in
    copied-in_ranges c.copy_fields.new.values c.args.header.now e c.values.ensures.ranges
