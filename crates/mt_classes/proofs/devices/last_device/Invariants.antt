use Rattle.std.proofs.Common.{◌≡◌, map, length}
use Rattle.std.specs.Prelude.{max}
use Rattle.mt_classes.specs.Parts.{last_device}
use Rattle.mt_classes.proofs.devices.last_device.Given as goal

-- the devices so far, and those of the boxes from here on
abbrev pub invariant-loop-rest : goal.invariant-loop-rest
invariant-loop-rest l = max (last_device (map (λ of. of.spans) l.rest)) l.last ≡ last_device (map (λ of. of.spans) l.boxes)

abbrev pub decreases-loop-rest : goal.decreases-loop-rest
decreases-loop-rest l = length l.rest
