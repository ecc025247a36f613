use Rattle.std.proofs.Common.{◌≡◌, map, length}
use Rattle.std.specs.Prelude.{max}
use Rattle.mt_classes.specs.Parts.{last_of_all}
use Rattle.mt_classes.proofs.devices.last_of_all.Given as goal

-- the devices so far, and those of the classes from here on
abbrev pub invariant-loop-rest : goal.invariant-loop-rest
invariant-loop-rest l = max (last_of_all (map (λ class. class.0) l.rest)) l.last ≡ last_of_all (map (λ class. class.0) l.classes)

abbrev pub decreases-loop-rest : goal.decreases-loop-rest
decreases-loop-rest l = length l.rest
