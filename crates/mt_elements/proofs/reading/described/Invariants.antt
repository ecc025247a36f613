use Rattle.std.proofs.Common.{◌≡◌, take, map}
use Rattle.std.specs.Prelude.{Ok}
use Rattle.mt_elements.specs.Described.{describe}
use Rattle.mt_elements.proofs.Faultless.{AreRight}
use Rattle.mt_elements.proofs.reading.described.Given as goal

abbrev pub invariant-loop-number : goal.invariant-loop-number
invariant-loop-number l = record {
  described : map describe (take l.number l.elements) ≡ map Ok l.descriptions.items;
  faultless : AreRight l.elements l.number;
}
