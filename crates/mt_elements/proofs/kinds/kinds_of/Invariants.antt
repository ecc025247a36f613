use Rattle.std.proofs.Common.{◌≡◌, ◌++◌, length, map}
use Rattle.std.specs.Vec.Iter.{into_iter_items, into_iter_len}
use Rattle.mt_elements.specs.Described.{kinds_of}
use Rattle.mt_elements.proofs.kinds.kinds_of.Given as goal

abbrev pub invariant-loop-description : goal.invariant-loop-description
invariant-loop-description l = record {
  made :
      l.kinds.items ++ kinds_of l.devices l.pools.keys (map (λ x. x.now) l.names) l.rest (into_iter_items l.description-iterator)
      ≡ kinds_of l.devices l.pools.keys (map (λ x. x.now) l.names) l.elements l.fn.descriptions.items;
  counted : length (into_iter_items l.description-iterator) ≡ into_iter_len l.description-iterator;
}
