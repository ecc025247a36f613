use Rattle.std.proofs.Common.{◌≡◌, map, take}
use Rattle.mt_terms.specs.Writes.{write_form}
use Rattle.mt_terms.proofs.writes.WriteList.copy.Given as goal

-- the writes so far are copied
abbrev pub invariant-loop-write : goal.invariant-loop-write
invariant-loop-write l = map write_form l.writes.items ≡ map write_form (take l.write-index l.self)
