use Rattle.std.proofs.Common.{◌++◌, ℕ, List, Bor}
use Rattle.std.specs.Str.{bytes_eq}
use Rattle.mt_elements.proofs.Lookups.{any_within_map}
use Rattle.mt_elements.proofs.describing.is_known.Goals as goal

pub returns-in_ok-number-in-Mapper : goal.returns-in_ok-number-in-Mapper
returns-in_ok-number-in-Mapper c =
    rw (c.in-Mapper.is, ← c.bytes.ensures)
    (any_within_map (λ (x : Bor (List ℕ)). x.now) (bytes_eq (c.args.scope.now ++ c.bytes.result.now)) c.args.names.now c.in_ok-number-in-Mapper.number c.in_ok-number-in-Mapper.ensures.place)
