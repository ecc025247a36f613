use Rattle.std.proofs.Common.{◌≡◌, ℕ, ◌<◌, get_or, nat_lt, true}
use Rattle.mt_packet.specs.Header.{number_of}
use Rattle.mt_terms.specs.declared.writes.FieldWrite.{FieldWrite}
use Rattle.mt_terms.proofs.writes.place_of.Given as goal

-- the writes before are of earlier fields
abbrev pub invariant-loop-place : goal.invariant-loop-place
invariant-loop-place l = (k : ℕ) (d : FieldWrite) → k < l.place → nat_lt (number_of (get_or l.writes k d).field) (number_of l.field) ≡ true
