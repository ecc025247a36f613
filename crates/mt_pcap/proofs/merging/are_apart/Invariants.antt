use Rattle.std.proofs.Common.{◌≡◌, ◌<◌, ℕ, Some}
use Rattle.std.specs.Prelude.{slice_get}
use Rattle.mt_pcap.specs.Stream.{ReaderState}
use Rattle.mt_pcap.proofs.merging.are_apart.Given as goal

-- the names before this one stand nowhere else
abbrev pub invariant-loop-index : goal.invariant-loop-index
invariant-loop-index l = (i j : ℕ) (r s : ReaderState) → i < l.index → slice_get l.readers i ≡ Some r → slice_get l.readers j ≡ Some s → r.name ≡ s.name → i ≡ j
