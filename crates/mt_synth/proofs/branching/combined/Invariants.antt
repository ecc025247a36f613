use Rattle.std.proofs.Common.{◌≡◌, ◌≤◌, ◌-◌, ℕ, map, length, take}
use Rattle.std.specs.Prelude.{Some, slice_get}
use Rattle.mt_packet.specs.declared.field.Field.{Field}
use Rattle.mt_cuts.specs.Canonical.{IsCanonical}
use Rattle.mt_cuts.specs.Tree.{value_of}
use Rattle.mt_cuts.specs.View.{tree_of}
use Rattle.mt_synth.proofs.branching.combined.Given as goal

pub record IsCombined (l : goal.Live-loop-place) : Type 0 where
  pub within : l.place ≤ length l.cuts
  pub canonical : IsCanonical l.devices (tree_of l.made)
  pub lists : (header : Field → ℕ) → slice_get (map (λ v. v.items) l.lists.items) (value_of (tree_of l.made) header)
      ≡ Some (map (λ cut. value_of (tree_of cut) header) (take l.place l.cuts))

abbrev pub invariant-loop-place : goal.invariant-loop-place
invariant-loop-place l = IsCombined l

abbrev pub decreases-loop-place : goal.decreases-loop-place
decreases-loop-place l = length l.cuts - l.place
