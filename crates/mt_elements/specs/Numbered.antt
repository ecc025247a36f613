-- What the numbers in the elements of a chain stand for.
use Rattle.std.specs.Prelude.{ℕ, ◌<◌, ◌≤◌, List, length, Contains}
use Rattle.mt_kinds.specs.declared.kind.Kind.TheVariants.{FromDevice, ToDevice, SetIPDSCP, IPRewriter}
use Rattle.mt_kinds.specs.declared.rewriter.Spec.{Spec}
use Rattle.mt_kinds.specs.declared.rewriter.Spec.TheVariants.{Mapper}
use Rattle.mt_elements.specs.ChainState.{ChainState, IsKind, mappers_of}
use Rattle.mt_elements.specs.Ranges.{IsInRange}

pub record IsNumbered (chain : ChainState) : Type 0 where
  -- frames enter by each of the first devices, as many as the entries, at an element of its own, and by no other
  pub arrives : (element device : ℕ) → IsKind chain element (FromDevice device) → (0 < device) × (device ≤ chain.entries)
  pub entered : (device : ℕ) → 0 < device → device ≤ chain.entries → (element : ℕ) × IsKind chain element (FromDevice device)
  pub among : chain.entries ≤ length chain.devices
  -- packets are sent on devices that the chain names
  pub sends : (element device : ℕ) → IsKind chain element (ToDevice device) → (0 < device) × (device ≤ length chain.devices)
  -- a code point has six bits
  pub points : (element point : ℕ) → IsKind chain element (SetIPDSCP point) → point ≤ 63
  -- a rewriter names mappers that are there
  pub mapped : (element : ℕ) (specs : List Spec) (number : ℕ) → IsKind chain element (IPRewriter specs) → Contains specs (Mapper number) → number < length (mappers_of chain.kinds)
  -- numbers are in the ranges of the fields that they are written to
  pub in_range : IsInRange chain
