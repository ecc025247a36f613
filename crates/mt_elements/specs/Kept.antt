-- What an accepted chain keeps at hand beside its elements and wires.
use Rattle.std.specs.Prelude.{◌≡◌, ℕ, suc, List, length, map, slice_get, Option, Some}
use Rattle.mt_kinds.specs.declared.rewriter.Pool.{Pool}
use Rattle.mt_kinds.specs.declared.rewriter.Spec.{Spec}
use Rattle.mt_elements.specs.ChainState.{ChainState, entry_of, mappers_of, specs_in}
use Rattle.mt_elements.specs.Accepted.{IsAccepted}
use Rattle.mt_elements.specs.Numbered.{IsNumbered}
use Rattle.mt_elements.specs.Table.{IsTable}

-- for each device by which frames enter, its element; the first stands for the number 0, which no device has
pub record AreArrivals (chain : ChainState) (arrivals : List (Option ℕ)) : Type 0 where
  pub whole : length arrivals ≡ suc chain.entries
  pub each : (device : ℕ) (entry : Option ℕ) → slice_get arrivals device ≡ Some entry → entry ≡ entry_of chain device

-- the chain is accepted, and this is where its outputs lead, where its devices enter, how many patterns its mappers
-- have, the specifications of its elements, and its pools
pub record Keeps (chain : ChainState) (table : List (List (Option (ℕ × ℕ)))) (arrivals : List (Option ℕ)) (sizes : List ℕ) (specs : List (List Spec)) (pools : List Pool) : Type 0 where
  pub accepted : IsAccepted chain
  pub numbered : IsNumbered chain
  pub next : IsTable chain table
  pub arrives : AreArrivals chain arrivals
  pub turns : sizes ≡ map length (mappers_of chain.kinds)
  pub inputs : specs ≡ map specs_in chain.kinds
  pub ranges : pools ≡ chain.pools
