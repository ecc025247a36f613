-- Why the code stops on a packet's way.
use Rattle.std.specs.Prelude.{◌≡◌, ⊤, List, Some, None, Err}
use Rattle.mt_kinds.specs.declared.rewriter.Pool.{Pool}
use Rattle.mt_kinds.specs.declared.rewriter.Template.{Template}
use Rattle.mt_elements.specs.ChainState.{ChainState, mappers_of}
use Rattle.mt_chain.specs.Run.{Answer}
use Rattle.mt_chain.specs.declared.walk.Stop.{Stop}
use Rattle.mt_chain.specs.declared.walk.Stop.TheVariants.{NoWay, BadPick, NoMemory}

abbrev pub IsStop : {A : Type 0} → Answer A → Stop → Type 0
IsStop answer NoWay = answer ≡ None
IsStop answer (BadPick place) = answer ≡ Some (Err place)
IsStop answer NoMemory = ⊤

-- these are the patterns of the chain's mappers, and its pools
pub record IsGiven (chain : ChainState) (mappers : List (List Template)) (pools : List Pool) : Type 0 where
  pub mappers_are : mappers ≡ mappers_of chain.kinds
  pub pools_are : pools ≡ chain.pools
