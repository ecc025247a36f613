-- Input ports by number: the number of a port is its index in a list of ports.
use Rattle.std.specs.Prelude.{◌≡◌, ◌≤◌, ℕ, Bool, true, false, List, length, get_or, slice_get, Some, Contains}
use Rattle.mt_graph.specs.declared.Wire.{Wire}
use Rattle.mt_reach.specs.Reach.{targets_of, Reaches}
use Rattle.mt_wiring.specs.Ways.{target, IsLeft, IsStep}

abbrev pub StandsAt : List (ℕ × ℕ) → ℕ → ℕ × ℕ → Type 0
StandsAt ports n p = slice_get ports n ≡ Some p

-- each port has one number
abbrev pub AreApart : List (ℕ × ℕ) → Type 0
AreApart ports = (i j : ℕ) (p : ℕ × ℕ) → StandsAt ports i p → StandsAt ports j p → i ≡ j

-- ports that have a number keep it
abbrev pub Grows : {X : Type 0} → List X → List X → Type 0
Grows {X} old new = (n : ℕ) (x : X) → slice_get old n ≡ Some x → slice_get new n ≡ Some x

-- for each wire the number of the port that it leads to
pub record AreTargets (ports : List (ℕ × ℕ)) (wires : List Wire) (targets : List ℕ) : Type 0 where
  pub apart : AreApart ports
  pub len : length targets ≡ length wires
  pub each : (k : ℕ) (w : Wire) (n : ℕ) → slice_get wires k ≡ Some w → slice_get targets k ≡ Some n → StandsAt ports n (target w)

-- a link from the number of a port to that of the port to which a wire leads on
pub record IsLink (leads : ℕ → ℕ → ℕ → Bool) (wires : List Wire) (ports : List (ℕ × ℕ)) (a b : ℕ) : Type 0 where
  pub port : ℕ × ℕ
  pub wire : Wire
  pub stands : StandsAt ports a port
  pub step : IsStep leads wires port wire
  pub leads_to : StandsAt ports b (target wire)

-- a link by the wire at a place
abbrev pub IsLinkBy : (ℕ → ℕ → ℕ → Bool) → List ℕ → ℕ → ℕ × ℕ → ℕ → Wire → ℕ × ℕ → Type 0
IsLinkBy leads targets number port k w link = (slice_get targets k ≡ Some link.1) × IsLeft leads port w × (number ≡ link.0)

-- a node that is reached from itself by one link or more
pub record Returns (graph : List (List ℕ)) (node : ℕ) : Type 0 where
  pub last : ℕ
  pub reached : Reaches graph node last
  pub link : Contains (targets_of graph last) node

-- the node at a place is such a one, and its port is of an element
abbrev pub IsRingAt : List (List ℕ) → ℕ → ℕ × ℕ → ℕ → Type 0
IsRingAt graph n port element = (port.0 ≡ element) × Returns graph n

-- nodes that are known not to be such
abbrev pub AreClear : List (List ℕ) → List Bool → Type 0
AreClear graph clear = (n : ℕ) → get_or clear n false ≡ true → Returns graph n → ⊥

-- ranks of nodes that fall along no link
abbrev pub NeverFall : List (List ℕ) → List ℕ → Type 0
NeverFall graph ranks = (a b : ℕ) → Contains (targets_of graph a) b → get_or ranks a 0 ≤ get_or ranks b 0
