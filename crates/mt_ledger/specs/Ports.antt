-- Lists of ports of one pool. The ports of a stock and of a share ascend.
use Rattle.std.specs.Prelude.{ℕ, zero, suc, ◌==◌, ◌+◌, ◌≤◌, nat_lt, List, [], ◌∷◌, if◌then◌else◌}

-- how often a port stands among some
abbrev pub times : ℕ → List ℕ → ℕ
times port [] = 0
times port (other ∷ ports) = (if other == port then 1 else 0) + times port ports

-- no port stands twice
abbrev pub NoneTwice : List ℕ → Type 0
NoneTwice ports = (port : ℕ) → times port ports ≤ 1

-- so many ports from the least on
unfoldable pub ports_from : ℕ → ℕ → List ℕ
ports_from least zero = []
ports_from least (suc count) = least ∷ ports_from (suc least) count

-- the ports ascend, none below the least and none above the greatest
abbrev pub IsAscending : ℕ → ℕ → List ℕ → Type 0
IsAscending least greatest [] = Unit {0}
IsAscending least greatest (port ∷ ports) = (least ≤ port) × (port ≤ greatest) × IsAscending (suc port) greatest ports

-- the ports with one more, in its place in ascending order
abbrev pub placed : ℕ → List ℕ → List ℕ
placed port [] = port ∷ []
placed port (other ∷ ports) = if nat_lt other port then other ∷ placed port ports else port ∷ other ∷ ports

-- the ports with each of some more in its place
abbrev pub placed_each : List ℕ → List ℕ → List ℕ
placed_each [] ports = ports
placed_each (more ∷ others) ports = placed_each others (placed more ports)

-- what a token is the right to: a port of the pool of this number
pub record HeldPort : Type 0 where
  pub pool : ℕ
  pub port : ℕ
