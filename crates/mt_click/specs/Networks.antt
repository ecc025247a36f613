-- Ports by number: the number of a port is its index in a list of ports.
use Rattle.std.specs.Prelude.{◌≡◌, ℕ, List, length, slice_get, Some}
use Rattle.mt_click.specs.declared.connections.Port.{Port}
use Rattle.mt_click.specs.declared.connections.Connection.{Connection}

abbrev pub StandsAt : List Port → ℕ → Port → Type 0
StandsAt ports n p = slice_get ports n ≡ Some p

-- each port has one number
abbrev pub AreApart : List Port → Type 0
AreApart ports = (i j : ℕ) (p : Port) → StandsAt ports i p → StandsAt ports j p → i ≡ j

-- ports that have a number keep it
abbrev pub Grows : List Port → List Port → Type 0
Grows old new = (n : ℕ) (p : Port) → StandsAt old n p → StandsAt new n p

-- the numbers of the ports that a connection leaves and comes to
abbrev pub IsPair : List Port → Connection → ℕ × ℕ → Type 0
IsPair ports l pair = StandsAt ports pair.0 l.from × StandsAt ports pair.1 l.to

pub record IsNetwork (ports : List Port) (connections : List Connection) (pairs : List (ℕ × ℕ)) : Type 0 where
  pub apart : AreApart ports
  pub len : length pairs ≡ length connections
  pub each : (k : ℕ) (l : Connection) (pair : ℕ × ℕ) → slice_get connections k ≡ Some l → slice_get pairs k ≡ Some pair → IsPair ports l pair
