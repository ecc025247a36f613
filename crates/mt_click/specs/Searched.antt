-- The paths that a search finds.
use Rattle.std.specs.Prelude.{◌≡◌, ℕ, ◌<◌, List, [], ◌∷◌, ◌++◌, slice_get, Option, Some}
use Rattle.mt_reach.specs.Reach.{Reaches}
use Rattle.mt_click.specs.declared.connections.Port.{Port}
use Rattle.mt_click.specs.declared.connections.Port.TheVariants as port_kinds
use Rattle.mt_click.specs.declared.connections.Connection.{Connection}
use Rattle.mt_click.specs.declared.connections.Path.{Path}
use Rattle.mt_click.specs.Networks.{StandsAt}
use Rattle.mt_click.specs.Wires.{Leads}

-- a path with the beginning of another that ends at a port
abbrev pub ending : Path → Option Port → List Path
ending first (Some (port_kinds.Input to into)) = record { arrow = first.arrow; from = first.from; out = first.out; to = to; into = into } ∷ []
ending first _ = []

unfoldable pub endings : Path → List Port → List ℕ → List Path
endings first ports [] = []
endings first ports (n ∷ ns) = ending first (slice_get ports n) ++ endings first ports ns

-- a path that begins with a connection, and goes on from the number of the port that this comes to
pub record IsFound (ports : List Port) (graph : List (List ℕ)) (start : ℕ) (connection : Connection) (w : Path) : Type 0 where
  pub number : ℕ
  pub reached : Reaches graph start number
  pub stands : StandsAt ports number (port_kinds.Input w.to w.into)
  pub arrow : connection.arrow ≡ w.arrow
  pub leaves : connection.from ≡ port_kinds.Output w.from w.out

-- a path whose first connection is among the first so many
pub record IsPathBelow (connections : List Connection) (bound : ℕ) (w : Path) : Type 0 where
  pub index : ℕ
  pub below : index < bound
  pub first : Connection
  pub is : slice_get connections index ≡ Some first
  pub arrow : first.arrow ≡ w.arrow
  pub leaves : first.from ≡ port_kinds.Output w.from w.out
  pub leads : Leads connections first.to (port_kinds.Input w.to w.into)
