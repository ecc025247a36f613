-- The wires of a configuration: paths of connections from a real output to a real input.
use Rattle.std.specs.Prelude.{◌≡◌, ◌↔◌, ◌⊎◌, ℕ, ◌<◌, List, map, Contains}
use Rattle.std.specs.List.{AllPairs}
use Rattle.mt_graph.specs.declared.Wire.{Wire}
use Rattle.mt_click.specs.declared.connections.Port.{Port}
use Rattle.mt_click.specs.declared.connections.Port.TheVariants as port_kinds
use Rattle.mt_click.specs.declared.connections.Connection.{Connection}
use Rattle.mt_click.specs.declared.connections.Path.{Path}
use Rattle.mt_syntax.specs.Position.{line_of}

-- A port, what connections that leave it come to, and so on. No connection leaves an input of an element, so only
-- ports of uses are passed through.
pub data Leads : List Connection → Port → Port → Type 0 where
  stays : (connections : List Connection) (p : Port) → Leads connections p p
  follows : (connections : List Connection) (p q r : Port) (l : Connection) → Leads connections p q → Contains connections l → l.from ≡ q → l.to ≡ r → Leads connections p r

-- A path: its first connection leaves a real output, its last comes to a real input. It has the byte of the
-- `->` of its first connection.
pub record IsPath (connections : List Connection) (w : Path) : Type 0 where
  pub first : Connection
  pub there : Contains connections first
  pub arrow : first.arrow ≡ w.arrow
  pub leaves : first.from ≡ port_kinds.Output w.from w.out
  pub leads : Leads connections first.to (port_kinds.Input w.to w.into)

-- in the order of the text, and at one `->` by the numbers from, out, to and into
abbrev pub IsBefore : Path → Path → Type 0
IsBefore a b =
    (a.arrow < b.arrow)
    ⊎ ((a.arrow ≡ b.arrow) × ((a.from < b.from)
    ⊎ ((a.from ≡ b.from) × ((a.out < b.out)
    ⊎ ((a.out ≡ b.out) × ((a.to < b.to)
    ⊎ ((a.to ≡ b.to) × (a.into < b.into))))))))

-- All paths, in their order. No path stands twice, so there is one list of this kind.
pub record ArePaths (connections : List Connection) (paths : List Path) : Type 0 where
  pub ascending : AllPairs IsBefore paths
  pub all : (w : Path) → Contains paths w ↔ IsPath connections w

-- the wire of a path
abbrev pub wire_of : List ℕ → Path → Wire
wire_of text w = record { from = w.from; out = w.out; to = w.to; into = w.into; line = line_of text w.arrow }

pub record AreWires (text : List ℕ) (connections : List Connection) (wires : List Wire) : Type 0 where
  pub paths : List Path
  pub are : ArePaths connections paths
  pub of_paths : wires ≡ map (wire_of text) paths
