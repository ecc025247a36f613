-- Connections between ports of elements and of uses of classes.
use Rattle.std.specs.Prelude.{◌≡◌, ℕ, List, [], ◌∷◌, ◌++◌, Option, Some, None, Bool, ◌&&◌, nat_eq, Contains, if◌then◌else◌}
use Rattle.std.specs.List.{AllPairs}
use Rattle.mt_click.specs.declared.action.Side.{Side}
use Rattle.mt_click.specs.declared.action.Side.TheVariants as sides
use Rattle.mt_click.specs.declared.action.CreatedItem.{CreatedItem}
use Rattle.mt_click.specs.declared.action.CreatedItem.TheVariants as created_items
use Rattle.mt_click.specs.declared.action.Created.{Created}
use Rattle.mt_click.specs.declared.action.Connected.{Connected}
use Rattle.mt_click.specs.declared.connections.Port.{Port}
use Rattle.mt_click.specs.declared.connections.Port.TheVariants as port_kinds
use Rattle.mt_click.specs.declared.connections.Connection.{Connection}
use Rattle.mt_click.specs.Elements.{State}

-- What is created in the use of a number at a byte of the text. Nothing in a use creates two items at one byte;
-- the last one would count.
abbrev pub is_created : ℕ → ℕ → Created → Bool
is_created enclosing offset m = nat_eq m.enclosing enclosing && nat_eq m.offset offset

unfoldable pub item_from : Option CreatedItem → List Created → ℕ → ℕ → Option CreatedItem
item_from found [] enclosing offset = found
item_from found (m ∷ ms) enclosing offset = item_from (if is_created enclosing offset m then Some m.item else found) ms enclosing offset

abbrev pub item_created : List Created → ℕ → ℕ → Option CreatedItem
item_created created enclosing offset = item_from None created enclosing offset

-- the port at which a connection leaves what is created
abbrev pub left_at : ℕ → Option CreatedItem → Option Port
left_at port None = None
left_at port (Some (created_items.Element n)) = Some (port_kinds.Output n port)
left_at port (Some (created_items.Use n)) = Some (port_kinds.UseOutput n port)

-- the port at which it comes to it
abbrev pub reached_at : ℕ → Option CreatedItem → Option Port
reached_at port None = None
reached_at port (Some (created_items.Element n)) = Some (port_kinds.Input n port)
reached_at port (Some (created_items.Use n)) = Some (port_kinds.UseInput n port)

-- A connection in a use leaves the use's input at its `input`, and comes to the use's output at its
-- `output`.
unfoldable pub source_of : List Created → ℕ → Side → Option Port
source_of created enclosing (sides.Border port) = Some (port_kinds.UseInput enclosing port)
source_of created enclosing (sides.Created offset port) = left_at port (item_created created enclosing offset)

unfoldable pub target_of : List Created → ℕ → Side → Option Port
target_of created enclosing (sides.Border port) = Some (port_kinds.UseOutput enclosing port)
target_of created enclosing (sides.Created offset port) = reached_at port (item_created created enclosing offset)

abbrev pub connection_between : ℕ → Option Port → Option Port → List Connection
connection_between arrow (Some a) (Some b) = record { arrow = arrow; from = a; to = b } ∷ []
connection_between arrow _ _ = []

unfoldable pub connection_of : List Created → Connected → List Connection
connection_of created j = connection_between j.arrow (source_of created j.enclosing j.from) (target_of created j.enclosing j.to)

unfoldable pub connections_from : List Created → List Connected → List Connection
connections_from created [] = []
connections_from created (j ∷ js) = connection_of created j ++ connections_from created js

-- the connections of a configuration, in the order of the walk
abbrev pub connections_in : State → List Connection
connections_in s = connections_from s.created s.connected

-- no two items are created in one use at one byte
abbrev pub IsElsewhere : Created → Created → Type 0
IsElsewhere a b = a.enclosing ≡ b.enclosing → a.offset ≡ b.offset → ⊥

abbrev pub AreCreatedOnce : List Created → Type 0
AreCreatedOnce created = AllPairs IsElsewhere created

-- A connection has both its ends: what it leaves and what it comes to are among what is created.
pub record HasEnds (created : List Created) (j : Connected) : Type 0 where
  pub source : Port
  pub leaves : source_of created j.enclosing j.from ≡ Some source
  pub target : Port
  pub comes : target_of created j.enclosing j.to ≡ Some target

-- No byte of a use has two items, and each connection has both its ports: none is lost.
pub record IsConnected (s : State) : Type 0 where
  pub once : AreCreatedOnce s.created
  pub ends : (j : Connected) → Contains s.connected j → HasEnds s.created j
