-- The graph of a text, and the fault of a text that has none.
use Rattle.std.specs.Prelude.{◌≡◌, ◌⊎◌, ℕ, List, Result, Ok, Err}
use Rattle.mt_syntax.specs.declared.fault.Fault.{Fault}
use Rattle.mt_syntax.specs.declared.fault.ClickFault.{ClickFault}
use Rattle.mt_syntax.specs.Position.{no_memory, located}
use Rattle.mt_syntax.specs.Grammar.{OuterTree}
use Rattle.mt_syntax.specs.Derives.{Derives}
use Rattle.mt_syntax.specs.Stopping.{TextStopsAt}
use Rattle.mt_graph.specs.declared.Graph.{Graph}
use Rattle.mt_click.specs.Elements.{State}
use Rattle.mt_click.specs.Expands.{Expands}
use Rattle.mt_click.specs.Connections.{connections_in, IsConnected}
use Rattle.mt_click.specs.Spread.{actions_of_tree}
use Rattle.mt_click.specs.Walk.{walked}
use Rattle.mt_click.specs.Wires.{AreWires}

-- A graph of a text: the text derives a tree, the tree expands to elements and connections, each connection
-- has both its ends, and the wires are the paths of these connections.
pub record IsGraph (text : List ℕ) (g : Graph) : Type 0 where
  pub tree : List OuterTree
  pub derived : Derives text tree
  pub state : State
  pub expands : Expands text tree state
  pub connected : IsConnected state
  pub elements : g.elements.items ≡ state.elements
  pub wires : AreWires text (connections_in state) g.wires.items

-- The first fault of expansion: the text derives a tree, and the walk over the tree meets it.
pub record IsFaultOfWalk (text : List ℕ) (f : Fault) : Type 0 where
  pub tree : List OuterTree
  pub derived : Derives text tree
  pub walk : walked text (actions_of_tree text tree) ≡ Err f

-- A fault of reading stands where the text stops to be the beginning of a configuration.
abbrev pub IsFault : List ℕ → Fault → Type 0
IsFault text f = TextStopsAt text f ⊎ IsFaultOfWalk text f

-- What a function returned is a graph of the text, or its fault at line and column. Memory may run out,
-- which has no place.
abbrev pub Parses : List ℕ → Result Graph ClickFault → Type 0
Parses text (Ok g) = IsGraph text g
Parses text (Err e) = (e ≡ no_memory) ⊎ ((f : Fault) × IsFault text f × (e ≡ located text f))

-- no other graph is one of the text
abbrev pub IsOnly : List ℕ → Graph → Type 0
IsOnly text g = (other : Graph) → IsGraph text other → (other.elements.items ≡ g.elements.items) × (other.wires.items ≡ g.wires.items)

-- no graph is one of the text, and no other fault
abbrev pub HasNone : List ℕ → Type 0
HasNone text = (g : Graph) → IsGraph text g → ⊥

abbrev pub Refuses : List ℕ → Result Graph ClickFault → Type 0
Refuses text (Ok g) = Unit {0}
Refuses text (Err e) = (e ≡ no_memory) ⊎ (HasNone text × ((f : Fault) → IsFault text f → e ≡ located text f))

-- a text has one graph, or else one fault
pub record OneReading : Type 0 where
  pub graph : (text : List ℕ) (g : Graph) → IsGraph text g → IsOnly text g
  pub either : (text : List ℕ) (g : Graph) (f : Fault) → IsGraph text g → IsFault text f → ⊥
  pub fault : (text : List ℕ) (f g : Fault) → IsFault text f → IsFault text g → f ≡ g
