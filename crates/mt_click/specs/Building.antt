-- What a text builds, as it is walked: its graph, or the first fault.
use Rattle.std.specs.Prelude.{◌≡◌, ◌⊎◌, ℕ, List, Result, Ok, Err}
use Rattle.mt_syntax.specs.declared.fault.Fault.{Fault}
use Rattle.mt_syntax.specs.declared.fault.ClickFault.{ClickFault}
use Rattle.mt_syntax.specs.declared.fault.ReadError.{ReadError}
use Rattle.mt_syntax.specs.declared.fault.ReadError.TheVariants as errors
use Rattle.mt_syntax.specs.Position.{no_memory, located}
use Rattle.mt_syntax.specs.Reading.{◌>>=◌, phrases_in}
use Rattle.mt_graph.specs.declared.Graph.{Graph}
use Rattle.mt_click.specs.Elements.{State}
use Rattle.mt_click.specs.Connections.{connections_in}
use Rattle.mt_click.specs.Actions.{actions_in}
use Rattle.mt_click.specs.Walk.{Walked, walked}
use Rattle.mt_click.specs.Wires.{AreWires}

-- Faults of reading come first, and then the first that the walk meets.
abbrev pub built_in : List ℕ → Walked
built_in text = phrases_in text >>= λ ps. walked text (actions_in text ps)

-- The walk over the text comes to its end; its elements are the graph's, and the wires of its connections.
pub record IsWalked (text : List ℕ) (g : Graph) : Type 0 where
  pub state : State
  pub walk : built_in text ≡ Ok state
  pub elements : g.elements.items ≡ state.elements
  pub wires : AreWires text (connections_in state) g.wires.items

-- what a function returned, unless memory ran out
abbrev pub Walks : List ℕ → Result Graph ReadError → Type 0
Walks text (Ok g) = IsWalked text g
Walks text (Err errors.Memory) = Unit {0}
Walks text (Err (errors.Fault f)) = built_in text ≡ Err f

-- the same with line and column
abbrev pub Finds : List ℕ → Result Graph ClickFault → Type 0
Finds text (Ok g) = IsWalked text g
Finds text (Err e) = (e ≡ no_memory) ⊎ ((f : Fault) × (built_in text ≡ Err f) × (e ≡ located text f))
