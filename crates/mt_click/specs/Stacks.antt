-- The uses that are being walked, as the code keeps them.
use Rattle.std.specs.Prelude.{ℕ, List, [], ◌∷◌, drop, map}
use Rattle.mt_click.specs.declared.perform.WalkInput.{WalkInput}
use Rattle.mt_click.specs.declared.perform.Activation.{Activation}
use Rattle.mt_syntax.specs.declared.replacing.Binding.{Binding}
use Rattle.mt_click.specs.declared.action.Action.{Action}
use Rattle.mt_click.specs.declared.action.Built.{Built}
use Rattle.mt_click.specs.Elements.{Context, State}

-- the body of each class
abbrev pub bodies : WalkInput → List (List Action)
bodies s = map (λ at. drop at s.actions.now) s.classes.now

-- the numbers of the enclosing uses
abbrev pub numbers : List Activation → List ℕ
numbers activations = map (λ f. f.number) activations

-- what the parameters stand for in the innermost
abbrev pub top_bindings : List Activation → List Binding
top_bindings [] = []
top_bindings (f ∷ []) = f.bindings.items
top_bindings (f ∷ g ∷ fs) = top_bindings (g ∷ fs)

-- the number of the innermost, which is 0 outside classes
abbrev pub top_enclosing : List Activation → ℕ
top_enclosing [] = 0
top_enclosing (f ∷ []) = f.enclosing
top_enclosing (f ∷ g ∷ fs) = top_enclosing (g ∷ fs)

-- what is there
abbrev pub state : Built → State
state b = record { elements = b.elements.items; created = b.created.items; connected = b.connected.items }

-- where the walk is
abbrev pub context_of : List Activation → Context
context_of activations = record { numbers = numbers activations; bindings = top_bindings activations; enclosing = top_enclosing activations }
