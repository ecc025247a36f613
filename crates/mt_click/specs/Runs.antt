-- What is left of the walk while uses of classes are being walked, the innermost of which is the last.
use Rattle.std.specs.Prelude.{◌≡◌, ℕ, zero, suc, ◌+◌, List, [], ◌∷◌, ◌++◌, reverse, drop, Option, Some, None, Result, Ok, Err, Bool, true, false, ◌==◌, if◌then◌else◌}
use Rattle.mt_syntax.specs.declared.fault.ReadError.{ReadError}
use Rattle.mt_syntax.specs.declared.fault.ReadError.TheVariants as errors
use Rattle.mt_click.specs.declared.action.Action.{Action}
use Rattle.mt_click.specs.declared.action.Action.TheVariants as actions
use Rattle.mt_click.specs.declared.perform.WalkInput.{WalkInput}
use Rattle.mt_click.specs.declared.perform.Activation.{Activation}
use Rattle.mt_click.specs.declared.perform.PendingUse.{PendingUse}
use Rattle.mt_syntax.specs.Reading.{◌>>=◌}
use Rattle.mt_click.specs.Elements.{Context, State, top}
use Rattle.mt_click.specs.Walk.{Walked, walk, enter, entering, moved, body_of}
use Rattle.mt_click.specs.Stacks.{bodies, numbers, context_of}

-- where the walk is in a use, with the uses that enclose it from the inside out
abbrev pub context_at : Activation → List Activation → Context
context_at f outer = record { numbers = numbers (reverse outer) ++ f.number ∷ []; bindings = f.bindings.items; enclosing = f.enclosing }

-- what is left of the walk over one use
abbrev pub finish : WalkInput → Activation → List Activation → State → Walked
finish s f outer es = walk s.text.now (bodies s) (enter s.text.now (bodies s) f.class_count) (context_at f outer) (drop f.at s.actions.now) es

-- and over all that enclose it
unfoldable pub run : WalkInput → List Activation → State → Walked
run s [] es = Ok es
run s (f ∷ outer) es = finish s f outer es >>= run s outer

unfoldable pub run_all : WalkInput → List Activation → State → Walked
run_all s activations es = run s (reverse activations) es

-- the use that comes next, and then all that is left
abbrev pub used : WalkInput → ℕ → List Activation → Option PendingUse → State → Walked
used s class_count activations e es = entering (enter s.text.now (bodies s) class_count) (context_of activations) (es, e) >>= run_all s activations

-- an action outside classes, and the use that it makes
abbrev pub moved_on : WalkInput → ℕ → State → Action → Walked
moved_on s class_count es m = moved s.text.now (bodies s) top es m >>= entering (enter s.text.now (bodies s) class_count) top

-- the end of a body
abbrev pub is_done : List Action → Bool
is_done [] = true
is_done (actions.Close ∷ ms) = true
is_done _ = false

-- How many actions are still walked over.
unfoldable pub walk_cost : (ℕ → ℕ) → List Action → ℕ
walk_cost inner [] = 1
walk_cost inner (m ∷ ms) = elim m [ actions.Close ↦ 1 | actions.Enter k u offset ↦ 1 + (inner k + walk_cost inner ms) | _ ↦ 1 + walk_cost inner ms ]

unfoldable pub enter_cost : List (List Action) → ℕ → ℕ → ℕ
enter_cost all zero k = 0
enter_cost all (suc n) k = if k == n then walk_cost (enter_cost all n) (body_of all n) else enter_cost all n k

abbrev pub activation_cost : WalkInput → Activation → ℕ
activation_cost s f = walk_cost (enter_cost (bodies s) f.class_count) (drop f.at s.actions.now)

unfoldable pub cost_all : WalkInput → List Activation → ℕ
cost_all s [] = 0
cost_all s (f ∷ fs) = activation_cost s f + cost_all s fs

abbrev pub use_cost : WalkInput → ℕ → Option PendingUse → ℕ
use_cost s class_count None = 0
use_cost s class_count (Some e) = enter_cost (bodies s) class_count e.class

-- a step of the walk leaves what it gives
abbrev pub Continues : {X : Type 0} → Result X ReadError → Walked → Walked → Type 0
Continues (Ok x) old new = old ≡ new
Continues (Err errors.Memory) old new = Unit {0}
Continues (Err (errors.Fault f)) old new = old ≡ Err f
