-- The walk over the actions of a configuration: its elements, or the first fault that the walk meets.
use Rattle.std.specs.Prelude.{ℕ, zero, suc, ◌+◌, List, [], ◌∷◌, ◌++◌, length, drop, get_or, Option, Some, None, Result, Ok, Err, Bool, true, false, ◌==◌, nat_le, nat_lt, if◌then◌else◌}
use Rattle.std.specs.List.{prefix_len}
use Rattle.mt_syntax.specs.declared.fault.ClickWhy.TheVariants as whys
use Rattle.mt_syntax.specs.declared.fault.Fault.{Fault}
use Rattle.mt_syntax.specs.declared.word.Word.{Word}
use Rattle.mt_syntax.specs.declared.phrase.Use.{Use}
use Rattle.mt_syntax.specs.declared.replacing.Binding.{Binding}
use Rattle.mt_click.specs.declared.action.Action.{Action}
use Rattle.mt_click.specs.declared.perform.PendingUse.{PendingUse}
use Rattle.mt_click.specs.declared.action.Action.TheVariants as actions
use Rattle.mt_syntax.specs.Comment.{bare}
use Rattle.mt_syntax.specs.Arguments.{shown, shown_index}
use Rattle.mt_syntax.specs.Replacing.{unknown_in}
use Rattle.mt_syntax.specs.Reading.{◌>>=◌}
use Rattle.mt_syntax.specs.Words.{bytes_of, inner}
use Rattle.mt_click.specs.Elements.{arguments_in, Context, State, empty, top, with_element, with_use, with_connection}
use Rattle.mt_click.specs.Actions.{wrong}

-- a `$` name that is no parameter
abbrev pub unknown_offset : Option Word → List ℕ → ℕ → ℕ
unknown_offset None text n = 0
unknown_offset (Some w) text n = w.from + 1 + shown_index (bare text) n

unfoldable pub known_names : List ℕ → List Binding → Use → Result Bool Fault
known_names text bindings u =
    elim (unknown_in bindings (shown (inner text u.arguments))) [
      | None ↦ Ok true
      | Some n ↦ Err (wrong whys.UnknownName (unknown_offset u.arguments (inner text u.arguments) n))
    ]

-- what is there behind an action, and the use that is walked there
abbrev pub Moved : Type 0
Moved = State × Option PendingUse

-- the parameters of a class stand in front of its body
abbrev pub is_parameter_action : Action → Bool
is_parameter_action (actions.Parameter w) = true
is_parameter_action _ = false

abbrev pub body_of : List (List Action) → ℕ → List Action
body_of bodies k = get_or bodies k []

abbrev pub parameters : List (List Action) → ℕ → ℕ
parameters bodies k = prefix_len is_parameter_action (body_of bodies k)

unfoldable pub counted : List ℕ → List (List Action) → List Binding → ℕ → Use → Result Bool Fault
counted text bodies bindings k u = if length (arguments_in text bindings u) == parameters bodies k then Ok true else Err (wrong whys.Arity u.class.from)

-- at most 512 elements
unfoldable pub element_moved : List ℕ → Context → State → Option Word → Use → Result Moved Fault
element_moved text p es name u = if nat_lt (length es.elements) 512 then (known_names text p.bindings u >>= λ _. Ok (with_element text p es name u, None))
    else Err (wrong whys.TooManyElements u.class.from)

-- so many more
unfoldable pub roomed : State → ℕ → Use → Result Moved Fault
roomed es n u = if nat_le (length es.elements + n) 512 then Ok (es, None) else Err (wrong whys.TooManyElements u.class.from)

unfoldable pub entered : List ℕ → Context → State → ℕ → Use → ℕ → Result Moved Fault
entered text p es k u offset = known_names text p.bindings u >>= λ _. Ok (with_use p es offset, Some (record { class = k; number = length es.elements; enclosing = length es.created + 1; arguments = arguments_in text p.bindings u }))

-- An action outside classes, or in the body of a class at a use of it.
unfoldable pub moved : List ℕ → List (List Action) → Context → State → Action → Result Moved Fault
moved text bodies p es (actions.MissingPort f) = Err f
moved text bodies p es (actions.Count k u) = counted text bodies p.bindings k u >>= λ _. Ok (es, None)
moved text bodies p es (actions.Room n u) = roomed es n u
moved text bodies p es (actions.Element name u) = element_moved text p es name u
moved text bodies p es (actions.Enter k u offset) = entered text p es k u offset
moved text bodies p es (actions.Connect arrow from to) = Ok (with_connection p es arrow from to, None)
moved text bodies p es _ = Ok (es, None)

-- what the parameters stand for
abbrev pub bound : List ℕ → List Action → List (List ℕ) → List Binding
bound text (actions.Parameter w ∷ ms) (a ∷ arguments) = record { name = drop 1 (bytes_of text w); argument = a } ∷ bound text ms arguments
bound text _ _ = []

abbrev pub context_in : List ℕ → List (List Action) → Context → PendingUse → Context
context_in text bodies p e = record { numbers = p.numbers ++ e.number ∷ []; bindings = bound text (body_of bodies e.class) e.arguments; enclosing = e.enclosing }

abbrev pub Walked : Type 0
Walked = Result State Fault

-- a use of a class is walked where one comes
abbrev pub entering : (Context → PendingUse → State → Walked) → Context → Moved → Walked
entering enter p (es, None) = Ok es
entering enter p (es, Some e) = enter p e es

-- the walk over a body, up to its end
unfoldable pub walk : List ℕ → List (List Action) → (Context → PendingUse → State → Walked) → Context → List Action → State → Walked
walk text bodies enter p [] es = Ok es
walk text bodies enter p (m ∷ ms) es = elim m as (λ _. Walked) [
  | actions.Close ↦ Ok es
  | _ ↦ moved text bodies p es m >>= λ r. entering enter p r >>= λ more. walk text bodies enter p ms more
]

-- The use of a class. The body of the class of a number uses classes of smaller numbers only, which are
-- those declared before it.
unfoldable pub enter : List ℕ → List (List Action) → ℕ → Context → PendingUse → State → Walked
enter text bodies zero p e es = Ok es
enter text bodies (suc n) p e es =
    if e.class == n then walk text bodies (enter text bodies n) (context_in text bodies p e) (body_of bodies n) es else enter text bodies n p e es

-- where each class's body begins
abbrev pub bodies_in : List Action → List (List Action)
bodies_in [] = []
bodies_in (actions.Class ∷ ms) = ms ∷ bodies_in ms
bodies_in (_ ∷ ms) = bodies_in ms

-- The walk over the whole: at the declaration of a class only names at fault are told in its body.
-- `class_count` classes begin before.
unfoldable pub walk_all : List ℕ → List (List Action) → ℕ → Bool → List Action → State → Walked
walk_all text bodies class_count inside [] es = Ok es
walk_all text bodies class_count inside (actions.Class ∷ ms) es = walk_all text bodies (class_count + 1) true ms es
walk_all text bodies class_count inside (actions.Close ∷ ms) es = walk_all text bodies class_count false ms es
walk_all text bodies class_count inside (actions.Name f ∷ ms) es = Err f
walk_all text bodies class_count inside (m ∷ ms) es =
    if inside then walk_all text bodies class_count true ms es
    else moved text bodies top es m >>= λ r. entering (enter text bodies class_count) top r >>= λ more. walk_all text bodies class_count false ms more

-- what a configuration of these actions builds
abbrev pub walked : List ℕ → List Action → Walked
walked text ms = walk_all text (bodies_in ms) 0 false ms empty
