-- Elements with their arguments, and what is created of a configuration so far.
use Rattle.std.specs.Prelude.{ℕ, ◌+◌, List, [], ◌∷◌, ◌++◌, length, Option, Some, None}
use Rattle.std.specs.List.{flat_map}
use Rattle.std.specs.Fmt.{decimal}
use Rattle.mt_syntax.specs.declared.word.Word.{Word}
use Rattle.mt_syntax.specs.declared.phrase.Use.{Use}
use Rattle.mt_syntax.specs.declared.replacing.Binding.{Binding}
use Rattle.mt_graph.specs.declared.Element.{Element}
use Rattle.mt_click.specs.declared.action.Created.{Created}
use Rattle.mt_click.specs.declared.action.Connected.{Connected}
use Rattle.mt_click.specs.declared.action.CreatedItem.TheVariants as created_items
use Rattle.mt_click.specs.declared.action.Side.{Side}
use Rattle.mt_syntax.specs.Arguments.{shown, separated}
use Rattle.mt_syntax.specs.Replacing.{replaced_in}
use Rattle.mt_syntax.specs.Position.{line_of}
use Rattle.mt_syntax.specs.Words.{bytes_of, inner}

-- The arguments of a use in a body: each parameter is replaced by its argument, and what comes of it is
-- separated.
unfoldable pub arguments_in : List ℕ → List Binding → Use → List (List ℕ)
arguments_in text bindings u = separated (replaced_in bindings (shown (inner text u.arguments)))

-- where what a use makes is declared: at its name, or else at its class
abbrev pub own_offset : Option Word → Use → ℕ
own_offset None u = u.class.from
own_offset (Some w) u = w.from

-- The name of an element: for each use that encloses it the number of that use's first element and `/`, then
-- its own.
abbrev pub scope_text : List ℕ → List ℕ
scope_text numbers = flat_map (λ n. decimal n ++ 47 ∷ []) numbers

abbrev pub own_name : List ℕ → Option Word → List ℕ
own_name text None = []
own_name text (Some w) = bytes_of text w

unfoldable pub element_of : List ℕ → List ℕ → List Binding → Option Word → Use → Element
element_of text numbers bindings name u = record {
  class = bytes_of text u.class;
  args = arguments_in text bindings u;
  name = scope_text numbers ++ own_name text name;
  line = line_of text (own_offset name u);
}

-- Where a walk is: the uses that enclose it, each as the number of its first element, what the parameters
-- of the class stand for, and the number of the innermost use, which is 0 outside classes.
pub record Context : Type 0 where
  pub numbers : List ℕ
  pub bindings : List Binding
  pub enclosing : ℕ

-- What is there: the elements, what is created in each use and where, and the connections of each use.
pub record State : Type 0 where
  pub elements : List Element
  pub created : List Created
  pub connected : List Connected

abbrev pub empty : State
empty = record { elements = []; created = []; connected = [] }

abbrev pub with_element : List ℕ → Context → State → Option Word → Use → State
with_element text p s name u = record {
  elements = s.elements ++ element_of text p.numbers p.bindings name u ∷ [];
  created = s.created ++ record { enclosing = p.enclosing; offset = own_offset name u; item = created_items.Element (length s.elements) } ∷ [];
  connected = s.connected;
}

-- a use of a class has the number of what was made before it, from 1 on
abbrev pub with_use : Context → State → ℕ → State
with_use p s offset = record { elements = s.elements; created = s.created ++ record { enclosing = p.enclosing; offset = offset; item = created_items.Use (length s.created + 1) } ∷ []; connected = s.connected }

abbrev pub with_connection : Context → State → ℕ → Side → Side → State
with_connection p s arrow from to = record { elements = s.elements; created = s.created; connected = s.connected ++ record { enclosing = p.enclosing; arrow = arrow; from = from; to = to } ∷ [] }

abbrev pub top : Context
top = record { numbers = []; bindings = []; enclosing = 0 }
