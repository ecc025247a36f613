-- The actions of the walk over a configuration, in its order: what each phrase does or has at fault, each
-- name told as what it stands for.
use Rattle.std.specs.Prelude.{ℕ, List, [], ◌∷◌, ◌++◌, length, slice_get, codes, Option, Some, None, is_some, option_and_then, Bool, true, false, ◌&&◌, ◌||◌, not, nat_lt, if◌then◌else◌}
use Rattle.std.specs.Str.{bytes_eq}
use Rattle.mt_syntax.specs.declared.fault.ClickWhy.TheVariants as whys
use Rattle.mt_syntax.specs.declared.fault.ClickWhy.{ClickWhy}
use Rattle.mt_syntax.specs.declared.fault.Fault.{Fault}
use Rattle.mt_syntax.specs.declared.word.Word.{Word}
use Rattle.mt_syntax.specs.declared.phrase.Use.{Use}
use Rattle.mt_syntax.specs.declared.phrase.PortNumber.{PortNumber}
use Rattle.mt_syntax.specs.declared.phrase.Endpoint.{Endpoint}
use Rattle.mt_syntax.specs.declared.phrase.Item.{Item}
use Rattle.mt_syntax.specs.declared.phrase.Item.TheVariants as items
use Rattle.mt_syntax.specs.declared.phrase.Phrase.{Phrase}
use Rattle.mt_syntax.specs.declared.phrase.Phrase.TheVariants as phrases
use Rattle.mt_click.specs.declared.symbols.Scope.{Scope}
use Rattle.mt_click.specs.declared.symbols.Entry.{Entry}
use Rattle.mt_click.specs.declared.action.Action.{Action}
use Rattle.mt_click.specs.declared.action.Side.{Side}
use Rattle.mt_click.specs.declared.action.Side.TheVariants as sides
use Rattle.mt_click.specs.declared.action.Action.TheVariants as actions
use Rattle.mt_click.specs.Scopes.{behind, scope_number, outside}
use Rattle.mt_syntax.specs.Words.{bytes_of}
use Rattle.mt_click.specs.Elements.{own_offset}
use Rattle.mt_click.specs.Names.{Names, names_in, first_entry, class_of, waiting_behind, number_of, is_followed}

abbrev pub wrong : ClickWhy → ℕ → Fault
wrong why at = record { why = why; at = at }

-- `input` and `output` in a body
unfoldable pub is_pseudo : Scope → List ℕ → Bool
is_pseudo s name = s.inside && (bytes_eq name (codes "input") || bytes_eq name (codes "output"))

-- where the scope's first declaration of a name stands among the names
unfoldable pub declared_index : Names → Scope → List ℕ → Option ℕ
declared_index names s name = first_entry names.text names.names (scope_number s) 0 name

-- what a name alone stands for that is neither `input` nor `output`: an element declared in its scope,
-- with the class that it is a use of
abbrev pub class_at : List Entry → Option ℕ → Option ℕ
class_at entries None = None
class_at entries (Some k) = option_and_then (λ e. e.class) (slice_get entries k)

-- a class, with the bytes of its name
unfoldable pub class_named : Names → Scope → Word → Option ℕ
class_named names s w = class_of names.text names.classes s (bytes_of names.text w)

-- a name alone that is no name of its scope makes a new element or use
unfoldable pub is_new : Names → Scope → Word → Bool
is_new names s w = not (is_pseudo s (bytes_of names.text w)) && not (is_some (declared_index names s (bytes_of names.text w)))

-- the class of what an item stands for, where it is a use of one
unfoldable pub class_of_name : Names → Scope → Word → Option ℕ
class_of_name names s w =
    if is_pseudo s (bytes_of names.text w) then None
    else elim (declared_index names s (bytes_of names.text w)) [ None ↦ class_named names s w | Some k ↦ class_at names.names (Some k) ]

unfoldable pub class_of_item : Names → Scope → Item → Option ℕ
class_of_item names s (items.Declared w u) = class_named names s u.class
class_of_item names s (items.Made u) = class_named names s u.class
class_of_item names s (items.Name w) = class_of_name names s w

-- A name that is declared: it may not be `input` or `output` in a body, nor stand in its scope before.
abbrev pub is_before : List Entry → ℕ → Option ℕ → Bool
is_before entries at None = false
is_before entries at (Some k) = elim (slice_get entries k) [ None ↦ false | Some e ↦ nat_lt e.word.from at ]

unfoldable pub is_redeclared : Names → Scope → Word → Bool
is_redeclared names s w = is_pseudo s (bytes_of names.text w) || is_before names.names w.from (declared_index names s (bytes_of names.text w))

unfoldable pub naming : Names → Scope → Word → List Action
naming names s w = if is_redeclared names s w then actions.Name (wrong whys.Redeclared w.from) ∷ [] else []

-- A class may not use itself.
abbrev pub is_word : List ℕ → List ℕ → Option Entry → Bool
is_word text name None = false
is_word text name (Some e) = bytes_eq (bytes_of text e.word) name

unfoldable pub is_own : Names → Scope → Word → Bool
is_own names s w = s.inside && is_word names.text (bytes_of names.text w) (slice_get names.classes s.class_count)

unfoldable pub using : Names → Scope → Word → List Action
using names s w = if is_own names s w then actions.Name (wrong whys.Recursive w.from) ∷ [] else []

-- A use of a class has as many arguments as the class has parameters.
abbrev pub counting_of : Use → Option ℕ → List Action
counting_of u None = []
counting_of u (Some k) = actions.Count k u ∷ []

unfoldable pub counting : Names → Scope → Use → List Action
counting names s u = counting_of u (class_named names s u.class)

-- an element or a use of a class comes
abbrev pub making_of : Option Word → Use → Option ℕ → Action
making_of name u None = actions.Element name u
making_of name u (Some k) = actions.Enter k u (own_offset name u)

unfoldable pub making : Names → Scope → Option Word → Use → List Action
making names s name u = making_of name u (class_named names s u.class) ∷ []

-- A connection leads to a port that the body of the class names.
unfoldable pub reaching : Names → Option ℕ → List ℕ → ℕ → ℕ → List Action
reaching names None side number at = []
reaching names (Some k) side number at = if is_some (first_entry names.text names.ports k number side) then [] else actions.MissingPort (wrong whys.NoPort at) ∷ []

-- a port that is written out
unfoldable pub written : Names → Option ℕ → List ℕ → Option PortNumber → List Action
written names class side None = []
written names class side (Some p) = reaching names class side p.number p.at

abbrev pub first_offset : Item → ℕ
first_offset (items.Name w) = w.from
first_offset (items.Declared w u) = w.from
first_offset (items.Made u) = u.class.from

-- a port that is left out is 0
unfoldable pub left_out : Names → Option ℕ → List ℕ → Bool → Option PortNumber → ℕ → List Action
left_out names class side followed port at = if followed && not (is_some port) then reaching names class side 0 at else []

unfoldable pub leaving_out : Names → Option ℕ → Bool → Bool → Endpoint → List Action
leaving_out names class next followed e =
    left_out names class (codes "input") next e.input (first_offset e.item) ++ left_out names class (codes "output") followed e.output (first_offset e.item)

-- What an item does: a name is declared, the ports that are left out, and the use. A class name stands
-- before its ports where it is the item's first word.
abbrev pub alone : Word → Use
alone w = record { class = w; arguments = None }

unfoldable pub unnamed : Names → Scope → Option ℕ → Bool → Bool → Endpoint → Use → List Action
unnamed names s class next followed e u = using names s u.class ++ (counting names s u ++ (leaving_out names class next followed e ++ making names s None u))

unfoldable pub named : Names → Scope → Option ℕ → Bool → Bool → Endpoint → Word → Use → List Action
named names s class next followed e w u = naming names s w ++ (leaving_out names class next followed e ++ (using names s u.class ++ (counting names s u ++ making names s (Some w) u)))

unfoldable pub item_actions : Names → Scope → Option ℕ → Bool → Bool → Endpoint → Item → List Action
item_actions names s class next followed e (items.Declared w u) = named names s class next followed e w u
item_actions names s class next followed e (items.Made u) = unnamed names s class next followed e u
item_actions names s class next followed e (items.Name w) = if is_new names s w then unnamed names s class next followed e (alone w) else leaving_out names class next followed e

unfoldable pub whole_endpoint : Names → Scope → Option ℕ → Bool → Bool → Endpoint → List Action
whole_endpoint names s class next followed e = written names class (codes "input") e.input ++ (item_actions names s class next followed e e.item ++ written names class (codes "output") e.output)

unfoldable pub endpoint_actions : Names → Scope → Bool → Bool → Endpoint → List Action
endpoint_actions names s next followed e = whole_endpoint names s (class_of_item names s e.item) next followed e

-- where what a name stands for is created
abbrev pub offset_at : List Entry → ℕ → Option ℕ → ℕ
offset_at entries at None = at
offset_at entries at (Some k) = elim (slice_get entries k) [ None ↦ at | Some e ↦ e.word.from ]

-- An end of a connection: in a body `input` is the border where it begins, `output` where it ends, and
-- neither is an end elsewhere.
unfoldable pub name_side : Names → Scope → List ℕ → ℕ → Word → Option Side
name_side names s border port w =
    if is_pseudo s (bytes_of names.text w) then (if bytes_eq (bytes_of names.text w) border then Some (sides.Border port) else None)
    else Some (sides.Created (offset_at names.names w.from (declared_index names s (bytes_of names.text w))) port)

unfoldable pub item_side : Names → Scope → List ℕ → ℕ → Item → Option Side
item_side names s border port (items.Declared w u) = Some (sides.Created w.from port)
item_side names s border port (items.Made u) = Some (sides.Created u.class.from port)
item_side names s border port (items.Name w) = name_side names s border port w

-- what a connection leaves at an end, with the end's output port, and what it comes to, with the input port
unfoldable pub source : Names → Scope → Endpoint → Option Side
source names s e = item_side names s (codes "input") (number_of e.output) e.item

unfoldable pub sink : Names → Scope → Endpoint → Option Side
sink names s e = item_side names s (codes "output") (number_of e.input) e.item

-- what a connection leaves that stands behind a phrase
unfoldable pub side_behind : Names → Scope → Phrase → Option Side
side_behind names s (phrases.First e) = source names s e
side_behind names s (phrases.Next arrow e) = source names s e
side_behind names s _ = None

-- a connection connects two ends
abbrev pub connecting : ℕ → Option Side → Option Side → List Action
connecting arrow (Some a) (Some b) = actions.Connect arrow a b ∷ []
connecting arrow _ _ = []

-- The names before one `::`: the elements of all of them have room, where they are elements.
unfoldable pub rooming : Names → Scope → Use → List Word → List Action
rooming names s u ws = if is_some (class_named names s u.class) then [] else actions.Room (length ws) u ∷ []

-- the elements before one `::`, in their order
unfoldable pub group_actions : Names → Scope → Use → List Word → List Action
group_actions names s u [] = []
group_actions names s u (w ∷ ws) = counting names s u ++ (making names s (Some w) u ++ group_actions names s u ws)

-- A class that was declared before may not be declared again.
unfoldable pub class_actions : Names → Scope → Word → List Action
class_actions names s w = if is_some (class_named names s w) then actions.Name (wrong whys.Redeclared w.from) ∷ actions.Class ∷ [] else actions.Class ∷ []

unfoldable pub phrase_actions : Names → Scope → List Word → Option Side → Bool → Phrase → List Action
phrase_actions names s ws before followed (phrases.Class w) = class_actions names s w
phrase_actions names s ws before followed (phrases.Parameter w) = actions.Parameter w ∷ []
phrase_actions names s ws before followed phrases.Close = actions.Close ∷ []
phrase_actions names s ws before followed (phrases.Declared w) = naming names s w
phrase_actions names s ws before followed (phrases.Made u) = using names s u.class ++ (rooming names s u ws ++ group_actions names s u ws)
phrase_actions names s ws before followed (phrases.First e) = endpoint_actions names s false followed e
phrase_actions names s ws before followed (phrases.Next arrow e) = endpoint_actions names s true followed e ++ connecting arrow before (sink names s e)

unfoldable pub actions_from : Names → Scope → List Word → Option Side → List Phrase → List Action
actions_from names s ws before [] = []
actions_from names s ws before (p ∷ ps) = phrase_actions names s ws before (is_followed ps) p ++ actions_from names (behind s p) (waiting_behind ws p) (side_behind names s p) ps

abbrev pub actions_in : List ℕ → List Phrase → List Action
actions_in text ps = actions_from (names_in text ps) outside [] None ps
