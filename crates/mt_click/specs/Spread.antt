-- The actions of a configuration as its trees tell them.
use Rattle.std.specs.Prelude.{ℕ, suc, List, [], ◌∷◌, ◌++◌, length, Option, Some, None, is_some, Bool, true, false, ◌&&◌, ◌||◌, not, nat_eq, if◌then◌else◌}
use Rattle.std.specs.Str.{bytes_eq}
use Rattle.std.specs.Option.{option_map}
use Rattle.mt_syntax.specs.declared.fault.ClickWhy.TheVariants as whys
use Rattle.mt_syntax.specs.declared.word.Word.{Word}
use Rattle.mt_syntax.specs.declared.phrase.Use.{Use}
use Rattle.mt_syntax.specs.declared.token.Token.{Token}
use Rattle.mt_syntax.specs.Reading.{word}
use Rattle.mt_syntax.specs.Grammar.{UseTree, use_of, PortTree, ItemTree, alone, named, made, EndpointTree, StatementTree, connect, declare, InnerTree, sign, plain, ClassTree, OuterTree, outer, class}
use Rattle.mt_click.specs.declared.action.Action.{Action}
use Rattle.mt_click.specs.declared.action.Action.TheVariants as actions
use Rattle.mt_click.specs.declared.action.Side.{Side}
use Rattle.mt_click.specs.Elements.{own_offset}
use Rattle.mt_click.specs.Actions.{wrong}
use Rattle.mt_click.specs.Declarations.{spelling, class_under, Declaration, declaration, declared_under, declared_item, declared_statement, declared_outside, parameters_of, inputs_of, outputs_of}
use Rattle.mt_click.specs.Acts.{Sight, body_sight, is_border, class_meant, name_meant, bare_use, item_class, side_left, side_reached, has_next}

-- a class by its number
abbrev pub Found : Type 0
Found = Option (ClassTree × List ClassTree)

abbrev pub number : Found → Option ℕ
number o = option_map (λ x. length x.1) o

-- A name that is declared, behind some declarations of its scope.
unfoldable pub naming_of : Sight → List Declaration → Token → List Action
naming_of s earlier t = if is_border s t || is_some (declared_under s.text earlier (spelling s.text t)) then actions.Name (wrong whys.Redeclared t.from) ∷ [] else []

-- a class does not use itself
abbrev pub is_own_name : List ℕ → List ℕ → Option ClassTree → Bool
is_own_name text name None = false
is_own_name text name (Some c) = bytes_eq (spelling text c.name) name

unfoldable pub using_of : Sight → Token → List Action
using_of s t = if is_own_name s.text (spelling s.text t) s.own then actions.Name (wrong whys.Recursive t.from) ∷ [] else []

abbrev pub counting_at : Use → Found → List Action
counting_at u None = []
counting_at u (Some x) = actions.Count (length x.1) u ∷ []

unfoldable pub counting_of : Sight → UseTree → List Action
counting_of s u = counting_at (use_of u) (class_meant s u.class)

abbrev pub making_at : Option Word → Use → Found → Action
making_at name u None = actions.Element name u
making_at name u (Some x) = actions.Enter (length x.1) u (own_offset name u)

unfoldable pub making_of : Sight → Option Word → UseTree → List Action
making_of s name u = making_at name (use_of u) (class_meant s u.class) ∷ []

-- a number stands among some
unfoldable pub is_in : ℕ → List ℕ → Bool
is_in n [] = false
is_in n (m ∷ ms) = nat_eq n m || is_in n ms

-- a connection leads to a port that the body names
unfoldable pub reaching_of : (ClassTree → List ℕ) → Found → ℕ → ℕ → List Action
reaching_of ports None n at = []
reaching_of ports (Some x) n at = if is_in n (ports x.0) then [] else actions.MissingPort (wrong whys.NoPort at) ∷ []

unfoldable pub written_of : (ClassTree → List ℕ) → Found → Option PortTree → List Action
written_of ports found None = []
written_of ports found (Some p) = reaching_of ports found p.value p.left.from

unfoldable pub left_out_of : (ClassTree → List ℕ) → Found → Bool → Option PortTree → ℕ → List Action
left_out_of ports found followed port at = if followed && not (is_some port) then reaching_of ports found 0 at else []

abbrev pub first_of : ItemTree → ℕ
first_of (alone t) = t.from
first_of (named t colons u) = t.from
first_of (made t a) = t.from

unfoldable pub leaving_out_of : Sight → Found → Bool → Bool → EndpointTree → List Action
leaving_out_of s found before behind e =
    left_out_of (inputs_of s.text) found before e.input (first_of e.item) ++ left_out_of (outputs_of s.text) found behind e.output (first_of e.item)

unfoldable pub unnamed_of : Sight → Found → Bool → Bool → EndpointTree → UseTree → List Action
unnamed_of s found before behind e u = using_of s u.class ++ (counting_of s u ++ (leaving_out_of s found before behind e ++ making_of s None u))

unfoldable pub named_of : Sight → List Declaration → Found → Bool → Bool → EndpointTree → Token → UseTree → List Action
named_of s earlier found before behind e t u =
    naming_of s earlier t ++ (leaving_out_of s found before behind e ++ (using_of s u.class ++ (counting_of s u ++ making_of s (Some (word t)) u)))

unfoldable pub item_of_end : Sight → List Declaration → Found → Bool → Bool → EndpointTree → ItemTree → List Action
item_of_end s earlier found before behind e (named t colons u) = named_of s earlier found before behind e t u
item_of_end s earlier found before behind e (made t a) = unnamed_of s found before behind e (record { class = t; arguments = Some a })
item_of_end s earlier found before behind e (alone t) =
    if not (is_border s t) && not (is_some (name_meant s t)) then unnamed_of s found before behind e (bare_use t)
    else leaving_out_of s found before behind e

unfoldable pub whole_of : Sight → List Declaration → Found → Bool → Bool → EndpointTree → List Action
whole_of s earlier found before behind e =
    written_of (inputs_of s.text) found e.input ++ (item_of_end s earlier found before behind e e.item ++ written_of (outputs_of s.text) found e.output)

unfoldable pub actions_of_endpoint : Sight → List Declaration → Bool → Bool → EndpointTree → List Action
actions_of_endpoint s earlier before behind e = whole_of s earlier (item_class s e.item) before behind e

abbrev pub connecting_of : ℕ → Option Side → Option Side → List Action
connecting_of arrow (Some a) (Some b) = actions.Connect arrow a b ∷ []
connecting_of arrow _ _ = []

-- the further ends of a connection, behind one; `earlier` is what the scope declares up to there
unfoldable pub actions_of_next : Sight → List Declaration → EndpointTree → List (Token × EndpointTree) → List Action
actions_of_next s earlier e [] = []
actions_of_next s earlier e (next ∷ more) =
    actions_of_endpoint s earlier true (has_next more) next.1 ++ (connecting_of next.0.from (side_left s e) (side_reached s next.1) ++ actions_of_next s (earlier ++ declared_item s.classes next.1.item) next.1 more)

-- the names before one `::`: first each is declared, then they are created
unfoldable pub names_of_group : Sight → List Declaration → UseTree → List (Token × Token) → List Action
names_of_group s earlier u [] = []
names_of_group s earlier u (next ∷ more) = naming_of s earlier next.1 ++ names_of_group s (earlier ++ declaration s.classes u next.1 ∷ []) u more

unfoldable pub making_of_group : Sight → UseTree → List (Token × Token) → List Action
making_of_group s u [] = []
making_of_group s u (next ∷ more) = counting_of s u ++ (making_of s (Some (word next.1)) u ++ making_of_group s u more)

abbrev pub rooming_at : ℕ → Use → Found → List Action
rooming_at n u None = actions.Room n u ∷ []
rooming_at n u (Some x) = []

unfoldable pub rooming_of : Sight → UseTree → List (Token × Token) → List Action
rooming_of s u more = rooming_at (suc (length more)) (use_of u) (class_meant s u.class)

unfoldable pub actions_of_statement : Sight → List Declaration → StatementTree → List Action
actions_of_statement s earlier (connect e more) = actions_of_endpoint s earlier false (has_next more) e ++ actions_of_next s (earlier ++ declared_item s.classes e.item) e more
actions_of_statement s earlier (declare first next more colons last) =
    naming_of s earlier first ++ (names_of_group s (earlier ++ declaration s.classes last first ∷ []) last (next ∷ more)
    ++ (using_of s last.class ++ (rooming_of s last (next ∷ more)
    ++ (counting_of s last ++ (making_of s (Some (word first)) last ++ making_of_group s last (next ∷ more))))))

-- the statements of a body, behind some declarations of it
unfoldable pub actions_of_body : Sight → List Declaration → List InnerTree → List Action
actions_of_body s earlier [] = []
actions_of_body s earlier (sign t ∷ us) = actions_of_body s earlier us
actions_of_body s earlier (plain st ∷ us) = actions_of_statement s earlier st ++ actions_of_body s (earlier ++ declared_statement s.classes st) us

unfoldable pub parameter_actions : List Token → List Action
parameter_actions [] = []
parameter_actions (t ∷ ts) = actions.Parameter (word t) ∷ parameter_actions ts

-- a class, before which some stand
unfoldable pub class_naming : List ℕ → List ClassTree → ClassTree → List Action
class_naming text before c = if is_some (class_under text before (spelling text c.name)) then actions.Name (wrong whys.Redeclared c.name.from) ∷ [] else []

-- what stands behind the beginning of its body, up to its end
unfoldable pub actions_within : List ℕ → List ClassTree → ClassTree → List Action
actions_within text before c = parameter_actions (parameters_of c) ++ (actions_of_body (body_sight text before c) [] c.body ++ actions.Close ∷ [])

-- what is outside classes, behind some classes and declarations; `declared` is all that is declared there
unfoldable pub actions_of_outside : List ℕ → List Declaration → List ClassTree → List Declaration → List OuterTree → List Action
actions_of_outside text declared classes earlier [] = []
actions_of_outside text declared classes earlier (outer (sign t) ∷ us) = actions_of_outside text declared classes earlier us
actions_of_outside text declared classes earlier (outer (plain st) ∷ us) =
    actions_of_statement (record { text = text; declared = declared; classes = classes; own = None }) earlier st
    ++ actions_of_outside text declared classes (earlier ++ declared_statement classes st) us
actions_of_outside text declared classes earlier (class c ∷ us) =
    class_naming text classes c ++ (actions.Class ∷ (actions_within text classes c ++ actions_of_outside text declared (classes ++ c ∷ []) earlier us))

-- the actions of a configuration
abbrev pub actions_of_tree : List ℕ → List OuterTree → List Action
actions_of_tree text tree = actions_of_outside text (declared_outside [] tree) [] [] tree
