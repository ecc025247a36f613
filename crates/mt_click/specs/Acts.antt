-- What the statements of a scope do, one act after the other in the order of the text.
use Rattle.std.specs.Prelude.{ℕ, List, [], ◌∷◌, ◌++◌, codes, Option, Some, None, is_some, Bool, true, false, ◌&&◌, ◌||◌, if◌then◌else◌}
use Rattle.std.specs.Str.{bytes_eq}
use Rattle.mt_syntax.specs.declared.token.Token.{Token}
use Rattle.mt_syntax.specs.declared.word.Word.{Word}
use Rattle.mt_syntax.specs.declared.phrase.Use.{Use}
use Rattle.mt_click.specs.declared.action.Side.{Side}
use Rattle.mt_click.specs.declared.action.Side.TheVariants as sides
use Rattle.mt_syntax.specs.Reading.{word}
use Rattle.mt_syntax.specs.Grammar.{UseTree, use_of, PortTree, ItemTree, alone, named, made, EndpointTree, StatementTree, connect, declare, InnerTree, sign, plain, ClassTree, OuterTree, outer, class}
use Rattle.mt_click.specs.Declarations.{spelling, class_under, Declaration, declared_under, declared_body, port_value}

-- What is in sight at a byte of the text: all that its scope declares, the classes that stand before, and the class
-- in whose body it is, which is none outside classes.
pub record Sight : Type 0 where
  pub text : List ℕ
  pub declared : List Declaration
  pub classes : List ClassTree
  pub own : Option ClassTree

-- the body of a class, before which some classes stand
abbrev pub body_sight : List ℕ → List ClassTree → ClassTree → Sight
body_sight text before c = record { text = text; declared = declared_body before c.body; classes = before; own = Some c }

abbrev pub is_inside : Sight → Bool
is_inside s = is_some s.own

-- `input` and `output` in a body
unfoldable pub is_border : Sight → Token → Bool
is_border s t = is_inside s && (bytes_eq (spelling s.text t) (codes "input") || bytes_eq (spelling s.text t) (codes "output"))

-- the class that a token names
unfoldable pub class_meant : Sight → Token → Option (ClassTree × List ClassTree)
class_meant s t = class_under s.text s.classes (spelling s.text t)

-- the declaration of a name in its scope
unfoldable pub name_meant : Sight → Token → Option Declaration
name_meant s t = declared_under s.text s.declared (spelling s.text t)

-- the class that a declared name is a use of
unfoldable pub class_declared : List ℕ → Declaration → Option (ClassTree × List ClassTree)
class_declared text d = class_under text d.classes (spelling text d.created.class)

pub data Act : Type 0 where
  -- an element is created, with the name under which it is declared
  element : Option Word → Use → Act
  -- a class, before which some stand, is used
  expand : ClassTree → List ClassTree → Option Word → Use → Act
  -- a connection comes to an input of a use of a class
  input : ClassTree → ℕ → Act
  -- a connection leaves an output of a use of a class
  output : ClassTree → ℕ → Act
  -- two ends are joined, by the `->` at a byte
  join : ℕ → Side → Side → Act

-- a use makes an element, or else expands its class
abbrev pub making_act : Option (ClassTree × List ClassTree) → Option Word → Use → Act
making_act None name u = element name u
making_act (Some x) name u = expand x.0 x.1 name u

unfoldable pub make : Sight → Option Word → UseTree → Act
make s name u = making_act (class_meant s u.class) name (use_of u)

-- a class without an argument text
abbrev pub bare_use : Token → UseTree
bare_use t = record { class = t; arguments = None }

-- A name alone that is declared nowhere in its scope, and neither `input` nor `output` in a body, is an
-- unnamed element of that class.
abbrev pub lone : Sight → Token → Option Declaration → List Act
lone s t (Some d) = []
lone s t None = make s None (bare_use t) ∷ []

unfoldable pub item_acts : Sight → ItemTree → List Act
item_acts s (named t colons u) = make s (Some (word t)) u ∷ []
item_acts s (made t a) = make s None (record { class = t; arguments = Some a }) ∷ []
item_acts s (alone t) = if is_border s t then [] else lone s t (name_meant s t)

-- the class of what an item stands for, where it is a use of one
abbrev pub lone_class : Sight → Token → Option Declaration → Option (ClassTree × List ClassTree)
lone_class s t (Some d) = class_declared s.text d
lone_class s t None = class_meant s t

unfoldable pub item_class : Sight → ItemTree → Option (ClassTree × List ClassTree)
item_class s (named t colons u) = class_meant s u.class
item_class s (made t a) = class_meant s t
item_class s (alone t) = if is_border s t then None else lone_class s t (name_meant s t)

-- the ports at which connections come to a use and leave it
abbrev pub coming : Bool → Option (ClassTree × List ClassTree) → Option PortTree → List Act
coming true (Some x) port = input x.0 (port_value port) ∷ []
coming _ _ port = []

abbrev pub leaving : Bool → Option (ClassTree × List ClassTree) → Option PortTree → List Act
leaving true (Some x) port = output x.0 (port_value port) ∷ []
leaving _ _ port = []

-- an end, with a `->` before it or none, and with one behind it or none
unfoldable pub end_acts : Sight → Bool → Bool → EndpointTree → List Act
end_acts s before behind e = coming before (item_class s e.item) e.input ++ (item_acts s e.item ++ leaving behind (item_class s e.item) e.output)

-- What an end stands for, with a port: what is created at the byte of the name's declaration, or at the
-- class. In a body `input` is the border where a connection begins, `output` where it ends, and neither is
-- an end elsewhere.
abbrev pub lone_side : Token → ℕ → Option Declaration → Option Side
lone_side t port (Some d) = Some (sides.Created d.name.from port)
lone_side t port None = Some (sides.Created t.from port)

unfoldable pub side : Sight → List ℕ → ℕ → ItemTree → Option Side
side s border port (named t colons u) = Some (sides.Created t.from port)
side s border port (made t a) = Some (sides.Created t.from port)
side s border port (alone t) =
    if is_border s t then (if bytes_eq (spelling s.text t) border then Some (sides.Border port) else None)
    else lone_side t port (name_meant s t)

abbrev pub side_left : Sight → EndpointTree → Option Side
side_left s e = side s (codes "input") (port_value e.output) e.item

abbrev pub side_reached : Sight → EndpointTree → Option Side
side_reached s e = side s (codes "output") (port_value e.input) e.item

abbrev pub connecting : ℕ → Option Side → Option Side → List Act
connecting arrow (Some a) (Some b) = join arrow a b ∷ []
connecting arrow _ _ = []

abbrev pub has_next : List (Token × EndpointTree) → Bool
has_next [] = false
has_next (next ∷ more) = true

-- the further ends of a connection, behind one
unfoldable pub next_acts : Sight → EndpointTree → List (Token × EndpointTree) → List Act
next_acts s e [] = []
next_acts s e (next ∷ more) = end_acts s true (has_next more) next.1 ++ (connecting next.0.from (side_left s e) (side_reached s next.1) ++ next_acts s next.1 more)

-- the names before one `::`, in their order
unfoldable pub group_acts : Sight → UseTree → List (Token × Token) → List Act
group_acts s u [] = []
group_acts s u (next ∷ more) = make s (Some (word next.1)) u ∷ group_acts s u more

unfoldable pub statement_acts : Sight → StatementTree → List Act
statement_acts s (connect e more) = end_acts s false (has_next more) e ++ next_acts s e more
statement_acts s (declare first next more colons last) = make s (Some (word first)) last ∷ group_acts s last (next ∷ more)

unfoldable pub body_acts : Sight → List InnerTree → List Act
body_acts s [] = []
body_acts s (sign t ∷ us) = body_acts s us
body_acts s (plain st ∷ us) = statement_acts s st ++ body_acts s us

-- Outside classes: a class counts from its declaration on.
unfoldable pub outside_acts : List ℕ → List Declaration → List ClassTree → List OuterTree → List Act
outside_acts text declared classes [] = []
outside_acts text declared classes (outer (sign t) ∷ us) = outside_acts text declared classes us
outside_acts text declared classes (outer (plain st) ∷ us) =
    statement_acts (record { text = text; declared = declared; classes = classes; own = None }) st ++ outside_acts text declared classes us
outside_acts text declared classes (class c ∷ us) = outside_acts text declared (classes ++ c ∷ []) us
