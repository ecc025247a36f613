-- What a configuration declares, as its trees tell it: classes, names, parameters and ports.
use Rattle.std.specs.Prelude.{ℕ, List, [], ◌∷◌, ◌++◌, codes, Option, Some, None, if◌then◌else◌}
use Rattle.std.specs.Str.{bytes_eq}
use Rattle.mt_syntax.specs.declared.token.Token.{Token}
use Rattle.mt_syntax.specs.Reading.{word}
use Rattle.mt_syntax.specs.Words.{bytes_of}
use Rattle.mt_syntax.specs.Grammar.{UseTree, PortTree, ItemTree, named, alone, EndpointTree, StatementTree, connect, declare, InnerTree, sign, plain, ParameterTree, ClassTree, OuterTree, outer, class}

-- the bytes of a token
abbrev pub spelling : List ℕ → Token → List ℕ
spelling text t = bytes_of text (word t)

-- The class of a name among some classes, with those that stand before it.
unfoldable pub class_from : List ℕ → List ClassTree → List ClassTree → List ℕ → Option (ClassTree × List ClassTree)
class_from text before [] name = None
class_from text before (c ∷ cs) name = if bytes_eq (spelling text c.name) name then Some (c, before) else class_from text (before ++ c ∷ []) cs name

abbrev pub class_under : List ℕ → List ClassTree → List ℕ → Option (ClassTree × List ClassTree)
class_under text classes name = class_from text [] classes name

-- A name that is declared, what it is a use of, and the classes that stand before the declaration.
pub record Declaration : Type 0 where
  pub name : Token
  pub created : UseTree
  pub classes : List ClassTree

abbrev pub declaration : List ClassTree → UseTree → Token → Declaration
declaration classes u t = record { name = t; created = u; classes = classes }

-- an item NAME "::" use declares its name
unfoldable pub declared_item : List ClassTree → ItemTree → List Declaration
declared_item classes (named t colons u) = declaration classes u t ∷ []
declared_item classes _ = []

unfoldable pub declared_next : List ClassTree → List (Token × EndpointTree) → List Declaration
declared_next classes [] = []
declared_next classes (next ∷ more) = declared_item classes next.1.item ++ declared_next classes more

unfoldable pub declared_more : List ClassTree → UseTree → List (Token × Token) → List Declaration
declared_more classes u [] = []
declared_more classes u (next ∷ more) = declaration classes u next.1 ∷ declared_more classes u more

unfoldable pub declared_statement : List ClassTree → StatementTree → List Declaration
declared_statement classes (connect e more) = declared_item classes e.item ++ declared_next classes more
declared_statement classes (declare first next more colons last) = declaration classes last first ∷ declared_more classes last (next ∷ more)

-- the names that the body of a class declares, where those classes stand before it
unfoldable pub declared_body : List ClassTree → List InnerTree → List Declaration
declared_body classes [] = []
declared_body classes (sign t ∷ us) = declared_body classes us
declared_body classes (plain s ∷ us) = declared_statement classes s ++ declared_body classes us

-- the names that are declared outside classes
unfoldable pub declared_outside : List ClassTree → List OuterTree → List Declaration
declared_outside classes [] = []
declared_outside classes (outer (sign t) ∷ us) = declared_outside classes us
declared_outside classes (outer (plain s) ∷ us) = declared_statement classes s ++ declared_outside classes us
declared_outside classes (class c ∷ us) = declared_outside (classes ++ c ∷ []) us

-- the first declaration of a name among some
unfoldable pub declared_under : List ℕ → List Declaration → List ℕ → Option Declaration
declared_under text [] name = None
declared_under text (d ∷ ds) name = if bytes_eq (spelling text d.name) name then Some d else declared_under text ds name

-- the classes of a configuration, in the order of their declarations
unfoldable pub classes_of : List OuterTree → List ClassTree
classes_of [] = []
classes_of (outer u ∷ us) = classes_of us
classes_of (class c ∷ us) = c ∷ classes_of us

-- the parameters of a class, each with its `$`
abbrev pub following : List (Token × Token) → List Token
following [] = []
following (next ∷ more) = next.1 ∷ following more

abbrev pub parameters_in : Option ParameterTree → List Token
parameters_in None = []
parameters_in (Some p) = p.first ∷ following p.more

abbrev pub parameters_of : ClassTree → List Token
parameters_of c = parameters_in c.parameters

-- a port that is left out is 0
abbrev pub port_value : Option PortTree → ℕ
port_value None = 0
port_value (Some p) = p.value

-- the port, where the item is that name alone
unfoldable pub named_port : List ℕ → List ℕ → Option PortTree → ItemTree → List ℕ
named_port text name port (alone t) = if bytes_eq (spelling text t) name then port_value port ∷ [] else []
named_port text name port _ = []

-- The input ports that a body names: `input [k]` with a `->` behind it.
unfoldable pub inputs_ends : List ℕ → EndpointTree → List (Token × EndpointTree) → List ℕ
inputs_ends text e [] = []
inputs_ends text e (next ∷ more) = named_port text (codes "input") e.output e.item ++ inputs_ends text next.1 more

-- The output ports that a body names: `[k] output` with a `->` before it.
unfoldable pub outputs_ends : List ℕ → List (Token × EndpointTree) → List ℕ
outputs_ends text [] = []
outputs_ends text (next ∷ more) = named_port text (codes "output") next.1.input next.1.item ++ outputs_ends text more

unfoldable pub inputs_body : List ℕ → List InnerTree → List ℕ
inputs_body text [] = []
inputs_body text (plain (connect e more) ∷ us) = inputs_ends text e more ++ inputs_body text us
inputs_body text (_ ∷ us) = inputs_body text us

unfoldable pub outputs_body : List ℕ → List InnerTree → List ℕ
outputs_body text [] = []
outputs_body text (plain (connect e more) ∷ us) = outputs_ends text more ++ outputs_body text us
outputs_body text (_ ∷ us) = outputs_body text us

abbrev pub inputs_of : List ℕ → ClassTree → List ℕ
inputs_of text c = inputs_body text c.body

abbrev pub outputs_of : List ℕ → ClassTree → List ℕ
outputs_of text c = outputs_body text c.body
