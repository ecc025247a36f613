-- The grammar as trees, each with its tokens: what is printed for a tree, when a tree is right, and the
-- phrases that it is.
use Rattle.std.specs.Prelude.{◌≡◌, ℕ, List, [], ◌∷◌, ◌++◌, Option, Some, None, IfSome}
use Rattle.std.specs.Option.{option_map, option_to_list}
use Rattle.mt_syntax.specs.declared.token.TokenKind.{TokenKind}
use Rattle.mt_syntax.specs.declared.token.TokenKind.TheVariants as kinds
use Rattle.mt_syntax.specs.declared.token.Token.{Token}
use Rattle.mt_syntax.specs.declared.phrase.Use.{Use}
use Rattle.mt_syntax.specs.declared.phrase.PortNumber.{PortNumber}
use Rattle.mt_syntax.specs.declared.phrase.Endpoint.{Endpoint}
use Rattle.mt_syntax.specs.declared.phrase.Item.{Item}
use Rattle.mt_syntax.specs.declared.phrase.Item.TheVariants as items
use Rattle.mt_syntax.specs.declared.phrase.Phrase.{Phrase}
use Rattle.mt_syntax.specs.declared.phrase.Phrase.TheVariants as phrases
use Rattle.mt_syntax.specs.Reading.{word}

-- use = NAME [ "(" arguments ")" ]
pub record UseTree : Type 0 where
  pub class : Token
  pub arguments : Option Token

abbrev pub print_use : UseTree → List Token
print_use u = u.class ∷ option_to_list u.arguments

abbrev pub IsUse : UseTree → Type 0
IsUse u = (u.class.kind ≡ kinds.Name) × IfSome u.arguments (λ a. a.kind ≡ kinds.Arguments)

abbrev pub use_of : UseTree → Use
use_of u = record { class = word u.class; arguments = option_map word u.arguments }

-- "[" NUMBER "]"
pub record PortTree : Type 0 where
  pub left : Token
  pub number : Token
  pub right : Token
  pub value : ℕ

abbrev pub print_port : Option PortTree → List Token
print_port None = []
print_port (Some p) = p.left ∷ p.number ∷ p.right ∷ []

abbrev pub IsPort : PortTree → Type 0
IsPort p = (p.left.kind ≡ kinds.LeftBracket) × (p.number.kind ≡ kinds.Number p.value) × (p.right.kind ≡ kinds.RightBracket)

abbrev pub port_of : PortTree → PortNumber
port_of p = record { at = p.left.from; number = p.value }

-- item = NAME | NAME "::" use | use, where the use of the last has arguments
pub data ItemTree : Type 0 where
  alone : Token → ItemTree
  named : Token → Token → UseTree → ItemTree
  made : Token → Token → ItemTree

abbrev pub print_item : ItemTree → List Token
print_item (alone t) = t ∷ []
print_item (named t c u) = t ∷ c ∷ print_use u
print_item (made t a) = t ∷ a ∷ []

abbrev pub IsItem : ItemTree → Type 0
IsItem (alone t) = t.kind ≡ kinds.Name
IsItem (named t c u) = (t.kind ≡ kinds.Name) × (c.kind ≡ kinds.Colons) × IsUse u
IsItem (made t a) = (t.kind ≡ kinds.Name) × (a.kind ≡ kinds.Arguments)

abbrev pub item_of : ItemTree → Item
item_of (alone t) = items.Name (word t)
item_of (named t c u) = items.Declared (word t) (use_of u)
item_of (made t a) = items.Made (record { class = word t; arguments = Some (word a) })

-- endpoint = [ "[" NUMBER "]" ] item [ "[" NUMBER "]" ]
pub record EndpointTree : Type 0 where
  pub input : Option PortTree
  pub item : ItemTree
  pub output : Option PortTree

abbrev pub print_endpoint : EndpointTree → List Token
print_endpoint e = print_port e.input ++ (print_item e.item ++ print_port e.output)

abbrev pub IsEndpoint : EndpointTree → Type 0
IsEndpoint e = IfSome e.input IsPort × IsItem e.item × IfSome e.output IsPort

abbrev pub endpoint_of : EndpointTree → Endpoint
endpoint_of e = record { input = option_map port_of e.input; item = item_of e.item; output = option_map port_of e.output }

-- connect = endpoint { "->" endpoint }: a first endpoint without an input port, then each `->` with the endpoint behind it,
-- of which the last has no output port
abbrev pub print_endpoints : EndpointTree → List (Token × EndpointTree) → List Token
print_endpoints e [] = print_endpoint e
print_endpoints e (next ∷ more) = print_endpoint e ++ (next.0 ∷ print_endpoints next.1 more)

abbrev pub AreEndpoints : EndpointTree → List (Token × EndpointTree) → Type 0
AreEndpoints e [] = IsEndpoint e × (e.output ≡ None)
AreEndpoints e (next ∷ more) = IsEndpoint e × (next.0.kind ≡ kinds.Arrow) × AreEndpoints next.1 more

abbrev pub next_endpoints : List (Token × EndpointTree) → List Phrase
next_endpoints [] = []
next_endpoints (next ∷ more) = phrases.Next next.0.from (endpoint_of next.1) ∷ next_endpoints more

-- { "," NAME }
abbrev pub print_more : List (Token × Token) → List Token
print_more [] = []
print_more (next ∷ more) = next.0 ∷ next.1 ∷ print_more more

abbrev pub AreMore : TokenKind → List (Token × Token) → Type 0
AreMore kind [] = Unit {0}
AreMore kind (next ∷ more) = (next.0.kind ≡ kinds.Comma) × (next.1.kind ≡ kind) × AreMore kind more

abbrev pub more_names : List (Token × Token) → List Phrase
more_names [] = []
more_names (next ∷ more) = phrases.Declared (word next.1) ∷ more_names more

-- declare = NAME "," NAME { "," NAME } "::" use
pub data StatementTree : Type 0 where
  connect : EndpointTree → List (Token × EndpointTree) → StatementTree
  declare : Token → Token × Token → List (Token × Token) → Token → UseTree → StatementTree

abbrev pub print_statement : StatementTree → List Token
print_statement (connect e more) = print_endpoints e more
print_statement (declare first next more colons last) = first ∷ (print_more (next ∷ more) ++ (colons ∷ print_use last))

abbrev pub IsStatement : StatementTree → Type 0
IsStatement (connect e more) = (e.input ≡ None) × AreEndpoints e more
IsStatement (declare first next more colons last) = (first.kind ≡ kinds.Name) × AreMore kinds.Name (next ∷ more) × (colons.kind ≡ kinds.Colons) × IsUse last

abbrev pub statement_phrases : StatementTree → List Phrase
statement_phrases (connect e more) = phrases.First (endpoint_of e) ∷ next_endpoints more
statement_phrases (declare first next more colons last) = phrases.Declared (word first) ∷ (more_names (next ∷ more) ++ phrases.Made (use_of last) ∷ [])

-- body = [ inner ] { ";" [ inner ] }: statements and `;`, one `;` at least between two statements
pub data InnerTree : Type 0 where
  sign : Token → InnerTree
  plain : StatementTree → InnerTree

abbrev pub print_body : List InnerTree → List Token
print_body [] = []
print_body (sign t ∷ us) = t ∷ print_body us
print_body (plain s ∷ us) = print_statement s ++ print_body us

abbrev pub IsApart : List InnerTree → Type 0
IsApart (plain s ∷ us) = ⊥
IsApart _ = Unit {0}

abbrev pub IsBody : List InnerTree → Type 0
IsBody [] = Unit {0}
IsBody (sign t ∷ us) = (t.kind ≡ kinds.Semicolon) × IsBody us
IsBody (plain s ∷ us) = IsStatement s × IsApart us × IsBody us

abbrev pub body_phrases : List InnerTree → List Phrase
body_phrases [] = []
body_phrases (sign t ∷ us) = body_phrases us
body_phrases (plain s ∷ us) = statement_phrases s ++ body_phrases us

-- PARAM { "," PARAM } "|"
pub record ParameterTree : Type 0 where
  pub first : Token
  pub more : List (Token × Token)
  pub bar : Token

abbrev pub print_parameters : Option ParameterTree → List Token
print_parameters None = []
print_parameters (Some p) = p.first ∷ (print_more p.more ++ (p.bar ∷ []))

abbrev pub AreParameters : ParameterTree → Type 0
AreParameters p = (p.first.kind ≡ kinds.Parameter) × AreMore kinds.Parameter p.more × (p.bar.kind ≡ kinds.Bar)

abbrev pub more_parameters : List (Token × Token) → List Phrase
more_parameters [] = []
more_parameters (next ∷ more) = phrases.Parameter (word next.1) ∷ more_parameters more

abbrev pub parameter_phrases : Option ParameterTree → List Phrase
parameter_phrases None = []
parameter_phrases (Some p) = phrases.Parameter (word p.first) ∷ more_parameters p.more

-- class = "elementclass" NAME "{" [ PARAM { "," PARAM } "|" ] body "}"
pub record ClassTree : Type 0 where
  pub keyword : Token
  pub name : Token
  pub left : Token
  pub parameters : Option ParameterTree
  pub body : List InnerTree
  pub right : Token

abbrev pub print_class : ClassTree → List Token
print_class c = c.keyword ∷ c.name ∷ c.left ∷ (print_parameters c.parameters ++ (print_body c.body ++ (c.right ∷ [])))

abbrev pub IsClass : ClassTree → Type 0
IsClass c =
    (c.keyword.kind ≡ kinds.Keyword) × (c.name.kind ≡ kinds.Name) × (c.left.kind ≡ kinds.LeftBrace) × IfSome c.parameters AreParameters × IsBody c.body × (c.right.kind ≡ kinds.RightBrace)

abbrev pub class_phrases : ClassTree → List Phrase
class_phrases c = phrases.Class (word c.name) ∷ (parameter_phrases c.parameters ++ (body_phrases c.body ++ (phrases.Close ∷ [])))

-- config = [ statement ] { ";" [ statement ] }, where the `;` behind a class may be left out
pub data OuterTree : Type 0 where
  outer : InnerTree → OuterTree
  class : ClassTree → OuterTree

abbrev pub print_config : List OuterTree → List Token
print_config [] = []
print_config (outer (sign t) ∷ us) = t ∷ print_config us
print_config (outer (plain s) ∷ us) = print_statement s ++ print_config us
print_config (class c ∷ us) = print_class c ++ print_config us

abbrev pub IsSeparate : List OuterTree → Type 0
IsSeparate (outer (plain s) ∷ us) = ⊥
IsSeparate (class c ∷ us) = ⊥
IsSeparate _ = Unit {0}

abbrev pub IsConfig : List OuterTree → Type 0
IsConfig [] = Unit {0}
IsConfig (outer (sign t) ∷ us) = (t.kind ≡ kinds.Semicolon) × IsConfig us
IsConfig (outer (plain s) ∷ us) = IsStatement s × IsSeparate us × IsConfig us
IsConfig (class c ∷ us) = IsClass c × IsConfig us

abbrev pub config_phrases : List OuterTree → List Phrase
config_phrases [] = []
config_phrases (outer (sign t) ∷ us) = config_phrases us
config_phrases (outer (plain s) ∷ us) = statement_phrases s ++ config_phrases us
config_phrases (class c ∷ us) = class_phrases c ++ config_phrases us

-- the tokens of a whole text
abbrev pub ArePrinted : List OuterTree → List Token → Type 0
ArePrinted tree tokens = (finish : Token) × (finish.kind ≡ kinds.Finish) × (tokens ≡ print_config tree ++ finish ∷ [])
