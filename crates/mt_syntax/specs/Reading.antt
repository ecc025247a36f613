-- Reading the phrases of a configuration from its tokens. Each reader answers what it read and the tokens
-- behind it, or the fault of the first token that may not stand where it stands.
--
--   config    = [ statement ] { ";" [ statement ] }
--   statement = class | declare | connect
--   class     = "elementclass" NAME "{" [ PARAM { "," PARAM } "|" ] body "}"
--   body      = [ inner ] { ";" [ inner ] }
--   inner     = declare | connect
--   declare   = NAME "," NAME { "," NAME } "::" use
--   connect   = endpoint { "->" endpoint }
--   endpoint  = [ "[" NUMBER "]" ] item [ "[" NUMBER "]" ]
--   item      = NAME | NAME "::" use | use
--   use       = NAME [ "(" arguments ")" ]
--
-- The `;` behind a class may be left out. The first endpoint of a connect has no input port and the last no
-- output port. NAME is an identifier other than `elementclass`, PARAM a `$` and an identifier.
use Rattle.std.specs.Prelude.{◌≡◌, ℕ, zero, suc, ◌<◌, List, [], ◌∷◌, ◌++◌, length, Option, Some, None, is_some, Result, Ok, Err, Bool, true, false, if◌then◌else◌}
use Rattle.std.specs.Option.{option_map, option_to_list}
use denote.Ref.{Bor}
use Rattle.mt_syntax.specs.declared.token.TokenKind.{TokenKind}
use Rattle.mt_syntax.specs.declared.token.TokenKind.TheVariants as kinds
use Rattle.mt_syntax.specs.declared.token.Token.{Token}
use Rattle.mt_syntax.specs.declared.fault.ClickWhy.TheVariants as whys
use Rattle.mt_syntax.specs.declared.fault.ClickWhy.{ClickWhy}
use Rattle.mt_syntax.specs.declared.fault.Fault.{Fault}
use Rattle.mt_syntax.specs.declared.fault.ReadError.{ReadError}
use Rattle.mt_syntax.specs.declared.fault.ReadError.TheVariants as errors
use Rattle.mt_syntax.specs.declared.word.Word.{Word}
use Rattle.mt_syntax.specs.declared.phrase.Use.{Use}
use Rattle.mt_syntax.specs.declared.phrase.PortNumber.{PortNumber}
use Rattle.mt_syntax.specs.declared.phrase.Endpoint.{Endpoint}
use Rattle.mt_syntax.specs.declared.phrase.Item.{Item}
use Rattle.mt_syntax.specs.declared.phrase.Item.TheVariants as items
use Rattle.mt_syntax.specs.declared.phrase.Phrase.{Phrase}
use Rattle.mt_syntax.specs.declared.phrase.Phrase.TheVariants as phrases
use Rattle.mt_syntax.specs.declared.advance.Stage.{Stage}
use Rattle.mt_syntax.specs.declared.advance.Stage.TheVariants as stages
use Rattle.mt_syntax.specs.declared.advance.Advance.{Advance}
use Rattle.mt_syntax.specs.Tokens.{tokens_in}

infixl 10 ◌>>=◌
abbrev pub ◌>>=◌ : {A B : Type 0} → Result A Fault → (A → Result B Fault) → Result B Fault
(Ok x) >>= f = f x
(Err e) >>= f = Err e

-- What a function returned, seen by view, is what reading gives.
abbrev pub Reads : {X Y : Type 0} → (X → Y) → Result X Fault → Result Y Fault → Type 0
Reads view (Ok x) read = read ≡ Ok (view x)
Reads view (Err e) read = read ≡ Err e

abbrev pub word : Token → Word
word t = record { from = t.from; to = t.to }

-- A place at which the text has no token, or an argument text that may not open there, is Lex.
abbrev pub why_of : TokenKind → ClickWhy
why_of kinds.Broken = whys.Lex
why_of kinds.Arguments = whys.Lex
why_of _ = whys.Syntax

abbrev pub fault_at : Token → Fault
fault_at t = record { why = why_of t.kind; at = t.from }

-- the fault of the first token; a list of tokens always has its last, `Finish` or `Broken`
abbrev pub no_token : List Token → Fault
no_token [] = record { why = whys.Syntax; at = 0 }
no_token (t ∷ ts) = fault_at t

unfoldable pub read_name : List Token → Result (Word × List Token) Fault
read_name [] = Err (no_token [])
read_name (t ∷ ts) = elim t.kind [ kinds.Name ↦ Ok (word t, ts) | _ ↦ Err (fault_at t) ]

-- use = NAME [ "(" arguments ")" ]
unfoldable pub read_arguments : List Token → Option Word × List Token
read_arguments [] = (None, [])
read_arguments (t ∷ ts) = elim t.kind [ kinds.Arguments ↦ (Some (word t), ts) | _ ↦ (None, t ∷ ts) ]

unfoldable pub read_use : List Token → Result (Use × List Token) Fault
read_use tokens = do
  name ← read_name tokens
  Ok (record { class = name.0; arguments = (read_arguments name.1).0 }, (read_arguments name.1).1)

unfoldable pub read_number : List Token → Result (ℕ × List Token) Fault
read_number [] = Err (no_token [])
read_number (t ∷ ts) = elim t.kind [ kinds.Number n ↦ Ok (n, ts) | _ ↦ Err (fault_at t) ]

unfoldable pub read_right : List Token → Result (List Token) Fault
read_right [] = Err (no_token [])
read_right (t ∷ ts) = elim t.kind [ kinds.RightBracket ↦ Ok ts | _ ↦ Err (fault_at t) ]

-- the number and the `]` of a port, of which the `[` stands at a place
unfoldable pub read_inner : ℕ → List Token → Result (Option PortNumber × List Token) Fault
read_inner at tokens = do
  number ← read_number tokens
  rest ← read_right number.1
  Ok (Some (record { at = at; number = number.0 }), rest)

-- [ "[" NUMBER "]" ]
unfoldable pub read_port : List Token → Result (Option PortNumber × List Token) Fault
read_port [] = Ok (None, [])
read_port (t ∷ ts) = elim t.kind [ kinds.LeftBracket ↦ read_inner t.from ts | _ ↦ Ok (None, t ∷ ts) ]

-- item = NAME | NAME "::" use | use, of which the first name is read
unfoldable pub read_declared : Word → List Token → Result (Item × List Token) Fault
read_declared name tokens = do
  made ← read_use tokens
  Ok (items.Declared name made.0, made.1)

unfoldable pub read_behind : Word → List Token → Result (Item × List Token) Fault
read_behind name [] = Ok (items.Name name, [])
read_behind name (t ∷ ts) = elim t.kind [
  | kinds.Colons ↦ read_declared name ts
  | kinds.Arguments ↦ Ok (items.Made (record { class = name; arguments = Some (word t) }), ts)
  | _ ↦ Ok (items.Name name, t ∷ ts)
]

unfoldable pub read_item : List Token → Result (Item × List Token) Fault
read_item tokens = do
  name ← read_name tokens
  read_behind name.0 name.1

-- an endpoint behind its input port
unfoldable pub read_endpoint : Option PortNumber → List Token → Result (Endpoint × List Token) Fault
read_endpoint input tokens = do
  item ← read_item tokens
  output ← read_port item.1
  Ok (record { input = input; item = item.0; output = output.0 }, output.1)

-- endpoint = [ "[" NUMBER "]" ] item [ "[" NUMBER "]" ]
unfoldable pub read_whole_endpoint : List Token → Result (Endpoint × List Token) Fault
read_whole_endpoint tokens = do
  input ← read_port tokens
  read_endpoint input.0 input.1

-- a phrase, what may stand behind it, and whether that is in the body of a class
abbrev pub told : Phrase → Stage → Bool → Advance
told phrase stage inside = record { phrase = Some phrase; stage = stage; inside = inside }

-- no phrase: a sign that separates phrases
abbrev pub quiet : Stage → Bool → Advance
quiet stage inside = record { phrase = None; stage = stage; inside = inside }

-- reading goes on with fewer tokens
abbrev pub IsShorter : List Token → Option (Advance × List Token) → Type 0
IsShorter tokens None = Unit {0}
IsShorter tokens (Some x) = length x.1 < length tokens

-- What stands next, or nothing at the end of the text.
abbrev pub Advanced : Type 0
Advanced = Result (Option (Advance × List Token)) Fault

-- What a function returned is what reading gives.
abbrev pub seen : Option (Advance × Bor (List Token)) → Option (Advance × List Token)
seen o = option_map (λ x. (x.0, x.1.now)) o

abbrev pub Advances : Result (Option (Advance × Bor (List Token))) Fault → Advanced → Type 0
Advances result read = Reads seen result read

abbrev pub onward : Advance → List Token → Advanced
onward s tokens = Ok (Some (s, tokens))

-- the end of a statement: `;`, the end of the body or the end of the text
unfoldable pub read_done : Bool → List Token → Advanced
read_done inside [] = Err (no_token [])
read_done inside (t ∷ ts) = elim t.kind [
  | kinds.Semicolon ↦ onward (quiet stages.Begin inside) ts
  | kinds.RightBrace ↦ if inside then onward (told phrases.Close stages.Begin false) ts else Err (fault_at t)
  | kinds.Finish ↦ if inside then Err (fault_at t) else Ok None
  | _ ↦ Err (fault_at t)
]

abbrev pub has_port : Endpoint → Bool
has_port e = is_some e.output

-- the first endpoint of a connection has no input port
unfoldable pub read_first : Bool → List Token → Advanced
read_first inside tokens = do
  found ← read_endpoint None tokens
  onward (told (phrases.First found.0) (stages.Ended (has_port found.0)) inside) found.1

unfoldable pub read_next : ℕ → Bool → List Token → Advanced
read_next arrow inside tokens = do
  found ← read_whole_endpoint tokens
  onward (told (phrases.Next arrow found.0) (stages.Ended (has_port found.0)) inside) found.1

-- declare = NAME "," NAME { "," NAME } "::" use, where a comma stands behind the first name
abbrev pub is_comma : List Token → Bool
is_comma [] = false
is_comma (t ∷ ts) = elim t.kind [ kinds.Comma ↦ true | _ ↦ false ]

unfoldable pub read_names : Bool → List Token → Advanced
read_names inside tokens = do
  name ← read_name tokens
  if is_comma name.1 then onward (told (phrases.Declared name.0) stages.Names inside) name.1 else read_first inside tokens

unfoldable pub read_name_more : Bool → List Token → Advanced
read_name_more inside tokens = do
  name ← read_name tokens
  onward (told (phrases.Declared name.0) stages.Names inside) name.1

unfoldable pub read_made : Bool → List Token → Advanced
read_made inside tokens = do
  made ← read_use tokens
  onward (told (phrases.Made made.0) stages.Done inside) made.1

unfoldable pub read_after_name : Bool → List Token → Advanced
read_after_name inside [] = Err (no_token [])
read_after_name inside (t ∷ ts) = elim t.kind [
  | kinds.Comma ↦ read_name_more inside ts
  | kinds.Colons ↦ read_made inside ts
  | _ ↦ Err (fault_at t)
]

-- class = "elementclass" NAME "{" [ PARAM { "," PARAM } "|" ] body "}"
unfoldable pub read_left : List Token → Result (List Token) Fault
read_left [] = Err (no_token [])
read_left (t ∷ ts) = elim t.kind [ kinds.LeftBrace ↦ Ok ts | _ ↦ Err (fault_at t) ]

unfoldable pub read_class : List Token → Advanced
read_class tokens = do
  name ← read_name tokens
  rest ← read_left name.1
  onward (told (phrases.Class name.0) stages.Head true) rest

-- a statement, which may be empty; a class only outside classes
unfoldable pub read_begin : Bool → List Token → Advanced
read_begin inside [] = Err (no_token [])
read_begin inside (t ∷ ts) = elim t.kind [
  | kinds.Name ↦ read_names inside (t ∷ ts)
  | kinds.Keyword ↦ if inside then Err (fault_at t) else read_class ts
  | _ ↦ read_done inside (t ∷ ts)
]

-- connect = endpoint { "->" endpoint }, of which the last has no output port
unfoldable pub read_after_endpoint : Bool → Bool → List Token → Advanced
read_after_endpoint port inside [] = Err (no_token [])
read_after_endpoint port inside (t ∷ ts) = elim t.kind [
  | kinds.Arrow ↦ read_next t.from inside ts
  | _ ↦ if port then Err (fault_at t) else read_done inside (t ∷ ts)
]

unfoldable pub read_parameter : List Token → Advanced
read_parameter [] = Err (no_token [])
read_parameter (t ∷ ts) = elim t.kind [
  | kinds.Parameter ↦ onward (told (phrases.Parameter (word t)) stages.Parameters true) ts
  | _ ↦ Err (fault_at t)
]

unfoldable pub read_after_parameter : List Token → Advanced
read_after_parameter [] = Err (no_token [])
read_after_parameter (t ∷ ts) = elim t.kind [
  | kinds.Comma ↦ read_parameter ts
  | kinds.Bar ↦ onward (quiet stages.Begin true) ts
  | _ ↦ Err (fault_at t)
]

unfoldable pub read_head : List Token → Advanced
read_head [] = Err (no_token [])
read_head (t ∷ ts) = elim t.kind [
  | kinds.Parameter ↦ read_parameter (t ∷ ts)
  | _ ↦ read_begin true (t ∷ ts)
]

unfoldable pub read_advance : Stage → Bool → List Token → Advanced
read_advance stages.Begin inside tokens = read_begin inside tokens
read_advance stages.Done inside tokens = read_done inside tokens
read_advance (stages.Ended port) inside tokens = read_after_endpoint port inside tokens
read_advance stages.Names inside tokens = read_after_name inside tokens
read_advance stages.Head inside tokens = read_head tokens
read_advance stages.Parameters inside tokens = read_after_parameter tokens

-- the phrases from a stage on, in at most so many advances
unfoldable pub phrases_from : ℕ → Stage → Bool → List Token → Result (List Phrase) Fault
phrases_from zero stage inside tokens = Err (no_token [])
phrases_from (suc most) stage inside tokens = do
  advance ← read_advance stage inside tokens
  elim advance as (λ _. Result (List Phrase) Fault) [
    | None ↦ Ok []
    | Some x ↦ phrases_from most x.0.stage x.0.inside x.1 >>= λ ps. Ok (option_to_list x.0.phrase ++ ps)
  ]

-- The phrases of a list of tokens, each advance of which takes a token at least.
abbrev pub phrases_of_tokens : List Token → Result (List Phrase) Fault
phrases_of_tokens tokens = phrases_from (length tokens) stages.Begin false tokens

-- What a function returned, seen by view, is what reading gives, unless memory ran out.
abbrev pub Fails : {Y : Type 0} → ReadError → Result Y Fault → Type 0
Fails errors.Memory read = Unit {0}
Fails (errors.Fault f) read = read ≡ Err f

abbrev pub Gives : {X Y : Type 0} → (X → Y) → Result X ReadError → Result Y Fault → Type 0
Gives view (Ok x) read = read ≡ Ok (view x)
Gives view (Err e) read = Fails e read

-- the phrases of a text, or its first fault
abbrev pub phrases_in : List ℕ → Result (List Phrase) Fault
phrases_in text = phrases_of_tokens (tokens_in text)
