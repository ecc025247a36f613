-- What the readers of names, uses, ports and ends meet.
use Rattle.std.proofs.Common.{◌≡◌, ℕ, List, [], ◌∷◌, ◌++◌, Bool, true, false, Option, Some, None, Result, Ok, Err, refl, ap, ◌∙◌}
use Rattle.std.specs.Prelude.{IfSome, is_some}
use Rattle.std.specs.Option.{option_to_list}
use Rattle.mt_syntax.specs.declared.token.TokenKind.{TokenKind}
use Rattle.mt_syntax.specs.declared.token.TokenKind.TheVariants as kinds
use Rattle.mt_syntax.specs.declared.token.Token.{Token}
use Rattle.mt_syntax.specs.declared.fault.Fault.{Fault}
use Rattle.mt_syntax.specs.declared.word.Word.{Word}
use Rattle.mt_syntax.specs.declared.phrase.Use.{Use}
use Rattle.mt_syntax.specs.declared.phrase.PortNumber.{PortNumber}
use Rattle.mt_syntax.specs.declared.phrase.Endpoint.{Endpoint}
use Rattle.mt_syntax.specs.declared.phrase.Item.{Item}
use Rattle.mt_syntax.specs.declared.phrase.Item.TheVariants as items
use Rattle.mt_syntax.specs.Tokens.{EndOnce, token}
use Rattle.mt_syntax.specs.Reading.{◌>>=◌, fault_at, word, has_port, read_name, read_arguments, read_use, read_number, read_right, read_inner, read_port, read_declared, read_behind, read_item, read_endpoint, read_whole_endpoint}
use Rattle.mt_syntax.specs.Grammar.{UseTree, print_use, IsUse, PortTree, print_port, IsPort, ItemTree, print_item, IsItem}
use Rattle.mt_syntax.specs.Grammar.ItemTree.{alone, named, made}
use Rattle.mt_syntax.proofs.TokensMet.{Met, pair, both, behind_other, loosen, takes, leaves, fails, goes_behind, one_then, told_as}

-- some tokens are of that form
abbrev pub Able : (List Token → Type 0) → Type 0
Able D = (ts : List Token) × D ts

abbrev pub made_up : TokenKind → Token
made_up k = token k 0 0

-- a token of a kind, then more
abbrev pub SignThen : TokenKind → (List Token → Type 0) → List Token → Type 0
SignThen k D ts = (t : Token) × (t.kind ≡ k) × (rest : List Token) × D rest × (ts ≡ t ∷ rest)

pub sign_able : (k : TokenKind) (D : List Token → Type 0) → Able D → Able (SignThen k D)
sign_able k D able = (made_up k ∷ able.0, (made_up k, refl, able.0, able.1, refl))

name_by : (k : TokenKind) (D : List Token → Type 0) (t : Token) (ts : List Token) → Able D → EndOnce (t ∷ ts) → t.kind ≡ k
    → ((more : List Token) → read_name (t ∷ more) ≡ elim k as (λ _. Result (Word × List Token) Fault) [ kinds.Name ↦ Ok (word t, more) | _ ↦ Err (fault_at t) ])
    → Met 0 read_name pair (λ (_ : Word). D) (SignThen kinds.Name D) (t ∷ ts)
name_by kinds.Name D t ts able once k g =
    loosen 1 read_name pair (λ (_ : Word). D) (SignThen kinds.Name D) (SignThen kinds.Name D) (t ∷ ts)
    (takes read_name pair (λ (_ : Word). D) (SignThen kinds.Name D) (word t) t ts (behind_other t ts kinds.Name k (λ x. x) once) (λ rest d. (t, k, rest, d, refl)) g) (λ x h. h)
name_by _ D t ts able once k g = let a = sign_able kinds.Name D able in fails 0 read_name pair (λ (_ : Word). D) (SignThen kinds.Name D) t ts a.0 a.1 g

pub name_met : (D : List Token → Type 0) (tokens : List Token) → Able D → EndOnce tokens → Met 0 read_name pair (λ (_ : Word). D) (SignThen kinds.Name D) tokens
unfolding read_name
name_met D [] able once = absurd once
name_met D (t ∷ ts) able once = name_by t.kind D t ts able once refl (λ more. refl)

-- use = NAME [ "(" arguments ")" ]
abbrev pub ArgumentsThen : (List Token → Type 0) → List Token → Type 0
ArgumentsThen D ts = (a : Option Token) × IfSome a (λ x. x.kind ≡ kinds.Arguments) × (rest : List Token) × D rest × (ts ≡ option_to_list a ++ rest)

abbrev pub UseThen : (List Token → Type 0) → List Token → Type 0
UseThen D ts = (u : UseTree) × IsUse u × (rest : List Token) × D rest × (ts ≡ print_use u ++ rest)

abbrev use_behind : Word → List Token → Result (Use × List Token) Fault
use_behind name ts = Ok (record { class = name; arguments = (read_arguments ts).0 }, (read_arguments ts).1)

use_behind_is : (name : Word) (ts : List Token) (x : Option Word × List Token) → read_arguments ts ≡ x → use_behind name ts ≡ Ok (record { class = name; arguments = x.0 }, x.1)
use_behind_is name ts x e = rw e refl

arguments_by : (k : TokenKind) (name : Word) (D : List Token → Type 0) (t : Token) (ts : List Token) → EndOnce (t ∷ ts) → t.kind ≡ k
    → ((more : List Token) → read_arguments (t ∷ more) ≡ elim k as (λ _. Option Word × List Token) [ kinds.Arguments ↦ (Some (word t), more) | _ ↦ (None, t ∷ more) ])
    → Met 0 (use_behind name) pair (λ (_ : Use). D) (ArgumentsThen D) (t ∷ ts)
arguments_by kinds.Arguments name D t ts once k g =
    loosen 1 (use_behind name) pair (λ (_ : Use). D) (ArgumentsThen D) (ArgumentsThen D) (t ∷ ts)
    (takes (use_behind name) pair (λ (_ : Use). D) (ArgumentsThen D) (record { class = name; arguments = Some (word t) }) t ts (behind_other t ts kinds.Arguments k (λ x. x) once) (λ rest d. (Some t, k, rest, d, refl)) (λ more. use_behind_is name (t ∷ more) (Some (word t), more) (g more)))
    (λ x h. h)
arguments_by _ name D t ts once k g =
    leaves (use_behind name) pair (λ (_ : Use). D) (ArgumentsThen D) (record { class = name; arguments = None }) t ts once (λ rest d. (None, tt, rest, d, refl)) (λ more. use_behind_is name (t ∷ more) (None, t ∷ more) (g more))

use_behind_met : (name : Word) (D : List Token → Type 0) (tokens : List Token) → EndOnce tokens → Met 0 (use_behind name) pair (λ (_ : Use). D) (ArgumentsThen D) tokens
unfolding read_arguments
use_behind_met name D [] once = absurd once
use_behind_met name D (t ∷ ts) once = arguments_by t.kind name D t ts once refl (λ more. refl)

arguments_able : (D : List Token → Type 0) → Able D → Able (ArgumentsThen D)
arguments_able D able = (able.0, (None, tt, able.0, able.1, refl))

to_use : (D : List Token → Type 0) (ts : List Token) → SignThen kinds.Name (ArgumentsThen D) ts → UseThen D ts
to_use D ts h = (record { class = h.0; arguments = h.3.0 }, (h.1, h.3.1), h.3.2, h.3.3, h.4 ∙ ap (λ (x : List Token). h.0 ∷ x) h.3.4)

pub use_able : (D : List Token → Type 0) → Able D → Able (UseThen D)
use_able D able = let a = sign_able kinds.Name (ArgumentsThen D) (arguments_able D able) in (a.0, to_use D a.0 a.1)

pub use_met : (D : List Token → Type 0) (tokens : List Token) → Able D → EndOnce tokens → Met 0 read_use pair (λ (_ : Use). D) (UseThen D) tokens
unfolding read_use
use_met D tokens able once =
    loosen 0 read_use pair (λ (_ : Use). D) (SignThen kinds.Name (ArgumentsThen D)) (UseThen D) tokens
    (one_then read_name use_behind pair (λ (_ : Use). D) (SignThen kinds.Name (ArgumentsThen D)) (λ (_ : Word). ArgumentsThen D) tokens (name_met (ArgumentsThen D) tokens (arguments_able D able) once) (λ name rest more. use_behind_met name D rest more))
    (to_use D)

-- the number and the `]` of a port
abbrev pub InnerThen : (List Token → Type 0) → List Token → Type 0
InnerThen D ts = (n : ℕ) × SignThen (kinds.Number n) (SignThen kinds.RightBracket D) ts

abbrev right_behind : ℕ → ℕ → List Token → Result (Option PortNumber × List Token) Fault
right_behind at n ts = read_right ts >>= λ rest. Ok (Some (record { at = at; number = n }), rest)

right_behind_is : (at n : ℕ) (ts : List Token) (x : Result (List Token) Fault) → read_right ts ≡ x → right_behind at n ts ≡ (x >>= λ rest. Ok (Some (record { at = at; number = n }), rest))
right_behind_is at n ts x e = rw e refl

right_by : (k : TokenKind) (at n : ℕ) (T : Bool → List Token → Type 0) (t : Token) (ts : List Token) → Able (T true) → EndOnce (t ∷ ts) → t.kind ≡ k
    → ((more : List Token) → read_right (t ∷ more) ≡ elim k as (λ _. Result (List Token) Fault) [ kinds.RightBracket ↦ Ok more | _ ↦ Err (fault_at t) ])
    → Met 0 (right_behind at n) pair (λ (o : Option PortNumber). T (is_some o)) (SignThen kinds.RightBracket (T true)) (t ∷ ts)
right_by kinds.RightBracket at n T t ts able once k g =
    loosen 1 (right_behind at n) pair (λ (o : Option PortNumber). T (is_some o)) (SignThen kinds.RightBracket (T true)) (SignThen kinds.RightBracket (T true)) (t ∷ ts)
    (takes (right_behind at n) pair (λ (o : Option PortNumber). T (is_some o)) (SignThen kinds.RightBracket (T true)) (Some (record { at = at; number = n })) t ts (behind_other t ts kinds.RightBracket k (λ x. x) once) (λ rest d. (t, k, rest, d, refl)) (λ more. right_behind_is at n (t ∷ more) (Ok more) (g more)))
    (λ x h. h)
right_by _ at n T t ts able once k g =
    let a = sign_able kinds.RightBracket (T true) able in
    fails 0 (right_behind at n) pair (λ (o : Option PortNumber). T (is_some o)) (SignThen kinds.RightBracket (T true)) t ts a.0 a.1 (λ more. right_behind_is at n (t ∷ more) (Err (fault_at t)) (g more))

right_behind_met : (at n : ℕ) (T : Bool → List Token → Type 0) (tokens : List Token) → Able (T true) → EndOnce tokens → Met 0 (right_behind at n) pair (λ (o : Option PortNumber). T (is_some o)) (SignThen kinds.RightBracket (T true)) tokens
unfolding read_right
right_behind_met at n T [] able once = absurd once
right_behind_met at n T (t ∷ ts) able once = right_by t.kind at n T t ts able once refl (λ more. refl)

number_by : (k : TokenKind) (D : List Token → Type 0) (t : Token) (ts : List Token) → Able D → EndOnce (t ∷ ts) → t.kind ≡ k
    → ((more : List Token) → read_number (t ∷ more) ≡ elim k as (λ _. Result (ℕ × List Token) Fault) [ kinds.Number n ↦ Ok (n, more) | _ ↦ Err (fault_at t) ])
    → Met 0 read_number pair (λ (_ : ℕ). D) (λ (x : List Token). (n : ℕ) × SignThen (kinds.Number n) D x) (t ∷ ts)
number_by (kinds.Number n) D t ts able once k g =
    loosen 1 read_number pair (λ (_ : ℕ). D) (λ (x : List Token). (n : ℕ) × SignThen (kinds.Number n) D x) (λ (x : List Token). (n : ℕ) × SignThen (kinds.Number n) D x) (t ∷ ts)
    (takes read_number pair (λ (_ : ℕ). D) (λ (x : List Token). (n : ℕ) × SignThen (kinds.Number n) D x) n t ts (behind_other t ts (kinds.Number n) k (λ x. x) once) (λ rest d. (n, (t, k, rest, d, refl))) g) (λ x h. h)
number_by _ D t ts able once k g =
    let a = sign_able (kinds.Number 0) D able in fails 0 read_number pair (λ (_ : ℕ). D) (λ (x : List Token). (n : ℕ) × SignThen (kinds.Number n) D x) t ts a.0 (0, a.1) g

number_met : (D : List Token → Type 0) (tokens : List Token) → Able D → EndOnce tokens → Met 0 read_number pair (λ (_ : ℕ). D) (λ (x : List Token). (n : ℕ) × SignThen (kinds.Number n) D x) tokens
unfolding read_number
number_met D [] able once = absurd once
number_met D (t ∷ ts) able once = number_by t.kind D t ts able once refl (λ more. refl)

inner_met : (at : ℕ) (T : Bool → List Token → Type 0) (tokens : List Token) → Able (T true) → EndOnce tokens → Met 0 (read_inner at) pair (λ (o : Option PortNumber). T (is_some o)) (InnerThen (T true)) tokens
unfolding read_inner
inner_met at T tokens able once =
    one_then read_number (right_behind at) pair (λ (o : Option PortNumber). T (is_some o)) (InnerThen (T true)) (λ (_ : ℕ). SignThen kinds.RightBracket (T true)) tokens
    (number_met (SignThen kinds.RightBracket (T true)) tokens (sign_able kinds.RightBracket (T true) able) once) (λ n rest more. right_behind_met at n T rest able more)

-- [ "[" NUMBER "]" ], then what may stand behind it or without it
abbrev pub PortThen : (Bool → List Token → Type 0) → List Token → Type 0
PortThen T ts = (p : Option PortTree) × IfSome p IsPort × (rest : List Token) × T (is_some p) rest × (ts ≡ print_port p ++ rest)

to_port : (T : Bool → List Token → Type 0) (t : Token) (ts : List Token) → t.kind ≡ kinds.LeftBracket → InnerThen (T true) ts → PortThen T (t ∷ ts)
to_port T t ts k h =
    let right = h.1.3 in
    (Some (record { left = t; number = h.1.0; right = right.0; value = h.0 }), (k, h.1.1, right.1), right.2, right.3, ap (λ (x : List Token). t ∷ x) (h.1.4 ∙ ap (λ (x : List Token). h.1.0 ∷ x) right.4))

port_by : (k : TokenKind) (T : Bool → List Token → Type 0) (t : Token) (ts : List Token) → Able (T true) → EndOnce (t ∷ ts) → t.kind ≡ k
    → ((more : List Token) → read_port (t ∷ more) ≡ elim k as (λ _. Result (Option PortNumber × List Token) Fault) [ kinds.LeftBracket ↦ read_inner t.from more | _ ↦ Ok (None, t ∷ more) ])
    → Met 0 read_port pair (λ (o : Option PortNumber). T (is_some o)) (PortThen T) (t ∷ ts)
port_by kinds.LeftBracket T t ts able once k g =
    loosen 1 read_port pair (λ (o : Option PortNumber). T (is_some o)) (PortThen T) (PortThen T) (t ∷ ts)
    (goes_behind 0 read_port (read_inner t.from) pair (λ (o : Option PortNumber). T (is_some o)) (PortThen T) (InnerThen (T true)) t ts (inner_met t.from T ts able (behind_other t ts kinds.LeftBracket k (λ x. x) once)) (λ rest h. to_port T t rest k h) g) (λ x h. h)
port_by _ T t ts able once k g = leaves read_port pair (λ (o : Option PortNumber). T (is_some o)) (PortThen T) None t ts once (λ rest d. (None, tt, rest, d, refl)) g

pub port_met : (T : Bool → List Token → Type 0) (tokens : List Token) → Able (T true) → EndOnce tokens → Met 0 read_port pair (λ (o : Option PortNumber). T (is_some o)) (PortThen T) tokens
unfolding read_port
port_met T [] able once = absurd once
port_met T (t ∷ ts) able once = port_by t.kind T t ts able once refl (λ more. refl)

pub port_able : (T : Bool → List Token → Type 0) → Able (T false) → Able (PortThen T)
port_able T able = (able.0, (None, tt, able.0, able.1, refl))

-- item = NAME | NAME "::" use | use
abbrev pub ItemThen : (List Token → Type 0) → List Token → Type 0
ItemThen D ts = (i : ItemTree) × IsItem i × (rest : List Token) × D rest × (ts ≡ print_item i ++ rest)

-- an item behind its first name
abbrev pub BehindThen : (List Token → Type 0) → List Token → Type 0
BehindThen D ts = (n : Token) → n.kind ≡ kinds.Name → ItemThen D (n ∷ ts)

pub item_able : (D : List Token → Type 0) → Able D → Able (ItemThen D)
item_able D able = (made_up kinds.Name ∷ able.0, (alone (made_up kinds.Name), refl, able.0, able.1, refl))

behind_able : (D : List Token → Type 0) → Able D → Able (BehindThen D)
behind_able D able = (able.0, λ n e. (alone n, e, able.0, able.1, refl))

declared_met : (name : Word) (D : List Token → Type 0) (tokens : List Token) → Able D → EndOnce tokens → Met 0 (read_declared name) pair (λ (_ : Item). D) (UseThen D) tokens
unfolding read_declared
declared_met name D tokens able once = told_as read_use (λ (u : Use). items.Declared name u) pair (λ (_ : Item). D) (UseThen D) tokens (use_met D tokens able once)

behind_by : (k : TokenKind) (name : Word) (D : List Token → Type 0) (t : Token) (ts : List Token) → Able D → EndOnce (t ∷ ts) → t.kind ≡ k
    → ((more : List Token) → read_behind name (t ∷ more) ≡ elim k as (λ _. Result (Item × List Token) Fault) [
      | kinds.Colons ↦ read_declared name more
      | kinds.Arguments ↦ Ok (items.Made (record { class = name; arguments = Some (word t) }), more)
      | _ ↦ Ok (items.Name name, t ∷ more)
    ])
    → Met 0 (read_behind name) pair (λ (_ : Item). D) (BehindThen D) (t ∷ ts)
behind_by kinds.Colons name D t ts able once k g =
    loosen 1 (read_behind name) pair (λ (_ : Item). D) (BehindThen D) (BehindThen D) (t ∷ ts)
    (goes_behind 0 (read_behind name) (read_declared name) pair (λ (_ : Item). D) (BehindThen D) (UseThen D) t ts (declared_met name D ts able (behind_other t ts kinds.Colons k (λ x. x) once))
    (λ rest h. λ n e. (named n t h.0, (e, k, h.1), h.2, h.3, ap (λ (x : List Token). n ∷ t ∷ x) h.4)) g)
    (λ x h. h)
behind_by kinds.Arguments name D t ts able once k g =
    loosen 1 (read_behind name) pair (λ (_ : Item). D) (BehindThen D) (BehindThen D) (t ∷ ts)
    (takes (read_behind name) pair (λ (_ : Item). D) (BehindThen D) (items.Made (record { class = name; arguments = Some (word t) })) t ts (behind_other t ts kinds.Arguments k (λ x. x) once) (λ rest d. λ n e. (made n t, (e, k), rest, d, refl)) g)
    (λ x h. h)
behind_by _ name D t ts able once k g = leaves (read_behind name) pair (λ (_ : Item). D) (BehindThen D) (items.Name name) t ts once (λ rest d. λ n e. (alone n, e, rest, d, refl)) g

behind_met : (name : Word) (D : List Token → Type 0) (tokens : List Token) → Able D → EndOnce tokens → Met 0 (read_behind name) pair (λ (_ : Item). D) (BehindThen D) tokens
unfolding read_behind
behind_met name D [] able once = absurd once
behind_met name D (t ∷ ts) able once = behind_by t.kind name D t ts able once refl (λ more. refl)

to_item : (D : List Token → Type 0) (ts : List Token) → SignThen kinds.Name (BehindThen D) ts → ItemThen D ts
to_item D ts h = let i = h.3 h.0 h.1 in (i.0, i.1, i.2, i.3, h.4 ∙ i.4)

item_met : (D : List Token → Type 0) (tokens : List Token) → Able D → EndOnce tokens → Met 0 read_item pair (λ (_ : Item). D) (ItemThen D) tokens
unfolding read_item
item_met D tokens able once =
    loosen 0 read_item pair (λ (_ : Item). D) (SignThen kinds.Name (BehindThen D)) (ItemThen D) tokens
    (one_then read_name read_behind pair (λ (_ : Item). D) (SignThen kinds.Name (BehindThen D)) (λ (_ : Word). BehindThen D) tokens (name_met (BehindThen D) tokens (behind_able D able) once) (λ name rest more. behind_met name D rest able more))
    (to_item D)

-- the output port of an end
abbrev pub end_with : Option PortNumber → Item → Option PortNumber → Endpoint
end_with input item output = record { input = input; item = item; output = output }

abbrev pub output_behind : Option PortNumber → Item → List Token → Result (Endpoint × List Token) Fault
output_behind input item ts = read_port ts >>= λ output. Ok (end_with input item output.0, output.1)

output_met : (input : Option PortNumber) (item : Item) (T : Bool → List Token → Type 0) (tokens : List Token) → Able (T true) → EndOnce tokens → Met 0 (output_behind input item) pair (λ (e : Endpoint). T (has_port e)) (PortThen T) tokens
output_met input item T tokens able once = told_as read_port (end_with input item) pair (λ (e : Endpoint). T (has_port e)) (PortThen T) tokens (port_met T tokens able once)

endpoint_met : (input : Option PortNumber) (T : Bool → List Token → Type 0) (tokens : List Token) → Able (T true) → Able (T false) → EndOnce tokens → Met 0 (read_endpoint input) pair (λ (e : Endpoint). T (has_port e)) (ItemThen (PortThen T)) tokens
unfolding read_endpoint
endpoint_met input T tokens able other once =
    one_then read_item (output_behind input) pair (λ (e : Endpoint). T (has_port e)) (ItemThen (PortThen T)) (λ (_ : Item). PortThen T) tokens (item_met (PortThen T) tokens (port_able T other) once) (λ item rest more. output_met input item T rest able more)

-- end = [ "[" NUMBER "]" ] item [ "[" NUMBER "]" ]
abbrev pub EndpointThen : (Bool → List Token → Type 0) → List Token → Type 0
EndpointThen T ts = PortThen (λ (_ : Bool). ItemThen (PortThen T)) ts

pub whole_endpoint_met : (T : Bool → List Token → Type 0) (tokens : List Token) → Able (T true) → Able (T false) → EndOnce tokens → Met 0 read_whole_endpoint pair (λ (e : Endpoint). T (has_port e)) (EndpointThen T) tokens
unfolding read_whole_endpoint
whole_endpoint_met T tokens able other once =
    one_then read_port read_endpoint pair (λ (e : Endpoint). T (has_port e)) (EndpointThen T) (λ (_ : Option PortNumber). ItemThen (PortThen T)) tokens
    (port_met (λ (_ : Bool). ItemThen (PortThen T)) tokens (item_able (PortThen T) (port_able T other)) once) (λ input rest more. endpoint_met input T rest able other more)

-- an end without an input port, behind its first name
abbrev pub endpoint_behind : Word → List Token → Result (Endpoint × List Token) Fault
endpoint_behind name ts = both (read_behind name) (output_behind None) ts

pub endpoint_behind_met : (name : Word) (T : Bool → List Token → Type 0) (tokens : List Token) → Able (T true) → Able (T false) → EndOnce tokens → Met 0 (endpoint_behind name) pair (λ (e : Endpoint). T (has_port e)) (BehindThen (PortThen T)) tokens
endpoint_behind_met name T tokens able other once =
    one_then (read_behind name) (output_behind None) pair (λ (e : Endpoint). T (has_port e)) (BehindThen (PortThen T)) (λ (_ : Item). PortThen T) tokens (behind_met name (PortThen T) tokens (port_able T other) once) (λ item rest more. output_met None item T rest able more)
