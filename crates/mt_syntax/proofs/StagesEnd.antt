-- What may stand behind each stage of reading, so that a configuration ends.
use Rattle.std.proofs.Common.{◌≡◌, List, [], ◌∷◌, ◌++◌, Bool, true, false, Option, Some, None, refl, sym, ap, ◌∙◌, append_assoc}
use Rattle.std.specs.Prelude.{IfSome, is_some}
use Rattle.std.proofs.lemmas.List.{append-nil}
use Rattle.mt_syntax.specs.declared.token.TokenKind.TheVariants as kinds
use Rattle.mt_syntax.specs.declared.token.Token.{Token}
use Rattle.mt_syntax.specs.declared.advance.Stage.{Stage}
use Rattle.mt_syntax.specs.declared.advance.Stage.TheVariants as stages
use Rattle.mt_syntax.specs.Grammar.{print_use, PortTree, print_port, IsPort, print_item, EndpointTree, print_endpoint, IsEndpoint, print_endpoints, AreEndpoints, print_more, AreMore, StatementTree, print_statement, IsStatement, InnerTree, print_body, IsApart, IsBody, ParameterTree, print_parameters, AreParameters, ClassTree, print_class, OuterTree, print_config, IsSeparate, IsConfig}
use Rattle.mt_syntax.specs.Grammar.ItemTree.{alone, named}
use Rattle.mt_syntax.specs.Grammar.StatementTree.{connect, declare}
use Rattle.mt_syntax.specs.Grammar.InnerTree.{sign, plain}
use Rattle.mt_syntax.specs.Grammar.OuterTree.{outer, class}
use Rattle.mt_syntax.proofs.StatementsPrinted.{tail_endpoints, endpoints_printed}
use Rattle.mt_syntax.proofs.EndpointsMet.{Able, made_up, SignThen, sign_able, UseThen, use_able, PortThen, ItemThen, EndpointThen}

-- at the begin of a statement
abbrev pub AtBegin : Bool → List Token → Type 0
AtBegin false ts = (us : List OuterTree) × IsConfig us × (ts ≡ print_config us)
AtBegin true ts = (us : List InnerTree) × IsBody us × (right : Token) × (right.kind ≡ kinds.RightBrace) × (after : List OuterTree) × IsConfig after × (ts ≡ print_body us ++ right ∷ print_config after)

-- behind a statement
abbrev pub AtDone : Bool → List Token → Type 0
AtDone false ts = (us : List OuterTree) × IsConfig us × IsSeparate us × (ts ≡ print_config us)
AtDone true ts =
    (us : List InnerTree) × IsBody us × IsApart us × (right : Token) × (right.kind ≡ kinds.RightBrace) × (after : List OuterTree) × IsConfig after × (ts ≡ print_body us ++ right ∷ print_config after)

-- behind an end of a connection, which has an output port or none
abbrev pub AreTail : Bool → List (Token × EndpointTree) → Type 0
AreTail port [] = port ≡ false
AreTail port (next ∷ more) = (next.0.kind ≡ kinds.Arrow) × AreEndpoints next.1 more

abbrev pub AtTail : Bool → Bool → List Token → Type 0
AtTail inside port ts = (more : List (Token × EndpointTree)) × AreTail port more × (rest : List Token) × AtDone inside rest × (ts ≡ tail_endpoints more ++ rest)

-- behind a name of a declaration
abbrev pub AtNames : Bool → List Token → Type 0
AtNames inside ts = (more : List (Token × Token)) × AreMore kinds.Name more × (rest : List Token) × SignThen kinds.Colons (UseThen (AtDone inside)) rest × (ts ≡ print_more more ++ rest)

-- behind the `{` of a class, and behind a parameter
abbrev pub AtHead : List Token → Type 0
AtHead ts = (p : Option ParameterTree) × IfSome p AreParameters × (rest : List Token) × AtBegin true rest × (ts ≡ print_parameters p ++ rest)

abbrev pub AtParameters : List Token → Type 0
AtParameters ts = (more : List (Token × Token)) × AreMore kinds.Parameter more × (rest : List Token) × SignThen kinds.Bar (AtBegin true) rest × (ts ≡ print_more more ++ rest)

abbrev pub Ends : Stage → Bool → List Token → Type 0
Ends stages.Begin inside ts = AtBegin inside ts
Ends stages.Done inside ts = AtDone inside ts
Ends (stages.Ended port) inside ts = AtTail inside port ts
Ends stages.Names inside ts = AtNames inside ts
Ends stages.Head inside ts = AtHead ts
Ends stages.Parameters inside ts = AtParameters ts

-- each can be ended

pub begin_able : (inside : Bool) → Able (AtBegin inside)
begin_able false = ([], ([], tt, refl))
begin_able true = (made_up kinds.RightBrace ∷ [], ([], tt, made_up kinds.RightBrace, refl, [], tt, refl))

pub done_able : (inside : Bool) → Able (AtDone inside)
done_able false = ([], ([], tt, tt, refl))
done_able true = (made_up kinds.RightBrace ∷ [], ([], tt, tt, made_up kinds.RightBrace, refl, [], tt, refl))

abbrev only_name : EndpointTree
only_name = record { input = None; item = alone (made_up kinds.Name); output = None }

pub tail_able : (inside port : Bool) → Able (AtTail inside port)
tail_able inside false = let d = done_able inside in (d.0, ([], refl, d.0, d.1, refl))
tail_able inside true =
    let d = done_able inside in (made_up kinds.Arrow ∷ made_up kinds.Name ∷ d.0, ((made_up kinds.Arrow, only_name) ∷ [], (refl, ((tt, refl, tt), refl)), d.0, d.1, refl))

pub names_able : (inside : Bool) → Able (AtNames inside)
names_able inside = let a = sign_able kinds.Colons (UseThen (AtDone inside)) (use_able (AtDone inside) (done_able inside)) in (a.0, ([], tt, a.0, a.1, refl))

pub head_able : Able AtHead
head_able = let b = begin_able true in (b.0, (None, tt, b.0, b.1, refl))

pub parameters_able : Able AtParameters
parameters_able = let a = sign_able kinds.Bar (AtBegin true) (begin_able true) in (a.0, ([], tt, a.0, a.1, refl))

-- how the ends of the stages go together

join : (a b x y z : List Token) → x ≡ a ++ y → y ≡ b ++ z → x ≡ (a ++ b) ++ z
join a b x y z e f = e ∙ ap (λ (l : List Token). a ++ l) f ∙ sym (append_assoc a b z)

pub done_begin : (inside : Bool) (ts : List Token) → AtDone inside ts → AtBegin inside ts
done_begin false ts h = (h.0, h.1, h.3)
done_begin true ts h = (h.0, h.1, h.3, h.4, h.5, h.6, h.7)

pub done_tail : (inside : Bool) (ts : List Token) → AtDone inside ts → AtTail inside false ts
done_tail inside ts h = ([], refl, ts, h, refl)

pub sign_done : (inside : Bool) (t : Token) (ts : List Token) → t.kind ≡ kinds.Semicolon → AtBegin inside ts → AtDone inside (t ∷ ts)
sign_done false t ts k h = (outer (sign t) ∷ h.0, (k, h.1), tt, ap (λ (x : List Token). t ∷ x) h.2)
sign_done true t ts k h = (sign t ∷ h.0, (k, h.1), tt, h.2, h.3, h.4, h.5, ap (λ (x : List Token). t ∷ x) h.6)

pub close_done : (t : Token) (ts : List Token) → t.kind ≡ kinds.RightBrace → AtBegin false ts → AtDone true (t ∷ ts)
close_done t ts k h = ([], tt, tt, t, k, h.0, h.1, ap (λ (x : List Token). t ∷ x) h.2)

statement_begin : (inside : Bool) (s : StatementTree) (ts rest : List Token) → IsStatement s → AtDone inside rest → ts ≡ print_statement s ++ rest → AtBegin inside ts
statement_begin false s ts rest is h e = (outer (plain s) ∷ h.0, (is, h.2, h.1), e ∙ ap (λ (x : List Token). print_statement s ++ x) h.3)
statement_begin true s ts rest is h e =
    (plain s ∷ h.0, (is, h.2, h.1), h.3, h.4, h.5, h.6, join (print_statement s) (print_body h.0) ts rest (h.3 ∷ print_config h.5) e h.7)

are_endpoints : (e : EndpointTree) (more : List (Token × EndpointTree)) → IsEndpoint e → AreTail (is_some e.output) more → AreEndpoints e more
are_endpoints e [] is t = (is, none_of e.output t)
  where
    none_of : (o : Option PortTree) → is_some o ≡ false → o ≡ None
    none_of None h = refl
    none_of (Some p) h = absurd cc
are_endpoints e (next ∷ more) is t = (is, t.0, t.1)

-- an end, and what stands behind it
abbrev EndpointAndTail : Bool → Option PortTree → List Token → Type 0
EndpointAndTail inside input ts = (e : EndpointTree) × (e.input ≡ input) × (more : List (Token × EndpointTree)) × AreEndpoints e more × (rest : List Token) × AtDone inside rest × (ts ≡ (print_endpoint e ++ tail_endpoints more) ++ rest)

endpoint_and_tail : (inside : Bool) (p : Option PortTree) (ts rest : List Token) → IfSome p IsPort → ItemThen (PortThen (AtTail inside)) rest → ts ≡ print_port p ++ rest → EndpointAndTail inside p ts
endpoint_and_tail inside p ts rest is h e =
    let i = h.0 in
    let out = h.3 in
    let o = out.0 in
    let tail = out.3 in
    let tree : EndpointTree = record { input = p; item = i; output = o } in
    let late = join (print_item i) (print_port o) rest h.2 out.2 h.4 out.4 in
    let whole = join (print_port p) (print_item i ++ print_port o) ts rest out.2 e late in
    (tree, refl, tail.0, are_endpoints tree tail.0 (is, h.1, out.1) tail.1, tail.2, tail.3, join (print_endpoint tree) (tail_endpoints tail.0) ts out.2 tail.2 whole tail.4)

pub next_tail : (inside port : Bool) (t : Token) (ts : List Token) → t.kind ≡ kinds.Arrow → EndpointThen (AtTail inside) ts → AtTail inside port (t ∷ ts)
next_tail inside port t ts k h =
    let x = endpoint_and_tail inside h.0 ts h.2 h.1 h.3 h.4 in
    ((t, x.0) ∷ x.2, (k, x.3), x.4, x.5, ap (λ (l : List Token). t ∷ l) x.6)

pub first_begin : (inside : Bool) (ts : List Token) → ItemThen (PortThen (AtTail inside)) ts → AtBegin inside ts
first_begin inside ts h =
    let x = endpoint_and_tail inside None ts ts tt h refl in
    statement_begin inside (connect x.0 x.2) ts x.4 (x.1, x.3) x.5 (x.6 ∙ ap (λ (l : List Token). l ++ x.4) (sym (endpoints_printed x.0 x.2)))

pub names_begin : (inside : Bool) (n : Token) (ts : List Token) → n.kind ≡ kinds.Name → AtNames inside ts → AtBegin inside (n ∷ ts)
names_begin inside n ts k ([], is, rest, use_rest, e) =
    let u = use_rest.3 in
    let tree : EndpointTree = record { input = None; item = named n use_rest.0 u.0; output = None } in
    let whole : n ∷ ts ≡ print_endpoints tree [] ++ u.2 = ap (λ (l : List Token). n ∷ l) (e ∙ use_rest.4 ∙ ap (λ (l : List Token). use_rest.0 ∷ l) (u.4 ∙ ap (λ (l : List Token). l ++ u.2) (sym (append-nil (print_use u.0))))) in
    statement_begin inside (connect tree []) (n ∷ ts) u.2 (refl, ((tt, (k, use_rest.1, u.1), tt), refl)) u.3 whole
names_begin inside n ts k (next ∷ more, is, rest, use_rest, e) =
    let u = use_rest.3 in
    let last : rest ≡ (use_rest.0 ∷ print_use u.0) ++ u.2 = use_rest.4 ∙ ap (λ (l : List Token). use_rest.0 ∷ l) u.4 in
    let whole = join (print_more (next ∷ more)) (use_rest.0 ∷ print_use u.0) ts rest u.2 e last in
    statement_begin inside (declare n next more use_rest.0 u.0) (n ∷ ts) u.2 (k, is, use_rest.1, u.1) u.3 (ap (λ (l : List Token). n ∷ l) whole)

pub more_names : (inside : Bool) (comma : Token) (ts : List Token) → comma.kind ≡ kinds.Comma → SignThen kinds.Name (AtNames inside) ts → AtNames inside (comma ∷ ts)
more_names inside comma ts k h =
    ((comma, h.0) ∷ h.3.0, (k, h.1, h.3.1), h.3.2, h.3.3, ap (λ (l : List Token). comma ∷ l) (h.4 ∙ ap (λ (l : List Token). h.0 ∷ l) h.3.4))

pub made_names : (inside : Bool) (colons : Token) (ts : List Token) → colons.kind ≡ kinds.Colons → UseThen (AtDone inside) ts → AtNames inside (colons ∷ ts)
made_names inside colons ts k h = ([], tt, colons ∷ ts, (colons, k, ts, h, refl), refl)

pub bar_parameters : (bar : Token) (ts : List Token) → bar.kind ≡ kinds.Bar → AtBegin true ts → AtParameters (bar ∷ ts)
bar_parameters bar ts k h = ([], tt, bar ∷ ts, (bar, k, ts, h, refl), refl)

pub more_parameters : (comma : Token) (ts : List Token) → comma.kind ≡ kinds.Comma → SignThen kinds.Parameter AtParameters ts → AtParameters (comma ∷ ts)
more_parameters comma ts k h =
    ((comma, h.0) ∷ h.3.0, (k, h.1, h.3.1), h.3.2, h.3.3, ap (λ (l : List Token). comma ∷ l) (h.4 ∙ ap (λ (l : List Token). h.0 ∷ l) h.3.4))

pub parameters_head : (ts : List Token) → SignThen kinds.Parameter AtParameters ts → AtHead ts
parameters_head ts h =
    let p = h.3 in
    let bar = p.3 in
    let last : p.2 ≡ (bar.0 ∷ []) ++ bar.2 = bar.4 in
    (Some (record { first = h.0; more = p.0; bar = bar.0 }), (h.1, p.1, bar.1), bar.2, bar.3, h.4 ∙ ap (λ (l : List Token). h.0 ∷ l) (join (print_more p.0) (bar.0 ∷ []) h.2 p.2 bar.2 p.4 last))

pub begin_head : (ts : List Token) → AtBegin true ts → AtHead ts
begin_head ts h = (None, tt, ts, h, refl)

pub class_begin : (keyword : Token) (ts : List Token) → keyword.kind ≡ kinds.Keyword → SignThen kinds.Name (SignThen kinds.LeftBrace AtHead) ts → AtBegin false (keyword ∷ ts)
class_begin keyword ts k h =
    let left = h.3 in
    let head = left.3 in
    let body = head.3 in
    let tree : ClassTree = record { keyword = keyword; name = h.0; left = left.0; parameters = head.0; body = body.0; right = body.2 } in
    let inner = join (print_body body.0) (body.2 ∷ []) head.2 (body.2 ∷ print_config body.4) (print_config body.4) body.6 refl in
    let late = join (print_parameters head.0) (print_body body.0 ++ (body.2 ∷ [])) left.2 head.2 (print_config body.4) head.4 inner in
    let whole : keyword ∷ ts ≡ print_class tree ++ print_config body.4 = ap (λ (l : List Token). keyword ∷ l) (h.4 ∙ ap (λ (l : List Token). h.0 ∷ l) (left.4 ∙ ap (λ (l : List Token). left.0 ∷ l) late)) in
    (class tree ∷ body.4, ((k, h.1, left.1, head.1, body.1, body.3), body.5), whole)
