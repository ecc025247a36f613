-- What is printed for a class or a configuration is read as its phrases.
use Rattle.std.proofs.Common.{◌≡◌, ◌⊎◌, ℕ, suc, ◌+◌, ◌-◌, ◌<◌, ◌≤◌, List, [], ◌∷◌, ◌++◌, length, Bool, true, false, cond, Option, Some, None, Ok, Err, refl, sym, ap, subst, ◌∙◌, inl, inr, arith, append_assoc, length-append}
use Rattle.std.specs.Prelude.{IfSome}
use Rattle.std.specs.Option.{option_map}
use Rattle.mt_syntax.specs.declared.token.TokenKind.{TokenKind}
use Rattle.mt_syntax.specs.declared.token.TokenKind.TheVariants as kinds
use Rattle.mt_syntax.specs.declared.token.Token.{Token}
use Rattle.mt_syntax.specs.declared.phrase.Phrase.{Phrase}
use Rattle.mt_syntax.specs.declared.phrase.Phrase.TheVariants as phrases
use Rattle.mt_syntax.specs.declared.advance.Stage.{Stage}
use Rattle.mt_syntax.specs.declared.advance.Stage.TheVariants as stages
use Rattle.mt_syntax.proofs.ReadLoop.{with_front, whole}
use Rattle.mt_syntax.specs.Reading.{Advanced, onward, quiet, told, word, fault_at, read_done, read_names, read_name_more, read_made, read_after_name, read_left, read_class, read_begin, read_after_endpoint, read_next, read_parameter, read_after_parameter, read_head, read_advance, phrases_from, phrases_of_tokens}
use Rattle.mt_syntax.specs.Grammar.{UseTree, print_use, IsUse, use_of, PortTree, print_port, port_of, ItemTree, print_item, IsItem, item_of, EndpointTree, print_endpoint, IsEndpoint, endpoint_of, print_endpoints, AreEndpoints, next_endpoints, print_more, AreMore, more_names, StatementTree, print_statement, IsStatement, statement_phrases, InnerTree, print_body, IsApart, IsBody, body_phrases, ParameterTree, print_parameters, AreParameters, more_parameters, parameter_phrases, ClassTree, print_class, IsClass, class_phrases, OuterTree, print_config, IsSeparate, IsConfig, config_phrases, ArePrinted}
use Rattle.mt_syntax.specs.Grammar.ItemTree.{alone, named, made}
use Rattle.mt_syntax.specs.Grammar.StatementTree.{connect, declare}
use Rattle.mt_syntax.specs.Grammar.InnerTree.{sign, plain}
use Rattle.mt_syntax.specs.Grammar.OuterTree.{outer, class}
use Rattle.mt_syntax.proofs.EndpointsPrinted.{EndsItem, name_again, use_again, endpoint_to_item, Runs, one_advance, after}
use Rattle.mt_syntax.proofs.StatementsPrinted.{EndsStatement, ends_endpoint, tail_endpoints, endpoints_printed, tail_follows, first_is, tail_run, first_advance}

-- a connection
input_first : (e : EndpointTree) → e.input ≡ None → print_endpoint e ≡ print_item e.item ++ print_port e.output
input_first e h = ap (λ (p : Option PortTree). print_port p ++ (print_item e.item ++ print_port e.output)) h

without_input : (e : EndpointTree) → e.input ≡ None → phrases.First (record { input = None; item = item_of e.item; output = option_map port_of e.output }) ≡ phrases.First (endpoint_of e)
without_input e h = ap (λ (p : Option PortTree). phrases.First (record { input = option_map port_of p; item = item_of e.item; output = option_map port_of e.output })) (sym h)

connect_run : (e : EndpointTree) (more : List (Token × EndpointTree)) (inside : Bool) (t : Token) (ts : List Token) → e.input ≡ None → AreEndpoints e more → EndsStatement t.kind
    → Runs (1 + length more) stages.Begin inside (print_endpoints e more ++ t ∷ ts) (phrases.First (endpoint_of e) ∷ next_endpoints more) (stages.Ended false) inside (t ∷ ts)
connect_run e more inside t ts h a k =
    let rest = tail_endpoints more ++ t ∷ ts in
    let is : IsEndpoint e = first_is e more a in
    let printed : print_endpoints e more ≡ (print_item e.item ++ print_port e.output) ++ tail_endpoints more = endpoints_printed e more ∙ ap (λ (x : List Token). x ++ tail_endpoints more) (input_first e h) in
    let g : print_endpoints e more ++ t ∷ ts ≡ print_item e.item ++ (print_port e.output ++ rest) = ap (λ (x : List Token). x ++ t ∷ ts) printed ∙ append_assoc (print_item e.item ++ print_port e.output) (tail_endpoints more) (t ∷ ts) ∙ append_assoc (print_item e.item) (print_port e.output) rest in
    let m = first_advance inside e.item e.output rest is.1 is.2 (tail_follows e more t ts a k) in
    let one = one_advance stages.Begin inside (print_item e.item ++ (print_port e.output ++ rest)) _ rest m in
    let two = tail_run more e inside t ts a k in
    let both = after 1 (length more) stages.Begin inside _ (phrases.First (record { input = None; item = item_of e.item; output = option_map port_of e.output }) ∷ []) _ inside rest (next_endpoints more) _ inside (t ∷ ts) one two in
    subst (λ (x : List Token). Runs (1 + length more) stages.Begin inside x (phrases.First (endpoint_of e) ∷ next_endpoints more) (stages.Ended false) inside (t ∷ ts)) (sym g)
    (subst (λ (p : Phrase). Runs (1 + length more) stages.Begin inside (print_item e.item ++ (print_port e.output ++ rest)) (p ∷ next_endpoints more) (stages.Ended false) inside (t ∷ ts)) (without_input e h) both)

-- a declaration
comma_is : (k : TokenKind) → k ≡ kinds.Comma → elim k as (λ _. Bool) [ kinds.Comma ↦ true | _ ↦ false ] ≡ true
comma_is k e = rw e refl

name_begins : (k : TokenKind) (inside : Bool) (t : Token) (ts : List Token) → k ≡ kinds.Name
    → elim k as (λ _. Advanced) [ kinds.Name ↦ read_names inside (t ∷ ts) | kinds.Keyword ↦ cond inside (Err (fault_at t)) (read_class ts) | _ ↦ read_done inside (t ∷ ts) ] ≡ read_names inside (t ∷ ts)
name_begins k inside t ts e = rw e refl

declared_advance : (inside : Bool) (n comma : Token) (ts : List Token) → n.kind ≡ kinds.Name → comma.kind ≡ kinds.Comma
    → read_advance stages.Begin inside (n ∷ comma ∷ ts) ≡ onward (told (phrases.Declared (word n)) stages.Names inside) (comma ∷ ts)
unfolding read_advance read_begin read_names
declared_advance inside n comma ts e c = name_begins n.kind inside n (comma ∷ ts) e ∙ rw (name_again n (comma ∷ ts) e) (rw (comma_is comma.kind c) refl)

after_name_by : (k : TokenKind) (inside : Bool) (t : Token) (ts : List Token) → k ≡ kinds.Comma
    → elim k as (λ _. Advanced) [ kinds.Comma ↦ read_name_more inside ts | kinds.Colons ↦ read_made inside ts | _ ↦ Err (fault_at t) ] ≡ read_name_more inside ts
after_name_by k inside t ts e = rw e refl

after_colons_by : (k : TokenKind) (inside : Bool) (t : Token) (ts : List Token) → k ≡ kinds.Colons
    → elim k as (λ _. Advanced) [ kinds.Comma ↦ read_name_more inside ts | kinds.Colons ↦ read_made inside ts | _ ↦ Err (fault_at t) ] ≡ read_made inside ts
after_colons_by k inside t ts e = rw e refl

further_advance : (inside : Bool) (comma n : Token) (ts : List Token) → comma.kind ≡ kinds.Comma → n.kind ≡ kinds.Name
    → read_advance stages.Names inside (comma ∷ n ∷ ts) ≡ onward (told (phrases.Declared (word n)) stages.Names inside) ts
unfolding read_advance read_after_name read_name_more
further_advance inside comma n ts c e = after_name_by comma.kind inside comma (n ∷ ts) c ∙ rw (name_again n ts e) refl

made_advance : (inside : Bool) (colons : Token) (u : UseTree) (t : Token) (ts : List Token) → colons.kind ≡ kinds.Colons → IsUse u → EndsItem t.kind
    → read_advance stages.Names inside (colons ∷ (print_use u ++ t ∷ ts)) ≡ onward (told (phrases.Made (use_of u)) stages.Done inside) (t ∷ ts)
unfolding read_advance read_after_name read_made
made_advance inside colons u t ts c h k = after_colons_by colons.kind inside colons (print_use u ++ t ∷ ts) c ∙ rw (use_again u.class u.arguments t ts h.0 h.1 k) refl

still : (stage : Stage) (inside : Bool) (ts : List Token) → Runs 0 stage inside ts [] stage inside ts
still stage inside ts n = let k : 0 + n ≡ n = omega arith in rw k (sym (whole (phrases_from n stage inside ts)))

names_run : (ms : List (Token × Token)) (inside : Bool) (rest : List Token) → AreMore kinds.Name ms → Runs (length ms) stages.Names inside (print_more ms ++ rest) (more_names ms) stages.Names inside rest
names_run [] inside rest h = still stages.Names inside rest
names_run (m ∷ ms) inside rest h =
    let one = one_advance stages.Names inside (m.0 ∷ m.1 ∷ (print_more ms ++ rest)) _ (print_more ms ++ rest) (further_advance inside m.0 m.1 (print_more ms ++ rest) h.0 h.1) in
    let both = after 1 (length ms) stages.Names inside _ (phrases.Declared (word m.1) ∷ []) stages.Names inside _ (more_names ms) stages.Names inside rest one (names_run ms inside rest h.2) in
    let l : 1 + length ms ≡ suc (length ms) = omega arith in
    rw (← l) both

declare_run : (first : Token) (next : Token × Token) (more : List (Token × Token)) (colons : Token) (last : UseTree) (inside : Bool) (t : Token) (ts : List Token) → IsStatement (declare first next more colons last) → EndsItem t.kind
    → Runs (1 + (length (next ∷ more) + 1)) stages.Begin inside (print_statement (declare first next more colons last) ++ t ∷ ts) (statement_phrases (declare first next more colons last)) stages.Done inside (t ∷ ts)
declare_run first next more colons last inside t ts h k =
    let ms = next ∷ more in
    let rest = colons ∷ (print_use last ++ t ∷ ts) in
    let g : print_statement (declare first next more colons last) ++ t ∷ ts ≡ first ∷ (print_more ms ++ rest) = ap (λ (x : List Token). first ∷ x) (append_assoc (print_more ms) (colons ∷ print_use last) (t ∷ ts)) in
    let one = one_advance stages.Begin inside (first ∷ (print_more ms ++ rest)) _ (print_more ms ++ rest) (declared_advance inside first next.0 (next.1 ∷ (print_more more ++ rest)) h.0 h.1.0) in
    let two = names_run ms inside rest h.1 in
    let three = one_advance stages.Names inside rest _ (t ∷ ts) (made_advance inside colons last t ts h.2 h.3 k) in
    let late = after (length ms) 1 stages.Names inside _ (more_names ms) stages.Names inside rest (phrases.Made (use_of last) ∷ []) stages.Done inside (t ∷ ts) two three in
    let all = after 1 (length ms + 1) stages.Begin inside _ (phrases.Declared (word first) ∷ []) stages.Names inside _ (more_names ms ++ phrases.Made (use_of last) ∷ []) stages.Done inside (t ∷ ts) one late in
    subst (λ (x : List Token). Runs (1 + (length ms + 1)) stages.Begin inside x (statement_phrases (declare first next more colons last)) stages.Done inside (t ∷ ts)) (sym g) all

-- a statement, and what stands behind it
abbrev pub Rests : Stage → Type 0
Rests stages.Begin = Unit {0}
Rests stages.Done = Unit {0}
Rests (stages.Ended port) = port ≡ false
Rests _ = ⊥

abbrev pub Closes : List Token → Type 0
Closes [] = ⊥
Closes (t ∷ ts) = EndsStatement t.kind

item_long : (i : ItemTree) → 0 < length (print_item i)
item_long (alone t) = omega arith
item_long (named t c u) = omega arith
item_long (made t a) = omega arith

ends_long : (e : EndpointTree) (more : List (Token × EndpointTree)) → length more < length (print_endpoints e more)
ends_long e [] = omega (arith, length-append (print_port e.input) (print_item e.item ++ print_port e.output), length-append (print_item e.item) (print_port e.output), item_long e.item)
ends_long e (next ∷ more) = omega (arith, length-append (print_endpoint e) (next.0 ∷ print_endpoints next.1 more), ends_long next.1 more)

more_long : (ms : List (Token × Token)) → length ms ≤ length (print_more ms)
more_long [] = omega arith
more_long (m ∷ ms) = omega (arith, more_long ms)

statement_run : (s : StatementTree) (inside : Bool) (rest : List Token) → IsStatement s → Closes rest
    → (k : ℕ) × (stage : Stage) × Rests stage × (k ≤ length (print_statement s)) × Runs k stages.Begin inside (print_statement s ++ rest) (statement_phrases s) stage inside rest
statement_run s inside [] h c = absurd c
statement_run (connect e more) inside (t ∷ ts) h c = (1 + length more, stages.Ended false, refl, omega (arith, ends_long e more), connect_run e more inside t ts h.0 h.1 c)
statement_run (declare first next more colons last) inside (t ∷ ts) h c =
    (1 + (length (next ∷ more) + 1), stages.Done, tt, omega (arith, more_long more, length-append (print_more (next ∷ more)) (colons ∷ print_use last)), declare_run first next more colons last inside t ts h (endpoint_to_item t.kind (ends_endpoint t.kind c)))

-- the end of a statement, from each stage at which one may end
begin_rests : (k : TokenKind) (inside : Bool) (t : Token) (ts : List Token) → EndsStatement k
    → elim k as (λ _. Advanced) [ kinds.Name ↦ read_names inside (t ∷ ts) | kinds.Keyword ↦ cond inside (Err (fault_at t)) (read_class ts) | _ ↦ read_done inside (t ∷ ts) ] ≡ read_done inside (t ∷ ts)
begin_rests kinds.Semicolon inside t ts h = refl
begin_rests kinds.RightBrace inside t ts h = refl
begin_rests kinds.Finish inside t ts h = refl
begin_rests _ inside t ts h = absurd h

ended_rests : (k : TokenKind) (inside : Bool) (t : Token) (ts : List Token) → EndsStatement k
    → elim k as (λ _. Advanced) [ kinds.Arrow ↦ read_next t.from inside ts | _ ↦ cond false (Err (fault_at t)) (read_done inside (t ∷ ts)) ] ≡ read_done inside (t ∷ ts)
ended_rests kinds.Semicolon inside t ts h = refl
ended_rests kinds.RightBrace inside t ts h = refl
ended_rests kinds.Finish inside t ts h = refl
ended_rests _ inside t ts h = absurd h

rests : (stage : Stage) (inside : Bool) (t : Token) (ts : List Token) → Rests stage → EndsStatement t.kind → read_advance stage inside (t ∷ ts) ≡ read_done inside (t ∷ ts)
unfolding read_advance read_begin read_after_endpoint
rests stages.Begin inside t ts r h = begin_rests t.kind inside t ts h
rests stages.Done inside t ts r h = refl
rests (stages.Ended port) inside t ts r h = subst (λ (b : Bool). read_advance (stages.Ended b) inside (t ∷ ts) ≡ read_done inside (t ∷ ts)) (sym r) (ended_rests t.kind inside t ts h)
rests stages.Names inside t ts r h = absurd r
rests stages.Head inside t ts r h = absurd r
rests stages.Parameters inside t ts r h = absurd r

done_sign : (inside : Bool) (t : Token) (ts : List Token) → t.kind ≡ kinds.Semicolon → read_done inside (t ∷ ts) ≡ onward (quiet stages.Begin inside) ts
unfolding read_done
done_sign inside t ts e = rw (e, read_done) refl

done_close : (t : Token) (ts : List Token) → t.kind ≡ kinds.RightBrace → read_done true (t ∷ ts) ≡ onward (told phrases.Close stages.Begin false) ts
unfolding read_done
done_close t ts e = rw (e, read_done) refl

done_finish : (t : Token) (ts : List Token) → t.kind ≡ kinds.Finish → read_done false (t ∷ ts) ≡ Ok None
unfolding read_done
done_finish t ts e = rw (e, read_done) refl

is_semicolon : (k : TokenKind) → k ≡ kinds.Semicolon → EndsStatement k
is_semicolon k e = rw e tt

is_right : (k : TokenKind) → k ≡ kinds.RightBrace → EndsStatement k
is_right k e = rw e tt

is_finish : (k : TokenKind) → k ≡ kinds.Finish → EndsStatement k
is_finish k e = rw e tt

body_closes : (us : List InnerTree) (right : Token) (ts : List Token) → IsBody us → IsApart us → right.kind ≡ kinds.RightBrace → Closes (print_body us ++ right ∷ ts)
body_closes [] right ts h a e = is_right right.kind e
body_closes (sign t ∷ us) right ts h a e = is_semicolon t.kind h.0
body_closes (plain s ∷ us) right ts h a e = absurd a

body_run : (us : List InnerTree) (stage : Stage) (right : Token) (ts : List Token) → IsBody us → Rests stage → IsApart us ⊎ (stage ≡ stages.Begin) → right.kind ≡ kinds.RightBrace
    → (k : ℕ) × (suc k ≤ length (print_body us) + 1) × Runs (1 + k) stage true (print_body us ++ right ∷ ts) (body_phrases us ++ phrases.Close ∷ []) stages.Begin false ts
body_run [] stage right ts h r a e = (
  0,
  omega arith,
  (let one = one_advance stage true (right ∷ ts) _ ts (rests stage true right ts r (is_right right.kind e) ∙ done_close right ts e) in
      let z : 1 + 0 ≡ 1 = omega arith in rw z one),
)
body_run (sign t ∷ us) stage right ts h r a e =
    let rest = print_body us ++ right ∷ ts in
    let more = body_run us stages.Begin right ts h.1 tt (inr refl) e in
    let one = one_advance stage true (t ∷ rest) _ rest (rests stage true t rest r (is_semicolon t.kind h.0) ∙ done_sign true t rest h.0) in
    (1 + more.0, omega (arith, more.1), after 1 (1 + more.0) stage true _ [] stages.Begin true rest (body_phrases us ++ phrases.Close ∷ []) stages.Begin false ts one more.2)
body_run (plain s ∷ us) stage right ts h r (inl a) e = absurd a
body_run (plain s ∷ us) stage right ts h r (inr a) e =
    let rest = print_body us ++ right ∷ ts in
    let first = statement_run s true rest h.0 (body_closes us right ts h.2 h.1 e) in
    let more = body_run us first.1 right ts h.2 first.2 (inl h.1) e in
    let both = after first.0 (1 + more.0) stages.Begin true _ (statement_phrases s) first.1 true rest (body_phrases us ++ phrases.Close ∷ []) stages.Begin false ts first.4 more.2 in
    let g : (print_statement s ++ print_body us) ++ right ∷ ts ≡ print_statement s ++ rest = append_assoc (print_statement s) (print_body us) (right ∷ ts) in
    let p : (statement_phrases s ++ body_phrases us) ++ phrases.Close ∷ [] ≡ statement_phrases s ++ (body_phrases us ++ phrases.Close ∷ []) = append_assoc (statement_phrases s) (body_phrases us) (phrases.Close ∷ []) in
    let n : 1 + (first.0 + more.0) ≡ first.0 + (1 + more.0) = omega arith in
    (first.0 + more.0, omega (arith, first.3, more.1, length-append (print_statement s) (print_body us)), rw (n, g, p, a) both)

-- a class
keyword_by : (k : TokenKind) (t : Token) (ts : List Token) → k ≡ kinds.Keyword
    → elim k as (λ _. Advanced) [ kinds.Name ↦ read_names false (t ∷ ts) | kinds.Keyword ↦ cond false (Err (fault_at t)) (read_class ts) | _ ↦ read_done false (t ∷ ts) ] ≡ read_class ts
keyword_by k t ts e = rw e refl

left_again : (t : Token) (ts : List Token) → t.kind ≡ kinds.LeftBrace → read_left (t ∷ ts) ≡ Ok ts
unfolding read_left
left_again t ts e = rw (e, read_left) refl

class_advance : (keyword name left : Token) (ts : List Token) → keyword.kind ≡ kinds.Keyword → name.kind ≡ kinds.Name → left.kind ≡ kinds.LeftBrace
    → read_advance stages.Begin false (keyword ∷ name ∷ left ∷ ts) ≡ onward (told (phrases.Class (word name)) stages.Head true) ts
unfolding read_advance read_begin read_class
class_advance keyword name left ts a b c = keyword_by keyword.kind keyword (name ∷ left ∷ ts) a ∙ rw (name_again name (left ∷ ts) b) (rw (left_again left ts c) refl)

head_by : (k : TokenKind) (t : Token) (ts : List Token) → k ≡ kinds.Parameter → elim k as (λ _. Advanced) [ kinds.Parameter ↦ read_parameter (t ∷ ts) | _ ↦ read_begin true (t ∷ ts) ] ≡ read_parameter (t ∷ ts)
head_by k t ts e = rw e refl

parameter_again : (t : Token) (ts : List Token) → t.kind ≡ kinds.Parameter → read_parameter (t ∷ ts) ≡ onward (told (phrases.Parameter (word t)) stages.Parameters true) ts
unfolding read_parameter
parameter_again t ts e = rw (e, read_parameter) refl

parameter_advance : (t : Token) (ts : List Token) → t.kind ≡ kinds.Parameter → read_advance stages.Head true (t ∷ ts) ≡ onward (told (phrases.Parameter (word t)) stages.Parameters true) ts
unfolding read_advance read_head
parameter_advance t ts e = head_by t.kind t ts e ∙ parameter_again t ts e

comma_by : (k : TokenKind) (t : Token) (ts : List Token) → k ≡ kinds.Comma
    → elim k as (λ _. Advanced) [ kinds.Comma ↦ read_parameter ts | kinds.Bar ↦ onward (quiet stages.Begin true) ts | _ ↦ Err (fault_at t) ] ≡ read_parameter ts
comma_by k t ts e = rw e refl

further_parameter : (comma t : Token) (ts : List Token) → comma.kind ≡ kinds.Comma → t.kind ≡ kinds.Parameter
    → read_advance stages.Parameters true (comma ∷ t ∷ ts) ≡ onward (told (phrases.Parameter (word t)) stages.Parameters true) ts
unfolding read_advance read_after_parameter
further_parameter comma t ts c e = comma_by comma.kind comma (t ∷ ts) c ∙ parameter_again t ts e

bar_advance : (t : Token) (ts : List Token) → t.kind ≡ kinds.Bar → read_advance stages.Parameters true (t ∷ ts) ≡ onward (quiet stages.Begin true) ts
unfolding read_advance read_after_parameter
bar_advance t ts e = rw (e, read_after_parameter) refl

parameters_run : (ms : List (Token × Token)) (rest : List Token) → AreMore kinds.Parameter ms → Runs (length ms) stages.Parameters true (print_more ms ++ rest) (more_parameters ms) stages.Parameters true rest
parameters_run [] rest h = still stages.Parameters true rest
parameters_run (m ∷ ms) rest h =
    let one = one_advance stages.Parameters true (m.0 ∷ m.1 ∷ (print_more ms ++ rest)) _ (print_more ms ++ rest) (further_parameter m.0 m.1 (print_more ms ++ rest) h.0 h.1) in
    let both = after 1 (length ms) stages.Parameters true _ (phrases.Parameter (word m.1) ∷ []) stages.Parameters true _ (more_parameters ms) stages.Parameters true rest one (parameters_run ms rest h.2) in
    let l : 1 + length ms ≡ suc (length ms) = omega arith in
    rw (← l) both

-- Behind `{` a body is read as at the begin of a statement.
abbrev pub BeginsBody : List Token → Type 0
BeginsBody ts = read_advance stages.Head true ts ≡ read_advance stages.Begin true ts

no_parameter : (k : TokenKind) (t : Token) (ts : List Token) → (k ≡ kinds.Parameter → ⊥) → elim k as (λ _. Advanced) [ kinds.Parameter ↦ read_parameter (t ∷ ts) | _ ↦ read_begin true (t ∷ ts) ] ≡ read_begin true (t ∷ ts)
no_parameter kinds.Parameter t ts h = absurd (h refl)
no_parameter _ t ts h = refl

other_begins : (t : Token) (ts : List Token) → (t.kind ≡ kinds.Parameter → ⊥) → BeginsBody (t ∷ ts)
unfolding read_advance read_head
other_begins t ts h = no_parameter t.kind t ts h

item_begins : (i : ItemTree) (ts : List Token) → IsItem i → BeginsBody (print_item i ++ ts)
item_begins (alone n) ts h = other_begins n ts (λ e. (let x : kinds.Name ≡ kinds.Parameter = sym h ∙ e in cc))
item_begins (named n c u) ts h = other_begins n (c ∷ print_use u ++ ts) (λ e. (let x : kinds.Name ≡ kinds.Parameter = sym h.0 ∙ e in cc))
item_begins (made n a) ts h = other_begins n (a ∷ ts) (λ e. (let x : kinds.Name ≡ kinds.Parameter = sym h.0 ∙ e in cc))

ends_begin : (e : EndpointTree) (more : List (Token × EndpointTree)) (ts : List Token) → e.input ≡ None → AreEndpoints e more → BeginsBody (print_endpoints e more ++ ts)
ends_begin e more ts h a =
    let printed : print_endpoints e more ≡ (print_item e.item ++ print_port e.output) ++ tail_endpoints more = endpoints_printed e more ∙ ap (λ (x : List Token). x ++ tail_endpoints more) (input_first e h) in
    let g : print_endpoints e more ++ ts ≡ print_item e.item ++ (print_port e.output ++ (tail_endpoints more ++ ts)) = ap (λ (x : List Token). x ++ ts) printed ∙ append_assoc (print_item e.item ++ print_port e.output) (tail_endpoints more) ts ∙ append_assoc (print_item e.item) (print_port e.output) (tail_endpoints more ++ ts) in
    subst BeginsBody (sym g) (item_begins e.item (print_port e.output ++ (tail_endpoints more ++ ts)) (first_is e more a).1)

statement_begins : (s : StatementTree) (ts : List Token) → IsStatement s → BeginsBody (print_statement s ++ ts)
statement_begins (connect e more) ts h = ends_begin e more ts h.0 h.1
statement_begins (declare first next more colons last) ts h = other_begins first _ (λ e. (let x : kinds.Name ≡ kinds.Parameter = sym h.0 ∙ e in cc))

body_begins : (us : List InnerTree) (right : Token) (ts : List Token) → IsBody us → right.kind ≡ kinds.RightBrace → BeginsBody (print_body us ++ right ∷ ts)
body_begins [] right ts h e = other_begins right ts (λ f. (let x : kinds.RightBrace ≡ kinds.Parameter = sym e ∙ f in cc))
body_begins (sign t ∷ us) right ts h e = other_begins t (print_body us ++ right ∷ ts) (λ f. (let x : kinds.Semicolon ≡ kinds.Parameter = sym h.0 ∙ f in cc))
body_begins (plain s ∷ us) right ts h e = subst BeginsBody (sym (append_assoc (print_statement s) (print_body us) (right ∷ ts))) (statement_begins s (print_body us ++ right ∷ ts) h.0)

-- advances that begin at one stage begin at the other
moved_on : (k : ℕ) (one two : Stage) (inside : Bool) (ts : List Token) (ps : List Phrase) (next : Stage) (within : Bool) (rest : List Token) → read_advance one inside ts ≡ read_advance two inside ts → Runs (1 + k) two inside ts ps next within rest → Runs (1 + k) one inside ts ps next within rest
unfolding phrases_from
moved_on k one two inside ts ps next within rest e r n =
    let l : 1 + k + n ≡ suc (k + n) = omega arith in
    let same : phrases_from (suc (k + n)) one inside ts ≡ phrases_from (suc (k + n)) two inside ts = rw (phrases_from, e) refl in
    ap (λ j. phrases_from j one inside ts) l ∙ same ∙ ap (λ j. phrases_from j two inside ts) (sym l) ∙ r n

-- behind the `{` of a class
inner_run : (p : Option ParameterTree) (us : List InnerTree) (right : Token) (ts : List Token) → IfSome p AreParameters → IsBody us → right.kind ≡ kinds.RightBrace
    → (k : ℕ) × (k ≤ length (print_parameters p) + length (print_body us) + 1) × Runs k stages.Head true (print_parameters p ++ (print_body us ++ right ∷ ts)) (parameter_phrases p ++ (body_phrases us ++ phrases.Close ∷ [])) stages.Begin false ts
inner_run None us right ts h b e =
    let body = body_run us stages.Begin right ts b tt (inr refl) e in
    (1 + body.0, omega (arith, body.1), moved_on body.0 stages.Head stages.Begin true _ _ stages.Begin false ts (body_begins us right ts b e) body.2)
inner_run (Some p) us right ts h b e =
    let rest = print_body us ++ right ∷ ts in
    let body = body_run us stages.Begin right ts b tt (inr refl) e in
    let g : (p.first ∷ (print_more p.more ++ (p.bar ∷ []))) ++ rest ≡ p.first ∷ (print_more p.more ++ (p.bar ∷ rest)) = ap (λ (x : List Token). p.first ∷ x) (append_assoc (print_more p.more) (p.bar ∷ []) rest) in
    let one = one_advance stages.Head true (p.first ∷ (print_more p.more ++ (p.bar ∷ rest))) _ (print_more p.more ++ (p.bar ∷ rest)) (parameter_advance p.first _ h.0) in
    let two = parameters_run p.more (p.bar ∷ rest) h.1 in
    let three = one_advance stages.Parameters true (p.bar ∷ rest) _ rest (bar_advance p.bar rest h.2) in
    let late = after 1 (1 + body.0) stages.Parameters true _ [] stages.Begin true rest (body_phrases us ++ phrases.Close ∷ []) stages.Begin false ts three body.2 in
    let mid = after (length p.more) (1 + (1 + body.0)) stages.Parameters true _ (more_parameters p.more) stages.Parameters true _ (body_phrases us ++ phrases.Close ∷ []) stages.Begin false ts two late in
    let all = after 1 (length p.more + (1 + (1 + body.0))) stages.Head true _ (phrases.Parameter (word p.first) ∷ []) stages.Parameters true _ (more_parameters p.more ++ (body_phrases us ++ phrases.Close ∷ [])) stages.Begin false ts one mid in (
      1 + (length p.more + (1 + (1 + body.0))),
      omega (arith, body.1, more_long p.more, length-append (print_more p.more) (p.bar ∷ [])),
      subst (λ (x : List Token). Runs (1 + (length p.more + (1 + (1 + body.0)))) stages.Head true x (parameter_phrases (Some p) ++ (body_phrases us ++ phrases.Close ∷ [])) stages.Begin false ts) (sym g) all,
    )

class_run : (c : ClassTree) (ts : List Token) → IsClass c → (k : ℕ) × (k ≤ length (print_class c)) × Runs k stages.Begin false (print_class c ++ ts) (class_phrases c) stages.Begin false ts
class_run c ts h =
    let inner = inner_run c.parameters c.body c.right ts h.3 h.4 h.5 in
    let rest = print_parameters c.parameters ++ (print_body c.body ++ c.right ∷ ts) in
    let g1 : (print_body c.body ++ (c.right ∷ [])) ++ ts ≡ print_body c.body ++ c.right ∷ ts = append_assoc (print_body c.body) (c.right ∷ []) ts in
    let g2 : (print_parameters c.parameters ++ (print_body c.body ++ (c.right ∷ []))) ++ ts ≡ rest = append_assoc (print_parameters c.parameters) (print_body c.body ++ (c.right ∷ [])) ts ∙ ap (λ (x : List Token). print_parameters c.parameters ++ x) g1 in
    let g : print_class c ++ ts ≡ c.keyword ∷ c.name ∷ c.left ∷ rest = ap (λ (x : List Token). c.keyword ∷ c.name ∷ c.left ∷ x) g2 in
    let one = one_advance stages.Begin false (c.keyword ∷ c.name ∷ c.left ∷ rest) _ rest (class_advance c.keyword c.name c.left rest h.0 h.1 h.2) in
    let both = after 1 inner.0 stages.Begin false _ (phrases.Class (word c.name) ∷ []) stages.Head true rest (parameter_phrases c.parameters ++ (body_phrases c.body ++ phrases.Close ∷ [])) stages.Begin false ts one inner.2 in
    (1 + inner.0, omega (arith, inner.1, length-append (print_parameters c.parameters) (print_body c.body ++ (c.right ∷ [])), length-append (print_body c.body) (c.right ∷ [])), subst (λ (x : List Token). Runs (1 + inner.0) stages.Begin false x (class_phrases c) stages.Begin false ts) (sym g) both)

-- a configuration
abbrev pub Reads : ℕ → Stage → List Token → List Phrase → Type 0
Reads k stage ts ps = (n : ℕ) → phrases_from (k + suc n) stage false ts ≡ Ok ps

then_reads : (a b : ℕ) (stage next : Stage) (ts rest : List Token) (ps qs : List Phrase) → Runs a stage false ts ps next false rest → Reads b next rest qs → Reads (a + b) stage ts (ps ++ qs)
then_reads a b stage next ts rest ps qs f g n =
    let k : a + b + suc n ≡ a + (b + suc n) = omega arith in
    ap (λ j. phrases_from j stage false ts) k ∙ f (b + suc n) ∙ ap (with_front ps) (g n)

config_closes : (us : List OuterTree) (f : Token) → IsConfig us → IsSeparate us → f.kind ≡ kinds.Finish → Closes (print_config us ++ f ∷ [])
config_closes [] f h a e = is_finish f.kind e
config_closes (outer (sign t) ∷ us) f h a e = is_semicolon t.kind h.0
config_closes (outer (plain s) ∷ us) f h a e = absurd a
config_closes (class c ∷ us) f h a e = absurd a

config_reads : (us : List OuterTree) (stage : Stage) (f : Token) → IsConfig us → Rests stage → IsSeparate us ⊎ (stage ≡ stages.Begin) → f.kind ≡ kinds.Finish
    → (k : ℕ) × (k ≤ length (print_config us)) × Reads k stage (print_config us ++ f ∷ []) (config_phrases us)
unfolding phrases_from
config_reads [] stage f h r a e =
    let m = rests stage false f [] r (is_finish f.kind e) ∙ done_finish f [] e in
    (0, omega arith, λ n. (let z : 0 + suc n ≡ suc n = omega arith in rw (z, phrases_from, m) refl))
config_reads (outer (sign t) ∷ us) stage f h r a e =
    let rest = print_config us ++ f ∷ [] in
    let more = config_reads us stages.Begin f h.1 tt (inr refl) e in
    let one = one_advance stage false (t ∷ rest) _ rest (rests stage false t rest r (is_semicolon t.kind h.0) ∙ done_sign false t rest h.0) in
    (1 + more.0, omega (arith, more.1), then_reads 1 more.0 stage stages.Begin _ rest [] (config_phrases us) one more.2)
config_reads (outer (plain s) ∷ us) stage f h r (inl a) e = absurd a
config_reads (outer (plain s) ∷ us) stage f h r (inr a) e =
    let rest = print_config us ++ f ∷ [] in
    let first = statement_run s false rest h.0 (config_closes us f h.2 h.1 e) in
    let more = config_reads us first.1 f h.2 first.2 (inl h.1) e in
    let g : (print_statement s ++ print_config us) ++ f ∷ [] ≡ print_statement s ++ rest = append_assoc (print_statement s) (print_config us) (f ∷ []) in
    let both = then_reads first.0 more.0 stages.Begin first.1 (print_statement s ++ rest) rest (statement_phrases s) (config_phrases us) first.4 more.2 in
    (first.0 + more.0, omega (arith, first.3, more.1, length-append (print_statement s) (print_config us)), subst (λ (st : Stage). Reads (first.0 + more.0) st ((print_statement s ++ print_config us) ++ f ∷ []) (statement_phrases s ++ config_phrases us)) (sym a) (subst (λ (x : List Token). Reads (first.0 + more.0) stages.Begin x (statement_phrases s ++ config_phrases us)) (sym g) both))
config_reads (class c ∷ us) stage f h r (inl a) e = absurd a
config_reads (class c ∷ us) stage f h r (inr a) e =
    let rest = print_config us ++ f ∷ [] in
    let first = class_run c rest h.0 in
    let more = config_reads us stages.Begin f h.1 tt (inr refl) e in
    let g : (print_class c ++ print_config us) ++ f ∷ [] ≡ print_class c ++ rest = append_assoc (print_class c) (print_config us) (f ∷ []) in
    let both = then_reads first.0 more.0 stages.Begin stages.Begin (print_class c ++ rest) rest (class_phrases c) (config_phrases us) first.2 more.2 in
    (first.0 + more.0, omega (arith, first.1, more.1, length-append (print_class c) (print_config us)), subst (λ (st : Stage). Reads (first.0 + more.0) st ((print_class c ++ print_config us) ++ f ∷ []) (class_phrases c ++ config_phrases us)) (sym a) (subst (λ (x : List Token). Reads (first.0 + more.0) stages.Begin x (class_phrases c ++ config_phrases us)) (sym g) both))

-- Each tree of the grammar is read as its phrases.
pub printed_is_read : (tree : List OuterTree) (tokens : List Token) → IsConfig tree → ArePrinted tree tokens → phrases_of_tokens tokens ≡ Ok (config_phrases tree)
printed_is_read tree tokens h p =
    let r = config_reads tree stages.Begin p.0 h tt (inr refl) p.1 in
    let printed = print_config tree ++ p.0 ∷ [] in
    let l : r.0 + suc (length (print_config tree) - r.0) ≡ length printed = omega (arith, r.1, length-append (print_config tree) (p.0 ∷ [])) in
    let whole_is : phrases_from (length printed) stages.Begin false printed ≡ Ok (config_phrases tree) = ap (λ k. phrases_from k stages.Begin false printed) (sym l) ∙ r.2 (length (print_config tree) - r.0) in
    ap phrases_of_tokens p.2 ∙ whole_is
