-- The ports that bodies name as entries of a table.
use Rattle.std.proofs.Common.{◌≡◌, ℕ, ◌+◌, ◌<◌, ◌≤◌, List, [], ◌∷◌, ◌++◌, length, cond, codes, nat_eq, Bool, true, false, ◌&&◌, ◌||◌, Option, Some, None, is_some, refl, sym, ap, ◌∙◌, arith}
use Rattle.std.specs.Str.{bytes_eq}
use Rattle.std.specs.Option.{option_map}
use Rattle.std.proofs.lemmas.Bool.Decides.{nat_tests}
use Rattle.std.proofs.lemmas.List.{append_assoc}
use Rattle.std.proofs.lemmas.Slice.Eq.{bytes_eq-Decides}
use Rattle.mt_syntax.specs.declared.token.Token.{Token}
use Rattle.mt_syntax.specs.declared.phrase.PortNumber.{PortNumber}
use Rattle.mt_syntax.specs.declared.phrase.Phrase.{Phrase}
use Rattle.mt_syntax.specs.declared.phrase.Phrase.TheVariants as phrases
use Rattle.mt_syntax.specs.Reading.{word}
use Rattle.mt_syntax.specs.Grammar.{UseTree, use_of, PortTree, port_of, ItemTree, named, alone, made, item_of, EndpointTree, endpoint_of, StatementTree, connect, declare, InnerTree, sign, plain, ParameterTree, ClassTree, OuterTree, outer, class, next_endpoints, more_names, statement_phrases, body_phrases, more_parameters, parameter_phrases, class_phrases, config_phrases}
use Rattle.mt_click.specs.declared.symbols.Scope.{Scope}
use Rattle.mt_click.specs.declared.symbols.Entry.{Entry}
use Rattle.mt_click.specs.Names.{entry, is_entry, first_entry, number_of, is_followed, port_at, input_at, output_at, ports_at, ports_from}
use Rattle.mt_click.specs.Declarations.{spelling, class_from, class_under, port_value, named_port, inputs_ends, outputs_ends, inputs_body, outputs_body, inputs_of, outputs_of, classes_of}
use Rattle.mt_click.specs.Acts.{has_next}
use Rattle.mt_click.specs.Spread.{is_in, Found}
use Rattle.mt_click.proofs.FirstEntry.{has, has_first, has_append}
use Rattle.mt_click.proofs.ClassEntries.{class_split}
use Rattle.mt_click.proofs.NameEntries.{out_at, in_at, one_longer}

pub port_number : (p : Option PortTree) → number_of (option_map port_of p) ≡ port_value p
port_number None = refl
port_number (Some p) = refl

in_append : (n : ℕ) (xs ys : List ℕ) → is_in n (xs ++ ys) ≡ (is_in n xs || is_in n ys)
unfolding is_in
in_append n [] ys = refl
in_append n (x ∷ xs) ys = by (nat_eq n x) (in_append n xs ys)
  where
    by : (b : Bool) → is_in n (xs ++ ys) ≡ (is_in n xs || is_in n ys) → (b || is_in n (xs ++ ys)) ≡ ((b || is_in n xs) || is_in n ys)
    by true h = refl
    by false h = h

-- what stands behind the phrases of a statement
pub connected_next : (more : List (Token × EndpointTree)) (ps : List Phrase) → is_followed ps ≡ false → is_followed (next_endpoints more ++ ps) ≡ has_next more
connected_next [] ps h = h
connected_next (next ∷ more) ps h = refl

pub connected_statement : (st : StatementTree) (ps : List Phrase) → is_followed (statement_phrases st ++ ps) ≡ false
connected_statement (connect e more) ps = refl
connected_statement (declare first next more colons last) ps = refl

pub connected_body : (us : List InnerTree) (ps : List Phrase) → is_followed ps ≡ false → is_followed (body_phrases us ++ ps) ≡ false
connected_body [] ps h = h
connected_body (sign t ∷ us) ps h = connected_body us ps h
connected_body (plain st ∷ us) ps h = ap is_followed (append_assoc (statement_phrases st) (body_phrases us) ps) ∙ connected_statement st (body_phrases us ++ ps)

pub connected_config : (us : List OuterTree) → is_followed (config_phrases us) ≡ false
connected_config [] = refl
connected_config (outer (sign t) ∷ us) = connected_config us
connected_config (outer (plain st) ∷ us) = connected_statement st (config_phrases us)
connected_config (class c ∷ us) = refl

-- one port: it passes where the scope, the side and the number do
and_false : (b : Bool) → (b && false) ≡ false
and_false true = refl
and_false false = refl

port_has : (text : List ℕ) (k m n : ℕ) (side name : List ℕ) (p : Option PortTree) (i : ItemTree)
    → has (is_entry text m n side) (port_at text (in_at k) name (option_map port_of p) (item_of i)) ≡ (nat_eq m k && (bytes_eq side name && is_in n (named_port text name p i)))
unfolding port_at named_port is_in
port_has text k m n side name p (named t c u) = sym (ap (λ b. nat_eq m k && b) (and_false (bytes_eq side name)) ∙ and_false (nat_eq m k))
port_has text k m n side name p (made t a) = sym (ap (λ b. nat_eq m k && b) (and_false (bytes_eq side name)) ∙ and_false (nat_eq m k))
port_has text k m n side name p (alone t) = by (bytes_eq (spelling text t) name) refl
  where
    one : (a b c : Bool) → (a && b && c || false) ≡ (a && (c && (b || false)))
    one true true true = refl
    one true true false = refl
    one true false true = refl
    one true false false = refl
    one false true true = refl
    one false true false = refl
    one false false true = refl
    one false false false = refl

    by : (b : Bool) → bytes_eq (spelling text t) name ≡ b
        → has (is_entry text m n side) (cond b (entry k (number_of (option_map port_of p)) (word t) None ∷ []) []) ≡ (nat_eq m k && (bytes_eq side name && is_in n (cond b (port_value p ∷ []) [])))
    by true q =
        let same : spelling text t ≡ name = (bytes_eq-Decides (spelling text t) name).0 q in
        ap (λ x. nat_eq m k && nat_eq n x && bytes_eq side (spelling text t) || false) (port_number p)
        ∙ ap (λ x. nat_eq m k && nat_eq n (port_value p) && bytes_eq side x || false) same
        ∙ one (nat_eq m k) (nat_eq n (port_value p)) (bytes_eq side name)
    by false q = sym (ap (λ b. nat_eq m k && b) (and_false (bytes_eq side name)) ∙ and_false (nat_eq m k))

abbrev pub for_input : List ℕ → ℕ → ℕ → Entry → Bool
for_input text m n = is_entry text m n (codes "input")

abbrev pub for_output : List ℕ → ℕ → ℕ → Entry → Bool
for_output text m n = is_entry text m n (codes "output")

input_in : (text : List ℕ) (k m n : ℕ) (e : EndpointTree) → has (for_input text m n) (input_at text (in_at k) true (endpoint_of e)) ≡ (nat_eq m k && is_in n (named_port text (codes "input") e.output e.item))
unfolding input_at
input_in text k m n e = port_has text k m n (codes "input") (codes "input") e.output e.item

output_in : (text : List ℕ) (k m n : ℕ) (e : EndpointTree) → has (for_output text m n) (output_at text (in_at k) (endpoint_of e)) ≡ (nat_eq m k && is_in n (named_port text (codes "output") e.input e.item))
unfolding output_at
output_in text k m n e = port_has text k m n (codes "output") (codes "output") e.input e.item

-- the other side
output_none : (text : List ℕ) (k m n : ℕ) (e : EndpointTree) → has (for_input text m n) (output_at text (in_at k) (endpoint_of e)) ≡ false
unfolding output_at
output_none text k m n e = port_has text k m n (codes "input") (codes "output") e.input e.item ∙ and_false (nat_eq m k)

input_none : (text : List ℕ) (k m n : ℕ) (followed : Bool) (e : EndpointTree) → has (for_output text m n) (input_at text (in_at k) followed (endpoint_of e)) ≡ false
unfolding input_at
input_none text k m n true e = port_has text k m n (codes "output") (codes "input") e.output e.item ∙ and_false (nat_eq m k)
input_none text k m n false e = refl

-- the ends of a connection
split_or : (q a b r : Bool) → ((q && a) || ((q && b) || r)) ≡ ((q && (a || b)) || r)
split_or true true b r = refl
split_or true false b r = refl
split_or false a b r = refl

ends_inputs : (text : List ℕ) (k m n : ℕ) (e : EndpointTree) (more : List (Token × EndpointTree)) (ps : List Phrase) → is_followed ps ≡ false
    → (has (for_input text m n) (input_at text (in_at k) (is_followed (next_endpoints more ++ ps)) (endpoint_of e)) || has (for_input text m n) (ports_from text (in_at k) (next_endpoints more ++ ps)))
    ≡ ((nat_eq m k && is_in n (inputs_ends text e more)) || has (for_input text m n) (ports_from text (in_at k) ps))
unfolding ports_from ports_at inputs_ends input_at is_in
ends_inputs text k m n e [] ps h =
    ap (λ b. has (for_input text m n) (cond b (port_at text (in_at k) (codes "input") (endpoint_of e).output (endpoint_of e).item) []) || has (for_input text m n) (ports_from text (in_at k) ps)) h
    ∙ ap (λ b. b || has (for_input text m n) (ports_from text (in_at k) ps)) (sym (and_false (nat_eq m k)))
ends_inputs text k m n e (next ∷ more) ps h =
    ap (λ b. b || has (for_input text m n) (ports_from text (in_at k) (next_endpoints (next ∷ more) ++ ps))) (input_in text k m n e)
    ∙ ap (λ b. here || b) rest
    ∙ ap (λ b. here || b) (ends_inputs text k m n next.1 more ps h)
    ∙ split_or (nat_eq m k) (is_in n (named_port text (codes "input") e.output e.item)) (is_in n (inputs_ends text next.1 more)) (has (for_input text m n) (ports_from text (in_at k) ps))
    ∙ ap (λ b. (nat_eq m k && b) || has (for_input text m n) (ports_from text (in_at k) ps)) (sym (in_append n (named_port text (codes "input") e.output e.item) (inputs_ends text next.1 more)))
  where
    here : Bool
    here = nat_eq m k && is_in n (named_port text (codes "input") e.output e.item)

    j : Bool
    j = is_followed (next_endpoints more ++ ps)

    rest : has (for_input text m n) ((output_at text (in_at k) (endpoint_of next.1) ++ input_at text (in_at k) j (endpoint_of next.1)) ++ ports_from text (in_at k) (next_endpoints more ++ ps))
        ≡ (has (for_input text m n) (input_at text (in_at k) j (endpoint_of next.1)) || has (for_input text m n) (ports_from text (in_at k) (next_endpoints more ++ ps)))
    rest =
        has_append (for_input text m n) (output_at text (in_at k) (endpoint_of next.1) ++ input_at text (in_at k) j (endpoint_of next.1)) (ports_from text (in_at k) (next_endpoints more ++ ps))
        ∙ ap (λ b. b || has (for_input text m n) (ports_from text (in_at k) (next_endpoints more ++ ps)))
        (has_append (for_input text m n) (output_at text (in_at k) (endpoint_of next.1)) (input_at text (in_at k) j (endpoint_of next.1))
        ∙ ap (λ b. b || has (for_input text m n) (input_at text (in_at k) j (endpoint_of next.1))) (output_none text k m n next.1))

ends_outputs : (text : List ℕ) (k m n : ℕ) (more : List (Token × EndpointTree)) (ps : List Phrase)
    → has (for_output text m n) (ports_from text (in_at k) (next_endpoints more ++ ps)) ≡ ((nat_eq m k && is_in n (outputs_ends text more)) || has (for_output text m n) (ports_from text (in_at k) ps))
unfolding ports_from ports_at outputs_ends is_in
ends_outputs text k m n [] ps = ap (λ b. b || has (for_output text m n) (ports_from text (in_at k) ps)) (sym (and_false (nat_eq m k)))
ends_outputs text k m n (next ∷ more) ps =
    has_append (for_output text m n) (output_at text (in_at k) (endpoint_of next.1) ++ input_at text (in_at k) (is_followed (next_endpoints more ++ ps)) (endpoint_of next.1)) (ports_from text (in_at k) (next_endpoints more ++ ps))
    ∙ ap (λ b. b || has (for_output text m n) (ports_from text (in_at k) (next_endpoints more ++ ps))) here
    ∙ ap (λ b. (nat_eq m k && is_in n (named_port text (codes "output") next.1.input next.1.item)) || b) (ends_outputs text k m n more ps)
    ∙ split_or (nat_eq m k) (is_in n (named_port text (codes "output") next.1.input next.1.item)) (is_in n (outputs_ends text more)) (has (for_output text m n) (ports_from text (in_at k) ps))
    ∙ ap (λ b. (nat_eq m k && b) || has (for_output text m n) (ports_from text (in_at k) ps)) (sym (in_append n (named_port text (codes "output") next.1.input next.1.item) (outputs_ends text more)))
  where
    or_false : (b : Bool) → (b || false) ≡ b
    or_false true = refl
    or_false false = refl

    here : has (for_output text m n) (output_at text (in_at k) (endpoint_of next.1) ++ input_at text (in_at k) (is_followed (next_endpoints more ++ ps)) (endpoint_of next.1)) ≡ (nat_eq m k && is_in n (named_port text (codes "output") next.1.input next.1.item))
    here =
        has_append (for_output text m n) (output_at text (in_at k) (endpoint_of next.1)) (input_at text (in_at k) (is_followed (next_endpoints more ++ ps)) (endpoint_of next.1))
        ∙ ap (λ b. has (for_output text m n) (output_at text (in_at k) (endpoint_of next.1)) || b) (input_none text k m n (is_followed (next_endpoints more ++ ps)) next.1)
        ∙ or_false (has (for_output text m n) (output_at text (in_at k) (endpoint_of next.1)))
        ∙ output_in text k m n next.1

-- a group of names names no port
group_ports : (text : List ℕ) (s : Scope) (more : List (Token × Token)) (u : UseTree) (ps : List Phrase) → ports_from text s (more_names more ++ phrases.Made (use_of u) ∷ [] ++ ps) ≡ ports_from text s ps
unfolding ports_from ports_at
group_ports text s [] u ps = refl
group_ports text s (next ∷ more) u ps = group_ports text s more u ps

declare_ports : (text : List ℕ) (s : Scope) (first : Token) (next : Token × Token) (more : List (Token × Token)) (colons : Token) (last : UseTree) (ps : List Phrase)
    → ports_from text s (statement_phrases (declare first next more colons last) ++ ps) ≡ ports_from text s ps
unfolding ports_from ports_at
declare_ports text s first next more colons last ps = group_ports text s (next ∷ more) last ps

-- The entries of a side that the body of a class has.
abbrev pub NamesPorts : List ℕ → List ℕ → (List InnerTree → List ℕ) → Type 0
NamesPorts text side ports =
    (k m n : ℕ) (us : List InnerTree) (ps : List Phrase) → is_followed ps ≡ false
    → has (is_entry text m n side) (ports_from text (in_at k) (body_phrases us ++ ps)) ≡ ((nat_eq m k && is_in n (ports us)) || has (is_entry text m n side) (ports_from text (in_at k) ps))

connect_inputs : (text : List ℕ) (k m n : ℕ) (e : EndpointTree) (more : List (Token × EndpointTree)) (ps : List Phrase) → is_followed ps ≡ false
    → has (for_input text m n) (ports_from text (in_at k) (statement_phrases (connect e more) ++ ps)) ≡ ((nat_eq m k && is_in n (inputs_ends text e more)) || has (for_input text m n) (ports_from text (in_at k) ps))
unfolding ports_from ports_at
connect_inputs text k m n e more ps h =
    has_append (for_input text m n) (input_at text (in_at k) (is_followed (next_endpoints more ++ ps)) (endpoint_of e)) (ports_from text (in_at k) (next_endpoints more ++ ps)) ∙ ends_inputs text k m n e more ps h

connect_outputs : (text : List ℕ) (k m n : ℕ) (e : EndpointTree) (more : List (Token × EndpointTree)) (ps : List Phrase)
    → has (for_output text m n) (ports_from text (in_at k) (statement_phrases (connect e more) ++ ps)) ≡ ((nat_eq m k && is_in n (outputs_ends text more)) || has (for_output text m n) (ports_from text (in_at k) ps))
unfolding ports_from ports_at
connect_outputs text k m n e more ps =
    has_append (for_output text m n) (input_at text (in_at k) (is_followed (next_endpoints more ++ ps)) (endpoint_of e)) (ports_from text (in_at k) (next_endpoints more ++ ps))
    ∙ ap (λ b. b || has (for_output text m n) (ports_from text (in_at k) (next_endpoints more ++ ps))) (input_none text k m n (is_followed (next_endpoints more ++ ps)) e)
    ∙ ends_outputs text k m n more ps

inputs_named : (text : List ℕ) → NamesPorts text (codes "input") (inputs_body text)
unfolding inputs_body is_in
inputs_named text k m n [] ps h = ap (λ b. b || has (for_input text m n) (ports_from text (in_at k) ps)) (sym (and_false (nat_eq m k)))
inputs_named text k m n (sign t ∷ us) ps h = inputs_named text k m n us ps h
inputs_named text k m n (plain (declare first next more colons last) ∷ us) ps h =
    ap (λ xs. has (for_input text m n) (ports_from text (in_at k) xs)) (append_assoc (statement_phrases (declare first next more colons last)) (body_phrases us) ps)
    ∙ ap (has (for_input text m n)) (declare_ports text (in_at k) first next more colons last (body_phrases us ++ ps))
    ∙ inputs_named text k m n us ps h
inputs_named text k m n (plain (connect e more) ∷ us) ps h =
    ap (λ xs. has (for_input text m n) (ports_from text (in_at k) xs)) (append_assoc (statement_phrases (connect e more)) (body_phrases us) ps)
    ∙ connect_inputs text k m n e more (body_phrases us ++ ps) (connected_body us ps h)
    ∙ ap (λ b. (nat_eq m k && is_in n (inputs_ends text e more)) || b) (inputs_named text k m n us ps h)
    ∙ split_or (nat_eq m k) (is_in n (inputs_ends text e more)) (is_in n (inputs_body text us)) (has (for_input text m n) (ports_from text (in_at k) ps))
    ∙ ap (λ b. (nat_eq m k && b) || has (for_input text m n) (ports_from text (in_at k) ps)) (sym (in_append n (inputs_ends text e more) (inputs_body text us)))

outputs_named : (text : List ℕ) → NamesPorts text (codes "output") (outputs_body text)
unfolding outputs_body is_in
outputs_named text k m n [] ps h = ap (λ b. b || has (for_output text m n) (ports_from text (in_at k) ps)) (sym (and_false (nat_eq m k)))
outputs_named text k m n (sign t ∷ us) ps h = outputs_named text k m n us ps h
outputs_named text k m n (plain (declare first next more colons last) ∷ us) ps h =
    ap (λ xs. has (for_output text m n) (ports_from text (in_at k) xs)) (append_assoc (statement_phrases (declare first next more colons last)) (body_phrases us) ps)
    ∙ ap (has (for_output text m n)) (declare_ports text (in_at k) first next more colons last (body_phrases us ++ ps))
    ∙ outputs_named text k m n us ps h
outputs_named text k m n (plain (connect e more) ∷ us) ps h =
    ap (λ xs. has (for_output text m n) (ports_from text (in_at k) xs)) (append_assoc (statement_phrases (connect e more)) (body_phrases us) ps)
    ∙ connect_outputs text k m n e more (body_phrases us ++ ps)
    ∙ ap (λ b. (nat_eq m k && is_in n (outputs_ends text more)) || b) (outputs_named text k m n us ps h)
    ∙ split_or (nat_eq m k) (is_in n (outputs_ends text more)) (is_in n (outputs_body text us)) (has (for_output text m n) (ports_from text (in_at k) ps))
    ∙ ap (λ b. (nat_eq m k && b) || has (for_output text m n) (ports_from text (in_at k) ps)) (sym (in_append n (outputs_ends text more) (outputs_body text us)))

-- Outside classes no port is named.
port_outside : (text : List ℕ) (k : ℕ) (name : List ℕ) (p : Option PortNumber) (i : ItemTree) → port_at text (out_at k) name p (item_of i) ≡ []
unfolding port_at
port_outside text k name p (alone t) = refl
port_outside text k name p (named t c u) = refl
port_outside text k name p (made t a) = refl

input_outside : (text : List ℕ) (k : ℕ) (followed : Bool) (e : EndpointTree) → input_at text (out_at k) followed (endpoint_of e) ≡ []
unfolding input_at
input_outside text k true e = port_outside text k (codes "input") (endpoint_of e).output e.item
input_outside text k false e = refl

next_outside : (text : List ℕ) (k : ℕ) (more : List (Token × EndpointTree)) (ps : List Phrase) → ports_from text (out_at k) (next_endpoints more ++ ps) ≡ ports_from text (out_at k) ps
unfolding ports_from ports_at output_at
next_outside text k [] ps = refl
next_outside text k (next ∷ more) ps =
    ap (λ es. es ++ input_at text (out_at k) (is_followed (next_endpoints more ++ ps)) (endpoint_of next.1) ++ ports_from text (out_at k) (next_endpoints more ++ ps)) (port_outside text k (codes "output") (endpoint_of next.1).input next.1.item)
    ∙ ap (λ es. es ++ ports_from text (out_at k) (next_endpoints more ++ ps)) (input_outside text k (is_followed (next_endpoints more ++ ps)) next.1)
    ∙ next_outside text k more ps

statement_outside : (text : List ℕ) (k : ℕ) (st : StatementTree) (ps : List Phrase) → ports_from text (out_at k) (statement_phrases st ++ ps) ≡ ports_from text (out_at k) ps
unfolding ports_from ports_at
statement_outside text k (connect e more) ps =
    ap (λ es. es ++ ports_from text (out_at k) (next_endpoints more ++ ps)) (input_outside text k (is_followed (next_endpoints more ++ ps)) e) ∙ next_outside text k more ps
statement_outside text k (declare first next more colons last) ps = group_ports text (out_at k) (next ∷ more) last ps

parameter_ports : (text : List ℕ) (s : Scope) (more : List (Token × Token)) (ps : List Phrase) → ports_from text s (more_parameters more ++ ps) ≡ ports_from text s ps
unfolding ports_from ports_at
parameter_ports text s [] ps = refl
parameter_ports text s (next ∷ more) ps = parameter_ports text s more ps

parameters_ports : (text : List ℕ) (s : Scope) (o : Option ParameterTree) (ps : List Phrase) → ports_from text s (parameter_phrases o ++ ps) ≡ ports_from text s ps
unfolding ports_from ports_at
parameters_ports text s None ps = refl
parameters_ports text s (Some p) ps = parameter_ports text s p.more ps

class_ports : (text side : List ℕ) (ports : List InnerTree → List ℕ) → NamesPorts text side ports → (k m n : ℕ) (c : ClassTree) (ps : List Phrase)
    → has (is_entry text m n side) (ports_from text (out_at k) (class_phrases c ++ ps)) ≡ ((nat_eq m k && is_in n (ports c.body)) || has (is_entry text m n side) (ports_from text (out_at (k + 1)) ps))
unfolding ports_from ports_at
class_ports text side ports names k m n c ps =
    ap (λ xs. has (is_entry text m n side) (ports_from text (out_at k) xs)) (class_split c ps)
    ∙ ap (has (is_entry text m n side)) (parameters_ports text (in_at k) c.parameters (body_phrases c.body ++ phrases.Close ∷ ps))
    ∙ names k m n c.body (phrases.Close ∷ ps) refl

-- no later class names a port of an earlier one
none_named : (text side : List ℕ) (ports : List InnerTree → List ℕ) → NamesPorts text side ports → (classes : List ClassTree) (us : List OuterTree) (m n : ℕ) → m < length classes
    → has (is_entry text m n side) (ports_from text (out_at (length classes)) (config_phrases us)) ≡ false
unfolding ports_from
none_named text side ports names classes [] m n less = refl
none_named text side ports names classes (outer (sign t) ∷ us) m n less = none_named text side ports names classes us m n less
none_named text side ports names classes (outer (plain st) ∷ us) m n less =
    ap (has (is_entry text m n side)) (statement_outside text (length classes) st (config_phrases us)) ∙ none_named text side ports names classes us m n less
none_named text side ports names classes (class c ∷ us) m n less =
    let apart : nat_eq m (length classes) ≡ false = grind (arith, nat_tests) in
    let longer = one_longer classes c in
    class_ports text side ports names (length classes) m n c (config_phrases us)
    ∙ ap (λ b. (b && is_in n (ports c.body)) || has (is_entry text m n side) (ports_from text (out_at (length classes + 1)) (config_phrases us))) apart
    ∙ ap (λ k. has (is_entry text m n side) (ports_from text (out_at k) (config_phrases us))) (sym longer)
    ∙ none_named text side ports names (classes ++ c ∷ []) us m n (omega (arith, less, longer))

-- each class has its ports among some entries
abbrev pub AreNamed : List ℕ → List ℕ → (List InnerTree → List ℕ) → List Entry → List ClassTree → List ClassTree → Type 0
AreNamed text side ports es before [] = Unit {0}
AreNamed text side ports es before (c ∷ cs) = ((n : ℕ) → has (is_entry text (length before) n side) es ≡ is_in n (ports c.body)) × AreNamed text side ports es (before ++ c ∷ []) cs

abbrev PassedBy : List ℕ → List ℕ → List Entry → ℕ → List Phrase → Type 0
PassedBy text side es k ps = (m n : ℕ) → k ≤ m → has (is_entry text m n side) es ≡ has (is_entry text m n side) (ports_from text (out_at k) ps)

named_all : (text side : List ℕ) (ports : List InnerTree → List ℕ) → NamesPorts text side ports → (es : List Entry) (classes : List ClassTree) (us : List OuterTree)
    → PassedBy text side es (length classes) (config_phrases us) → AreNamed text side ports es classes (classes_of us)
unfolding classes_of
named_all text side ports names es classes [] passed = tt
named_all text side ports names es classes (outer (sign t) ∷ us) passed = named_all text side ports names es classes us passed
named_all text side ports names es classes (outer (plain st) ∷ us) passed =
    named_all text side ports names es classes us (λ m n le. passed m n le ∙ ap (has (is_entry text m n side)) (statement_outside text (length classes) st (config_phrases us)))
named_all text side ports names es classes (class c ∷ us) passed = (here, named_all text side ports names es (classes ++ c ∷ []) us onward)
  where
    k : ℕ
    k = length classes

    longer : length (classes ++ c ∷ []) ≡ length classes + 1
    longer = one_longer classes c

    beyond : (m n : ℕ) → ℕ → Bool
    beyond m n j = has (is_entry text m n side) (ports_from text (out_at j) (config_phrases us))

    or_false : (b : Bool) → (b || false) ≡ b
    or_false true = refl
    or_false false = refl

    here : (n : ℕ) → has (is_entry text (length classes) n side) es ≡ is_in n (ports c.body)
    here n =
        let same : nat_eq (length classes) (length classes) ≡ true = grind (arith, nat_tests) in
        let l = longer in
        passed (length classes) n (omega arith)
        ∙ class_ports text side ports names (length classes) (length classes) n c (config_phrases us)
        ∙ ap (λ b. (b && is_in n (ports c.body)) || beyond (length classes) n (length classes + 1)) same
        ∙ ap (λ j. is_in n (ports c.body) || beyond (length classes) n j) (sym longer)
        ∙ ap (λ b. is_in n (ports c.body) || b) (none_named text side ports names (classes ++ c ∷ []) us (length classes) n (omega (arith, l)))
        ∙ or_false (is_in n (ports c.body))

    onward : PassedBy text side es (length (classes ++ c ∷ [])) (config_phrases us)
    onward m n le =
        let l = longer in
        let apart : nat_eq m (length classes) ≡ false = (let le2 : length classes + 1 ≤ m = omega (arith, le, l) in grind (arith, nat_tests)) in
        passed m n (omega (arith, le, l))
        ∙ class_ports text side ports names (length classes) m n c (config_phrases us)
        ∙ ap (λ b. (b && is_in n (ports c.body)) || beyond m n (length classes + 1)) apart
        ∙ ap (beyond m n) (sym longer)

-- The ports of a class that is found are those that its body names.
pub record IsPorted (text : List ℕ) (es : List Entry) (x : ClassTree × List ClassTree) : Type 0 where
  pub inputs : (n : ℕ) → is_some (first_entry text es (length x.1) n (codes "input")) ≡ is_in n (inputs_of text x.0)
  pub outputs : (n : ℕ) → is_some (first_entry text es (length x.1) n (codes "output")) ≡ is_in n (outputs_of text x.0)

abbrev pub Reached : List ℕ → List Entry → Found → Type 0
Reached text es None = Unit {0}
Reached text es (Some x) = IsPorted text es x

abbrev pub ArePorted : List ℕ → List Entry → List ClassTree → List ClassTree → Type 0
ArePorted text es before [] = Unit {0}
ArePorted text es before (c ∷ cs) = IsPorted text es (c, before) × ArePorted text es (before ++ c ∷ []) cs

both_named : (text : List ℕ) (es : List Entry) (before cs : List ClassTree) → AreNamed text (codes "input") (inputs_body text) es before cs → AreNamed text (codes "output") (outputs_body text) es before cs
    → ArePorted text es before cs
both_named text es before [] a b = tt
both_named text es before (c ∷ cs) a b = (
  record {
    inputs = λ n. has_first (is_entry text (length before) n (codes "input")) 0 es ∙ a.0 n;
    outputs = λ n. has_first (is_entry text (length before) n (codes "output")) 0 es ∙ b.0 n;
  },
  both_named text es (before ++ c ∷ []) cs a.1 b.1,
)

pub ports_agree : (text : List ℕ) (tree : List OuterTree) → ArePorted text (ports_from text (out_at 0) (config_phrases tree)) [] (classes_of tree)
ports_agree text tree =
    both_named text (ports_from text (out_at 0) (config_phrases tree)) [] (classes_of tree)
    (named_all text (codes "input") (inputs_body text) (inputs_named text) (ports_from text (out_at 0) (config_phrases tree)) [] tree (λ m n le. refl))
    (named_all text (codes "output") (outputs_body text) (outputs_named text) (ports_from text (out_at 0) (config_phrases tree)) [] tree (λ m n le. refl))

pub ported_front : (text : List ℕ) (es : List Entry) (before cs more : List ClassTree) → ArePorted text es before (cs ++ more) → ArePorted text es before cs
ported_front text es before [] more h = tt
ported_front text es before (c ∷ cs) more h = (h.0, ported_front text es (before ++ c ∷ []) cs more h.1)

reached_from : (text : List ℕ) (es : List Entry) (before cs : List ClassTree) (name : List ℕ) → ArePorted text es before cs → Reached text es (class_from text before cs name)
unfolding class_from
reached_from text es before [] name h = tt
reached_from text es before (c ∷ cs) name h = by (bytes_eq (spelling text c.name) name) h.0 (reached_from text es (before ++ c ∷ []) cs name h.1)
  where
    by : (b : Bool) → IsPorted text es (c, before) → Reached text es (class_from text (before ++ c ∷ []) cs name) → Reached text es (cond b (Some (c, before)) (class_from text (before ++ c ∷ []) cs name))
    by true p q = p
    by false p q = q

pub class_reached : (text : List ℕ) (es : List Entry) (classes : List ClassTree) (name : List ℕ) → ArePorted text es [] classes → Reached text es (class_under text classes name)
class_reached text es classes name h = reached_from text es [] classes name h
