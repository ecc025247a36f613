-- The actions of a statement are those that its tree tells.
use Rattle.std.proofs.Common.{◌≡◌, ℕ, suc, List, [], ◌∷◌, ◌++◌, length, map, cond, codes, Bool, true, false, ◌&&◌, not, Option, Some, None, is_some, refl, sym, ap, ◌∙◌, subst}
use Rattle.std.specs.Str.{bytes_eq}
use Rattle.std.specs.Option.{option_map}
use Rattle.std.proofs.lemmas.List.{append_assoc, append-nil, length-map}
use Rattle.mt_syntax.specs.declared.token.Token.{Token}
use Rattle.mt_syntax.specs.declared.fault.ClickWhy.TheVariants as whys
use Rattle.mt_syntax.specs.declared.word.Word.{Word}
use Rattle.mt_syntax.specs.declared.phrase.Use.{Use}
use Rattle.mt_syntax.specs.declared.phrase.Phrase.{Phrase}
use Rattle.mt_syntax.specs.declared.phrase.Phrase.TheVariants as phrases
use Rattle.mt_syntax.specs.Reading.{word}
use Rattle.mt_syntax.specs.Words.{bytes_of}
use Rattle.mt_syntax.specs.Grammar.{UseTree, use_of, PortTree, port_of, ItemTree, named, alone, made, item_of, EndpointTree, endpoint_of, StatementTree, connect, declare, InnerTree, sign, plain, ClassTree, next_endpoints, more_names, statement_phrases, body_phrases}
use Rattle.mt_click.specs.declared.symbols.Scope.{Scope}
use Rattle.mt_click.specs.declared.symbols.Entry.{Entry}
use Rattle.mt_click.specs.declared.action.Action.{Action}
use Rattle.mt_click.specs.declared.action.Action.TheVariants as actions
use Rattle.mt_click.specs.declared.action.Side.{Side}
use Rattle.mt_click.specs.declared.action.Side.TheVariants as sides
use Rattle.mt_click.specs.Scopes.{scope_number}
use Rattle.mt_click.specs.Names.{Names, is_followed}
use Rattle.mt_click.specs.Actions.{wrong, is_pseudo, declared_index, class_at, class_named, is_new, class_of_name, class_of_item, is_redeclared, naming, is_own, using, counting, making, reaching, written, first_offset, left_out, leaving_out, unnamed, item_actions, whole_endpoint, endpoint_actions, offset_at, name_side, item_side, source, sink, side_behind, connecting, rooming, group_actions, phrase_actions, actions_from}
use Rattle.mt_click.specs.Actions as told
use Rattle.mt_click.specs.Declarations.{spelling, Declaration, declaration, declared_item, declared_next, declared_more, declared_statement, declared_body, inputs_of, outputs_of, port_value}
use Rattle.mt_click.specs.Acts.{Sight, is_border, class_meant, name_meant, bare_use, lone_class, item_class, lone_side, side, side_left, side_reached, has_next}
use Rattle.mt_click.specs.Spread.{Found, number, naming_of, using_of, counting_at, counting_of, making_at, making_of, reaching_of, written_of, left_out_of, first_of, leaving_out_of, unnamed_of, named_of, item_of_end, whole_of, actions_of_endpoint, connecting_of, actions_of_next, names_of_group, making_of_group, rooming_at, rooming_of, actions_of_statement, actions_of_body}
use Rattle.mt_click.proofs.FirstEntry.{Stands, class_stands, place_entry, place_stands, some_stands}
use Rattle.mt_click.proofs.NameEntries.{entry_of}
use Rattle.mt_click.proofs.PortEntries.{Reached, port_number, connected_next, connected_body}
use Rattle.mt_click.proofs.ScopesAgree.{Sees}

-- names
naming_agrees : (names : Names) (s : Scope) (v : Sight) → Sees names s v → (earlier : List Declaration) (d : Declaration) (rest : List Declaration) → v.declared ≡ earlier ++ d ∷ rest
    → naming names s (word d.name) ≡ naming_of v earlier d.name
unfolding naming naming_of
naming_agrees names s v h earlier d rest e = ap (λ b. cond b (actions.Name (wrong whys.Redeclared d.name.from) ∷ []) []) (h.before earlier d rest e)

-- uses
using_agrees : (names : Names) (s : Scope) (v : Sight) → Sees names s v → (t : Token) → using names s (word t) ≡ using_of v t
unfolding using using_of
using_agrees names s v h t = ap (λ b. cond b (actions.Name (wrong whys.Recursive t.from) ∷ []) []) (h.own t)

counting_number : (u : Use) (o : Found) → told.counting_of u (number o) ≡ counting_at u o
counting_number u None = refl
counting_number u (Some x) = refl

counting_agrees : (names : Names) (s : Scope) (v : Sight) → Sees names s v → (u : UseTree) → counting names s (use_of u) ≡ counting_of v u
unfolding counting counting_of
counting_agrees names s v h u = ap (told.counting_of (use_of u)) (h.meant u.class) ∙ counting_number (use_of u) (class_meant v u.class)

making_number : (name : Option Word) (u : Use) (o : Found) → told.making_of name u (number o) ≡ making_at name u o
making_number name u None = refl
making_number name u (Some x) = refl

making_agrees : (names : Names) (s : Scope) (v : Sight) → Sees names s v → (name : Option Word) (u : UseTree) → making names s name (use_of u) ≡ making_of v name u
unfolding making making_of
making_agrees names s v h name u = ap (λ m. m ∷ []) (ap (told.making_of name (use_of u)) (h.meant u.class) ∙ making_number name (use_of u) (class_meant v u.class))

some_number : (o : Found) → is_some (number o) ≡ is_some o
some_number None = refl
some_number (Some x) = refl

-- ports
abbrev Reaches : Names → List ℕ → (ClassTree → List ℕ) → Found → Type 0
Reaches names side ports found = (n at : ℕ) → reaching names (number found) side n at ≡ reaching_of ports found n at

reaches_inputs : (names : Names) (found : Found) → Reached names.text names.ports found → Reaches names (codes "input") (inputs_of names.text) found
unfolding reaching reaching_of
reaches_inputs names None r n at = refl
reaches_inputs names (Some x) r n at = ap (λ b. cond b [] (actions.MissingPort (wrong whys.NoPort at) ∷ [])) (r.inputs n)

reaches_outputs : (names : Names) (found : Found) → Reached names.text names.ports found → Reaches names (codes "output") (outputs_of names.text) found
unfolding reaching reaching_of
reaches_outputs names None r n at = refl
reaches_outputs names (Some x) r n at = ap (λ b. cond b [] (actions.MissingPort (wrong whys.NoPort at) ∷ [])) (r.outputs n)

written_agrees : (names : Names) (side : List ℕ) (ports : ClassTree → List ℕ) (found : Found) → Reaches names side ports found → (p : Option PortTree)
    → written names (number found) side (option_map port_of p) ≡ written_of ports found p
unfolding written written_of
written_agrees names side ports found r None = refl
written_agrees names side ports found r (Some p) = r p.value p.left.from

left_out_agrees : (names : Names) (side : List ℕ) (ports : ClassTree → List ℕ) (found : Found) → Reaches names side ports found → (followed : Bool) (p : Option PortTree) (at : ℕ)
    → left_out names (number found) side followed (option_map port_of p) at ≡ left_out_of ports found followed p at
unfolding left_out left_out_of
left_out_agrees names side ports found r followed None at = ap (λ xs. cond (followed && true) xs []) (r 0 at)
left_out_agrees names side ports found r followed (Some p) at = ap (λ xs. cond (followed && false) xs []) (r 0 at)

first_same : (i : ItemTree) → first_offset (item_of i) ≡ first_of i
first_same (alone t) = refl
first_same (named t c u) = refl
first_same (made t a) = refl

leaving_out_agrees : (names : Names) (v : Sight) (found : Found) → Reaches names (codes "input") (inputs_of v.text) found → Reaches names (codes "output") (outputs_of v.text) found
    → (next followed : Bool) (e : EndpointTree) → leaving_out names (number found) next followed (endpoint_of e) ≡ leaving_out_of v found next followed e
unfolding leaving_out leaving_out_of
leaving_out_agrees names v found a b next followed e =
    ap (λ at. left_out names (number found) (codes "input") next (endpoint_of e).input at ++ left_out names (number found) (codes "output") followed (endpoint_of e).output at) (first_same e.item)
    ∙ ap (λ xs. xs ++ left_out names (number found) (codes "output") followed (endpoint_of e).output (first_of e.item)) (left_out_agrees names (codes "input") (inputs_of v.text) found a next e.input (first_of e.item))
    ∙ ap (λ xs. left_out_of (inputs_of v.text) found next e.input (first_of e.item) ++ xs) (left_out_agrees names (codes "output") (outputs_of v.text) found b followed e.output (first_of e.item))

-- what an item does
unnamed_agrees : (names : Names) (s : Scope) (v : Sight) → Sees names s v → (found : Found) → Reaches names (codes "input") (inputs_of v.text) found → Reaches names (codes "output") (outputs_of v.text) found
    → (next followed : Bool) (e : EndpointTree) (u : UseTree) → unnamed names s (number found) next followed (endpoint_of e) (use_of u) ≡ unnamed_of v found next followed e u
unfolding unnamed unnamed_of
unnamed_agrees names s v h found a b next followed e u =
    ap (λ xs. xs ++ (counting names s (use_of u) ++ (leaving_out names (number found) next followed (endpoint_of e) ++ making names s None (use_of u)))) (using_agrees names s v h u.class)
    ∙ ap (λ xs. using_of v u.class ++ (xs ++ (leaving_out names (number found) next followed (endpoint_of e) ++ making names s None (use_of u)))) (counting_agrees names s v h u)
    ∙ ap (λ xs. using_of v u.class ++ (counting_of v u ++ (xs ++ making names s None (use_of u)))) (leaving_out_agrees names v found a b next followed e)
    ∙ ap (λ xs. using_of v u.class ++ (counting_of v u ++ (leaving_out_of v found next followed e ++ xs))) (making_agrees names s v h None u)

named_agrees : (names : Names) (s : Scope) (v : Sight) → Sees names s v → (earlier rest : List Declaration) (found : Found) → Reaches names (codes "input") (inputs_of v.text) found → Reaches names (codes "output") (outputs_of v.text) found
    → (next followed : Bool) (e : EndpointTree) (t : Token) (u : UseTree) → v.declared ≡ earlier ++ declaration v.classes u t ∷ rest
    → told.named names s (number found) next followed (endpoint_of e) (word t) (use_of u) ≡ named_of v earlier found next followed e t u
unfolding told.named named_of
named_agrees names s v h earlier rest found a b next followed e t u q =
    ap (λ xs. xs ++ (leaving_out names (number found) next followed (endpoint_of e) ++ (using names s (word u.class) ++ (counting names s (use_of u) ++ making names s (Some (word t)) (use_of u))))) (naming_agrees names s v h earlier (declaration v.classes u t) rest q)
    ∙ ap (λ xs. naming_of v earlier t ++ (xs ++ (using names s (word u.class) ++ (counting names s (use_of u) ++ making names s (Some (word t)) (use_of u))))) (leaving_out_agrees names v found a b next followed e)
    ∙ ap (λ xs. naming_of v earlier t ++ (leaving_out_of v found next followed e ++ (xs ++ (counting names s (use_of u) ++ making names s (Some (word t)) (use_of u))))) (using_agrees names s v h u.class)
    ∙ ap (λ xs. naming_of v earlier t ++ (leaving_out_of v found next followed e ++ (using_of v u.class ++ (xs ++ making names s (Some (word t)) (use_of u))))) (counting_agrees names s v h u)
    ∙ ap (λ xs. naming_of v earlier t ++ (leaving_out_of v found next followed e ++ (using_of v u.class ++ (counting_of v u ++ xs)))) (making_agrees names s v h (Some (word t)) u)

some_entry : (f : Declaration → Entry) (o : Option Declaration) → is_some (option_map f o) ≡ is_some o
some_entry f None = refl
some_entry f (Some d) = refl

new_agrees : (names : Names) (s : Scope) (v : Sight) → Sees names s v → (t : Token) → is_new names s (word t) ≡ (not (is_border v t) && not (is_some (name_meant v t)))
unfolding is_new
new_agrees names s v h t =
    ap (λ b. not b && not (is_some (declared_index names s (bytes_of names.text (word t))))) (h.border t)
    ∙ ap (λ b. not (is_border v t) && not b) (some_stands names.names _ _ (h.located t) ∙ some_entry (entry_of v.text (scope_number s)) (name_meant v t))

item_agrees : (names : Names) (s : Scope) (v : Sight) → Sees names s v → (earlier rest : List Declaration) (found : Found) → Reaches names (codes "input") (inputs_of v.text) found → Reaches names (codes "output") (outputs_of v.text) found
    → (next followed : Bool) (e : EndpointTree) (i : ItemTree) → v.declared ≡ earlier ++ (declared_item v.classes i ++ rest)
    → item_actions names s (number found) next followed (endpoint_of e) (item_of i) ≡ item_of_end v earlier found next followed e i
unfolding item_actions item_of_end declared_item
item_agrees names s v h earlier rest found a b next followed e (named t c u) q = named_agrees names s v h earlier rest found a b next followed e t u q
item_agrees names s v h earlier rest found a b next followed e (made t x) q = unnamed_agrees names s v h found a b next followed e (record { class = t; arguments = Some x })
item_agrees names s v h earlier rest found a b next followed e (alone t) q =
    ap (λ n. cond n (unnamed names s (number found) next followed (endpoint_of e) (told.alone (word t))) (leaving_out names (number found) next followed (endpoint_of e))) (new_agrees names s v h t)
    ∙ ap (λ xs. cond (not (is_border v t) && not (is_some (name_meant v t))) xs (leaving_out names (number found) next followed (endpoint_of e))) (unnamed_agrees names s v h found a b next followed e (bare_use t))
    ∙ ap (λ xs. cond (not (is_border v t) && not (is_some (name_meant v t))) (unnamed_of v found next followed e (bare_use t)) xs) (leaving_out_agrees names v found a b next followed e)

whole_agrees : (names : Names) (s : Scope) (v : Sight) → Sees names s v → (earlier rest : List Declaration) (found : Found) → Reaches names (codes "input") (inputs_of v.text) found → Reaches names (codes "output") (outputs_of v.text) found
    → (next followed : Bool) (e : EndpointTree) → v.declared ≡ earlier ++ (declared_item v.classes e.item ++ rest) → whole_endpoint names s (number found) next followed (endpoint_of e) ≡ whole_of v earlier found next followed e
unfolding whole_endpoint whole_of
whole_agrees names s v h earlier rest found a b next followed e q =
    ap (λ xs. xs ++ (item_actions names s (number found) next followed (endpoint_of e) (item_of e.item) ++ written names (number found) (codes "output") (endpoint_of e).output)) (written_agrees names (codes "input") (inputs_of v.text) found a e.input)
    ∙ ap (λ xs. written_of (inputs_of v.text) found e.input ++ (xs ++ written names (number found) (codes "output") (endpoint_of e).output)) (item_agrees names s v h earlier rest found a b next followed e e.item q)
    ∙ ap (λ xs. written_of (inputs_of v.text) found e.input ++ (item_of_end v earlier found next followed e e.item ++ xs)) (written_agrees names (codes "output") (outputs_of v.text) found b e.output)

-- the class of what an item stands for
lone_number : (es : List Entry) (k : ℕ) (v : Sight) (t : Token) (c : Option ℕ) (o : Option ℕ) (m : Option Declaration) → Stands es o (option_map (entry_of v.text k) m) → c ≡ number (class_meant v t)
    → elim o [ None ↦ c | Some j ↦ class_at es (Some j) ] ≡ number (lone_class v t m)
lone_number es k v t c None None h e = e
lone_number es k v t c None (Some d) h e = absurd h
lone_number es k v t c (Some j) None h e = absurd h
lone_number es k v t c (Some j) (Some d) h e = class_stands es (Some j) (Some (entry_of v.text k d)) h

number_cond : (b : Bool) (x : Found) → cond b None (number x) ≡ number (cond b None x)
number_cond true x = refl
number_cond false x = refl

item_number : (names : Names) (s : Scope) (v : Sight) → Sees names s v → (i : ItemTree) → class_of_item names s (item_of i) ≡ number (item_class v i)
unfolding class_of_item class_of_name item_class
item_number names s v h (named t c u) = h.meant u.class
item_number names s v h (made t a) = h.meant t
item_number names s v h (alone t) =
    ap (λ b. cond b None (elim (declared_index names s (bytes_of names.text (word t))) [ None ↦ class_named names s (word t) | Some k ↦ class_at names.names (Some k) ])) (h.border t)
    ∙ ap (λ x. cond (is_border v t) None x) (lone_number names.names (scope_number s) v t (class_named names s (word t)) (declared_index names s (bytes_of names.text (word t))) (name_meant v t) (h.located t) (h.meant t))
    ∙ number_cond (is_border v t) (lone_class v t (name_meant v t))

end_agrees : (names : Names) (s : Scope) (v : Sight) → Sees names s v → (earlier rest : List Declaration) (next followed : Bool) (e : EndpointTree) → v.declared ≡ earlier ++ (declared_item v.classes e.item ++ rest)
    → endpoint_actions names s next followed (endpoint_of e) ≡ actions_of_endpoint v earlier next followed e
unfolding endpoint_actions actions_of_endpoint
end_agrees names s v h earlier rest next followed e q =
    ap (λ k. whole_endpoint names s k next followed (endpoint_of e)) (item_number names s v h e.item)
    ∙ whole_agrees names s v h earlier rest (item_class v e.item)
    (subst (λ x. Reaches names (codes "input") (inputs_of x) (item_class v e.item)) h.text (reaches_inputs names (item_class v e.item) (h.reached e.item)))
    (subst (λ x. Reaches names (codes "output") (outputs_of x) (item_class v e.item)) h.text (reaches_outputs names (item_class v e.item) (h.reached e.item)))
    next followed e q

-- the sides of a connection
lone_created : (text : List ℕ) (k : ℕ) (t : Token) (port : ℕ) (m : Option Declaration) → Some (sides.Created (place_entry t.from (option_map (entry_of text k) m)) port) ≡ lone_side t port m
lone_created text k t port None = refl
lone_created text k t port (Some d) = refl

side_agrees : (names : Names) (s : Scope) (v : Sight) → Sees names s v → (border : List ℕ) (port : ℕ) (i : ItemTree) → item_side names s border port (item_of i) ≡ side v border port i
unfolding item_side name_side side
side_agrees names s v h border port (named t c u) = refl
side_agrees names s v h border port (made t a) = refl
side_agrees names s v h border port (alone t) =
    ap (λ b. cond b (cond (bytes_eq (bytes_of names.text (word t)) border) (Some (sides.Border port)) None) own) (h.border t)
    ∙ ap (λ x. cond (is_border v t) (cond (bytes_eq (bytes_of x (word t)) border) (Some (sides.Border port)) None) own) h.text
    ∙ ap (λ x. cond (is_border v t) (cond (bytes_eq (spelling v.text t) border) (Some (sides.Border port)) None) x)
    (ap (λ n. Some (sides.Created n port)) (place_stands names.names t.from _ _ (h.located t)) ∙ lone_created v.text (scope_number s) t port (name_meant v t))
  where
    own : Option Side
    own = Some (sides.Created (offset_at names.names t.from (declared_index names s (bytes_of names.text (word t)))) port)

source_agrees : (names : Names) (s : Scope) (v : Sight) → Sees names s v → (e : EndpointTree) → source names s (endpoint_of e) ≡ side_left v e
unfolding source
source_agrees names s v h e = ap (λ n. item_side names s (codes "input") n (item_of e.item)) (port_number e.output) ∙ side_agrees names s v h (codes "input") (port_value e.output) e.item

sink_agrees : (names : Names) (s : Scope) (v : Sight) → Sees names s v → (e : EndpointTree) → sink names s (endpoint_of e) ≡ side_reached v e
unfolding sink
sink_agrees names s v h e = ap (λ n. item_side names s (codes "output") n (item_of e.item)) (port_number e.input) ∙ side_agrees names s v h (codes "output") (port_value e.input) e.item

connecting_same : (arrow : ℕ) (a b : Option Side) → connecting arrow a b ≡ connecting_of arrow a b
connecting_same arrow None b = refl
connecting_same arrow (Some a) None = refl
connecting_same arrow (Some a) (Some b) = refl

connecting_agrees : (names : Names) (s : Scope) (v : Sight) → Sees names s v → (arrow : ℕ) (e f : EndpointTree) → connecting arrow (source names s (endpoint_of e)) (sink names s (endpoint_of f)) ≡ connecting_of arrow (side_left v e) (side_reached v f)
connecting_agrees names s v h arrow e f =
    ap (λ x. connecting arrow x (sink names s (endpoint_of f))) (source_agrees names s v h e)
    ∙ ap (connecting arrow (side_left v e)) (sink_agrees names s v h f)
    ∙ connecting_same arrow (side_left v e) (side_reached v f)

-- What a connection leaves counts for the phrase behind it alone.
pub any_before : (names : Names) (s : Scope) (ws : List Word) (a b : Option Side) (ps : List Phrase) → is_followed ps ≡ false → actions_from names s ws a ps ≡ actions_from names s ws b ps
unfolding actions_from phrase_actions
any_before names s ws a b [] h = refl
any_before names s ws a b (phrases.First e ∷ ps) h = refl
any_before names s ws a b (phrases.Next arrow e ∷ ps) h = absurd (let x : true ≡ false = h in cc)
any_before names s ws a b (phrases.Declared w ∷ ps) h = refl
any_before names s ws a b (phrases.Made u ∷ ps) h = refl
any_before names s ws a b (phrases.Class w ∷ ps) h = refl
any_before names s ws a b (phrases.Parameter w ∷ ps) h = refl
any_before names s ws a b (phrases.Close ∷ ps) h = refl

-- a list of declarations, with what is declared first taken to what is behind it or before it
there_now : (earlier xs ys rest : List Declaration) → earlier ++ (xs ++ ys ++ rest) ≡ earlier ++ (xs ++ (ys ++ rest))
there_now earlier xs ys rest = ap (λ zs. earlier ++ zs) (append_assoc xs ys rest)

there_later : (earlier xs ys rest : List Declaration) → earlier ++ (xs ++ ys ++ rest) ≡ earlier ++ xs ++ (ys ++ rest)
there_later earlier xs ys rest = there_now earlier xs ys rest ∙ sym (append_assoc earlier xs (ys ++ rest))

regroup : (a b c r : List Action) → a ++ b ++ (c ++ r) ≡ a ++ (b ++ c) ++ r
regroup a b c r = append_assoc a b (c ++ r) ∙ ap (λ xs. a ++ xs) (sym (append_assoc b c r)) ∙ sym (append_assoc a (b ++ c) r)

next_agrees : (names : Names) (s : Scope) (v : Sight) → Sees names s v → (earlier rest : List Declaration) (e : EndpointTree) (more : List (Token × EndpointTree)) (ps : List Phrase) → is_followed ps ≡ false
    → v.declared ≡ earlier ++ (declared_next v.classes more ++ rest)
    → actions_from names s [] (source names s (endpoint_of e)) (next_endpoints more ++ ps) ≡ actions_of_next v earlier e more ++ actions_from names s [] None ps
unfolding actions_from phrase_actions side_behind actions_of_next declared_next
next_agrees names s v h earlier rest e [] ps j q = any_before names s [] (source names s (endpoint_of e)) None ps j
next_agrees names s v h earlier rest e (next ∷ more) ps j q =
    ap (λ b. endpoint_actions names s true b (endpoint_of next.1) ++ connecting next.0.from (source names s (endpoint_of e)) (sink names s (endpoint_of next.1)) ++ behind) (connected_next more ps j)
    ∙ ap (λ xs. xs ++ connecting next.0.from (source names s (endpoint_of e)) (sink names s (endpoint_of next.1)) ++ behind)
    (end_agrees names s v h earlier (declared_next v.classes more ++ rest) true (has_next more) next.1 (q ∙ there_now earlier (declared_item v.classes next.1.item) (declared_next v.classes more) rest))
    ∙ ap (λ xs. actions_of_endpoint v earlier true (has_next more) next.1 ++ xs ++ behind) (connecting_agrees names s v h next.0.from e next.1)
    ∙ ap (λ xs. actions_of_endpoint v earlier true (has_next more) next.1 ++ connecting_of next.0.from (side_left v e) (side_reached v next.1) ++ xs)
    (next_agrees names s v h (earlier ++ declared_item v.classes next.1.item) rest next.1 more ps j (q ∙ there_later earlier (declared_item v.classes next.1.item) (declared_next v.classes more) rest))
    ∙ regroup (actions_of_endpoint v earlier true (has_next more) next.1) (connecting_of next.0.from (side_left v e) (side_reached v next.1))
    (actions_of_next v (earlier ++ declared_item v.classes next.1.item) next.1 more) (actions_from names s [] None ps)
  where
    behind : List Action
    behind = actions_from names s [] (source names s (endpoint_of next.1)) (next_endpoints more ++ ps)

-- the names before one `::`
abbrev words : List (Token × Token) → List Word
words more = map (λ x. word x.1) more

abbrev created_actions : Names → Scope → UseTree → List Word → List Action
created_actions names s u ws = using names s (word u.class) ++ (rooming names s (use_of u) ws ++ group_actions names s (use_of u) ws)

more_agrees : (names : Names) (s : Scope) (v : Sight) → Sees names s v → (earlier rest : List Declaration) (u : UseTree) (ws : List Word) (before : Option Side) (more : List (Token × Token)) (ps : List Phrase)
    → v.declared ≡ earlier ++ (declared_more v.classes u more ++ rest)
    → actions_from names s ws before (more_names more ++ phrases.Made (use_of u) ∷ [] ++ ps) ≡ names_of_group v earlier u more ++ (created_actions names s u (ws ++ words more) ++ actions_from names s [] None ps)
unfolding actions_from phrase_actions side_behind names_of_group declared_more
more_agrees names s v h earlier rest u ws before [] ps q = ap (λ xs. created_actions names s u xs ++ actions_from names s [] None ps) (sym (append-nil ws))
more_agrees names s v h earlier rest u ws before (next ∷ more) ps q =
    ap (λ xs. xs ++ actions_from names s (ws ++ word next.1 ∷ []) None (more_names more ++ phrases.Made (use_of u) ∷ [] ++ ps)) (naming_agrees names s v h earlier (declaration v.classes u next.1) (declared_more v.classes u more ++ rest) q)
    ∙ ap (λ xs. naming_of v earlier next.1 ++ xs)
    (more_agrees names s v h (earlier ++ declaration v.classes u next.1 ∷ []) rest u (ws ++ word next.1 ∷ []) None more ps (q ∙ sym (append_assoc earlier (declaration v.classes u next.1 ∷ []) (declared_more v.classes u more ++ rest))))
    ∙ sym (append_assoc (naming_of v earlier next.1) (names_of_group v (earlier ++ declaration v.classes u next.1 ∷ []) u more) (created_actions names s u (ws ++ word next.1 ∷ [] ++ words more) ++ actions_from names s [] None ps))
    ∙ ap (λ xs. naming_of v earlier next.1 ++ names_of_group v (earlier ++ declaration v.classes u next.1 ∷ []) u more ++ (created_actions names s u xs ++ actions_from names s [] None ps)) (append_assoc ws (word next.1 ∷ []) (words more))

group_agrees : (names : Names) (s : Scope) (v : Sight) → Sees names s v → (u : UseTree) (more : List (Token × Token)) → group_actions names s (use_of u) (words more) ≡ making_of_group v u more
unfolding group_actions making_of_group
group_agrees names s v h u [] = refl
group_agrees names s v h u (next ∷ more) =
    ap (λ xs. xs ++ (making names s (Some (word next.1)) (use_of u) ++ group_actions names s (use_of u) (words more))) (counting_agrees names s v h u)
    ∙ ap (λ xs. counting_of v u ++ (xs ++ group_actions names s (use_of u) (words more))) (making_agrees names s v h (Some (word next.1)) u)
    ∙ ap (λ xs. counting_of v u ++ (making_of v (Some (word next.1)) u ++ xs)) (group_agrees names s v h u more)

rooming_number : (n : ℕ) (u : Use) (o : Found) → cond (is_some (number o)) [] (actions.Room n u ∷ []) ≡ rooming_at n u o
rooming_number n u None = refl
rooming_number n u (Some x) = refl

rooming_agrees : (names : Names) (s : Scope) (v : Sight) → Sees names s v → (u : UseTree) (first : Token) (more : List (Token × Token)) → rooming names s (use_of u) (word first ∷ words more) ≡ rooming_of v u more
unfolding rooming rooming_of
rooming_agrees names s v h u first more =
    ap (λ k. cond (is_some k) [] (actions.Room (suc (length (words more))) (use_of u) ∷ [])) (h.meant u.class)
    ∙ ap (λ n. cond (is_some (number (class_meant v u.class))) [] (actions.Room (suc n) (use_of u) ∷ [])) (length-map more (λ (x : Token × Token). word x.1))
    ∙ rooming_number (suc (length more)) (use_of u) (class_meant v u.class)

created_agrees : (names : Names) (s : Scope) (v : Sight) → Sees names s v → (u : UseTree) (first : Token) (more : List (Token × Token))
    → created_actions names s u (word first ∷ words more) ≡ using_of v u.class ++ (rooming_of v u more ++ (counting_of v u ++ (making_of v (Some (word first)) u ++ making_of_group v u more)))
unfolding group_actions
created_agrees names s v h u first more =
    ap (λ xs. xs ++ (rooming names s (use_of u) (word first ∷ words more) ++ group_actions names s (use_of u) (word first ∷ words more))) (using_agrees names s v h u.class)
    ∙ ap (λ xs. using_of v u.class ++ (xs ++ group_actions names s (use_of u) (word first ∷ words more))) (rooming_agrees names s v h u first more)
    ∙ ap (λ xs. using_of v u.class ++ (rooming_of v u more ++ (xs ++ (making names s (Some (word first)) (use_of u) ++ group_actions names s (use_of u) (words more))))) (counting_agrees names s v h u)
    ∙ ap (λ xs. using_of v u.class ++ (rooming_of v u more ++ (counting_of v u ++ (xs ++ group_actions names s (use_of u) (words more))))) (making_agrees names s v h (Some (word first)) u)
    ∙ ap (λ xs. using_of v u.class ++ (rooming_of v u more ++ (counting_of v u ++ (making_of v (Some (word first)) u ++ xs)))) (group_agrees names s v h u more)

pub statement_agrees : (names : Names) (s : Scope) (v : Sight) → Sees names s v → (earlier rest : List Declaration) (st : StatementTree) (ps : List Phrase) → is_followed ps ≡ false
    → v.declared ≡ earlier ++ (declared_statement v.classes st ++ rest)
    → actions_from names s [] None (statement_phrases st ++ ps) ≡ actions_of_statement v earlier st ++ actions_from names s [] None ps
unfolding actions_from phrase_actions side_behind actions_of_statement declared_statement
statement_agrees names s v h earlier rest (connect e more) ps j q =
    ap (λ b. endpoint_actions names s false b (endpoint_of e) ++ actions_from names s [] (source names s (endpoint_of e)) (next_endpoints more ++ ps)) (connected_next more ps j)
    ∙ ap (λ xs. xs ++ actions_from names s [] (source names s (endpoint_of e)) (next_endpoints more ++ ps))
    (end_agrees names s v h earlier (declared_next v.classes more ++ rest) false (has_next more) e (q ∙ there_now earlier (declared_item v.classes e.item) (declared_next v.classes more) rest))
    ∙ ap (λ xs. actions_of_endpoint v earlier false (has_next more) e ++ xs)
    (next_agrees names s v h (earlier ++ declared_item v.classes e.item) rest e more ps j (q ∙ there_later earlier (declared_item v.classes e.item) (declared_next v.classes more) rest))
    ∙ sym (append_assoc (actions_of_endpoint v earlier false (has_next more) e) (actions_of_next v (earlier ++ declared_item v.classes e.item) e more) (actions_from names s [] None ps))
statement_agrees names s v h earlier rest (declare first next more colons last) ps j q =
    ap (λ xs. xs ++ actions_from names s (word first ∷ []) None (more_names (next ∷ more) ++ phrases.Made (use_of last) ∷ [] ++ ps)) (naming_agrees names s v h earlier (declaration v.classes last first) (declared_more v.classes last (next ∷ more) ++ rest) q)
    ∙ ap (λ xs. naming_of v earlier first ++ xs)
    (more_agrees names s v h (earlier ++ declaration v.classes last first ∷ []) rest last (word first ∷ []) None (next ∷ more) ps
    (q ∙ sym (append_assoc earlier (declaration v.classes last first ∷ []) (declared_more v.classes last (next ∷ more) ++ rest))))
    ∙ ap (λ xs. naming_of v earlier first ++ (group ++ (xs ++ actions_from names s [] None ps))) (created_agrees names s v h last first (next ∷ more))
    ∙ ap (λ xs. naming_of v earlier first ++ xs) (sym (append_assoc group all (actions_from names s [] None ps)))
    ∙ sym (append_assoc (naming_of v earlier first) (group ++ all) (actions_from names s [] None ps))
  where
    group : List Action
    group = names_of_group v (earlier ++ declaration v.classes last first ∷ []) last (next ∷ more)

    all : List Action
    all = using_of v last.class ++ (rooming_of v last (next ∷ more) ++ (counting_of v last ++ (making_of v (Some (word first)) last ++ making_of_group v last (next ∷ more))))

pub body_agrees : (names : Names) (s : Scope) (v : Sight) → Sees names s v → (earlier rest : List Declaration) (us : List InnerTree) (ps : List Phrase) → is_followed ps ≡ false
    → v.declared ≡ earlier ++ (declared_body v.classes us ++ rest)
    → actions_from names s [] None (body_phrases us ++ ps) ≡ actions_of_body v earlier us ++ actions_from names s [] None ps
unfolding actions_of_body declared_body
body_agrees names s v h earlier rest [] ps j q = refl
body_agrees names s v h earlier rest (sign t ∷ us) ps j q = body_agrees names s v h earlier rest us ps j q
body_agrees names s v h earlier rest (plain st ∷ us) ps j q =
    ap (actions_from names s [] None) (append_assoc (statement_phrases st) (body_phrases us) ps)
    ∙ statement_agrees names s v h earlier (declared_body v.classes us ++ rest) st (body_phrases us ++ ps) (connected_body us ps j) (q ∙ there_now earlier (declared_statement v.classes st) (declared_body v.classes us) rest)
    ∙ ap (λ xs. actions_of_statement v earlier st ++ xs)
    (body_agrees names s v h (earlier ++ declared_statement v.classes st) rest us ps j (q ∙ there_later earlier (declared_statement v.classes st) (declared_body v.classes us) rest))
    ∙ sym (append_assoc (actions_of_statement v earlier st) (actions_of_body v (earlier ++ declared_statement v.classes st) us) (actions_from names s [] None ps))
