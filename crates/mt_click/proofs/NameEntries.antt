-- The names of each scope as entries of a table, and the first under a name.
use Rattle.std.proofs.Common.{◌≡◌, ℕ, ◌+◌, ◌<◌, ◌≤◌, List, [], ◌∷◌, ◌++◌, length, map, cond, nat_eq, Bool, true, false, ◌&&◌, Option, Some, None, refl, sym, ap, ◌∙◌, arith}
use Rattle.std.specs.Str.{bytes_eq}
use Rattle.std.specs.Option.{option_map}
use Rattle.std.proofs.lemmas.Bool.Decides.{nat_tests}
use Rattle.std.proofs.lemmas.List.{append_assoc, append-nil, map-append, length-append}
use Rattle.mt_syntax.specs.declared.token.Token.{Token}
use Rattle.mt_syntax.specs.declared.word.Word.{Word}
use Rattle.mt_syntax.specs.declared.phrase.Phrase.{Phrase}
use Rattle.mt_syntax.specs.declared.phrase.Phrase.TheVariants as phrases
use Rattle.mt_syntax.specs.Reading.{word}
use Rattle.mt_syntax.specs.Grammar.{UseTree, use_of, ItemTree, named, alone, made, item_of, EndpointTree, StatementTree, connect, declare, InnerTree, sign, plain, ParameterTree, ClassTree, OuterTree, outer, class, next_endpoints, more_names, statement_phrases, body_phrases, more_parameters, parameter_phrases, class_phrases, config_phrases}
use Rattle.mt_click.specs.declared.symbols.Scope.{Scope}
use Rattle.mt_click.specs.declared.symbols.Entry.{Entry}
use Rattle.mt_click.specs.Scopes.{scope_number}
use Rattle.mt_click.specs.Names.{entry, is_entry, class_of, declared_in, declared_at, names_from}
use Rattle.mt_click.specs.Declarations.{spelling, class_under, Declaration, declaration, declared_item, declared_next, declared_more, declared_statement, declared_body, declared_outside, declared_under, classes_of}
use Rattle.mt_click.specs.Acts.{class_declared}
use Rattle.mt_click.specs.Spread.{number}
use Rattle.mt_click.proofs.FirstEntry.{bytes_sym, found_in}
use Rattle.mt_click.proofs.ClassEntries.{entry_of_class, class_split, class_agrees}

-- a declaration as an entry in the scope of a number
abbrev pub entry_of : List ℕ → ℕ → Declaration → Entry
entry_of text n d = entry n 0 (word d.name) (number (class_declared text d))

-- outside classes, and in the body of a class, behind so many
abbrev pub out_at : ℕ → Scope
out_at n = record { inside = false; class_count = n }

abbrev pub in_at : ℕ → Scope
in_at n = record { inside = true; class_count = n }

-- a scope in which a name means a class among some
abbrev pub Knows : List ℕ → List Entry → Scope → List ClassTree → Type 0
Knows text cl s classes = (name : List ℕ) → class_of text cl s name ≡ number (class_under text classes name)

mapped : (f : Declaration → Entry) (xs ys : List Declaration) (es : List Entry) → map f xs ++ (map f ys ++ es) ≡ map f (xs ++ ys) ++ es
mapped f xs ys es = sym (append_assoc (map f xs) (map f ys) es) ∙ ap (λ zs. zs ++ es) (sym (map-append f xs ys))

item_entries : (text : List ℕ) (cl : List Entry) (s : Scope) (classes : List ClassTree) → Knows text cl s classes → (i : ItemTree)
    → declared_in text cl s (item_of i) ≡ map (entry_of text (scope_number s)) (declared_item classes i)
unfolding declared_in declared_item class_declared
item_entries text cl s classes knows (alone t) = refl
item_entries text cl s classes knows (made t a) = refl
item_entries text cl s classes knows (named t c u) = ap (λ k. entry (scope_number s) 0 (word t) k ∷ []) (knows (spelling text u.class))

next_entries : (text : List ℕ) (cl : List Entry) (s : Scope) (classes : List ClassTree) → Knows text cl s classes → (more : List (Token × EndpointTree)) (ps : List Phrase)
    → names_from text cl s [] (next_endpoints more ++ ps) ≡ map (entry_of text (scope_number s)) (declared_next classes more) ++ names_from text cl s [] ps
unfolding names_from declared_at declared_next
next_entries text cl s classes knows [] ps = refl
next_entries text cl s classes knows (next ∷ more) ps =
    ap (λ es. es ++ names_from text cl s [] (next_endpoints more ++ ps)) (item_entries text cl s classes knows next.1.item)
    ∙ ap (λ es. map (entry_of text (scope_number s)) (declared_item classes next.1.item) ++ es) (next_entries text cl s classes knows more ps)
    ∙ mapped (entry_of text (scope_number s)) (declared_item classes next.1.item) (declared_next classes more) (names_from text cl s [] ps)

abbrev created_entry : List ℕ → List Entry → Scope → UseTree → Word → Entry
created_entry text cl s u w = entry (scope_number s) 0 w (class_of text cl s (spelling text u.class))

created_same : (text : List ℕ) (cl : List Entry) (s : Scope) (classes : List ClassTree) → Knows text cl s classes → (u : UseTree) (t : Token)
    → created_entry text cl s u (word t) ≡ entry_of text (scope_number s) (declaration classes u t)
unfolding class_declared
created_same text cl s classes knows u t = ap (λ k. entry (scope_number s) 0 (word t) k) (knows (spelling text u.class))

more_entries : (text : List ℕ) (cl : List Entry) (s : Scope) (classes : List ClassTree) → Knows text cl s classes → (u : UseTree) (ws : List Word) (more : List (Token × Token)) (ps : List Phrase)
    → names_from text cl s ws (more_names more ++ phrases.Made (use_of u) ∷ [] ++ ps) ≡ map (created_entry text cl s u) ws ++ (map (entry_of text (scope_number s)) (declared_more classes u more) ++ names_from text cl s [] ps)
unfolding names_from declared_at declared_more
more_entries text cl s classes knows u ws [] ps = refl
more_entries text cl s classes knows u ws (next ∷ more) ps =
    more_entries text cl s classes knows u (ws ++ word next.1 ∷ []) more ps
    ∙ ap (λ es. es ++ rest) (map-append (created_entry text cl s u) ws (word next.1 ∷ []))
    ∙ append_assoc (map (created_entry text cl s u) ws) (created_entry text cl s u (word next.1) ∷ []) rest
    ∙ ap (λ e. map (created_entry text cl s u) ws ++ e ∷ rest) (created_same text cl s classes knows u next.1)
  where
    rest : List Entry
    rest = map (entry_of text (scope_number s)) (declared_more classes u more) ++ names_from text cl s [] ps

statement_entries : (text : List ℕ) (cl : List Entry) (s : Scope) (classes : List ClassTree) → Knows text cl s classes → (st : StatementTree) (ps : List Phrase)
    → names_from text cl s [] (statement_phrases st ++ ps) ≡ map (entry_of text (scope_number s)) (declared_statement classes st) ++ names_from text cl s [] ps
unfolding names_from declared_at declared_statement
statement_entries text cl s classes knows (connect e more) ps =
    ap (λ es. es ++ names_from text cl s [] (next_endpoints more ++ ps)) (item_entries text cl s classes knows e.item)
    ∙ ap (λ es. map (entry_of text (scope_number s)) (declared_item classes e.item) ++ es) (next_entries text cl s classes knows more ps)
    ∙ mapped (entry_of text (scope_number s)) (declared_item classes e.item) (declared_next classes more) (names_from text cl s [] ps)
statement_entries text cl s classes knows (declare first next more colons last) ps =
    more_entries text cl s classes knows last (word first ∷ []) (next ∷ more) ps
    ∙ ap (λ e. e ∷ (map (entry_of text (scope_number s)) (declared_more classes last (next ∷ more)) ++ names_from text cl s [] ps)) (created_same text cl s classes knows last first)

body_entries : (text : List ℕ) (cl : List Entry) (s : Scope) (classes : List ClassTree) → Knows text cl s classes → (us : List InnerTree) (ps : List Phrase)
    → names_from text cl s [] (body_phrases us ++ ps) ≡ map (entry_of text (scope_number s)) (declared_body classes us) ++ names_from text cl s [] ps
unfolding declared_body
body_entries text cl s classes knows [] ps = refl
body_entries text cl s classes knows (sign t ∷ us) ps = body_entries text cl s classes knows us ps
body_entries text cl s classes knows (plain st ∷ us) ps =
    ap (names_from text cl s []) (append_assoc (statement_phrases st) (body_phrases us) ps)
    ∙ statement_entries text cl s classes knows st (body_phrases us ++ ps)
    ∙ ap (λ es. map (entry_of text (scope_number s)) (declared_statement classes st) ++ es) (body_entries text cl s classes knows us ps)
    ∙ mapped (entry_of text (scope_number s)) (declared_statement classes st) (declared_body classes us) (names_from text cl s [] ps)

parameter_entries : (text : List ℕ) (cl : List Entry) (s : Scope) (more : List (Token × Token)) (ps : List Phrase) → names_from text cl s [] (more_parameters more ++ ps) ≡ names_from text cl s [] ps
unfolding names_from declared_at
parameter_entries text cl s [] ps = refl
parameter_entries text cl s (next ∷ more) ps = parameter_entries text cl s more ps

parameters_entries : (text : List ℕ) (cl : List Entry) (s : Scope) (o : Option ParameterTree) (ps : List Phrase) → names_from text cl s [] (parameter_phrases o ++ ps) ≡ names_from text cl s [] ps
unfolding names_from declared_at
parameters_entries text cl s None ps = refl
parameters_entries text cl s (Some p) ps = parameter_entries text cl s p.more ps

class_entries : (text : List ℕ) (cl : List Entry) (n : ℕ) (classes : List ClassTree) → Knows text cl (in_at n) classes → (c : ClassTree) (ps : List Phrase)
    → names_from text cl (out_at n) [] (class_phrases c ++ ps) ≡ map (entry_of text (n + 1)) (declared_body classes c.body) ++ names_from text cl (out_at (n + 1)) [] ps
unfolding names_from declared_at
class_entries text cl n classes knows c ps =
    ap (names_from text cl (out_at n) []) (class_split c ps)
    ∙ parameters_entries text cl (in_at n) c.parameters (body_phrases c.body ++ phrases.Close ∷ ps)
    ∙ body_entries text cl (in_at n) classes knows c.body (phrases.Close ∷ ps)

-- the entries of all names, in the order of the text
abbrev pub entries_of : List ℕ → List ClassTree → List OuterTree → List Entry
entries_of text classes [] = []
entries_of text classes (outer (sign t) ∷ us) = entries_of text classes us
entries_of text classes (outer (plain st) ∷ us) = map (entry_of text 0) (declared_statement classes st) ++ entries_of text classes us
entries_of text classes (class c ∷ us) = map (entry_of text (length classes + 1)) (declared_body classes c.body) ++ entries_of text (classes ++ c ∷ []) us

pub knows_all : (text : List ℕ) (cl : List Entry) (classes rest : List ClassTree) (s : Scope) → cl ≡ map entry_of_class (classes ++ rest) → s.class_count ≡ length classes → Knows text cl s classes
knows_all text cl classes rest s e k name = ap (λ es. class_of text es s name) e ∙ class_agrees text classes rest s name k

pub one_longer : (classes : List ClassTree) (c : ClassTree) → length (classes ++ c ∷ []) ≡ length classes + 1
one_longer classes c = length-append classes (c ∷ [])

pub moved_on : (cl : List Entry) (classes : List ClassTree) (c : ClassTree) (rest : List ClassTree) → cl ≡ map entry_of_class (classes ++ c ∷ rest) → cl ≡ map entry_of_class (classes ++ c ∷ [] ++ rest)
moved_on cl classes c rest e = e ∙ ap (map entry_of_class) (sym (append_assoc classes (c ∷ []) rest))

pub names_agree : (text : List ℕ) (cl : List Entry) (classes : List ClassTree) (us : List OuterTree) → cl ≡ map entry_of_class (classes ++ classes_of us)
    → names_from text cl (out_at (length classes)) [] (config_phrases us) ≡ entries_of text classes us
unfolding names_from classes_of
names_agree text cl classes [] e = refl
names_agree text cl classes (outer (sign t) ∷ us) e = names_agree text cl classes us e
names_agree text cl classes (outer (plain st) ∷ us) e =
    statement_entries text cl (out_at (length classes)) classes (knows_all text cl classes (classes_of us) (out_at (length classes)) e refl) st (config_phrases us)
    ∙ ap (λ es. map (entry_of text 0) (declared_statement classes st) ++ es) (names_agree text cl classes us e)
names_agree text cl classes (class c ∷ us) e =
    class_entries text cl (length classes) classes (knows_all text cl classes (c ∷ classes_of us) (in_at (length classes)) e refl) c (config_phrases us)
    ∙ ap (λ n. map (entry_of text (length classes + 1)) (declared_body classes c.body) ++ names_from text cl (out_at n) [] (config_phrases us)) (sym (one_longer classes c))
    ∙ ap (λ es. map (entry_of text (length classes + 1)) (declared_body classes c.body) ++ es) (names_agree text cl (classes ++ c ∷ []) us (moved_on cl classes c (classes_of us) e))

-- entries of another scope
pub other_then : (text : List ℕ) (n m : ℕ) (name : List ℕ) (ds : List Declaration) (es : List Entry) → nat_eq n m ≡ false → found_in (is_entry text n 0 name) (map (entry_of text m) ds ++ es) ≡ found_in (is_entry text n 0 name) es
other_then text n m name [] es apart = refl
other_then text n m name (d ∷ ds) es apart =
    ap (λ b. cond (b && nat_eq 0 0 && bytes_eq name (spelling text d.name)) (Some (entry_of text m d)) (found_in (is_entry text n 0 name) (map (entry_of text m) ds ++ es))) apart
    ∙ other_then text n m name ds es apart

-- entries of the scope
pub same_then : (text : List ℕ) (n : ℕ) (name : List ℕ) (ds more : List Declaration) (es : List Entry) → found_in (is_entry text n 0 name) es ≡ option_map (entry_of text n) (declared_under text more name)
    → found_in (is_entry text n 0 name) (map (entry_of text n) ds ++ es) ≡ option_map (entry_of text n) (declared_under text (ds ++ more) name)
unfolding declared_under
same_then text n name [] more es h = h
same_then text n name (d ∷ ds) more es h =
    ap (λ b. cond (b && nat_eq 0 0 && bytes_eq name (spelling text d.name)) (Some (entry_of text n d)) (found_in (is_entry text n 0 name) (map (entry_of text n) ds ++ es))) same
    ∙ ap (λ b. cond b (Some (entry_of text n d)) (found_in (is_entry text n 0 name) (map (entry_of text n) ds ++ es))) (bytes_sym name (spelling text d.name))
    ∙ by (bytes_eq (spelling text d.name) name) (same_then text n name ds more es h)
  where
    same : nat_eq n n ≡ true
    same = grind (arith, nat_tests)

    by : (b : Bool) → found_in (is_entry text n 0 name) (map (entry_of text n) ds ++ es) ≡ option_map (entry_of text n) (declared_under text (ds ++ more) name)
        → cond b (Some (entry_of text n d)) (found_in (is_entry text n 0 name) (map (entry_of text n) ds ++ es)) ≡ option_map (entry_of text n) (cond b (Some d) (declared_under text (ds ++ more) name))
    by true h = refl
    by false h = h

-- no later body has the scope of an earlier one
pub none_later : (text : List ℕ) (classes : List ClassTree) (us : List OuterTree) (n : ℕ) (name : List ℕ) → 0 < n → n ≤ length classes → found_in (is_entry text n 0 name) (entries_of text classes us) ≡ None
none_later text classes [] n name positive le = refl
none_later text classes (outer (sign t) ∷ us) n name positive le = none_later text classes us n name positive le
none_later text classes (outer (plain st) ∷ us) n name positive le =
    let apart : nat_eq n 0 ≡ false = grind (arith, nat_tests) in
    other_then text n 0 name (declared_statement classes st) (entries_of text classes us) apart ∙ none_later text classes us n name positive le
none_later text classes (class c ∷ us) n name positive le =
    let apart : nat_eq n (length classes + 1) ≡ false = grind (arith, nat_tests) in
    let longer = one_longer classes c in
    other_then text n (length classes + 1) name (declared_body classes c.body) (entries_of text (classes ++ c ∷ []) us) apart
    ∙ none_later text (classes ++ c ∷ []) us n name positive (omega (arith, le, longer))

-- the first name outside classes
pub outside_found : (text : List ℕ) (classes : List ClassTree) (us : List OuterTree) (name : List ℕ) → found_in (is_entry text 0 0 name) (entries_of text classes us) ≡ option_map (entry_of text 0) (declared_under text (declared_outside classes us) name)
unfolding declared_outside declared_under
outside_found text classes [] name = refl
outside_found text classes (outer (sign t) ∷ us) name = outside_found text classes us name
outside_found text classes (outer (plain st) ∷ us) name = same_then text 0 name (declared_statement classes st) (declared_outside classes us) (entries_of text classes us) (outside_found text classes us name)
outside_found text classes (class c ∷ us) name =
    let apart : nat_eq 0 (length classes + 1) ≡ false = grind (arith, nat_tests) in
    other_then text 0 (length classes + 1) name (declared_body classes c.body) (entries_of text (classes ++ c ∷ []) us) apart ∙ outside_found text (classes ++ c ∷ []) us name

-- What stands before some trees has no entry of a later scope.
abbrev pub Passed : List ℕ → List Entry → List ClassTree → List OuterTree → Type 0
Passed text es classes us = (n : ℕ) (name : List ℕ) → length classes < n → found_in (is_entry text n 0 name) es ≡ found_in (is_entry text n 0 name) (entries_of text classes us)

pub passed_statement : (text : List ℕ) (es : List Entry) (classes : List ClassTree) (st : StatementTree) (us : List OuterTree) → Passed text es classes (outer (plain st) ∷ us) → Passed text es classes us
passed_statement text es classes st us h n name less =
    let apart : nat_eq n 0 ≡ false = grind (arith, nat_tests) in
    h n name less ∙ other_then text n 0 name (declared_statement classes st) (entries_of text classes us) apart

pub passed_class : (text : List ℕ) (es : List Entry) (classes : List ClassTree) (c : ClassTree) (us : List OuterTree) → Passed text es classes (class c ∷ us) → Passed text es (classes ++ c ∷ []) us
passed_class text es classes c us h n name less =
    let longer = one_longer classes c in
    let more : length classes + 1 < n = omega (arith, less, longer) in
    let apart : nat_eq n (length classes + 1) ≡ false = grind (arith, nat_tests) in
    h n name (omega (arith, more)) ∙ other_then text n (length classes + 1) name (declared_body classes c.body) (entries_of text (classes ++ c ∷ []) us) apart

-- the first name in a body
pub body_found : (text : List ℕ) (es : List Entry) (classes : List ClassTree) (c : ClassTree) (us : List OuterTree) → Passed text es classes (class c ∷ us) → (name : List ℕ)
    → found_in (is_entry text (length classes + 1) 0 name) es ≡ option_map (entry_of text (length classes + 1)) (declared_under text (declared_body classes c.body) name)
unfolding declared_under
body_found text es classes c us h name =
    let longer = one_longer classes c in
    h (length classes + 1) name (omega arith)
    ∙ same_then text (length classes + 1) name (declared_body classes c.body) [] (entries_of text (classes ++ c ∷ []) us) (none_later text (classes ++ c ∷ []) us (length classes + 1) name (omega arith) (omega (arith, longer)))
    ∙ ap (λ ds. option_map (entry_of text (length classes + 1)) (declared_under text ds name)) (append-nil (declared_body classes c.body))
