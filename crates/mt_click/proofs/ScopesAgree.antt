-- What a scope of the walk over phrases sees is what a place of the trees sees.
use Rattle.std.proofs.Common.{◌≡◌, ℕ, List, [], ◌∷◌, ◌++◌, length, map, cond, slice_get, codes, Bool, true, false, ◌&&◌, ◌||◌, Option, Some, None, is_some, refl, sym, ap, ◌∙◌, subst}
use Rattle.std.specs.Str.{bytes_eq}
use Rattle.std.specs.Option.{option_map}
use Rattle.std.specs.List.{AllByRecursion}
use Rattle.std.proofs.lemmas.List.{append_assoc}
use Rattle.mt_syntax.specs.declared.token.Token.{Token}
use Rattle.mt_syntax.specs.Reading.{word}
use Rattle.mt_syntax.specs.Words.{bytes_of}
use Rattle.mt_syntax.specs.Grammar.{UseTree, ItemTree, named, alone, made, EndpointTree, StatementTree, connect, declare, InnerTree, sign, plain, ClassTree, OuterTree, outer, class}
use Rattle.mt_click.specs.declared.symbols.Scope.{Scope}
use Rattle.mt_click.specs.declared.symbols.Entry.{Entry}
use Rattle.mt_click.specs.Scopes.{scope_number}
use Rattle.mt_click.specs.Names.{Names, is_entry, first_entry}
use Rattle.mt_click.specs.Actions.{is_pseudo, declared_index, class_named, is_before, is_redeclared, is_word, is_own}
use Rattle.mt_click.specs.Declarations.{spelling, class_under, Declaration, declared_item, declared_next, declared_more, declared_statement, declared_body, declared_outside, declared_under, classes_of}
use Rattle.mt_click.specs.Acts.{Sight, body_sight, is_border, class_meant, name_meant, class_declared, lone_class, item_class}
use Rattle.mt_click.specs.Spread.{number, is_own_name}
use Rattle.mt_click.proofs.FirstEntry.{found_in, Stands, stands_first, before_entry, before_stands}
use Rattle.mt_click.proofs.ClassEntries.{entry_of_class, class_stands_at}
use Rattle.mt_click.proofs.NameEntries.{entry_of, out_at, in_at, Knows, knows_all, Passed, body_found}
use Rattle.mt_click.proofs.PortEntries.{Reached, ArePorted, ported_front, class_reached}
use Rattle.mt_click.proofs.NamesAscend.{Rises, first_before}

-- A scope and a place see the same: borders, the enclosing class, what a token names as a class and as an
-- element, whether a name was declared before, and the ports of what an item stands for.
pub record Sees (names : Names) (s : Scope) (v : Sight) : Type 0 where
  pub text : names.text ≡ v.text
  pub border : (t : Token) → is_pseudo s (bytes_of names.text (word t)) ≡ is_border v t
  pub own : (t : Token) → is_own names s (word t) ≡ is_own_name v.text (spelling v.text t) v.own
  pub meant : (t : Token) → class_named names s (word t) ≡ number (class_meant v t)
  pub located : (t : Token) → Stands names.names (declared_index names s (bytes_of names.text (word t))) (option_map (entry_of v.text (scope_number s)) (name_meant v t))
  pub before : (earlier : List Declaration) (d : Declaration) (rest : List Declaration) → v.declared ≡ earlier ++ d ∷ rest
      → is_redeclared names s (word d.name) ≡ (is_border v d.name || is_some (declared_under v.text earlier (spelling v.text d.name)))
  pub reached : (i : ItemTree) → Reached names.text names.ports (item_class v i)

-- the classes before each of some declarations
abbrev pub AllOf : (List ClassTree → Type 0) → List Declaration → Type 0
AllOf P ds = AllByRecursion (λ d. P d.classes) ds

all_both : (P : List ClassTree → Type 0) (xs ys : List Declaration) → AllOf P xs → AllOf P ys → AllOf P (xs ++ ys)
all_both P [] ys h k = k
all_both P (x ∷ xs) ys h k = (h.0, all_both P xs ys h.1 k)

all_item : (P : List ClassTree → Type 0) (classes : List ClassTree) → P classes → (i : ItemTree) → AllOf P (declared_item classes i)
unfolding declared_item
all_item P classes h (alone t) = tt
all_item P classes h (made t a) = tt
all_item P classes h (named t c u) = (h, tt)

all_next : (P : List ClassTree → Type 0) (classes : List ClassTree) → P classes → (more : List (Token × EndpointTree)) → AllOf P (declared_next classes more)
unfolding declared_next
all_next P classes h [] = tt
all_next P classes h (next ∷ more) = all_both P (declared_item classes next.1.item) (declared_next classes more) (all_item P classes h next.1.item) (all_next P classes h more)

all_more : (P : List ClassTree → Type 0) (classes : List ClassTree) → P classes → (u : UseTree) (more : List (Token × Token)) → AllOf P (declared_more classes u more)
unfolding declared_more
all_more P classes h u [] = tt
all_more P classes h u (next ∷ more) = (h, all_more P classes h u more)

all_statement : (P : List ClassTree → Type 0) (classes : List ClassTree) → P classes → (st : StatementTree) → AllOf P (declared_statement classes st)
unfolding declared_statement
all_statement P classes h (connect e more) = all_both P (declared_item classes e.item) (declared_next classes more) (all_item P classes h e.item) (all_next P classes h more)
all_statement P classes h (declare first next more colons last) = (h, all_more P classes h last (next ∷ more))

pub all_body : (P : List ClassTree → Type 0) (classes : List ClassTree) → P classes → (us : List InnerTree) → AllOf P (declared_body classes us)
unfolding declared_body
all_body P classes h [] = tt
all_body P classes h (sign t ∷ us) = all_body P classes h us
all_body P classes h (plain st ∷ us) = all_both P (declared_statement classes st) (declared_body classes us) (all_statement P classes h st) (all_body P classes h us)

-- each class that a declaration outside classes sees has its ports
pub all_outside : (text : List ℕ) (es : List Entry) (classes : List ClassTree) (us : List OuterTree) → ArePorted text es [] (classes ++ classes_of us) → AllOf (ArePorted text es []) (declared_outside classes us)
unfolding declared_outside classes_of
all_outside text es classes [] h = tt
all_outside text es classes (outer (sign t) ∷ us) h = all_outside text es classes us h
all_outside text es classes (outer (plain st) ∷ us) h =
    all_both (ArePorted text es []) (declared_statement classes st) (declared_outside classes us)
    (all_statement (ArePorted text es []) classes (ported_front text es [] classes (classes_of us) h) st) (all_outside text es classes us h)
all_outside text es classes (class c ∷ us) h = all_outside text es (classes ++ c ∷ []) us (subst (ArePorted text es []) (sym (append_assoc classes (c ∷ []) (classes_of us))) h)

abbrev ReachedBy : List ℕ → List Entry → Option Declaration → Type 0
ReachedBy text es None = Unit {0}
ReachedBy text es (Some d) = Reached text es (class_declared text d)

declared_reached : (text : List ℕ) (es : List Entry) (ds : List Declaration) (name : List ℕ) → AllOf (ArePorted text es []) ds → ReachedBy text es (declared_under text ds name)
unfolding declared_under class_declared
declared_reached text es [] name h = tt
declared_reached text es (d ∷ ds) name h = by (bytes_eq (spelling text d.name) name) (class_reached text es d.classes (spelling text d.created.class) h.0) (declared_reached text es ds name h.1)
  where
    by : (b : Bool) → Reached text es (class_under text d.classes (spelling text d.created.class)) → ReachedBy text es (declared_under text ds name) → ReachedBy text es (cond b (Some d) (declared_under text ds name))
    by true p q = p
    by false p q = q

item_reached : (text : List ℕ) (es : List Entry) (ds : List Declaration) (classes : List ClassTree) (own : Option ClassTree) → ArePorted text es [] classes → AllOf (ArePorted text es []) ds → (i : ItemTree)
    → Reached text es (item_class (record { text = text; declared = ds; classes = classes; own = own }) i)
unfolding item_class class_meant name_meant
item_reached text es ds classes own h k (named t c u) = class_reached text es classes (spelling text u.class) h
item_reached text es ds classes own h k (made t a) = class_reached text es classes (spelling text t) h
item_reached text es ds classes own h k (alone t) = by (is_border v t) (declared_under text ds (spelling text t)) (declared_reached text es ds (spelling text t) k)
  where
    v : Sight
    v = record { text = text; declared = ds; classes = classes; own = own }

    by : (b : Bool) (o : Option Declaration) → ReachedBy text es o → Reached text es (cond b None (lone_class v t o))
    by true o r = tt
    by false None r = class_reached text es classes (spelling text t) h
    by false (Some d) r = r

-- a scope of a number, whose entries and classes are known
sees : (text : List ℕ) (cl ns po : List Entry) (s : Scope) (ds : List Declaration) (classes : List ClassTree) (own : Option ClassTree)
    → Knows text cl s classes
    → ((name : List ℕ) → found_in (is_entry text (scope_number s) 0 name) ns ≡ option_map (entry_of text (scope_number s)) (declared_under text ds name))
    → Rises 0 ds
    → ArePorted text po [] classes
    → AllOf (ArePorted text po []) ds
    → s.inside ≡ is_some own
    → ((t : Token) → is_own (record { text = text; classes = cl; names = ns; ports = po }) s (word t) ≡ is_own_name text (spelling text t) own)
    → Sees (record { text = text; classes = cl; names = ns; ports = po }) s (record { text = text; declared = ds; classes = classes; own = own })
unfolding is_pseudo is_border class_named class_meant declared_index name_meant is_redeclared
sees text cl ns po s ds classes own knows found up ported all inside mine = record {
  text = refl;
  border = λ t. border (spelling text t);
  own = mine;
  meant = λ t. knows (spelling text t);
  located = λ t. located (spelling text t);
  before = λ earlier d rest e.
      ap (λ b. b || is_before_here d) (border (spelling text d.name))
      ∙ ap (λ b. (is_some own && (bytes_eq (spelling text d.name) (codes "input") || bytes_eq (spelling text d.name) (codes "output"))) || b)
      (before_stands ns d.name.from _ _ (located (spelling text d.name))
      ∙ ap (λ xs. before_entry d.name.from (option_map (entry_of text (scope_number s)) (declared_under text xs (spelling text d.name)))) e
      ∙ first_before text (scope_number s) 0 earlier d rest (subst (Rises 0) e up));
  reached = λ i. item_reached text po ds classes own ported all i;
}
  where
    border : (name : List ℕ) → (s.inside && (bytes_eq name (codes "input") || bytes_eq name (codes "output"))) ≡ (is_some own && (bytes_eq name (codes "input") || bytes_eq name (codes "output")))
    border name = ap (λ b. b && (bytes_eq name (codes "input") || bytes_eq name (codes "output"))) inside

    located : (name : List ℕ) → Stands ns (first_entry text ns (scope_number s) 0 name) (option_map (entry_of text (scope_number s)) (declared_under text ds name))
    located name = subst (Stands ns (first_entry text ns (scope_number s) 0 name)) (found name) (stands_first (is_entry text (scope_number s) 0 name) ns)

    is_before_here : Declaration → Bool
    is_before_here d = is_before ns d.name.from (first_entry text ns (scope_number s) 0 (spelling text d.name))

pub sees_outside : (text : List ℕ) (cl ns po : List Entry) (ds : List Declaration) (classes rest : List ClassTree)
    → cl ≡ map entry_of_class (classes ++ rest)
    → ((name : List ℕ) → found_in (is_entry text 0 0 name) ns ≡ option_map (entry_of text 0) (declared_under text ds name))
    → Rises 0 ds
    → ArePorted text po [] (classes ++ rest)
    → AllOf (ArePorted text po []) ds
    → Sees (record { text = text; classes = cl; names = ns; ports = po }) (out_at (length classes)) (record { text = text; declared = ds; classes = classes; own = None })
unfolding is_own
sees_outside text cl ns po ds classes rest e found up ported all =
    sees text cl ns po (out_at (length classes)) ds classes None (knows_all text cl classes rest (out_at (length classes)) e refl) found up (ported_front text po [] classes rest ported) all refl (λ t. refl)

pub sees_body : (text : List ℕ) (cl ns po : List Entry) (classes : List ClassTree) (c : ClassTree) (us : List OuterTree)
    → cl ≡ map entry_of_class (classes ++ c ∷ classes_of us)
    → Passed text ns classes (class c ∷ us)
    → Rises 0 (declared_body classes c.body)
    → ArePorted text po [] (classes ++ c ∷ classes_of us)
    → Sees (record { text = text; classes = cl; names = ns; ports = po }) (in_at (length classes)) (body_sight text classes c)
unfolding is_own
sees_body text cl ns po classes c us e passed up ported =
    sees text cl ns po (in_at (length classes)) (declared_body classes c.body) classes (Some c) (knows_all text cl classes (c ∷ classes_of us) (in_at (length classes)) e refl)
    (λ name. body_found text ns classes c us passed name) up front (all_body (ArePorted text po []) classes front c.body) refl
    (λ t. ap (is_word text (spelling text t)) (ap (λ es. slice_get es (length classes)) e ∙ class_stands_at classes c (classes_of us)))
  where
    front : ArePorted text po [] classes
    front = ported_front text po [] classes (c ∷ classes_of us) ported
