-- What the acts of a scope make stands at tokens of the scope, one after the other, and each name that the
-- scope declares is made.
use Rattle.std.proofs.Common.{◌≡◌, ℕ, ◌+◌, ◌≤◌, ◌⊎◌, inl, inr, List, [], ◌∷◌, ◌++◌, cond, Bool, true, false, Contains, Option, Some, None, refl, sym, ap, ◌∙◌, subst, arith, append_assoc}
use Rattle.std.specs.List.{AllPairs}
use Rattle.std.proofs.lemmas.List.{append-nil}
use Rattle.std.proofs.lemmas.List.Elements.{Contains-append_left, Contains-append_right, Contains-append_cases}
use Rattle.mt_syntax.specs.declared.token.Token.{Token}
use Rattle.mt_syntax.specs.declared.word.Word.{Word}
use Rattle.mt_syntax.specs.declared.phrase.Use.{Use}
use Rattle.mt_click.specs.declared.action.Side.{Side}
use Rattle.mt_syntax.specs.Ascends.{Ascends}
use Rattle.mt_syntax.specs.Reading.{word}
use Rattle.mt_syntax.specs.Grammar.{UseTree, use_of, print_use, PortTree, print_port, ItemTree, alone, named, made, print_item, EndpointTree, print_endpoint, print_endpoints, print_more, StatementTree, connect, declare, print_statement, InnerTree, sign, plain, print_body, ClassTree, print_class, OuterTree, outer, class, print_config}
use Rattle.mt_click.specs.Declarations.{Declaration, declaration, declared_item, declared_next, declared_more, declared_statement, declared_body, declared_outside}
use Rattle.mt_click.specs.Acts.{Sight, is_border, class_meant, name_meant, Act, element, expand, making_act, make, bare_use, lone, item_acts, item_class, coming, leaving, end_acts, side_left, side_reached, connecting, has_next, next_acts, group_acts, statement_acts, body_acts, outside_acts}
use Rattle.mt_click.specs.Elements.{own_offset}
use Rattle.mt_lists.proofs.Members.{first_in, cases_in, none_in}
use Rattle.mt_lists.proofs.Pairs.{no_pairs, one_first}
use Rattle.mt_click.proofs.NamesAscend.{Above, above_all}

-- the places at which acts make elements and use classes
abbrev pub act_sites : Act → List ℕ
act_sites (element name u) = own_offset name u ∷ []
act_sites (expand c before name u) = own_offset name u ∷ []
act_sites _ = []

abbrev pub sites : List Act → List ℕ
sites [] = []
sites (a ∷ acts) = act_sites a ++ sites acts

pub sites_both : (xs ys : List Act) → sites (xs ++ ys) ≡ sites xs ++ sites ys
sites_both [] ys = refl
sites_both (x ∷ xs) ys = ap (λ (ns : List ℕ). act_sites x ++ ns) (sites_both xs ys) ∙ sym (append_assoc (act_sites x) (sites xs) (sites ys))

-- places where tokens begin, in the order of the tokens
abbrev pub Begin : List ℕ → List Token → Type 0
Begin [] ts = Unit {0}
Begin (n ∷ ns) [] = ⊥
Begin (n ∷ ns) (t ∷ ts) = ((n ≡ t.from) × Begin ns ts) ⊎ Begin (n ∷ ns) ts

begin_behind : (ns : List ℕ) (xs ys : List Token) → Begin ns ys → Begin ns (xs ++ ys)
begin_behind [] xs ys h = tt
begin_behind (n ∷ ns) [] ys h = h
begin_behind (n ∷ ns) (x ∷ xs) ys h = inr (begin_behind (n ∷ ns) xs ys h)

begin_front : (ns : List ℕ) (xs ys : List Token) → Begin ns xs → Begin ns (xs ++ ys)
begin_front [] xs ys h = tt
begin_front (n ∷ ns) [] ys h = absurd h
begin_front (n ∷ ns) (x ∷ xs) ys (inl h) = inl (h.0, begin_front ns xs ys h.1)
begin_front (n ∷ ns) (x ∷ xs) ys (inr h) = inr (begin_front (n ∷ ns) xs ys h)

begin_both : (ns ms : List ℕ) (xs ys : List Token) → Begin ns xs → Begin ms ys → Begin (ns ++ ms) (xs ++ ys)
begin_both [] ms xs ys h k = begin_behind ms xs ys k
begin_both (n ∷ ns) ms [] ys h k = absurd h
begin_both (n ∷ ns) ms (x ∷ xs) ys (inl h) k = inl (h.0, begin_both ns ms xs ys h.1 k)
begin_both (n ∷ ns) ms (x ∷ xs) ys (inr h) k = inr (begin_both (n ∷ ns) ms xs ys h k)

-- they differ where the tokens ascend

begin_from : (n : ℕ) (ns : List ℕ) (ts : List Token) → Begin ns ts → Above n ts → (m : ℕ) → Contains ns m → n ≤ m
begin_from n [] ts h a m c = none_in m c
begin_from n (k ∷ ns) [] h a m c = absurd h
begin_from n (k ∷ ns) (t ∷ ts) (inl h) a m c =
    let le = a.0 in
    let same = h.0 in
    elim (cases_in k ns m c) [
      | inl e ↦ omega (arith, le, same, e)
      | inr later ↦ let more = begin_from (t.from + 1) ns ts h.1 a.1 m later in omega (arith, le, more)
    ]
begin_from n (k ∷ ns) (t ∷ ts) (inr h) a m c =
    let le = a.0 in
    let more = begin_from (t.from + 1) (k ∷ ns) ts h a.1 m c in
    omega (arith, le, more)

-- no two of them are one
abbrev pub AreApart : List ℕ → Type 0
AreApart ns = AllPairs (λ a b. a ≡ b → ⊥) ns

begin_apart : (n : ℕ) (ns : List ℕ) (ts : List Token) → Begin ns ts → Above n ts → AreApart ns
begin_apart n [] ts h a = no_pairs (λ a b. a ≡ b → ⊥)
begin_apart n (k ∷ ns) [] h a = absurd h
begin_apart n (k ∷ ns) (t ∷ ts) (inl h) a =
    let same = h.0 in
    one_first (λ a b. a ≡ b → ⊥) k ns
    (λ m c. λ e. let more = begin_from (t.from + 1) ns ts h.1 a.1 m c in omega (arith, same, e, more))
    (begin_apart (t.from + 1) ns ts h.1 a.1)
begin_apart n (k ∷ ns) (t ∷ ts) (inr h) a = begin_apart (t.from + 1) (k ∷ ns) ts h a.1

-- Acts make what they make at some tokens, and make each of these declarations.
pub record Sited (acts : List Act) (ds : List Declaration) (ts : List Token) : Type 0 where
  pub at : Begin (sites acts) ts
  pub named : (d : Declaration) → Contains ds d → Contains (sites acts) d.name.from

pub sites_apart : (acts : List Act) (ds : List Declaration) (ts : List Token) → Sited acts ds ts → Ascends ts → AreApart (sites acts)
sites_apart acts ds ts h up = begin_apart 0 (sites acts) ts h.at (above_all ts up)

nothing : (ts : List Token) → Sited [] [] ts
nothing ts = record { at = tt; named = λ d c. none_in d c }

both : (xs ys : List Act) (ds es : List Declaration) (ts us : List Token) → Sited xs ds ts → Sited ys es us → Sited (xs ++ ys) (ds ++ es) (ts ++ us)
both xs ys ds es ts us h k = record {
  at = subst (λ ns. Begin ns (ts ++ us)) (sym (sites_both xs ys)) (begin_both (sites xs) (sites ys) ts us h.at k.at);
  named = λ d c. subst (λ ns. Contains ns d.name.from) (sym (sites_both xs ys)) (elim (Contains-append_cases ds es d c) [
    | inl first ↦ Contains-append_left (sites xs) (sites ys) d.name.from (h.named d first)
    | inr later ↦ Contains-append_right (sites xs) (sites ys) d.name.from (k.named d later)
  ]);
}

behind : (acts : List Act) (ds : List Declaration) (ts us : List Token) → Sited acts ds us → Sited acts ds (ts ++ us)
behind acts ds ts us h = record { at = begin_behind (sites acts) ts us h.at; named = h.named }

before : (acts : List Act) (ds : List Declaration) (ts us : List Token) → Sited acts ds ts → Sited acts ds (ts ++ us)
before acts ds ts us h = record { at = begin_front (sites acts) ts us h.at; named = h.named }

making_sites : (o : Option (ClassTree × List ClassTree)) (name : Option Word) (u : Use) → act_sites (making_act o name u) ≡ own_offset name u ∷ []
making_sites None name u = refl
making_sites (Some x) name u = refl

pub make_sites : (s : Sight) (name : Option Word) (u : UseTree) → sites (make s name u ∷ []) ≡ own_offset name (use_of u) ∷ []
unfolding make
make_sites s name u = ap (λ (ns : List ℕ). ns ++ []) (making_sites (class_meant s u.class) name (use_of u))

-- one act, at a token
one_sited : (s : Sight) (name : Option Word) (u : UseTree) (ds : List Declaration) (t : Token) (ts : List Token) → own_offset name (use_of u) ≡ t.from → ((d : Declaration) → Contains ds d → t ≡ d.name)
    → Sited (make s name u ∷ []) ds (t ∷ ts)
one_sited s name u ds t ts e all =
    let there : sites (make s name u ∷ []) ≡ t.from ∷ [] = make_sites s name u ∙ ap (λ n. n ∷ []) e in
    record {
      at = subst (λ ns. Begin ns (t ∷ ts)) (sym there) (inl (refl, tt));
      named = λ d c. subst (λ ns. Contains ns d.name.from) (sym there) (subst (λ (x : Token). Contains (t.from ∷ []) x.from) (all d c) (first_in t.from []));
    }

named_sited : (s : Sight) (classes : List ClassTree) (t : Token) (u : UseTree) (ts : List Token) → Sited (make s (Some (word t)) u ∷ []) (declaration classes u t ∷ []) (t ∷ ts)
named_sited s classes t u ts = one_sited s (Some (word t)) u (declaration classes u t ∷ []) t ts refl (λ d c. elim (cases_in (declaration classes u t) [] d c) [
  | inl same ↦ ap (λ (x : Declaration). x.name) same
  | inr none ↦ none_in d none
])

lone_sited : (s : Sight) (t : Token) (b : Bool) (o : Option Declaration) → Sited (cond b [] (lone s t o)) [] (t ∷ [])
lone_sited s t true o = nothing (t ∷ [])
lone_sited s t false (Some d) = nothing (t ∷ [])
lone_sited s t false None = one_sited s None (bare_use t) [] t [] refl (λ d c. none_in d c)

item_sited : (s : Sight) (classes : List ClassTree) (i : ItemTree) → Sited (item_acts s i) (declared_item classes i) (print_item i)
unfolding item_acts declared_item
item_sited s classes (named t colons u) = named_sited s classes t u (colons ∷ print_use u)
item_sited s classes (made t a) = one_sited s None (record { class = t; arguments = Some a }) [] t (a ∷ []) refl (λ d c. none_in d c)
item_sited s classes (alone t) = lone_sited s t (is_border s t) (name_meant s t)

coming_sited : (b : Bool) (o : Option (ClassTree × List ClassTree)) (port : Option PortTree) (ts : List Token) → Sited (coming b o port) [] ts
coming_sited true (Some x) port ts = record { at = tt; named = λ d c. none_in d c }
coming_sited true None port ts = nothing ts
coming_sited false o port ts = nothing ts

leaving_sited : (b : Bool) (o : Option (ClassTree × List ClassTree)) (port : Option PortTree) (ts : List Token) → Sited (leaving b o port) [] ts
leaving_sited true (Some x) port ts = record { at = tt; named = λ d c. none_in d c }
leaving_sited true None port ts = nothing ts
leaving_sited false o port ts = nothing ts

connecting_sited : (arrow : ℕ) (a b : Option Side) (ts : List Token) → Sited (connecting arrow a b) [] ts
connecting_sited arrow (Some a) (Some b) ts = record { at = tt; named = λ d c. none_in d c }
connecting_sited arrow (Some a) None ts = nothing ts
connecting_sited arrow None b ts = nothing ts

end_sited : (s : Sight) (classes : List ClassTree) (next followed : Bool) (e : EndpointTree) → Sited (end_acts s next followed e) (declared_item classes e.item) (print_endpoint e)
unfolding end_acts
end_sited s classes next followed e =
    let first = coming next (item_class s e.item) e.input in
    let last = leaving followed (item_class s e.item) e.output in
    subst (λ ds. Sited (first ++ (item_acts s e.item ++ last)) ds (print_endpoint e)) (append-nil (declared_item classes e.item))
    (both first (item_acts s e.item ++ last) [] (declared_item classes e.item ++ []) (print_port e.input) (print_item e.item ++ print_port e.output) (coming_sited next (item_class s e.item) e.input (print_port e.input))
    (both (item_acts s e.item) last (declared_item classes e.item) [] (print_item e.item) (print_port e.output) (item_sited s classes e.item) (leaving_sited followed (item_class s e.item) e.output (print_port e.output))))

-- the tokens of the ends behind the first
abbrev print_next : List (Token × EndpointTree) → List Token
print_next [] = []
print_next (next ∷ more) = next.0 ∷ (print_endpoint next.1 ++ print_next more)

endpoints_printed : (e : EndpointTree) (more : List (Token × EndpointTree)) → print_endpoints e more ≡ print_endpoint e ++ print_next more
endpoints_printed e [] = sym (append-nil (print_endpoint e))
endpoints_printed e (next ∷ more) = ap (λ (ts : List Token). print_endpoint e ++ (next.0 ∷ ts)) (endpoints_printed next.1 more)

next_sited : (s : Sight) (classes : List ClassTree) (e : EndpointTree) (more : List (Token × EndpointTree)) → Sited (next_acts s e more) (declared_next classes more) (print_next more)
unfolding next_acts declared_next
next_sited s classes e [] = nothing []
next_sited s classes e (next ∷ more) =
    let followed = connecting next.0.from (side_left s e) (side_reached s next.1) in
    both (end_acts s true (has_next more) next.1) (followed ++ next_acts s next.1 more) (declared_item classes next.1.item) (declared_next classes more) (next.0 ∷ print_endpoint next.1) (print_next more)
    (behind (end_acts s true (has_next more) next.1) (declared_item classes next.1.item) (next.0 ∷ []) (print_endpoint next.1) (end_sited s classes true (has_next more) next.1))
    (both followed (next_acts s next.1 more) [] (declared_next classes more) [] (print_next more) (connecting_sited next.0.from (side_left s e) (side_reached s next.1) []) (next_sited s classes next.1 more))

group_sited : (s : Sight) (classes : List ClassTree) (u : UseTree) (more : List (Token × Token)) → Sited (group_acts s u more) (declared_more classes u more) (print_more more)
unfolding group_acts declared_more
group_sited s classes u [] = nothing []
group_sited s classes u (next ∷ more) =
    behind (make s (Some (word next.1)) u ∷ group_acts s u more) (declared_more classes u (next ∷ more)) (next.0 ∷ []) (next.1 ∷ print_more more)
    (both (make s (Some (word next.1)) u ∷ []) (group_acts s u more) (declaration classes u next.1 ∷ []) (declared_more classes u more) (next.1 ∷ []) (print_more more) (named_sited s classes next.1 u []) (group_sited s classes u more))

statement_sited : (s : Sight) (classes : List ClassTree) (st : StatementTree) → Sited (statement_acts s st) (declared_statement classes st) (print_statement st)
unfolding statement_acts declared_statement
statement_sited s classes (connect e more) =
    subst (Sited (end_acts s false (has_next more) e ++ next_acts s e more) (declared_item classes e.item ++ declared_next classes more)) (sym (endpoints_printed e more))
    (both (end_acts s false (has_next more) e) (next_acts s e more) (declared_item classes e.item) (declared_next classes more) (print_endpoint e) (print_next more) (end_sited s classes false (has_next more) e) (next_sited s classes e more))
statement_sited s classes (declare first next more colons last) =
    both (make s (Some (word first)) last ∷ []) (group_acts s last (next ∷ more)) (declaration classes last first ∷ []) (declared_more classes last (next ∷ more)) (first ∷ []) (print_more (next ∷ more) ++ (colons ∷ print_use last))
    (named_sited s classes first last [])
    (before (group_acts s last (next ∷ more)) (declared_more classes last (next ∷ more)) (print_more (next ∷ more)) (colons ∷ print_use last) (group_sited s classes last (next ∷ more)))

pub body_sited : (s : Sight) (classes : List ClassTree) (us : List InnerTree) → Sited (body_acts s us) (declared_body classes us) (print_body us)
unfolding body_acts declared_body
body_sited s classes [] = nothing []
body_sited s classes (sign t ∷ us) = behind (body_acts s us) (declared_body classes us) (t ∷ []) (print_body us) (body_sited s classes us)
body_sited s classes (plain st ∷ us) =
    both (statement_acts s st) (body_acts s us) (declared_statement classes st) (declared_body classes us) (print_statement st) (print_body us) (statement_sited s classes st) (body_sited s classes us)

pub outside_sited : (text : List ℕ) (declared : List Declaration) (classes : List ClassTree) (us : List OuterTree) → Sited (outside_acts text declared classes us) (declared_outside classes us) (print_config us)
unfolding outside_acts declared_outside
outside_sited text declared classes [] = nothing []
outside_sited text declared classes (outer (sign t) ∷ us) = behind (outside_acts text declared classes us) (declared_outside classes us) (t ∷ []) (print_config us) (outside_sited text declared classes us)
outside_sited text declared classes (outer (plain st) ∷ us) =
    let s : Sight = record { text = text; declared = declared; classes = classes; own = None } in
    both (statement_acts s st) (outside_acts text declared classes us) (declared_statement classes st) (declared_outside classes us) (print_statement st) (print_config us) (statement_sited s classes st) (outside_sited text declared classes us)
outside_sited text declared classes (class c ∷ us) =
    behind (outside_acts text declared (classes ++ c ∷ []) us) (declared_outside (classes ++ c ∷ []) us) (print_class c) (print_config us) (outside_sited text declared (classes ++ c ∷ []) us)
