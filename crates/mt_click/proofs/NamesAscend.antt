-- The names that are declared stand in the order of the text.
use Rattle.std.proofs.Common.{◌≡◌, ℕ, suc, ◌+◌, ◌<◌, ◌≤◌, ◌⊎◌, inl, inr, List, [], ◌∷◌, ◌++◌, cond, nat_lt, Bool, true, false, Some, is_some, refl, sym, ap, ◌∙◌, subst, arith}
use Rattle.std.specs.Str.{bytes_eq}
use Rattle.std.specs.Option.{option_map}
use Rattle.std.proofs.lemmas.Bool.Decides.{nat_tests}
use Rattle.std.proofs.lemmas.List.{append-nil}
use Rattle.mt_syntax.specs.declared.token.Token.{Token}
use Rattle.mt_syntax.specs.Grammar.{UseTree, print_use, print_port, ItemTree, named, alone, made, print_item, EndpointTree, print_endpoint, print_endpoints, print_more, StatementTree, connect, declare, print_statement, InnerTree, sign, plain, print_body, print_parameters, ClassTree, print_class, OuterTree, outer, class, print_config}
use Rattle.mt_click.specs.Declarations.{spelling, Declaration, declared_item, declared_next, declared_more, declared_statement, declared_body, declared_outside, declared_under}
use Rattle.mt_syntax.specs.Ascends.{Ascends}
use Rattle.mt_click.proofs.FirstEntry.{bytes_self, before_entry}
use Rattle.mt_click.proofs.NameEntries.{entry_of}

-- tokens of which each begins behind the beginning of the one before, from a place on
abbrev pub Above : ℕ → List Token → Type 0
Above n [] = Unit {0}
Above n (t ∷ ts) = (n ≤ t.from) × Above (t.from + 1) ts

above_from : (n : ℕ) (t : Token) (ts : List Token) → n ≤ t.from → Ascends (t ∷ ts) → Above n (t ∷ ts)
above_from n t [] le h = (le, tt)
above_from n t (u ∷ ts) le h =
    let less : t.from < u.from = h 0 1 t (omega arith) (omega arith) in
    (le, above_from (t.from + 1) u ts (omega (arith, less)) (λ i j d a b. h (suc i) (suc j) d (omega (arith, a)) (omega (arith, b))))

pub above_all : (ts : List Token) → Ascends ts → Above 0 ts
above_all [] h = tt
above_all (t ∷ ts) h = above_from 0 t ts (omega arith) h

above_less : (n m : ℕ) (ts : List Token) → n ≤ m → Above m ts → Above n ts
above_less n m [] le h = tt
above_less n m (t ∷ ts) le h = (let le2 = h.0 in omega (arith, le, le2), h.1)

pub above_rest : (n : ℕ) (xs ys : List Token) → Above n (xs ++ ys) → Above n ys
above_rest n [] ys h = h
above_rest n (x ∷ xs) ys h = let le = h.0 in above_rest n xs ys (above_less n (x.from + 1) (xs ++ ys) (omega (arith, le)) h.1)

-- declarations whose names stand among some tokens, in their order
abbrev pub Among : List Declaration → List Token → Type 0
Among [] ts = Unit {0}
Among (d ∷ ds) [] = ⊥
Among (d ∷ ds) (t ∷ ts) = ((d.name ≡ t) × Among ds ts) ⊎ Among (d ∷ ds) ts

pub among_behind : (ds : List Declaration) (xs ys : List Token) → Among ds ys → Among ds (xs ++ ys)
among_behind [] xs ys h = tt
among_behind (d ∷ ds) [] ys h = h
among_behind (d ∷ ds) (x ∷ xs) ys h = inr (among_behind (d ∷ ds) xs ys h)

pub among_front : (ds : List Declaration) (xs ys : List Token) → Among ds xs → Among ds (xs ++ ys)
among_front [] xs ys h = tt
among_front (d ∷ ds) [] ys h = absurd h
among_front (d ∷ ds) (x ∷ xs) ys (inl h) = inl (h.0, among_front ds xs ys h.1)
among_front (d ∷ ds) (x ∷ xs) ys (inr h) = inr (among_front (d ∷ ds) xs ys h)

among_both : (ds es : List Declaration) (xs ys : List Token) → Among ds xs → Among es ys → Among (ds ++ es) (xs ++ ys)
among_both [] es xs ys h k = among_behind es xs ys k
among_both (d ∷ ds) es [] ys h k = absurd h
among_both (d ∷ ds) es (x ∷ xs) ys (inl h) k = inl (h.0, among_both ds es xs ys h.1 k)
among_both (d ∷ ds) es (x ∷ xs) ys (inr h) k = inr (among_both (d ∷ ds) es xs ys h k)

item_among : (classes : List ClassTree) (i : ItemTree) → Among (declared_item classes i) (print_item i)
unfolding declared_item
item_among classes (alone t) = tt
item_among classes (made t a) = tt
item_among classes (named t c u) = inl (refl, tt)

end_among : (classes : List ClassTree) (e : EndpointTree) → Among (declared_item classes e.item) (print_endpoint e)
end_among classes e =
    among_behind (declared_item classes e.item) (print_port e.input) (print_item e.item ++ print_port e.output)
    (among_front (declared_item classes e.item) (print_item e.item) (print_port e.output) (item_among classes e.item))

ends_among : (classes : List ClassTree) (e : EndpointTree) (more : List (Token × EndpointTree)) → Among (declared_item classes e.item ++ declared_next classes more) (print_endpoints e more)
unfolding declared_next
ends_among classes e [] = subst (λ ds. Among ds (print_endpoint e)) (sym (append-nil (declared_item classes e.item))) (end_among classes e)
ends_among classes e (next ∷ more) =
    among_both (declared_item classes e.item) (declared_next classes (next ∷ more)) (print_endpoint e) (next.0 ∷ print_endpoints next.1 more) (end_among classes e)
    (among_behind (declared_next classes (next ∷ more)) (next.0 ∷ []) (print_endpoints next.1 more) (ends_among classes next.1 more))

more_among : (classes : List ClassTree) (u : UseTree) (more : List (Token × Token)) → Among (declared_more classes u more) (print_more more)
unfolding declared_more
more_among classes u [] = tt
more_among classes u (next ∷ more) = inr (inl (refl, more_among classes u more))

statement_among : (classes : List ClassTree) (st : StatementTree) → Among (declared_statement classes st) (print_statement st)
unfolding declared_statement
statement_among classes (connect e more) = ends_among classes e more
statement_among classes (declare first next more colons last) =
    inl (refl, among_front (declared_more classes last (next ∷ more)) (print_more (next ∷ more)) (colons ∷ print_use last) (more_among classes last (next ∷ more)))

body_among : (classes : List ClassTree) (us : List InnerTree) → Among (declared_body classes us) (print_body us)
unfolding declared_body
body_among classes [] = tt
body_among classes (sign t ∷ us) = among_behind (declared_body classes us) (t ∷ []) (print_body us) (body_among classes us)
body_among classes (plain st ∷ us) = among_both (declared_statement classes st) (declared_body classes us) (print_statement st) (print_body us) (statement_among classes st) (body_among classes us)

pub class_among : (classes : List ClassTree) (c : ClassTree) → Among (declared_body classes c.body) (print_class c)
class_among classes c =
    among_behind (declared_body classes c.body) (c.keyword ∷ c.name ∷ c.left ∷ []) (print_parameters c.parameters ++ (print_body c.body ++ c.right ∷ []))
    (among_behind (declared_body classes c.body) (print_parameters c.parameters) (print_body c.body ++ c.right ∷ [])
    (among_front (declared_body classes c.body) (print_body c.body) (c.right ∷ []) (body_among classes c.body)))

pub outside_among : (classes : List ClassTree) (us : List OuterTree) → Among (declared_outside classes us) (print_config us)
unfolding declared_outside
outside_among classes [] = tt
outside_among classes (outer (sign t) ∷ us) = among_behind (declared_outside classes us) (t ∷ []) (print_config us) (outside_among classes us)
outside_among classes (outer (plain st) ∷ us) = among_both (declared_statement classes st) (declared_outside classes us) (print_statement st) (print_config us) (statement_among classes st) (outside_among classes us)
outside_among classes (class c ∷ us) = among_behind (declared_outside (classes ++ c ∷ []) us) (print_class c) (print_config us) (outside_among (classes ++ c ∷ []) us)

-- declarations whose names ascend
abbrev pub Rises : ℕ → List Declaration → Type 0
Rises n [] = Unit {0}
Rises n (d ∷ ds) = (n ≤ d.name.from) × Rises (d.name.from + 1) ds

rises_at : (n : ℕ) (d : Declaration) (ds : List Declaration) (t : Token) → t ≡ d.name → n ≤ t.from → Rises (t.from + 1) ds → Rises n (d ∷ ds)
rises_at n d ds t e le h = (subst (λ (x : Token). n ≤ x.from) e le, subst (λ (x : Token). Rises (x.from + 1) ds) e h)

pub rises : (n : ℕ) (ds : List Declaration) (ts : List Token) → Among ds ts → Above n ts → Rises n ds
rises n [] ts h a = tt
rises n (d ∷ ds) [] h a = absurd h
rises n (d ∷ ds) (t ∷ ts) (inl h) a = rises_at n d ds t (sym h.0) a.0 (rises (t.from + 1) ds ts h.1 a.1)
rises n (d ∷ ds) (t ∷ ts) (inr h) a = let le = a.0 in rises n (d ∷ ds) ts h (above_less n (t.from + 1) ts (omega (arith, le)) a.1)

rises_to : (n : ℕ) (earlier : List Declaration) (d : Declaration) (rest : List Declaration) → Rises n (earlier ++ d ∷ rest) → n ≤ d.name.from
rises_to n [] d rest h = h.0
rises_to n (e ∷ earlier) d rest h = let le = h.0 in let le2 = rises_to (e.name.from + 1) earlier d rest h.1 in omega (arith, le, le2)

-- The first declaration of a name stands before a declaration of it where one is among those before.
pub first_before : (text : List ℕ) (k n : ℕ) (earlier : List Declaration) (d : Declaration) (rest : List Declaration) → Rises n (earlier ++ d ∷ rest)
    → before_entry d.name.from (option_map (entry_of text k) (declared_under text (earlier ++ d ∷ rest) (spelling text d.name))) ≡ is_some (declared_under text earlier (spelling text d.name))
unfolding declared_under
first_before text k n [] d rest h =
    let same : nat_lt d.name.from d.name.from ≡ false = grind (arith, nat_tests) in
    ap (λ b. before_entry d.name.from (option_map (entry_of text k) (cond b (Some d) (declared_under text rest (spelling text d.name))))) (bytes_self (spelling text d.name)) ∙ same
first_before text k n (e ∷ earlier) d rest h = by (bytes_eq (spelling text e.name) (spelling text d.name)) (first_before text k (e.name.from + 1) earlier d rest h.1)
  where
    less : nat_lt e.name.from d.name.from ≡ true
    less = let le : e.name.from + 1 ≤ d.name.from = rises_to (e.name.from + 1) earlier d rest h.1 in grind (arith, nat_tests)

    by : (b : Bool) → before_entry d.name.from (option_map (entry_of text k) (declared_under text (earlier ++ d ∷ rest) (spelling text d.name))) ≡ is_some (declared_under text earlier (spelling text d.name))
        → before_entry d.name.from (option_map (entry_of text k) (cond b (Some e) (declared_under text (earlier ++ d ∷ rest) (spelling text d.name)))) ≡ is_some (cond b (Some e) (declared_under text earlier (spelling text d.name)))
    by true later = less
    by false later = later
