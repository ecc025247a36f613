-- The names that a configuration declares are identifiers.
use Rattle.std.proofs.Common.{◌≡◌, ℕ, List, [], ◌∷◌, ◌++◌, inl, inr, subst}
use Rattle.std.specs.List.{Contains, AllByRecursion}
use Rattle.std.proofs.lemmas.List.Elements.{Contains-append_left, Contains-append_right}
use Rattle.mt_syntax.specs.declared.token.TokenKind.TheVariants as kinds
use Rattle.mt_syntax.specs.declared.token.Token.{Token}
use Rattle.mt_syntax.specs.Spelled.{IsIdentifier}
use Rattle.mt_syntax.specs.Grammar.{UseTree, print_use, ItemTree, alone, named, made, print_item, IsItem, EndpointTree, print_port, print_endpoint, IsEndpoint, print_endpoints, AreEndpoints, print_more, AreMore, StatementTree, connect, declare, print_statement, IsStatement, InnerTree, sign, plain, print_body, IsBody, ClassTree, print_parameters, print_class, IsClass, OuterTree, outer, class, print_config, IsConfig}
use Rattle.mt_click.specs.Declarations.{spelling, Declaration, declared_item, declared_next, declared_more, declared_statement, declared_body, declared_outside, classes_of}
use Rattle.mt_lists.proofs.Members.{first_in, later_in, cases_in, none_in}

-- each name among some tokens is spelled as an identifier
abbrev pub AreNames : List ℕ → List Token → Type 0
AreNames text tokens = (t : Token) → Contains tokens t → t.kind ≡ kinds.Name → IsIdentifier (spelling text t)

abbrev pub AreNamed : List ℕ → List OuterTree → Type 0
AreNamed text tree = AreNames text (print_config tree)

abbrev pub AreIdentifiers : List ℕ → List Declaration → Type 0
AreIdentifiers text ds = AllByRecursion (λ d. IsIdentifier (spelling text d.name)) ds

both_identified : (text : List ℕ) (ds es : List Declaration) → AreIdentifiers text ds → AreIdentifiers text es → AreIdentifiers text (ds ++ es)
both_identified text [] es h k = k
both_identified text (d ∷ ds) es h k = (h.0, both_identified text ds es h.1 k)

in_front : (text : List ℕ) (xs ys : List Token) → AreNames text (xs ++ ys) → AreNames text xs
in_front text xs ys h t c = h t (Contains-append_left xs ys t c)

in_back : (text : List ℕ) (xs ys : List Token) → AreNames text (xs ++ ys) → AreNames text ys
in_back text xs ys h t c = h t (Contains-append_right xs ys t c)

in_rest : (text : List ℕ) (x : Token) (xs : List Token) → AreNames text (x ∷ xs) → AreNames text xs
in_rest text x xs h t c = h t (later_in x xs t c)

item_identified : (text : List ℕ) (classes : List ClassTree) (i : ItemTree) → IsItem i → AreNames text (print_item i) → AreIdentifiers text (declared_item classes i)
unfolding declared_item
item_identified text classes (alone t) right h = tt
item_identified text classes (named t colons u) right h = (h t (first_in t (colons ∷ print_use u)) right.0, tt)
item_identified text classes (made t a) right h = tt

end_identified : (text : List ℕ) (classes : List ClassTree) (e : EndpointTree) → IsEndpoint e → AreNames text (print_endpoint e) → AreIdentifiers text (declared_item classes e.item)
end_identified text classes e right h =
    item_identified text classes e.item right.1 (in_front text (print_item e.item) (print_port e.output) (in_back text (print_port e.input) (print_item e.item ++ print_port e.output) h))

ends_identified : (text : List ℕ) (classes : List ClassTree) (e : EndpointTree) (more : List (Token × EndpointTree)) → AreEndpoints e more → AreNames text (print_endpoints e more) → AreIdentifiers text (declared_item classes e.item ++ declared_next classes more)
unfolding declared_next
ends_identified text classes e [] right h = both_identified text (declared_item classes e.item) [] (end_identified text classes e right.0 h) tt
ends_identified text classes e (next ∷ more) right h =
    both_identified text (declared_item classes e.item) (declared_item classes next.1.item ++ declared_next classes more)
    (end_identified text classes e right.0 (in_front text (print_endpoint e) (next.0 ∷ print_endpoints next.1 more) h))
    (ends_identified text classes next.1 more right.2 (in_rest text next.0 (print_endpoints next.1 more) (in_back text (print_endpoint e) (next.0 ∷ print_endpoints next.1 more) h)))

more_identified : (text : List ℕ) (classes : List ClassTree) (u : UseTree) (more : List (Token × Token)) → AreMore kinds.Name more → AreNames text (print_more more) → AreIdentifiers text (declared_more classes u more)
unfolding declared_more
more_identified text classes u [] right h = tt
more_identified text classes u (next ∷ more) right h =
    let rest = in_rest text next.0 (next.1 ∷ print_more more) h in
    (rest next.1 (first_in next.1 (print_more more)) right.1, more_identified text classes u more right.2 (in_rest text next.1 (print_more more) rest))

statement_identified : (text : List ℕ) (classes : List ClassTree) (s : StatementTree) → IsStatement s → AreNames text (print_statement s) → AreIdentifiers text (declared_statement classes s)
unfolding declared_statement
statement_identified text classes (connect e more) right h = ends_identified text classes e more right.1 h
statement_identified text classes (declare first next more colons last) right h =
    let rest = in_rest text first (print_more (next ∷ more) ++ (colons ∷ print_use last)) h in
    (h first (first_in first (print_more (next ∷ more) ++ (colons ∷ print_use last))) right.0, more_identified text classes last (next ∷ more) right.1 (in_front text (print_more (next ∷ more)) (colons ∷ print_use last) rest))

pub body_identified : (text : List ℕ) (classes : List ClassTree) (us : List InnerTree) → IsBody us → AreNames text (print_body us) → AreIdentifiers text (declared_body classes us)
unfolding declared_body
body_identified text classes [] right h = tt
body_identified text classes (sign t ∷ us) right h = body_identified text classes us right.1 (in_rest text t (print_body us) h)
body_identified text classes (plain s ∷ us) right h =
    both_identified text (declared_statement classes s) (declared_body classes us)
    (statement_identified text classes s right.0 (in_front text (print_statement s) (print_body us) h))
    (body_identified text classes us right.2 (in_back text (print_statement s) (print_body us) h))

pub outside_identified : (text : List ℕ) (classes : List ClassTree) (us : List OuterTree) → IsConfig us → AreNamed text us → AreIdentifiers text (declared_outside classes us)
unfolding declared_outside
outside_identified text classes [] right h = tt
outside_identified text classes (outer (sign t) ∷ us) right h = outside_identified text classes us right.1 (in_rest text t (print_config us) h)
outside_identified text classes (outer (plain s) ∷ us) right h =
    both_identified text (declared_statement classes s) (declared_outside classes us)
    (statement_identified text classes s right.0 (in_front text (print_statement s) (print_config us) h))
    (outside_identified text classes us right.2 (in_back text (print_statement s) (print_config us) h))
outside_identified text classes (class c ∷ us) right h = outside_identified text (classes ++ c ∷ []) us right.1 (in_back text (print_class c) (print_config us) h)

-- the body of a class is right, and its names are identifiers
pub record Spelled (text : List ℕ) (c : ClassTree) : Type 0 where
  pub right : IsBody c.body
  pub names : AreNames text (print_body c.body)

class_spelled : (text : List ℕ) (c : ClassTree) → IsClass c → AreNames text (print_class c) → Spelled text c
class_spelled text c right h = record {
  right = right.4;
  names = in_front text (print_body c.body) (c.right ∷ []) (in_back text (print_parameters c.parameters) (print_body c.body ++ (c.right ∷ []))
      (in_rest text c.left (print_parameters c.parameters ++ (print_body c.body ++ (c.right ∷ [])))
      (in_rest text c.name (c.left ∷ (print_parameters c.parameters ++ (print_body c.body ++ (c.right ∷ []))))
      (in_rest text c.keyword (c.name ∷ c.left ∷ (print_parameters c.parameters ++ (print_body c.body ++ (c.right ∷ [])))) h))));
}

pub spelled : (text : List ℕ) (us : List OuterTree) → IsConfig us → AreNamed text us → (c : ClassTree) → Contains (classes_of us) c → Spelled text c
unfolding classes_of
spelled text [] right h c i = none_in c i
spelled text (outer (sign t) ∷ us) right h c i = spelled text us right.1 (in_rest text t (print_config us) h) c i
spelled text (outer (plain s) ∷ us) right h c i = spelled text us right.2 (in_back text (print_statement s) (print_config us) h) c i
spelled text (class d ∷ us) right h c i = elim (cases_in d (classes_of us) c i) [
  | inl same ↦ subst (Spelled text) same (class_spelled text d right.0 (in_front text (print_class d) (print_config us) h))
  | inr later ↦ spelled text us right.1 (in_back text (print_class d) (print_config us) h) c later
]
