-- The argument texts that the acts of a configuration use end at their `)`.
use Rattle.std.proofs.Common.{◌≡◌, ℕ, List, [], ◌∷◌, ◌++◌, Option, Some, None, cond, Bool, true, false, inl, inr, subst}
use Rattle.std.specs.Prelude.{IfSome}
use Rattle.std.specs.List.{Contains, AllByRecursion}
use Rattle.std.specs.Option.{option_map, option_to_list}
use Rattle.mt_syntax.specs.declared.token.TokenKind.TheVariants as kinds
use Rattle.mt_syntax.specs.declared.token.Token.{Token}
use Rattle.mt_syntax.specs.declared.word.Word.{Word}
use Rattle.mt_syntax.specs.declared.phrase.Use.{Use}
use Rattle.mt_click.specs.declared.action.Side.{Side}
use Rattle.mt_syntax.specs.Reading.{word}
use Rattle.mt_syntax.specs.Words.{bytes_of}
use Rattle.mt_syntax.specs.Balance.{IsClosed, AreClosed}
use Rattle.mt_syntax.specs.Grammar.{UseTree, print_use, IsUse, use_of, PortTree, print_port, ItemTree, alone, named, made, print_item, IsItem, EndpointTree, print_endpoint, IsEndpoint, print_endpoints, AreEndpoints, print_more, StatementTree, connect, declare, print_statement, IsStatement, InnerTree, sign, plain, print_body, IsBody, ClassTree, print_parameters, print_class, IsClass, OuterTree, outer, class, print_config, IsConfig}
use Rattle.mt_click.specs.Declarations.{Declaration, classes_of}
use Rattle.mt_click.specs.Acts.{Sight, is_border, class_meant, name_meant, Act, element, expand, making_act, make, bare_use, lone, item_acts, item_class, coming, leaving, end_acts, side_left, side_reached, connecting, has_next, next_acts, group_acts, statement_acts, body_acts, outside_acts}
use Rattle.mt_lists.proofs.Members.{cases_in, none_in}

-- an argument text, where there is one, ends at its `)`
abbrev pub IsClosedWord : List ℕ → Option Word → Type 0
IsClosedWord text o = IfSome o (λ w. IsClosed (bytes_of text w))

-- the argument text of what an act makes or uses
abbrev pub IsClosedAct : List ℕ → Act → Type 0
IsClosedAct text (element name u) = IsClosedWord text u.arguments
IsClosedAct text (expand c before name u) = IsClosedWord text u.arguments
IsClosedAct text _ = Unit {0}

abbrev pub AreClosedActs : List ℕ → List Act → Type 0
AreClosedActs text acts = AllByRecursion (IsClosedAct text) acts

acts_both : (text : List ℕ) (xs ys : List Act) → AreClosedActs text xs → AreClosedActs text ys → AreClosedActs text (xs ++ ys)
acts_both text [] ys h k = k
acts_both text (x ∷ xs) ys h k = (h.0, acts_both text xs ys h.1 k)

-- acts in the midst of others
between : (text : List ℕ) (xs ys zs : List Act) → AreClosedActs text ys → AreClosedActs text (xs ++ zs) → AreClosedActs text (xs ++ (ys ++ zs))
between text [] ys zs h k = acts_both text ys zs h k
between text (x ∷ xs) ys zs h k = (k.0, between text xs ys zs h k.1)

in_front : (text : List ℕ) (xs ys : List Token) → AreClosed text (xs ++ ys) → AreClosed text xs
in_front text [] ys h = tt
in_front text (x ∷ xs) ys h = (h.0, in_front text xs ys h.1)

in_back : (text : List ℕ) (xs ys : List Token) → AreClosed text (xs ++ ys) → AreClosed text ys
in_back text [] ys h = h
in_back text (x ∷ xs) ys h = in_back text xs ys h.1

arguments_closed : (text : List ℕ) (o : Option Token) → IfSome o (λ a. a.kind ≡ kinds.Arguments) → AreClosed text (option_to_list o) → IsClosedWord text (option_map word o)
arguments_closed text None right h = tt
arguments_closed text (Some a) right h = h.0 right

use_closed : (text : List ℕ) (u : UseTree) → IsUse u → AreClosed text (print_use u) → IsClosedWord text (use_of u).arguments
use_closed text u right h = arguments_closed text u.arguments right.1 h.1

making_closed : (text : List ℕ) (o : Option (ClassTree × List ClassTree)) (name : Option Word) (u : Use) → IsClosedWord text u.arguments → IsClosedAct text (making_act o name u)
making_closed text None name u h = h
making_closed text (Some x) name u h = h

make_closed : (s : Sight) (name : Option Word) (u : UseTree) → IsClosedWord s.text (use_of u).arguments → IsClosedAct s.text (make s name u)
unfolding make
make_closed s name u h = making_closed s.text (class_meant s u.class) name (use_of u) h

lone_closed : (s : Sight) (t : Token) (b : Bool) (o : Option Declaration) → AreClosedActs s.text (cond b [] (lone s t o))
lone_closed s t true o = tt
lone_closed s t false (Some d) = tt
lone_closed s t false None = (make_closed s None (bare_use t) tt, tt)

item_closed : (s : Sight) (i : ItemTree) → IsItem i → AreClosed s.text (print_item i) → AreClosedActs s.text (item_acts s i)
unfolding item_acts
item_closed s (named t colons u) right h = (make_closed s (Some (word t)) u (use_closed s.text u right.2 h.1.1), tt)
item_closed s (made t a) right h = (make_closed s None (record { class = t; arguments = Some a }) (h.1.0 right.1), tt)
item_closed s (alone t) right h = lone_closed s t (is_border s t) (name_meant s t)

coming_closed : (text : List ℕ) (b : Bool) (o : Option (ClassTree × List ClassTree)) (port : Option PortTree) → AreClosedActs text (coming b o port)
coming_closed text true (Some x) port = (tt, tt)
coming_closed text true None port = tt
coming_closed text false o port = tt

leaving_closed : (text : List ℕ) (b : Bool) (o : Option (ClassTree × List ClassTree)) (port : Option PortTree) → AreClosedActs text (leaving b o port)
leaving_closed text true (Some x) port = (tt, tt)
leaving_closed text true None port = tt
leaving_closed text false o port = tt

connecting_closed : (text : List ℕ) (arrow : ℕ) (a b : Option Side) → AreClosedActs text (connecting arrow a b)
connecting_closed text arrow (Some a) (Some b) = (tt, tt)
connecting_closed text arrow (Some a) None = tt
connecting_closed text arrow None b = tt

end_closed : (s : Sight) (before behind : Bool) (e : EndpointTree) → IsEndpoint e → AreClosed s.text (print_endpoint e) → AreClosedActs s.text (end_acts s before behind e)
unfolding end_acts
end_closed s before behind e right h =
    let last = leaving behind (item_class s e.item) e.output in
    acts_both s.text (coming before (item_class s e.item) e.input) (item_acts s e.item ++ last) (coming_closed s.text before (item_class s e.item) e.input)
    (acts_both s.text (item_acts s e.item) last
    (item_closed s e.item right.1 (in_front s.text (print_item e.item) (print_port e.output) (in_back s.text (print_port e.input) (print_item e.item ++ print_port e.output) h)))
    (leaving_closed s.text behind (item_class s e.item) e.output))

-- an end, and the further ends of its connection
ends_closed : (s : Sight) (before : Bool) (e : EndpointTree) (more : List (Token × EndpointTree)) → AreEndpoints e more → AreClosed s.text (print_endpoints e more) → AreClosedActs s.text (end_acts s before (has_next more) e ++ next_acts s e more)
unfolding next_acts
ends_closed s before e [] right h = acts_both s.text (end_acts s before false e) [] (end_closed s before false e right.0 h) tt
ends_closed s before e (next ∷ more) right h =
    let followed = connecting next.0.from (side_left s e) (side_reached s next.1) in
    let later = ends_closed s true next.1 more right.2 (in_back s.text (print_endpoint e) (next.0 ∷ print_endpoints next.1 more) h).1 in
    acts_both s.text (end_acts s before true e) (end_acts s true (has_next more) next.1 ++ (followed ++ next_acts s next.1 more))
    (end_closed s before true e right.0 (in_front s.text (print_endpoint e) (next.0 ∷ print_endpoints next.1 more) h))
    (between s.text (end_acts s true (has_next more) next.1) followed (next_acts s next.1 more) (connecting_closed s.text next.0.from (side_left s e) (side_reached s next.1)) later)

group_closed : (s : Sight) (u : UseTree) (more : List (Token × Token)) → IsClosedWord s.text (use_of u).arguments → AreClosedActs s.text (group_acts s u more)
unfolding group_acts
group_closed s u [] h = tt
group_closed s u (next ∷ more) h = (make_closed s (Some (word next.1)) u h, group_closed s u more h)

statement_closed : (s : Sight) (st : StatementTree) → IsStatement st → AreClosed s.text (print_statement st) → AreClosedActs s.text (statement_acts s st)
unfolding statement_acts
statement_closed s (connect e more) right h = ends_closed s false e more right.1 h
statement_closed s (declare first next more colons last) right h =
    let ends = use_closed s.text last right.3 (in_back s.text (print_more (next ∷ more)) (colons ∷ print_use last) h.1).1 in
    (make_closed s (Some (word first)) last ends, group_closed s last (next ∷ more) ends)

pub body_closed : (s : Sight) (us : List InnerTree) → IsBody us → AreClosed s.text (print_body us) → AreClosedActs s.text (body_acts s us)
unfolding body_acts
body_closed s [] right h = tt
body_closed s (sign t ∷ us) right h = body_closed s us right.1 h.1
body_closed s (plain st ∷ us) right h =
    acts_both s.text (statement_acts s st) (body_acts s us)
    (statement_closed s st right.0 (in_front s.text (print_statement st) (print_body us) h))
    (body_closed s us right.2 (in_back s.text (print_statement st) (print_body us) h))

pub outside_closed : (text : List ℕ) (declared : List Declaration) (before : List ClassTree) (us : List OuterTree) → IsConfig us → AreClosed text (print_config us) → AreClosedActs text (outside_acts text declared before us)
unfolding outside_acts
outside_closed text declared before [] right h = tt
outside_closed text declared before (outer (sign t) ∷ us) right h = outside_closed text declared before us right.1 h.1
outside_closed text declared before (outer (plain st) ∷ us) right h =
    let s : Sight = record { text = text; declared = declared; classes = before; own = None } in
    acts_both text (statement_acts s st) (outside_acts text declared before us)
    (statement_closed s st right.0 (in_front text (print_statement st) (print_config us) h))
    (outside_closed text declared before us right.2 (in_back text (print_statement st) (print_config us) h))
outside_closed text declared before (class c ∷ us) right h = outside_closed text declared (before ++ c ∷ []) us right.1 (in_back text (print_class c) (print_config us) h)

-- the body of a class is right, and its argument texts end at their `)`
pub record Enclosed (text : List ℕ) (c : ClassTree) : Type 0 where
  pub right : IsBody c.body
  pub closed : AreClosed text (print_body c.body)

class_enclosed : (text : List ℕ) (c : ClassTree) → IsClass c → AreClosed text (print_class c) → Enclosed text c
class_enclosed text c right h = record {
  right = right.4;
  closed = in_front text (print_body c.body) (c.right ∷ []) (in_back text (print_parameters c.parameters) (print_body c.body ++ (c.right ∷ [])) h.1.1.1);
}

pub enclosed : (text : List ℕ) (us : List OuterTree) → IsConfig us → AreClosed text (print_config us) → (c : ClassTree) → Contains (classes_of us) c → Enclosed text c
unfolding classes_of
enclosed text [] right h c i = none_in c i
enclosed text (outer (sign t) ∷ us) right h c i = enclosed text us right.1 h.1 c i
enclosed text (outer (plain s) ∷ us) right h c i = enclosed text us right.2 (in_back text (print_statement s) (print_config us) h) c i
enclosed text (class d ∷ us) right h c i = elim (cases_in d (classes_of us) c i) [
  | inl same ↦ subst (Enclosed text) same (class_enclosed text d right.0 (in_front text (print_class d) (print_config us) h))
  | inr later ↦ enclosed text us right.1 (in_back text (print_class d) (print_config us) h) c later
]
