-- What a connection connects is made by acts of the connection's scope.
use Rattle.std.proofs.Common.{◌≡◌, ℕ, List, [], ◌∷◌, ◌++◌, cond, Bool, true, false, codes, Contains, Option, Some, None, refl, sym, subst}
use Rattle.std.specs.List.{AllByRecursion}
use Rattle.std.specs.Str.{bytes_eq}
use Rattle.std.proofs.lemmas.List.Elements.{Contains-append_left, Contains-append_right}
use Rattle.mt_syntax.specs.declared.token.Token.{Token}
use Rattle.mt_syntax.specs.declared.word.Word.{Word}
use Rattle.mt_syntax.specs.declared.phrase.Use.{Use}
use Rattle.mt_click.specs.declared.action.Side.{Side}
use Rattle.mt_click.specs.declared.action.Side.TheVariants as sides
use Rattle.mt_syntax.specs.Reading.{word}
use Rattle.mt_syntax.specs.Grammar.{UseTree, use_of, PortTree, ItemTree, alone, named, made, EndpointTree, StatementTree, connect, declare, InnerTree, sign, plain, ClassTree, OuterTree, outer, class}
use Rattle.mt_click.specs.Declarations.{spelling, Declaration, declared_under, port_value}
use Rattle.mt_click.specs.Acts.{Sight, is_border, class_meant, name_meant, Act, join, making_act, make, bare_use, lone, item_acts, item_class, coming, leaving, end_acts, lone_side, side, side_left, side_reached, connecting, has_next, next_acts, group_acts, statement_acts, body_acts, outside_acts}
use Rattle.mt_click.specs.Elements.{own_offset}
use Rattle.mt_click.proofs.NetworkNumbers.{some_same}
use Rattle.mt_lists.proofs.Members.{first_in, later_in}
use Rattle.mt_click.proofs.OffsetsOfActs.{sites, sites_both, make_sites}

-- an end is a border, or what is made at one of some places
abbrev pub IsAt : List ℕ → Side → Type 0
IsAt ns (sides.Border port) = Unit {0}
IsAt ns (sides.Created offset port) = Contains ns offset

abbrev pub IsHeld : List ℕ → Act → Type 0
IsHeld ns (join arrow a b) = IsAt ns a × IsAt ns b
IsHeld ns _ = Unit {0}

abbrev pub AreHeld : List ℕ → List Act → Type 0
AreHeld ns acts = AllByRecursion (IsHeld ns) acts

abbrev MayBeAt : List ℕ → Option Side → Type 0
MayBeAt ns None = Unit {0}
MayBeAt ns (Some x) = IsAt ns x

-- what acts make is made at some of these places
abbrev pub Lie : List ℕ → List Act → Type 0
Lie ns acts = (n : ℕ) → Contains (sites acts) n → Contains ns n

lie_front : (ns : List ℕ) (xs ys : List Act) → Lie ns (xs ++ ys) → Lie ns xs
lie_front ns xs ys h n c = h n (subst (λ ms. Contains ms n) (sym (sites_both xs ys)) (Contains-append_left (sites xs) (sites ys) n c))

lie_back : (ns : List ℕ) (xs ys : List Act) → Lie ns (xs ++ ys) → Lie ns ys
lie_back ns xs ys h n c = h n (subst (λ ms. Contains ms n) (sym (sites_both xs ys)) (Contains-append_right (sites xs) (sites ys) n c))

-- and each name that is declared
abbrev pub AreCreated : List ℕ → List Declaration → Type 0
AreCreated ns ds = (d : Declaration) → Contains ds d → Contains ns d.name.from

declared_there : (text : List ℕ) (ds : List Declaration) (name : List ℕ) (d : Declaration) → declared_under text ds name ≡ Some d → Contains ds d
unfolding declared_under
declared_there text [] name d e = absurd (let q : None ≡ Some d = e in cc)
declared_there text (x ∷ ds) name d e = by (bytes_eq (spelling text x.name) name) (declared_there text ds name d) e
  where
    by : (b : Bool) → (declared_under text ds name ≡ Some d → Contains ds d) → cond b (Some x) (declared_under text ds name) ≡ Some d → Contains (x ∷ ds) d
    by true later f = subst (Contains (x ∷ ds)) (some_same x d f) (first_in x ds)
    by false later f = later_in x ds d (later f)

-- what an act makes is made at its place
make_there : (ns : List ℕ) (s : Sight) (name : Option Word) (u : UseTree) → Lie ns (make s name u ∷ []) → Contains ns (own_offset name (use_of u))
make_there ns s name u h = h (own_offset name (use_of u)) (subst (λ ms. Contains ms (own_offset name (use_of u))) (sym (make_sites s name u)) (first_in (own_offset name (use_of u)) []))

lone_at : (ns : List ℕ) (s : Sight) → AreCreated ns s.declared → (t : Token) (port : ℕ) (o : Option Declaration) → name_meant s t ≡ o → Lie ns (lone s t o) → MayBeAt ns (lone_side t port o)
unfolding name_meant
lone_at ns s all t port (Some d) e h = all d (declared_there s.text s.declared (spelling s.text t) d e)
lone_at ns s all t port None e h = make_there ns s None (bare_use t) h

alone_at : (ns : List ℕ) (s : Sight) → AreCreated ns s.declared → (t : Token) (port : ℕ) (inner same : Bool) → Lie ns (cond inner [] (lone s t (name_meant s t)))
    → MayBeAt ns (cond inner (cond same (Some (sides.Border port)) None) (lone_side t port (name_meant s t)))
alone_at ns s all t port true true h = tt
alone_at ns s all t port true false h = tt
alone_at ns s all t port false same h = lone_at ns s all t port (name_meant s t) refl h

side_at : (ns : List ℕ) (s : Sight) → AreCreated ns s.declared → (border : List ℕ) (port : ℕ) (i : ItemTree) → Lie ns (item_acts s i) → MayBeAt ns (side s border port i)
unfolding item_acts side
side_at ns s all border port (named t colons u) h = make_there ns s (Some (word t)) u h
side_at ns s all border port (made t a) h = make_there ns s None (record { class = t; arguments = Some a }) h
side_at ns s all border port (alone t) h = alone_at ns s all t port (is_border s t) (bytes_eq (spelling s.text t) border) h

end_lies : (ns : List ℕ) (s : Sight) (next followed : Bool) (e : EndpointTree) → Lie ns (end_acts s next followed e) → Lie ns (item_acts s e.item)
unfolding end_acts
end_lies ns s next followed e h =
    let first = coming next (item_class s e.item) e.input in
    let last = leaving followed (item_class s e.item) e.output in
    lie_front ns (item_acts s e.item) last (lie_back ns first (item_acts s e.item ++ last) h)

held_both : (ns : List ℕ) (xs ys : List Act) → AreHeld ns xs → AreHeld ns ys → AreHeld ns (xs ++ ys)
held_both ns [] ys h k = k
held_both ns (x ∷ xs) ys h k = (h.0, held_both ns xs ys h.1 k)

making_held : (ns : List ℕ) (o : Option (ClassTree × List ClassTree)) (name : Option Word) (u : Use) → IsHeld ns (making_act o name u)
making_held ns None name u = tt
making_held ns (Some x) name u = tt

make_held : (ns : List ℕ) (s : Sight) (name : Option Word) (u : UseTree) → IsHeld ns (make s name u)
unfolding make
make_held ns s name u = making_held ns (class_meant s u.class) name (use_of u)

lone_held : (ns : List ℕ) (s : Sight) (t : Token) (b : Bool) (o : Option Declaration) → AreHeld ns (cond b [] (lone s t o))
lone_held ns s t true o = tt
lone_held ns s t false (Some d) = tt
lone_held ns s t false None = (make_held ns s None (bare_use t), tt)

item_held : (ns : List ℕ) (s : Sight) (i : ItemTree) → AreHeld ns (item_acts s i)
unfolding item_acts
item_held ns s (named t colons u) = (make_held ns s (Some (word t)) u, tt)
item_held ns s (made t a) = (make_held ns s None (record { class = t; arguments = Some a }), tt)
item_held ns s (alone t) = lone_held ns s t (is_border s t) (name_meant s t)

coming_held : (ns : List ℕ) (b : Bool) (o : Option (ClassTree × List ClassTree)) (port : Option PortTree) → AreHeld ns (coming b o port)
coming_held ns true (Some x) port = (tt, tt)
coming_held ns true None port = tt
coming_held ns false o port = tt

leaving_held : (ns : List ℕ) (b : Bool) (o : Option (ClassTree × List ClassTree)) (port : Option PortTree) → AreHeld ns (leaving b o port)
leaving_held ns true (Some x) port = (tt, tt)
leaving_held ns true None port = tt
leaving_held ns false o port = tt

end_held : (ns : List ℕ) (s : Sight) (next followed : Bool) (e : EndpointTree) → AreHeld ns (end_acts s next followed e)
unfolding end_acts
end_held ns s next followed e =
    let first = coming next (item_class s e.item) e.input in
    let last = leaving followed (item_class s e.item) e.output in
    held_both ns first (item_acts s e.item ++ last) (coming_held ns next (item_class s e.item) e.input)
    (held_both ns (item_acts s e.item) last (item_held ns s e.item) (leaving_held ns followed (item_class s e.item) e.output))

connecting_held : (ns : List ℕ) (arrow : ℕ) (a b : Option Side) → MayBeAt ns a → MayBeAt ns b → AreHeld ns (connecting arrow a b)
connecting_held ns arrow (Some a) (Some b) h k = ((h, k), tt)
connecting_held ns arrow (Some a) None h k = tt
connecting_held ns arrow None b h k = tt

next_held : (ns : List ℕ) (s : Sight) → AreCreated ns s.declared → (e : EndpointTree) (more : List (Token × EndpointTree)) → Lie ns (item_acts s e.item) → Lie ns (next_acts s e more) → AreHeld ns (next_acts s e more)
unfolding next_acts
next_held ns s all e [] here h = tt
next_held ns s all e (next ∷ more) here h =
    let acts = end_acts s true (has_next more) next.1 in
    let followed = connecting next.0.from (side_left s e) (side_reached s next.1) in
    let there = end_lies ns s true (has_next more) next.1 (lie_front ns acts (followed ++ next_acts s next.1 more) h) in
    held_both ns acts (followed ++ next_acts s next.1 more) (end_held ns s true (has_next more) next.1)
    (held_both ns followed (next_acts s next.1 more)
    (connecting_held ns next.0.from (side_left s e) (side_reached s next.1) (side_at ns s all (codes "input") (port_value e.output) e.item here) (side_at ns s all (codes "output") (port_value next.1.input) next.1.item there))
    (next_held ns s all next.1 more there (lie_back ns followed (next_acts s next.1 more) (lie_back ns acts (followed ++ next_acts s next.1 more) h))))

group_held : (ns : List ℕ) (s : Sight) (u : UseTree) (more : List (Token × Token)) → AreHeld ns (group_acts s u more)
unfolding group_acts
group_held ns s u [] = tt
group_held ns s u (next ∷ more) = (make_held ns s (Some (word next.1)) u, group_held ns s u more)

statement_held : (ns : List ℕ) (s : Sight) → AreCreated ns s.declared → (st : StatementTree) → Lie ns (statement_acts s st) → AreHeld ns (statement_acts s st)
unfolding statement_acts
statement_held ns s all (connect e more) h =
    let acts = end_acts s false (has_next more) e in
    held_both ns acts (next_acts s e more) (end_held ns s false (has_next more) e)
    (next_held ns s all e more (end_lies ns s false (has_next more) e (lie_front ns acts (next_acts s e more) h)) (lie_back ns acts (next_acts s e more) h))
statement_held ns s all (declare first next more colons last) h = (make_held ns s (Some (word first)) last, group_held ns s last (next ∷ more))

pub body_held : (ns : List ℕ) (s : Sight) → AreCreated ns s.declared → (us : List InnerTree) → Lie ns (body_acts s us) → AreHeld ns (body_acts s us)
unfolding body_acts
body_held ns s all [] h = tt
body_held ns s all (sign t ∷ us) h = body_held ns s all us h
body_held ns s all (plain st ∷ us) h =
    held_both ns (statement_acts s st) (body_acts s us) (statement_held ns s all st (lie_front ns (statement_acts s st) (body_acts s us) h))
    (body_held ns s all us (lie_back ns (statement_acts s st) (body_acts s us) h))

pub outside_held : (ns : List ℕ) (text : List ℕ) (declared : List Declaration) → AreCreated ns declared → (classes : List ClassTree) (us : List OuterTree) → Lie ns (outside_acts text declared classes us) → AreHeld ns (outside_acts text declared classes us)
unfolding outside_acts
outside_held ns text declared all classes [] h = tt
outside_held ns text declared all classes (outer (sign t) ∷ us) h = outside_held ns text declared all classes us h
outside_held ns text declared all classes (outer (plain st) ∷ us) h =
    let s : Sight = record { text = text; declared = declared; classes = classes; own = None } in
    held_both ns (statement_acts s st) (outside_acts text declared classes us) (statement_held ns s all st (lie_front ns (statement_acts s st) (outside_acts text declared classes us) h))
    (outside_held ns text declared all classes us (lie_back ns (statement_acts s st) (outside_acts text declared classes us) h))
outside_held ns text declared all classes (class c ∷ us) h = outside_held ns text declared all (classes ++ c ∷ []) us h
