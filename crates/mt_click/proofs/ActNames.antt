-- The acts of a scope name what it declares, one after the other, and use classes that stand before.
use Rattle.std.proofs.Common.{◌≡◌, ℕ, List, [], ◌∷◌, ◌++◌, Option, Some, None, cond, Bool, true, false, refl, sym, ap, ap₂, ◌∙◌, subst, append_assoc}
use Rattle.std.specs.List.{AllByRecursion}
use Rattle.std.specs.Str.{bytes_eq}
use Rattle.std.proofs.lemmas.List.{append-nil}
use Rattle.mt_syntax.specs.declared.token.Token.{Token}
use Rattle.mt_syntax.specs.declared.word.Word.{Word}
use Rattle.mt_syntax.specs.declared.phrase.Use.{Use}
use Rattle.mt_click.specs.declared.action.Side.{Side}
use Rattle.mt_syntax.specs.Reading.{word}
use Rattle.mt_syntax.specs.Words.{bytes_of}
use Rattle.mt_syntax.specs.Grammar.{UseTree, use_of, PortTree, ItemTree, alone, named, made, EndpointTree, StatementTree, connect, declare, InnerTree, sign, plain, ClassTree, OuterTree, outer, class}
use Rattle.mt_click.specs.Declarations.{spelling, class_from, Declaration, declaration, declared_item, declared_next, declared_more, declared_statement, declared_body, declared_outside, classes_of}
use Rattle.mt_click.specs.Acts.{Sight, is_border, class_meant, name_meant, Act, element, expand, making_act, make, bare_use, lone, item_acts, item_class, coming, leaving, end_acts, side_left, side_reached, connecting, has_next, next_acts, group_acts, statement_acts, body_acts, outside_acts}
use Rattle.mt_click.proofs.NetworkNumbers.{some_same}

-- the names under which acts make elements and use classes
abbrev pub word_name : List ℕ → Option Word → List (List ℕ)
word_name text None = []
word_name text (Some w) = bytes_of text w ∷ []

abbrev pub act_name : List ℕ → Act → List (List ℕ)
act_name text (element name u) = word_name text name
act_name text (expand c before name u) = word_name text name
act_name text _ = []

abbrev pub act_names : List ℕ → List Act → List (List ℕ)
act_names text [] = []
act_names text (a ∷ acts) = act_name text a ++ act_names text acts

abbrev pub names_in : List ℕ → List Declaration → List (List ℕ)
names_in text [] = []
names_in text (d ∷ ds) = spelling text d.name ∷ names_in text ds

-- a class stands among some, behind these
abbrev pub StandsIn : List ClassTree → List ClassTree → ClassTree → Type 0
StandsIn classes before c = (after : List ClassTree) × (classes ≡ before ++ c ∷ after)

abbrev pub Stands : List ClassTree → Act → Type 0
Stands classes (expand c before name u) = StandsIn classes before c
Stands classes _ = Unit {0}

pub record Tells (text : List ℕ) (classes : List ClassTree) (acts : List Act) (ds : List Declaration) : Type 0 where
  pub names : act_names text acts ≡ names_in text ds
  pub stand : AllByRecursion (Stands classes) acts

names_both : (text : List ℕ) (xs ys : List Act) → act_names text (xs ++ ys) ≡ act_names text xs ++ act_names text ys
names_both text [] ys = refl
names_both text (x ∷ xs) ys = ap (λ (ns : List (List ℕ)). act_name text x ++ ns) (names_both text xs ys) ∙ sym (append_assoc (act_name text x) (act_names text xs) (act_names text ys))

in_both : (text : List ℕ) (ds es : List Declaration) → names_in text (ds ++ es) ≡ names_in text ds ++ names_in text es
in_both text [] es = refl
in_both text (d ∷ ds) es = ap (λ (ns : List (List ℕ)). spelling text d.name ∷ ns) (in_both text ds es)

stand_both : (classes : List ClassTree) (xs ys : List Act) → AllByRecursion (Stands classes) xs → AllByRecursion (Stands classes) ys → AllByRecursion (Stands classes) (xs ++ ys)
stand_both classes [] ys h k = k
stand_both classes (x ∷ xs) ys h k = (h.0, stand_both classes xs ys h.1 k)

both : (text : List ℕ) (classes : List ClassTree) (xs ys : List Act) (ds es : List Declaration) → Tells text classes xs ds → Tells text classes ys es → Tells text classes (xs ++ ys) (ds ++ es)
both text classes xs ys ds es h k = record {
  names = names_both text xs ys ∙ ap₂ (λ (a b : List (List ℕ)). a ++ b) h.names k.names ∙ sym (in_both text ds es);
  stand = stand_both classes xs ys h.stand k.stand;
}

nothing : (text : List ℕ) (classes : List ClassTree) → Tells text classes [] []
nothing text classes = record { names = refl; stand = tt }

-- a class that is found stands where it is found

either_found : (text : List ℕ) (before : List ClassTree) (c : ClassTree) (cs : List ClassTree) (x : ClassTree × List ClassTree) (b : Bool) (later : Option (ClassTree × List ClassTree))
    → (later ≡ Some x → StandsIn ((before ++ c ∷ []) ++ cs) x.1 x.0) → cond b (Some (c, before)) later ≡ Some x → StandsIn (before ++ c ∷ cs) x.1 x.0
either_found text before c cs x true later h e =
    let same : (c, before) ≡ x = some_same (c, before) x e in
    (cs, ap (λ (z : ClassTree × List ClassTree). z.1 ++ z.0 ∷ cs) same)
either_found text before c cs x false later h e = let f = h e in (f.0, sym (append_assoc before (c ∷ []) cs) ∙ f.1)

class_found : (text : List ℕ) (before cs : List ClassTree) (name : List ℕ) (x : ClassTree × List ClassTree) → class_from text before cs name ≡ Some x → StandsIn (before ++ cs) x.1 x.0
unfolding class_from
class_found text before [] name x e = absurd (let q : None ≡ Some x = e in cc)
class_found text before (c ∷ cs) name x e =
    either_found text before c cs x (bytes_eq (spelling text c.name) name) (class_from text (before ++ c ∷ []) cs name) (class_found text (before ++ c ∷ []) cs name x) e

-- the classes that a place sees stand first
abbrev pub Sees : List ClassTree → Sight → Type 0
Sees classes s = (rest : List ClassTree) × (classes ≡ s.classes ++ rest)

making_stands : (classes : List ClassTree) (o : Option (ClassTree × List ClassTree)) (name : Option Word) (u : Use) → ((x : ClassTree × List ClassTree) → o ≡ Some x → StandsIn classes x.1 x.0) → Stands classes (making_act o name u)
making_stands classes None name u h = tt
making_stands classes (Some x) name u h = h x refl

make_stands : (classes : List ClassTree) (s : Sight) → Sees classes s → (name : Option Word) (u : UseTree) → Stands classes (make s name u)
unfolding make class_meant
make_stands classes s sees name u =
    making_stands classes (class_meant s u.class) name (use_of u)
    (λ x e. let f = class_found s.text [] s.classes (spelling s.text u.class) x e in
    (f.0 ++ sees.0, sees.1 ∙ ap (λ (cs : List ClassTree). cs ++ sees.0) f.1 ∙ append_assoc x.1 (x.0 ∷ f.0) sees.0))

making_name : (text : List ℕ) (o : Option (ClassTree × List ClassTree)) (name : Option Word) (u : Use) → act_name text (making_act o name u) ≡ word_name text name
making_name text None name u = refl
making_name text (Some x) name u = refl

make_name : (s : Sight) (name : Option Word) (u : UseTree) → act_name s.text (make s name u) ≡ word_name s.text name
unfolding make
make_name s name u = making_name s.text (class_meant s u.class) name (use_of u)

make_named : (classes : List ClassTree) (s : Sight) → Sees classes s → (ds : List ClassTree) (t : Token) (u : UseTree) → Tells s.text classes (make s (Some (word t)) u ∷ []) (declaration ds u t ∷ [])
make_named classes s sees ds t u = record {
  names = ap (λ (ns : List (List ℕ)). ns ++ []) (make_name s (Some (word t)) u);
  stand = (make_stands classes s sees (Some (word t)) u, tt);
}

make_alone : (classes : List ClassTree) (s : Sight) → Sees classes s → (u : UseTree) → Tells s.text classes (make s None u ∷ []) []
make_alone classes s sees u = record {
  names = ap (λ (ns : List (List ℕ)). ns ++ []) (make_name s None u);
  stand = (make_stands classes s sees None u, tt);
}

lone_tells : (classes : List ClassTree) (s : Sight) → Sees classes s → (t : Token) (b : Bool) (o : Option Declaration) → Tells s.text classes (cond b [] (lone s t o)) []
lone_tells classes s sees t true o = nothing s.text classes
lone_tells classes s sees t false (Some d) = nothing s.text classes
lone_tells classes s sees t false None = make_alone classes s sees (bare_use t)

item_tells : (classes : List ClassTree) (s : Sight) → Sees classes s → (ds : List ClassTree) (i : ItemTree) → Tells s.text classes (item_acts s i) (declared_item ds i)
unfolding item_acts declared_item
item_tells classes s sees ds (named t colons u) = make_named classes s sees ds t u
item_tells classes s sees ds (made t a) = make_alone classes s sees (record { class = t; arguments = Some a })
item_tells classes s sees ds (alone t) = lone_tells classes s sees t (is_border s t) (name_meant s t)

coming_tells : (text : List ℕ) (classes : List ClassTree) (b : Bool) (o : Option (ClassTree × List ClassTree)) (port : Option PortTree) → Tells text classes (coming b o port) []
coming_tells text classes true (Some x) port = record { names = refl; stand = (tt, tt) }
coming_tells text classes true None port = nothing text classes
coming_tells text classes false o port = nothing text classes

leaving_tells : (text : List ℕ) (classes : List ClassTree) (b : Bool) (o : Option (ClassTree × List ClassTree)) (port : Option PortTree) → Tells text classes (leaving b o port) []
leaving_tells text classes true (Some x) port = record { names = refl; stand = (tt, tt) }
leaving_tells text classes true None port = nothing text classes
leaving_tells text classes false o port = nothing text classes

connecting_tells : (text : List ℕ) (classes : List ClassTree) (arrow : ℕ) (a b : Option Side) → Tells text classes (connecting arrow a b) []
connecting_tells text classes arrow (Some a) (Some b) = record { names = refl; stand = (tt, tt) }
connecting_tells text classes arrow (Some a) None = nothing text classes
connecting_tells text classes arrow None b = nothing text classes

end_tells : (classes : List ClassTree) (s : Sight) → Sees classes s → (ds : List ClassTree) (before behind : Bool) (e : EndpointTree) → Tells s.text classes (end_acts s before behind e) (declared_item ds e.item)
unfolding end_acts
end_tells classes s sees ds before behind e =
    let first = coming before (item_class s e.item) e.input in
    let last = leaving behind (item_class s e.item) e.output in
    subst (Tells s.text classes (first ++ (item_acts s e.item ++ last))) (append-nil (declared_item ds e.item))
    (both s.text classes first (item_acts s e.item ++ last) [] (declared_item ds e.item ++ []) (coming_tells s.text classes before (item_class s e.item) e.input)
    (both s.text classes (item_acts s e.item) last (declared_item ds e.item) [] (item_tells classes s sees ds e.item) (leaving_tells s.text classes behind (item_class s e.item) e.output)))

next_tells : (classes : List ClassTree) (s : Sight) → Sees classes s → (ds : List ClassTree) (e : EndpointTree) (more : List (Token × EndpointTree)) → Tells s.text classes (next_acts s e more) (declared_next ds more)
unfolding next_acts declared_next
next_tells classes s sees ds e [] = nothing s.text classes
next_tells classes s sees ds e (next ∷ more) =
    let followed = connecting next.0.from (side_left s e) (side_reached s next.1) in
    both s.text classes (end_acts s true (has_next more) next.1) (followed ++ next_acts s next.1 more) (declared_item ds next.1.item) (declared_next ds more)
    (end_tells classes s sees ds true (has_next more) next.1)
    (both s.text classes followed (next_acts s next.1 more) [] (declared_next ds more) (connecting_tells s.text classes next.0.from (side_left s e) (side_reached s next.1)) (next_tells classes s sees ds next.1 more))

group_tells : (classes : List ClassTree) (s : Sight) → Sees classes s → (ds : List ClassTree) (u : UseTree) (more : List (Token × Token)) → Tells s.text classes (group_acts s u more) (declared_more ds u more)
unfolding group_acts declared_more
group_tells classes s sees ds u [] = nothing s.text classes
group_tells classes s sees ds u (next ∷ more) =
    both s.text classes (make s (Some (word next.1)) u ∷ []) (group_acts s u more) (declaration ds u next.1 ∷ []) (declared_more ds u more) (make_named classes s sees ds next.1 u) (group_tells classes s sees ds u more)

statement_tells : (classes : List ClassTree) (s : Sight) → Sees classes s → (ds : List ClassTree) (st : StatementTree) → Tells s.text classes (statement_acts s st) (declared_statement ds st)
unfolding statement_acts declared_statement
statement_tells classes s sees ds (connect e more) =
    both s.text classes (end_acts s false (has_next more) e) (next_acts s e more) (declared_item ds e.item) (declared_next ds more) (end_tells classes s sees ds false (has_next more) e) (next_tells classes s sees ds e more)
statement_tells classes s sees ds (declare first next more colons last) =
    both s.text classes (make s (Some (word first)) last ∷ []) (group_acts s last (next ∷ more)) (declaration ds last first ∷ []) (declared_more ds last (next ∷ more)) (make_named classes s sees ds first last) (group_tells classes s sees ds last (next ∷ more))

pub body_tells : (classes : List ClassTree) (s : Sight) → Sees classes s → (ds : List ClassTree) (us : List InnerTree) → Tells s.text classes (body_acts s us) (declared_body ds us)
unfolding body_acts declared_body
body_tells classes s sees ds [] = nothing s.text classes
body_tells classes s sees ds (sign t ∷ us) = body_tells classes s sees ds us
body_tells classes s sees ds (plain st ∷ us) =
    both s.text classes (statement_acts s st) (body_acts s us) (declared_statement ds st) (declared_body ds us) (statement_tells classes s sees ds st) (body_tells classes s sees ds us)

pub outside_tells : (text : List ℕ) (classes : List ClassTree) (declared : List Declaration) (before : List ClassTree) (us : List OuterTree) → classes ≡ before ++ classes_of us
    → Tells text classes (outside_acts text declared before us) (declared_outside before us)
unfolding outside_acts declared_outside classes_of
outside_tells text classes declared before [] e = nothing text classes
outside_tells text classes declared before (outer (sign t) ∷ us) e = outside_tells text classes declared before us e
outside_tells text classes declared before (outer (plain st) ∷ us) e =
    let s : Sight = record { text = text; declared = declared; classes = before; own = None } in
    both text classes (statement_acts s st) (outside_acts text declared before us) (declared_statement before st) (declared_outside before us)
    (statement_tells classes s (classes_of us, e) before st) (outside_tells text classes declared before us e)
outside_tells text classes declared before (class c ∷ us) e = outside_tells text classes declared (before ++ c ∷ []) us (e ∙ sym (append_assoc before (c ∷ []) (classes_of us)))
