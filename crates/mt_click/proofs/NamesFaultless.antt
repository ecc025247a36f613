-- The names of a configuration are at no fault exactly where each is declared once, none is `input` or
-- `output` in a body and no class uses itself.
use Rattle.std.proofs.Common.{◌≡◌, ℕ, suc, List, [], ◌∷◌, ◌++◌, length, Option, Some, None, Bool, true, false, cond, refl, sym, ap, ◌∙◌}
use Rattle.std.specs.Prelude.{◌&&◌, ◌||◌, not, is_some}
use Rattle.std.specs.List.{AllByRecursion}
use Rattle.std.specs.Str.{bytes_eq}
use Rattle.std.proofs.Math.Bool.{and-true}
use Rattle.std.proofs.lemmas.Slice.Eq.{bytes_eq-Decides}
use Rattle.mt_syntax.specs.declared.fault.ClickWhy.TheVariants as whys
use Rattle.mt_syntax.specs.declared.word.Word.{Word}
use Rattle.mt_syntax.specs.declared.phrase.Use.{Use}
use Rattle.mt_syntax.specs.declared.token.Token.{Token}
use Rattle.mt_syntax.specs.Reading.{word}
use Rattle.mt_syntax.specs.Grammar.{UseTree, use_of, PortTree, ItemTree, alone, named, made, EndpointTree, StatementTree, connect, declare, InnerTree, sign, plain, ClassTree, OuterTree, outer, class}
use Rattle.mt_click.specs.declared.action.Action.{Action}
use Rattle.mt_click.specs.declared.action.Action.TheVariants as actions
use Rattle.mt_click.specs.declared.action.Side.{Side}
use Rattle.mt_click.specs.Actions.{wrong}
use Rattle.mt_click.specs.Declarations.{spelling, class_from, class_under, Declaration, declared_under, declaration, declared_item, declared_next, declared_more, declared_statement, declared_body, declared_outside, classes_of, inputs_of, outputs_of}
use Rattle.mt_click.specs.Acts.{Sight, body_sight, is_border, class_meant, name_meant, bare_use, item_class, side_left, side_reached, has_next}
use Rattle.mt_click.specs.Expands.{IsOther, AreOnce, AreClassesOnce, lone_use, item_uses, next_uses, statement_uses, body_uses, IsRightClass, AreRightClasses}
use Rattle.mt_click.specs.Spread.{Found, naming_of, using_of, is_own_name, counting_at, counting_of, making_at, making_of, is_in, reaching_of, written_of, left_out_of, first_of, leaving_out_of, unnamed_of, named_of, item_of_end, whole_of, actions_of_endpoint, connecting_of, actions_of_next, names_of_group, making_of_group, rooming_at, rooming_of, actions_of_statement, actions_of_body, class_naming}
use Rattle.mt_click.proofs.BodyWalk.{is_free, free_append}
use Rattle.mt_lists.proofs.Bools.{and_true}
use Rattle.mt_click.proofs.NamesOnce.{and_join, not_passed, never, has, fresh, fresh_append, fresh_once, once_fresh}

abbrev pub name_in : List ℕ → Declaration → List ℕ
name_in text d = spelling text d.name

abbrev pub class_name_in : List ℕ → ClassTree → List ℕ
class_name_in text c = spelling text c.name

under_has : (text : List ℕ) (ds : List Declaration) (name : List ℕ) → is_some (declared_under text ds name) ≡ has (name_in text) ds name
unfolding declared_under
under_has text [] name = refl
under_has text (d ∷ ds) name = by (bytes_eq (spelling text d.name) name) (under_has text ds name)
  where
    by : (b : Bool) → is_some (declared_under text ds name) ≡ has (name_in text) ds name → is_some (cond b (Some d) (declared_under text ds name)) ≡ (b || has (name_in text) ds name)
    by true h = refl
    by false h = h

class_has : (text : List ℕ) (before cs : List ClassTree) (name : List ℕ) → is_some (class_from text before cs name) ≡ has (class_name_in text) cs name
unfolding class_from
class_has text before [] name = refl
class_has text before (c ∷ cs) name = by (bytes_eq (spelling text c.name) name) (class_has text (before ++ c ∷ []) cs name)
  where
    by : (b : Bool) → is_some (class_from text (before ++ c ∷ []) cs name) ≡ has (class_name_in text) cs name
        → is_some (cond b (Some (c, before)) (class_from text (before ++ c ∷ []) cs name)) ≡ (b || has (class_name_in text) cs name)
    by true h = refl
    by false h = h

free_both : (xs ys : List Action) (a b : Bool) → is_free xs ≡ a → is_free ys ≡ b → is_free (xs ++ ys) ≡ (a && b)
free_both xs ys a b h k = free_append xs ys ∙ ap (λ c. c && is_free ys) h ∙ ap (λ c. a && c) k

-- no name is among some actions
free_two : (xs ys : List Action) → is_free xs ≡ true → is_free ys ≡ true → is_free (xs ++ ys) ≡ true
free_two xs ys h k = free_both xs ys true true h k

tidied : (a b : Bool) → (a && (true && (b && true))) ≡ ((a && true) && (b && true))
tidied true b = refl
tidied false b = refl

paired : (a b c d : Bool) → ((a && b) && (c && d)) ≡ ((a && c) && (b && d))
paired false b c d = refl
paired true false false d = refl
paired true false true d = refl
paired true true c d = refl

grouped : (a b c : Bool) → (a && (b && c)) ≡ ((a && b) && c)
grouped true b c = refl
grouped false b c = refl

-- a class is not its own
abbrev is_apart : Sight → Token → Bool
is_apart s t = not (is_own_name s.text (spelling s.text t) s.own)

abbrev are_apart : Sight → List Token → Bool
are_apart s [] = true
are_apart s (t ∷ ts) = is_apart s t && are_apart s ts

apart_append : (s : Sight) (xs ys : List Token) → are_apart s (xs ++ ys) ≡ (are_apart s xs && are_apart s ys)
apart_append s [] ys = refl
apart_append s (x ∷ xs) ys = ap (λ b. is_apart s x && b) (apart_append s xs ys) ∙ grouped (is_apart s x) (are_apart s xs) (are_apart s ys)

abbrev is_wrong : Sight → Declaration → Bool
is_wrong s d = is_border s d.name

abbrev are_fresh : Sight → List Declaration → List Declaration → Bool
are_fresh s earlier ds = fresh (name_in s.text) (is_wrong s) earlier ds

fresh_two : (s : Sight) (earlier xs ys : List Declaration) → are_fresh s earlier (xs ++ ys) ≡ (are_fresh s earlier xs && are_fresh s (earlier ++ xs) ys)
fresh_two s earlier xs ys = fresh_append (name_in s.text) (is_wrong s) earlier xs ys

module _ (s : Sight) where
  abbrev is_new : List Declaration → Token → Bool
  is_new earlier t = not (is_border s t || has (name_in s.text) earlier (spelling s.text t))

  naming_free : (earlier : List Declaration) (t : Token) → is_free (naming_of s earlier t) ≡ is_new earlier t
  unfolding naming_of
  naming_free earlier t = by (is_border s t || is_some (declared_under s.text earlier (spelling s.text t))) ∙ ap (λ b. not (is_border s t || b)) (under_has s.text earlier (spelling s.text t))
    where
      by : (b : Bool) → is_free (cond b (actions.Name (wrong whys.Redeclared t.from) ∷ []) []) ≡ not b
      by true = refl
      by false = refl

  using_free : (t : Token) → is_free (using_of s t) ≡ is_apart s t
  unfolding using_of
  using_free t = by (is_own_name s.text (spelling s.text t) s.own)
    where
      by : (b : Bool) → is_free (cond b (actions.Name (wrong whys.Recursive t.from) ∷ []) []) ≡ not b
      by true = refl
      by false = refl

  counting_at_free : (u : Use) (o : Found) → is_free (counting_at u o) ≡ true
  counting_at_free u None = refl
  counting_at_free u (Some x) = refl

  counting_free : (u : UseTree) → is_free (counting_of s u) ≡ true
  unfolding counting_of
  counting_free u = counting_at_free (use_of u) (class_meant s u.class)

  making_at_free : (name : Option Word) (u : Use) (o : Found) → is_free (making_at name u o ∷ []) ≡ true
  making_at_free name u None = refl
  making_at_free name u (Some x) = refl

  making_free : (name : Option Word) (u : UseTree) → is_free (making_of s name u) ≡ true
  unfolding making_of
  making_free name u = making_at_free name (use_of u) (class_meant s u.class)

  reaching_free : (ports : ClassTree → List ℕ) (found : Found) (n at : ℕ) → is_free (reaching_of ports found n at) ≡ true
  unfolding reaching_of
  reaching_free ports None n at = refl
  reaching_free ports (Some x) n at = by (is_in n (ports x.0))
    where
      by : (b : Bool) → is_free (cond b [] (actions.MissingPort (wrong whys.NoPort at) ∷ [])) ≡ true
      by true = refl
      by false = refl

  written_free : (ports : ClassTree → List ℕ) (found : Found) (port : Option PortTree) → is_free (written_of ports found port) ≡ true
  unfolding written_of
  written_free ports found None = refl
  written_free ports found (Some p) = reaching_free ports found p.value p.left.from

  left_free : (ports : ClassTree → List ℕ) (found : Found) (followed : Bool) (port : Option PortTree) (at : ℕ) → is_free (left_out_of ports found followed port at) ≡ true
  unfolding left_out_of
  left_free ports found followed port at = by (followed && not (is_some port))
    where
      by : (b : Bool) → is_free (cond b (reaching_of ports found 0 at) []) ≡ true
      by true = reaching_free ports found 0 at
      by false = refl

  leaving_free : (found : Found) (before behind : Bool) (e : EndpointTree) → is_free (leaving_out_of s found before behind e) ≡ true
  unfolding leaving_out_of
  leaving_free found before behind e =
      free_two (left_out_of (inputs_of s.text) found before e.input (first_of e.item)) (left_out_of (outputs_of s.text) found behind e.output (first_of e.item))
      (left_free (inputs_of s.text) found before e.input (first_of e.item)) (left_free (outputs_of s.text) found behind e.output (first_of e.item))

  unnamed_free : (found : Found) (before behind : Bool) (e : EndpointTree) (u : UseTree) → is_free (unnamed_of s found before behind e u) ≡ (is_apart s u.class && true)
  unfolding unnamed_of
  unnamed_free found before behind e u =
      let left = leaving_out_of s found before behind e in
      let last = making_of s None u in
      free_both (using_of s u.class) (counting_of s u ++ (left ++ last)) (is_apart s u.class) true (using_free u.class)
      (free_two (counting_of s u) (left ++ last) (counting_free u) (free_two left last (leaving_free found before behind e) (making_free None u)))

  named_free : (earlier : List Declaration) (found : Found) (before behind : Bool) (e : EndpointTree) (t : Token) (u : UseTree)
      → is_free (named_of s earlier found before behind e t u) ≡ ((is_new earlier t && true) && (is_apart s u.class && true))
  unfolding named_of
  named_free earlier found before behind e t u =
      let left = leaving_out_of s found before behind e in
      let last = counting_of s u ++ making_of s (Some (word t)) u in
      free_both (naming_of s earlier t) (left ++ (using_of s u.class ++ last)) (is_new earlier t) (true && (is_apart s u.class && true)) (naming_free earlier t)
      (free_both left (using_of s u.class ++ last) true (is_apart s u.class && true) (leaving_free found before behind e)
      (free_both (using_of s u.class) last (is_apart s u.class) true (using_free u.class)
      (free_two (counting_of s u) (making_of s (Some (word t)) u) (counting_free u) (making_free (Some (word t)) u))))
      ∙ tidied (is_new earlier t) (is_apart s u.class)

  item_free : (earlier : List Declaration) (found : Found) (before behind : Bool) (e : EndpointTree) (i : ItemTree)
      → is_free (item_of_end s earlier found before behind e i) ≡ (are_fresh s earlier (declared_item s.classes i) && are_apart s (item_uses s i))
  unfolding item_of_end declared_item item_uses
  item_free earlier found before behind e (named t colons u) = named_free earlier found before behind e t u
  item_free earlier found before behind e (made t a) = unnamed_free found before behind e (record { class = t; arguments = Some a })
  item_free earlier found before behind e (alone t) = by (is_border s t) (name_meant s t)
    where
      by : (b : Bool) (o : Option Declaration)
          → is_free (cond (not b && not (is_some o)) (unnamed_of s found before behind e (bare_use t)) (leaving_out_of s found before behind e))
          ≡ (true && are_apart s (cond b [] (lone_use t o)))
      by true o = leaving_free found before behind e
      by false None = unnamed_free found before behind e (bare_use t)
      by false (Some d) = leaving_free found before behind e

  end_free : (earlier : List Declaration) (before behind : Bool) (e : EndpointTree)
      → is_free (actions_of_endpoint s earlier before behind e) ≡ (are_fresh s earlier (declared_item s.classes e.item) && are_apart s (item_uses s e.item))
  unfolding actions_of_endpoint whole_of
  end_free earlier before behind e =
      let found = item_class s e.item in
      let item = item_of_end s earlier found before behind e e.item in
      let last = written_of (outputs_of s.text) found e.output in
      let b = are_fresh s earlier (declared_item s.classes e.item) && are_apart s (item_uses s e.item) in
      free_both (written_of (inputs_of s.text) found e.input) (item ++ last) true (b && true) (written_free (inputs_of s.text) found e.input)
      (free_both item last b true (item_free earlier found before behind e e.item) (written_free (outputs_of s.text) found e.output))
      ∙ and-true b

  connecting_free : (arrow : ℕ) (a b : Option Side) → is_free (connecting_of arrow a b) ≡ true
  connecting_free arrow (Some a) (Some b) = refl
  connecting_free arrow (Some a) None = refl
  connecting_free arrow None b = refl

  -- what is declared behind some, and the classes that are named there
  both_free : (earlier xs ys : List Declaration) (us vs : List Token)
      → ((are_fresh s earlier xs && are_apart s us) && (are_fresh s (earlier ++ xs) ys && are_apart s vs)) ≡ (are_fresh s earlier (xs ++ ys) && are_apart s (us ++ vs))
  both_free earlier xs ys us vs =
      paired (are_fresh s earlier xs) (are_apart s us) (are_fresh s (earlier ++ xs) ys) (are_apart s vs)
      ∙ ap (λ b. b && (are_apart s us && are_apart s vs)) (sym (fresh_two s earlier xs ys))
      ∙ ap (λ b. are_fresh s earlier (xs ++ ys) && b) (sym (apart_append s us vs))

  next_free : (earlier : List Declaration) (e : EndpointTree) (more : List (Token × EndpointTree))
      → is_free (actions_of_next s earlier e more) ≡ (are_fresh s earlier (declared_next s.classes more) && are_apart s (next_uses s more))
  unfolding actions_of_next declared_next next_uses
  next_free earlier e [] = refl
  next_free earlier e (next ∷ more) =
      let item = declared_item s.classes next.1.item in
      let later = earlier ++ item in
      let connected = connecting_of next.0.from (side_left s e) (side_reached s next.1) in
      let first = are_fresh s earlier item && are_apart s (item_uses s next.1.item) in
      let last = are_fresh s later (declared_next s.classes more) && are_apart s (next_uses s more) in
      free_both (actions_of_endpoint s earlier true (has_next more) next.1) (connected ++ actions_of_next s later next.1 more) first last (end_free earlier true (has_next more) next.1)
      (free_both connected (actions_of_next s later next.1 more) true last (connecting_free next.0.from (side_left s e) (side_reached s next.1)) (next_free later next.1 more))
      ∙ both_free earlier item (declared_next s.classes more) (item_uses s next.1.item) (next_uses s more)

  names_free : (earlier : List Declaration) (u : UseTree) (more : List (Token × Token)) → is_free (names_of_group s earlier u more) ≡ are_fresh s earlier (declared_more s.classes u more)
  unfolding names_of_group declared_more
  names_free earlier u [] = refl
  names_free earlier u (next ∷ more) =
      let later = earlier ++ declaration s.classes u next.1 ∷ [] in
      free_both (naming_of s earlier next.1) (names_of_group s later u more) (is_new earlier next.1) (are_fresh s later (declared_more s.classes u more))
      (naming_free earlier next.1) (names_free later u more)

  group_free : (u : UseTree) (more : List (Token × Token)) → is_free (making_of_group s u more) ≡ true
  unfolding making_of_group
  group_free u [] = refl
  group_free u (next ∷ more) =
      free_two (counting_of s u) (making_of s (Some (word next.1)) u ++ making_of_group s u more) (counting_free u)
      (free_two (making_of s (Some (word next.1)) u) (making_of_group s u more) (making_free (Some (word next.1)) u) (group_free u more))

  room_at_free : (n : ℕ) (u : Use) (o : Found) → is_free (rooming_at n u o) ≡ true
  room_at_free n u None = refl
  room_at_free n u (Some x) = refl

  room_free : (u : UseTree) (more : List (Token × Token)) → is_free (rooming_of s u more) ≡ true
  unfolding rooming_of
  room_free u more = room_at_free (suc (length more)) (use_of u) (class_meant s u.class)

  pub statement_free : (earlier : List Declaration) (st : StatementTree)
      → is_free (actions_of_statement s earlier st) ≡ (are_fresh s earlier (declared_statement s.classes st) && are_apart s (statement_uses s st))
  unfolding actions_of_statement declared_statement statement_uses
  statement_free earlier (connect e more) =
      let item = declared_item s.classes e.item in
      let later = earlier ++ item in
      free_both (actions_of_endpoint s earlier false (has_next more) e) (actions_of_next s later e more)
      (are_fresh s earlier item && are_apart s (item_uses s e.item)) (are_fresh s later (declared_next s.classes more) && are_apart s (next_uses s more))
      (end_free earlier false (has_next more) e) (next_free later e more)
      ∙ both_free earlier item (declared_next s.classes more) (item_uses s e.item) (next_uses s more)
  statement_free earlier (declare first next more colons last) =
      let later = earlier ++ declaration s.classes last first ∷ [] in
      let names = names_of_group s later last (next ∷ more) in
      let uses = using_of s last.class in
      let room = rooming_of s last (next ∷ more) in
      let counts = counting_of s last in
      let created_first = making_of s (Some (word first)) last in
      let others = making_of_group s last (next ∷ more) in
      let new = is_new earlier first in
      let group = are_fresh s later (declared_more s.classes last (next ∷ more)) in
      let apart = is_apart s last.class && true in
      free_both (naming_of s earlier first) (names ++ (uses ++ (room ++ (counts ++ (created_first ++ others))))) new (group && apart) (naming_free earlier first)
      (free_both names (uses ++ (room ++ (counts ++ (created_first ++ others)))) group apart (names_free later last (next ∷ more))
      (free_both uses (room ++ (counts ++ (created_first ++ others))) (is_apart s last.class) true (using_free last.class)
      (free_two room (counts ++ (created_first ++ others)) (room_free last (next ∷ more))
      (free_two counts (created_first ++ others) (counting_free last)
      (free_two created_first others (making_free (Some (word first)) last) (group_free last (next ∷ more)))))))
      ∙ grouped new group apart

  pub body_free : (earlier : List Declaration) (us : List InnerTree)
      → is_free (actions_of_body s earlier us) ≡ (are_fresh s earlier (declared_body s.classes us) && are_apart s (body_uses s us))
  unfolding actions_of_body declared_body body_uses
  body_free earlier [] = refl
  body_free earlier (sign t ∷ us) = body_free earlier us
  body_free earlier (plain st ∷ us) =
      let here = declared_statement s.classes st in
      let later = earlier ++ here in
      free_both (actions_of_statement s earlier st) (actions_of_body s later us) (are_fresh s earlier here && are_apart s (statement_uses s st))
      (are_fresh s later (declared_body s.classes us) && are_apart s (body_uses s us)) (statement_free earlier st) (body_free later us)
      ∙ both_free earlier here (declared_body s.classes us) (statement_uses s st) (body_uses s us)

-- The names of the whole are at no fault.
unfoldable pub is_faultless : List ℕ → List Declaration → List ClassTree → List Declaration → List OuterTree → Bool
is_faultless text declared classes earlier [] = true
is_faultless text declared classes earlier (outer (sign t) ∷ us) = is_faultless text declared classes earlier us
is_faultless text declared classes earlier (outer (plain st) ∷ us) =
    is_free (actions_of_statement (record { text = text; declared = declared; classes = classes; own = None }) earlier st)
    && is_faultless text declared classes (earlier ++ declared_statement classes st) us
is_faultless text declared classes earlier (class c ∷ us) =
    is_free (class_naming text classes c) && (is_free (actions_of_body (body_sight text classes c) [] c.body) && is_faultless text declared (classes ++ c ∷ []) earlier us)

abbrev no_class : ClassTree → Bool
no_class c = false

abbrev no_name : Declaration → Bool
no_name d = false

abbrev is_right : List ℕ → List ClassTree → ClassTree → Bool
is_right text before c =
    are_fresh (body_sight text before c) [] (declared_body before c.body) && are_apart (body_sight text before c) (body_uses (body_sight text before c) c.body)

abbrev are_right : List ℕ → List ClassTree → List ClassTree → Bool
are_right text before [] = true
are_right text before (c ∷ cs) = is_right text before c && are_right text (before ++ c ∷ []) cs

apart_outside : (text : List ℕ) (declared : List Declaration) (classes : List ClassTree) (ts : List Token)
    → are_apart (record { text = text; declared = declared; classes = classes; own = None }) ts ≡ true
apart_outside text declared classes [] = refl
apart_outside text declared classes (t ∷ ts) = apart_outside text declared classes ts

fresh_outside : (text : List ℕ) (declared : List Declaration) (classes : List ClassTree) (earlier ds : List Declaration)
    → are_fresh (record { text = text; declared = declared; classes = classes; own = None }) earlier ds ≡ fresh (name_in text) no_name earlier ds
unfolding is_border
fresh_outside text declared classes earlier ds = refl

class_free : (text : List ℕ) (before : List ClassTree) (c : ClassTree) → is_free (class_naming text before c) ≡ not (false || has (class_name_in text) before (spelling text c.name))
unfolding class_naming
class_free text before c = by (is_some (class_under text before (spelling text c.name))) ∙ ap not (class_has text [] before (spelling text c.name))
  where
    by : (b : Bool) → is_free (cond b (actions.Name (wrong whys.Redeclared c.name.from) ∷ []) []) ≡ not b
    by true = refl
    by false = refl

one_more : (f r x y : Bool) → ((f && true) && (r && (x && y))) ≡ ((f && r) && (x && y))
one_more true r x y = refl
one_more false r x y = refl

class_more : (n r f x y : Bool) → (n && (r && (f && (x && y)))) ≡ (f && ((n && x) && (r && y)))
class_more false r false x y = refl
class_more false r true x y = refl
class_more true false false x y = refl
class_more true false true false y = refl
class_more true false true true y = refl
class_more true true f x y = refl

faultless_is : (text : List ℕ) (declared : List Declaration) (classes : List ClassTree) (earlier : List Declaration) (us : List OuterTree)
    → is_faultless text declared classes earlier us
    ≡ (fresh (name_in text) no_name earlier (declared_outside classes us) && (fresh (class_name_in text) no_class classes (classes_of us) && are_right text classes (classes_of us)))
unfolding is_faultless declared_outside classes_of
faultless_is text declared classes earlier [] = refl
faultless_is text declared classes earlier (outer (sign t) ∷ us) = faultless_is text declared classes earlier us
faultless_is text declared classes earlier (outer (plain st) ∷ us) =
    let s : Sight = record { text = text; declared = declared; classes = classes; own = None } in
    let here = declared_statement classes st in
    let later = earlier ++ here in
    let more = is_faultless text declared classes later us in
    let f = fresh (name_in text) no_name earlier here in
    let r = fresh (name_in text) no_name later (declared_outside classes us) in
    let x = fresh (class_name_in text) no_class classes (classes_of us) in
    let y = are_right text classes (classes_of us) in
    ap (λ b. b && more) (statement_free s earlier st ∙ ap (λ b. b && are_apart s (statement_uses s st)) (fresh_outside text declared classes earlier here)
    ∙ ap (λ b. f && b) (apart_outside text declared classes (statement_uses s st)))
    ∙ ap (λ b. (f && true) && b) (faultless_is text declared classes later us)
    ∙ one_more f r x y
    ∙ ap (λ b. b && (x && y)) (sym (fresh_append (name_in text) no_name earlier here (declared_outside classes us)))
faultless_is text declared classes earlier (class c ∷ us) =
    let n = not (false || has (class_name_in text) classes (spelling text c.name)) in
    let r = is_right text classes c in
    let next = classes ++ c ∷ [] in
    let more = is_faultless text declared next earlier us in
    let f = fresh (name_in text) no_name earlier (declared_outside next us) in
    let x = fresh (class_name_in text) no_class next (classes_of us) in
    let y = are_right text next (classes_of us) in
    ap (λ b. b && (is_free (actions_of_body (body_sight text classes c) [] c.body) && more)) (class_free text classes c)
    ∙ ap (λ b. n && (b && more)) (body_free (body_sight text classes c) [] c.body)
    ∙ ap (λ b. n && (r && b)) (faultless_is text declared next earlier us)
    ∙ class_more n r f x y

apart_if : (text : List ℕ) (before : List ClassTree) (c : ClassTree) (ts : List Token) → are_apart (body_sight text before c) ts ≡ true → AllByRecursion (λ t. IsOther text t c.name) ts
apart_if text before c [] h = tt
apart_if text before c (t ∷ ts) h =
    let split = and_true (is_apart (body_sight text before c) t) (are_apart (body_sight text before c) ts) h in
    let other : bytes_eq (spelling text c.name) (spelling text t) ≡ false = not_passed (bytes_eq (spelling text c.name) (spelling text t)) split.0 in
    ((λ same. let q : true ≡ false = sym ((bytes_eq-Decides (spelling text c.name) (spelling text t)).1 (sym same)) ∙ other in cc), apart_if text before c ts split.1)

if_apart : (text : List ℕ) (before : List ClassTree) (c : ClassTree) (ts : List Token) → AllByRecursion (λ t. IsOther text t c.name) ts → are_apart (body_sight text before c) ts ≡ true
if_apart text before c [] h = refl
if_apart text before c (t ∷ ts) h =
    let other : bytes_eq (spelling text c.name) (spelling text t) ≡ false = never (bytes_eq (spelling text c.name) (spelling text t)) (λ q. h.0 (sym ((bytes_eq-Decides (spelling text c.name) (spelling text t)).0 q))) in
    and_join (is_apart (body_sight text before c) t) (are_apart (body_sight text before c) ts) (ap not other) (if_apart text before c ts h.1)

right_if : (text : List ℕ) (before : List ClassTree) (c : ClassTree) → is_right text before c ≡ true → IsRightClass text before c
right_if text before c h =
    let s = body_sight text before c in
    let split = and_true (are_fresh s [] (declared_body before c.body)) (are_apart s (body_uses s c.body)) h in
    let names = fresh_once (name_in text) (is_wrong s) (declared_body before c.body) split.0 in
    record { once = names.0; inner = names.1; apart = apart_if text before c (body_uses s c.body) split.1 }

if_right : (text : List ℕ) (before : List ClassTree) (c : ClassTree) → IsRightClass text before c → is_right text before c ≡ true
if_right text before c h =
    let s = body_sight text before c in
    and_join (are_fresh s [] (declared_body before c.body)) (are_apart s (body_uses s c.body))
    (once_fresh (name_in text) (is_wrong s) (declared_body before c.body) h.once h.inner) (if_apart text before c (body_uses s c.body) h.apart)

all_right_if : (text : List ℕ) (before cs : List ClassTree) → are_right text before cs ≡ true → AreRightClasses text before cs
all_right_if text before [] h = tt
all_right_if text before (c ∷ cs) h =
    let split = and_true (is_right text before c) (are_right text (before ++ c ∷ []) cs) h in
    (right_if text before c split.0, all_right_if text (before ++ c ∷ []) cs split.1)

if_all_right : (text : List ℕ) (before cs : List ClassTree) → AreRightClasses text before cs → are_right text before cs ≡ true
if_all_right text before [] h = refl
if_all_right text before (c ∷ cs) h =
    and_join (is_right text before c) (are_right text (before ++ c ∷ []) cs) (if_right text before c h.0) (if_all_right text (before ++ c ∷ []) cs h.1)

none_wrong : {X : Type 0} (xs : List X) → AllByRecursion (λ (x : X). false ≡ true → ⊥) xs
none_wrong [] = tt
none_wrong (x ∷ xs) = ((λ (q : false ≡ true). let r : false ≡ true = q in cc), none_wrong xs)

-- what the names of a configuration keep
pub record HasRightNames (text : List ℕ) (tree : List OuterTree) : Type 0 where
  pub once : AreOnce text (declared_outside [] tree)
  pub classes_once : AreClassesOnce text (classes_of tree)
  pub classes : AreRightClasses text [] (classes_of tree)

pub right_names : (text : List ℕ) (tree : List OuterTree) → is_faultless text (declared_outside [] tree) [] [] tree ≡ true → HasRightNames text tree
right_names text tree h =
    let ds = declared_outside [] tree in
    let cs = classes_of tree in
    let a = fresh (name_in text) no_name [] ds in
    let b = fresh (class_name_in text) no_class [] cs in
    let c = are_right text [] cs in
    let first = and_true a (b && c) (sym (faultless_is text ds [] [] tree) ∙ h) in
    let second = and_true b c first.1 in
    record {
      once = (fresh_once (name_in text) no_name ds first.0).0;
      classes_once = (fresh_once (class_name_in text) no_class cs second.0).0;
      classes = all_right_if text [] cs second.1;
    }

pub names_right : (text : List ℕ) (tree : List OuterTree) → HasRightNames text tree → is_faultless text (declared_outside [] tree) [] [] tree ≡ true
names_right text tree h =
    let ds = declared_outside [] tree in
    let cs = classes_of tree in
    let a = fresh (name_in text) no_name [] ds in
    let b = fresh (class_name_in text) no_class [] cs in
    let c = are_right text [] cs in
    faultless_is text ds [] [] tree
    ∙ and_join a (b && c) (once_fresh (name_in text) no_name ds h.once (none_wrong ds))
    (and_join b c (once_fresh (class_name_in text) no_class cs h.classes_once (none_wrong cs)) (if_all_right text [] cs h.classes))
