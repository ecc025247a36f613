-- The actions of statements begin no class, end none and are no parameters.
use Rattle.std.proofs.Common.{ℕ, suc, List, [], ◌∷◌, ◌++◌, length, Option, Some, None, Bool, true, false, cond}
use Rattle.std.specs.Prelude.{◌&&◌, ◌||◌, not, is_some}
use Rattle.std.specs.List.{AllByRecursion}
use Rattle.mt_syntax.specs.declared.fault.ClickWhy.TheVariants as whys
use Rattle.mt_syntax.specs.declared.word.Word.{Word}
use Rattle.mt_syntax.specs.declared.phrase.Use.{Use}
use Rattle.mt_syntax.specs.declared.token.Token.{Token}
use Rattle.mt_syntax.specs.Reading.{word}
use Rattle.mt_syntax.specs.Grammar.{UseTree, use_of, PortTree, ItemTree, alone, named, made, EndpointTree, StatementTree, connect, declare, InnerTree, sign, plain, ClassTree}
use Rattle.mt_click.specs.declared.action.Action.{Action}
use Rattle.mt_click.specs.declared.action.Action.TheVariants as actions
use Rattle.mt_click.specs.declared.action.Side.{Side}
use Rattle.mt_click.specs.Actions.{wrong}
use Rattle.mt_click.specs.Declarations.{spelling, Declaration, declared_under, declaration, declared_item, declared_statement, inputs_of, outputs_of}
use Rattle.mt_click.specs.Acts.{Sight, is_border, class_meant, name_meant, bare_use, item_class, side_left, side_reached, has_next}
use Rattle.mt_click.specs.Spread.{Found, naming_of, using_of, is_own_name, counting_at, counting_of, making_at, making_of, is_in, reaching_of, written_of, left_out_of, first_of, leaving_out_of, unnamed_of, named_of, item_of_end, whole_of, actions_of_endpoint, connecting_of, actions_of_next, names_of_group, making_of_group, rooming_at, rooming_of, actions_of_statement, actions_of_body}
use Rattle.mt_click.proofs.ClassesStand.{all_append}

abbrev pub IsPlain : Action → Type 0
IsPlain actions.Class = ⊥
IsPlain actions.Close = ⊥
IsPlain (actions.Parameter w) = ⊥
IsPlain _ = Unit {0}

abbrev pub ArePlain : List Action → Type 0
ArePlain ms = AllByRecursion IsPlain ms

both : (xs ys : List Action) → ArePlain xs → ArePlain ys → ArePlain (xs ++ ys)
both xs ys h k = all_append IsPlain xs ys h k

module _ (s : Sight) where
  pub naming_plain : (earlier : List Declaration) (t : Token) → ArePlain (naming_of s earlier t)
  unfolding naming_of
  naming_plain earlier t = by (is_border s t || is_some (declared_under s.text earlier (spelling s.text t)))
    where
      by : (b : Bool) → ArePlain (cond b (actions.Name (wrong whys.Redeclared t.from) ∷ []) [])
      by true = (tt, tt)
      by false = tt

  pub using_plain : (t : Token) → ArePlain (using_of s t)
  unfolding using_of
  using_plain t = by (is_own_name s.text (spelling s.text t) s.own)
    where
      by : (b : Bool) → ArePlain (cond b (actions.Name (wrong whys.Recursive t.from) ∷ []) [])
      by true = (tt, tt)
      by false = tt

  counting_at_plain : (u : Use) (o : Found) → ArePlain (counting_at u o)
  counting_at_plain u None = tt
  counting_at_plain u (Some x) = (tt, tt)

  counting_plain : (u : UseTree) → ArePlain (counting_of s u)
  unfolding counting_of
  counting_plain u = counting_at_plain (use_of u) (class_meant s u.class)

  making_at_plain : (name : Option Word) (u : Use) (o : Found) → ArePlain (making_at name u o ∷ [])
  making_at_plain name u None = (tt, tt)
  making_at_plain name u (Some x) = (tt, tt)

  making_plain : (name : Option Word) (u : UseTree) → ArePlain (making_of s name u)
  unfolding making_of
  making_plain name u = making_at_plain name (use_of u) (class_meant s u.class)

  reaching_plain : (ports : ClassTree → List ℕ) (found : Found) (n at : ℕ) → ArePlain (reaching_of ports found n at)
  unfolding reaching_of
  reaching_plain ports None n at = tt
  reaching_plain ports (Some x) n at = by (is_in n (ports x.0))
    where
      by : (b : Bool) → ArePlain (cond b [] (actions.MissingPort (wrong whys.NoPort at) ∷ []))
      by true = tt
      by false = (tt, tt)

  written_plain : (ports : ClassTree → List ℕ) (found : Found) (port : Option PortTree) → ArePlain (written_of ports found port)
  unfolding written_of
  written_plain ports found None = tt
  written_plain ports found (Some p) = reaching_plain ports found p.value p.left.from

  left_plain : (ports : ClassTree → List ℕ) (found : Found) (followed : Bool) (port : Option PortTree) (at : ℕ) → ArePlain (left_out_of ports found followed port at)
  unfolding left_out_of
  left_plain ports found followed port at = by (followed && not (is_some port))
    where
      by : (b : Bool) → ArePlain (cond b (reaching_of ports found 0 at) [])
      by true = reaching_plain ports found 0 at
      by false = tt

  leaving_plain : (found : Found) (before behind : Bool) (e : EndpointTree) → ArePlain (leaving_out_of s found before behind e)
  unfolding leaving_out_of
  leaving_plain found before behind e =
      both (left_out_of (inputs_of s.text) found before e.input (first_of e.item)) (left_out_of (outputs_of s.text) found behind e.output (first_of e.item))
      (left_plain (inputs_of s.text) found before e.input (first_of e.item)) (left_plain (outputs_of s.text) found behind e.output (first_of e.item))

  unnamed_plain : (found : Found) (before behind : Bool) (e : EndpointTree) (u : UseTree) → ArePlain (unnamed_of s found before behind e u)
  unfolding unnamed_of
  unnamed_plain found before behind e u =
      let left = leaving_out_of s found before behind e in
      let last = making_of s None u in
      both (using_of s u.class) (counting_of s u ++ (left ++ last)) (using_plain u.class)
      (both (counting_of s u) (left ++ last) (counting_plain u) (both left last (leaving_plain found before behind e) (making_plain None u)))

  named_plain : (earlier : List Declaration) (found : Found) (before behind : Bool) (e : EndpointTree) (t : Token) (u : UseTree) → ArePlain (named_of s earlier found before behind e t u)
  unfolding named_of
  named_plain earlier found before behind e t u =
      let left = leaving_out_of s found before behind e in
      let last = counting_of s u ++ making_of s (Some (word t)) u in
      both (naming_of s earlier t) (left ++ (using_of s u.class ++ last)) (naming_plain earlier t)
      (both left (using_of s u.class ++ last) (leaving_plain found before behind e)
      (both (using_of s u.class) last (using_plain u.class) (both (counting_of s u) (making_of s (Some (word t)) u) (counting_plain u) (making_plain (Some (word t)) u))))

  item_plain : (earlier : List Declaration) (found : Found) (before behind : Bool) (e : EndpointTree) (i : ItemTree) → ArePlain (item_of_end s earlier found before behind e i)
  unfolding item_of_end
  item_plain earlier found before behind e (named t colons u) = named_plain earlier found before behind e t u
  item_plain earlier found before behind e (made t a) = unnamed_plain found before behind e (record { class = t; arguments = Some a })
  item_plain earlier found before behind e (alone t) = by (not (is_border s t) && not (is_some (name_meant s t)))
    where
      by : (b : Bool) → ArePlain (cond b (unnamed_of s found before behind e (bare_use t)) (leaving_out_of s found before behind e))
      by true = unnamed_plain found before behind e (bare_use t)
      by false = leaving_plain found before behind e

  end_plain : (earlier : List Declaration) (before behind : Bool) (e : EndpointTree) → ArePlain (actions_of_endpoint s earlier before behind e)
  unfolding actions_of_endpoint whole_of
  end_plain earlier before behind e =
      let found = item_class s e.item in
      let item = item_of_end s earlier found before behind e e.item in
      let last = written_of (outputs_of s.text) found e.output in
      both (written_of (inputs_of s.text) found e.input) (item ++ last) (written_plain (inputs_of s.text) found e.input)
      (both item last (item_plain earlier found before behind e e.item) (written_plain (outputs_of s.text) found e.output))

  connecting_plain : (arrow : ℕ) (a b : Option Side) → ArePlain (connecting_of arrow a b)
  connecting_plain arrow (Some a) (Some b) = (tt, tt)
  connecting_plain arrow (Some a) None = tt
  connecting_plain arrow None b = tt

  next_plain : (earlier : List Declaration) (e : EndpointTree) (more : List (Token × EndpointTree)) → ArePlain (actions_of_next s earlier e more)
  unfolding actions_of_next
  next_plain earlier e [] = tt
  next_plain earlier e (next ∷ more) =
      let later = earlier ++ declared_item s.classes next.1.item in
      let connected = connecting_of next.0.from (side_left s e) (side_reached s next.1) in
      both (actions_of_endpoint s earlier true (has_next more) next.1) (connected ++ actions_of_next s later next.1 more) (end_plain earlier true (has_next more) next.1)
      (both connected (actions_of_next s later next.1 more) (connecting_plain next.0.from (side_left s e) (side_reached s next.1)) (next_plain later next.1 more))

  names_plain : (earlier : List Declaration) (u : UseTree) (more : List (Token × Token)) → ArePlain (names_of_group s earlier u more)
  unfolding names_of_group
  names_plain earlier u [] = tt
  names_plain earlier u (next ∷ more) =
      let later = earlier ++ declaration s.classes u next.1 ∷ [] in
      both (naming_of s earlier next.1) (names_of_group s later u more) (naming_plain earlier next.1) (names_plain later u more)

  group_plain : (u : UseTree) (more : List (Token × Token)) → ArePlain (making_of_group s u more)
  unfolding making_of_group
  group_plain u [] = tt
  group_plain u (next ∷ more) =
      both (counting_of s u) (making_of s (Some (word next.1)) u ++ making_of_group s u more) (counting_plain u)
      (both (making_of s (Some (word next.1)) u) (making_of_group s u more) (making_plain (Some (word next.1)) u) (group_plain u more))

  room_at_plain : (n : ℕ) (u : Use) (o : Found) → ArePlain (rooming_at n u o)
  room_at_plain n u None = (tt, tt)
  room_at_plain n u (Some x) = tt

  room_plain : (u : UseTree) (more : List (Token × Token)) → ArePlain (rooming_of s u more)
  unfolding rooming_of
  room_plain u more = room_at_plain (suc (length more)) (use_of u) (class_meant s u.class)

  pub statement_plain : (earlier : List Declaration) (st : StatementTree) → ArePlain (actions_of_statement s earlier st)
  unfolding actions_of_statement
  statement_plain earlier (connect e more) =
      let later = earlier ++ declared_item s.classes e.item in
      both (actions_of_endpoint s earlier false (has_next more) e) (actions_of_next s later e more) (end_plain earlier false (has_next more) e) (next_plain later e more)
  statement_plain earlier (declare first next more colons last) =
      let later = earlier ++ declaration s.classes last first ∷ [] in
      let names = names_of_group s later last (next ∷ more) in
      let uses = using_of s last.class in
      let room = rooming_of s last (next ∷ more) in
      let counts = counting_of s last in
      let created_first = making_of s (Some (word first)) last in
      let others = making_of_group s last (next ∷ more) in
      both (naming_of s earlier first) (names ++ (uses ++ (room ++ (counts ++ (created_first ++ others))))) (naming_plain earlier first)
      (both names (uses ++ (room ++ (counts ++ (created_first ++ others)))) (names_plain later last (next ∷ more))
      (both uses (room ++ (counts ++ (created_first ++ others))) (using_plain last.class)
      (both room (counts ++ (created_first ++ others)) (room_plain last (next ∷ more))
      (both counts (created_first ++ others) (counting_plain last)
      (both created_first others (making_plain (Some (word first)) last) (group_plain last (next ∷ more)))))))

  pub body_plain : (earlier : List Declaration) (us : List InnerTree) → ArePlain (actions_of_body s earlier us)
  unfolding actions_of_body
  body_plain earlier [] = tt
  body_plain earlier (sign t ∷ us) = body_plain earlier us
  body_plain earlier (plain st ∷ us) =
      let later = earlier ++ declared_statement s.classes st in
      both (actions_of_statement s earlier st) (actions_of_body s later us) (statement_plain earlier st) (body_plain later us)
