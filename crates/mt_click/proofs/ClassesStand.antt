-- The classes that acts use are classes of the configuration, and stand before.
use Rattle.std.proofs.Common.{◌≡◌, ℕ, ◌<◌, ◌≤◌, List, [], ◌∷◌, ◌++◌, length, Option, Some, None, Bool, true, false, cond, refl, sym, ap, ◌∙◌, arith}
use Rattle.std.specs.List.{AllByRecursion}
use Rattle.std.specs.Str.{bytes_eq}
use Rattle.std.proofs.lemmas.List.{append_assoc, length-append}
use Rattle.mt_syntax.specs.declared.word.Word.{Word}
use Rattle.mt_syntax.specs.declared.token.Token.{Token}
use Rattle.mt_click.specs.declared.action.Side.{Side}
use Rattle.mt_syntax.specs.Reading.{word}
use Rattle.mt_syntax.specs.Grammar.{UseTree, use_of, PortTree, ItemTree, alone, named, made, EndpointTree, StatementTree, connect, declare, InnerTree, sign, plain, ClassTree, OuterTree, outer, class}
use Rattle.mt_click.specs.Declarations.{spelling, class_from, class_under, Declaration, classes_of}
use Rattle.mt_click.specs.Acts.{Sight, is_border, class_meant, name_meant, bare_use, Act, element, expand, input, output, join, make, making_act, lone, item_acts, item_class, coming, leaving, end_acts, side_left, side_reached, connecting, has_next, next_acts, group_acts, statement_acts, body_acts, outside_acts}
use Rattle.mt_click.specs.Spread.{Found}

-- a class stands among some behind those before it
abbrev pub Stands : List ClassTree → ClassTree → List ClassTree → Type 0
Stands all c before = (after : List ClassTree) × (all ≡ before ++ c ∷ after)

-- classes stand in front of all
abbrev pub IsFront : List ClassTree → List ClassTree → Type 0
IsFront all classes = (rest : List ClassTree) × (all ≡ classes ++ rest)

pub class_from_stands : (text : List ℕ) (before cs : List ClassTree) (name : List ℕ) (x : ClassTree × List ClassTree) → class_from text before cs name ≡ Some x → Stands (before ++ cs) x.0 x.1
unfolding class_from
class_from_stands text before [] name x h = absurd (let q : None ≡ Some x = h in cc)
class_from_stands text before (c ∷ cs) name x h = by (bytes_eq (spelling text c.name) name) h (class_from_stands text (before ++ c ∷ []) cs name x)
  where
    by : (b : Bool) → cond b (Some (c, before)) (class_from text (before ++ c ∷ []) cs name) ≡ Some x
        → (class_from text (before ++ c ∷ []) cs name ≡ Some x → Stands ((before ++ c ∷ []) ++ cs) x.0 x.1) → Stands (before ++ c ∷ cs) x.0 x.1
    by true q later =
        let same : (c, before) ≡ x = cc in
        (cs, ap (λ (y : ClassTree × List ClassTree). y.1 ++ y.0 ∷ cs) same)
    by false q later = let w = later q in (w.0, sym (append_assoc before (c ∷ []) cs) ∙ w.1)

pub stands_length : (all : List ClassTree) (c : ClassTree) (before : List ClassTree) → Stands all c before → length before < length all
stands_length all c before w =
    let e : length all ≡ length (before ++ c ∷ w.0) = ap length w.1 in
    let f = length-append before (c ∷ w.0) in
    omega (arith, e, f)

pub stands_more : (all classes : List ClassTree) (c : ClassTree) (before : List ClassTree) → IsFront all classes → Stands classes c before → Stands all c before
stands_more all classes c before front w = (w.0 ++ front.0, front.1 ∙ ap (λ cs. cs ++ front.0) w.1 ∙ append_assoc before (c ∷ w.0) front.0)

pub front_of : (all : List ClassTree) (c : ClassTree) (before : List ClassTree) → Stands all c before → IsFront all before
front_of all c before w = (c ∷ w.0, w.1)

-- an act that uses a class of all, before which fewer than so many stand
abbrev pub IsAct : List ClassTree → ℕ → Act → Type 0
IsAct all most (expand c before name u) = Stands all c before × (length before < most)
IsAct all most (element name u) = Unit {0}
IsAct all most (input c k) = Unit {0}
IsAct all most (output c k) = Unit {0}
IsAct all most (join arrow from to) = Unit {0}

abbrev pub AreActs : List ClassTree → ℕ → List Act → Type 0
AreActs all most acts = AllByRecursion (IsAct all most) acts

pub all_append : {X : Type 0} (P : X → Type 0) (xs ys : List X) → AllByRecursion P xs → AllByRecursion P ys → AllByRecursion P (xs ++ ys)
all_append P [] ys h k = k
all_append P (x ∷ xs) ys h k = (h.0, all_append P xs ys h.1 k)

pub all_left : {X : Type 0} (P : X → Type 0) (xs ys : List X) → AllByRecursion P (xs ++ ys) → AllByRecursion P xs
all_left P [] ys h = tt
all_left P (x ∷ xs) ys h = (h.0, all_left P xs ys h.1)

module _ (all : List ClassTree) (most : ℕ) (s : Sight) (front : IsFront all s.classes) (few : length s.classes ≤ most) where
  make_is : (name : Option Word) (u : UseTree) → IsAct all most (make s name u)
  unfolding make class_meant
  make_is name u = by (class_under s.text s.classes (spelling s.text u.class)) refl
    where
      by : (o : Found) → class_under s.text s.classes (spelling s.text u.class) ≡ o → IsAct all most (making_act o name (use_of u))
      by None q = tt
      by (Some x) q =
          let w : Stands s.classes x.0 x.1 = class_from_stands s.text [] s.classes (spelling s.text u.class) x q in
          let less : length x.1 < length s.classes = stands_length s.classes x.0 x.1 w in
          (stands_more all s.classes x.0 x.1 front w, omega (arith, less, few))

  item_are : (i : ItemTree) → AreActs all most (item_acts s i)
  unfolding item_acts
  item_are (named t colons u) = (make_is (Some (word t)) u, tt)
  item_are (made t a) = (make_is None (record { class = t; arguments = Some a }), tt)
  item_are (alone t) = by (is_border s t) (name_meant s t)
    where
      by : (b : Bool) (o : Option Declaration) → AreActs all most (cond b [] (lone s t o))
      by true o = tt
      by false None = (make_is None (bare_use t), tt)
      by false (Some d) = tt

  coming_are : (followed : Bool) (found : Found) (port : Option PortTree) → AreActs all most (coming followed found port)
  coming_are true None port = tt
  coming_are true (Some x) port = (tt, tt)
  coming_are false found port = tt

  leaving_are : (followed : Bool) (found : Found) (port : Option PortTree) → AreActs all most (leaving followed found port)
  leaving_are true None port = tt
  leaving_are true (Some x) port = (tt, tt)
  leaving_are false found port = tt

  connecting_are : (arrow : ℕ) (a b : Option Side) → AreActs all most (connecting arrow a b)
  connecting_are arrow (Some a) (Some b) = (tt, tt)
  connecting_are arrow (Some a) None = tt
  connecting_are arrow None b = tt

  end_are : (before behind : Bool) (e : EndpointTree) → AreActs all most (end_acts s before behind e)
  unfolding end_acts
  end_are before behind e =
      let found = item_class s e.item in
      all_append (IsAct all most) (coming before found e.input) (item_acts s e.item ++ leaving behind found e.output) (coming_are before found e.input)
      (all_append (IsAct all most) (item_acts s e.item) (leaving behind found e.output) (item_are e.item) (leaving_are behind found e.output))

  next_are : (e : EndpointTree) (more : List (Token × EndpointTree)) → AreActs all most (next_acts s e more)
  unfolding next_acts
  next_are e [] = tt
  next_are e (next ∷ more) =
      let connected = connecting next.0.from (side_left s e) (side_reached s next.1) in
      all_append (IsAct all most) (end_acts s true (has_next more) next.1) (connected ++ next_acts s next.1 more) (end_are true (has_next more) next.1)
      (all_append (IsAct all most) connected (next_acts s next.1 more) (connecting_are next.0.from (side_left s e) (side_reached s next.1)) (next_are next.1 more))

  group_are : (u : UseTree) (more : List (Token × Token)) → AreActs all most (group_acts s u more)
  unfolding group_acts
  group_are u [] = tt
  group_are u (next ∷ more) = (make_is (Some (word next.1)) u, group_are u more)

  pub statement_are : (st : StatementTree) → AreActs all most (statement_acts s st)
  unfolding statement_acts
  statement_are (connect e more) = all_append (IsAct all most) (end_acts s false (has_next more) e) (next_acts s e more) (end_are false (has_next more) e) (next_are e more)
  statement_are (declare first next more colons last) = (make_is (Some (word first)) last, group_are last (next ∷ more))

  pub body_are : (us : List InnerTree) → AreActs all most (body_acts s us)
  unfolding body_acts
  body_are [] = tt
  body_are (sign t ∷ us) = body_are us
  body_are (plain st ∷ us) = all_append (IsAct all most) (statement_acts s st) (body_acts s us) (statement_are st) (body_are us)

-- outside classes: all that are still to come stand behind those that were there
pub outside_are : (all : List ClassTree) (text : List ℕ) (declared : List Declaration) (classes : List ClassTree) (us : List OuterTree) → all ≡ classes ++ classes_of us
    → AreActs all (length all) (outside_acts text declared classes us)
unfolding outside_acts classes_of
outside_are all text declared classes [] h = tt
outside_are all text declared classes (outer (sign t) ∷ us) h = outside_are all text declared classes us h
outside_are all text declared classes (outer (plain st) ∷ us) h =
    let s : Sight = record { text = text; declared = declared; classes = classes; own = None } in
    let e : length all ≡ length (classes ++ classes_of us) = ap length h in
    let f = length-append classes (classes_of us) in
    all_append (IsAct all (length all)) (statement_acts s st) (outside_acts text declared classes us)
    (statement_are all (length all) s (classes_of us, h) (omega (arith, e, f)) st) (outside_are all text declared classes us h)
outside_are all text declared classes (class c ∷ us) h =
    outside_are all text declared (classes ++ c ∷ []) us (h ∙ sym (append_assoc classes (c ∷ []) (classes_of us)))
