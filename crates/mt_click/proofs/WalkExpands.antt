-- The walk over the actions of a configuration ends well exactly where the configuration expands, and
-- with the same.
use Rattle.std.proofs.Common.{◌≡◌, ℕ, ◌+◌, ◌<◌, ◌≤◌, List, [], ◌∷◌, ◌++◌, length, Option, Some, None, Ok, Err, Bool, true, false, cond, refl, sym, ap, subst, ◌∙◌, arith}
use Rattle.std.specs.Prelude.{◌&&◌, is_some}
use Rattle.std.specs.List.{prefix_len}
use Rattle.std.specs.Option.{option_and_then}
use Rattle.std.proofs.Math.Seq.{get_or-append_seam}
use Rattle.std.proofs.lemmas.List.{append_assoc, append-nil, length-append}
use Rattle.mt_syntax.specs.declared.fault.ClickWhy.TheVariants as whys
use Rattle.mt_syntax.specs.declared.replacing.Binding.{Binding}
use Rattle.mt_syntax.specs.Grammar.{sign, plain, ClassTree, OuterTree, outer, class, IsBody, IsConfig}
use Rattle.mt_click.specs.declared.action.Action.{Action}
use Rattle.mt_click.specs.declared.action.Action.TheVariants as actions
use Rattle.mt_click.specs.declared.perform.PendingUse.{PendingUse}
use Rattle.mt_click.specs.Actions.{wrong}
use Rattle.mt_click.specs.Declarations.{spelling, class_under, Declaration, declared_statement, declared_outside, classes_of, parameters_of}
use Rattle.mt_click.specs.Acts.{Sight, body_sight, Act, statement_acts, body_acts, outside_acts}
use Rattle.mt_click.specs.Elements.{Context, State, arguments_in, empty, top}
use Rattle.mt_click.specs.Walk.{Walked, walk, walk_all, walked, enter, bodies_in, body_of, bound, is_parameter_action}
use Rattle.mt_click.specs.Expands.{bindings_of, Expands}
use Rattle.mt_click.specs.Spread.{parameter_actions, class_naming, actions_of_statement, actions_of_body, actions_within, actions_of_outside, actions_of_tree}
use Rattle.mt_click.proofs.StepFolds.{over, over_append}
use Rattle.mt_click.proofs.ActSteps.{Within, does}
use Rattle.mt_click.proofs.ActionTries.{fine}
use Rattle.mt_click.proofs.ActionsMatchActs.{Knows, none_either, statement_ok, body_ok, statement_right, body_right, statement_alike, body_alike}
use Rattle.mt_click.proofs.ClassesStand.{Stands, IsFront, front_of, class_from_stands, stands_length, stands_more, outside_are}
use Rattle.mt_click.proofs.ActsBuild.{cond_passed, some_same, builds_if, makes_if, builds_once}
use Rattle.mt_click.proofs.PlainActions.{statement_plain, body_plain}
use Rattle.mt_click.proofs.BodyWalk.{walk_plain, walk_parameters, parameter_count, bound_to, bodies_behind, bodies_parameters, is_free, body_passed, parameters_passed, top_passed, later_on}
use Rattle.mt_click.proofs.NamesFaultless.{is_faultless, right_names, names_right}
use Rattle.mt_click.proofs.UseWalk.{enter_known}

none_of : (before : List ClassTree) (c : ClassTree) (after : List ClassTree) → [] ≡ before ++ c ∷ after → ⊥
none_of [] c after h = let q : [] ≡ c ∷ after = h in cc
none_of (x ∷ before) c after h = let q : [] ≡ x ∷ (before ++ c ∷ after) = h in cc

-- each class of a configuration is right
body_is_right : (us : List OuterTree) (before : List ClassTree) (c : ClassTree) (after : List ClassTree) → classes_of us ≡ before ++ c ∷ after → IsConfig us → IsBody c.body
unfolding classes_of
body_is_right [] before c after h config = absurd (none_of before c after h)
body_is_right (outer (sign t) ∷ us) before c after h config = body_is_right us before c after h config.1
body_is_right (outer (plain st) ∷ us) before c after h config = body_is_right us before c after h config.2
body_is_right (class d ∷ us) [] c after h config =
    let q : d ∷ classes_of us ≡ c ∷ after = h in
    let same : d ≡ c = cc in
    subst (λ (x : ClassTree). IsBody x.body) same config.0.4
body_is_right (class d ∷ us) (x ∷ before) c after h config =
    let q : d ∷ classes_of us ≡ x ∷ (before ++ c ∷ after) = h in
    let rest : classes_of us ≡ before ++ c ∷ after = cc in
    body_is_right us before c after rest config.1

-- what stands in a class, and behind it
within_behind : (text : List ℕ) (before : List ClassTree) (c : ClassTree) (rest : List Action)
    → actions_within text before c ++ rest ≡ parameter_actions (parameters_of c) ++ (actions_of_body (body_sight text before c) [] c.body ++ actions.Close ∷ rest)
unfolding actions_within
within_behind text before c rest =
    let parameters = parameter_actions (parameters_of c) in
    let body = actions_of_body (body_sight text before c) [] c.body in
    append_assoc parameters (body ++ actions.Close ∷ []) rest ∙ ap (λ l. parameters ++ l) (append_assoc body (actions.Close ∷ []) rest)

naming_behind : (text : List ℕ) (before : List ClassTree) (c : ClassTree) (rest : List Action) → bodies_in (class_naming text before c ++ rest) ≡ bodies_in rest
unfolding class_naming
naming_behind text before c rest = by (is_some (class_under text before (spelling text c.name)))
  where
    by : (b : Bool) → bodies_in (cond b (actions.Name (wrong whys.Redeclared c.name.from) ∷ []) [] ++ rest) ≡ bodies_in rest
    by true = refl
    by false = refl

class_behind : (text : List ℕ) (before : List ClassTree) (c : ClassTree) (rest : List Action)
    → bodies_in (class_naming text before c ++ (actions.Class ∷ (actions_within text before c ++ rest))) ≡ (actions_within text before c ++ rest) ∷ bodies_in rest
class_behind text before c rest =
    let body = actions_of_body (body_sight text before c) [] c.body in
    naming_behind text before c (actions.Class ∷ (actions_within text before c ++ rest))
    ∙ ap (λ l. (actions_within text before c ++ rest) ∷ l)
    (ap bodies_in (within_behind text before c rest) ∙ bodies_parameters (parameters_of c) (body ++ actions.Close ∷ rest)
    ∙ bodies_behind body (actions.Close ∷ rest) (body_plain (body_sight text before c) [] c.body))

-- a class's body is found by its number
abbrev pub HasBody : List ℕ → List (List Action) → ClassTree → List ClassTree → Type 0
HasBody text bodies c before = (rest : List Action) × (body_of bodies (length before) ≡ actions_within text before c ++ rest)

-- the actions of a class and those behind it
abbrev class_actions : List ℕ → List ClassTree → ClassTree → List Action → List Action
class_actions text before c rest = class_naming text before c ++ (actions.Class ∷ (actions_within text before c ++ rest))

first_body : (fore : List (List Action)) (body : List Action) (more : List (List Action)) (n : ℕ) → n ≡ length fore → body_of (fore ++ body ∷ more) n ≡ body
first_body fore body more n h = ap (body_of (fore ++ body ∷ more)) h ∙ get_or-append_seam fore body more []

body_here : (text : List ℕ) (classes offset : List ClassTree) (d c : ClassTree) (rest : List Action) (fore : List (List Action)) → length fore ≡ length classes → classes ≡ offset → d ≡ c
    → body_of (fore ++ bodies_in (class_actions text classes d rest)) (length offset) ≡ actions_within text offset c ++ rest
body_here text classes offset d c rest fore long here same =
    let body = actions_within text classes d ++ rest in
    let at : body_of (fore ++ bodies_in (class_actions text classes d rest)) (length offset) ≡ body =
    ap (λ l. body_of (fore ++ l) (length offset)) (class_behind text classes d rest) ∙ first_body fore body (bodies_in rest) (length offset) (sym (long ∙ ap length here)) in
    at ∙ ap (λ x. actions_within text x d ++ rest) here ∙ ap (λ x. actions_within text offset x ++ rest) same

body_later : (text : List ℕ) (classes : List ClassTree) (d : ClassTree) (rest : List Action) (fore : List (List Action)) (n : ℕ) (body : List Action)
    → body_of ((fore ++ (actions_within text classes d ++ rest) ∷ []) ++ bodies_in rest) n ≡ body
    → body_of (fore ++ bodies_in (class_actions text classes d rest)) n ≡ body
body_later text classes d rest fore n body h =
    ap (λ l. body_of (fore ++ l) n) (class_behind text classes d rest)
    ∙ ap (λ l. body_of l n) (sym (append_assoc fore ((actions_within text classes d ++ rest) ∷ []) (bodies_in rest))) ∙ h

body_at : (text : List ℕ) (declared : List Declaration) (us : List OuterTree) (classes : List ClassTree) (earlier : List Declaration) (fore : List (List Action)) → length fore ≡ length classes
    → (before : List ClassTree) (c : ClassTree) (after offset : List ClassTree) → classes_of us ≡ before ++ c ∷ after → offset ≡ classes ++ before
    → HasBody text (fore ++ bodies_in (actions_of_outside text declared classes earlier us)) c offset
unfolding classes_of actions_of_outside
body_at text declared [] classes earlier fore long before c after offset h at = absurd (none_of before c after h)
body_at text declared (outer (sign t) ∷ us) classes earlier fore long before c after offset h at = body_at text declared us classes earlier fore long before c after offset h at
body_at text declared (outer (plain st) ∷ us) classes earlier fore long before c after offset h at =
    let s : Sight = record { text = text; declared = declared; classes = classes; own = None } in
    let later = earlier ++ declared_statement classes st in
    let found = body_at text declared us classes later fore long before c after offset h at in
    (found.0, ap (λ l. body_of (fore ++ l) (length offset)) (bodies_behind (actions_of_statement s earlier st) (actions_of_outside text declared classes later us) (statement_plain s earlier st)) ∙ found.1)
body_at text declared (class d ∷ us) classes earlier fore long [] c after offset h at =
    let q : d ∷ classes_of us ≡ c ∷ after = h in
    let same : d ≡ c = cc in
    let rest = actions_of_outside text declared (classes ++ d ∷ []) earlier us in
    (rest, body_here text classes offset d c rest fore long (sym (at ∙ append-nil classes)) same)
body_at text declared (class d ∷ us) classes earlier fore long (x ∷ before) c after offset h at =
    let q : d ∷ classes_of us ≡ x ∷ (before ++ c ∷ after) = h in
    let same : d ≡ x = cc in
    let others : classes_of us ≡ before ++ c ∷ after = cc in
    let next = classes ++ d ∷ [] in
    let rest = actions_of_outside text declared next earlier us in
    let body = actions_within text classes d ++ rest in
    let long_more : length (fore ++ body ∷ []) ≡ length next = (let a = length-append fore (body ∷ []) in let b = length-append classes (d ∷ []) in omega (arith, a, b, long)) in
    let here : offset ≡ next ++ before = at ∙ ap (λ y. classes ++ y ∷ before) (sym same) ∙ sym (append_assoc classes (d ∷ []) before) in
    let found = body_at text declared us next earlier (fore ++ body ∷ []) long_more before c after offset others here in
    (found.0, body_later text classes d rest fore (length offset) (actions_within text offset c ++ found.0) found.1)

-- what the walk makes of a body
abbrev pub walked_within : List ℕ → List (List Action) → Within
walked_within text bodies c before p s = fine (walk text bodies (enter text bodies (length before)) p (body_of bodies (length before)) s)

connected_tests : (n b f : Bool) (x : Option State) → cond n (cond b (cond f x None) None) None ≡ cond (n && (b && f)) x None
connected_tests true true f x = refl
connected_tests true false f x = refl
connected_tests false b f x = refl

then_alike : (b c f k : Bool) (o : Option State) (go act : State → Option State) → ((m : State) → go m ≡ cond f (cond k (act m) None) None)
    → cond b (option_and_then go (cond c o None)) None ≡ cond (b && f) (cond (c && k) (option_and_then act o) None) None
then_alike false c f k o go act h = refl
then_alike true false f k o go act h = sym (none_either f None refl)
then_alike true true f k None go act h = sym (none_either f (cond k None None) (none_either k None refl))
then_alike true true f k (Some m) go act h = h m

-- ports that are written where no `->` is
unfoldable outside_ok : List ℕ → List Declaration → List ClassTree → List OuterTree → Bool
outside_ok text declared classes [] = true
outside_ok text declared classes (outer (sign t) ∷ us) = outside_ok text declared classes us
outside_ok text declared classes (outer (plain st) ∷ us) =
    statement_ok (record { text = text; declared = declared; classes = classes; own = None }) st && outside_ok text declared classes us
outside_ok text declared classes (class c ∷ us) = outside_ok text declared (classes ++ c ∷ []) us

outside_right : (text : List ℕ) (declared : List Declaration) (classes : List ClassTree) (us : List OuterTree) → IsConfig us → outside_ok text declared classes us ≡ true
unfolding outside_ok
outside_right text declared classes [] h = refl
outside_right text declared classes (outer (sign t) ∷ us) h = outside_right text declared classes us h.1
outside_right text declared classes (outer (plain st) ∷ us) h =
    let s : Sight = record { text = text; declared = declared; classes = classes; own = None } in
    ap (λ b. b && outside_ok text declared classes us) (statement_right s st h.0) ∙ outside_right text declared classes us h.2
outside_right text declared classes (class c ∷ us) h = outside_right text declared (classes ++ c ∷ []) us h.1

module _ (text : List ℕ) (bodies : List (List Action)) (all : List ClassTree)
    (bodied : (c : ClassTree) (before : List ClassTree) → Stands all c before → HasBody text bodies c before) where
  body_is : (c : ClassTree) (before : List ClassTree) (w : Stands all c before)
      → body_of bodies (length before) ≡ parameter_actions (parameters_of c) ++ (actions_of_body (body_sight text before c) [] c.body ++ actions.Close ∷ (bodied c before w).0)
  body_is c before w = let found = bodied c before w in found.1 ∙ within_behind text before c found.0

  knows : (n : ℕ) (classes : List ClassTree) → IsFront all classes → length classes ≤ n → Knows text bodies (enter text bodies n) (walked_within text bodies) classes
  knows n classes front few name x h =
      let c = x.0 in
      let before = x.1 in
      let w : Stands classes c before = class_from_stands text [] classes name x h in
      let less : length before < length classes = stands_length classes c before w in
      let stands : Stands all c before = stands_more all classes c before front w in
      let rest = (bodied c before stands).0 in
      let body = actions_of_body (body_sight text before c) [] c.body in
      let is_plain = body_plain (body_sight text before c) [] c.body in
      record {
        count = ap (prefix_len is_parameter_action) (body_is c before stands) ∙ parameter_count (parameters_of c) body rest is_plain;
        walk = λ p es new u.
            let arguments = arguments_in text p.bindings u in
            let e : PendingUse = record { class = length before; number = length es.elements; enclosing = length es.created + 1; arguments = arguments } in
            let bindings : bound text (body_of bodies (length before)) arguments ≡ bindings_of text (parameters_of c) arguments =
            ap (λ ms. bound text ms arguments) (body_is c before stands) ∙ bound_to text (parameters_of c) body rest arguments is_plain in
            ap fine (enter_known text bodies n p e new (omega (arith, less, few)))
            ∙ ap (λ (bs : List Binding). fine (walk text bodies (enter text bodies (length before)) (record { numbers = p.numbers ++ length es.elements ∷ []; bindings = bs; enclosing = length es.created + 1 }) (body_of bodies (length before)) new)) bindings;
      }

  unrolls : (c : ClassTree) (before : List ClassTree) → Stands all c before → (p : Context) (s : State)
      → walked_within text bodies c before p s ≡ cond (body_ok (body_sight text before c) c.body) (over (does text (walked_within text bodies) p) (body_acts (body_sight text before c) c.body) s) None
  unrolls c before stands p s =
      let inner = enter text bodies (length before) in
      let rest = (bodied c before stands).0 in
      let sight = body_sight text before c in
      let body = actions_of_body sight [] c.body in
      ap (λ ms. fine (walk text bodies inner p ms s)) (body_is c before stands)
      ∙ ap fine (walk_parameters text bodies inner p (parameters_of c) (body ++ actions.Close ∷ rest) s)
      ∙ walk_plain text bodies inner p body rest (body_plain sight [] c.body) s
      ∙ body_alike sight bodies inner (walked_within text bodies) p (knows (length before) before (front_of all c before stands) (omega arith)) [] c.body s

  class_named : (k : ℕ) (before : List ClassTree) (c : ClassTree) (rest : List Action) (es : State)
      → fine (walk_all text bodies k false (class_naming text before c ++ rest) es) ≡ cond (is_free (class_naming text before c)) (fine (walk_all text bodies k false rest es)) None
  unfolding class_naming walk_all
  class_named k before c rest es = by (is_some (class_under text before (spelling text c.name)))
    where
      by : (b : Bool) → fine (walk_all text bodies k false (cond b (actions.Name (wrong whys.Redeclared c.name.from) ∷ []) [] ++ rest) es)
          ≡ cond (is_free (cond b (actions.Name (wrong whys.Redeclared c.name.from) ∷ []) [])) (fine (walk_all text bodies k false rest es)) None
      by true = refl
      by false = refl

  class_passed : (k : ℕ) (before : List ClassTree) (c : ClassTree) (rest : List Action) (es : State)
      → fine (walk_all text bodies k false (actions.Class ∷ (actions_within text before c ++ rest)) es)
      ≡ cond (is_free (actions_of_body (body_sight text before c) [] c.body)) (fine (walk_all text bodies (k + 1) false rest es)) None
  unfolding walk_all
  class_passed k before c rest es =
      let sight = body_sight text before c in
      let body = actions_of_body sight [] c.body in
      ap (λ ms. fine (walk_all text bodies (k + 1) true ms es)) (within_behind text before c rest)
      ∙ ap fine (parameters_passed text bodies (k + 1) (parameters_of c) (body ++ actions.Close ∷ rest) es)
      ∙ body_passed text bodies (k + 1) body (actions.Close ∷ rest) (body_plain sight [] c.body) es

  outside_alike : (declared : List Declaration) (classes : List ClassTree) (earlier : List Declaration) (us : List OuterTree) (es : State) → all ≡ classes ++ classes_of us
      → fine (walk_all text bodies (length classes) false (actions_of_outside text declared classes earlier us) es)
      ≡ cond (is_faultless text declared classes earlier us)
      (cond (outside_ok text declared classes us) (over (does text (walked_within text bodies) top) (outside_acts text declared classes us) es) None) None
  unfolding classes_of actions_of_outside outside_acts is_faultless outside_ok walk_all
  outside_alike declared classes earlier [] es h = refl
  outside_alike declared classes earlier (outer (sign t) ∷ us) es h = outside_alike declared classes earlier us es h
  outside_alike declared classes earlier (outer (plain st) ∷ us) es h =
      let s : Sight = record { text = text; declared = declared; classes = classes; own = None } in
      let k = length classes in
      let later = earlier ++ declared_statement classes st in
      let ms = actions_of_statement s earlier st in
      let rest = actions_of_outside text declared classes later us in
      let act = does text (walked_within text bodies) top in
      let acts = outside_acts text declared classes us in
      let f = is_faultless text declared classes later us in
      let good = statement_ok s st in
      let others = outside_ok text declared classes us in
      top_passed text bodies k ms rest (statement_plain s earlier st) es
      ∙ ap (λ o. cond (is_free ms) (option_and_then (later_on text bodies k rest) o) None)
      (statement_alike s bodies (enter text bodies k) (walked_within text bodies) top (knows k classes (classes_of us, h) (omega arith)) earlier st es)
      ∙ then_alike (is_free ms) good f others (over act (statement_acts s st) es) (later_on text bodies k rest) (over act acts) (λ m. outside_alike declared classes later us m h)
      ∙ ap (λ o. cond (is_free ms && f) (cond (good && others) o None) None) (sym (over_append act (statement_acts s st) acts es))
  outside_alike declared classes earlier (class c ∷ us) es h =
      let k = length classes in
      let next = classes ++ c ∷ [] in
      let rest = actions_of_outside text declared next earlier us in
      let n = is_free (class_naming text classes c) in
      let b = is_free (actions_of_body (body_sight text classes c) [] c.body) in
      let f = is_faultless text declared next earlier us in
      let number : k + 1 ≡ length next = sym (length-append classes (c ∷ [])) in
      class_named k classes c (actions.Class ∷ (actions_within text classes c ++ rest)) es
      ∙ ap (λ o. cond n o None) (class_passed k classes c rest es
      ∙ ap (λ o. cond b o None) (ap (λ i. fine (walk_all text bodies i false rest es)) number
      ∙ outside_alike declared next earlier us es (h ∙ sym (append_assoc classes (c ∷ []) (classes_of us)))))
      ∙ connected_tests n b f (cond (outside_ok text declared next us) (over (does text (walked_within text bodies) top) (outside_acts text declared next us) es) None)

ok_of : (x : Walked) (s : State) → fine x ≡ Some s → x ≡ Ok s
ok_of (Ok m) s h = let same : m ≡ s = some_same m s h in ap Ok same
ok_of (Err f) s h = absurd (let q : None ≡ Some s = h in cc)

module _ (text : List ℕ) (tree : List OuterTree) where
  abbrev found : List (List Action)
  found = bodies_in (actions_of_tree text tree)

  abbrev acted : Context → Act → State → Option State
  acted p = does text (walked_within text found) p

  abbrev outer_acts : List Act
  outer_acts = outside_acts text (declared_outside [] tree) [] tree

  abbrev built : Option State
  built = over (acted top) outer_acts empty

  abbrev names_ok : Bool
  names_ok = is_faultless text (declared_outside [] tree) [] [] tree

  abbrev ports_ok : Bool
  ports_ok = outside_ok text (declared_outside [] tree) [] tree

  found_at : (c : ClassTree) (before : List ClassTree) → Stands (classes_of tree) c before → HasBody text found c before
  found_at c before w = body_at text (declared_outside [] tree) tree [] [] [] refl before c w.0 before w.1 refl

  leads : (c : ClassTree) (before : List ClassTree) → Stands (classes_of tree) c before → (p : Context) (s t : State)
      → walked_within text found c before p s ≡ Some t → over (acted p) (body_acts (body_sight text before c) c.body) s ≡ Some t
  leads c before w p s t h =
      (cond_passed (body_ok (body_sight text before c) c.body) (over (acted p) (body_acts (body_sight text before c) c.body) s) t
      (sym (unrolls text found (classes_of tree) found_at c before w p s) ∙ h)).1

  led : IsConfig tree → (c : ClassTree) (before : List ClassTree) → Stands (classes_of tree) c before → (p : Context) (s t : State)
      → over (acted p) (body_acts (body_sight text before c) c.body) s ≡ Some t → walked_within text found c before p s ≡ Some t
  led config c before w p s t h =
      unrolls text found (classes_of tree) found_at c before w p s
      ∙ ap (λ b. cond b (over (acted p) (body_acts (body_sight text before c) c.body) s) None)
      (body_right (body_sight text before c) c.body (body_is_right tree before c w.0 w.1 config))
      ∙ h

  whole_alike : fine (walked text (actions_of_tree text tree)) ≡ cond names_ok (cond ports_ok built None) None
  whole_alike = outside_alike text found (classes_of tree) found_at (declared_outside [] tree) [] [] tree empty refl

  -- what the walk ends with is what the configuration expands to
  pub walk_expands : (s : State) → walked text (actions_of_tree text tree) ≡ Ok s → Expands text tree s
  walk_expands s h =
      let passed = cond_passed names_ok (cond ports_ok built None) s (sym whole_alike ∙ ap fine h) in
      let created = cond_passed ports_ok built s passed.1 in
      let names = right_names text tree passed.0 in
      record {
        once = names.once;
        classes_once = names.classes_once;
        classes = names.classes;
        builds = builds_if text (classes_of tree) (walked_within text found) leads (length (classes_of tree)) top outer_acts empty s
            (outside_are (classes_of tree) text (declared_outside [] tree) [] tree refl) created.1;
      }

  -- and the walk ends with what the configuration expands to
  pub expands_walk : IsConfig tree → (s : State) → Expands text tree s → walked text (actions_of_tree text tree) ≡ Ok s
  expands_walk config s h =
      let created : built ≡ Some s =
      makes_if text (classes_of tree) (walked_within text found) (led config) (length (classes_of tree)) top empty outer_acts s h.builds
      (outside_are (classes_of tree) text (declared_outside [] tree) [] tree refl) in
      let names = names_right text tree (record { once = h.once; classes_once = h.classes_once; classes = h.classes }) in
      let ports = outside_right text (declared_outside [] tree) [] tree config in
      ok_of (walked text (actions_of_tree text tree)) s
      (whole_alike ∙ ap (λ b. cond b (cond ports_ok built None) None) names ∙ ap (λ b. cond b built None) ports ∙ created)

-- A configuration expands to one item only.
pub expands_once : (text : List ℕ) (tree : List OuterTree) (s t : State) → Expands text tree s → Expands text tree t → s ≡ t
expands_once text tree s t h k = builds_once text top empty (outside_acts text (declared_outside [] tree) [] tree) s t h.builds k.builds
