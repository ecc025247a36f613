-- The actions of a statement make what its acts make.
use Rattle.std.proofs.Common.{◌≡◌, ℕ, ◌+◌, ◌<◌, ◌≤◌, List, [], ◌∷◌, ◌++◌, length, nat_le, nat_lt, Option, Some, None, Bool, true, false, cond, refl, sym, ap, ◌∙◌, arith}
use Rattle.std.specs.Prelude.{◌==◌, ◌&&◌, ◌||◌, not, is_some}
use Rattle.std.proofs.Math.Bool.{and-true}
use Rattle.std.proofs.lemmas.Bool.Decides.{nat_tests}
use Rattle.std.proofs.lemmas.List.{length-append}
use Rattle.std.specs.Option.{option_and_then}
use Rattle.mt_syntax.specs.declared.fault.ClickWhy.TheVariants as whys
use Rattle.mt_syntax.specs.declared.word.Word.{Word}
use Rattle.mt_syntax.specs.declared.phrase.Use.{Use}
use Rattle.mt_syntax.specs.declared.token.Token.{Token}
use Rattle.mt_syntax.specs.Reading.{word}
use Rattle.mt_syntax.specs.Grammar.{UseTree, use_of, PortTree, ItemTree, alone, named, made, EndpointTree, StatementTree, connect, declare, InnerTree, sign, plain, ClassTree, AreEndpoints, IsStatement, IsBody}
use Rattle.mt_click.specs.declared.action.Action.{Action}
use Rattle.mt_click.specs.declared.action.Action.TheVariants as actions
use Rattle.mt_click.specs.declared.action.Side.{Side}
use Rattle.mt_click.specs.Actions.{wrong}
use Rattle.mt_click.specs.Declarations.{spelling, class_under, Declaration, declared_under, declaration, declared_item, declared_statement, parameters_of, port_value, inputs_of, outputs_of}
use Rattle.mt_click.specs.Acts.{Sight, is_border, class_meant, name_meant, bare_use, Act, element, expand, input, output, join, make, making_act, lone, item_acts, item_class, coming, leaving, end_acts, side_left, side_reached, connecting, has_next, next_acts, group_acts, statement_acts, body_acts}
use Rattle.mt_click.specs.Elements.{Context, State, arguments_in, own_offset, with_use, with_element, element_of}
use Rattle.mt_click.specs.Walk.{parameters}
use Rattle.mt_click.specs.Expands.{context_inside}
use Rattle.mt_click.specs.Spread.{Found, naming_of, using_of, is_own_name, counting_at, counting_of, making_at, making_of, is_in, reaching_of, written_of, left_out_of, first_of, leaving_out_of, unnamed_of, named_of, item_of_end, whole_of, actions_of_endpoint, connecting_of, actions_of_next, names_of_group, making_of_group, rooming_at, rooming_of, actions_of_statement, actions_of_body}
use Rattle.mt_click.proofs.StepFolds.{over, over_one, Guards, guards_both, guarded, guarded_behind, Alike, alike_three, alike_behind, AlikeWhere, alike_where_append}
use Rattle.mt_click.proofs.ActSteps.{Within, is_known, has_all, does}
use Rattle.mt_click.proofs.ActionTries.{fine, Inner, tries, tries_name, tries_port, tries_connect, tries_count, tries_room, tries_element, tries_enter}

-- the class of a name has so many parameters, and its use makes what its body does
pub record KnowsOne (text : List ℕ) (bodies : List (List Action)) (enter : Inner) (within : Within) (c : ClassTree) (before : List ClassTree) : Type 0 where
  pub count : parameters bodies (length before) ≡ length (parameters_of c)
  pub walk : (p : Context) (es new : State) (u : Use)
      → fine (enter p (record { class = length before; number = length es.elements; enclosing = length es.created + 1; arguments = arguments_in text p.bindings u }) new) ≡ within c before (context_inside text p es c u) new

abbrev pub Knows : List ℕ → List (List Action) → Inner → Within → List ClassTree → Type 0
Knows text bodies enter within classes = (name : List ℕ) (x : ClassTree × List ClassTree) → class_under text classes name ≡ Some x → KnowsOne text bodies enter within x.0 x.1

-- a port at which a connection comes or leaves
abbrev pub allowed : (ClassTree → List ℕ) → Found → ℕ → Bool
allowed ports None n = true
allowed ports (Some x) n = is_in n (ports x.0)

abbrev written_ok : (ClassTree → List ℕ) → Found → Option PortTree → Bool
written_ok ports found None = true
written_ok ports found (Some p) = allowed ports found p.value

abbrev left_ok : (ClassTree → List ℕ) → Found → Bool → Option PortTree → Bool
left_ok ports found followed port = cond (followed && not (is_some port)) (allowed ports found 0) true

abbrev arrow_ok : (ClassTree → List ℕ) → Found → Bool → Option PortTree → Bool
arrow_ok ports found followed port = cond followed (allowed ports found (port_value port)) true

-- a port that is written where no `->` is
abbrev spare_ok : (ClassTree → List ℕ) → Found → Bool → Option PortTree → Bool
spare_ok ports found followed port = cond followed true (written_ok ports found port)

coming_ok : (ports : ClassTree → List ℕ) (found : Found) (followed : Bool) (port : Option PortTree)
    → (written_ok ports found port && left_ok ports found followed port) ≡ (spare_ok ports found followed port && arrow_ok ports found followed port)
coming_ok ports found true None = refl
coming_ok ports found true (Some p) = and-true (allowed ports found p.value)
coming_ok ports found false None = refl
coming_ok ports found false (Some p) = refl

leaving_ok : (ports : ClassTree → List ℕ) (found : Found) (followed : Bool) (port : Option PortTree)
    → (left_ok ports found followed port && written_ok ports found port) ≡ (spare_ok ports found followed port && arrow_ok ports found followed port)
leaving_ok ports found true None = and-true (allowed ports found 0)
leaving_ok ports found true (Some p) = refl
leaving_ok ports found false None = refl
leaving_ok ports found false (Some p) = sym (and-true (allowed ports found p.value))

-- tests that change nothing stand in any order
pub settled : (a b c d : Bool) (x : Option State) → cond a (cond d (cond (b && c) x None) None) None ≡ cond (a && b) (cond (c && d) x None) None
settled false b c d x = refl
settled true false c true x = refl
settled true false c false x = refl
settled true true false true x = refl
settled true true false false x = refl
settled true true true d x = refl

swapped : (a b : Bool) (x : Option State) → cond a (cond b x None) None ≡ cond b (cond a x None) None
swapped true true x = refl
swapped true false x = refl
swapped false true x = refl
swapped false false x = refl

parted : (a b c d : Bool) (x : Option State) → cond (a && b) (cond (c && d) x None) None ≡ cond (a && c) (cond b (cond d x None) None) None
parted false b c d x = refl
parted true false true d x = refl
parted true false false d x = refl
parted true true true d x = refl
parted true true false d x = refl

-- The ports that are written where no `->` is: their classes name them too. In a configuration there are none.
abbrev pub end_ok : Sight → Bool → Bool → EndpointTree → Bool
end_ok s before behind e = spare_ok (inputs_of s.text) (item_class s e.item) before e.input && spare_ok (outputs_of s.text) (item_class s e.item) behind e.output

abbrev pub next_ok : Sight → List (Token × EndpointTree) → Bool
next_ok s [] = true
next_ok s (next ∷ more) = end_ok s true (has_next more) next.1 && next_ok s more

abbrev pub statement_ok : Sight → StatementTree → Bool
statement_ok s (connect e more) = end_ok s false (has_next more) e && next_ok s more
statement_ok s (declare first next more colons last) = true

abbrev pub body_ok : Sight → List InnerTree → Bool
body_ok s [] = true
body_ok s (sign t ∷ us) = body_ok s us
body_ok s (plain st ∷ us) = statement_ok s st && body_ok s us

none_written : (ports : ClassTree → List ℕ) (found : Found) (port : Option PortTree) → port ≡ None → written_ok ports found port ≡ true
none_written ports found None h = refl
none_written ports found (Some p) h = absurd (let q : Some p ≡ None = h in cc)

last_ok : (ports : ClassTree → List ℕ) (found : Found) (e : EndpointTree) (more : List (Token × EndpointTree)) → AreEndpoints e more → spare_ok ports found (has_next more) e.output ≡ true
last_ok ports found e [] h = none_written ports found e.output h.1
last_ok ports found e (next ∷ more) h = refl

next_right : (s : Sight) (e : EndpointTree) (more : List (Token × EndpointTree)) → AreEndpoints e more → next_ok s more ≡ true
next_right s e [] h = refl
next_right s e (next ∷ more) h =
    ap (λ b. b && next_ok s more) (last_ok (outputs_of s.text) (item_class s next.1.item) next.1 more h.2) ∙ next_right s next.1 more h.2

pub statement_right : (s : Sight) (st : StatementTree) → IsStatement st → statement_ok s st ≡ true
statement_right s (connect e more) h =
    ap (λ b. (b && spare_ok (outputs_of s.text) (item_class s e.item) (has_next more) e.output) && next_ok s more) (none_written (inputs_of s.text) (item_class s e.item) e.input h.0)
    ∙ ap (λ b. b && next_ok s more) (last_ok (outputs_of s.text) (item_class s e.item) e more h.1) ∙ next_right s e more h.1
statement_right s (declare first next more colons last) h = refl

pub body_right : (s : Sight) (us : List InnerTree) → IsBody us → body_ok s us ≡ true
body_right s [] h = refl
body_right s (sign t ∷ us) h = body_right s us h.1
body_right s (plain st ∷ us) h = ap (λ b. b && body_ok s us) (statement_right s st h.0) ∙ body_right s us h.2

module _ (s : Sight) (bodies : List (List Action)) (enter : Inner) (within : Within) (p : Context) where
  abbrev going : Action → State → Option State
  going = tries s.text bodies enter p

  abbrev doing : Act → State → Option State
  doing = does s.text within p

  naming_guards : (earlier : List Declaration) (t : Token) → Guards going (naming_of s earlier t) true
  unfolding naming_of
  naming_guards earlier t es = by (is_border s t || is_some (declared_under s.text earlier (spelling s.text t)))
    where
      by : (b : Bool) → over going (cond b (actions.Name (wrong whys.Redeclared t.from) ∷ []) []) es ≡ Some es
      by true = over_one going (actions.Name (wrong whys.Redeclared t.from)) es ∙ tries_name s.text bodies enter p es (wrong whys.Redeclared t.from)
      by false = refl

  using_guards : (t : Token) → Guards going (using_of s t) true
  unfolding using_of
  using_guards t es = by (is_own_name s.text (spelling s.text t) s.own)
    where
      by : (b : Bool) → over going (cond b (actions.Name (wrong whys.Recursive t.from) ∷ []) []) es ≡ Some es
      by true = over_one going (actions.Name (wrong whys.Recursive t.from)) es ∙ tries_name s.text bodies enter p es (wrong whys.Recursive t.from)
      by false = refl

  reaching_guards : (ports : ClassTree → List ℕ) (found : Found) (n at : ℕ) → Guards going (reaching_of ports found n at) (allowed ports found n)
  unfolding reaching_of
  reaching_guards ports None n at es = refl
  reaching_guards ports (Some x) n at es = by (is_in n (ports x.0))
    where
      by : (b : Bool) → over going (cond b [] (actions.MissingPort (wrong whys.NoPort at) ∷ [])) es ≡ cond b (Some es) None
      by true = refl
      by false = over_one going (actions.MissingPort (wrong whys.NoPort at)) es ∙ tries_port s.text bodies enter p es (wrong whys.NoPort at)

  written_guards : (ports : ClassTree → List ℕ) (found : Found) (port : Option PortTree) → Guards going (written_of ports found port) (written_ok ports found port)
  unfolding written_of
  written_guards ports found None es = refl
  written_guards ports found (Some port) es = reaching_guards ports found port.value port.left.from es

  left_guards : (ports : ClassTree → List ℕ) (found : Found) (followed : Bool) (port : Option PortTree) (at : ℕ) → Guards going (left_out_of ports found followed port at) (left_ok ports found followed port)
  unfolding left_out_of
  left_guards ports found followed port at es = by (followed && not (is_some port))
    where
      by : (b : Bool) → over going (cond b (reaching_of ports found 0 at) []) es ≡ cond (cond b (allowed ports found 0) true) (Some es) None
      by true = reaching_guards ports found 0 at es
      by false = refl

  abbrev sides_ok : Found → Bool → Bool → EndpointTree → Bool
  sides_ok found before behind e = left_ok (inputs_of s.text) found before e.input && left_ok (outputs_of s.text) found behind e.output

  leaving_guards : (found : Found) (before behind : Bool) (e : EndpointTree) → Guards going (leaving_out_of s found before behind e) (sides_ok found before behind e)
  unfolding leaving_out_of
  leaving_guards found before behind e =
      guards_both going (left_out_of (inputs_of s.text) found before e.input (first_of e.item)) (left_out_of (outputs_of s.text) found behind e.output (first_of e.item))
      (left_ok (inputs_of s.text) found before e.input) (left_ok (outputs_of s.text) found behind e.output)
      (left_guards (inputs_of s.text) found before e.input (first_of e.item)) (left_guards (outputs_of s.text) found behind e.output (first_of e.item))

  coming_guards : (followed : Bool) (found : Found) (port : Option PortTree) → Guards doing (coming followed found port) (arrow_ok (inputs_of s.text) found followed port)
  unfolding does
  coming_guards true None port es = refl
  coming_guards true (Some x) port es = over_one doing (input x.0 (port_value port)) es
  coming_guards false found port es = refl

  outgoing_guards : (followed : Bool) (found : Found) (port : Option PortTree) → Guards doing (leaving followed found port) (arrow_ok (outputs_of s.text) found followed port)
  unfolding does
  outgoing_guards true None port es = refl
  outgoing_guards true (Some x) port es = over_one doing (output x.0 (port_value port)) es
  outgoing_guards false found port es = refl

  connecting_alike : (arrow : ℕ) (a b : Option Side) → Alike going doing (connecting_of arrow a b) (connecting arrow a b)
  unfolding does
  connecting_alike arrow (Some a) (Some b) es =
      over_one going (actions.Connect arrow a b) es ∙ tries_connect s.text bodies enter p es arrow a b ∙ sym (over_one doing (join arrow a b) es)
  connecting_alike arrow (Some a) None es = refl
  connecting_alike arrow None b es = refl

  abbrev MayKnow : Found → Type 0
  MayKnow None = Unit {0}
  MayKnow (Some x) = KnowsOne s.text bodies enter within x.0 x.1

  abbrev count_ok : Use → Found → Bool
  count_ok u None = true
  count_ok u (Some x) = has_all s.text p.bindings x.0 u

  counting_guards : (u : Use) (o : Found) → MayKnow o → Guards going (counting_at u o) (count_ok u o)
  counting_guards u None h es = refl
  counting_guards u (Some x) h es =
      over_one going (actions.Count (length x.1) u) es ∙ tries_count s.text bodies enter p es (length x.1) u
      ∙ ap (λ n. cond (length (arguments_in s.text p.bindings u) == n) (Some es) None) h.count

  -- a use makes what it makes, behind the test of its arguments
  counted_alike : (name : Option Word) (u : Use) (o : Found) → MayKnow o → Alike going doing (counting_at u o ++ making_at name u o ∷ []) (making_act o name u ∷ [])
  unfolding does
  counted_alike name u None h es =
      over_one going (actions.Element name u) es ∙ tries_element s.text bodies enter p es name u ∙ sym (over_one doing (element name u) es)
  counted_alike name u (Some x) h es =
      let k = length x.1 in
      let enters = actions.Enter k u (own_offset name u) in
      guarded going (actions.Count k u ∷ []) (enters ∷ []) (has_all s.text p.bindings x.0 u) (counting_guards u (Some x) h) es
      ∙ ap (λ o. cond (has_all s.text p.bindings x.0 u) o None)
      (over_one going enters es ∙ tries_enter s.text bodies enter p es k u (own_offset name u)
      ∙ ap (λ o. cond (is_known s.text p.bindings u) o None) (h.walk p es (with_use p es (own_offset name u)) u))
      ∙ sym (over_one doing (expand x.0 x.1 name u) es)

-- the acts of one step more
one_element : (text : List ℕ) (within : Within) (p : Context) (name : Option Word) (u : Use) (acts : List Act) (es : State)
    → over (does text within p) (element name u ∷ acts) es
    ≡ cond (nat_lt (length es.elements) 512) (cond (is_known text p.bindings u) (over (does text within p) acts (with_element text p es name u)) None) None
unfolding does
one_element text within p name u acts es = by (nat_lt (length es.elements) 512) (is_known text p.bindings u)
  where
    by : (b k : Bool) → option_and_then (over (does text within p) acts) (cond b (cond k (Some (with_element text p es name u)) None) None)
        ≡ cond b (cond k (over (does text within p) acts (with_element text p es name u)) None) None
    by true true = refl
    by true false = refl
    by false k = refl

pub none_either : (k : Bool) (o : Option State) → o ≡ None → cond k o None ≡ None
none_either true o h = h
none_either false o h = refl

module _ (s : Sight) (bodies : List (List Action)) (enter : Inner) (within : Within) (p : Context) (knows : Knows s.text bodies enter within s.classes) where
  abbrev walking : Action → State → Option State
  walking = tries s.text bodies enter p

  abbrev acting : Act → State → Option State
  acting = does s.text within p

  may_know : (t : Token) → MayKnow s bodies enter within p (class_meant s t)
  unfolding class_meant
  may_know t = by (class_under s.text s.classes (spelling s.text t)) refl
    where
      by : (o : Found) → class_under s.text s.classes (spelling s.text t) ≡ o → MayKnow s bodies enter within p o
      by None q = tt
      by (Some x) q = knows (spelling s.text t) x q

  created_alike : (name : Option Word) (u : UseTree) → Alike walking acting (counting_of s u ++ making_of s name u) (make s name u ∷ [])
  unfolding counting_of making_of make
  created_alike name u = counted_alike s bodies enter within p name (use_of u) (class_meant s u.class) (may_know u.class)

  counts : (u : UseTree) → Guards walking (counting_of s u) (count_ok s bodies enter within p (use_of u) (class_meant s u.class))
  unfolding counting_of
  counts u = counting_guards s bodies enter within p (use_of u) (class_meant s u.class) (may_know u.class)

  abbrev both_ok : Found → Bool → Bool → EndpointTree → Bool
  both_ok found before behind e = sides_ok s bodies enter within p found before behind e

  unnamed_alike : (found : Found) (before behind : Bool) (e : EndpointTree) (u : UseTree) (es : State)
      → over walking (unnamed_of s found before behind e u) es ≡ cond (both_ok found before behind e) (over acting (make s None u ∷ []) es) None
  unfolding unnamed_of
  unnamed_alike found before behind e u es =
      let l = both_ok found before behind e in
      let c = count_ok s bodies enter within p (use_of u) (class_meant s u.class) in
      let left = leaving_out_of s found before behind e in
      let last = making_of s None u in
      guarded walking (using_of s u.class) (counting_of s u ++ (left ++ last)) true (using_guards s bodies enter within p u.class) es
      ∙ guarded walking (counting_of s u) (left ++ last) c (counts u) es
      ∙ ap (λ o. cond c o None) (guarded walking left last l (leaving_guards s bodies enter within p found before behind e) es)
      ∙ swapped c l (over walking last es)
      ∙ ap (λ o. cond l o None) (sym (guarded walking (counting_of s u) last c (counts u) es) ∙ created_alike None u es)

  named_alike : (earlier : List Declaration) (found : Found) (before behind : Bool) (e : EndpointTree) (t : Token) (u : UseTree) (es : State)
      → over walking (named_of s earlier found before behind e t u) es ≡ cond (both_ok found before behind e) (over acting (make s (Some (word t)) u ∷ []) es) None
  unfolding named_of
  named_alike earlier found before behind e t u es =
      let l = both_ok found before behind e in
      let left = leaving_out_of s found before behind e in
      let last = counting_of s u ++ making_of s (Some (word t)) u in
      guarded walking (naming_of s earlier t) (left ++ (using_of s u.class ++ last)) true (naming_guards s bodies enter within p earlier t) es
      ∙ guarded walking left (using_of s u.class ++ last) l (leaving_guards s bodies enter within p found before behind e) es
      ∙ ap (λ o. cond l o None) (guarded walking (using_of s u.class) last true (using_guards s bodies enter within p u.class) es ∙ created_alike (Some (word t)) u es)

  item_alike : (earlier : List Declaration) (found : Found) (before behind : Bool) (e : EndpointTree) (i : ItemTree) (es : State)
      → over walking (item_of_end s earlier found before behind e i) es ≡ cond (both_ok found before behind e) (over acting (item_acts s i) es) None
  unfolding item_of_end item_acts
  item_alike earlier found before behind e (named t colons u) es = named_alike earlier found before behind e t u es
  item_alike earlier found before behind e (made t a) es = unnamed_alike found before behind e (record { class = t; arguments = Some a }) es
  item_alike earlier found before behind e (alone t) es = by (is_border s t) (name_meant s t)
    where
      by : (b : Bool) (o : Option Declaration)
          → over walking (cond (not b && not (is_some o)) (unnamed_of s found before behind e (bare_use t)) (leaving_out_of s found before behind e)) es
          ≡ cond (both_ok found before behind e) (over acting (cond b [] (lone s t o)) es) None
      by true o = leaving_guards s bodies enter within p found before behind e es
      by false None = unnamed_alike found before behind e (bare_use t) es
      by false (Some d) = leaving_guards s bodies enter within p found before behind e es

  end_alike : (earlier : List Declaration) (before behind : Bool) (e : EndpointTree)
      → AlikeWhere (end_ok s before behind e) walking acting (actions_of_endpoint s earlier before behind e) (end_acts s before behind e)
  unfolding actions_of_endpoint whole_of end_acts
  end_alike earlier before behind e es =
      let found = item_class s e.item in
      let ins = inputs_of s.text in
      let outs = outputs_of s.text in
      let a = written_ok ins found e.input in
      let b = left_ok ins found before e.input in
      let c = left_ok outs found behind e.output in
      let d = written_ok outs found e.output in
      let comes_ok = arrow_ok ins found before e.input in
      let leaves_ok = arrow_ok outs found behind e.output in
      let item = item_of_end s earlier found before behind e e.item in
      let acts = item_acts s e.item in
      let x = over acting acts es in
      guarded walking (written_of ins found e.input) (item ++ written_of outs found e.output) a (written_guards s bodies enter within p ins found e.input) es
      ∙ ap (λ o. cond a o None) (guarded_behind walking item (written_of outs found e.output) d (written_guards s bodies enter within p outs found e.output) es
      ∙ ap (λ o. cond d o None) (item_alike earlier found before behind e e.item es))
      ∙ settled a b c d x
      ∙ ap (λ q. cond q (cond (c && d) x None) None) (coming_ok ins found before e.input)
      ∙ ap (λ q. cond (spare_ok ins found before e.input && comes_ok) (cond q x None) None) (leaving_ok outs found behind e.output)
      ∙ parted (spare_ok ins found before e.input) comes_ok (spare_ok outs found behind e.output) leaves_ok x
      ∙ ap (λ o. cond (end_ok s before behind e) o None)
      (sym (guarded acting (coming before found e.input) (acts ++ leaving behind found e.output) comes_ok (coming_guards s bodies enter within p before found e.input) es
      ∙ ap (λ o. cond comes_ok o None)
      (guarded_behind acting acts (leaving behind found e.output) leaves_ok (outgoing_guards s bodies enter within p behind found e.output) es)))

  next_alike : (earlier : List Declaration) (e : EndpointTree) (more : List (Token × EndpointTree)) → AlikeWhere (next_ok s more) walking acting (actions_of_next s earlier e more) (next_acts s e more)
  unfolding actions_of_next next_acts
  next_alike earlier e [] = λ es. refl
  next_alike earlier e (next ∷ more) =
      let a = side_left s e in
      let b = side_reached s next.1 in
      let later = earlier ++ declared_item s.classes next.1.item in
      alike_where_append (end_ok s true (has_next more) next.1) (next_ok s more) walking acting (actions_of_endpoint s earlier true (has_next more) next.1)
      (connecting_of next.0.from a b ++ actions_of_next s later next.1 more) (end_acts s true (has_next more) next.1) (connecting next.0.from a b ++ next_acts s next.1 more)
      (end_alike earlier true (has_next more) next.1)
      (alike_where_append true (next_ok s more) walking acting (connecting_of next.0.from a b) (actions_of_next s later next.1 more) (connecting next.0.from a b) (next_acts s next.1 more)
      (connecting_alike s bodies enter within p next.0.from a b) (next_alike later next.1 more))

  names_guards : (earlier : List Declaration) (u : UseTree) (more : List (Token × Token)) → Guards walking (names_of_group s earlier u more) true
  unfolding names_of_group
  names_guards earlier u [] = λ es. refl
  names_guards earlier u (next ∷ more) =
      guards_both walking (naming_of s earlier next.1) (names_of_group s (earlier ++ declaration s.classes u next.1 ∷ []) u more) true true
      (naming_guards s bodies enter within p earlier next.1) (names_guards (earlier ++ declaration s.classes u next.1 ∷ []) u more)

  group_alike : (u : UseTree) (names : List (Token × Token)) → Alike walking acting (making_of_group s u names) (group_acts s u names)
  unfolding making_of_group group_acts
  group_alike u [] = λ es. refl
  group_alike u (next ∷ more) =
      alike_three walking acting (counting_of s u) (making_of s (Some (word next.1)) u) (making_of_group s u more) (make s (Some (word next.1)) u ∷ []) (group_acts s u more)
      (created_alike (Some (word next.1)) u) (group_alike u more)

  make_element : (name : Option Word) (u : UseTree) → class_meant s u.class ≡ None → make s name u ≡ element name (use_of u)
  unfolding make
  make_element name u h = ap (λ o. making_act o name (use_of u)) h

  -- a group has no room
  too_many : (u : UseTree) (names : List (Token × Token)) → class_meant s u.class ≡ None → (es : State) → length es.elements ≤ 512 → 512 < length es.elements + length names
      → over acting (group_acts s u names) es ≡ None
  unfolding group_acts
  too_many u [] h es few many = absurd (omega (arith, few, many))
  too_many u (next ∷ more) h es few many =
      let name = Some (word next.1) in
      let next_state = with_element s.text p es name (use_of u) in
      let e : length next_state.elements ≡ length es.elements + 1 = length-append es.elements (element_of s.text p.numbers p.bindings name (use_of u) ∷ []) in
      ap (λ a. over acting (a ∷ group_acts s u more) es) (make_element name u h)
      ∙ one_element s.text within p name (use_of u) (group_acts s u more) es
      ∙ by (nat_lt (length es.elements) 512) refl (λ less. too_many u more h next_state (omega (arith, e, less)) (omega (arith, e, many)))
    where
      by : (b : Bool) → nat_lt (length es.elements) 512 ≡ b
          → (length es.elements < 512 → over acting (group_acts s u more) (with_element s.text p es (Some (word next.1)) (use_of u)) ≡ None)
          → cond b (cond (is_known s.text p.bindings (use_of u)) (over acting (group_acts s u more) (with_element s.text p es (Some (word next.1)) (use_of u))) None) None ≡ None
      by true q later = let less : length es.elements < 512 = grind (arith, nat_tests) in
          none_either (is_known s.text p.bindings (use_of u)) (over acting (group_acts s u more) (with_element s.text p es (Some (word next.1)) (use_of u))) (later less)
      by false q later = refl

  crowded : (u : UseTree) (next : Token × Token) (more : List (Token × Token)) → class_meant s u.class ≡ None → (es : State) → 512 < length es.elements + length (next ∷ more)
      → over acting (group_acts s u (next ∷ more)) es ≡ None
  unfolding group_acts
  crowded u next more h es many = by (nat_lt (length es.elements) 512) refl
    where
      by : (b : Bool) → nat_lt (length es.elements) 512 ≡ b → over acting (group_acts s u (next ∷ more)) es ≡ None
      by true q = let less : length es.elements < 512 = grind (arith, nat_tests) in too_many u (next ∷ more) h es (omega (arith, less)) many
      by false q =
          ap (λ a. over acting (a ∷ group_acts s u more) es) (make_element (Some (word next.1)) u h)
          ∙ one_element s.text within p (Some (word next.1)) (use_of u) (group_acts s u more) es
          ∙ ap (λ b. cond b (cond (is_known s.text p.bindings (use_of u)) (over acting (group_acts s u more) (with_element s.text p es (Some (word next.1)) (use_of u))) None) None) q

  room_alike : (u : UseTree) (next : Token × Token) (more : List (Token × Token)) (o : Found) → class_meant s u.class ≡ o
      → Alike walking acting (rooming_at (length (next ∷ more)) (use_of u) o ++ making_of_group s u (next ∷ more)) (group_acts s u (next ∷ more))
  room_alike u next more (Some x) h es = group_alike u (next ∷ more) es
  room_alike u next more None h es =
      ap (option_and_then (over walking (making_of_group s u (next ∷ more)))) (tries_room s.text bodies enter p es (length (next ∷ more)) (use_of u))
      ∙ by (nat_le (length es.elements + length (next ∷ more)) 512) refl
    where
      by : (b : Bool) → nat_le (length es.elements + length (next ∷ more)) 512 ≡ b
          → option_and_then (over walking (making_of_group s u (next ∷ more))) (cond b (Some es) None) ≡ over acting (group_acts s u (next ∷ more)) es
      by true q = group_alike u (next ∷ more) es
      by false q = let many : 512 < length es.elements + length (next ∷ more) = grind (arith, nat_tests) in sym (crowded u next more h es many)

  declared_alike : (first : Token) (next : Token × Token) (more : List (Token × Token)) (last : UseTree)
      → Alike walking acting (rooming_of s last (next ∷ more) ++ (counting_of s last ++ (making_of s (Some (word first)) last ++ making_of_group s last (next ∷ more))))
      (make s (Some (word first)) last ∷ group_acts s last (next ∷ more))
  unfolding rooming_of making_of_group group_acts
  declared_alike first next more last = room_alike last (first, first) (next ∷ more) (class_meant s last.class) refl

  pub statement_alike : (earlier : List Declaration) (st : StatementTree) → AlikeWhere (statement_ok s st) walking acting (actions_of_statement s earlier st) (statement_acts s st)
  unfolding actions_of_statement statement_acts
  statement_alike earlier (connect e more) =
      let later = earlier ++ declared_item s.classes e.item in
      alike_where_append (end_ok s false (has_next more) e) (next_ok s more) walking acting (actions_of_endpoint s earlier false (has_next more) e) (actions_of_next s later e more)
      (end_acts s false (has_next more) e) (next_acts s e more) (end_alike earlier false (has_next more) e) (next_alike later e more)
  statement_alike earlier (declare first next more colons last) =
      let group = names_of_group s (earlier ++ declaration s.classes last first ∷ []) last (next ∷ more) in
      let rest = rooming_of s last (next ∷ more) ++ (counting_of s last ++ (making_of s (Some (word first)) last ++ making_of_group s last (next ∷ more))) in
      let acts = make s (Some (word first)) last ∷ group_acts s last (next ∷ more) in
      alike_behind walking acting (naming_of s earlier first) (group ++ (using_of s last.class ++ rest)) acts (naming_guards s bodies enter within p earlier first)
      (alike_behind walking acting group (using_of s last.class ++ rest) acts (names_guards (earlier ++ declaration s.classes last first ∷ []) last (next ∷ more))
      (alike_behind walking acting (using_of s last.class) rest acts (using_guards s bodies enter within p last.class)
      (declared_alike first next more last)))

  pub body_alike : (earlier : List Declaration) (us : List InnerTree) → AlikeWhere (body_ok s us) walking acting (actions_of_body s earlier us) (body_acts s us)
  unfolding actions_of_body body_acts
  body_alike earlier [] = λ es. refl
  body_alike earlier (sign t ∷ us) = body_alike earlier us
  body_alike earlier (plain st ∷ us) =
      let later = earlier ++ declared_statement s.classes st in
      alike_where_append (statement_ok s st) (body_ok s us) walking acting (actions_of_statement s earlier st) (actions_of_body s later us) (statement_acts s st) (body_acts s us)
      (statement_alike earlier st) (body_alike later us)
