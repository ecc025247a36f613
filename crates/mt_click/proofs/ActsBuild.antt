-- What acts build is what they make.
use Rattle.std.proofs.Common.{◌≡◌, ℕ, zero, suc, ◌<◌, List, [], ◌∷◌, length, nat_lt, Option, Some, None, Bool, true, false, cond, refl, sym, ap, subst, ◌∙◌, arith}
use Rattle.std.specs.Prelude.{◌||◌, not, is_some, nat_eq}
use Rattle.std.specs.List.{Contains}
use Rattle.std.specs.Option.{option_and_then}
use Rattle.std.proofs.lemmas.Bool.{eqb-true}
use Rattle.std.proofs.lemmas.Bool.Decides.{Decides-eqb, nat_tests}
use Rattle.std.proofs.lemmas.Option.{option_and_then_some}
use Rattle.mt_syntax.specs.Arguments.{shown}
use Rattle.mt_syntax.specs.Replacing.{unknown_in}
use Rattle.mt_syntax.specs.Words.{inner}
use Rattle.mt_syntax.specs.Grammar.{ClassTree}
use Rattle.mt_click.specs.Declarations.{parameters_of, inputs_of, outputs_of}
use Rattle.mt_click.specs.Acts.{body_sight, Act, element, expand, input, output, join, body_acts}
use Rattle.mt_click.specs.Elements.{Context, State, arguments_in, own_offset, with_element, with_use, with_connection}
use Rattle.mt_click.specs.Expands.{context_inside, Builds, done, makes, expands, comes, leaves, connects}
use Rattle.mt_click.specs.Spread.{is_in}
use Rattle.mt_click.proofs.StepFolds.{over}
use Rattle.mt_click.proofs.ActSteps.{Within, is_known, has_all, does}
use Rattle.mt_click.proofs.ClassesStand.{Stands, front_of, IsAct, AreActs, body_are}

contains_more : (m n : ℕ) (ms : List ℕ) → Contains ms n → Contains (m ∷ ms) n
contains_more m n ms h = let lt = h.1 in (suc h.0, omega (arith, lt), h.2)

contains_if : (n : ℕ) (ms : List ℕ) → is_in n ms ≡ true → Contains ms n
unfolding is_in
contains_if n [] h = absurd (let q : false ≡ true = h in cc)
contains_if n (m ∷ ms) h = by (nat_eq n m) refl h (contains_if n ms)
  where
    by : (b : Bool) → nat_eq n m ≡ b → (b || is_in n ms) ≡ true → (is_in n ms ≡ true → Contains ms n) → Contains (m ∷ ms) n
    by true q k later = (0, omega arith, sym (eqb-true n m q))
    by false q k later = contains_more m n ms (later k)

is_in_if : (n : ℕ) (ms : List ℕ) → Contains ms n → is_in n ms ≡ true
unfolding is_in
is_in_if n [] h = let lt = h.1 in absurd (omega (arith, lt))
is_in_if n (m ∷ ms) (zero, lt, e) =
    let same : n ≡ m = sym e in
    ap (λ b. b || is_in n ms) ((Decides-eqb n m).1 same)
is_in_if n (m ∷ ms) (suc i, lt, e) = by (nat_eq n m) (is_in_if n ms (i, let less : suc i < length (m ∷ ms) = lt in omega (arith, less), e))
  where
    by : (b : Bool) → is_in n ms ≡ true → (b || is_in n ms) ≡ true
    by true h = refl
    by false h = h

known_if : (o : Option ℕ) → not (is_some o) ≡ true → o ≡ None
known_if None h = refl
known_if (Some n) h = absurd (let q : false ≡ true = h in cc)

pub cond_passed : {S : Type 0} (b : Bool) (x : Option S) (y : S) → cond b x None ≡ Some y → (b ≡ true) × (x ≡ Some y)
cond_passed true x y h = (refl, h)
cond_passed false x y h = absurd (let q : None ≡ Some y = h in cc)

pub some_same : {S : Type 0} (x y : S) → Some x ≡ Some y → x ≡ y
some_same x y h = cc

module _ (text : List ℕ) (all : List ClassTree) (within : Within)
    (leads : (c : ClassTree) (before : List ClassTree) → Stands all c before → (p : Context) (s t : State) → within c before p s ≡ Some t → over (does text within p) (body_acts (body_sight text before c) c.body) s ≡ Some t) where
  abbrev BuildsBody : ClassTree → List ClassTree → Type 0
  BuildsBody c before = (p : Context) (s t : State) → within c before p s ≡ Some t → Builds text p s (body_acts (body_sight text before c) c.body) t

  one_builds : (most : ℕ) → ((c : ClassTree) (before : List ClassTree) → Stands all c before → length before < most → BuildsBody c before)
      → (p : Context) (a : Act) (acts : List Act) (s m t : State) → IsAct all most a → does text within p a s ≡ Some m → Builds text p m acts t → Builds text p s (a ∷ acts) t
  unfolding does
  one_builds most inside p (element name u) acts s m t is h b =
      let first = cond_passed (nat_lt (length s.elements) 512) (cond (is_known text p.bindings u) (Some (with_element text p s name u)) None) m h in
      let second = cond_passed (is_known text p.bindings u) (Some (with_element text p s name u)) m first.1 in
      let q : nat_lt (length s.elements) 512 ≡ true = first.0 in
      let less : length s.elements < 512 = grind (arith, nat_tests) in
      makes text p s t name u acts less (known_if (unknown_in p.bindings (shown (inner text u.arguments))) second.0)
      (subst (λ x. Builds text p x acts t) (sym (some_same (with_element text p s name u) m second.1)) b)
  one_builds most inside p (expand c before name u) acts s m t is h b =
      let there = context_inside text p s c u in
      let begun = with_use p s (own_offset name u) in
      let first = cond_passed (has_all text p.bindings c u) (cond (is_known text p.bindings u) (within c before there begun) None) m h in
      let second = cond_passed (is_known text p.bindings u) (within c before there begun) m first.1 in
      expands text p s m t c before name u acts (known_if (unknown_in p.bindings (shown (inner text u.arguments))) second.0)
      (eqb-true (length (arguments_in text p.bindings u)) (length (parameters_of c)) first.0)
      (inside c before is.0 is.1 there begun m second.1) b
  one_builds most inside p (input c k) acts s m t is h b =
      let first = cond_passed (is_in k (inputs_of text c)) (Some s) m h in
      comes text p s t c k acts (contains_if k (inputs_of text c) first.0) (subst (λ x. Builds text p x acts t) (sym (some_same s m first.1)) b)
  one_builds most inside p (output c k) acts s m t is h b =
      let first = cond_passed (is_in k (outputs_of text c)) (Some s) m h in
      leaves text p s t c k acts (contains_if k (outputs_of text c) first.0) (subst (λ x. Builds text p x acts t) (sym (some_same s m first.1)) b)
  one_builds most inside p (join arrow from to) acts s m t is h b =
      connects text p s t arrow from to acts (subst (λ x. Builds text p x acts t) (sym (some_same (with_connection p s arrow from to) m h)) b)

  list_builds : (most : ℕ) → ((c : ClassTree) (before : List ClassTree) → Stands all c before → length before < most → BuildsBody c before)
      → (p : Context) (acts : List Act) (s t : State) → AreActs all most acts → over (does text within p) acts s ≡ Some t → Builds text p s acts t
  list_builds most inside p [] s t are h = subst (λ x. Builds text p s [] x) (some_same s t h) (done text p s)
  list_builds most inside p (a ∷ acts) s t are h =
      let later = list_builds most inside p acts in
      option_and_then_some (over (does text within p) acts) (does text within p a s) t h
      (λ m first rest. one_builds most inside p a acts s m t are.0 first (later m t are.1 rest))

  body_builds : (most : ℕ) (c : ClassTree) (before : List ClassTree) → Stands all c before → length before < most → BuildsBody c before
  body_builds zero c before stands less p s t h = absurd (omega (arith, less))
  body_builds (suc most) c before stands less p s t h =
      list_builds most (body_builds most) p (body_acts (body_sight text before c) c.body) s t
      (body_are all most (body_sight text before c) (front_of all c before stands) (omega (arith, less)) c.body) (leads c before stands p s t h)

  pub builds_if : (most : ℕ) (p : Context) (acts : List Act) (s t : State) → AreActs all most acts → over (does text within p) acts s ≡ Some t → Builds text p s acts t
  builds_if most p acts s t are h = list_builds most (body_builds most) p acts s t are h

module _ (text : List ℕ) (all : List ClassTree) (within : Within)
    (led : (c : ClassTree) (before : List ClassTree) → Stands all c before → (p : Context) (s t : State) → over (does text within p) (body_acts (body_sight text before c) c.body) s ≡ Some t → within c before p s ≡ Some t) where
  pub makes_if : (most : ℕ) (p : Context) (s : State) (acts : List Act) (t : State) → Builds text p s acts t → AreActs all most acts → over (does text within p) acts s ≡ Some t
  unfolding does
  makes_if most _ _ _ _ (done _ p s) are = refl
  makes_if most _ _ _ _ (makes _ p s t name u acts less known b) are =
      let q : nat_lt (length s.elements) 512 ≡ true = grind (arith, nat_tests) in
      ap (λ x. option_and_then (over (does text within p) acts) (cond x (cond (is_known text p.bindings u) (Some (with_element text p s name u)) None) None)) q
      ∙ ap (λ o. option_and_then (over (does text within p) acts) (cond (not (is_some o)) (Some (with_element text p s name u)) None)) known
      ∙ makes_if most p (with_element text p s name u) acts t b are.1
  makes_if most _ _ _ _ (expands _ p s m t c before name u acts known all_there inside b) are =
      let there = context_inside text p s c u in
      let begun = with_use p s (own_offset name u) in
      let stands = are.0.0 in
      let first : within c before there begun ≡ Some m =
      led c before stands there begun m
      (makes_if (length before) there begun (body_acts (body_sight text before c) c.body) m inside (body_are all (length before) (body_sight text before c) (front_of all c before stands) (omega arith) c.body)) in
      ap (λ x. option_and_then (over (does text within p) acts) (cond x (cond (is_known text p.bindings u) (within c before there begun) None) None)) ((Decides-eqb (length (arguments_in text p.bindings u)) (length (parameters_of c))).1 all_there)
      ∙ ap (λ o. option_and_then (over (does text within p) acts) (cond (not (is_some o)) (within c before there begun) None)) known
      ∙ ap (option_and_then (over (does text within p) acts)) first
      ∙ makes_if most p m acts t b are.1
  makes_if most _ _ _ _ (comes _ p s t c k acts has b) are =
      ap (λ x. option_and_then (over (does text within p) acts) (cond x (Some s) None)) (is_in_if k (inputs_of text c) has) ∙ makes_if most p s acts t b are.1
  makes_if most _ _ _ _ (leaves _ p s t c k acts has b) are =
      ap (λ x. option_and_then (over (does text within p) acts) (cond x (Some s) None)) (is_in_if k (outputs_of text c) has) ∙ makes_if most p s acts t b are.1
  makes_if most _ _ _ _ (connects _ p s t arrow from to acts b) are = makes_if most p (with_connection p s arrow from to) acts t b are.1

-- Acts build one item only.
pub builds_once : (text : List ℕ) (p : Context) (s : State) (acts : List Act) (t m : State) → Builds text p s acts t → Builds text p s acts m → t ≡ m
builds_once _ _ _ _ _ _ (done _ p s) (done _ _ _) = refl
builds_once _ _ _ _ _ _ (makes text p s t name u acts less known b) (makes _ _ _ m _ _ _ _ _ c) = builds_once text p (with_element text p s name u) acts t m b c
builds_once _ _ _ _ _ _ (expands text p s n t d before name u acts known all_there inside b) (expands _ _ _ o m _ _ _ _ _ _ _ within c) =
    let same : n ≡ o = builds_once text (context_inside text p s d u) (with_use p s (own_offset name u)) (body_acts (body_sight text before d) d.body) n o inside within in
    builds_once text p n acts t m b (subst (λ x. Builds text p x acts m) (sym same) c)
builds_once _ _ _ _ _ _ (comes text p s t d k acts there b) (comes _ _ _ m _ _ _ _ c) = builds_once text p s acts t m b c
builds_once _ _ _ _ _ _ (leaves text p s t d k acts there b) (leaves _ _ _ m _ _ _ _ c) = builds_once text p s acts t m b c
builds_once _ _ _ _ _ _ (connects text p s t arrow from to acts b) (connects _ _ _ m _ _ _ _ c) = builds_once text p (with_connection p s arrow from to) acts t m b c
