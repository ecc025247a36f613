-- Walks over plain actions step by step, and what the bodies of classes are.
use Rattle.std.proofs.Common.{◌≡◌, ℕ, suc, ◌+◌, List, [], ◌∷◌, ◌++◌, length, Option, Some, None, Result, Ok, Err, Bool, true, false, cond, refl, sym, ap, ◌∙◌, arith}
use Rattle.std.specs.Prelude.{◌&&◌, drop}
use Rattle.std.specs.List.{prefix_len}
use Rattle.std.specs.Option.{option_and_then}
use Rattle.mt_syntax.specs.declared.fault.Fault.{Fault}
use Rattle.mt_syntax.specs.declared.replacing.Binding.{Binding}
use Rattle.mt_syntax.specs.declared.token.Token.{Token}
use Rattle.mt_syntax.specs.Reading.{◌>>=◌, word}
use Rattle.mt_syntax.specs.Words.{bytes_of}
use Rattle.mt_click.specs.declared.action.Action.{Action}
use Rattle.mt_click.specs.declared.action.Action.TheVariants as actions
use Rattle.mt_click.specs.Elements.{Context, State, top}
use Rattle.mt_click.specs.Runs.{is_done}
use Rattle.mt_click.specs.Walk.{Moved, Walked, moved, entering, walk, walk_all, enter, bodies_in, bound, is_parameter_action}
use Rattle.mt_click.specs.Expands.{bindings_of}
use Rattle.mt_click.specs.Spread.{parameter_actions}
use Rattle.mt_click.proofs.StepFolds.{over}
use Rattle.mt_click.proofs.ActionTries.{fine, Inner, tries}
use Rattle.mt_click.proofs.ActionsMatchActs.{none_either}
use Rattle.mt_click.proofs.PlainActions.{IsPlain, ArePlain}
use Rattle.mt_click.proofs.UseWalk.{walk_on}

fine_then : (a : Result Moved Fault) (f : Moved → Walked) (rest : State → Walked) (g : State → Option State) → ((x : State) → fine (rest x) ≡ g x)
    → fine (a >>= λ r. f r >>= rest) ≡ option_and_then g (fine (a >>= f))
fine_then (Err e) f rest g h = refl
fine_then (Ok r) f rest g h = by (f r)
  where
    by : (x : Walked) → fine (x >>= rest) ≡ option_and_then g (fine x)
    by (Err e) = refl
    by (Ok s) = h s

unended : (m : Action) (ms : List Action) → IsPlain m → is_done (m ∷ ms) ≡ false
unended actions.Class ms h = refl
unended (actions.Parameter w) ms h = refl
unended actions.Close ms h = absurd h
unended (actions.Name f) ms h = refl
unended (actions.MissingPort f) ms h = refl
unended (actions.Count k u) ms h = refl
unended (actions.Room n u) ms h = refl
unended (actions.Element name u) ms h = refl
unended (actions.Enter k u offset) ms h = refl
unended (actions.Connect arrow from to) ms h = refl

-- the walk over a body is one over its actions
pub walk_plain : (text : List ℕ) (bodies : List (List Action)) (enter : Inner) (p : Context) (ms rest : List Action) → ArePlain ms → (es : State)
    → fine (walk text bodies enter p (ms ++ actions.Close ∷ rest) es) ≡ over (tries text bodies enter p) ms es
unfolding walk tries
walk_plain text bodies enter p [] rest h es = refl
walk_plain text bodies enter p (m ∷ ms) rest h es =
    ap fine (walk_on text bodies enter p m (ms ++ actions.Close ∷ rest) es (unended m (ms ++ actions.Close ∷ rest) h.0))
    ∙ fine_then (moved text bodies p es m) (λ r. entering enter p r) (λ more. walk text bodies enter p (ms ++ actions.Close ∷ rest) more) (over (tries text bodies enter p) ms)
    (λ more. walk_plain text bodies enter p ms rest h.1 more)

pub walk_parameters : (text : List ℕ) (bodies : List (List Action)) (enter : Inner) (p : Context) (ts : List Token) (ms : List Action) (es : State)
    → walk text bodies enter p (parameter_actions ts ++ ms) es ≡ walk text bodies enter p ms es
unfolding walk moved parameter_actions
walk_parameters text bodies enter p [] ms es = refl
walk_parameters text bodies enter p (t ∷ ts) ms es = walk_parameters text bodies enter p ts ms es

no_parameter : (ms rest : List Action) → ArePlain ms → prefix_len is_parameter_action (ms ++ actions.Close ∷ rest) ≡ 0
no_parameter [] rest h = refl
no_parameter (actions.Class ∷ ms) rest h = absurd h.0
no_parameter (actions.Parameter w ∷ ms) rest h = absurd h.0
no_parameter (actions.Close ∷ ms) rest h = absurd h.0
no_parameter (actions.Name f ∷ ms) rest h = refl
no_parameter (actions.MissingPort f ∷ ms) rest h = refl
no_parameter (actions.Count k u ∷ ms) rest h = refl
no_parameter (actions.Room n u ∷ ms) rest h = refl
no_parameter (actions.Element name u ∷ ms) rest h = refl
no_parameter (actions.Enter k u offset ∷ ms) rest h = refl
no_parameter (actions.Connect arrow from to ∷ ms) rest h = refl

pub parameter_count : (ts : List Token) (ms rest : List Action) → ArePlain ms → prefix_len is_parameter_action (parameter_actions ts ++ (ms ++ actions.Close ∷ rest)) ≡ length ts
unfolding parameter_actions
parameter_count [] ms rest h = no_parameter ms rest h
parameter_count (t ∷ ts) ms rest h =
    let later = parameter_count ts ms rest h in
    let more : 1 + prefix_len is_parameter_action (parameter_actions ts ++ (ms ++ actions.Close ∷ rest)) ≡ suc (length ts) = omega (arith, later) in
    more

unbound : (text : List ℕ) (ms rest : List Action) (xs : List (List ℕ)) → ArePlain ms → bound text (ms ++ actions.Close ∷ rest) xs ≡ []
unbound text [] rest xs h = refl
unbound text (actions.Class ∷ ms) rest xs h = absurd h.0
unbound text (actions.Parameter w ∷ ms) rest xs h = absurd h.0
unbound text (actions.Close ∷ ms) rest xs h = absurd h.0
unbound text (actions.Name f ∷ ms) rest xs h = refl
unbound text (actions.MissingPort f ∷ ms) rest xs h = refl
unbound text (actions.Count k u ∷ ms) rest xs h = refl
unbound text (actions.Room n u ∷ ms) rest xs h = refl
unbound text (actions.Element name u ∷ ms) rest xs h = refl
unbound text (actions.Enter k u offset ∷ ms) rest xs h = refl
unbound text (actions.Connect arrow from to ∷ ms) rest xs h = refl

pub bound_to : (text : List ℕ) (ts : List Token) (ms rest : List Action) (xs : List (List ℕ)) → ArePlain ms
    → bound text (parameter_actions ts ++ (ms ++ actions.Close ∷ rest)) xs ≡ bindings_of text ts xs
unfolding parameter_actions
bound_to text [] ms rest xs h = unbound text ms rest xs h
bound_to text (t ∷ ts) ms rest [] h = refl
bound_to text (t ∷ ts) ms rest (x ∷ xs) h =
    ap (λ (bs : List Binding). record { name = drop 1 (bytes_of text (word t)); argument = x } ∷ bs) (bound_to text ts ms rest xs h)

-- where bodies begin
bodies_on : (m : Action) (ms : List Action) → IsPlain m → bodies_in (m ∷ ms) ≡ bodies_in ms
bodies_on actions.Class ms h = absurd h
bodies_on (actions.Parameter w) ms h = absurd h
bodies_on actions.Close ms h = absurd h
bodies_on (actions.Name f) ms h = refl
bodies_on (actions.MissingPort f) ms h = refl
bodies_on (actions.Count k u) ms h = refl
bodies_on (actions.Room n u) ms h = refl
bodies_on (actions.Element name u) ms h = refl
bodies_on (actions.Enter k u offset) ms h = refl
bodies_on (actions.Connect arrow from to) ms h = refl

pub bodies_behind : (ms rest : List Action) → ArePlain ms → bodies_in (ms ++ rest) ≡ bodies_in rest
bodies_behind [] rest h = refl
bodies_behind (m ∷ ms) rest h = bodies_on m (ms ++ rest) h.0 ∙ bodies_behind ms rest h.1

pub bodies_parameters : (ts : List Token) (rest : List Action) → bodies_in (parameter_actions ts ++ rest) ≡ bodies_in rest
unfolding parameter_actions
bodies_parameters [] rest = refl
bodies_parameters (t ∷ ts) rest = bodies_parameters ts rest

-- no name is at fault
abbrev pub is_unnamed : Action → Bool
is_unnamed (actions.Name f) = false
is_unnamed _ = true

abbrev pub is_free : List Action → Bool
is_free [] = true
is_free (m ∷ ms) = is_unnamed m && is_free ms

pub free_append : (xs ys : List Action) → is_free (xs ++ ys) ≡ (is_free xs && is_free ys)
free_append [] ys = refl
free_append (x ∷ xs) ys = by (is_unnamed x) (free_append xs ys)
  where
    by : (b : Bool) → is_free (xs ++ ys) ≡ (is_free xs && is_free ys) → (b && is_free (xs ++ ys)) ≡ ((b && is_free xs) && is_free ys)
    by true h = h
    by false h = refl

module _ (text : List ℕ) (bodies : List (List Action)) (k : ℕ) where
  body_on : (m : Action) (ms : List Action) → IsPlain m → (es : State)
      → fine (walk_all text bodies k true (m ∷ ms) es) ≡ cond (is_unnamed m) (fine (walk_all text bodies k true ms es)) None
  unfolding walk_all
  body_on actions.Class ms h es = absurd h
  body_on (actions.Parameter w) ms h es = absurd h
  body_on actions.Close ms h es = absurd h
  body_on (actions.Name f) ms h es = refl
  body_on (actions.MissingPort f) ms h es = refl
  body_on (actions.Count n u) ms h es = refl
  body_on (actions.Room n u) ms h es = refl
  body_on (actions.Element name u) ms h es = refl
  body_on (actions.Enter n u offset) ms h es = refl
  body_on (actions.Connect arrow from to) ms h es = refl

  -- a body at its declaration
  pub body_passed : (ms rest : List Action) → ArePlain ms → (es : State)
      → fine (walk_all text bodies k true (ms ++ rest) es) ≡ cond (is_free ms) (fine (walk_all text bodies k true rest es)) None
  body_passed [] rest h es = refl
  body_passed (m ∷ ms) rest h es = body_on m (ms ++ rest) h.0 es ∙ by (is_unnamed m) (body_passed ms rest h.1 es)
    where
      by : (b : Bool) → fine (walk_all text bodies k true (ms ++ rest) es) ≡ cond (is_free ms) (fine (walk_all text bodies k true rest es)) None
          → cond b (fine (walk_all text bodies k true (ms ++ rest) es)) None ≡ cond (b && is_free ms) (fine (walk_all text bodies k true rest es)) None
      by true later = later
      by false later = refl

  pub parameters_passed : (ts : List Token) (rest : List Action) (es : State) → walk_all text bodies k true (parameter_actions ts ++ rest) es ≡ walk_all text bodies k true rest es
  unfolding walk_all parameter_actions
  parameters_passed [] rest es = refl
  parameters_passed (t ∷ ts) rest es = parameters_passed ts rest es

  abbrev onward : Action → State → Option State
  onward = tries text bodies (enter text bodies k) top

  abbrev pub later_on : List Action → State → Option State
  later_on rest more = fine (walk_all text bodies k false rest more)

  one_on : (m : Action) (ms : List Action) (es : State)
      → fine (moved text bodies top es m >>= λ r. entering (enter text bodies k) top r >>= λ more. walk_all text bodies k false ms more) ≡ option_and_then (later_on ms) (onward m es)
  unfolding tries
  one_on m ms es =
      fine_then (moved text bodies top es m) (λ r. entering (enter text bodies k) top r) (λ more. walk_all text bodies k false ms more) (later_on ms) (λ more. refl)

  top_on : (m : Action) (ms : List Action) → IsPlain m → (es : State)
      → fine (walk_all text bodies k false (m ∷ ms) es) ≡ cond (is_unnamed m) (option_and_then (later_on ms) (onward m es)) None
  unfolding walk_all
  top_on actions.Class ms h es = absurd h
  top_on (actions.Parameter w) ms h es = absurd h
  top_on actions.Close ms h es = absurd h
  top_on (actions.Name f) ms h es = refl
  top_on (actions.MissingPort f) ms h es = one_on (actions.MissingPort f) ms es
  top_on (actions.Count n u) ms h es = one_on (actions.Count n u) ms es
  top_on (actions.Room n u) ms h es = one_on (actions.Room n u) ms es
  top_on (actions.Element name u) ms h es = one_on (actions.Element name u) ms es
  top_on (actions.Enter n u offset) ms h es = one_on (actions.Enter n u offset) ms es
  top_on (actions.Connect arrow from to) ms h es = one_on (actions.Connect arrow from to) ms es

  -- what stands outside classes
  pub top_passed : (ms rest : List Action) → ArePlain ms → (es : State)
      → fine (walk_all text bodies k false (ms ++ rest) es) ≡ cond (is_free ms) (option_and_then (later_on rest) (over onward ms es)) None
  top_passed [] rest h es = refl
  top_passed (m ∷ ms) rest h es = top_on m (ms ++ rest) h.0 es ∙ by (is_unnamed m) (onward m es) (top_passed ms rest h.1)
    where
      by : (b : Bool) (o : Option State)
          → ((more : State) → fine (walk_all text bodies k false (ms ++ rest) more) ≡ cond (is_free ms) (option_and_then (later_on rest) (over onward ms more)) None)
          → cond b (option_and_then (later_on (ms ++ rest)) o) None ≡ cond (b && is_free ms) (option_and_then (later_on rest) (option_and_then (over onward ms) o)) None
      by false o later = refl
      by true None later = sym (none_either (is_free ms) None refl)
      by true (Some more) later = later more
