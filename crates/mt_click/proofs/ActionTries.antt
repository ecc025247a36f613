-- What an action makes of a state where it is at no fault.
use Rattle.std.proofs.Common.{◌≡◌, ℕ, ◌+◌, List, length, nat_le, nat_lt, Option, Some, None, Result, Ok, Err, Bool, true, false, cond, refl, ap, ◌∙◌}
use Rattle.std.specs.Prelude.{◌==◌, not, is_some}
use Rattle.mt_syntax.specs.declared.fault.ClickWhy.TheVariants as whys
use Rattle.mt_syntax.specs.declared.fault.Fault.{Fault}
use Rattle.mt_syntax.specs.declared.word.Word.{Word}
use Rattle.mt_syntax.specs.declared.phrase.Use.{Use}
use Rattle.mt_syntax.specs.declared.replacing.Binding.{Binding}
use Rattle.mt_syntax.specs.Arguments.{shown}
use Rattle.mt_syntax.specs.Replacing.{unknown_in}
use Rattle.mt_syntax.specs.Reading.{◌>>=◌}
use Rattle.mt_syntax.specs.Words.{inner}
use Rattle.mt_click.specs.declared.action.Action.{Action}
use Rattle.mt_click.specs.declared.action.Action.TheVariants as actions
use Rattle.mt_click.specs.declared.action.Side.{Side}
use Rattle.mt_click.specs.declared.perform.PendingUse.{PendingUse}
use Rattle.mt_click.specs.Actions.{wrong}
use Rattle.mt_click.specs.Elements.{Context, State, arguments_in, with_element, with_use, with_connection}
use Rattle.mt_click.specs.Walk.{Moved, Walked, moved, entering, counted, roomed, element_moved, entered, known_names, parameters, unknown_offset}
use Rattle.mt_click.proofs.ActSteps.{is_known}

abbrev pub fine : Walked → Option State
fine (Ok s) = Some s
fine (Err f) = None

abbrev pub Inner : Type 0
Inner = Context → PendingUse → State → Walked

unfoldable pub tries : List ℕ → List (List Action) → Inner → Context → Action → State → Option State
tries text bodies enter p m s = fine (moved text bodies p s m >>= λ r. entering enter p r)

abbrev is_ok : Result Bool Fault → Bool
is_ok (Ok b) = true
is_ok (Err f) = false

names_known : (text : List ℕ) (bindings : List Binding) (u : Use) → is_ok (known_names text bindings u) ≡ is_known text bindings u
unfolding known_names
names_known text bindings u = by (unknown_in bindings (shown (inner text u.arguments)))
  where
    by : (o : Option ℕ) → is_ok (elim o [ None ↦ Ok true | Some n ↦ Err (wrong whys.UnknownName (unknown_offset u.arguments (inner text u.arguments) n)) ]) ≡ not (is_some o)
    by None = refl
    by (Some n) = refl

abbrev none_entered : State → Result Moved Fault
none_entered s = let r : Moved = (s, None) in Ok r

tested : (enter : Inner) (p : Context) (s : State) (a : Result Bool Fault) → fine ((a >>= λ _. none_entered s) >>= λ r. entering enter p r) ≡ cond (is_ok a) (Some s) None
tested enter p s (Ok b) = refl
tested enter p s (Err f) = refl

tested_below : (enter : Inner) (p : Context) (s : State) (b : Bool) (f : Fault) (a : Result Bool Fault)
    → fine (cond {A = Result Moved Fault} b (a >>= λ _. none_entered s) (Err f) >>= λ r. entering enter p r) ≡ cond b (cond (is_ok a) (Some s) None) None
tested_below enter p s true f a = tested enter p s a
tested_below enter p s false f a = refl

abbrev entered_as : State → PendingUse → Result Moved Fault
entered_as s e = let r : Moved = (s, Some e) in Ok r

tested_inside : (enter : Inner) (p : Context) (s : State) (e : PendingUse) (a : Result Bool Fault) → fine ((a >>= λ _. entered_as s e) >>= λ r. entering enter p r) ≡ cond (is_ok a) (fine (enter p e s)) None
tested_inside enter p s e (Ok b) = refl
tested_inside enter p s e (Err f) = refl

module _ (text : List ℕ) (bodies : List (List Action)) (enter : Inner) (p : Context) (s : State) where
  pub tries_name : (f : Fault) → tries text bodies enter p (actions.Name f) s ≡ Some s
  unfolding tries moved
  tries_name f = refl

  pub tries_parameter : (w : Word) → tries text bodies enter p (actions.Parameter w) s ≡ Some s
  unfolding tries moved
  tries_parameter w = refl

  pub tries_port : (f : Fault) → tries text bodies enter p (actions.MissingPort f) s ≡ None
  unfolding tries moved
  tries_port f = refl

  pub tries_connect : (arrow : ℕ) (from to : Side) → tries text bodies enter p (actions.Connect arrow from to) s ≡ Some (with_connection p s arrow from to)
  unfolding tries moved
  tries_connect arrow from to = refl

  pub tries_count : (k : ℕ) (u : Use) → tries text bodies enter p (actions.Count k u) s ≡ cond (length (arguments_in text p.bindings u) == parameters bodies k) (Some s) None
  unfolding tries moved counted
  tries_count k u = by (length (arguments_in text p.bindings u) == parameters bodies k)
    where
      by : (b : Bool) → fine ((cond {A = Result Bool Fault} b (Ok true) (Err (wrong whys.Arity u.class.from)) >>= λ _. none_entered s) >>= λ r. entering enter p r) ≡ cond b (Some s) None
      by true = refl
      by false = refl

  pub tries_room : (n : ℕ) (u : Use) → tries text bodies enter p (actions.Room n u) s ≡ cond (nat_le (length s.elements + n) 512) (Some s) None
  unfolding tries moved roomed
  tries_room n u = by (nat_le (length s.elements + n) 512)
    where
      by : (b : Bool) → fine (cond {A = Result Moved Fault} b (none_entered s) (Err (wrong whys.TooManyElements u.class.from)) >>= λ r. entering enter p r) ≡ cond b (Some s) None
      by true = refl
      by false = refl

  pub tries_element : (name : Option Word) (u : Use)
      → tries text bodies enter p (actions.Element name u) s ≡ cond (nat_lt (length s.elements) 512) (cond (is_known text p.bindings u) (Some (with_element text p s name u)) None) None
  unfolding tries moved element_moved
  tries_element name u =
      tested_below enter p (with_element text p s name u) (nat_lt (length s.elements) 512) (wrong whys.TooManyElements u.class.from) (known_names text p.bindings u)
      ∙ ap (λ b. cond (nat_lt (length s.elements) 512) (cond b (Some (with_element text p s name u)) None) None) (names_known text p.bindings u)

  pub tries_enter : (k : ℕ) (u : Use) (offset : ℕ)
      → tries text bodies enter p (actions.Enter k u offset) s
      ≡ cond (is_known text p.bindings u) (fine (enter p (record { class = k; number = length s.elements; enclosing = length s.created + 1; arguments = arguments_in text p.bindings u }) (with_use p s offset))) None
  unfolding tries moved entered
  tries_enter k u offset =
      let e : PendingUse = record { class = k; number = length s.elements; enclosing = length s.created + 1; arguments = arguments_in text p.bindings u } in
      tested_inside enter p (with_use p s offset) e (known_names text p.bindings u) ∙ ap (λ b. cond b (fine (enter p e (with_use p s offset))) None) (names_known text p.bindings u)
