-- The walk over uses of classes, one action or one use on.
use Rattle.std.proofs.Common.{◌≡◌, ℕ, zero, suc, ◌+◌, ◌-◌, ◌<◌, ◌≤◌, List, [], ◌∷◌, ◌++◌, reverse, take, drop, get_or, slice_get, length, cond, nat_le, nat_lt, Bool, true, false, Option, Some, None, Result, Ok, Err, refl, sym, ap, ◌∙◌, arith}
use Rattle.std.proofs.lemmas.Bool.{eqb-true}
use Rattle.std.proofs.lemmas.List.Concat.{flat_map-cons}
use Rattle.std.proofs.Math.Seq.{take-length}
use Rattle.std.specs.Fmt.{decimal}
use Rattle.mt_syntax.specs.declared.fault.ReadError.{ReadError}
use Rattle.mt_syntax.specs.declared.fault.ReadError.TheVariants as errors
use Rattle.std.proofs.lemmas.Bool.Decides.{nat_tests}
use Rattle.std.proofs.lemmas.List.{drop_more, reverse-append, reverse-reverse, map_push}
use Rattle.std.proofs.Math.Dec.{eqb}
use Rattle.mt_syntax.specs.declared.fault.Fault.{Fault}
use Rattle.mt_click.specs.declared.action.Action.{Action}
use Rattle.mt_click.specs.declared.action.Action.TheVariants as actions
use Rattle.mt_click.specs.declared.perform.WalkInput.{WalkInput}
use Rattle.mt_click.specs.declared.perform.Activation.{Activation}
use Rattle.mt_click.specs.declared.perform.PendingUse.{PendingUse}
use Rattle.mt_syntax.specs.declared.replacing.Binding.{Binding}
use Rattle.mt_syntax.specs.Reading.{◌>>=◌, Fails}
use Rattle.mt_syntax.specs.declared.fault.ClickWhy.TheVariants as whys
use Rattle.mt_click.specs.Actions.{wrong}
use Rattle.mt_click.specs.Elements.{Context, State, with_element, with_use, arguments_in, scope_text, top}
use Rattle.mt_click.specs.Walk.{Moved, Walked, walk, enter, entering, moved, body_of, context_in, bound, counted, roomed, element_moved, entered, known_names}
use Rattle.mt_click.specs.Stacks.{bodies, numbers, top_bindings, top_enclosing, context_of}
use Rattle.mt_click.specs.Runs.{context_at, finish, run, run_all, is_done, walk_cost, enter_cost, activation_cost, cost_all, use_cost, used, Continues}

-- the use of a class of a smaller number
pub enter_known : (text : List ℕ) (all : List (List Action)) (n : ℕ) (p : Context) (e : PendingUse) (es : State) → e.class < n
    → enter text all n p e es ≡ walk text all (enter text all e.class) (context_in text all p e) (body_of all e.class) es
unfolding enter
enter_known text all zero p e es lt = absurd (omega arith)
enter_known text all (suc n) p e es lt = by (eqb e.class n) refl (enter_known text all n p e es)
  where
    by : (b : Bool) → eqb e.class n ≡ b → (e.class < n → enter text all n p e es ≡ walk text all (enter text all e.class) (context_in text all p e) (body_of all e.class) es)
        → cond b (walk text all (enter text all n) (context_in text all p e) (body_of all n) es) (enter text all n p e es)
        ≡ walk text all (enter text all e.class) (context_in text all p e) (body_of all e.class) es
    by true q later = ap (λ k. walk text all (enter text all k) (context_in text all p e) (body_of all k) es) (sym (eqb-true e.class n q))
    by false q later = let less : e.class < n = grind (arith, nat_tests) in later less

pub enter_beyond : (text : List ℕ) (all : List (List Action)) (n : ℕ) (p : Context) (e : PendingUse) (es : State) → n ≤ e.class → enter text all n p e es ≡ Ok es
unfolding enter
enter_beyond text all zero p e es le = refl
enter_beyond text all (suc n) p e es le =
    let b : eqb e.class n ≡ false = grind (arith, nat_tests) in
    let less : n ≤ e.class = omega arith in
    ap (λ t. cond t (walk text all (enter text all n) (context_in text all p e) (body_of all n) es) (enter text all n p e es)) b ∙ enter_beyond text all n p e es less

pub cost_known : (all : List (List Action)) (n k : ℕ) → k < n → enter_cost all n k ≡ walk_cost (enter_cost all k) (body_of all k)
unfolding enter_cost
cost_known all zero k lt = absurd (omega arith)
cost_known all (suc n) k lt = by (eqb k n) refl (cost_known all n k)
  where
    by : (b : Bool) → eqb k n ≡ b → (k < n → enter_cost all n k ≡ walk_cost (enter_cost all k) (body_of all k))
        → cond b (walk_cost (enter_cost all n) (body_of all n)) (enter_cost all n k) ≡ walk_cost (enter_cost all k) (body_of all k)
    by true q later = ap (λ x. walk_cost (enter_cost all x) (body_of all x)) (sym (eqb-true k n q))
    by false q later = let less : k < n = grind (arith, nat_tests) in later less

pub cost_beyond : (all : List (List Action)) (n k : ℕ) → n ≤ k → enter_cost all n k ≡ 0
unfolding enter_cost
cost_beyond all zero k le = refl
cost_beyond all (suc n) k le =
    let b : eqb k n ≡ false = grind (arith, nat_tests) in
    let less : n ≤ k = omega arith in
    ap (λ t. cond t (walk_cost (enter_cost all n) (body_of all n)) (enter_cost all n k)) b ∙ cost_beyond all n k less

-- one action of a body
pub walk_on : (text : List ℕ) (all : List (List Action)) (inner : Context → PendingUse → State → Walked) (p : Context) (m : Action) (ms : List Action) (es : State)
    → is_done (m ∷ ms) ≡ false → walk text all inner p (m ∷ ms) es ≡ (moved text all p es m >>= λ r. entering inner p r >>= λ more. walk text all inner p ms more)
unfolding walk
walk_on text all inner p actions.Close ms es h = absurd (let x : true ≡ false = h in cc)
walk_on text all inner p actions.Class ms es h = refl
walk_on text all inner p (actions.Parameter w) ms es h = refl
walk_on text all inner p (actions.Name f) ms es h = refl
walk_on text all inner p (actions.MissingPort f) ms es h = refl
walk_on text all inner p (actions.Count k u) ms es h = refl
walk_on text all inner p (actions.Room n u) ms es h = refl
walk_on text all inner p (actions.Element name u) ms es h = refl
walk_on text all inner p (actions.Enter k u offset) ms es h = refl
walk_on text all inner p (actions.Connect arrow from to) ms es h = refl

-- the end of a body
pub walk_end : (text : List ℕ) (all : List (List Action)) (inner : Context → PendingUse → State → Walked) (p : Context) (ms : List Action) (es : State)
    → is_done ms ≡ true → walk text all inner p ms es ≡ Ok es
unfolding walk
walk_end text all inner p [] es h = refl
walk_end text all inner p (actions.Close ∷ ms) es h = refl
walk_end text all inner p (actions.Class ∷ ms) es h = absurd (let x : false ≡ true = h in cc)
walk_end text all inner p (actions.Parameter w ∷ ms) es h = absurd (let x : false ≡ true = h in cc)
walk_end text all inner p (actions.Name f ∷ ms) es h = absurd (let x : false ≡ true = h in cc)
walk_end text all inner p (actions.MissingPort f ∷ ms) es h = absurd (let x : false ≡ true = h in cc)
walk_end text all inner p (actions.Count k u ∷ ms) es h = absurd (let x : false ≡ true = h in cc)
walk_end text all inner p (actions.Room n u ∷ ms) es h = absurd (let x : false ≡ true = h in cc)
walk_end text all inner p (actions.Element name u ∷ ms) es h = absurd (let x : false ≡ true = h in cc)
walk_end text all inner p (actions.Enter k u offset ∷ ms) es h = absurd (let x : false ≡ true = h in cc)
walk_end text all inner p (actions.Connect arrow from to ∷ ms) es h = absurd (let x : false ≡ true = h in cc)

-- the innermost use is the last of the list
snoc : (fs : List Activation) (f : Activation) → reverse (fs ++ f ∷ []) ≡ f ∷ reverse fs
snoc fs f = reverse-append fs (f ∷ [])

pub run_last : (s : WalkInput) (fs : List Activation) (f : Activation) (es : State) → run_all s (fs ++ f ∷ []) es ≡ (finish s f (reverse fs) es >>= run_all s fs)
unfolding run_all run
run_last s fs f es = ap (λ x. run s x es) (snoc fs f)

pub run_none : (s : WalkInput) (es : State) → run_all s [] es ≡ Ok es
unfolding run_all run
run_none s es = refl

-- what is the end of the innermost use
pub run_end : (s : WalkInput) (fs : List Activation) (f : Activation) (es : State) → is_done (drop f.at s.actions.now) ≡ true → run_all s (fs ++ f ∷ []) es ≡ run_all s fs es
run_end s fs f es h =
    run_last s fs f es ∙ ap (λ (x : Walked). x >>= run_all s fs) (walk_end s.text.now (bodies s) (enter s.text.now (bodies s) f.class_count) (context_at f (reverse fs)) (drop f.at s.actions.now) es h)

top_last : (fs : List Activation) (f : Activation) → top_bindings (fs ++ f ∷ []) ≡ f.bindings.items
top_last [] f = refl
top_last (g ∷ []) f = refl
top_last (g ∷ h ∷ fs) f = top_last (h ∷ fs) f

enclosing_last : (fs : List Activation) (f : Activation) → top_enclosing (fs ++ f ∷ []) ≡ f.enclosing
enclosing_last [] f = refl
enclosing_last (g ∷ []) f = refl
enclosing_last (g ∷ h ∷ fs) f = enclosing_last (h ∷ fs) f

abbrev offset : List ℕ → List Binding → ℕ → Context
offset numbers bindings enclosing = record { numbers = numbers; bindings = bindings; enclosing = enclosing }

same_context : (a b : List ℕ) (c d : List Binding) (n m : ℕ) → a ≡ b → c ≡ d → n ≡ m → offset a c n ≡ offset b d m
same_context a b c d n m p q r = ap (λ x. offset x c n) p ∙ ap (λ x. offset b x n) q ∙ ap (offset b d) r

-- where the walk is in the innermost use
pub place_last : (fs : List Activation) (f : Activation) → context_at f (reverse fs) ≡ context_of (fs ++ f ∷ [])
place_last fs f =
    same_context (numbers (reverse (reverse fs)) ++ f.number ∷ []) (numbers (fs ++ f ∷ [])) f.bindings.items (top_bindings (fs ++ f ∷ [])) f.enclosing (top_enclosing (fs ++ f ∷ []))
    (ap (λ x. numbers x ++ f.number ∷ []) (reverse-reverse fs) ∙ sym (map_push (λ (g : Activation). g.number) fs f)) (sym (top_last fs f)) (sym (enclosing_last fs f))

-- a use that begins
pub run_use : (s : WalkInput) (fs : List Activation) (f : Activation) (class_count : ℕ) (e : PendingUse) → e.class < class_count → drop f.at s.actions.now ≡ body_of (bodies s) e.class → f.class_count ≡ e.class → f.number ≡ e.number → f.enclosing ≡ e.enclosing
    → f.bindings.items ≡ bound s.text.now (body_of (bodies s) e.class) e.arguments
    → (es : State) → run_all s (fs ++ f ∷ []) es ≡ (enter s.text.now (bodies s) class_count (context_of fs) e es >>= run_all s fs)
run_use s fs f class_count e lt at same number enclosing bindings es =
    let text = s.text.now in
    let all = bodies s in
    let here : context_at f (reverse fs) ≡ context_in text all (context_of fs) e =
    same_context (numbers (reverse (reverse fs)) ++ f.number ∷ []) (numbers fs ++ e.number ∷ []) f.bindings.items (bound text (body_of all e.class) e.arguments) f.enclosing e.enclosing
    (ap (λ x. numbers x ++ f.number ∷ []) (reverse-reverse fs) ∙ ap (λ x. numbers fs ++ x ∷ []) number) bindings enclosing in
    let one : finish s f (reverse fs) es ≡ enter text all class_count (context_of fs) e es =
    ap (λ x. walk text all (enter text all x) (context_at f (reverse fs)) (drop f.at s.actions.now) es) same
    ∙ ap (λ x. walk text all (enter text all e.class) x (drop f.at s.actions.now) es) here
    ∙ ap (λ x. walk text all (enter text all e.class) (context_in text all (context_of fs) e) x es) at
    ∙ sym (enter_known text all class_count (context_of fs) e es lt) in
    run_last s fs f es ∙ ap (λ (x : Walked). x >>= run_all s fs) one

-- a use that is none
pub run_no_use : (s : WalkInput) (fs : List Activation) (class_count : ℕ) (e : PendingUse) → class_count ≤ e.class → (es : State) → run_all s fs es ≡ (enter s.text.now (bodies s) class_count (context_of fs) e es >>= run_all s fs)
run_no_use s fs class_count e le es = ap (λ (x : Walked). x >>= run_all s fs) (sym (enter_beyond s.text.now (bodies s) class_count (context_of fs) e es le))

regroup : (a : Result Moved Fault) (inner : Moved → Walked) (rest outer : State → Walked)
    → ((a >>= λ r. inner r >>= rest) >>= outer) ≡ (a >>= λ r. inner r >>= λ more. rest more >>= outer)
regroup (Err f) inner rest outer = refl
regroup (Ok r) inner rest outer = by (inner r)
  where
    by : (x : Walked) → ((x >>= rest) >>= outer) ≡ (x >>= λ more. rest more >>= outer)
    by (Err f) = refl
    by (Ok more) = refl

same_after : (x : Walked) (f g : State → Walked) → ((more : State) → f more ≡ g more) → (x >>= f) ≡ (x >>= g)
same_after (Err e) f g h = refl
same_after (Ok more) f g h = h more

-- one action of the innermost use
pub run_on : (s : WalkInput) (fs : List Activation) (f g : Activation) (m : Action) (es : State) → drop f.at s.actions.now ≡ m ∷ drop g.at s.actions.now → is_done (drop f.at s.actions.now) ≡ false
    → g.class_count ≡ f.class_count → g.number ≡ f.number → g.enclosing ≡ f.enclosing → g.bindings.items ≡ f.bindings.items
    → run_all s (fs ++ f ∷ []) es ≡ (moved s.text.now (bodies s) (context_of (fs ++ g ∷ [])) es m >>= λ r. entering (enter s.text.now (bodies s) f.class_count) (context_of (fs ++ g ∷ [])) r >>= run_all s (fs ++ g ∷ []))
run_on s fs f g m es at unended class_count number enclosing bindings =
    let text = s.text.now in
    let all = bodies s in
    let inner = enter text all f.class_count in
    let o = reverse fs in
    let here : context_at f o ≡ context_at g o =
    same_context (numbers (reverse o) ++ f.number ∷ []) (numbers (reverse o) ++ g.number ∷ []) f.bindings.items g.bindings.items f.enclosing g.enclosing
    (ap (λ x. numbers (reverse o) ++ x ∷ []) (sym number)) (sym bindings) (sym enclosing) in
    let whole : context_at f o ≡ context_of (fs ++ g ∷ []) = here ∙ place_last fs g in
    let p = context_of (fs ++ g ∷ []) in
    let ms = drop g.at s.actions.now in
    let not_done : is_done (m ∷ ms) ≡ false = sym (ap is_done at) ∙ unended in
    let one : finish s f o es ≡ (moved text all p es m >>= λ r. entering inner p r >>= λ more. walk text all inner p ms more) =
    ap (λ x. walk text all inner x (drop f.at s.actions.now) es) whole ∙ ap (λ x. walk text all inner p x es) at ∙ walk_on text all inner p m ms es not_done in
    let later : (more : State) → (walk text all inner p ms more >>= run_all s fs) ≡ run_all s (fs ++ g ∷ []) more =
    λ more. sym (run_last s fs g more ∙ ap (λ (x : Walked). x >>= run_all s fs) (ap (λ k. walk text all (enter text all k) (context_at g o) ms more) class_count ∙ ap (λ x. walk text all inner x ms more) (place_last fs g))) in
    run_last s fs f es ∙ ap (λ (x : Walked). x >>= run_all s fs) one
    ∙ regroup (moved text all p es m) (entering inner p) (λ more. walk text all inner p ms more) (run_all s fs)
    ∙ by (moved text all p es m) (λ r. same_after (entering inner p r) (λ more. walk text all inner p ms more >>= run_all s fs) (run_all s (fs ++ g ∷ [])) later)
  where
    by : (a : Result Moved Fault) {f g : Moved → Walked} → ((r : Moved) → f r ≡ g r) → (a >>= f) ≡ (a >>= g)
    by (Err e) h = refl
    by (Ok r) h = h r

-- the innermost use costs what is left of it
pub cost_last : (s : WalkInput) (fs : List Activation) (f : Activation) → cost_all s (fs ++ f ∷ []) ≡ cost_all s fs + activation_cost s f
unfolding cost_all
cost_last s [] f = omega arith
cost_last s (g ∷ fs) f = omega (arith, cost_last s fs f)

abbrev use_of : Result Moved Fault → Option PendingUse
use_of (Ok r) = r.1
use_of (Err f) = None

abbrev is_fine : Result Moved Fault → Bool
is_fine (Ok r) = true
is_fine (Err f) = false

kept : (a : Result Bool Fault) (xs ys : State) (x e : Option PendingUse) → (a >>= λ _. (let r : Result Moved Fault = Ok (xs, x) in r)) ≡ Ok (ys, e) → e ≡ x
kept (Ok b) xs ys x e h = sym (ap use_of h)
kept (Err f) xs ys x e h = absurd (let q : false ≡ true = ap is_fine h in cc)

element_none : (b : Bool) (f : Fault) (a : Result Bool Fault) (xs ys : State) (e : Option PendingUse)
    → cond b (a >>= λ _. (let r : Result Moved Fault = Ok (xs, None) in r)) (Err f) ≡ Ok (ys, e) → e ≡ None
element_none true f a xs ys e h = kept a xs ys None e h
element_none false f a xs ys e h = absurd (let q : false ≡ true = ap is_fine h in cc)

room_none : (b : Bool) (xs ys : State) (f : Fault) (e : Option PendingUse) → cond b (let r : Result Moved Fault = Ok (xs, None) in r) (Err f) ≡ Ok (ys, e) → e ≡ None
room_none true xs ys f e h = sym (ap use_of h)
room_none false xs ys f e h = absurd (let q : false ≡ true = ap is_fine h in cc)

-- what walking the use that an action makes costs
abbrev action_cost : WalkInput → ℕ → Action → ℕ
action_cost s class_count (actions.Enter k u offset) = enter_cost (bodies s) class_count k
action_cost s class_count _ = 0

use_cost_of : (s : WalkInput) (class_count : ℕ) (p : Context) (m : Action) (es ys : State) (e : Option PendingUse) → moved s.text.now (bodies s) p es m ≡ Ok (ys, e) → use_cost s class_count e ≡ action_cost s class_count m
unfolding moved roomed element_moved entered
use_cost_of s class_count p actions.Class es ys e h = ap (use_cost s class_count) (sym (ap use_of h))
use_cost_of s class_count p (actions.Parameter w) es ys e h = ap (use_cost s class_count) (sym (ap use_of h))
use_cost_of s class_count p actions.Close es ys e h = ap (use_cost s class_count) (sym (ap use_of h))
use_cost_of s class_count p (actions.Name f) es ys e h = ap (use_cost s class_count) (sym (ap use_of h))
use_cost_of s class_count p (actions.MissingPort f) es ys e h = absurd (let q : false ≡ true = ap is_fine h in cc)
use_cost_of s class_count p (actions.Count k u) es ys e h = ap (use_cost s class_count) (kept (counted s.text.now (bodies s) p.bindings k u) es ys None e h)
use_cost_of s class_count p (actions.Room n u) es ys e h =
    ap (use_cost s class_count) (room_none (nat_le (length es.elements + n) 512) es ys (wrong whys.TooManyElements u.class.from) e h)
use_cost_of s class_count p (actions.Element name u) es ys e h =
    ap (use_cost s class_count) (element_none (nat_lt (length es.elements) 512) (wrong whys.TooManyElements u.class.from) (known_names s.text.now p.bindings u) (with_element s.text.now p es name u) ys e h)
use_cost_of s class_count p (actions.Enter k u offset) es ys e h =
    ap (use_cost s class_count) (kept (known_names s.text.now p.bindings u) (with_use p es offset) ys (Some (record { class = k; number = length es.elements; enclosing = length es.created + 1; arguments = arguments_in s.text.now p.bindings u })) e h)
use_cost_of s class_count p (actions.Connect arrow from to) es ys e h = ap (use_cost s class_count) (sym (ap use_of h))

cost_on : (s : WalkInput) (class_count : ℕ) (m : Action) (ms : List Action) → is_done (m ∷ ms) ≡ false
    → action_cost s class_count m + walk_cost (enter_cost (bodies s) class_count) ms < walk_cost (enter_cost (bodies s) class_count) (m ∷ ms)
unfolding walk_cost
cost_on s class_count actions.Close ms h = absurd (let x : true ≡ false = h in cc)
cost_on s class_count (actions.Enter k u offset) ms h = omega arith
cost_on s class_count actions.Class ms h = omega arith
cost_on s class_count (actions.Parameter w) ms h = omega arith
cost_on s class_count (actions.Name f) ms h = omega arith
cost_on s class_count (actions.MissingPort f) ms h = omega arith
cost_on s class_count (actions.Count k u) ms h = omega arith
cost_on s class_count (actions.Room n u) ms h = omega arith
cost_on s class_count (actions.Element name u) ms h = omega arith
cost_on s class_count (actions.Connect arrow from to) ms h = omega arith

cost_some : (inner : ℕ → ℕ) (ms : List Action) → 0 < walk_cost inner ms
unfolding walk_cost
cost_some inner [] = omega arith
cost_some inner (actions.Close ∷ ms) = omega arith
cost_some inner (actions.Enter k u offset ∷ ms) = omega arith
cost_some inner (actions.Class ∷ ms) = omega arith
cost_some inner (actions.Parameter w ∷ ms) = omega arith
cost_some inner (actions.Name f ∷ ms) = omega arith
cost_some inner (actions.MissingPort f ∷ ms) = omega arith
cost_some inner (actions.Count k u ∷ ms) = omega arith
cost_some inner (actions.Room n u ∷ ms) = omega arith
cost_some inner (actions.Element name u ∷ ms) = omega arith
cost_some inner (actions.Connect arrow from to ∷ ms) = omega arith

-- a step costs something
pub cost_end : (s : WalkInput) (fs : List Activation) (f : Activation) → cost_all s fs < cost_all s (fs ++ f ∷ [])
cost_end s fs f = omega (arith, cost_last s fs f, cost_some (enter_cost (bodies s) f.class_count) (drop f.at s.actions.now))

pub cost_step : (s : WalkInput) (fs : List Activation) (f g : Activation) (m : Action) (p : Context) (es ys : State) (e : Option PendingUse)
    → drop f.at s.actions.now ≡ m ∷ drop g.at s.actions.now → is_done (drop f.at s.actions.now) ≡ false → g.class_count ≡ f.class_count
    → moved s.text.now (bodies s) p es m ≡ Ok (ys, e) → cost_all s (fs ++ g ∷ []) + use_cost s f.class_count e < cost_all s (fs ++ f ∷ [])
cost_step s fs f g m p es ys e at unended class_count h =
    let not_done : is_done (m ∷ drop g.at s.actions.now) ≡ false = sym (ap is_done at) ∙ unended in
    let inner = enter_cost (bodies s) f.class_count in
    let a : activation_cost s f ≡ walk_cost inner (m ∷ drop g.at s.actions.now) = ap (walk_cost inner) at in
    let b : activation_cost s g ≡ walk_cost inner (drop g.at s.actions.now) = ap (λ k. walk_cost (enter_cost (bodies s) k) (drop g.at s.actions.now)) class_count in
    let u = use_cost_of s f.class_count p m es ys e h in
    let c = cost_on s f.class_count m (drop g.at s.actions.now) not_done in
    omega (arith, cost_last s fs f, cost_last s fs g, a, b, u, c)

pub top_is : (fs : List Activation) (f : Activation) → slice_get fs (length fs - 1) ≡ Some f → top_bindings fs ≡ f.bindings.items
top_is [] f h = absurd (let q : None ≡ Some f = h in cc)
top_is (g ∷ []) f h = let q : Some g ≡ Some f = h in let r : g ≡ f = cc in ap (λ (x : Activation). x.bindings.items) r
top_is (g ∷ k ∷ fs) f h =
    let n : length (g ∷ k ∷ fs) - 1 ≡ suc (length (k ∷ fs) - 1) = omega arith in
    top_is (k ∷ fs) f (ap (slice_get (g ∷ k ∷ fs)) (sym n) ∙ h)

pub bound_none : (text : List ℕ) (ms : List Action) (xs : List (List ℕ)) → length xs < 1 → bound text ms xs ≡ []
bound_none text ms (x ∷ xs) h = absurd (omega arith)
bound_none text [] [] h = refl
bound_none text (actions.Parameter w ∷ ms) [] h = refl
bound_none text (actions.Close ∷ ms) [] h = refl
bound_none text (actions.Class ∷ ms) [] h = refl
bound_none text (actions.Name f ∷ ms) [] h = refl
bound_none text (actions.MissingPort f ∷ ms) [] h = refl
bound_none text (actions.Count k u ∷ ms) [] h = refl
bound_none text (actions.Room n u ∷ ms) [] h = refl
bound_none text (actions.Element name u ∷ ms) [] h = refl
bound_none text (actions.Enter k u offset ∷ ms) [] h = refl
bound_none text (actions.Connect arrow from to ∷ ms) [] h = refl

-- a use that begins, and one that is none
pub cost_use : (s : WalkInput) (fs : List Activation) (f : Activation) (class_count : ℕ) (e : PendingUse) → e.class < class_count → drop f.at s.actions.now ≡ body_of (bodies s) e.class → f.class_count ≡ e.class
    → cost_all s (fs ++ f ∷ []) ≡ cost_all s fs + use_cost s class_count (Some e)
cost_use s fs f class_count e lt at same =
    let a : activation_cost s f ≡ walk_cost (enter_cost (bodies s) e.class) (body_of (bodies s) e.class) = ap (λ k. walk_cost (enter_cost (bodies s) k) (drop f.at s.actions.now)) same ∙ ap (walk_cost (enter_cost (bodies s) e.class)) at in
    cost_last s fs f ∙ ap (λ x. cost_all s fs + x) (a ∙ sym (cost_known (bodies s) class_count e.class lt))

pub cost_no_use : (s : WalkInput) (fs : List Activation) (class_count : ℕ) (e : PendingUse) → class_count ≤ e.class → cost_all s fs ≡ cost_all s fs + use_cost s class_count (Some e)
cost_no_use s fs class_count e le = omega (arith, cost_beyond (bodies s) class_count e.class le)

-- the numbers of the enclosing uses, one after the other
pub numbers_step : (fs : List Activation) (f : Activation) → 1 ≤ length fs → f ≡ get_or fs 0 f → scope_text (numbers fs) ≡ (decimal f.number ++ 47 ∷ []) ++ scope_text (numbers (take (length fs - 1) (drop 1 fs)))
numbers_step [] f h e = absurd (omega arith)
numbers_step (g ∷ gs) f h e =
    let n : length (g ∷ gs) - 1 ≡ length gs = omega arith in
    let rest : take (length (g ∷ gs) - 1) gs ≡ gs = ap (λ k. take k gs) n ∙ take-length gs in
    flat_map-cons (λ n. decimal n ++ 47 ∷ []) g.number (numbers gs)
    ∙ ap (λ (x : Activation). (decimal x.number ++ 47 ∷ []) ++ scope_text (numbers gs)) (sym e)
    ∙ ap (λ (x : List Activation). (decimal f.number ++ 47 ∷ []) ++ scope_text (numbers x)) (sym rest)

-- a fault of an action is one of the whole
pub faulted : (e : ReadError) (a : Result Moved Fault) (rest : Moved → Walked) (old new : Walked) → Fails e a → old ≡ (a >>= rest) → Continues {X = Unit {0}} (Err e) old new
faulted errors.Memory a rest old new h q = tt
faulted (errors.Fault f) a rest old new h q = q ∙ ap (λ (x : Result Moved Fault). x >>= rest) h

pub unended_within : (ms : List Action) (i : ℕ) → is_done (drop i ms) ≡ false → i < length ms
unended_within [] zero h = absurd (let q : true ≡ false = h in cc)
unended_within [] (suc i) h = absurd (let q : true ≡ false = h in cc)
unended_within (m ∷ ms) zero h = omega arith
unended_within (m ∷ ms) (suc i) h = let later : i < length ms = unended_within ms i h in omega arith

-- a step on: the action that is next
module _ (s : WalkInput) (fs activations : List Activation) (f g : Activation) (d : Action) (es : State) (same : activations ≡ fs ++ f ∷ []) (unended : is_done (drop f.at s.actions.now) ≡ false)
    (next : g.at ≡ f.at + 1) (class_count : g.class_count ≡ f.class_count) (number : g.number ≡ f.number) (enclosing : g.enclosing ≡ f.enclosing) (bindings : g.bindings.items ≡ f.bindings.items) where
  at_next : drop f.at s.actions.now ≡ get_or s.actions.now f.at d ∷ drop g.at s.actions.now
  at_next = drop_more s.actions.now f.at d (unended_within s.actions.now f.at unended) ∙ ap (λ k. get_or s.actions.now f.at d ∷ drop k s.actions.now) (sym next)

  whole_step : run_all s activations es ≡ (moved s.text.now (bodies s) (context_of (fs ++ g ∷ [])) es (get_or s.actions.now f.at d) >>= λ r. entering (enter s.text.now (bodies s) f.class_count) (context_of (fs ++ g ∷ [])) r >>= run_all s (fs ++ g ∷ []))
  whole_step = ap (λ x. run_all s x es) same ∙ run_on s fs f g (get_or s.actions.now f.at d) es at_next unended class_count number enclosing bindings

  pub step_fault : (e : ReadError) (new : Walked) → Fails e (moved s.text.now (bodies s) (context_of (fs ++ g ∷ [])) es (get_or s.actions.now f.at d)) → Continues {X = Unit {0}} (Err e) (run_all s activations es) new
  step_fault e new h = faulted e (moved s.text.now (bodies s) (context_of (fs ++ g ∷ [])) es (get_or s.actions.now f.at d)) (λ r. entering (enter s.text.now (bodies s) f.class_count) (context_of (fs ++ g ∷ [])) r >>= run_all s (fs ++ g ∷ [])) (run_all s activations es) new h whole_step

  pub step_run : (ys : State) (e : Option PendingUse) → moved s.text.now (bodies s) (context_of (fs ++ g ∷ [])) es (get_or s.actions.now f.at d) ≡ Ok (ys, e)
      → run_all s activations es ≡ used s f.class_count (fs ++ g ∷ []) e ys
  step_run ys e h = whole_step ∙ ap (λ (x : Result Moved Fault). x >>= λ r. entering (enter s.text.now (bodies s) f.class_count) (context_of (fs ++ g ∷ [])) r >>= run_all s (fs ++ g ∷ [])) h

  pub step_cost : (ys : State) (e : Option PendingUse) → moved s.text.now (bodies s) (context_of (fs ++ g ∷ [])) es (get_or s.actions.now f.at d) ≡ Ok (ys, e)
      → cost_all s (fs ++ g ∷ []) + use_cost s f.class_count e < cost_all s activations
  step_cost ys e h =
      let c = cost_step s fs f g (get_or s.actions.now f.at d) (context_of (fs ++ g ∷ [])) es ys e at_next unended class_count h in
      omega (arith, c, ap (cost_all s) same)

whole_ok : (x : Walked) → (x >>= λ es. Ok es) ≡ x
whole_ok (Ok es) = refl
whole_ok (Err f) = refl

-- the first use
pub run_first : (s : WalkInput) (class_count : ℕ) (e : Option PendingUse) (es : State) → used s class_count [] e es ≡ entering (enter s.text.now (bodies s) class_count) top (es, e)
unfolding run_all run
run_first s class_count e es = whole_ok (entering (enter s.text.now (bodies s) class_count) top (es, e))

pub run_nothing : (s : WalkInput) (fs : List Activation) (es : State) → length fs ≡ 0 → run_all s fs es ≡ Ok es
unfolding run_all run
run_nothing s [] es h = refl
run_nothing s (f ∷ fs) es h = absurd (omega arith)

pub enclosing_is : (fs : List Activation) (f : Activation) → slice_get fs (length fs - 1) ≡ Some f → top_enclosing fs ≡ f.enclosing
enclosing_is [] f h = absurd (let q : None ≡ Some f = h in cc)
enclosing_is (g ∷ []) f h = let q : Some g ≡ Some f = h in let r : g ≡ f = cc in ap (λ (x : Activation). x.enclosing) r
enclosing_is (g ∷ k ∷ fs) f h =
    let n : length (g ∷ k ∷ fs) - 1 ≡ suc (length (k ∷ fs) - 1) = omega arith in
    enclosing_is (k ∷ fs) f (ap (slice_get (g ∷ k ∷ fs)) (sym n) ∙ h)
