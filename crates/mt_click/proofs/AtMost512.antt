-- A walk makes at most 512 elements, and what it makes are elements that are there and uses.
use Rattle.std.proofs.Common.{◌≡◌, ℕ, zero, suc, ◌+◌, ◌<◌, ◌≤◌, List, [], ◌∷◌, ◌++◌, length, cond, nat_le, nat_lt, Bool, true, false, Option, Some, None, Result, Ok, Err, refl, sym, subst, inl, inr, arith}
use Rattle.std.specs.List.{Contains}
use Rattle.std.proofs.lemmas.List.Elements.{Contains-push_cases}
use Rattle.mt_click.specs.declared.action.CreatedItem.{CreatedItem}
use Rattle.mt_click.specs.declared.action.CreatedItem.TheVariants as created_items
use Rattle.mt_click.specs.declared.action.Created.{Created}
use Rattle.mt_click.specs.declared.action.Side.{Side}
use Rattle.std.proofs.lemmas.List.{length-append}
use Rattle.std.proofs.Math.Dec.{eqb}
use Rattle.std.proofs.lemmas.Bool.Decides.{nat_tests}
use Rattle.mt_syntax.specs.declared.fault.Fault.{Fault}
use Rattle.mt_syntax.specs.declared.fault.ClickWhy.TheVariants as whys
use Rattle.mt_syntax.specs.declared.phrase.Phrase.{Phrase}
use Rattle.mt_syntax.specs.declared.word.Word.{Word}
use Rattle.mt_syntax.specs.declared.phrase.Use.{Use}
use Rattle.mt_click.specs.declared.action.Action.{Action}
use Rattle.mt_click.specs.declared.action.Action.TheVariants as actions
use Rattle.mt_click.specs.declared.perform.PendingUse.{PendingUse}
use Rattle.mt_syntax.specs.Reading.{◌>>=◌, phrases_in}
use Rattle.mt_click.specs.Actions.{wrong, actions_in}
use Rattle.mt_click.specs.Building.{built_in}
use Rattle.mt_click.specs.Elements.{Context, State, with_element, with_use, with_connection, empty, element_of, arguments_in, top}
use Rattle.mt_click.specs.Walk.{Moved, Walked, walk, walk_all, walked, enter, entering, moved, body_of, bodies_in, context_in, counted, roomed, element_moved, entered, known_names}

-- an element that is there
abbrev pub IsThere : ℕ → CreatedItem → Type 0
IsThere count (created_items.Element n) = n < count
IsThere count (created_items.Use n) = Unit {0}

pub record Few (s : State) : Type 0 where
  pub few : length s.elements ≤ 512
  pub created : (m : Created) → Contains s.created m → IsThere (length s.elements) m.item

abbrev pub AllFew : Walked → Type 0
AllFew (Ok s) = Few s
AllFew (Err f) = Unit {0}

there_more : (count : ℕ) (t : CreatedItem) → IsThere count t → IsThere (count + 1) t
there_more count (created_items.Element n) h = let less : n < count = h in omega (arith, less)
there_more count (created_items.Use n) h = tt

few_element : (text : List ℕ) (p : Context) (s : State) (name : Option Word) (u : Use) → length s.elements < 512 → Few s → Few (with_element text p s name u)
few_element text p s name u less h =
    let e : length (s.elements ++ element_of text p.numbers p.bindings name u ∷ []) ≡ length s.elements + 1 = length-append s.elements (element_of text p.numbers p.bindings name u ∷ []) in
    record {
      few = omega (arith, e);
      created = λ m c. subst (λ n. IsThere n m.item) (sym e) (elim (Contains-push_cases s.created _ m c) [
        | inl old ↦ there_more (length s.elements) m.item (h.created m old)
        | inr new ↦ subst (λ (x : Created). IsThere (length s.elements + 1) x.item) new (let n : length s.elements < length s.elements + 1 = omega arith in n)
      ]);
    }

few_use : (p : Context) (s : State) (offset : ℕ) → Few s → Few (with_use p s offset)
few_use p s offset h = record {
  few = h.few;
  created = λ m c. elim (Contains-push_cases s.created _ m c) [
    | inl old ↦ h.created m old
    | inr new ↦ subst (λ (x : Created). IsThere (length s.elements) x.item) new tt
  ];
}

few_connect : (p : Context) (s : State) (arrow : ℕ) (from to : Side) → Few s → Few (with_connection p s arrow from to)
few_connect p s arrow from to h = record { few = h.few; created = h.created }

abbrev AreFew : Result Moved Fault → Type 0
AreFew (Ok r) = Few r.0
AreFew (Err f) = Unit {0}

kept : (a : Result Bool Fault) (es : State) (e : Option PendingUse) → Few es → AreFew (a >>= λ _. Ok (es, e))
kept (Ok b) es e h = h
kept (Err f) es e h = tt

one_more : (b : Bool) (f : Fault) (a : Result Bool Fault) (text : List ℕ) (p : Context) (es : State) (name : Option Word) (u : Use) → nat_lt (length es.elements) 512 ≡ b → Few es
    → AreFew (cond b (a >>= λ _. Ok (with_element text p es name u, None)) (Err f))
one_more true f a text p es name u q h =
    let less : length es.elements < 512 = grind (arith, nat_tests) in
    kept a (with_element text p es name u) None (few_element text p es name u less h)
one_more false f a text p es name u q h = tt

enough : (b : Bool) (es : State) (f : Fault) → Few es → AreFew (cond b (Ok (es, None)) (Err f))
enough true es f h = h
enough false es f h = tt

few_moved : (text : List ℕ) (all : List (List Action)) (p : Context) (es : State) (m : Action) → Few es → AreFew (moved text all p es m)
unfolding moved roomed element_moved entered
few_moved text all p es actions.Class h = h
few_moved text all p es (actions.Parameter w) h = h
few_moved text all p es actions.Close h = h
few_moved text all p es (actions.Name f) h = h
few_moved text all p es (actions.MissingPort f) h = tt
few_moved text all p es (actions.Count k u) h = kept (counted text all p.bindings k u) es None h
few_moved text all p es (actions.Room n u) h = enough (nat_le (length es.elements + n) 512) es (wrong whys.TooManyElements u.class.from) h
few_moved text all p es (actions.Element name u) h =
    one_more (nat_lt (length es.elements) 512) (wrong whys.TooManyElements u.class.from) (known_names text p.bindings u) text p es name u refl h
few_moved text all p es (actions.Enter k u offset) h = kept (known_names text p.bindings u) (with_use p es offset) (Some (record { class = k; number = length es.elements; enclosing = length es.created + 1; arguments = arguments_in text p.bindings u })) (few_use p es offset h)
few_moved text all p es (actions.Connect arrow from to) h = few_connect p es arrow from to h

abbrev KeepsFew : (Context → PendingUse → State → Walked) → Type 0
KeepsFew inner = (p : Context) (e : PendingUse) (es : State) → Few es → AllFew (inner p e es)

few_entering : (inner : Context → PendingUse → State → Walked) → KeepsFew inner → (p : Context) (r : Moved) → Few r.0 → AllFew (entering inner p r)
few_entering inner keeps p (es, None) h = h
few_entering inner keeps p (es, Some e) h = keeps p e es h

few_then : (x : Walked) (rest : State → Walked) → AllFew x → ((es : State) → Few es → AllFew (rest es)) → AllFew (x >>= rest)
few_then (Ok es) rest h k = k es h
few_then (Err f) rest h k = tt

few_on : (a : Result Moved Fault) (inner : Context → PendingUse → State → Walked) (p : Context) (rest : State → Walked) → AreFew a → KeepsFew inner → ((es : State) → Few es → AllFew (rest es))
    → AllFew (a >>= λ r. entering inner p r >>= rest)
few_on (Ok r) inner p rest h keeps k = few_then (entering inner p r) rest (few_entering inner keeps p r h) k
few_on (Err f) inner p rest h keeps k = tt

few_walk : (text : List ℕ) (all : List (List Action)) (inner : Context → PendingUse → State → Walked) → KeepsFew inner → (p : Context) (ms : List Action) (es : State) → Few es → AllFew (walk text all inner p ms es)
unfolding walk
few_walk text all inner keeps p [] es h = h
few_walk text all inner keeps p (actions.Close ∷ ms) es h = h
few_walk text all inner keeps p (actions.Class ∷ ms) es h = few_on (moved text all p es actions.Class) inner p (walk text all inner p ms) (few_moved text all p es actions.Class h) keeps (λ more k. few_walk text all inner keeps p ms more k)
few_walk text all inner keeps p (actions.Parameter w ∷ ms) es h = few_on (moved text all p es (actions.Parameter w)) inner p (walk text all inner p ms) (few_moved text all p es (actions.Parameter w) h) keeps (λ more k. few_walk text all inner keeps p ms more k)
few_walk text all inner keeps p (actions.Name f ∷ ms) es h = few_on (moved text all p es (actions.Name f)) inner p (walk text all inner p ms) (few_moved text all p es (actions.Name f) h) keeps (λ more k. few_walk text all inner keeps p ms more k)
few_walk text all inner keeps p (actions.MissingPort f ∷ ms) es h = few_on (moved text all p es (actions.MissingPort f)) inner p (walk text all inner p ms) (few_moved text all p es (actions.MissingPort f) h) keeps (λ more k. few_walk text all inner keeps p ms more k)
few_walk text all inner keeps p (actions.Count k u ∷ ms) es h = few_on (moved text all p es (actions.Count k u)) inner p (walk text all inner p ms) (few_moved text all p es (actions.Count k u) h) keeps (λ more k. few_walk text all inner keeps p ms more k)
few_walk text all inner keeps p (actions.Room n u ∷ ms) es h = few_on (moved text all p es (actions.Room n u)) inner p (walk text all inner p ms) (few_moved text all p es (actions.Room n u) h) keeps (λ more k. few_walk text all inner keeps p ms more k)
few_walk text all inner keeps p (actions.Element name u ∷ ms) es h = few_on (moved text all p es (actions.Element name u)) inner p (walk text all inner p ms) (few_moved text all p es (actions.Element name u) h) keeps (λ more k. few_walk text all inner keeps p ms more k)
few_walk text all inner keeps p (actions.Connect arrow from to ∷ ms) es h = few_on (moved text all p es (actions.Connect arrow from to)) inner p (walk text all inner p ms) (few_moved text all p es (actions.Connect arrow from to) h) keeps (λ more k. few_walk text all inner keeps p ms more k)
few_walk text all inner keeps p (actions.Enter k u offset ∷ ms) es h = few_on (moved text all p es (actions.Enter k u offset)) inner p (walk text all inner p ms) (few_moved text all p es (actions.Enter k u offset) h) keeps (λ more k. few_walk text all inner keeps p ms more k)

few_cond : (b : Bool) (x y : Walked) → AllFew x → AllFew y → AllFew (cond b x y)
few_cond true x y h k = h
few_cond false x y h k = k

few_enter : (text : List ℕ) (all : List (List Action)) (n : ℕ) → KeepsFew (enter text all n)
unfolding enter
few_enter text all zero p e es h = h
few_enter text all (suc n) p e es h =
    few_cond (eqb e.class n) (walk text all (enter text all n) (context_in text all p e) (body_of all n) es) (enter text all n p e es)
    (few_walk text all (enter text all n) (few_enter text all n) (context_in text all p e) (body_of all n) es h) (few_enter text all n p e es h)

few_top : (text : List ℕ) (all : List (List Action)) (known : ℕ) (inside : Bool) (m : Action) (ms : List Action) (es : State)
    → ((k : ℕ) (i : Bool) (more : State) → Few more → AllFew (walk_all text all k i ms more)) → Few es
    → AllFew (cond inside (walk_all text all known true ms es) (moved text all top es m >>= λ r. entering (enter text all known) top r >>= λ more. walk_all text all known false ms more))
few_top text all known inside m ms es later h =
    few_cond inside (walk_all text all known true ms es) (moved text all top es m >>= λ r. entering (enter text all known) top r >>= λ more. walk_all text all known false ms more) (later known true es h)
    (few_on (moved text all top es m) (enter text all known) top (walk_all text all known false ms) (few_moved text all top es m h) (few_enter text all known) (λ more k. later known false more k))

few_all : (text : List ℕ) (all : List (List Action)) (ms : List Action) (known : ℕ) (inside : Bool) (es : State) → Few es → AllFew (walk_all text all known inside ms es)
unfolding walk_all
few_all text all [] known inside es h = h
few_all text all (actions.Class ∷ ms) known inside es h = few_all text all ms (known + 1) true es h
few_all text all (actions.Close ∷ ms) known inside es h = few_all text all ms known false es h
few_all text all (actions.Name f ∷ ms) known inside es h = tt
few_all text all (actions.Parameter w ∷ ms) known inside es h = few_top text all known inside (actions.Parameter w) ms es (few_all text all ms) h
few_all text all (actions.MissingPort f ∷ ms) known inside es h = few_top text all known inside (actions.MissingPort f) ms es (few_all text all ms) h
few_all text all (actions.Count k u ∷ ms) known inside es h = few_top text all known inside (actions.Count k u) ms es (few_all text all ms) h
few_all text all (actions.Room n u ∷ ms) known inside es h = few_top text all known inside (actions.Room n u) ms es (few_all text all ms) h
few_all text all (actions.Element name u ∷ ms) known inside es h = few_top text all known inside (actions.Element name u) ms es (few_all text all ms) h
few_all text all (actions.Connect arrow from to ∷ ms) known inside es h = few_top text all known inside (actions.Connect arrow from to) ms es (few_all text all ms) h
few_all text all (actions.Enter k u offset ∷ ms) known inside es h = few_top text all known inside (actions.Enter k u offset) ms es (few_all text all ms) h

pub few : (text : List ℕ) → AllFew (built_in text)
few text = by (phrases_in text)
  where
    by : (r : Result (List Phrase) Fault) → AllFew (r >>= λ ps. walked text (actions_in text ps))
    by (Ok ps) = few_all text (bodies_in (actions_in text ps)) (actions_in text ps) 0 false empty (record { few = omega arith; created = λ m c. let lt = c.1 in absurd (omega (arith, lt)) })
    by (Err f) = tt

pub few_found : (es : State) (read : Walked) → read ≡ Ok es → AllFew read → Few es
few_found es read e h = subst AllFew e h
