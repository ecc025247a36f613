-- An element has at most as many arguments as the text has bytes.
use Rattle.std.proofs.Common.{ℕ, ◌-◌, ◌≤◌, List, [], ◌∷◌, ◌++◌, length, drop, Option, Some, None, inl, inr, refl, sym, subst, arith}
use Rattle.std.specs.List.{Contains, AllByRecursion}
use Rattle.std.proofs.lemmas.List.{length-take, length-drop}
use Rattle.std.proofs.lemmas.List.Elements.{Contains-append_cases}
use Rattle.mt_syntax.specs.declared.token.Token.{Token}
use Rattle.mt_syntax.specs.declared.word.Word.{Word}
use Rattle.mt_syntax.specs.declared.phrase.Use.{Use}
use Rattle.mt_syntax.specs.declared.replacing.Binding.{Binding}
use Rattle.mt_syntax.specs.Arguments.{shown, separated}
use Rattle.mt_syntax.specs.Balance.{AreWhole, AreWholeBindings, AreClosed}
use Rattle.mt_syntax.specs.Comment.{hidden}
use Rattle.mt_syntax.specs.Replacing.{replaced_in, replaced_from}
use Rattle.mt_syntax.specs.Words.{bytes_of, inner}
use Rattle.mt_syntax.specs.Grammar.{ClassTree, OuterTree, print_config, IsConfig}
use Rattle.mt_syntax.specs.Laws.{TextLaws}
use Rattle.mt_graph.specs.declared.Element.{Element}
use Rattle.mt_click.specs.Declarations.{declared_outside, classes_of, parameters_of}
use Rattle.mt_click.specs.Acts.{body_sight, Act, body_acts, outside_acts}
use Rattle.mt_click.specs.Elements.{Context, State, arguments_in, element_of, own_offset, empty, top, with_element, with_use, with_connection}
use Rattle.mt_click.specs.Expands.{bindings_of, context_inside, Builds, done, makes, expands, comes, leaves, connects, Expands}
use Rattle.mt_click.specs.Sound.{AreArgumentsFew}
use Rattle.mt_lists.proofs.Members.{cases_in, none_in}
use Rattle.mt_click.proofs.ActNames.{StandsIn, Stands, body_tells, outside_tells}
use Rattle.mt_click.proofs.NamesApart.{stands_there}
use Rattle.mt_click.proofs.ArgumentsClosed.{IsClosedWord, AreClosedActs, body_closed, outside_closed, enclosed}

-- acts whose argument texts end at their `)` and whose classes stand among some
pub record Ordered (text : List ℕ) (classes : List ClassTree) (acts : List Act) : Type 0 where
  pub closed : AreClosedActs text acts
  pub stand : AllByRecursion (Stands classes) acts

-- at most so many arguments, each whole
pub record AreFew (most : ℕ) (arguments : List (List ℕ)) : Type 0 where
  pub few : length arguments ≤ most
  pub whole : AreWhole arguments

-- a word is no longer than the text
word_short : (text : List ℕ) (w : Word) → length (bytes_of text w) ≤ length text
unfolding bytes_of
word_short text w =
    let taken = length-take (w.to - w.from) (drop w.from text) in
    let dropped = length-drop w.from text in
    omega (arith, taken, dropped)

bindings_whole : (text : List ℕ) (ts : List Token) (arguments : List (List ℕ)) → AreWhole arguments → AreWholeBindings (bindings_of text ts arguments)
bindings_whole text [] arguments h = tt
bindings_whole text (t ∷ ts) [] h = tt
bindings_whole text (t ∷ ts) (a ∷ arguments) h = (h.0, bindings_whole text ts arguments h.1)

one_more : (most : ℕ) (elements : List Element) (e : Element) → AreArgumentsFew most elements → length e.args ≤ most → AreArgumentsFew most (elements ++ e ∷ [])
one_more most elements e h le x c = elim (Contains-append_cases elements (e ∷ []) x c) [
  | inl before ↦ h x before
  | inr last ↦ elim (cases_in e [] x last) [ inl same ↦ subst (λ (y : Element). length y.args ≤ most) same le | inr later ↦ none_in x later ]
]

-- A use has at most as many arguments as the text has bytes, each whole, where what stands for the
-- parameters is.
word_few : (laws : TextLaws) (text : List ℕ) (bindings : List Binding) (o : Option Word) → AreWholeBindings bindings → IsClosedWord text o → AreFew (length text) (separated (replaced_in bindings (shown (inner text o))))
unfolding inner hidden replaced_from separated
word_few laws text bindings None whole closed = record { few = omega arith; whole = tt }
word_few laws text bindings (Some w) whole closed =
    let le = laws.few_arguments (bytes_of text w) bindings closed whole in
    let short = word_short text w in
    record { few = omega (arith, le, short); whole = laws.arguments_whole (bytes_of text w) bindings closed whole }

use_few : (laws : TextLaws) (text : List ℕ) (bindings : List Binding) (u : Use) → AreWholeBindings bindings → IsClosedWord text u.arguments → AreFew (length text) (arguments_in text bindings u)
unfolding arguments_in
use_few laws text bindings u whole closed = word_few laws text bindings u.arguments whole closed

created_few : (laws : TextLaws) (text : List ℕ) (most : ℕ) (p : Context) (elements : List Element) (name : Option Word) (u : Use) → length text ≤ most → AreWholeBindings p.bindings → IsClosedWord text u.arguments → AreArgumentsFew most elements
    → AreArgumentsFew most (elements ++ element_of text p.numbers p.bindings name u ∷ [])
unfolding element_of
created_few laws text most p elements name u short whole closed h =
    let few = (use_few laws text p.bindings u whole closed).few in
    one_more most elements (element_of text p.numbers p.bindings name u) h (omega (arith, few, short))

-- acts build elements with few arguments, where the body of each class is ordered
abbrev pub AreOrdered : List ClassTree → List ℕ → Type 0
AreOrdered classes text = (before : List ClassTree) (c : ClassTree) → StandsIn classes before c → Ordered text classes (body_acts (body_sight text before c) c.body)

module _ (laws : TextLaws) (classes : List ClassTree) where
  pub built_few : (text : List ℕ) (p : Context) (s : State) (acts : List Act) (t : State) → Builds text p s acts t → (most : ℕ) → length text ≤ most → AreOrdered classes text → Ordered text classes acts → AreWholeBindings p.bindings
      → AreArgumentsFew most s.elements → AreArgumentsFew most t.elements
  built_few _ _ _ _ _ (done text p s) most short bodies ordered whole few = few
  built_few _ _ _ _ _ (makes text p s t name u acts less known b) most short bodies ordered whole few =
      built_few text p (with_element text p s name u) acts t b most short bodies (record { closed = ordered.closed.1; stand = ordered.stand.1 }) whole
      (created_few laws text most p s.elements name u short whole ordered.closed.0 few)
  built_few _ _ _ _ _ (expands text p s m t c before name u acts known arity b d) most short bodies ordered whole few =
      let inside = built_few text (context_inside text p s c u) (with_use p s (own_offset name u)) (body_acts (body_sight text before c) c.body) m b most short bodies (bodies before c ordered.stand.0)
      (bindings_whole text (parameters_of c) (arguments_in text p.bindings u) (use_few laws text p.bindings u whole ordered.closed.0).whole) few in
      built_few text p m acts t d most short bodies (record { closed = ordered.closed.1; stand = ordered.stand.1 }) whole inside
  built_few _ _ _ _ _ (comes text p s t c k acts named b) most short bodies ordered whole few =
      built_few text p s acts t b most short bodies (record { closed = ordered.closed.1; stand = ordered.stand.1 }) whole few
  built_few _ _ _ _ _ (leaves text p s t c k acts named b) most short bodies ordered whole few =
      built_few text p s acts t b most short bodies (record { closed = ordered.closed.1; stand = ordered.stand.1 }) whole few
  built_few _ _ _ _ _ (connects text p s t arrow from to acts b) most short bodies ordered whole few =
      built_few text p (with_connection p s arrow from to) acts t b most short bodies (record { closed = ordered.closed.1; stand = ordered.stand.1 }) whole few

-- A configuration's elements have no more than 1,048,576 arguments, where its text is no longer.
pub arguments_few : (laws : TextLaws) (text : List ℕ) (tree : List OuterTree) (s : State) → length text ≤ 1048576 → IsConfig tree → AreClosed text (print_config tree) → Expands text tree s → AreArgumentsFew 1048576 s.elements
arguments_few laws text tree s short right closed h =
    let classes = classes_of tree in
    let bodies : AreOrdered classes text = λ before c stands.
    let body = enclosed text tree right closed c (subst (λ (cs : List ClassTree). Contains cs c) (sym stands.1) (stands_there before c stands.0)) in
    record {
      closed = body_closed (body_sight text before c) c.body body.right body.closed;
      stand = (body_tells classes (body_sight text before c) (c ∷ stands.0, stands.1) before c.body).stand;
    } in
    let ordered : Ordered text classes (outside_acts text (declared_outside [] tree) [] tree) = record {
      closed = outside_closed text (declared_outside [] tree) [] tree right closed;
      stand = (outside_tells text classes (declared_outside [] tree) [] tree refl).stand;
    } in
    built_few laws classes text top empty (outside_acts text (declared_outside [] tree) [] tree) s h.builds 1048576 short bodies ordered tt (λ e c. none_in e c)
