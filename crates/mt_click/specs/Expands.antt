-- What a configuration expands to: a relation between its trees and what is created.
use Rattle.std.specs.Prelude.{◌≡◌, ℕ, ◌+◌, ◌<◌, List, [], ◌∷◌, ◌++◌, length, drop, Option, Some, None, IsTrue, Contains, if◌then◌else◌}
use Rattle.std.specs.List.{AllByRecursion, AllPairs}
use Rattle.mt_syntax.specs.declared.token.Token.{Token}
use Rattle.mt_syntax.specs.declared.word.Word.{Word}
use Rattle.mt_syntax.specs.declared.phrase.Use.{Use}
use Rattle.mt_syntax.specs.declared.replacing.Binding.{Binding}
use Rattle.mt_click.specs.declared.action.Side.{Side}
use Rattle.mt_syntax.specs.Arguments.{shown}
use Rattle.mt_syntax.specs.Replacing.{unknown_in}
use Rattle.mt_syntax.specs.Words.{inner}
use Rattle.mt_syntax.specs.Grammar.{ItemTree, alone, named, made, EndpointTree, StatementTree, connect, declare, InnerTree, sign, plain, ClassTree, OuterTree}
use Rattle.mt_click.specs.Declarations.{spelling, Declaration, declared_body, declared_outside, classes_of, parameters_of, inputs_of, outputs_of}
use Rattle.mt_click.specs.Acts.{Sight, body_sight, is_border, name_meant, Act, element, expand, input, output, join, body_acts, outside_acts}
use Rattle.mt_click.specs.Elements.{Context, State, arguments_in, own_offset, empty, top, with_element, with_use, with_connection}

-- each name is declared once in its scope
abbrev pub IsOther : List ℕ → Token → Token → Type 0
IsOther text a b = spelling text a ≡ spelling text b → ⊥

abbrev pub AreOnce : List ℕ → List Declaration → Type 0
AreOnce text ds = AllPairs (λ a b. IsOther text a.name b.name) ds

-- and each class
abbrev pub AreClassesOnce : List ℕ → List ClassTree → Type 0
AreClassesOnce text cs = AllPairs (λ a b. IsOther text a.name b.name) cs

-- The classes that a body names, each where a use of it stands.
abbrev pub lone_use : Token → Option Declaration → List Token
lone_use t (Some d) = []
lone_use t None = t ∷ []

unfoldable pub item_uses : Sight → ItemTree → List Token
item_uses s (named t colons u) = u.class ∷ []
item_uses s (made t a) = t ∷ []
item_uses s (alone t) = if is_border s t then [] else lone_use t (name_meant s t)

unfoldable pub next_uses : Sight → List (Token × EndpointTree) → List Token
next_uses s [] = []
next_uses s (next ∷ more) = item_uses s next.1.item ++ next_uses s more

unfoldable pub statement_uses : Sight → StatementTree → List Token
statement_uses s (connect e more) = item_uses s e.item ++ next_uses s more
statement_uses s (declare first next more colons last) = last.class ∷ []

unfoldable pub body_uses : Sight → List InnerTree → List Token
body_uses s [] = []
body_uses s (sign t ∷ us) = body_uses s us
body_uses s (plain st ∷ us) = statement_uses s st ++ body_uses s us

-- A class, before which some stand: its body declares each name once, none of them `input` or `output`,
-- and does not use the class's own name.
pub record IsRightClass (text : List ℕ) (before : List ClassTree) (c : ClassTree) : Type 0 where
  pub once : AreOnce text (declared_body before c.body)
  pub inner : AllByRecursion (λ d. IsTrue (is_border (body_sight text before c) d.name) → ⊥) (declared_body before c.body)
  pub apart : AllByRecursion (λ t. IsOther text t c.name) (body_uses (body_sight text before c) c.body)

abbrev pub AreRightClasses : List ℕ → List ClassTree → List ClassTree → Type 0
AreRightClasses text before [] = Unit {0}
AreRightClasses text before (c ∷ cs) = IsRightClass text before c × AreRightClasses text (before ++ c ∷ []) cs

-- what the parameters of a class stand for at a use with these arguments
abbrev pub bindings_of : List ℕ → List Token → List (List ℕ) → List Binding
bindings_of text (t ∷ ts) (a ∷ arguments) = record { name = drop 1 (spelling text t); argument = a } ∷ bindings_of text ts arguments
bindings_of text _ _ = []

-- each `$` name of an argument text is a parameter
abbrev pub AreKnown : List ℕ → List Binding → Use → Type 0
AreKnown text bindings u = unknown_in bindings (shown (inner text u.arguments)) ≡ None

-- in the use of a class, which begins where so much is created
abbrev pub context_inside : List ℕ → Context → State → ClassTree → Use → Context
context_inside text p s c u = record {
  numbers = p.numbers ++ length s.elements ∷ [];
  bindings = bindings_of text (parameters_of c) (arguments_in text p.bindings u);
  enclosing = length s.created + 1;
}

-- Acts in a context, where something is there, build what is there behind them.
pub data Builds : List ℕ → Context → State → List Act → State → Type 0 where
  done : (text : List ℕ) (p : Context) (s : State) → Builds text p s [] s
  -- an element is created, of which there are at most 512
  makes : (text : List ℕ) (p : Context) (s t : State) (name : Option Word) (u : Use) (acts : List Act) → length s.elements < 512 → AreKnown text p.bindings u → Builds text p (with_element text p s name u) acts t → Builds text p s (element name u ∷ acts) t
  -- the body of a class is built with an argument for each parameter
  expands : (text : List ℕ) (p : Context) (s m t : State) (c : ClassTree) (before : List ClassTree) (name : Option Word) (u : Use) (acts : List Act) → AreKnown text p.bindings u → length (arguments_in text p.bindings u) ≡ length (parameters_of c) → Builds text (context_inside text p s c u) (with_use p s (own_offset name u)) (body_acts (body_sight text before c) c.body) m → Builds text p m acts t → Builds text p s (expand c before name u ∷ acts) t
  -- a connection comes to a port that the body names
  comes : (text : List ℕ) (p : Context) (s t : State) (c : ClassTree) (k : ℕ) (acts : List Act) → Contains (inputs_of text c) k → Builds text p s acts t → Builds text p s (input c k ∷ acts) t
  leaves : (text : List ℕ) (p : Context) (s t : State) (c : ClassTree) (k : ℕ) (acts : List Act) → Contains (outputs_of text c) k → Builds text p s acts t → Builds text p s (output c k ∷ acts) t
  connects : (text : List ℕ) (p : Context) (s t : State) (arrow : ℕ) (from to : Side) (acts : List Act) → Builds text p (with_connection p s arrow from to) acts t → Builds text p s (join arrow from to ∷ acts) t

-- A configuration expands to what its acts build from nothing, where no name is declared twice and no
-- class uses itself.
pub record Expands (text : List ℕ) (tree : List OuterTree) (s : State) : Type 0 where
  pub once : AreOnce text (declared_outside [] tree)
  pub classes_once : AreClassesOnce text (classes_of tree)
  pub classes : AreRightClasses text [] (classes_of tree)
  pub builds : Builds text top empty (outside_acts text (declared_outside [] tree) [] tree) s
