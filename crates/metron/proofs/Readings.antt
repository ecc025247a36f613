-- A text has no two readings.
use Rattle.std.proofs.Common.{◌≡◌, ◌⊎◌, inl, inr, ◌<◌, ◌≤◌, ℕ, List, Result, Ok, Err, length, refl, sym, ◌∙◌, ap, subst, arith}
use Rattle.mt_graph.specs.declared.Element.{Element}
use Rattle.mt_graph.specs.declared.Wire.{Wire}
use Rattle.mt_graph.specs.declared.Graph.{Graph}
use Rattle.mt_syntax.specs.Position.{located}
use Rattle.mt_syntax.specs.declared.fault.Fault.{Fault as TextFault}
use Rattle.mt_syntax.specs.declared.fault.ClickFault.{ClickFault}
use Rattle.mt_click.specs.Graphs.{IsGraph, IsFault, OneReading}
use Rattle.mt_elements.specs.declared.fault.ChainFault.{ChainFault}
use Rattle.mt_elements.specs.ChainState.{ChainState}
use Rattle.mt_elements.specs.Described.{IsChainOf}
use Rattle.mt_elements.specs.Accepted.{IsAccepted}
use Rattle.mt_elements.specs.Refused.{IsRefused}
use Rattle.mt_trees.specs.Elements.{tree_of}
use Rattle.mt_synth.specs.Classes.{HasTrees}
use Rattle.mt_synth.specs.Laws.{ClassesCounted}
use Rattle.metron.specs.Causes.{IsClassCount}
use Rattle.metron.specs.Inputs.{text_limit, HasClasses, IsChain, ReadsAs}
use Rattle.metron.specs.declared.outcome.FileId.TheVariants as file
use Rattle.metron.specs.declared.outcome.Fault.{Fault}
use Rattle.metron.specs.declared.outcome.Fault.TheVariants.{TooLong, Click, Classes}
use Rattle.metron.specs.declared.outcome.Fault.TheVariants as fault

-- ---- a graph has no two answers

abbrev Answer : Type 0
Answer = Result ChainState ChainFault

abbrev IsAnswer : List Element → List Wire → Answer → Type 0
IsAnswer elements wires (Ok chain) = IsChainOf elements wires chain × IsAccepted chain
IsAnswer elements wires (Err told) = IsRefused elements wires told

pub record ChainLaws : Type 0 where
  pub chain : (elements : List Element) (wires : List Wire) (c d : ChainState) → IsChainOf elements wires c → IsChainOf elements wires d → c ≡ d
  pub either : (elements : List Element) (wires : List Wire) (c : ChainState) (f : ChainFault) → IsChainOf elements wires c → IsAccepted c → IsRefused elements wires f → ⊥
  pub refusal : (elements : List Element) (wires : List Wire) (f g : ChainFault) → IsRefused elements wires f → IsRefused elements wires g → f ≡ g

one_of_graph : ChainLaws → (elements : List Element) (wires : List Wire) (a b : Answer) → IsAnswer elements wires a → IsAnswer elements wires b → a ≡ b
one_of_graph laws elements wires (Ok c) (Ok d) is other = ap Ok (laws.chain elements wires c d is.0 other.0)
one_of_graph laws elements wires (Ok c) (Err f) is other = absurd (laws.either elements wires c f is.0 is.1 other)
one_of_graph laws elements wires (Err f) (Ok c) is other = absurd (laws.either elements wires c f other.0 other.1 is)
one_of_graph laws elements wires (Err f) (Err g) is other = ap Err (laws.refusal elements wires f g is other)

-- ---- readings

-- a chain has classes that are numbered, or too many
abbrev HasTooMany : ChainState → Type 0
HasTooMany chain = HasTrees chain.entries (tree_of chain) 65536

too_many_or_not : ClassesCounted → (chain : ChainState) → HasClasses chain → HasTooMany chain → ⊥
too_many_or_not counted chain has many = let few = has.few in let least = counted.many chain.entries (tree_of chain) has.classes 65536 has.are many in omega (arith, few, least)

-- a chain has one number of classes
pub one_count : ClassesCounted → (chain : ChainState) (n m : ℕ) → IsClassCount chain n → IsClassCount chain m → n ≡ m
one_count counted chain n m is other = is.2 ∙ counted.same chain.entries (tree_of chain) is.0 other.0 is.1 other.1 ∙ sym other.2

abbrev fault_told : ClickFault → Result ChainState Fault
fault_told told = Err (Click told)

abbrev IsReadingOf : Result ChainState Fault → Answer → Type 0
IsReadingOf r (Ok chain) = (HasClasses chain × (r ≡ Ok chain)) ⊎ (HasTooMany chain × (r ≡ Err (Classes 65536)))
IsReadingOf r (Err told) = r ≡ Err (fault.Chain told)

one_of_answer : ClassesCounted → (r s : Result ChainState Fault) (a : Answer) → IsReadingOf r a → IsReadingOf s a → r ≡ s
one_of_answer counted r s (Ok chain) (inl is) (inl so) = is.1 ∙ sym so.1
one_of_answer counted r s (Ok chain) (inl is) (inr so) = absurd (too_many_or_not counted chain is.0 so.0)
one_of_answer counted r s (Ok chain) (inr is) (inl so) = absurd (too_many_or_not counted chain so.0 is.0)
one_of_answer counted r s (Ok chain) (inr is) (inr so) = is.1 ∙ sym so.1
one_of_answer counted r s (Err told) is so = is ∙ sym so

data Reading (text : List ℕ) (r : Result ChainState Fault) : Type 0 where
  too_long : text_limit < length text → r ≡ Err (TooLong file.Chain) → Reading text r
  at_fault : length text ≤ text_limit → (first : TextFault) → IsFault text first → r ≡ fault_told (located text first) → Reading text r
  of_graph : length text ≤ text_limit → (g : Graph) → IsGraph text g → (a : Answer) → IsAnswer g.elements.items g.wires.items a → IsReadingOf r a → Reading text r

of_chain : (text : List ℕ) (r : Result ChainState Fault) (chain : ChainState) → IsChain text chain → IsReadingOf r (Ok chain) → Reading text r
of_chain text r chain is same = of_graph is.short is.graph is.parsed (Ok chain) (is.made, is.accepted) same

reading_is : (text : List ℕ) (r : Result ChainState Fault) → ReadsAs text r → Reading text r
reading_is text (Ok chain) h = of_chain text (Ok chain) chain h.0 (inl (h.1, refl))
reading_is text (Err (TooLong file.Chain)) h = too_long h refl
reading_is text (Err (Click told)) h = at_fault h.short h.first h.is (ap fault_told h.told_is)
reading_is text (Err (fault.Chain told)) h = of_graph h.short h.graph h.parsed (Err told) h.refused refl
reading_is text (Err (Classes count)) h = of_chain text (Err (Classes count)) h.chain h.is (inr (h.many, ap (λ n. Err (Classes n)) h.count_is))
reading_is text (Err other) h = absurd h

module _ (texts : OneReading) (chains : ChainLaws) (counted : ClassesCounted) (text : List ℕ) (r s : Result ChainState Fault) where
  one_of_graphs : (g h : Graph) (a b : Answer) → IsGraph text g → IsGraph text h → IsAnswer g.elements.items g.wires.items a → IsAnswer h.elements.items h.wires.items b → a ≡ b
  one_of_graphs g h a b is other answer second =
      let same = texts.graph text g is h other in
      one_of_graph chains g.elements.items g.wires.items a b answer
      (subst (λ (es : List Element). IsAnswer es g.wires.items b) same.0 (subst (λ (ws : List Wire). IsAnswer h.elements.items ws b) same.1 second))

  one_of : Reading text r → Reading text s → r ≡ s
  one_of (too_long long is) (too_long other so) = is ∙ sym so
  one_of (too_long long is) (at_fault short f at so) = absurd (omega (arith, long, short))
  one_of (too_long long is) (of_graph short h graph b answer so) = absurd (omega (arith, long, short))
  one_of (at_fault short f at is) (too_long long so) = absurd (omega (arith, long, short))
  one_of (at_fault short f at is) (at_fault other g there so) = is ∙ ap (λ (e : TextFault). fault_told (located text e)) (texts.fault text f g at there) ∙ sym so
  one_of (at_fault short f at is) (of_graph other h graph b answer so) = absurd (texts.either text h f graph at)
  one_of (of_graph short g graph a answer is) (too_long long so) = absurd (omega (arith, long, short))
  one_of (of_graph short g graph a answer is) (at_fault other f at so) = absurd (texts.either text g f graph at)
  one_of (of_graph short g graph a answer is) (of_graph other h second b told so) = one_of_answer counted r s b (subst (IsReadingOf r) (one_of_graphs g h a b graph second answer told) is) so

  pub one_reading : ReadsAs text r → ReadsAs text s → r ≡ s
  one_reading reads other = one_of (reading_is text r reads) (reading_is text s other)
