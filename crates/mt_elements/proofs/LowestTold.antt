-- What is told of the lowest element.
use Rattle.std.proofs.Common.{◌≡◌, refl, sym, subst, ℕ, ◌<◌, List, Option, Some, None, IfSome, IfNone}
use Rattle.mt_graph.specs.declared.Element.{Element}
use Rattle.mt_elements.specs.declared.fault.ChainWhy.{ChainWhy}
use Rattle.mt_elements.specs.declared.fault.Refusal.{Refusal}
use Rattle.mt_elements.specs.declared.fault.Refusal.TheVariants.{Fault}
use Rattle.mt_elements.specs.Told.{told_of, IsLowest, Tells}

-- it is told of an element of which something holds, and of no lower one
pub told : (elements : List Element) (why : ChainWhy) (P : ℕ → Type 0) (element : ℕ) (r : Refusal) → P element → ((other : ℕ) → other < element → P other → ⊥)
    → r ≡ Fault (told_of elements why element) → Tells (IsLowest elements why P) r
told elements why P element r holds lowest e = subst (Tells (IsLowest elements why P)) (sym e) (record { element = element; holds = holds; lowest = lowest; told = refl })

pub at_some : (P : ℕ → Type 0) (o : Option ℕ) (element : ℕ) → o ≡ Some element → IfSome o P → P element
at_some P o element e h = subst (λ x. IfSome x P) e h

pub at_none : (A : Type 0) (o : Option ℕ) → o ≡ None → IfNone o A → A
at_none A o e h = subst (λ x. IfNone x A) e h
