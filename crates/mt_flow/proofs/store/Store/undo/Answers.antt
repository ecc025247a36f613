use Rattle.std.proofs.Common.{◌≡◌, ◌++◌, ◌∷◌, [], ◌∙◌, List, length, length-append, arith, sym, ap}
use Rattle.mt_flow.proofs.Stored.{HasUndone, undone}
use Rattle.mt_flow.proofs.store.Store.undo.Goals as goal

not_empty : {X : Type 0} (xs : List X) (x : X) → xs ++ x ∷ [] ≡ [] → ⊥
not_empty xs x e = let l = length-append xs (x ∷ []) in let none = ap length e in omega (arith, l, none)

done : (c : goal.After-take_out) → HasUndone c.self.inside.by_forward c.take_out.new.by_forward c.self.inside.indexes c.take_out.new.indexes c.self.inside.next c.take_out.result
done c = undone c.self.inside.by_forward c.take_out.new.by_forward c.self.inside.indexes c.take_out.new.indexes c.self.inside.next c.in-Some.age.now c.in-Some.key.now c.take_out.result
    c.self.invariant.0 c.self.invariant.1 c.in-Some.ensures.last c.take_out.ensures.found c.take_out.ensures.forward c.take_out.ensures.indexes

pub invariant_of-self : goal.invariant_of-self
invariant_of-self c = ((done c).tied, (done c).rising, (done c).counted c.self.invariant.2)

pub returns-clause-empty : goal.returns-clause-empty
returns-clause-empty c = (
  λ none. absurd (let wrong = rw (done c).is at none in cc),
  λ empty. absurd (not_empty _ (done c).gone (sym (done c).list ∙ c.self.view_is ∙ empty)),
)

pub returns-clause-unchanged : goal.returns-clause-unchanged
returns-clause-unchanged c = rw (done c).is tt

pub returns-clause-last : goal.returns-clause-last
returns-clause-last c = rw (done c).is (sym c.self.view_is ∙ (done c).list)
