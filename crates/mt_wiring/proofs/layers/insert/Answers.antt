use Rattle.std.proofs.Common.{◌≡◌, ℕ, true, ap, ◌∙◌, nat_eq, rules}
use Rattle.std.proofs.lemmas.Bool.{eqb-true}
use Rattle.mt_lists.proofs.Bools.{and_true}
use Rattle.mt_packet.specs.declared.layer.Layer.{Layer}
use Rattle.mt_packet.specs.contracts.layer.LayerPartialEq.TheImpl.{ghosts as layer_ghosts}
use Rattle.mt_wiring.specs.declared.layers.State.{State}
use Rattle.mt_wiring.specs.contracts.layers.StatePartialEq.TheImpl.{ghosts}
use Rattle.mt_wiring.proofs.LayersFound.{inserted, inserted_grows}
use Rattle.mt_wiring.proofs.layers.insert.Goals as goal

same_layer : (k l : Layer) → (layer_ghosts).eq k l ≡ true → k ≡ l
same_layer k l e = search rules

same : (x y : State) → (ghosts).eq x y ≡ true → x ≡ y
same x y e =
    let p = and_true (nat_eq x.element y.element) _ e in
    let q = and_true (nat_eq x.input y.input) _ p.1 in
    let make : ℕ → ℕ → Layer → State = λ a b c. record { element = a; input = b; layer = c } in
    ap (λ a. make a x.input x.layer) (eqb-true x.element y.element p.0)
    ∙ ap (λ a. make y.element a x.layer) (eqb-true x.input y.input q.0)
    ∙ ap (λ a. make y.element y.input a) (same_layer x.layer y.layer q.1)

pub returns-in_ok-insert-clause-pushed : goal.returns-in_ok-insert-clause-pushed
returns-in_ok-insert-clause-pushed c =
    inserted (ghosts).eq same c.args.states.now.keys c.insert.new.self.keys c.args.state _ c.if-wanted.true c.in_ok-insert.ensures.keys

pub returns-in_ok-insert-clause-grows : goal.returns-in_ok-insert-clause-grows
returns-in_ok-insert-clause-grows c =
    inserted_grows (ghosts).eq c.args.states.now.keys c.insert.new.self.keys c.args.state c.in_ok-insert.ensures.keys
