use Rattle.std.proofs.Common.{Contains, sym, subst, refl}
use Rattle.mt_flow.specs.Mappings.{StandsForward}
use Rattle.mt_flow.proofs.Stored.{forward_found, not_standing}
use Rattle.mt_flow.proofs.store.Store.meet_forward.Goals as goal

pub returns-in_err-mapping : goal.returns-in_err-mapping
returns-in_err-mapping c = rw c.from_residual.ensures (subst (λ list. StandsForward list (record { element = c.args.element; input = c.args.input; before = c.args.flow.now }) → ⊥) c.self.view_is
    (not_standing c.self.inside.by_forward c.self.inside.indexes _ c.self.invariant.0 (sym c.in_err-mapping.ensures.value)))

pub returns : goal.returns
returns c =
    let f = (forward_found c.self.inside.by_forward c.self.inside.indexes (record { element = c.args.element; input = c.args.input; before = c.args.flow.now }) c.in_ok-mapping.mapping.now c.self.invariant.0).0 (sym c.in_ok-mapping.ensures.value) in
    (c.in_ok-mapping.mapping.now, (subst (λ list. Contains list c.in_ok-mapping.mapping.now) c.self.view_is f.0, f.1, refl))
