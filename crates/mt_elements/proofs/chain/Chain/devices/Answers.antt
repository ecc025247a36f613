use Rattle.std.proofs.Common.{◌≤◌, inl, inr, subst, length}
use Rattle.std.proofs.lemmas.Bool.{cases_lt}
use Rattle.mt_elements.specs.ChainState.{ChainState}
use Rattle.mt_elements.proofs.chain.Chain.devices.Goals as goal

pub returns-clause-few : goal.returns-clause-few
returns-clause-few c =
    subst (λ (chain : ChainState). length chain.devices ≤ 32) c.self.view_is
    (elim (cases_lt 32 (length c.self.inside.layout.devices)) [
      | inl many ↦ absurd (c.self.invariant.accepted.devices (inr many))
      | inr few ↦ few
    ])
