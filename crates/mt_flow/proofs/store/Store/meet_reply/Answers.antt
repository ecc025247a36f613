use Rattle.std.proofs.Common.{◌≡◌, ◌∙◌, Contains, sym, ap, subst}
use Rattle.mt_flow.specs.Mappings.{reply_key, StandsReply}
use Rattle.mt_flow.proofs.Stored.{list_of, reply_unmet, reply_leads}
use Rattle.mt_flow.proofs.store.Store.meet_reply.Goals as goal

pub returns-in_err-key : goal.returns-in_err-key
returns-in_err-key c = rw c.from_residual.ensures (subst (λ list. StandsReply list (record { element = c.args.element; flow = c.args.flow.now }) → ⊥) c.self.view_is
    (reply_unmet c.self.inside.by_forward c.self.inside.indexes _ c.self.invariant.0 (sym c.in_err-key.ensures.value)))

pub returns-in_err-mapping : goal.returns-in_err-mapping
returns-in_err-mapping c = absurd (let l = reply_leads c.self.inside.by_forward c.self.inside.indexes _ c.in_ok-key.key.now c.self.invariant.0 (sym c.in_ok-key.ensures.value) in
    let found = l.1.0 in let none = c.in_err-mapping.ensures.value in cc)

pub returns : goal.returns
returns c =
    let l = reply_leads c.self.inside.by_forward c.self.inside.indexes (record { element = c.args.element; flow = c.args.flow.now }) c.in_ok-key.key.now c.self.invariant.0 (sym c.in_ok-key.ensures.value) in
    let same : l.0 ≡ c.in_ok-mapping.mapping.now = (let found = l.1.0 in let other = c.in_ok-mapping.ensures.value in cc) in (
      c.in_ok-mapping.mapping.now,
      (
        subst (λ list. Contains list c.in_ok-mapping.mapping.now) c.self.view_is (subst (λ m. Contains (list_of c.self.inside.by_forward c.self.inside.indexes) m) same l.1.1.0),
        ap reply_key (sym same) ∙ l.1.1.1,
        ap (λ flow. record { after = flow; output = c.in_ok-mapping.mapping.now.rout }) c.reversed.ensures,
      ),
    )
