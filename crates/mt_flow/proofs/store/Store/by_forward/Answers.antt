use Rattle.std.proofs.Common.{◌≢◌, AllPairs, ◌≡◌, Some, Contains, ◌↔◌, subst}
use Rattle.std.specs.BTreeMap as tree
use Rattle.mt_flow.specs.Keys.{forward_cmp}
use Rattle.mt_flow.specs.Mappings.{forward_key}
use Rattle.mt_flow.proofs.Apart.{forward_apart}
use Rattle.mt_flow.proofs.Stored.{forward_found}
use Rattle.mt_flow.proofs.store.Store.by_forward.Goals as goal

pub returns-clause-found : goal.returns-clause-found
returns-clause-found c = λ key mapping. subst (λ list. (tree.get forward_cmp c.self.inside.by_forward key ≡ Some mapping) ↔ (Contains list mapping × (forward_key mapping ≡ key))) c.self.view_is
    (forward_found c.self.inside.by_forward c.self.inside.indexes key mapping c.self.invariant.0)

pub returns-clause-apart : goal.returns-clause-apart
returns-clause-apart c = subst (λ list. AllPairs (λ x y. forward_key x ≢ forward_key y) list) c.self.view_is (forward_apart c.self.inside.by_forward c.self.inside.indexes c.self.inside.next c.self.invariant.0 c.self.invariant.1)
