use Rattle.std.proofs.Common.{◌≢◌, AllPairs, ◌≡◌, Some, Contains, ◌↔◌, subst}
use Rattle.std.specs.BTreeMap as tree
use Rattle.mt_flow.specs.declared.mapping.Mapping.{Mapping}
use Rattle.mt_flow.specs.Keys.{reply_cmp}
use Rattle.mt_flow.specs.Mappings.{forward_key, reply_key}
use Rattle.mt_flow.proofs.Apart.{reply_apart}
use Rattle.mt_flow.proofs.Stored.{reply_found}
use Rattle.mt_flow.proofs.store.Store.by_reply.Goals as goal

pub returns-clause-found : goal.returns-clause-found
returns-clause-found c = λ answer key. subst (λ list. (tree.get reply_cmp c.self.inside.indexes.by_reply answer ≡ Some key) ↔ ((mapping : Mapping) × (Contains list mapping × (reply_key mapping ≡ answer) × (forward_key mapping ≡ key)))) c.self.view_is
    (reply_found c.self.inside.by_forward c.self.inside.indexes answer key c.self.invariant.0)

pub returns-clause-apart : goal.returns-clause-apart
returns-clause-apart c = subst (λ list. AllPairs (λ x y. reply_key x ≢ reply_key y) list) c.self.view_is (reply_apart c.self.inside.by_forward c.self.inside.indexes c.self.inside.next c.self.invariant.0 c.self.invariant.1)
