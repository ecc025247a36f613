use Rattle.std.proofs.Common.{length, map, ℕ, List, Bor, ap, ◌∙◌, arith}
use Rattle.std.specs.Vec.Iter.{into_iter_items}
use Rattle.mt_elements.specs.Described.{scope_of, kind_of}
use Rattle.mt_elements.proofs.Walks.{front_is, one_kind, described_all, walked_all}
use Rattle.mt_elements.proofs.kinds.kinds_of.Goals as goal
use Rattle.mt_elements.proofs.kinds.kinds_of.Goals.{in-None, in-Some+in_default}

pub loop-description-preserved : goal.loop-description-preserved
loop-description-preserved c =
    let left = c.in-Some.ensures.steps in
    record {
      made =
          one_kind c.args.devices.now c.args.pools.now.keys (map (λ (x : Bor (List ℕ)). x.now) c.args.names.now) c.loop-description.kinds.items _ c.push.new.self.items c.loop-description.rest.now _ (into_iter_items c.loop-description.description-iterator) (into_iter_items c.next.new.self) c.element-item.result c.in-Some.description c.in_ok-kind_of.field-0
          (front_is c.loop-description.rest.now c.element-item.result c.in-len1-up.len_at_least c.element-item.is)
          left.0
          (c.in_ok-kind_of.ensures ∙ ap (λ s. kind_of c.args.devices.now c.args.pools.now.keys (map (λ (x : Bor (List ℕ)). x.now) c.args.names.now) s c.in-Some.description) (c.scope_of-scope.ensures ∙ ap scope_of c.bytes.ensures))
          c.in_ok-push.ensures.items c.loop-description.invariant.made;
      counted = (let before = c.loop-description.invariant.counted in let one = ap length left.0 in let less = left.1 in omega (arith, before, one, less));
    }

pub returns : goal.returns
returns c = elim c.match-next.branch [
  | in-None w ↦
      let over = w.in-None.ensures.steps in let counted = c.loop-description.invariant.counted in let none = over.0 in
      described_all c.args.devices.now c.args.pools.now.keys (map (λ (x : Bor (List ℕ)). x.now) c.args.names.now) c.loop-description.kinds.items _ c.loop-description.rest.now (into_iter_items c.loop-description.description-iterator)
      (omega (arith, counted, none)) c.loop-description.invariant.made
  | in-Some+in_default w ↦
      walked_all c.args.devices.now c.args.pools.now.keys (map (λ (x : Bor (List ℕ)). x.now) c.args.names.now) c.loop-description.kinds.items _ c.loop-description.rest.now (into_iter_items c.loop-description.description-iterator)
      w.in_default.len_below c.loop-description.invariant.made
]
