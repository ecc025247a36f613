use Rattle.std.proofs.Common.{◌≡◌, ◌∙◌, ◌++◌, ◌∷◌, [], vec_capacity, reverse, ap, subst}
use Rattle.mt_flow.specs.Mappings.{IsTakenBack}
use Rattle.mt_flow.proofs.Accepting.{next_of, accepting_more, all_back}
use Rattle.mt_flow.proofs.store.Store.accept.Goals as goal

pub open-requires : goal.open-requires
open-requires c =
    (next_of c.args.self.now c.args.mappings.items c.loop-mapping.self c.loop-mapping.mappings.items c.pop.new.self.items c.loop-mapping.accepted (vec_capacity c.loop-mapping.mappings) c.in-Some.mapping c.loop-mapping.invariant c.in-Some.ensures.items).no_forward

back : (c : goal.After-reverse-in-Err) → (c.take_back.new.self ≡ c.args.self.now) × (reverse c.take_back.new.mappings.items ≡ c.args.mappings.items)
back c =
    let n = next_of c.args.self.now c.args.mappings.items c.loop-mapping.self c.loop-mapping.mappings.items c.pop.new.self.items c.loop-mapping.accepted (vec_capacity c.loop-mapping.mappings) c.in-Some.mapping c.loop-mapping.invariant c.in-Some.ensures.items in
    let pushed : c.push_within.new.mappings.items ≡ c.pop.new.self.items ++ c.in-Some.mapping ∷ [] =
    c.push_within.ensures.items ∙ ap (λ m. c.pop.new.self.items ++ m ∷ []) (c.into_mapping.ensures ∙ c.in-Err.ensures.back) in
    all_back c.args.self.now c.args.mappings.items c.loop-mapping.self c.pop.new.self.items c.take_back.new.self c.take_back.new.mappings.items c.loop-mapping.accepted (vec_capacity c.loop-mapping.mappings) c.in-Some.mapping n
    (subst (λ ms. IsTakenBack c.loop-mapping.self c.take_back.new.self ms c.take_back.new.mappings.items c.loop-mapping.accepted) pushed
    (subst (λ ms. IsTakenBack ms c.take_back.new.self c.push_within.new.mappings.items c.take_back.new.mappings.items c.loop-mapping.accepted) c.in-Err.ensures.unchanged c.take_back.ensures))

pub returns-in-Err-clause-err : goal.returns-in-Err-clause-err
returns-in-Err-clause-err c = (back c).0

pub returns-in-Err-clause-back : goal.returns-in-Err-clause-back
returns-in-Err-clause-back c = c.reverse-in-Err.ensures.items ∙ (back c).1

pub loop-mapping-preserved : goal.loop-mapping-preserved
loop-mapping-preserved c =
    let n = next_of c.args.self.now c.args.mappings.items c.loop-mapping.self c.loop-mapping.mappings.items c.pop.new.self.items c.loop-mapping.accepted (vec_capacity c.loop-mapping.mappings) c.in-Some.mapping c.loop-mapping.invariant c.in-Some.ensures.items in
    rw c.pop.ensures.capacity (accepting_more c.args.self.now c.args.mappings.items c.loop-mapping.self c.open.new.self c.pop.new.self.items c.loop-mapping.accepted (vec_capacity c.loop-mapping.mappings) c.in-Some.mapping n c.in_default-open.ensures.opened)
