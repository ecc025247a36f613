use Rattle.std.proofs.Common.{◌∙◌, sym, ap, refl, List, slice_get}
use Rattle.std.proofs.lemmas.Option.{slice_get_read}
use Rattle.mt_kinds.specs.declared.rewriter.Spec.{Spec}
use Rattle.mt_chain.proofs.Rewritten.{rewriter_is}
use Rattle.mt_chain.proofs.TestsAgree.{some_flow_ports}
use Rattle.mt_chain.proofs.walk.rewrite.Goals as goal

pub leave-requires-clause-ports : goal.leave-requires-clause-ports
leave-requires-clause-ports c = λ rewritten. some_flow_ports c.args.packet.now c.flow.result c.flow.ensures (c.in-Ok.ensures.ported rewritten)

pub returns-clause-step : goal.returns-clause-step
returns-clause-step c =
    rewriter_is c.args.given.now.mappers.now c.args.given.now.pools.now c.args.given.now.picks.now c.args.port _ c.args.specs.now c.requires.taken _ (ap (λ (xs : List Spec). slice_get xs c.args.port.1) (sym c.as_slice.ensures.specs) ∙ slice_get_read c.as_slice.result.now _ c.args.port.1 c.in-Some.spec.now refl c.in-Some.ensures.lookup.3.0 c.in-Some.ensures.lookup.1) c.flow.result c.flow.ensures
    c.in-Ok.decision (sym c.decide_for.ensures.decided ∙ c.in-Ok.is) c.leave.new.packet c.leave.result c.remember.new.self c.leave.ensures.passed c.in_ok-remember.ensures.done
