use Rattle.std.proofs.Common.{◌∙◌, ℕ, suc, List, Some, Ok, length, drop, sym, ap, arith}
use Rattle.std.proofs.lemmas.Option.{slice_get_past}
use Rattle.mt_rewriter.specs.Mappings.{TablesState}
use Rattle.mt_chain.specs.declared.run.Fate.{Fate}
use Rattle.mt_chain.specs.Run.{Run, Answer, fate_of}
use Rattle.mt_chain.proofs.Walked.{nowhere, used_up, stops, lost, goes_to, ends}
use Rattle.mt_chain.proofs.walk.walk.Goals as goal

abbrev told : TablesState → List ℕ → Fate → ℕ → Answer Run
told tables picks fate used = Some (Ok (record { fate = fate; tables = tables; picks = drop used picks }))

pub returns-then-port-elements-clause-stop : goal.returns-then-port-elements-clause-stop
returns-then-port-elements-clause-stop c =
    nowhere c.args.chain.now c.args.given.now.picks.now _ (suc (length c.args.chain.now.wires)) c.loop.counter c.loop.port _ c.loop.invariant.way (omega (arith, c.loop-test.true))
    (slice_get_past c.args.chain.now.kinds c.loop.port.0 (omega (arith, c.if-port-elements.true, c.elements.ensures)))

pub returns-in-Err-clause-stop : goal.returns-in-Err-clause-stop
returns-in-Err-clause-stop c =
    stops c.args.chain.now c.args.given.now.picks.now _ (suc (length c.args.chain.now.wires)) c.loop.counter c.loop.port _ c.loop.invariant.way (omega (arith, c.loop-test.true))
    c.kind-kind.result.now c.kind-kind.ensures c.args.given.now.mappers.now c.args.given.now.pools.now c.requires.given c.in-Err.stop c.in-Err.ensures.stop

pub returns-in-Some-Ends-clause-run : goal.returns-in-Some-Ends-clause-run
returns-in-Some-Ends-clause-run c =
    ends c.args.chain.now c.args.given.now.picks.now _ (suc (length c.args.chain.now.wires)) c.loop.counter c.loop.port _ c.loop.invariant.way (omega (arith, c.loop-test.true))
    c.kind-kind.result.now c.kind-kind.ensures c.args.given.now.mappers.now c.args.given.now.pools.now c.requires.given _ c.in-Ok.stepped.0 c.in-Ok.ensures.step c.next_after.result c.next_after.ensures
    c.in-Some-Ends.ending (c.in-Some-Ends.is ∙ ap Some c.in-Some-Ends.field-0-is)
    ∙ sym (ap (λ fate. told c.step.new.tables c.args.given.now.picks.now fate c.ran_to.result.used) c.ran_to.ensures.fate
    ∙ ap (told c.step.new.tables c.args.given.now.picks.now (fate_of c.step.new.packet c.in-Some-Ends.ending)) c.ran_to.ensures.used)

pub returns-in-None-clause-stop : goal.returns-in-None-clause-stop
returns-in-None-clause-stop c =
    lost c.args.chain.now c.args.given.now.picks.now _ (suc (length c.args.chain.now.wires)) c.loop.counter c.loop.port _ c.loop.invariant.way (omega (arith, c.loop-test.true))
    c.kind-kind.result.now c.kind-kind.ensures c.args.given.now.mappers.now c.args.given.now.pools.now c.requires.given _ c.in-Ok.stepped.0 c.in-Ok.ensures.step c.next_after.result c.next_after.ensures c.in-None.is

pub loop-preserved : goal.loop-preserved
loop-preserved c = record {
  way = goes_to c.args.chain.now c.args.given.now.picks.now _ (suc (length c.args.chain.now.wires)) c.loop.counter c.loop.port _ c.loop.invariant.way (omega (arith, c.loop-test.true))
      c.kind-kind.result.now c.kind-kind.ensures c.args.given.now.mappers.now c.args.given.now.pools.now c.requires.given _ c.in-Ok.stepped.0 c.in-Ok.ensures.step c.next_after.result c.next_after.ensures
      c.in-Some-Goes.element c.in-Some-Goes.input (c.in-Some-Goes.is ∙ ap Some c.in-Some-Goes.field-0-is);
  sound = c.step.ensures.sound;
  back = c.step.ensures.back ∙ c.loop.invariant.back;
  within = c.in-Ok.ensures.within c.loop.invariant.within;
}

pub returns-clause-stop : goal.returns-clause-stop
returns-clause-stop c =
    used_up c.args.chain.now c.args.given.now.picks.now _ (suc (length c.args.chain.now.wires)) c.loop.counter c.loop.port _ c.loop.invariant.way (omega (arith, c.loop-test.false))
