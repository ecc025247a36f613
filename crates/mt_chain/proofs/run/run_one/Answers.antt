use Rattle.std.proofs.Common.{◌∙◌, sym, subst}
use Rattle.mt_rewriter.specs.Kept.{AreTables}
use Rattle.mt_chain.specs.Kept.{Stays}
use Rattle.mt_chain.specs.Walking.{IsStop}
use Rattle.mt_chain.specs.Run.{run_told}
use Rattle.mt_chain.proofs.HasRun.{from_entry, nothing_back, run_is, some_way}
use Rattle.mt_chain.proofs.run.run_one.Goals as goal

pub fault_of-requires : goal.fault_of-requires
fault_of-requires c = record {
  way =
      some_way _ c.in-Err.stop c.expected.ensures.always
      (subst (λ answer. IsStop answer c.in-Err.stop)
      (sym (from_entry c.args.chain.now c.args.tables.now c.args.packet c.args.picks.now c.in-Some.entry c.field.result c.field.ensures.value (sym c.in-Some.is ∙ c.entry.ensures))) c.in-Err.ensures.stop);
}

pub returns-in-Ok-clause-run : goal.returns-in-Ok-clause-run
returns-in-Ok-clause-run c =
    run_is c.args.chain.now c.args.tables.now c.args.packet c.args.picks.now _
    (from_entry c.args.chain.now c.args.tables.now c.args.packet c.args.picks.now c.in-Some.entry c.field.result c.field.ensures.value (sym c.in-Some.is ∙ c.entry.ensures) ∙ c.in-Ok.ensures.run)

pub returns-in-Ok-clause-sent : goal.returns-in-Ok-clause-sent
returns-in-Ok-clause-sent c =
    (c.expected.ensures.keeps (run_told c.walk.new.tables c.args.picks.now c.in-Ok.ran)
    (from_entry c.args.chain.now c.args.tables.now c.args.packet c.args.picks.now c.in-Some.entry c.field.result c.field.ensures.value (sym c.in-Some.is ∙ c.entry.ensures) ∙ c.in-Ok.ensures.run)).0

pub returns-in-Ok-clause-kept : goal.returns-in-Ok-clause-kept
returns-in-Ok-clause-kept c =
    (c.expected.ensures.keeps (run_told c.walk.new.tables c.args.picks.now c.in-Ok.ran)
    (from_entry c.args.chain.now c.args.tables.now c.args.packet c.args.picks.now c.in-Some.entry c.field.result c.field.ensures.value (sym c.in-Some.is ∙ c.entry.ensures) ∙ c.in-Ok.ensures.run)).1

pub returns-in-Err-clause-cause : goal.returns-in-Err-clause-cause
returns-in-Err-clause-cause c =
    c.fault_of.ensures _
    (subst (λ answer. IsStop answer c.in-Err.stop)
    (sym (from_entry c.args.chain.now c.args.tables.now c.args.packet c.args.picks.now c.in-Some.entry c.field.result c.field.ensures.value (sym c.in-Some.is ∙ c.entry.ensures))) c.in-Err.ensures.stop)

pub returns-in-Err-clause-unchanged : goal.returns-in-Err-clause-unchanged
returns-in-Err-clause-unchanged c = c.take_back.ensures ∙ c.walk.ensures.back ∙ nothing_back c.new-log.result c.args.tables.now c.new-log.ensures

pub returns-in-Err-clause-kept : goal.returns-in-Err-clause-kept
returns-in-Err-clause-kept c =
    subst (AreTables c.args.chain.now) (sym (c.take_back.ensures ∙ c.walk.ensures.back ∙ nothing_back c.new-log.result c.args.tables.now c.new-log.ensures)) c.requires.kept

pub returns-in-Ok-clause-stays : goal.returns-in-Ok-clause-stays
returns-in-Ok-clause-stays c =
    (c.expected.ensures.keeps (run_told c.walk.new.tables c.args.picks.now c.in-Ok.ran)
    (from_entry c.args.chain.now c.args.tables.now c.args.packet c.args.picks.now c.in-Some.entry c.field.result c.field.ensures.value (sym c.in-Some.is ∙ c.entry.ensures) ∙ c.in-Ok.ensures.run)).2

pub returns-in-Err-clause-stays : goal.returns-in-Err-clause-stays
returns-in-Err-clause-stays c =
    subst (Stays c.args.tables.now) (sym (c.take_back.ensures ∙ c.walk.ensures.back ∙ nothing_back c.new-log.result c.args.tables.now c.new-log.ensures)) (λ m there. there)
