use Rattle.std.proofs.Common.{length, refl, subst}
use Rattle.std.proofs.lemmas.Option.{slice_get_read}
use Rattle.mt_kinds.specs.OutTables.{AreOutsOf}
use Rattle.mt_kinds.proofs.OutTables.{tables_more}
use Rattle.mt_kinds.proofs.mappers.tables_of.Goals as goal

pub loop-number-preserved : goal.loop-number-preserved
loop-number-preserved c =
    tables_more c.args.mappers.now c.loop-number.tables.items c.push.new.self.items c.loop-number.number c.index-mappers-number.result c.in_ok-outs.outs
    (slice_get_read c.args.mappers.now (length c.args.mappers.now) c.loop-number.number c.index-mappers-number.result refl c.loop-number-test.true c.index-mappers-number.is)
    (subst (λ ts. AreOutsOf ts c.in_ok-outs.outs) c.as_slice.ensures.templates c.in_ok-outs.ensures) c.in_ok-push.ensures.items c.loop-number.invariant
