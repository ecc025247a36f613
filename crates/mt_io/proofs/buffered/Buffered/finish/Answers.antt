use Rattle.std.proofs.Common.{sym, ◌∙◌, subst}
use Rattle.std.specs.Prelude.{IsSomeAnd}
use Rattle.mt_io.specs.Files.{Rose}
use Rattle.mt_io.specs.Buffers.{pending_of}
use Rattle.mt_io.proofs.Buffers.{none_pending, behind_nothing, first_has_risen}
use Rattle.mt_io.proofs.buffered.Buffered.finish.Goals as goal

pub returns-in-None-clause-ok : goal.returns-in-None-clause-ok
returns-in-None-clause-ok g c = λ name.
    sym (c.flush_all.ensures.kept name)
    ∙ behind_nothing (g.F.Files.written c.flush_all.new.files name) (pending_of c.flush_all.new.self name) (none_pending c.flush_all.new.self name (sym c.in-None.ensures))

pub returns-in-Some-clause-err : goal.returns-in-Some-clause-err
returns-in-Some-clause-err g c =
    subst (λ o. IsSomeAnd o (λ name. Rose (g.F.Files.write_faults c.args.self.now.inner name) (g.F.Files.write_faults c.flush_all.new.files name))) c.in-Some.ensures
    (first_has_risen c.flush_all.new.self _ _ c.in-Some.field-0.now c.flush_all.ensures.failed (sym c.in-Some.ensures))
