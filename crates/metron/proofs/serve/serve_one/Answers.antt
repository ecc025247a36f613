use Rattle.std.proofs.Common.{inr, subst, sym, ◌∙◌, ap, ◌+◌}
use Rattle.metron.specs.Outcome.{account_of}
use Rattle.mt_chain.specs.Fates.{fate_text}
use Rattle.mt_chain.specs.declared.run.Fate.{Fate}
use Rattle.metron.specs.Serving.{AllGain, AllGainFront, IsWritable}
use Rattle.metron.specs.Standing.{tables_at}
use Rattle.metron.proofs.Served.{always_ok, on_err, on_ok, told_more, writable}
use Rattle.metron.proofs.serve.serve_one.Goals as goal

pub write_fate-requires-clause-writable : goal.write_fate-requires-clause-writable
write_fate-requires-clause-writable g c =
    let chain = c.requires.rest.0 in
    let rest = c.requires.rest.1 in
    let h = c.in-Ok.ensures.served chain rest c.requires.rest.2 in
    subst IsWritable (sym c.fate.ensures)
    (writable c.fates_come_from_packets.ensures chain (tables_at c.args.worker.now) (tables_at c.serve.new.self) c.args.frame c.in-Ok.service.fate c.in-Ok.service.picks h.0.count rest.can.standing.kept h.0.run c.requires.seconds_fit c.requires.length)

pub returns-in-Ok-note-clause-ok : goal.returns-in-Ok-note-clause-ok
returns-in-Ok-note-clause-ok g c = on_ok c.write_fate.result c.write_fate.ensures.ok (λ wrote chain rest known.
    let h = c.in-Ok.ensures.served chain rest known in
    record {
      fate = c.in-Ok.service.fate;
      picked = c.in-Ok.service.picks;
      count = h.0.count;
      run = h.0.run;
      told = told_more (account_of c.args.tally.now) (account_of c.note.new.self) c.number.result c.args.frame.number c.picks.result.now c.in-Ok.service.picks c.count.result h.0.count c.in-Ok-note.ensures.noted
          (c.number.ensures ∙ h.0.number_is) c.picks.ensures (c.count.ensures ∙ h.0.counted ∙ ap (λ n. n + h.0.count) c.requires.same_count);
      written = subst (λ (f : Fate). AllGain c.args.writers.now (g.F.Files.written c.args.files.now) (g.F.Files.written c.write_fate.new.files) (λ device. fate_text device f)) c.fate.ensures wrote;
    })

pub returns-in-Ok-note-clause-err : goal.returns-in-Ok-note-clause-err
returns-in-Ok-note-clause-err g c = on_err c.write_fate.result c.write_fate.ensures.err (λ wrote chain rest known.
    let h = c.in-Ok.ensures.served chain rest known in
    inr (
      tables_at c.serve.new.self,
      record {
        fate = c.in-Ok.service.fate;
        picked = c.in-Ok.service.picks;
        count = h.0.count;
        run = h.0.run;
        told = told_more (account_of c.args.tally.now) (account_of c.note.new.self) c.number.result c.args.frame.number c.picks.result.now c.in-Ok.service.picks c.count.result h.0.count c.in-Ok-note.ensures.noted
            (c.number.ensures ∙ h.0.number_is) c.picks.ensures (c.count.ensures ∙ h.0.counted ∙ ap (λ n. n + h.0.count) c.requires.same_count);
        written = subst (λ (f : Fate). AllGainFront c.args.writers.now (g.F.Files.written c.args.files.now) (g.F.Files.written c.write_fate.new.files) (λ device. fate_text device f)) c.fate.ensures wrote;
      },
    ))

pub returns-in-Ok-note-clause-rest : goal.returns-in-Ok-note-clause-rest
returns-in-Ok-note-clause-rest g c = always_ok c.write_fate.result (λ chain rest known. (c.in-Ok.ensures.served chain rest known).1)
