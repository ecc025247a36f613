use Rattle.std.proofs.Common.{◌≡◌, length, take, sym, subst, arith}
use Rattle.std.proofs.lemmas.List.{length-take}
use Rattle.mt_pcap.specs.Stream.{HasLength}
use Rattle.mt_pcap.proofs.Streams.{header_whole, header_begun, header_err, header_no_memory, header_no_read, header_of_kind}
use Rattle.mt_pcap.proofs.reader.take_header.Goals as goal

pub returns-in-Ok-clause-form : goal.returns-in-Ok-clause-form
returns-in-Ok-clause-form g c =
    header_whole c.header_of.result (take c.in-Ok.count c.fill.new.buf) _ _ c.header_of.ensures.value c.header_of.ensures.long (omega (arith, length-take c.in-Ok.count c.fill.new.buf, c.in-Ok.ensures.within)) c.in-Ok.ensures.taken

pub returns-in-Ok-clause-reads : goal.returns-in-Ok-clause-reads
returns-in-Ok-clause-reads g c =
    header_begun c.header_of.result (take c.in-Ok.count c.fill.new.buf) _ _ c.header_of.ensures.value c.header_of.ensures.long (omega (arith, length-take c.in-Ok.count c.fill.new.buf, c.in-Ok.ensures.within)) c.in-Ok.ensures.taken

pub returns-in-Ok-clause-fault : goal.returns-in-Ok-clause-fault
returns-in-Ok-clause-fault g c =
    let counted : length (take c.in-Ok.count c.fill.new.buf) ≡ c.in-Ok.count = omega (arith, length-take c.in-Ok.count c.fill.new.buf, c.in-Ok.ensures.within) in
    header_err c.header_of.result (take c.in-Ok.count c.fill.new.buf) _ _ c.header_of.ensures.value c.in-Ok.ensures.taken
    (λ lt. subst (λ n. HasLength n (g.F.Files.held c.args.files.now c.args.name.now)) (sym counted) (c.in-Ok.ensures.short (omega arith)))

pub returns-in-Ok-clause-read_fault : goal.returns-in-Ok-clause-read_fault
returns-in-Ok-clause-read_fault g c = λ same. absurd (header_no_read c.header_of.result (take c.in-Ok.count c.fill.new.buf) c.header_of.ensures.value same)

pub returns-in-Ok-clause-memory : goal.returns-in-Ok-clause-memory
returns-in-Ok-clause-memory g c = header_no_memory c.header_of.result (take c.in-Ok.count c.fill.new.buf) c.header_of.ensures.value

pub returns-in-Ok-clause-header : goal.returns-in-Ok-clause-header
returns-in-Ok-clause-header g c = header_of_kind c.header_of.result (take c.in-Ok.count c.fill.new.buf) c.header_of.ensures.value
