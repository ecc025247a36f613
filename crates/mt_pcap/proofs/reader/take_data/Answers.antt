use Rattle.std.proofs.Common.{◌≡◌, ◌<◌, length, take, refl, sym, ◌∙◌, subst, ap, arith}
use Rattle.std.proofs.lemmas.List.{take_all, take_at, length-take}
use Rattle.mt_io.specs.Files.{Takes}
use Rattle.mt_pcap.specs.Stream.{within, HasNoRecord}
use Rattle.mt_pcap.proofs.Streams.{Told, nothing_so, head_bad, bad_head_none, data_cut, cut_data_none, record_left, record_read}
use Rattle.mt_pcap.proofs.reader.take_data.Goals as goal

pub returns-then-is_improper-clause-fault : goal.returns-then-is_improper-clause-fault
returns-then-is_improper-clause-fault g c =
    let head = c.head_of-told in
    let told : Told c.args.form c.args.head.now head.result.seconds head.result.fraction head.result.captured = record { long = omega arith; seconds_is = head.ensures.seconds; fraction_is = head.ensures.fraction; captured_is = head.ensures.captured } in
    λ _. head_bad c.args.form c.args.offset c.args.head.now head.result.seconds head.result.fraction head.result.captured _ told (sym c.is_improper.ensures ∙ c.if-is_improper.true)

pub returns-in-Ok-fill-clause-fault : goal.returns-in-Ok-fill-clause-fault
returns-in-Ok-fill-clause-fault g c =
    let head = c.head_of-told in
    let told : Told c.args.form c.args.head.now head.result.seconds head.result.fraction head.result.captured = record { long = omega arith; seconds_is = head.ensures.seconds; fraction_is = head.ensures.fraction; captured_is = head.ensures.captured } in
    let short : c.in-Ok-fill.count < head.result.captured = omega arith in
    let room : length c.deref_mut.result.now ≡ head.result.captured = omega (arith, c.deref_mut.ensures.len, c.in-Ok.ensures.len) in
    λ _. data_cut c.args.form c.args.offset c.args.head.now head.result.seconds head.result.fraction head.result.captured c.in-Ok-fill.count _ told (sym c.is_improper.ensures ∙ c.if-is_improper.false) short
    (c.in-Ok-fill.ensures.short (omega (arith, room, short)))

pub returns-then-is_improper-clause-cut : goal.returns-then-is_improper-clause-cut
returns-then-is_improper-clause-cut g c =
    let head = c.head_of-told in
    let told : Told c.args.form c.args.head.now head.result.seconds head.result.fraction head.result.captured = record { long = omega arith; seconds_is = head.ensures.seconds; fraction_is = head.ensures.fraction; captured_is = head.ensures.captured } in
    λ _. nothing_so _ _ (HasNoRecord (within c.args.form c.args.offset c.args.head.now)) refl
    (bad_head_none c.args.form c.args.offset c.args.head.now head.result.seconds head.result.fraction head.result.captured told (sym c.is_improper.ensures ∙ c.if-is_improper.true))

pub returns-in-Ok-fill-clause-cut : goal.returns-in-Ok-fill-clause-cut
returns-in-Ok-fill-clause-cut g c =
    let head = c.head_of-told in
    let told : Told c.args.form c.args.head.now head.result.seconds head.result.fraction head.result.captured = record { long = omega arith; seconds_is = head.ensures.seconds; fraction_is = head.ensures.fraction; captured_is = head.ensures.captured } in
    let read = c.fill.new.buf in
    let short : length (take c.in-Ok-fill.count read) < head.result.captured = omega (arith, length-take c.in-Ok-fill.count read) in
    λ _. (
      take c.in-Ok-fill.count read,
      c.in-Ok-fill.ensures.taken,
      cut_data_none c.args.form c.args.offset c.args.head.now head.result.seconds head.result.fraction head.result.captured (take c.in-Ok-fill.count read) told (sym c.is_improper.ensures ∙ c.if-is_improper.false) short,
    )

pub returns-in-Err-fill-clause-cut : goal.returns-in-Err-fill-clause-cut
returns-in-Err-fill-clause-cut g c =
    let head = c.head_of-told in
    let told : Told c.args.form c.args.head.now head.result.seconds head.result.fraction head.result.captured = record { long = omega arith; seconds_is = head.ensures.seconds; fraction_is = head.ensures.fraction; captured_is = head.ensures.captured } in
    let t = c.in-Err-fill.ensures.cut in
    let room : length c.deref_mut.result.now ≡ head.result.captured = omega (arith, c.deref_mut.ensures.len, c.in-Ok.ensures.len) in
    let short : length t.0 < head.result.captured = omega (arith, room, t.2) in
    λ _. (t.0, t.1, cut_data_none c.args.form c.args.offset c.args.head.now head.result.seconds head.result.fraction head.result.captured t.0 told (sym c.is_improper.ensures ∙ c.if-is_improper.false) short)

pub returns-in-Ok-2-clause-gives : goal.returns-in-Ok-2-clause-gives
returns-in-Ok-2-clause-gives g c =
    let head = c.head_of-told in
    let told : Told c.args.form c.args.head.now c.from.result head.result.fraction head.result.captured = record { long = omega arith; seconds_is = c.from.ensures ∙ head.ensures.seconds; fraction_is = head.ensures.fraction; captured_is = head.ensures.captured } in
    let read = c.fill.new.buf in
    let room : length c.deref_mut.result.now ≡ head.result.captured = omega (arith, c.deref_mut.ensures.len, c.in-Ok.ensures.len) in
    let filled : length read ≡ head.result.captured = omega (arith, room, c.fill.auto.buf) in
    let all : c.new.result ≡ read = c.new.ensures ∙ take_at read _ c.in-Ok.data.len (omega (arith, filled, c.in-Ok.ensures.len)) in
    let whole : take c.in-Ok-fill.count read ≡ c.new.result = take_all c.in-Ok-fill.count read (omega (arith, filled)) ∙ sym all in
    record_left c.args.form c.args.offset c.args.head.now c.new.result c.from.result head.result.fraction head.result.captured _ _ told (sym c.is_improper.ensures ∙ c.if-is_improper.false) (ap length all ∙ filled)
    (subst (λ l. Takes (g.F.Files.held c.args.files.now c.args.name.now) l (g.F.Files.held c.fill.new.files c.args.name.now)) whole c.in-Ok-fill.ensures.taken)

pub returns-in-Ok-2-clause-reads : goal.returns-in-Ok-2-clause-reads
returns-in-Ok-2-clause-reads g c =
    let head = c.head_of-told in
    let told : Told c.args.form c.args.head.now c.from.result head.result.fraction head.result.captured = record { long = omega arith; seconds_is = c.from.ensures ∙ head.ensures.seconds; fraction_is = head.ensures.fraction; captured_is = head.ensures.captured } in
    let read = c.fill.new.buf in
    let room : length c.deref_mut.result.now ≡ head.result.captured = omega (arith, c.deref_mut.ensures.len, c.in-Ok.ensures.len) in
    let filled : length read ≡ head.result.captured = omega (arith, room, c.fill.auto.buf) in
    let all : c.new.result ≡ read = c.new.ensures ∙ take_at read _ c.in-Ok.data.len (omega (arith, filled, c.in-Ok.ensures.len)) in
    let whole : take c.in-Ok-fill.count read ≡ c.new.result = take_all c.in-Ok-fill.count read (omega (arith, filled)) ∙ sym all in
    record_read c.args.form c.args.offset c.args.head.now c.new.result c.from.result head.result.fraction head.result.captured _ _ told (sym c.is_improper.ensures ∙ c.if-is_improper.false) (ap length all ∙ filled)
    (subst (λ l. Takes (g.F.Files.held c.args.files.now c.args.name.now) l (g.F.Files.held c.fill.new.files c.args.name.now)) whole c.in-Ok-fill.ensures.taken)
