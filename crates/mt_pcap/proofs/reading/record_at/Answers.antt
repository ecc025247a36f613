use Rattle.std.proofs.Common.{sym, ◌∙◌, arith}
use Rattle.std.proofs.lemmas.List.{take_rest}
use Rattle.mt_pcap.proofs.Records.{reads_whole}
use Rattle.mt_pcap.proofs.reading.record_at.Goals as goal

pub returns : goal.returns
returns c =
    let bytes = c.args.bytes.now in
    let head = c.head_of-head in
    let enough = rw (take_rest bytes 16) at c.if-behind-captured.false in
    let front = rw (take_rest bytes 16) at c.split_at.ensures.front in
    let back = rw (take_rest bytes 16) at c.split_at.ensures.back in
    reads_whole c.args.form c.args.offset bytes _ _ _ _ _ (omega arith) (c.from.ensures ∙ head.ensures.seconds) head.ensures.fraction head.ensures.captured (sym c.if-is_improper.ensures) enough front back
