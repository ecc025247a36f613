use Rattle.std.proofs.Common.{◌≤◌, length, arith, rules}
use Rattle.mt_io.specs.Laws.{takes_twice}
use Rattle.mt_pcap.proofs.Streams.{read_more, room_left, at_most_so_far, at_most_more}
use Rattle.mt_pcap.proofs.reader.fill.Goals as goal

pub returns-in-Err-clause-at_most : goal.returns-in-Err-clause-at_most
returns-in-Err-clause-at_most g c = at_most_so_far (length c.args.buf.now) c.loop-count.buf c.loop-count.count _ _ _ c.loop-count.auto.buf c.loop-count.invariant.taken c.in-Err.ensures.failed_takes_nothing

pub returns-then-more-eq0-clause-at_most : goal.returns-then-more-eq0-clause-at_most
returns-then-more-eq0-clause-at_most g c =
    at_most_more (length c.args.buf.now) c.loop-count.buf c.read.new.buf c.loop-count.count c.in-Ok.more _ _ _ (omega (arith, c.in-Ok.ensures.within)) c.loop-count.invariant.taken c.in-Ok.ensures.taken

pub loop-count-preserved : goal.loop-count-preserved
loop-count-preserved g c =
    let kept = c.loop-count.invariant in
    let buf = c.loop-count.buf in
    let new = c.read.new.buf in
    let long : c.in-Ok.more ≤ length new = omega (arith, c.in-Ok.ensures.within) in
    record {
      within = room_left buf new c.loop-count.count c.in-Ok.more kept.within long;
      taken = rw (read_more buf new c.loop-count.count c.in-Ok.more kept.within long) (takes_twice _ _ _ _ _ kept.taken c.in-Ok.ensures.taken);
      other_files = search rules;
      written = search rules;
      read_faults = search rules;
      write_faults = search rules;
    }
