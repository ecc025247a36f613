use Rattle.std.proofs.Common.{ap, length, arith}
use Rattle.mt_terms.specs.Writes.{write_form}
use Rattle.mt_terms.proofs.Copied.{copied_all, copies_ascend}
use Rattle.mt_terms.proofs.writes.WriteList.copy.Goals as goal

pub from_vec-requires : goal.from_vec-requires
from_vec-requires c =
    let as_many = ap length c.list-write-items.ensures.list in
    copies_ascend 0 c.loop-write.writes.items c.args.self.now
    (copied_all write_form c.args.self.now c.loop-write.writes.items c.loop-write.write-index (omega (arith, as_many, c.loop-write-test.false)) c.loop-write.invariant) c.list.ensures.ascending
