use Rattle.std.proofs.Common.{arith}
use Rattle.mt_io.proofs.Buffers.{added}
use Rattle.mt_io.proofs.buffer.Buffer.put.Goals as goal

pub returns-clause-put : goal.returns-clause-put
returns-clause-put c =
    rw (← c.self.view_is, c.copy_from_slice.ensures.after, c.deref_mut.ensures.value)
    (added c.self.inside.bytes.items c.args.piece.now _ c.self.inside.from c.self.inside.to c.self.inside.bytes.len (omega arith) (omega arith) (omega arith))
