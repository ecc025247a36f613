use Rattle.std.proofs.Common.{refl}
use Rattle.mt_io.specs.Buffers.{pending_of}
use Rattle.mt_io.proofs.buffered.Buffered.into_inner.Goals as goal

pub returns-clause-written : goal.returns-clause-written
returns-clause-written g c = λ name. (pending_of c.args.self.pending name, refl)
