use Rattle.std.proofs.Common.{List, ℕ, ap}
use Rattle.mt_io.proofs.Buffers.{passed}
use Rattle.mt_io.proofs.buffer.Buffer.take.Goals as goal

pub returns-clause-left : goal.returns-clause-left
returns-clause-left c = rw (← c.self.view_is) (ap (λ (l : List ℕ). record { name = c.self.inside.name.bytes.items; bytes = l }) (passed c.self.inside.bytes.items c.self.inside.from c.self.inside.to c.min-count.result))
