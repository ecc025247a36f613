use Rattle.std.proofs.Common.{List, ap, ◌∙◌}
use Rattle.mt_io.specs.Buffers.{Pending, pending_of}
use Rattle.mt_io.proofs.Buffers.{pending_push}
use Rattle.mt_io.proofs.buffer.Buffers.stand.Goals as goal

pub returns-clause-same : goal.returns-clause-same
returns-clause-same c = λ name.
    ap (λ (l : List Pending). pending_of l name) c.in_ok-push.ensures.items
    ∙ pending_push c.self.inside.list.items c.in_ok-buffer.buffer name (ap (λ (p : Pending). p.bytes) c.in_ok-buffer.ensures)
    ∙ ap (λ (l : List Pending). pending_of l name) (c.self.view_is ∙ c.find.ensures.same)
