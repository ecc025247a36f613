use Rattle.std.proofs.Common.{sym, ◌∙◌}
use Rattle.mt_io.proofs.Buffers.{stood_at}
use Rattle.mt_io.proofs.buffer.Buffers.find.Goals as goal

pub returns-clause-found : goal.returns-clause-found
returns-clause-found c =
    stood_at _ _ c.self.inside.last c.in-Some.buffer.now c.args.name.now (c.deref.ensures.value ∙ c.self.view_is) c.in-Some.ensures.lookup.1 c.in-Some.ensures.lookup.3.0 (sym c.is_of.ensures ∙ c.if-is_of.true)
