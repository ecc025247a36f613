use Rattle.std.proofs.Common.{List, ℕ, ◌≡◌, ◌++◌, ◌∙◌, sym, subst}
use Rattle.std.specs.Bool.{OnTrue}
use Rattle.mt_io.specs.Buffers.{pending_of}
use Rattle.mt_io.proofs.Buffers.{change}
use Rattle.mt_io.proofs.buffer.Buffers.put.Goals as goal

pub returns-clause-put : goal.returns-clause-put
returns-clause-put c =
    let one = change _ _ _ _ _ c.put.new.self (c.self.view_is ∙ c.find.ensures.same) c.in-Some.ensures.found c.index_mut-buffer.ensures.value c.self.invariant c.put.ensures.name in
    subst (λ (l : List ℕ). OnTrue c.put.result (l ≡ pending_of c.args.self.now c.args.name.now ++ c.args.piece.now)) (sym one.after)
    (subst (λ (l : List ℕ). OnTrue c.put.result (c.put.new.self.bytes ≡ l ++ c.args.piece.now)) (sym one.before) c.put.ensures.put)

pub returns-clause-others : goal.returns-clause-others
returns-clause-others c =
    (change _ _ _ _ _ c.put.new.self (c.self.view_is ∙ c.find.ensures.same) c.in-Some.ensures.found c.index_mut-buffer.ensures.value c.self.invariant c.put.ensures.name).others
