use Rattle.std.proofs.Common.{List, ℕ, ap, sym, ◌∙◌, ◌<◌, refl, length, min, take, drop, arith}
use Rattle.mt_io.specs.Buffers.{Pending, pending_of}
use Rattle.mt_io.proofs.Buffers.{change, is_within, nothing_of, min_of_nothing}
use Rattle.mt_io.proofs.buffer.Buffers.take.Goals as goal

pub returns-in_default-clause-count : goal.returns-in_default-clause-count
returns-in_default-clause-count c = min_of_nothing (length c.args.buf.now) (pending_of c.args.self.now c.args.name.now) (nothing_of c.args.self.now c.args.name.now (c.in_default.ensures.none refl))

pub index_mut-buffer-requires : goal.index_mut-buffer-requires
index_mut-buffer-requires c =
    let within : c.in-Some.place < length c.self.inside.list.items = is_within _ _ _ _ (c.self.view_is ∙ c.find.ensures.same) c.in-Some.ensures.found in
    omega arith

pub invariant_of-self : goal.invariant_of-self
invariant_of-self c =
    (change _ _ _ _ _ c.take.new.self (c.self.view_is ∙ c.find.ensures.same) c.in-Some.ensures.found c.index_mut-buffer.ensures.value c.self.invariant (ap (λ (p : Pending). p.name) c.take.ensures.left)).apart

pub returns-clause-count : goal.returns-clause-count
returns-clause-count c =
    c.take.ensures.count ∙ ap (λ (l : List ℕ). min (length c.args.buf.now) (length l))
    (sym (change _ _ _ _ _ c.take.new.self (c.self.view_is ∙ c.find.ensures.same) c.in-Some.ensures.found c.index_mut-buffer.ensures.value c.self.invariant (ap (λ (p : Pending). p.name) c.take.ensures.left)).before)

pub returns-clause-bytes : goal.returns-clause-bytes
returns-clause-bytes c =
    c.take.ensures.bytes ∙ ap (take c.take.result)
    (sym (change _ _ _ _ _ c.take.new.self (c.self.view_is ∙ c.find.ensures.same) c.in-Some.ensures.found c.index_mut-buffer.ensures.value c.self.invariant (ap (λ (p : Pending). p.name) c.take.ensures.left)).before)

pub returns-clause-left : goal.returns-clause-left
returns-clause-left c =
    let one = change _ _ _ _ _ c.take.new.self (c.self.view_is ∙ c.find.ensures.same) c.in-Some.ensures.found c.index_mut-buffer.ensures.value c.self.invariant (ap (λ (p : Pending). p.name) c.take.ensures.left) in
    one.after ∙ ap (λ (p : Pending). p.bytes) c.take.ensures.left ∙ ap (drop c.take.result) (sym one.before)

pub returns-clause-others : goal.returns-clause-others
returns-clause-others c =
    (change _ _ _ _ _ c.take.new.self (c.self.view_is ∙ c.find.ensures.same) c.in-Some.ensures.found c.index_mut-buffer.ensures.value c.self.invariant (ap (λ (p : Pending). p.name) c.take.ensures.left)).others
