use Rattle.std.proofs.Common.{List, ℕ, [], ◌≡◌, ◌<◌, length, ◌∙◌, ap, sym, subst, refl, arith, OnOk, OnErr}
use Rattle.mt_io.specs.Files.{Rose, IsSameBut}
use Rattle.mt_io.specs.Buffers.{Pending, pending_of, behind}
use Rattle.mt_io.proofs.Buffers.{change, is_within, nothing_of}
use Rattle.mt_io.proofs.buffer.Buffers.flush.Goals as goal

pub returns-in_default-clause-ok : goal.returns-in_default-clause-ok
returns-in_default-clause-ok g c = ap (λ (l : List Pending). pending_of l c.args.name.now) c.find.ensures.same ∙ nothing_of c.args.self.now c.args.name.now (c.in_default.ensures.none refl)

pub index_mut-buffer-requires : goal.index_mut-buffer-requires
index_mut-buffer-requires g c =
    let within : c.in-Some.place < length c.self.inside.list.items = is_within _ _ _ _ (c.self.view_is ∙ c.find.ensures.same) c.in-Some.ensures.found in
    omega arith

pub invariant_of-self : goal.invariant_of-self
invariant_of-self g c = (change _ _ _ _ _ c.flush.new.self (c.self.view_is ∙ c.find.ensures.same) c.in-Some.ensures.found c.index_mut-buffer.ensures.value c.self.invariant c.flush.ensures.name).apart

pub returns-clause-ok : goal.returns-clause-ok
returns-clause-ok g c =
    let one = change _ _ _ _ _ c.flush.new.self (c.self.view_is ∙ c.find.ensures.same) c.in-Some.ensures.found c.index_mut-buffer.ensures.value c.self.invariant c.flush.ensures.name in
    subst (λ (l : List ℕ). OnOk c.flush.result (l ≡ [])) (sym one.after) c.flush.ensures.ok

pub returns-clause-failed : goal.returns-clause-failed
returns-clause-failed g c =
    let one = change _ _ _ _ _ c.flush.new.self (c.self.view_is ∙ c.find.ensures.same) c.in-Some.ensures.found c.index_mut-buffer.ensures.value c.self.invariant c.flush.ensures.name in
    subst (λ (n : List ℕ). OnErr c.flush.result (Rose (g.F.Files.write_faults c.args.files.now n) (g.F.Files.write_faults c.flush.new.files n))) one.named c.flush.ensures.failed

pub returns-clause-kept : goal.returns-clause-kept
returns-clause-kept g c =
    let one = change _ _ _ _ _ c.flush.new.self (c.self.view_is ∙ c.find.ensures.same) c.in-Some.ensures.found c.index_mut-buffer.ensures.value c.self.invariant c.flush.ensures.name in
    ap (behind (g.F.Files.written c.flush.new.files c.args.name.now)) one.after
    ∙ subst (λ (n : List ℕ). behind (g.F.Files.written c.flush.new.files n) c.flush.new.self.bytes ≡ behind (g.F.Files.written c.args.files.now n) c.index_mut-buffer.result.now.bytes) one.named c.flush.ensures.kept
    ∙ ap (behind (g.F.Files.written c.args.files.now c.args.name.now)) (sym one.before)

pub returns-clause-others : goal.returns-clause-others
returns-clause-others g c = (change _ _ _ _ _ c.flush.new.self (c.self.view_is ∙ c.find.ensures.same) c.in-Some.ensures.found c.index_mut-buffer.ensures.value c.self.invariant c.flush.ensures.name).others

pub returns-clause-other_files : goal.returns-clause-other_files
returns-clause-other_files g c =
    let one = change _ _ _ _ _ c.flush.new.self (c.self.view_is ∙ c.find.ensures.same) c.in-Some.ensures.found c.index_mut-buffer.ensures.value c.self.invariant c.flush.ensures.name in
    subst (λ (n : List ℕ). IsSameBut n (g.F.Files.written c.args.files.now) (g.F.Files.written c.flush.new.files)) one.named c.flush.ensures.other_files
