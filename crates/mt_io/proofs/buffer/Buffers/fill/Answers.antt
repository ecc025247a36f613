use Rattle.std.proofs.Common.{List, ℕ, [], ◌≡◌, ◌<◌, length, sym, ◌∙◌, refl, subst, arith, OnOk, OnErr}
use Rattle.mt_io.specs.Files.{Takes, IsAtEnd}
use Rattle.mt_io.proofs.Buffers.{change, is_within}
use Rattle.mt_io.proofs.buffer.Buffers.fill.Goals as goal

pub index_mut-buffer-requires : goal.index_mut-buffer-requires
index_mut-buffer-requires g c =
    let within : c.args.place < length c.self.inside.list.items = is_within _ _ _ _ c.self.view_is c.requires.stands in
    omega arith

pub fill-requires : goal.fill-requires
fill-requires g c = sym (change _ _ _ _ _ c.index_mut-buffer.result.now c.self.view_is c.requires.stands c.index_mut-buffer.ensures.value c.self.invariant refl).before ∙ c.requires.empty

pub invariant_of-self : goal.invariant_of-self
invariant_of-self g c = (change _ _ _ _ _ c.fill.new.self c.self.view_is c.requires.stands c.index_mut-buffer.ensures.value c.self.invariant c.fill.ensures.name).apart

pub returns-clause-taken : goal.returns-clause-taken
returns-clause-taken g c =
    let one = change _ _ _ _ _ c.fill.new.self c.self.view_is c.requires.stands c.index_mut-buffer.ensures.value c.self.invariant c.fill.ensures.name in
    subst (λ (l : List ℕ). OnOk c.fill.result (Takes (g.F.Files.held c.args.files.now c.args.name.now) l (g.F.Files.held c.fill.new.files c.args.name.now))) (sym one.after) c.fill.ensures.taken

pub returns-clause-end : goal.returns-clause-end
returns-clause-end g c =
    let one = change _ _ _ _ _ c.fill.new.self c.self.view_is c.requires.stands c.index_mut-buffer.ensures.value c.self.invariant c.fill.ensures.name in
    subst (λ (l : List ℕ). OnOk c.fill.result (l ≡ [] → IsAtEnd (g.F.Files.held c.args.files.now c.args.name.now))) (sym one.after) c.fill.ensures.end

pub returns-clause-failed_leaves : goal.returns-clause-failed_leaves
returns-clause-failed_leaves g c =
    let one = change _ _ _ _ _ c.fill.new.self c.self.view_is c.requires.stands c.index_mut-buffer.ensures.value c.self.invariant c.fill.ensures.name in
    subst (λ (l : List ℕ). OnErr c.fill.result (l ≡ [])) (sym one.after) c.fill.ensures.failed_leaves

pub returns-clause-others : goal.returns-clause-others
returns-clause-others g c = (change _ _ _ _ _ c.fill.new.self c.self.view_is c.requires.stands c.index_mut-buffer.ensures.value c.self.invariant c.fill.ensures.name).others
