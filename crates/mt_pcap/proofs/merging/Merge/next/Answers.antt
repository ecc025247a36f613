use Rattle.std.proofs.Common.{◌≡◌, ◌++◌, length, take, drop, arith, rules, ap, sym, subst, ◌∙◌}
use Rattle.std.proofs.lemmas.List.{take_at}
use Rattle.mt_pcap.specs.Sources.{MergeState, names_of, IsSameBeside}
use Rattle.mt_pcap.specs.Merged.{AreUnbroken}
use Rattle.mt_pcap.proofs.merging.Merge.next.Goals as goal

pub returns-in-Ok-Some-clause-other_files : goal.returns-in-Ok-Some-clause-other_files
returns-in-Ok-Some-clause-other_files g c =
    subst (λ l. IsSameBeside (names_of l) (g.F.Files.held c.args.files.now) (g.F.Files.held c.next_of.new.files)) (c.deref_mut.ensures.value ∙ ap (λ (m : MergeState). m.sources) c.self.view_is) c.next_of.ensures.other_files

pub returns-in-Ok-None-clause-other_files : goal.returns-in-Ok-None-clause-other_files
returns-in-Ok-None-clause-other_files g c =
    subst (λ l. IsSameBeside (names_of l) (g.F.Files.held c.args.files.now) (g.F.Files.held c.next_of.new.files)) (c.deref_mut.ensures.value ∙ ap (λ (m : MergeState). m.sources) c.self.view_is) c.next_of.ensures.other_files

pub returns-in-Err-clause-other_files : goal.returns-in-Err-clause-other_files
returns-in-Err-clause-other_files g c =
    subst (λ l. IsSameBeside (names_of l) (g.F.Files.held c.args.files.now) (g.F.Files.held c.next_of.new.files)) (c.deref_mut.ensures.value ∙ ap (λ (m : MergeState). m.sources) c.self.view_is) c.next_of.ensures.other_files

pub returns-in-Ok-Some-clause-unbroken : goal.returns-in-Ok-Some-clause-unbroken
returns-in-Ok-Some-clause-unbroken g c =
    let old : c.deref_mut.result.now ≡ c.args.self.now.sources = c.deref_mut.ensures.value ∙ ap (λ (m : MergeState). m.sources) c.self.view_is in
    let new : take c.self.inside.queues.len (c.next_of.new.queues ++ drop (length c.next_of.new.queues) c.self.inside.queues.items) ≡ c.next_of.new.queues = take_at c.next_of.new.queues _ c.self.inside.queues.len (omega (arith, c.next_of.auto.queues, c.deref_mut.ensures.len)) in
    let step : AreUnbroken c.deref_mut.result.now → AreUnbroken c.next_of.new.queues = search rules in
    λ unbroken. subst AreUnbroken (sym new) (step (subst AreUnbroken (sym old) unbroken))

pub returns-in-Err-clause-past_header : goal.returns-in-Err-clause-past_header
returns-in-Err-clause-past_header g c =
    let old : c.deref_mut.result.now ≡ c.args.self.now.sources = c.deref_mut.ensures.value ∙ ap (λ (m : MergeState). m.sources) c.self.view_is in
    λ unbroken. c.in-Err.ensures.past_header (subst AreUnbroken (sym old) unbroken)
