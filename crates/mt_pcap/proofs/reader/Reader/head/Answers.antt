use Rattle.std.proofs.Common.{◌≡◌, [], sym, subst, ap, ◌∙◌, rules}
use Rattle.mt_pcap.specs.Stream.{within, left_at, TakesSo, HasNoRecord}
use Rattle.mt_pcap.proofs.Records.{records-end}
use Rattle.mt_pcap.proofs.Streams.{cut_head_none}
use Rattle.mt_pcap.proofs.reader.Reader.head.Goals as goal

pub returns-in-Ok-None-clause-end_takes_nothing : goal.returns-in-Ok-None-clause-end_takes_nothing
returns-in-Ok-None-clause-end_takes_nothing g c =
    let stands : c.args.self.now.standing ≡ within c.self.inside.form c.self.inside.offset [] = search rules in
    let named : c.deref.result.now ≡ c.args.self.now.name = search rules in
    λ _. (
      subst (λ n. g.F.Files.held c.take_head.new.files n ≡ g.F.Files.held c.args.files.now n) named (c.in-Ok-None.ensures.end_takes_nothing c.in-Ok-None.field-0-is),
      ap (λ s. left_at s []) stands ∙ records-end c.self.inside.form c.self.inside.offset,
    )

pub returns-in-Err-clause-cut : goal.returns-in-Err-clause-cut
returns-in-Err-clause-cut g c =
    let stands : c.args.self.now.standing ≡ within c.self.inside.form c.self.inside.offset [] = search rules in
    let named : c.deref.result.now ≡ c.args.self.now.name = search rules in
    let t = c.in-Err.ensures.cut in
    subst (λ n. TakesSo (g.F.Files.held c.args.files.now n) (g.F.Files.held c.take_head.new.files n) (HasNoRecord c.args.self.now.standing)) named
    (t.0, t.1, subst (λ s. HasNoRecord s t.0) (sym stands) (cut_head_none c.self.inside.form c.self.inside.offset t.0 t.2))
