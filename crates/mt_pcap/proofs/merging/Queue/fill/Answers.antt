use Rattle.std.proofs.Common.{◌≡◌, [], None, sym, ap, subst, ◌∙◌}
use Rattle.mt_pcap.specs.Stream.{TakesSo, HasNoRecord}
use Rattle.mt_pcap.specs.Sources.{Source}
use Rattle.mt_pcap.specs.Merged.{IsUnended, HasGiven}
use Rattle.mt_pcap.proofs.Goes.{no_head, next_given, next_failed}
use Rattle.mt_pcap.proofs.merging.Queue.fill.Goals as goal

pub returns-in-Ok-clause-goes_on : goal.returns-in-Ok-clause-goes_on
returns-in-Ok-clause-goes_on g c =
    let none : c.self.inside.head ≡ None = no_head c.self.inside.head (sym c.is_some.ensures ∙ c.if-is_some.false) in
    let is : record { reader = c.self.inside.reader; head = None } ≡ c.args.self.now = ap (λ h. record { reader = c.self.inside.reader; head = h }) (sym none) ∙ c.self.view_is in
    subst (λ (s : Source). TakesSo (g.F.Files.held c.args.files.now s.reader.name) (g.F.Files.held c.next.new.files s.reader.name) (λ bytes. HasGiven [] s bytes (record { reader = c.next.new.self; head = c.in-Ok.next }))) is
    (next_given c.self.inside.reader c.next.new.self c.in-Ok.next _ _ (λ end at. (c.in-Ok.ensures.again end at).0) c.in-Ok.ensures.over (λ e. (c.in-Ok.ensures.end_takes_nothing e).0) c.in-Ok.ensures.reads)

pub returns-in-Err-clause-cut : goal.returns-in-Err-clause-cut
returns-in-Err-clause-cut g c =
    let none : c.self.inside.head ≡ None = no_head c.self.inside.head (sym c.is_some.ensures ∙ c.if-is_some.false) in
    let is : record { reader = c.self.inside.reader; head = None } ≡ c.args.self.now = ap (λ h. record { reader = c.self.inside.reader; head = h }) (sym none) ∙ c.self.view_is in
    λ failed.
    subst (λ (s : Source). (s.head ≡ None) × IsUnended s × TakesSo (g.F.Files.held c.args.files.now s.reader.name) (g.F.Files.held c.next.new.files s.reader.name) (HasNoRecord s.reader.standing)) is
    (next_failed c.self.inside.reader c.in-Err.fault _ _ failed (λ end at. (c.in-Err.ensures.again end at).0) c.in-Err.ensures.cut)
