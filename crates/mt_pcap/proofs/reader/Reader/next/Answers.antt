use Rattle.std.proofs.Common.{◌≡◌, ℕ, ◌+◌, List, [], length, rules, refl, sym, ap, subst}
use Rattle.mt_pcap.specs.Stream.{ReaderState, within, TakesSo, HasRead, HasGoneOn, HasNoRecord, HasHead}
use Rattle.mt_pcap.proofs.Streams.{takes_so_twice, read_on, cut_on, head_stands, no_end, end_alike, fault_alike, at_most_twice}
use Rattle.mt_io.specs.Copy.{TakesAtMost}
use Rattle.mt_pcap.proofs.reader.Reader.next.Goals as goal

pub returns-in-Ok-None-clause-again : goal.returns-in-Ok-None-clause-again
returns-in-Ok-None-clause-again g c = λ end at.
    let same = c.in-Ok-None.ensures.again end at in
    (end_alike c.in-Ok-None.field-0 end c.in-Ok-None.field-0-is same.0, same.1, same.2)

pub returns-in-Err-clause-again : goal.returns-in-Err-clause-again
returns-in-Err-clause-again g c = λ end at.
    let same = c.in-Err.ensures.again end at in
    (fault_alike c.in-Err.fault end same.0, same.1, same.2)

pub returns-in-Ok-clause-again : goal.returns-in-Ok-clause-again
returns-in-Ok-clause-again g c = λ end at. absurd (no_end c.in-Ok-Some.field-0 c.in-Ok-Some.head end c.in-Ok-Some.field-0-is (c.in-Ok-Some.ensures.again end at).0)

pub returns-in-Ok-clause-taken : goal.returns-in-Ok-clause-taken
returns-in-Ok-clause-taken g c =
    let at : c.deref.result.now ≡ c.args.self.now.name = search rules in
    at_most_twice 16 262144 _ _ _ c.in-Ok-Some.ensures.taken
    (subst (λ n. TakesAtMost 262144 (g.F.Files.held c.head.new.files n) (g.F.Files.held c.take_data.new.files n)) at c.in-Ok.ensures.taken)

pub returns-in-Ok-clause-reads : goal.returns-in-Ok-clause-reads
returns-in-Ok-clause-reads g c =
    let at : c.deref.result.now ≡ c.args.self.now.name = search rules in
    let old = c.args.self.now.standing in
    let middle = within c.self.inside.form c.self.inside.offset c.in-Ok-Some.head in
    let r : ℕ × List ℕ = (c.in-Ok.stamp, c.in-Ok.frame) in
    let has : HasHead c.head.new.self.standing c.in-Ok-Some.head = search rules in
    let gone : TakesSo (g.F.Files.held c.args.files.now c.args.self.now.name) (g.F.Files.held c.head.new.files c.args.self.now.name) (λ bytes. HasGoneOn old bytes c.head.new.self.standing) = search rules in
    let kept : c.head.new.self.standing ≡ within c.self.inside.form c.self.inside.offset c.in-Ok-Some.head =
    head_stands c.self.inside.form c.self.inside.offset c.self.inside.progress c.head.new.self.standing c.in-Ok-Some.head (ap (λ (r : ReaderState). r.standing) c.self.view_is) has in
    let read : TakesSo (g.F.Files.held c.args.files.now c.args.self.now.name) (g.F.Files.held c.take_data.new.files c.args.self.now.name) (λ bytes. HasRead old bytes r (within c.self.inside.form (c.self.inside.offset + (16 + length c.in-Ok.frame)) [])) =
    takes_so_twice _ _ _ (λ bytes. HasGoneOn old bytes c.head.new.self.standing) (λ bytes. HasRead middle bytes r (within c.self.inside.form (c.self.inside.offset + (16 + length c.in-Ok.frame)) [])) (λ bytes. HasRead old bytes r (within c.self.inside.form (c.self.inside.offset + (16 + length c.in-Ok.frame)) []))
    gone
    (subst (λ n. TakesSo (g.F.Files.held c.head.new.files n) (g.F.Files.held c.take_data.new.files n) (λ bytes. HasRead middle bytes r (within c.self.inside.form (c.self.inside.offset + (16 + length c.in-Ok.frame)) []))) at c.in-Ok.ensures.reads)
    (λ a b went last. read_on old middle (within c.self.inside.form (c.self.inside.offset + (16 + length c.in-Ok.frame)) []) a b r (subst (λ s. HasGoneOn old a s) kept went) last) in
    subst (λ l. TakesSo (g.F.Files.held c.args.files.now c.args.self.now.name) (g.F.Files.held c.take_data.new.files c.args.self.now.name) (λ bytes. HasRead old bytes r (within c.self.inside.form (c.self.inside.offset + (16 + length l)) []))) (sym c.bytes.ensures) read

pub returns-in-Err-NoMemory-clause-again : goal.returns-in-Err-NoMemory-clause-again
returns-in-Err-NoMemory-clause-again g c = λ end at. absurd (no_end c.in-Ok-Some.field-0 c.in-Ok-Some.head end c.in-Ok-Some.field-0-is (c.in-Ok-Some.ensures.again end at).0)

pub returns-in-Err-take_data : goal.returns-in-Err-take_data
returns-in-Err-take_data g c =
    let at : c.deref.result.now ≡ c.args.self.now.name = search rules in
    let old = c.args.self.now.standing in
    let middle = within c.self.inside.form c.self.inside.offset c.in-Ok-Some.head in
    let has : HasHead c.head.new.self.standing c.in-Ok-Some.head = search rules in
    let gone : TakesSo (g.F.Files.held c.args.files.now c.args.self.now.name) (g.F.Files.held c.head.new.files c.args.self.now.name) (λ bytes. HasGoneOn old bytes c.head.new.self.standing) = search rules in
    let kept : c.head.new.self.standing ≡ within c.self.inside.form c.self.inside.offset c.in-Ok-Some.head =
    head_stands c.self.inside.form c.self.inside.offset c.self.inside.progress c.head.new.self.standing c.in-Ok-Some.head (ap (λ (r : ReaderState). r.standing) c.self.view_is) has in
    record {
      gives = search rules;
      end = search rules;
      fault = search rules;
      read_fault = search rules;
      no_memory = search rules;
      over = λ _. refl;
      again = λ end at. absurd (no_end c.in-Ok-Some.field-0 c.in-Ok-Some.head end c.in-Ok-Some.field-0-is (c.in-Ok-Some.ensures.again end at).0);
      seconds_fit = search rules;
      past_header = λ _. c.in-Err-take_data.ensures.past_header;
      lengths = search rules;
      reads = search rules;
      end_takes_nothing = search rules;
      cut = λ other. takes_so_twice _ _ _ (λ bytes. HasGoneOn old bytes c.head.new.self.standing) (HasNoRecord middle) (HasNoRecord old)
          gone
          (subst (λ n. TakesSo (g.F.Files.held c.head.new.files n) (g.F.Files.held c.take_data.new.files n) (HasNoRecord middle)) at (c.in-Err-take_data.ensures.cut other))
          (λ a b went none. cut_on old middle a b (subst (λ s. HasGoneOn old a s) kept went) none);
      goes_on = search rules;
      name = search rules;
      given = search rules;
      taken = at_most_twice 16 262144 _ _ _ c.in-Ok-Some.ensures.taken
          (subst (λ n. TakesAtMost 262144 (g.F.Files.held c.head.new.files n) (g.F.Files.held c.take_data.new.files n)) at c.in-Err-take_data.ensures.taken);
      head_only = λ offset is. subst (λ files. TakesAtMost 16 (g.F.Files.held c.args.files.now c.args.self.now.name) (g.F.Files.held files c.args.self.now.name)) (sym (c.in-Err-take_data.ensures.head_only offset is)) c.in-Ok-Some.ensures.taken;
      other_files = search rules;
      written = search rules;
      read_faults = search rules;
      write_faults = search rules;
    }
