use Rattle.std.proofs.Common.{List, ℕ, ◌∙◌, subst, rules, take}
use Rattle.std.specs.List.{slice_range}
use Rattle.mt_io.specs.Files.{Gains}
use Rattle.mt_io.proofs.Buffers.{flushed_more}
use Rattle.mt_io.proofs.buffer.Buffer.flush.Goals as goal

pub loop-self-preserved : goal.loop-self-preserved
loop-self-preserved g c =
    let kept = c.loop-self.invariant in
    let i = c.loop-self.self-inside.from in
    let j = c.loop-self.self-inside.to in
    record {
      ordered = search rules;
      within = kept.within;
      room = kept.room;
      name = kept.name;
      kept = flushed_more _ _ _ c.loop-self.self-inside.bytes.items c.deref.result.now i j c.in_ok-count.count c.deref.ensures.value
          (subst (λ (n : List ℕ). Gains (g.F.Files.written c.loop-self.files n) (take c.in_ok-count.count (slice_range c.deref.result.now i j)) (g.F.Files.written c.write.new.self n)) (c.as_str.ensures.value ∙ kept.name) c.in_ok-count.ensures.gained)
          kept.kept;
      other_files = search rules;
      held = search rules;
      read_faults = search rules;
      write_faults = search rules;
    }
