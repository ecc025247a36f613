use Rattle.std.proofs.Common.{◌+◌, List, ℕ, map, take, sym, subst, arith}
use Rattle.mt_pcap.specs.Opened.{AreOpened}
use Rattle.mt_io.specs.Laws.{same_twice, never_fell_twice}
use Rattle.metron.proofs.Begun.{not_opened, at_of_map, still_held}
use Rattle.metron.proofs.ends.open_captures.Goals as goal

pub returns-in-Err-clause-err : goal.returns-in-Err-clause-err
returns-in-Err-clause-err g c =
    let names : List (List ℕ) = map (λ f. f.now) c.args.inputs.now in
    let at = at_of_map (λ f. f.now) c.args.inputs.now c.loop-index.index _ (omega (arith, c.loop-index-test.true)) in
    not_opened names c.loop-index.index _ _ (g.F.Files.held c.loop-index.files) c.loop-index.readers.items _ (g.F.Files.read_faults c.loop-index.files) (g.F.Files.read_faults c.open.new.files) c.in-Err.fault c.loop-index.invariant.opened
    at (still_held names c.loop-index.index _ _ (g.F.Files.held c.loop-index.files) c.loop-index.readers.items c.requires.apart c.loop-index.invariant.opened at) c.loop-index.invariant.read_faults c.in-Err.ensures.err

pub loop-index-preserved : goal.loop-index-preserved
loop-index-preserved g c =
    let names : List (List ℕ) = map (λ f. f.now) c.args.inputs.now in
    let at = at_of_map (λ f. f.now) c.args.inputs.now c.loop-index.index _ (omega (arith, c.loop-index-test.true)) in
    record {
      opened = subst (AreOpened (take (c.loop-index.index + 1) names) (g.F.Files.held c.args.files.now) (g.F.Files.held c.open.new.files)) (sym c.in-Ok-push.ensures.items)
          (c.opens_all.ensures.one_more names (g.F.Files.held c.args.files.now) (g.F.Files.held c.loop-index.files) (g.F.Files.held c.open.new.files) c.loop-index.readers.items c.loop-index.index _ c.in-Ok.reader c.requires.apart at c.loop-index.invariant.opened c.in-Ok.ensures.opened);
      written = same_twice _ _ _ c.loop-index.invariant.written c.open.ensures.written;
      read_faults = never_fell_twice _ _ _ c.loop-index.invariant.read_faults c.open.ensures.read_faults;
      write_faults = never_fell_twice _ _ _ c.loop-index.invariant.write_faults c.open.ensures.write_faults;
    }
