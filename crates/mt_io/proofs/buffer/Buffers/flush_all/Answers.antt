use Rattle.std.proofs.Common.{◌∙◌, ◌<◌, refl, length, arith}
use Rattle.std.proofs.Math.ListN.{length-set}
use Rattle.std.proofs.lemmas.Option.{slice_get_read, slice_get_within}
use Rattle.mt_io.specs.Laws.{same_twice, never_fell_twice}
use Rattle.mt_io.proofs.Buffers.{change, either, all_kept, risen_more}
use Rattle.mt_io.proofs.buffer.Buffers.flush_all.Goals as goal

pub loop-place-preserved : goal.loop-place-preserved
loop-place-preserved g c =
    let kept = c.loop-place.invariant in
    let list = c.loop-place.self-inside.list.items in
    let place = c.loop-place.place in
    let b = c.index_mut-buffer.result.now in
    let room : place < length list = omega (arith, kept.long, c.loop-place-test.true) in
    let one = change list list place b.name b c.flush.new.self refl (b, slice_get_read list (length list) place b refl room c.index_mut-buffer.ensures.value, refl) c.index_mut-buffer.ensures.value kept.apart c.flush.ensures.name in
    record {
      apart = one.apart;
      long = length-set list place c.flush.new.self ∙ kept.long;
      kept = all_kept list _ b.name b c.flush.new.self _ _ _ one c.flush.ensures.kept c.flush.ensures.other_files kept.kept;
      risen = risen_more list place b c.flush.new.self _ _ _ c.index_mut-buffer.ensures.value room (either c.flush.result _ _ c.flush.ensures.ok c.flush.ensures.failed) c.flush.ensures.name kept.write_faults c.flush.ensures.write_faults kept.risen;
      held = same_twice _ _ _ kept.held c.flush.ensures.held;
      read_faults = never_fell_twice _ _ _ kept.read_faults c.flush.ensures.read_faults;
      write_faults = never_fell_twice _ _ _ kept.write_faults c.flush.ensures.write_faults;
    }

pub returns-clause-failed : goal.returns-clause-failed
returns-clause-failed g c = λ place b is.
    let within : place < length c.loop-place.self-inside.list.items = slice_get_within c.loop-place.self-inside.list.items place b is in
    c.loop-place.invariant.risen place (omega (arith, c.loop-place.invariant.long, c.loop-place-test.false)) b is
