use Rattle.std.proofs.Common.{◌≡◌, ◌<◌, length, ◌∙◌, sym, false, arith}
use Rattle.std.specs.Prelude.{◌==◌}
use Rattle.std.proofs.lemmas.Bool.Decides.{nat_tests}
use Rattle.mt_io.specs.Buffers.{pending_of}
use Rattle.mt_io.proofs.Buffers.{took_ahead, read_then_took, nothing_there}
use Rattle.mt_io.proofs.buffered.BufferedFiles.read.Goals as goal

pub returns-then-count-gt0-clause-taken : goal.returns-then-count-gt0-clause-taken
returns-then-count-gt0-clause-taken g c =
    took_ahead (pending_of c.args.self.now.held_back c.args.name.now) _ c.take-count.new.buf (g.F.Files.held c.args.self.now.inner c.args.name.now) c.take-count.result c.take-count.ensures.left c.take-count.ensures.bytes

pub returns-in_ok-fill-in-Ok-clause-taken : goal.returns-in_ok-fill-in-Ok-clause-taken
returns-in_ok-fill-in-Ok-clause-taken g c =
    let asked : (length c.take-count.new.buf == 0) ≡ false = sym c.is_empty.ensures ∙ c.if-is_empty.false in
    let some : 0 < length c.take-count.new.buf = grind (arith, nat_tests) in
    let same : length c.take-count.new.buf ≡ length c.args.buf.now = omega arith in
    read_then_took (pending_of c.args.self.now.held_back c.args.name.now) (pending_of c.fill.new.self c.args.name.now) _ c.take.new.buf _ _ c.take.result
    (nothing_there (pending_of c.args.self.now.held_back c.args.name.now) c.take-count.result (length c.args.buf.now) c.take-count.ensures.count c.if-count-gt0.false (omega (arith, some, same)))
    c.in_ok-fill-in-Ok.ensures.taken c.take.ensures.left c.take.ensures.bytes
