use Rattle.std.proofs.Common.{◌≤◌, ◌<◌, ◌+◌, ℕ, List, ◌++◌, take, length, ap, arith}
use Rattle.std.proofs.lemmas.Result.{err_from_is_err_and}
use Rattle.std.proofs.lemmas.List.{length-append, length-take}
use Rattle.std.specs.Prelude.{Option, Some, None}
use Rattle.mt_io.specs.Files.{Takes}
use Rattle.mt_io.specs.Copy.{IsLongerThan}
use Rattle.mt_io.specs.Laws.{takes_twice}
use Rattle.mt_io.proofs.whole.read_up_to.Goals as goal

-- more than a limit was taken
takes_more_than : (limit : ℕ) (before after : Option (List ℕ)) (bytes : List ℕ) → limit < length bytes → Takes before bytes after → IsLongerThan limit before
takes_more_than limit None after bytes more taken = tt
takes_more_than limit (Some all) after bytes more taken = omega (arith, ap length taken.2, length-append bytes taken.0)

-- the text so far and the piece behind it were taken
pub returns-then-count-left-clause-too_long : goal.returns-then-count-left-clause-too_long
returns-then-count-left-clause-too_long g c = λ _.
    let front : List ℕ = c.loop-text.text.items ++ take c.in_ok-count.count c.read.new.buf in
    let a = length-append c.loop-text.text.items (take c.in_ok-count.count c.read.new.buf) in
    let b = length-take c.in_ok-count.count c.read.new.buf in
    let d = length-take c.min-room.result c.loop-text.piece in
    let more : c.args.limit < length front = omega (arith, a, b, d, c.in_ok-count.ensures.within) in
    takes_more_than c.args.limit _ _ front more (takes_twice _ _ _ _ _ c.loop-text.invariant.taken c.in_ok-count.ensures.taken)

pub returns-then-count-left-clause-taken_before_error : goal.returns-then-count-left-clause-taken_before_error
returns-then-count-left-clause-taken_before_error g c =
    let front : List ℕ = c.loop-text.text.items ++ take c.in_ok-count.count c.read.new.buf in
    let a = length-append c.loop-text.text.items (take c.in_ok-count.count c.read.new.buf) in
    let b = length-take c.in_ok-count.count c.read.new.buf in
    let d = length-take c.min-room.result c.loop-text.piece in
    let within : length front ≤ c.args.limit + 1 = omega (arith, a, b, d, c.in_ok-count.ensures.within) in
    (front, within, takes_twice _ _ _ _ _ c.loop-text.invariant.taken c.in_ok-count.ensures.taken)

pub returns-in_err-extend_from_slice-clause-taken_before_error : goal.returns-in_err-extend_from_slice-clause-taken_before_error
returns-in_err-extend_from_slice-clause-taken_before_error g c =
    let front : List ℕ = c.loop-text.text.items ++ take c.in_ok-count.count c.read.new.buf in
    let a = length-append c.loop-text.text.items (take c.in_ok-count.count c.read.new.buf) in
    let b = length-take c.in_ok-count.count c.read.new.buf in
    let d = length-take c.min-room.result c.loop-text.piece in
    let within : length front ≤ c.args.limit + 1 = omega (arith, a, b, d, c.in_ok-count.ensures.within) in
    let fault = err_from_is_err_and c.from_residual-in_err-extend_from_slice.result c.from_residual-in_err-extend_from_slice.ensures.1 in
    rw fault.1 (front, within, takes_twice (g.F.Files.held c.args.files.now c.args.name.now) _ _ _ _ c.loop-text.invariant.taken c.in_ok-count.ensures.taken)
