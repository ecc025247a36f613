use Rattle.std.proofs.Common.{◌≡◌, ◌++◌}
use Rattle.mt_elements.proofs.describing.mapper_number.Goals as goal

pub returns-clause-place : goal.returns-clause-place
returns-clause-place c =
    let full : c.deref.result.now ≡ c.args.scope.now ++ c.args.name.now = cc (c.deref.ensures.value, c.in_ok-extend_from_slice.ensures.items, c.in_ok-full.ensures.items) in
    rw (← full) c.index_of.ensures.place
