use Rattle.std.proofs.Common.{arith}
use Rattle.mt_pattern.proofs.Printed.{range_printed}
use Rattle.mt_pattern.proofs.laws.range_is_read_back.Goals as goal

pub returns : goal.returns
returns c = λ lo hi le small.
    range_printed lo hi le small (c.number_is_read_back.ensures 65535 lo (omega arith) (omega arith)) (c.number_is_read_back.ensures 65535 hi small (omega arith))
