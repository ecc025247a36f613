use Rattle.mt_command.proofs.BoundApart.{bound_apart}
use Rattle.mt_command.proofs.laws.bound_files_are_apart.Goals as goal

pub returns : goal.returns
returns c = bound_apart
