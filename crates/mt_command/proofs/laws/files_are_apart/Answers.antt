use Rattle.mt_command.proofs.FilesApart.{files_apart}
use Rattle.mt_command.proofs.laws.files_are_apart.Goals as goal

pub returns : goal.returns
returns c = files_apart
