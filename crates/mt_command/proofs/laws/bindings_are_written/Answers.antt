use Rattle.mt_command.proofs.Written.{is_written, is_read}
use Rattle.mt_command.proofs.laws.bindings_are_written.Goals as goal

pub returns : goal.returns
returns c number word b = (is_written number word b, λ h. is_read number word b h.0 h.1)
