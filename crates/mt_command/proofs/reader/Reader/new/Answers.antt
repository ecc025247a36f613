use Rattle.mt_command.specs.Reading.{holds}
use Rattle.mt_command.proofs.Steps.{read_none}
use Rattle.mt_command.proofs.reader.Reader.new.Goals as goal

pub returns : goal.returns
returns c names words = rw (c.new.ensures.numbers, c.new.ensures.bindings) (read_none names words (holds c.new.result.files) c.new.ensures.files)
