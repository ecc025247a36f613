use Rattle.mt_click.proofs.GraphOfText.{reads_once}
use Rattle.mt_click.proofs.laws.one_reading.Goals as goal

pub returns : goal.returns
returns c = reads_once c.texts_are_read.ensures
