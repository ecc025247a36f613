use Rattle.mt_script.proofs.TextsJoined.{texts_joined}
use Rattle.mt_script.proofs.laws.texts_follow_each_other.Goals as goal

pub returns : goal.returns
returns c = texts_joined
