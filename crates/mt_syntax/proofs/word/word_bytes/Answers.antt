use Rattle.std.proofs.Common.{◌-◌}
use Rattle.mt_syntax.specs.Words.{bytes_of}
use Rattle.mt_syntax.proofs.WordBytes.{clipped_at}
use Rattle.mt_syntax.proofs.word.word_bytes.Goals as goal

pub returns-clause-bytes : goal.returns-clause-bytes
unfolding bytes_of
returns-clause-bytes c =
    clipped_at c.args.text.now c.args.word.from c.min.result (c.args.word.to - c.args.word.from) c.min-len.result c.saturating_sub.result c.min.ensures c.saturating_sub.ensures c.min-len.ensures
