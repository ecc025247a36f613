use Rattle.std.proofs.Common.{◌≡◌, ◌+◌, ◌-◌, drop}
use Rattle.std.specs.Option.{option_map}
use Rattle.mt_syntax.specs.Comment.{block_len}
use Rattle.mt_syntax.proofs.comment.block_length.Given as goal

abbrev pub invariant-loop-at : goal.invariant-loop-at
invariant-loop-at l = block_len l.bytes ≡ option_map (λ n. n + (l.at - 1)) (block_len (drop (l.at - 1) l.bytes))
