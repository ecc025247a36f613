use Rattle.std.proofs.Common.{◌≡◌, ◌++◌, drop}
use Rattle.mt_syntax.specs.Tokens.{tokens_from, tokens_in}
use Rattle.mt_syntax.proofs.token.scan.Given as goal

abbrev pub invariant-loop-at : goal.invariant-loop-at
invariant-loop-at l = l.tokens.items ++ tokens_from l.at l.named l.skip (drop l.at l.text) ≡ tokens_in l.text
