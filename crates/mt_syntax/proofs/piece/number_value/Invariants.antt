use Rattle.std.proofs.Common.{◌≡◌, ◌<◌, ◌^◌, take}
use Rattle.mt_syntax.specs.Piece.{number_of}
use Rattle.mt_syntax.proofs.piece.number_value.Given as goal

abbrev pub invariant-loop-digit : goal.invariant-loop-digit
invariant-loop-digit l = record {
  small : l.number < 10 ^ l.digit-index;
  value : l.number ≡ number_of (take l.digit-index l.digits);
}
