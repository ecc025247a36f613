use Rattle.std.proofs.Common.{◌≡◌, ◌<◌, ◌^◌, take}
use Rattle.mt_text.specs.Number.{decimal_value}
use Rattle.mt_text.proofs.number.decimal_value.Given as goal

abbrev pub invariant-loop-byte : goal.invariant-loop-byte
invariant-loop-byte l = record {
  small : l.value < 16 ^ l.byte-index;
  value : l.value ≡ decimal_value (take l.byte-index l.word);
}
