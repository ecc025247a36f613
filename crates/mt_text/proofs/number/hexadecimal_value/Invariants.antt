use Rattle.std.proofs.Common.{◌≡◌, ◌<◌, ◌^◌, take}
use Rattle.mt_text.specs.Number.{hexadecimal_value}
use Rattle.mt_text.proofs.number.hexadecimal_value.Given as goal

abbrev pub invariant-loop-byte : goal.invariant-loop-byte
invariant-loop-byte l = record {
  small : l.value < 16 ^ l.byte-index;
  value : l.value ≡ hexadecimal_value (take l.byte-index l.word);
}
