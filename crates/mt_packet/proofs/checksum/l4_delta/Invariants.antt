-- proofs/checksum/l4_delta/Invariants.antt
use Rattle.std.proofs.Common.{◌≡◌, ◌+◌, ◌%◌, ◌<◌, sum, take}
use Rattle.mt_packet.specs.Checksum.{negative_of}
use Rattle.mt_packet.proofs.checksum.l4_delta.Given as goal

-- the old words so far are added
abbrev pub invariant-loop-word : goal.invariant-loop-word
invariant-loop-word l = (l.total < 65535) × (l.total ≡ (l.field + sum (take l.word-index l.old)) % 65535)

-- the old words are added, and the new words so far taken away
abbrev pub invariant-loop-word-2 : goal.invariant-loop-word-2
invariant-loop-word-2 l =
    (l.total < 65535)
    × (l.total ≡ (l.field + sum l.old + negative_of (sum (take l.word-index l.new))) % 65535)
