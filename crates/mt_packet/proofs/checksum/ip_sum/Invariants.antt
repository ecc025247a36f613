-- proofs/checksum/ip_sum/Invariants.antt
use Rattle.std.proofs.Common.{length, ◌-◌, ◌≡◌, sum, ◌+◌, ◌≤◌, drop}
use Rattle.mt_packet.specs.Checksum.{words_of, ones_complement}
use Rattle.mt_packet.proofs.checksum.ip_sum.Given as goal

-- the total and the words that are left have the sum of all words
abbrev pub invariant-loop-offset : goal.invariant-loop-offset
invariant-loop-offset l =
    (l.offset ≤ length l.bytes) × (l.total ≤ 65535)
    × (ones_complement (l.total + sum (words_of (drop l.offset l.bytes))) ≡ ones_complement (sum (words_of l.bytes)))

abbrev pub decreases-loop-offset : goal.decreases-loop-offset
decreases-loop-offset l = length l.bytes - l.offset
