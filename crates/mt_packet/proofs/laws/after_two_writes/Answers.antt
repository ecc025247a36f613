-- proofs/laws/after_two_writes/Answers.antt
use Rattle.mt_packet.proofs.Sums.{written-twice}
use Rattle.mt_packet.proofs.laws.after_two_writes.Goals as goal

pub returns : goal.returns
returns c =
    let t =
    written-twice c.args.protocol c.args.field c.args.first_old.now c.args.first_new.now
    c.args.second_old.now c.args.second_new.now
    in cc
