-- proofs/packet/Packet/write_field/Answers.antt
use Rattle.mt_packet.proofs.After.{written-header}
use Rattle.mt_packet.proofs.Kept.{written-checked, written-ports}
use Rattle.mt_packet.proofs.Settles.{written-written}
use Rattle.mt_packet.proofs.packet.Packet.write_field.Goals as goal

pub returns-clause-still_checked : goal.returns-clause-still_checked
returns-clause-still_checked c =
    written-checked c.args.self.now c.set.new.self c.args.field c.args.value c.requires.allowed c.set.ensures

pub returns-clause-same_ports : goal.returns-clause-same_ports
returns-clause-same_ports c =
    written-ports c.args.self.now c.set.new.self c.args.field c.args.value c.requires.allowed c.set.ensures

pub returns-clause-header : goal.returns-clause-header
returns-clause-header c =
    written-header c.args.self.now c.set.new.self c.args.field c.args.value c.requires.allowed c.set.ensures

pub returns-clause-still_written : goal.returns-clause-still_written
returns-clause-still_written c =
    written-written c.args.self.now c.set.new.self c.args.field c.args.value c.requires.allowed c.set.ensures
