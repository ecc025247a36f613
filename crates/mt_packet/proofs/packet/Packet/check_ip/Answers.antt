-- proofs/packet/Packet/check_ip/Answers.antt
use Rattle.std.proofs.Common.{subst, List, ℕ}
use Rattle.mt_packet.specs.Header.{AreBytes}
use Rattle.mt_packet.proofs.Judged.{judged-header}
use Rattle.mt_packet.proofs.Kept.{judged-checked, judged-ports}
use Rattle.mt_packet.proofs.Settles.{judged-written, seen-bytes}
use Rattle.mt_packet.proofs.packet.Packet.check_ip.Goals as goal

pub returns-clause-checked : goal.returns-clause-checked
returns-clause-checked c =
    judged-checked c.args.self.now c.check.new.self c.check.result c.check.ensures.valid.0 c.check.ensures.after

pub returns-clause-same_ports : goal.returns-clause-same_ports
returns-clause-same_ports c =
    judged-ports c.args.self.now c.check.new.self c.check.result c.check.ensures.valid.0 c.check.ensures.after

pub returns-clause-header : goal.returns-clause-header
returns-clause-header c =
    judged-header c.args.self.now c.check.new.self c.check.result c.check.ensures.valid.0 c.check.ensures.after

pub returns-clause-written : goal.returns-clause-written
returns-clause-written c =
    let s = c.self.inside in
    let P : List ℕ → Type 0 = λ l. AreBytes l in
    let bytes = seen-bytes c.args.self.now s.layer s.bytes.items s.paint s.annotation s.stamp s.device s.number c.self.view_is (subst P c.deref.ensures.value c.are_bytes.ensures) in
    judged-written c.args.self.now c.check.new.self c.check.result bytes c.check.ensures.valid.0 c.check.ensures.after
