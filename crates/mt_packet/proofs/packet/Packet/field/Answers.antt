-- proofs/packet/Packet/field/Answers.antt
use Rattle.std.proofs.Common.{◌≡◌, ◌∙◌, drop, sym, ap}
use Rattle.mt_packet.specs.Packet.{datagram_of, frame_of}
use Rattle.mt_packet.proofs.Views.{datagram_of-seen}
use Rattle.mt_packet.proofs.packet.Packet.field.Goals as goal

pub returns-clause-value : goal.returns-clause-value
returns-clause-value c =
    let s = c.self.inside in
    let seen_there : c.behind_header-datagram.result.now ≡ drop 14 s.bytes.items = cc in
    let datagram : c.behind_header-datagram.result.now ≡ datagram_of c.args.self.now =
    seen_there ∙ sym (datagram_of-seen s.layer s.bytes.items s.paint s.annotation s.stamp s.device s.number) ∙ ap (λ p. datagram_of p) c.self.view_is in
    let frame : c.ethernet-frame.result.now ≡ frame_of c.args.self.now = c.ethernet-frame.ensures in
    let device = ap (λ p. p.device) c.self.view_is in
    let paint = ap (λ p. p.paint) c.self.view_is in
    let annotation = ap (λ p. p.annotation) c.self.view_is in
    c.read.ensures.value ∙ cc
