-- proofs/packet/Packet/check/Answers.antt
use Rattle.std.proofs.Common.{◌≡◌, ◌∙◌, ◌≤◌, ap, subst, refl, List, ℕ, length, drop, arith}
use Rattle.mt_packet.specs.Ipv4.{IsValidIpv4}
use Rattle.mt_packet.specs.Packet.{checked}
use Rattle.mt_packet.proofs.Frames.{valid_behind}
use Rattle.mt_packet.proofs.Views.{checked-seen, valid-seen}
use Rattle.mt_packet.proofs.packet.Packet.check.Goals as goal

pub returns-clause-valid : goal.returns-clause-valid
returns-clause-valid c =
    let e : c.behind_header-datagram.result.now ≡ drop 14 c.self.inside.bytes.items = cc in
    (λ _. valid-seen _ _ _ _ _ _ _ _ _ c.self.view_is e (c.valid.ensures.valid.0 c.if-not-valid.false), λ _. refl)

pub returns-clause-after : goal.returns-clause-after
returns-clause-after c =
    let P : List ℕ → Type 0 = λ d. IsValidIpv4 d in
    let e : c.behind_header-datagram.result.now ≡ drop 14 c.self.inside.bytes.items = cc in
    let v : IsValidIpv4 (drop 14 c.self.inside.bytes.items) = subst P e (c.valid.ensures.valid.0 c.if-not-valid.false) in
    let l = valid_behind c.self.inside.bytes.items v in
    let long : 14 ≤ length c.self.inside.bytes.items = omega arith in
    checked-seen c.self.inside.layer c.self.inside.bytes.items _ _ _ c.self.inside.annotation _ _ _ _
    long c.trim.ensures c.checked_layer-self-inside.ensures (cc)
    ∙ ap checked c.self.view_is
