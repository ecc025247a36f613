-- The tests that the code makes are those of the definitions.
use Rattle.std.proofs.Common.{◌≡◌, refl, sym, ◌∙◌, ap, Bool, true, false, List, ℕ, arith}
use Rattle.std.specs.Prelude.{◌↔◌, IsTrue, IsSome, Option, Some, None, if◌then◌else◌, is_some}
use Rattle.std.proofs.lemmas.Bool.Decides.{nat_tests}
use Rattle.std.proofs.lemmas.Grind.{common_steps}
use Rattle.std.proofs.lemmas.Bool.{false≢true}
use Rattle.mt_packet.specs.Flow.{packet_flow, datagram_flow}
use Rattle.mt_packet.specs.declared.flow.Flow.{Flow}
use Rattle.mt_packet.specs.Ipv4.{IsValidIpv4, is_valid_ipv4, is_readable, has_ports}
use Rattle.mt_packet.specs.Packet.{PacketState, HasEthernet, datagram_of, checked}
use Rattle.mt_packet.specs.declared.layer.Layer.{Layer}
use Rattle.mt_packet.specs.declared.layer.Layer.TheVariants.{Frame, Bare, Ip, Framed}
use Rattle.mt_kinds.specs.declared.kind.Kind.TheVariants.{CheckIPHeader}
use Rattle.mt_kinds.specs.Layers.{is_bare}
use Rattle.mt_chain.specs.declared.step.Exit.TheVariants.{Leaves}
use Rattle.mt_chain.specs.Step.{class_step, leaves, refused, IsSound}
use Rattle.mt_chain.specs.Classifier.{is_whole}

same_test : (b t : Bool) → (b ≡ true → t ≡ true) → (t ≡ true → b ≡ true) → b ≡ t
same_test true t to from = sym (to refl)
same_test false true to from = from refl
same_test false false to from = refl

valid_holds : (d : List ℕ) → is_valid_ipv4 d ≡ true → IsValidIpv4 d
unfolding is_valid_ipv4 is_readable
valid_holds d h = record {
  has_fixed_part = grind (arith, nat_tests, common_steps);
  is_version_4 = grind (arith, nat_tests, common_steps);
  header_is_long_enough = grind (arith, nat_tests, common_steps);
  header_is_within = grind (arith, nat_tests, common_steps);
  packet_is_within = grind (arith, nat_tests, common_steps);
  sum_is_right = grind (arith, nat_tests, common_steps);
}

valid_tested : (d : List ℕ) → IsValidIpv4 d → is_valid_ipv4 d ≡ true
unfolding is_valid_ipv4 is_readable
valid_tested d v = grind (arith, nat_tests, common_steps)

pub valid_test : (b : Bool) (d : List ℕ) → (IsTrue b ↔ IsValidIpv4 d) → b ≡ is_valid_ipv4 d
valid_test b d iff = same_test b (is_valid_ipv4 d) (λ h. valid_tested d (iff.0 h)) (λ h. iff.1 (valid_holds d h))

whole : (p : PacketState) → HasEthernet p → is_whole p ≡ true
unfolding is_whole
whole p h = let there = h.is_there in let long = h.is_whole in grind (arith, nat_tests, common_steps)

has_whole : (p : PacketState) → is_whole p ≡ true → HasEthernet p
unfolding is_whole
has_whole p h = record { is_there = grind (arith, nat_tests, common_steps); is_whole = grind (arith, nat_tests, common_steps) }

pub whole_test : (b : Bool) (p : PacketState) → (IsTrue b ↔ HasEthernet p) → b ≡ is_whole p
whole_test b p iff = same_test b (is_whole p) (λ h. whole p (iff.0 h)) (λ h. iff.1 (has_whole p h))

-- what is not valid and has no Ethernet header was never checked
never_checked : (p : PacketState) → IsSound p → (IsValidIpv4 (datagram_of p) → false ≡ true) → is_bare p.layer ≡ true → (l : Layer) → p.layer ≡ l → p.layer ≡ Bare
never_checked p sound invalid bare Frame e = absurd (false≢true (sym (ap is_bare e) ∙ bare))
never_checked p sound invalid bare Bare e = e
never_checked p sound invalid bare Ip e = absurd (false≢true (invalid (sound.ip e)))
never_checked p sound invalid bare Framed e = absurd (false≢true (sym (ap is_bare e) ∙ bare))

with_its_layer : (p : PacketState) (l : Layer) → p.layer ≡ l → p ≡ record p { layer = l }
with_its_layer p l e = ap (λ k. record p { layer = k }) e

-- the step of CheckIPHeader, by what a check told and left
pub header_step : (b : Bool) (p q : PacketState) (out : ℕ) → is_bare p.layer ≡ true → IsSound p → (IsTrue b ↔ IsValidIpv4 (datagram_of p)) → q ≡ (if b then checked p else p) → out ≡ (if b then 0 else 1)
    → Some (q, Leaves out) ≡ class_step CheckIPHeader p
unfolding class_step
header_step true p q out bare sound iff after out_is =
    ap (λ r. Some (r, Leaves out)) after
    ∙ ap (λ n. Some (checked p, Leaves n)) out_is
    ∙ ap (λ t. if t then leaves (checked p) 0 else leaves (refused p) 1) (valid_test true (datagram_of p) iff)
header_step false p q out bare sound iff after out_is =
    ap (λ r. Some (r, Leaves out)) (after ∙ with_its_layer p Bare (never_checked p sound iff.1 bare p.layer refl))
    ∙ ap (λ n. Some (refused p, Leaves n)) out_is
    ∙ ap (λ t. if t then leaves (checked p) 0 else leaves (refused p) 1) (valid_test false (datagram_of p) iff)

-- a packet with a flow has visible ports
pub flow_ports : (p : PacketState) (flow : Flow) → packet_flow p ≡ Some flow → has_ports (datagram_of p) ≡ true
unfolding datagram_flow
flow_ports p flow is = by_case (has_ports (datagram_of p)) _ is
  where
    by_case : (b : Bool) (x : Flow) → (if b then Some x else None) ≡ Some flow → b ≡ true
    by_case true x e = refl
    by_case false x e = absurd (false≢true (ap is_some e))

pub some_flow_ports : (p : PacketState) (found : Option Flow) → found ≡ packet_flow p → IsSome found → has_ports (datagram_of p) ≡ true
some_flow_ports p (Some flow) is some = flow_ports p flow (sym is)
some_flow_ports p None is some = absurd (false≢true some)
