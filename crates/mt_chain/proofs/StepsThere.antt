-- An element that takes a packet has a step on it, and an output that may be open has a cause.
use Rattle.std.proofs.Common.{◌≡◌, sym, subst, refl, ◌⊎◌, inl, inr, ℕ, ◌<◌, ◌≤◌, Bool, true, false, List, [], length, position, arith}
use Rattle.std.specs.Prelude.{Option, Some, None, nat_le, ◌==◌, if◌then◌else◌, ⊤}
use Rattle.std.proofs.lemmas.Bool.{false≢true, le-leb}
use Rattle.std.proofs.lemmas.List.Quantifiers.{position-Some}
use Rattle.mt_packet.specs.Flow.{packet_flow}
use Rattle.mt_packet.specs.Ipv4.{is_valid_ipv4}
use Rattle.mt_packet.specs.Packet.{PacketState, datagram_of, layer_below, layer_checked, with_field, packet_header}
use Rattle.mt_packet.specs.declared.cause.Cause.{Cause}
use Rattle.mt_packet.specs.declared.cause.Cause.TheVariants as cause
use Rattle.mt_packet.specs.declared.flow.Flow.{Flow}
use Rattle.mt_packet.specs.declared.layer.Layer.{Layer}
use Rattle.mt_packet.specs.declared.layer.Layer.TheVariants.{Frame, Bare, Ip, Framed}
use Rattle.mt_kinds.specs.declared.kind.Clause.{Clause}
use Rattle.mt_kinds.specs.declared.kind.End.{End}
use Rattle.mt_kinds.specs.declared.kind.End.TheVariants.{Src, Dst}
use Rattle.mt_kinds.specs.declared.kind.Kind.{Kind}
use Rattle.mt_kinds.specs.declared.kind.Kind.TheVariants.{FromDevice, ToDevice, Classifier, Discard, Null, Counter, Queue, Paint, PaintSwitch, EtherMirror, Strip, CheckIPHeader, EtherEncap, DecIPTTL, SetIPDSCP, StoreIPAddress, GetIPAddress, IPMirror, IPFilter, IPClassifier, Route, IPRewriter, RoundRobinIPMapper}
use Rattle.mt_kinds.specs.declared.hop.Hop.{Hop}
use Rattle.mt_kinds.specs.declared.rule.FilterAction.{FilterAction}
use Rattle.mt_kinds.specs.declared.rule.FilterAction.TheVariants.{Deny, Out}
use Rattle.mt_kinds.specs.declared.rule.Rule.{Rule}
use Rattle.mt_pattern.specs.declared.pattern.Pattern.{Pattern}
use Rattle.mt_pattern.specs.declared.pattern.Pattern.TheVariants as pattern
use Rattle.mt_kinds.specs.Layers.{takes, layer_behind, is_bare}
use Rattle.mt_kinds.specs.Outputs.{filter_outs, route_outs}
use Rattle.mt_kinds.specs.Ports.{is_rewriter, output_count, may_be_open}
use Rattle.mt_chain.specs.declared.step.Exit.{Exit}
use Rattle.mt_chain.specs.declared.step.Exit.TheVariants.{Leaves, Stops}
use Rattle.mt_chain.specs.Classifier.{is_whole, pattern_holds}
use Rattle.mt_chain.specs.Step.{class_step, stateless_step, by_pattern, has_run_out, address_of, addresses_swapped, ports_swapped, by_action, by_ip_pattern, towards, by_hop, unwired_cause}
use Rattle.mt_chain.specs.Filter.{holds_on}
use Rattle.mt_chain.specs.Route.{IsRoute}
use Rattle.mt_chain.proofs.Longest.{is_route}
use Rattle.mt_chain.proofs.Outputs.{action_within, hop_within}
use Rattle.mt_chain.specs.Run.{IsThere}

-- ---- a step

-- the packet leaves by an output that the element has, or at which it is dropped
abbrev pub IsWay : Kind → ℕ → ℕ → Type 0
IsWay kind wired out = (out < output_count [] kind wired) ⊎ IsThere (unwired_cause kind out)

-- what comes of a step of an element that takes the layer
abbrev pub IsAfter : Kind → Layer → ℕ → PacketState → Exit → Type 0
IsAfter kind layer wired packet (Leaves out) = (packet.layer ≡ layer_behind kind layer out) × IsWay kind wired out
IsAfter kind layer wired packet (Stops ending) = ⊤

abbrev pub Steps : Kind → Layer → ℕ → Option (PacketState × Exit) → Type 0
Steps kind layer wired (Some after) = IsAfter kind layer wired after.0 after.1
Steps kind layer wired None = ⊥

-- by a test that holds, or by one that does not
when : (kind : Kind) (layer : Layer) (wired : ℕ) (test : Bool) (after other : Option (PacketState × Exit)) → test ≡ true → Steps kind layer wired after → Steps kind layer wired (if test then after else other)
when kind layer wired test after other e h = subst (λ b. Steps kind layer wired (if b then after else other)) (sym e) h

either : (kind : Kind) (layer : Layer) (wired : ℕ) (test : Bool) (after other : Option (PacketState × Exit)) → Steps kind layer wired after → Steps kind layer wired other → Steps kind layer wired (if test then after else other)
either kind layer wired true after other h k = h
either kind layer wired false after other h k = k

below : (p : PacketState) (l : Layer) → p.layer ≡ l → layer_below l ≡ layer_behind Strip l 0
below p Frame e = refl
below p Bare e = refl
below p Ip e = refl
below p Framed e = refl

bare_checked : (l : Layer) → is_bare l ≡ true → layer_checked l ≡ Ip
bare_checked Frame h = absurd (false≢true h)
bare_checked Bare h = refl
bare_checked Ip h = refl
bare_checked Framed h = absurd (false≢true h)

by_first : (patterns : List (List Clause)) (p : PacketState) (wired : ℕ) (found : Option ℕ) → position (pattern_holds p) patterns ≡ found → Steps (Classifier patterns) p.layer wired (by_pattern p found)
by_first patterns p wired (Some number) is = (refl, inl ((position-Some (pattern_holds p) patterns number [] is).0))
by_first patterns p wired None is = tt

stored : (p : PacketState) (address wired : ℕ) (which : End) → (address_layer : Layer) → p.layer ≡ address_layer → Steps (StoreIPAddress address which) p.layer wired (Some (with_field p (address_of which) address, Leaves 0))
stored p address wired Src l e = (refl, inl (omega arith))
stored p address wired Dst l e = (refl, inl (omega arith))

mirrored : (p q : PacketState) (wired : ℕ) (flow : Option Flow) → q.layer ≡ p.layer → Steps IPMirror p.layer wired (Some (ports_swapped q flow, Leaves 0))
mirrored p q wired (Some flow) e = (e, inl (omega arith))
mirrored p q wired None e = (e, inl (omega arith))

by_rules : (rules : List Rule) (p : PacketState) (wired : ℕ) (action : FilterAction) → ((n : ℕ) → action ≡ Out n → n < filter_outs rules) → Steps (IPFilter rules) p.layer wired (by_action p action)
by_rules rules p wired Deny within = tt
by_rules rules p wired (Out n) within = (refl, inl (within n refl))

by_first_ip : (patterns : List Pattern) (p : PacketState) (wired : ℕ) (found : Option ℕ) → position (holds_on (packet_header p)) patterns ≡ found → Steps (IPClassifier patterns) p.layer wired (by_ip_pattern p found)
by_first_ip patterns p wired (Some number) is = (refl, inl ((position-Some (holds_on (packet_header p)) patterns number pattern.True is).0))
by_first_ip patterns p wired None is = tt

sent_towards : (hops : List Hop) (p : PacketState) (wired out : ℕ) (gateway : Option ℕ) → out < route_outs hops → Steps (Route hops) p.layer wired (Some (towards p gateway, Leaves out))
sent_towards hops p wired out (Some gateway) within = (refl, inl within)
sent_towards hops p wired out None within = (refl, inl within)

by_line : (hops : List Hop) (p : PacketState) (wired address : ℕ) (found : Option Hop) → IsRoute address hops found → Steps (Route hops) p.layer wired (by_hop p found)
by_line hops p wired address (Some hop) there = sent_towards hops p wired hop.out hop.gateway (hop_within hops there.0 hop there.1.stands)
by_line hops p wired address None nowhere = tt

class_there : (kind : Kind) (p : PacketState) (wired : ℕ) → takes kind p.layer ≡ true → ((point : ℕ) → kind ≡ SetIPDSCP point → point ≤ 63) → is_rewriter kind ≡ false → Steps kind p.layer wired (class_step kind p)
unfolding class_step
class_there (FromDevice device) p wired h small plain = (refl, inl (omega arith))
class_there (ToDevice device) p wired h small plain = tt
class_there Discard p wired h small plain = tt
class_there Null p wired h small plain = (refl, inl (omega arith))
class_there Counter p wired h small plain = (refl, inl (omega arith))
class_there Queue p wired h small plain = (refl, inl (omega arith))
class_there (Paint paint) p wired h small plain = (refl, inl (omega arith))
class_there PaintSwitch p wired h small plain = (refl, inr (cause.NoPaint, refl))
class_there (Classifier patterns) p wired h small plain = by_first patterns p wired _ refl
class_there EtherMirror p wired h small plain = either EtherMirror p.layer wired (is_whole p) _ _ (refl, inl (omega arith)) tt
class_there Strip p wired h small plain = either Strip p.layer wired (nat_le 14 (length p.bytes)) _ _ (below p p.layer refl, inl (omega arith)) tt
class_there CheckIPHeader p wired h small plain =
    either CheckIPHeader p.layer wired (is_valid_ipv4 (datagram_of p)) _ _ (bare_checked p.layer h, inl (omega arith)) (refl, inl (omega arith))
class_there (EtherEncap ether_type src dst) p wired h small plain = (refl, inl (omega arith))
class_there DecIPTTL p wired h small plain = either DecIPTTL p.layer wired (has_run_out p) _ _ (refl, inl (omega arith)) (refl, inl (omega arith))
class_there (SetIPDSCP point) p wired h small plain =
    when (SetIPDSCP point) p.layer wired (nat_le point 63) _ _ (le-leb point 63 (small point refl)) (refl, inl (omega arith))
class_there (StoreIPAddress address which) p wired h small plain = stored p address wired which p.layer refl
class_there GetIPAddress p wired h small plain = (refl, inl (omega arith))
class_there IPMirror p wired h small plain = mirrored p (addresses_swapped p) wired (packet_flow p) refl
class_there (IPFilter rules) p wired h small plain = by_rules rules p wired _ (action_within (packet_header p) rules)
class_there (IPClassifier patterns) p wired h small plain = by_first_ip patterns p wired _ refl
class_there (Route hops) p wired h small plain = by_line hops p wired p.annotation _ (is_route p.annotation hops)
class_there (IPRewriter specs) p wired h small plain = absurd (false≢true (sym plain))
class_there (RoundRobinIPMapper templates) p wired h small plain = absurd (false≢true h)

pub step_there : (kind : Kind) (p : PacketState) (wired : ℕ) → takes kind p.layer ≡ true → ((point : ℕ) → kind ≡ SetIPDSCP point → point ≤ 63) → is_rewriter kind ≡ false → Steps kind p.layer wired (stateless_step kind p)
unfolding stateless_step
step_there kind p wired h small plain = when kind p.layer wired (takes kind p.layer) (class_step kind p) None h (class_there kind p wired h small plain)

-- ---- an output that leads nowhere

one_or_none : (out : ℕ) (why : Cause) (b : Bool) → b ≡ true → IsThere (if b then Some why else None)
one_or_none out why true h = (why, refl)
one_or_none out why false h = absurd (false≢true h)

pub open_cause : (kind : Kind) (out : ℕ) → may_be_open kind out ≡ true → IsThere (unwired_cause kind out)
open_cause CheckIPHeader out h = one_or_none out cause.BadIp (out == 1) h
open_cause DecIPTTL out h = one_or_none out cause.Ttl (out == 1) h
open_cause PaintSwitch out h = (cause.NoPaint, refl)
open_cause kind out h = absurd (false≢true h)
