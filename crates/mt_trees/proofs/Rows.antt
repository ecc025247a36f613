-- Trees of small chains, worked out by hand.
use Rattle.std.proofs.Common.{◌≡◌, ◌∙◌, ap, refl, ℕ, List, [], ◌∷◌, true, false}
use Rattle.std.specs.Prelude.{Some, None}
use Rattle.mt_lists.specs.Options.{each}
use Rattle.mt_packet.specs.declared.cause.Cause.TheVariants as cause
use Rattle.mt_packet.specs.declared.field.Field.TheVariants as of
use Rattle.mt_packet.specs.declared.span.Span.{Span}
use Rattle.mt_pattern.specs.declared.pattern.Pattern.TheVariants.{Within}
use Rattle.mt_kinds.specs.Outputs.{greatest}
use Rattle.mt_kinds.specs.declared.kind.Kind.TheVariants.{FromDevice, ToDevice, Classifier, Discard, Strip, CheckIPHeader, EtherEncap, DecIPTTL, StoreIPAddress, IPRewriter}
use Rattle.mt_kinds.specs.declared.kind.Clause.TheVariants.{EthType, ArpOp}
use Rattle.mt_kinds.specs.declared.kind.End.TheVariants.{Dst}
use Rattle.mt_kinds.specs.declared.rewriter.SourcePort.TheVariants.{Pool}
use Rattle.mt_kinds.specs.declared.rewriter.Spec.TheVariants.{Pattern, Drop}
use Rattle.mt_elements.specs.ChainState.{ChainState}
use Rattle.mt_graph.specs.declared.Wire.{Wire}
use Rattle.mt_terms.specs.Terms.{const, entry, minus, flow_part}
use Rattle.mt_terms.specs.Trees.{TreeForm, leaf, drop, test, passage, none, branch}
use Rattle.mt_terms.specs.declared.term.Part.TheVariants.{Sa, Sp, Da, Dp}
use Rattle.mt_trees.specs.Elements.{class_tree, classifier_tree, tree_from, tree_of}
use Rattle.mt_trees.proofs.Patterns.{tried-within}
use Rattle.mt_trees.specs.Symbols.{Symbol, term_at}
use Rattle.mt_trees.specs.Tests.{Tried, tested, clauses_tried, pattern_tried}

-- one wire behind the other, from output 0 to input 0
abbrev wire : ℕ → ℕ → Wire
wire from to = record { from = from; out = 0; to = to; into = 0; line = 1 }

-- the header of a UDP packet of 46 bytes from 10.0.0.5:5000 to 198.51.100.9:53, with this time to live
abbrev header_of_ttl : ℕ → List ℕ
header_of_ttl ttl =
    1 ∷ 2048 ∷ 2199023255554 ∷ 2199023255553 ∷ 65536 ∷ 17 ∷ 167772165 ∷ 3325256713 ∷ 0 ∷ 0 ∷ 5000 ∷ 53 ∷ 256 ∷ 1 ∷ 1 ∷ 0 ∷ 0 ∷ ttl ∷ 0 ∷ 0 ∷ 0 ∷ 0 ∷ 0 ∷ 0 ∷ []

-- ---- FromDevice -> Strip -> CheckIPHeader -> DecIPTTL -> EtherEncap -> ToDevice, where a packet whose time has run out is discarded

abbrev hop : ChainState
hop = record {
  kinds = FromDevice 1 ∷ Strip ∷ CheckIPHeader ∷ DecIPTTL ∷ EtherEncap 2048 2199023255562 2199023255563 ∷ ToDevice 2 ∷ Discard ∷ [];
  wires = wire 0 1 ∷ wire 1 2 ∷ wire 2 3 ∷ wire 3 4 ∷ wire 4 5 ∷ record { from = 3; out = 1; to = 6; into = 0; line = 1 } ∷ [];
  devices = [];
  entries = 1;
  pools = [];
}

-- four writes
hop_on : tree_of hop (header_of_ttl 64) ≡ Some (leaf (record {
  trim = true;
  untag = false;
  tag = None;
  writes =
      record { field = of.EthType; term = const 2048 } ∷ record { field = of.EthDst; term = const 2199023255563 } ∷ record { field = of.EthSrc; term = const 2199023255562 }
      ∷ record { field = of.Ttl; term = minus (entry of.Ttl) 1 } ∷ [];
}) 2)
unfolding tree_of tree_from class_tree tested
hop_on = refl

hop_over : tree_of hop (header_of_ttl 1) ≡ Some (drop cause.Discarded)
unfolding tree_of tree_from class_tree tested
hop_over = refl

-- ---- two translations behind an address that is stored

abbrev twice : ChainState
twice = record {
  kinds =
      FromDevice 1 ∷ Strip ∷ CheckIPHeader ∷ StoreIPAddress 3325256714 Dst
      ∷ IPRewriter (Pattern (record { sa = Some 3405803777; sp = Pool 0; da = None; dp = None; fout = 0; rout = 0 }) ∷ [])
      ∷ IPRewriter (Pattern (record { sa = Some 3221225991; sp = Pool 1; da = None; dp = None; fout = 0; rout = 0 }) ∷ [])
      ∷ EtherEncap 2048 2199023255562 2199023255563 ∷ ToDevice 2 ∷ [];
  wires = wire 0 1 ∷ wire 1 2 ∷ wire 2 3 ∷ wire 3 4 ∷ wire 4 5 ∷ wire 5 6 ∷ wire 6 7 ∷ [];
  devices = [];
  entries = 1;
  pools = [];
}

-- The second passage sees what the first made. Six writes: the destination port is left by both, and the address that
-- was stored is a constant.
twice_on : tree_of twice (header_of_ttl 64) ≡ Some (passage (record { element = 4; input = 0; sa = entry of.Src; sp = entry of.Sport; da = const 3325256714; dp = entry of.Dport })
    (branch 0 (passage (record { element = 5; input = 0; sa = flow_part 0 Sa; sp = flow_part 0 Sp; da = const 3325256714; dp = entry of.Dport })
    (branch 0 (leaf (record {
      trim = true;
      untag = false;
      tag = None;
      writes =
          record { field = of.EthType; term = const 2048 } ∷ record { field = of.EthDst; term = const 2199023255563 } ∷ record { field = of.EthSrc; term = const 2199023255562 }
          ∷ record { field = of.Src; term = flow_part 1 Sa } ∷ record { field = of.Dst; term = const 3325256714 } ∷ record { field = of.Sport; term = flow_part 1 Sp } ∷ [];
    }) 2) none)) none))
unfolding tree_of tree_from class_tree tested each greatest
twice_on = refl

-- ---- ARP requests to one device, IPv4 to another

abbrev sorted : ChainState
sorted = record {
  kinds = FromDevice 1 ∷ Classifier ((EthType 2054 ∷ ArpOp 1 ∷ []) ∷ (EthType 2048 ∷ []) ∷ [] ∷ []) ∷ ToDevice 2 ∷ ToDevice 3 ∷ Discard ∷ [];
  wires = wire 0 1 ∷ wire 1 2 ∷ record { from = 1; out = 1; to = 3; into = 0; line = 1 } ∷ record { from = 1; out = 2; to = 4; into = 0; line = 1 } ∷ [];
  devices = [];
  entries = 1;
  pools = [];
}

-- the header of a frame that carries no IPv4 packet, with this EtherType and operation of ARP
abbrev header_of_type : ℕ → ℕ → List ℕ
header_of_type ether_type operation =
    1 ∷ ether_type ∷ 281474976710655 ∷ 2199023255553 ∷ operation ∷ 0 ∷ 0 ∷ 0 ∷ 0 ∷ 0 ∷ 65536 ∷ 65536 ∷ 256 ∷ 0 ∷ 0 ∷ 0 ∷ 0 ∷ 0 ∷ 0 ∷ 0 ∷ 0 ∷ 0 ∷ 0 ∷ 0 ∷ []

abbrev unchanged : ℕ → TreeForm
unchanged device = leaf (record { trim = false; untag = false; tag = None; writes = [] }) device

sorted_request : tree_of sorted (header_of_type 2054 1) ≡ Some (unchanged 2)
unfolding tree_of tree_from class_tree classifier_tree clauses_tried tested
sorted_request = refl

sorted_ip : tree_of sorted (header_of_ttl 64) ≡ Some (unchanged 3)
unfolding tree_of tree_from class_tree classifier_tree clauses_tried tested
sorted_ip = refl

sorted_reply : tree_of sorted (header_of_type 2054 2) ≡ Some (drop cause.Discarded)
unfolding tree_of tree_from class_tree classifier_tree clauses_tried tested
sorted_reply = refl

-- ---- a translator between two devices

abbrev translator : ChainState
translator = record {
  kinds =
      FromDevice 1 ∷ Classifier ((EthType 2048 ∷ []) ∷ [] ∷ []) ∷ Strip ∷ CheckIPHeader
      ∷ IPRewriter (Pattern (record { sa = Some 3405803777; sp = Pool 0; da = None; dp = None; fout = 0; rout = 1 }) ∷ Drop ∷ [])
      ∷ EtherEncap 2048 2199023255562 2199023255563 ∷ ToDevice 2
      ∷ FromDevice 2 ∷ Classifier ((EthType 2048 ∷ []) ∷ [] ∷ []) ∷ Strip ∷ CheckIPHeader
      ∷ EtherEncap 2048 2199023255564 2199023255565 ∷ ToDevice 1 ∷ Discard ∷ [];
  wires =
      wire 0 1 ∷ wire 1 2 ∷ record { from = 1; out = 1; to = 13; into = 0; line = 1 } ∷ wire 2 3 ∷ wire 3 4 ∷ wire 4 5 ∷ wire 5 6
      ∷ wire 7 8 ∷ wire 8 9 ∷ record { from = 8; out = 1; to = 13; into = 0; line = 1 } ∷ wire 9 10 ∷ record { from = 10; out = 0; to = 4; into = 1; line = 1 }
      ∷ record { from = 4; out = 1; to = 11; into = 0; line = 1 } ∷ wire 11 12 ∷ [];
  devices = [];
  entries = 2;
  pools = [];
}

-- the header of an IPv4 packet on this device, valid or not, with visible ports or without
abbrev header_at : ℕ → ℕ → ℕ → List ℕ
header_at device valid ports =
    device ∷ 2048 ∷ 2199023255554 ∷ 2199023255553 ∷ 65536 ∷ 17 ∷ 167772165 ∷ 3325256713 ∷ 0 ∷ 0 ∷ 5000 ∷ 53 ∷ 256 ∷ valid ∷ ports ∷ 0 ∷ 0 ∷ 64 ∷ 0 ∷ 0 ∷ 0 ∷ 0 ∷ 0 ∷ 0 ∷ []

other_frames : tree_of translator (header_of_type 2054 1) ≡ Some (drop cause.Discarded)
unfolding tree_of tree_from class_tree classifier_tree clauses_tried tested
other_frames = refl

invalid_packets : tree_of translator (header_at 1 0 0) ≡ Some (drop cause.BadIp)
unfolding tree_of tree_from class_tree classifier_tree clauses_tried tested
invalid_packets = refl

without_ports : tree_of translator (header_at 2 1 0) ≡ Some (drop cause.Unported)
unfolding tree_of tree_from class_tree classifier_tree clauses_tried tested
without_ports = refl

-- out: the source is translated, five writes
outwards : tree_of translator (header_at 1 1 1) ≡ Some (passage (record { element = 4; input = 0; sa = entry of.Src; sp = entry of.Sport; da = entry of.Dst; dp = entry of.Dport })
    (branch 0 (leaf (record {
      trim = true;
      untag = false;
      tag = None;
      writes =
          record { field = of.EthType; term = const 2048 } ∷ record { field = of.EthDst; term = const 2199023255563 } ∷ record { field = of.EthSrc; term = const 2199023255562 }
          ∷ record { field = of.Src; term = flow_part 0 Sa } ∷ record { field = of.Sport; term = flow_part 0 Sp } ∷ [];
    }) 2) none))
unfolding tree_of tree_from class_tree classifier_tree clauses_tried tested each greatest
outwards = refl

-- back: the destination
inwards : tree_of translator (header_at 2 1 1) ≡ Some (passage (record { element = 4; input = 1; sa = entry of.Src; sp = entry of.Sport; da = entry of.Dst; dp = entry of.Dport })
    (branch 1 (leaf (record {
      trim = true;
      untag = false;
      tag = None;
      writes =
          record { field = of.EthType; term = const 2048 } ∷ record { field = of.EthDst; term = const 2199023255565 } ∷ record { field = of.EthSrc; term = const 2199023255564 }
          ∷ record { field = of.Dst; term = flow_part 0 Da } ∷ record { field = of.Dport; term = flow_part 0 Dp } ∷ [];
    }) 1) none))
unfolding tree_of tree_from class_tree classifier_tree clauses_tried tested each greatest
inwards = refl

-- ---- a filter behind a translation

-- it looks at the port that the translation gave
new_port : (header : List ℕ) (symbol : Symbol) (span : Span) (inside outside : TreeForm) → term_at symbol of.Sport ≡ flow_part 0 Sp
    → pattern_tried header symbol (Within of.Sport span) (Some inside) (Some outside) ≡ Some (test (flow_part 0 Sp) span inside outside)
unfolding tested
new_port header symbol span inside outside is =
    ap (λ (f : Tried header symbol). f (Some inside) (Some outside)) (tried-within header symbol of.Sport span) ∙ ap (λ t. tested header t span (Some inside) (Some outside)) is
