-- How a packet can leave an element, and as what: the outputs, each with the packet that leaves by it.
use Rattle.std.specs.Prelude.{ℕ, Bool, List, [], ◌∷◌, ◌++◌, length, map, Option, Some, None, slice_get}
use Rattle.std.specs.List.{filter, range_with_len}
use Rattle.mt_packet.specs.declared.field.Field.TheVariants as of
use Rattle.mt_packet.specs.declared.layer.Layer.{Layer}
use Rattle.mt_packet.specs.declared.layer.Layer.TheVariants.{Ip}
use Rattle.mt_kinds.specs.Outputs.{filter_outs}
use Rattle.mt_kinds.specs.declared.kind.Kind.{Kind}
use Rattle.mt_kinds.specs.declared.kind.Kind.TheVariants as kind
use Rattle.mt_kinds.specs.declared.hop.Hop.{Hop}
use Rattle.mt_kinds.specs.declared.rewriter.Spec.{Spec}
use Rattle.mt_elements.specs.ChainState.{ChainState, mappers_of}
use Rattle.mt_rewriter.specs.Passages.{unported}
use Rattle.mt_rewriter.specs.declared.passage.Passage.{Passage}
use Rattle.mt_rewriter.specs.declared.passage.Passage.TheVariants as passage
use Rattle.mt_chain.specs.Step.{address_of}
use Rattle.mt_terms.specs.Terms.{TermForm, const, entry, minus, flow_part, less_by}
use Rattle.mt_trees.specs.Elements.{by_length}
use Rattle.mt_trees.specs.Passages.{keeps_part, behind, outputs_taken}
use Rattle.mt_trees.specs.Symbols.{Symbol, term_at, with_term, annotated, stripped, encapsulated, ethernet_swapped, checked, refused, addresses_swapped, ports_swapped}
use Rattle.mt_synth.specs.Symbols.{symbol_form}
use Rattle.mt_synth.specs.declared.exits.Exit.{Exit}

abbrev pub Exits : Type 0
Exits = List (ℕ × Symbol)

-- exits in their plain form
abbrev pub exit_forms : List Exit → Exits
exit_forms exits = map (λ exit. (exit.out, symbol_form exit.symbol)) exits

-- the number that a term is, 0 where it is none
abbrev pub number_in : TermForm → ℕ
number_in (const value) = value
number_in (entry field) = 0
number_in (minus term amount) = 0
number_in (flow_part passage part) = 0

abbrev pub alone : ℕ → Symbol → Exits
alone out symbol = (out, symbol) ∷ []

abbrev pub both : ℕ × Symbol → ℕ × Symbol → Exits
both one other = one ∷ other ∷ []

-- as it is, by each of the first outputs
abbrev pub counted : ℕ → Symbol → Exits
counted count symbol = map (λ out. (out, symbol)) (range_with_len 0 count)

-- as it is, by those of the first outputs that pass a test
abbrev pub by_outputs : (ℕ → Bool) → ℕ → Symbol → Exits
by_outputs test count symbol = map (λ out. (out, symbol)) (filter test (range_with_len 0 count))

-- a valid packet at layer Ip was checked before
abbrev pub check_exits : Layer → Symbol → Exits
check_exits Ip symbol = (0, checked symbol) ∷ []
check_exits layer symbol = (0, checked symbol) ∷ (1, refused symbol) ∷ []

-- as it is where its time is over, and with its time to live less 1
abbrev pub ttl_exits : Symbol → Exits
ttl_exits symbol = (1, symbol) ∷ (0, with_term symbol of.Ttl (less_by (term_at symbol of.Ttl) 1)) ∷ []

-- its ends exchanged, with its ports where they are visible, and without them
abbrev pub mirror_exits : Symbol → Exits
mirror_exits symbol = (0, ports_swapped (addresses_swapped symbol)) ∷ (0, addresses_swapped symbol) ∷ []

-- a gateway is the annotation
abbrev pub with_gateway : Symbol → Option ℕ → Symbol
with_gateway symbol None = symbol
with_gateway symbol (Some gateway) = with_term symbol of.Annotation (const gateway)

-- by the output of each route entry, with its gateway, in the order in which they are looked at
abbrev pub route_exits : List Hop → Symbol → Exits
route_exits hops symbol = map (λ hop. (hop.out, with_gateway symbol hop.gateway)) (by_length hops)

-- without visible ports
abbrev pub passed_exits : Passage → Symbol → Exits
passed_exits (passage.Passed out) symbol = (out, annotated symbol) ∷ []
passed_exits (passage.Dropped why) symbol = []
passed_exits (passage.Rewritten meeting) symbol = []

-- behind a passage
abbrev pub taken_exits : ChainState → ℕ × ℕ → List Spec → Spec → Symbol → Exits
taken_exits chain at specs spec symbol =
    map (λ out. (out, behind (keeps_part (mappers_of chain.kinds) specs spec) symbol)) (outputs_taken (mappers_of chain.kinds) specs at.1)

abbrev pub rewriter_exits : ChainState → ℕ × ℕ → List Spec → Option Spec → Symbol → Exits
rewriter_exits chain at specs None symbol = []
rewriter_exits chain at specs (Some spec) symbol = passed_exits (unported spec) symbol ++ taken_exits chain at specs spec symbol

-- one line for each class
unfoldable pub exits_of : ChainState → ℕ × ℕ → Kind → Symbol → Exits
exits_of chain at (kind.FromDevice device) symbol = (0, symbol) ∷ []
exits_of chain at (kind.ToDevice device) symbol = []
exits_of chain at kind.Discard symbol = []
exits_of chain at kind.Null symbol = (0, symbol) ∷ []
exits_of chain at kind.Counter symbol = (0, symbol) ∷ []
exits_of chain at kind.Queue symbol = (0, symbol) ∷ []
exits_of chain at (kind.Paint paint) symbol = (0, with_term symbol of.Paint (const paint)) ∷ []
exits_of chain at kind.PaintSwitch symbol = (number_in (term_at symbol of.Paint), symbol) ∷ []
exits_of chain at (kind.Classifier patterns) symbol = counted (length patterns) symbol
exits_of chain at kind.EtherMirror symbol = (0, ethernet_swapped symbol) ∷ []
exits_of chain at kind.Strip symbol = (0, stripped symbol) ∷ []
exits_of chain at kind.CheckIPHeader symbol = check_exits symbol.layer symbol
exits_of chain at (kind.EtherEncap ether_type src dst) symbol = (0, encapsulated symbol ether_type src dst) ∷ []
exits_of chain at kind.DecIPTTL symbol = ttl_exits symbol
exits_of chain at (kind.SetIPDSCP point) symbol = (0, with_term symbol of.Dscp (const point)) ∷ []
exits_of chain at (kind.StoreIPAddress address which) symbol = (0, with_term symbol (address_of which) (const address)) ∷ []
exits_of chain at kind.GetIPAddress symbol = (0, annotated symbol) ∷ []
exits_of chain at kind.IPMirror symbol = mirror_exits symbol
exits_of chain at (kind.IPFilter rules) symbol = counted (filter_outs rules) symbol
exits_of chain at (kind.IPClassifier patterns) symbol = counted (length patterns) symbol
exits_of chain at (kind.Route hops) symbol = route_exits hops symbol
exits_of chain at (kind.IPRewriter specs) symbol = rewriter_exits chain at specs (slice_get specs at.1) symbol
exits_of chain at (kind.RoundRobinIPMapper templates) symbol = []
