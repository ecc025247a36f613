-- The tree of a header: the chain run with terms in place of values.
use Rattle.std.specs.Prelude.{ℕ, zero, suc, ◌==◌, nat_lt, Bool, false, if◌then◌else◌, List, [], ◌∷◌, ◌++◌, length, Option, Some, None, slice_get, option_map, option_and_then}
use Rattle.std.specs.List.{flat_map}
use Rattle.mt_lists.specs.Options.{each}
use Rattle.mt_packet.specs.Header.{number_of, field_of}
use Rattle.mt_packet.specs.declared.cause.Cause.{Cause}
use Rattle.mt_packet.specs.declared.cause.Cause.TheVariants as cause
use Rattle.mt_packet.specs.declared.field.Field.{Field}
use Rattle.mt_packet.specs.declared.field.Field.TheVariants as of
use Rattle.mt_packet.specs.declared.layer.Layer.{Layer}
use Rattle.mt_packet.specs.declared.layer.Layer.TheVariants.{Ip}
use Rattle.mt_pattern.specs.Span.{prefix_span}
use Rattle.mt_pattern.specs.declared.pattern.Pattern.{Pattern}
use Rattle.mt_kinds.specs.Layers.{takes}
use Rattle.mt_kinds.specs.declared.kind.Clause.{Clause}
use Rattle.mt_kinds.specs.declared.kind.Kind.{Kind}
use Rattle.mt_kinds.specs.declared.kind.Kind.TheVariants as kind
use Rattle.mt_kinds.specs.declared.hop.Hop.{Hop}
use Rattle.mt_kinds.specs.declared.rule.FilterAction.{FilterAction}
use Rattle.mt_kinds.specs.declared.rule.FilterAction.TheVariants.{Deny, Out}
use Rattle.mt_kinds.specs.declared.rule.Rule.{Rule}
use Rattle.mt_kinds.specs.declared.rewriter.Spec.{Spec}
use Rattle.mt_elements.specs.ChainState.{ChainState, mappers_of, next_of, entry_of}
use Rattle.mt_rewriter.specs.Passages.{unported}
use Rattle.mt_rewriter.specs.declared.passage.Passage.{Passage}
use Rattle.mt_rewriter.specs.declared.passage.Passage.TheVariants as passage
use Rattle.mt_chain.specs.Step.{address_of, unwired_cause}
use Rattle.mt_terms.specs.Terms.{TermForm, const, entry, minus, flow_part, less_by, value_of}
use Rattle.mt_terms.specs.Trees.{RewriteForm, leaf, drop, branches_of}
use Rattle.mt_terms.specs.Trees.{passage as op}
use Rattle.mt_terms.specs.Writes.{WriteForm}
use Rattle.mt_trees.specs.Passages.{keeps_part, behind, code_of, outputs_taken}
use Rattle.mt_trees.specs.Symbols.{Symbol, first_symbol, term_at, with_term, annotated, stripped, encapsulated, ethernet_swapped, checked, refused, addresses_swapped, ports_swapped}
use Rattle.mt_trees.specs.Tests.{Found, tested, field_tested, whole_tested, ports_tested, pattern_tried, clauses_tried}

-- ---- the end of a way

-- the fields of the Ethernet header, and those of IPv4 and of what it carries, that are written, ascending
abbrev pub front_fields : List Field
front_fields = of.EthType ∷ of.EthDst ∷ of.EthSrc ∷ []

abbrev pub data_fields : List Field
data_fields = of.Src ∷ of.Dst ∷ of.Dscp ∷ of.Sport ∷ of.Dport ∷ of.Ttl ∷ []

-- a term that is the field's own value as the frame arrived
abbrev pub is_own : Field → TermForm → Bool
is_own field (const value) = false
is_own field (entry own) = number_of own == number_of field
is_own field (minus term amount) = false
is_own field (flow_part passage part) = false

-- any other term is written
abbrev pub write_of : Field → TermForm → List WriteForm
write_of field term = if is_own field term then [] else record { field = field; term = term } ∷ []

abbrev pub rewrite_of : Symbol → RewriteForm
rewrite_of symbol = record { trim = symbol.trim; untag = false; tag = None; writes = flat_map (λ field. write_of field (term_at symbol field)) (front_fields ++ data_fields) }

abbrev pub dropped : Cause → Found
dropped why = Some (drop why)

-- ---- outputs

-- what is done with a packet that comes to an input
abbrev pub Along : Type 0
Along = ℕ × ℕ → Symbol → Found

-- an output that leads nowhere drops, where it may lead nowhere
abbrev pub by_wire : Along → Symbol → Option (ℕ × ℕ) → Option Cause → Found
by_wire along symbol (Some port) why = along port symbol
by_wire along symbol None (Some why) = dropped why
by_wire along symbol None None = None

-- ---- routes, by falling length of the prefix, those of one length as they are listed

-- an entry before those whose prefix is no longer
abbrev pub placed : Hop → List Hop → List Hop
placed hop [] = hop ∷ []
placed hop (other ∷ hops) = if nat_lt hop.length other.length then other ∷ placed hop hops else hop ∷ other ∷ hops

abbrev pub by_length : List Hop → List Hop
by_length [] = []
by_length (hop ∷ hops) = placed hop (by_length hops)

module _ (chain : ChainState) (header : List ℕ) (along : Along) (at : ℕ × ℕ) where
  -- the packet leaves by an output
  abbrev pub leaves : Kind → Symbol → ℕ → Found
  leaves own symbol out = by_wire along symbol (next_of chain at.0 out) (unwired_cause own out)

  -- ---- elements that look at many patterns

  -- the number of the first pattern that holds
  unfoldable pub classifier_tree : Kind → Symbol → ℕ → List (List Clause) → Found
  classifier_tree own symbol number [] = dropped cause.Classified
  classifier_tree own symbol number (first ∷ rest) = clauses_tried header symbol first (leaves own symbol number) (classifier_tree own symbol (suc number) rest)

  unfoldable pub ip_classifier_tree : Kind → Symbol → ℕ → List Pattern → Found
  ip_classifier_tree own symbol number [] = dropped cause.Filtered
  ip_classifier_tree own symbol number (first ∷ rest) = pattern_tried header symbol first (leaves own symbol number) (ip_classifier_tree own symbol (suc number) rest)

  abbrev pub action_tree : Kind → Symbol → FilterAction → Found
  action_tree own symbol Deny = dropped cause.Filtered
  action_tree own symbol (Out number) = leaves own symbol number

  unfoldable pub filter_tree : Kind → Symbol → List Rule → Found
  filter_tree own symbol [] = dropped cause.Filtered
  filter_tree own symbol (rule ∷ rules) = pattern_tried header symbol rule.pattern (action_tree own symbol rule.action) (filter_tree own symbol rules)

  -- ---- routes

  abbrev pub with_gateway : Symbol → Option ℕ → Symbol
  with_gateway symbol None = symbol
  with_gateway symbol (Some gateway) = with_term symbol of.Annotation (const gateway)

  unfoldable pub route_tree : Kind → Symbol → List Hop → Found
  route_tree own symbol [] = dropped cause.NoRoute
  route_tree own symbol (hop ∷ hops) =
      tested header (term_at symbol of.Annotation) (prefix_span hop.address hop.length) (leaves own (with_gateway symbol hop.gateway) hop.out) (route_tree own symbol hops)

  -- ---- rewriters

  abbrev pub passed_tree : Kind → Symbol → Passage → Found
  passed_tree own symbol (passage.Passed out) = leaves own (annotated symbol) out
  passed_tree own symbol (passage.Dropped why) = dropped why
  passed_tree own symbol (passage.Rewritten meeting) = None

  -- each output that can be taken, with its tree
  abbrev pub passage_tree : Kind → Symbol → List Spec → Spec → Found
  passage_tree own symbol specs spec =
      option_map (λ branches. op (code_of at symbol) (branches_of branches))
      (each (λ out. option_map (λ tree. (out, tree)) (leaves own (behind (keeps_part (mappers_of chain.kinds) specs spec) symbol) out))
      (outputs_taken (mappers_of chain.kinds) specs at.1))

  abbrev pub rewriter_tree : Kind → Symbol → List Spec → Option Spec → Found
  rewriter_tree own symbol specs None = None
  rewriter_tree own symbol specs (Some spec) = ports_tested header symbol (passage_tree own symbol specs spec) (passed_tree own symbol (unported spec))

  -- ---- one line for each class

  abbrev pub check_tree : Kind → Symbol → Layer → Found
  check_tree own symbol Ip = leaves own (checked symbol) 0
  check_tree own symbol layer = field_tested header symbol of.IpOk 1 1 (leaves own (checked symbol) 0) (leaves own (refused symbol) 1)

  unfoldable pub class_tree : Kind → Symbol → Found
  class_tree (kind.FromDevice device) symbol = leaves (kind.FromDevice device) symbol 0
  class_tree (kind.ToDevice device) symbol = Some (leaf (rewrite_of symbol) device)
  class_tree kind.Discard symbol = dropped cause.Discarded
  class_tree kind.Null symbol = leaves kind.Null symbol 0
  class_tree kind.Counter symbol = leaves kind.Counter symbol 0
  class_tree kind.Queue symbol = leaves kind.Queue symbol 0
  class_tree (kind.Paint paint) symbol = leaves (kind.Paint paint) (with_term symbol of.Paint (const paint)) 0
  class_tree kind.PaintSwitch symbol = leaves kind.PaintSwitch symbol (value_of (term_at symbol of.Paint) header [])
  class_tree (kind.Classifier patterns) symbol = classifier_tree (kind.Classifier patterns) symbol 0 patterns
  class_tree kind.EtherMirror symbol = whole_tested header symbol (leaves kind.EtherMirror (ethernet_swapped symbol) 0) (dropped cause.Short)
  class_tree kind.Strip symbol = whole_tested header symbol (leaves kind.Strip (stripped symbol) 0) (dropped cause.Short)
  class_tree kind.CheckIPHeader symbol = check_tree kind.CheckIPHeader symbol symbol.layer
  class_tree (kind.EtherEncap ether_type src dst) symbol = leaves (kind.EtherEncap ether_type src dst) (encapsulated symbol ether_type src dst) 0
  class_tree kind.DecIPTTL symbol =
      field_tested header symbol of.Ttl 0 1 (leaves kind.DecIPTTL symbol 1) (leaves kind.DecIPTTL (with_term symbol of.Ttl (less_by (term_at symbol of.Ttl) 1)) 0)
  class_tree (kind.SetIPDSCP point) symbol = leaves (kind.SetIPDSCP point) (with_term symbol of.Dscp (const point)) 0
  class_tree (kind.StoreIPAddress address which) symbol = leaves (kind.StoreIPAddress address which) (with_term symbol (address_of which) (const address)) 0
  class_tree kind.GetIPAddress symbol = leaves kind.GetIPAddress (annotated symbol) 0
  class_tree kind.IPMirror symbol =
      ports_tested header symbol (leaves kind.IPMirror (ports_swapped (addresses_swapped symbol)) 0) (leaves kind.IPMirror (addresses_swapped symbol) 0)
  class_tree (kind.IPFilter rules) symbol = filter_tree (kind.IPFilter rules) symbol rules
  class_tree (kind.IPClassifier patterns) symbol = ip_classifier_tree (kind.IPClassifier patterns) symbol 0 patterns
  class_tree (kind.Route hops) symbol = route_tree (kind.Route hops) symbol (by_length hops)
  class_tree (kind.IPRewriter specs) symbol = rewriter_tree (kind.IPRewriter specs) symbol specs (slice_get specs at.1)
  class_tree (kind.RoundRobinIPMapper templates) symbol = None

  abbrev pub element_tree : Symbol → Kind → Found
  element_tree symbol own = if takes own symbol.layer then class_tree own symbol else None

-- ---- all of them

-- from an element and its input on, over at most so many elements
unfoldable pub tree_from : ℕ → ChainState → List ℕ → ℕ × ℕ → Symbol → Found
tree_from zero chain header at symbol = None
tree_from (suc most) chain header at symbol = option_and_then (element_tree chain header (tree_from most chain header) at symbol) (slice_get chain.kinds at.0)

-- the tree of a header; it is there for every header of an accepted chain
unfoldable pub tree_of : ChainState → List ℕ → Found
tree_of chain header =
    option_and_then (λ first. tree_from (suc (length chain.wires)) chain header (first, 0) first_symbol) (entry_of chain (field_of header of.Device))
