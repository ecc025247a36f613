-- The tree of an element is there where there is one behind each output by which a packet can leave it.
use Rattle.std.proofs.Common.{◌≡◌, ◌∙◌, ap, refl, ◌⊎◌, inl, inr, ℕ, ◌<◌, Bool, true, false, List, [], arith}
use Rattle.std.specs.Prelude.{Option, Some, None, ◌==◌, ◌||◌, slice_get, option_map}
use Rattle.std.specs.List.{range_with_len}
use Rattle.std.proofs.lemmas.Bool.{false≢true}
use Rattle.std.proofs.lemmas.Bool.Decides.{nat_tests}
use Rattle.std.proofs.lemmas.Option.{none-some}
use Rattle.mt_packet.specs.Packet.{layer_below}
use Rattle.mt_packet.specs.declared.cause.Cause.TheVariants as cause
use Rattle.mt_packet.specs.declared.field.Field.TheVariants as of
use Rattle.mt_packet.specs.declared.layer.Layer.{Layer}
use Rattle.mt_packet.specs.declared.layer.Layer.TheVariants.{Frame, Bare, Ip, Framed}
use Rattle.mt_kinds.specs.Layers.{takes, layer_behind, is_bare}
use Rattle.mt_kinds.specs.Outputs.{filter_outs, route_outs}
use Rattle.mt_kinds.specs.Ports.{leads, if_there, spec_leads, is_reply_out, rewriter_outs, output_count, LeadsWithin}
use Rattle.mt_kinds.specs.declared.kind.Kind.{Kind}
use Rattle.mt_kinds.specs.declared.kind.Kind.TheVariants as kind
use Rattle.mt_kinds.specs.declared.rewriter.Spec.{Spec}
use Rattle.mt_kinds.specs.declared.rewriter.Spec.TheVariants as spec
use Rattle.mt_elements.specs.ChainState.{ChainState, mappers_of, wired_of}
use Rattle.mt_rewriter.specs.Passages.{unported}
use Rattle.mt_chain.specs.Run.{IsThere}
use Rattle.mt_chain.specs.Step.{address_of, unwired_cause}
use Rattle.mt_terms.specs.Terms.{const, less_by, value_of}
use Rattle.mt_terms.specs.Trees.{TreeForm, leaf, drop, branches_of}
use Rattle.mt_terms.specs.Trees.{passage as op}
use Rattle.mt_terms.specs.declared.term.Part.{Part}
use Rattle.mt_terms.specs.declared.term.Part.TheVariants.{Sa, Sp, Da, Dp}
use Rattle.mt_trees.proofs.OutputsThere.{each_there, routes_within, classifier_there, ip_classifier_there, filter_there, route_there}
use Rattle.mt_trees.proofs.TestsThere.{there_mapped, field_there, whole_there, ports_there}
use Rattle.mt_trees.specs.Elements.{Along, rewrite_of, by_length, leaves, passed_tree, passage_tree, rewriter_tree, check_tree, class_tree}
use Rattle.mt_trees.specs.Passages.{keeps_part, part_behind, one_more, behind, code_of}
use Rattle.mt_trees.specs.Symbols.{Symbol, term_at, with_term, annotated, stripped, encapsulated, ethernet_swapped, checked, refused, addresses_swapped, ports_swapped}

-- ---- layers

below : (l : Layer) → layer_below l ≡ layer_behind kind.Strip l 0
below Frame = refl
below Bare = refl
below Ip = refl
below Framed = refl

part_layer : (passage : ℕ) (keeps : Bool) (part : Part) (symbol : Symbol) → (part_behind passage keeps part symbol).layer ≡ symbol.layer
part_layer passage true part symbol = refl
part_layer passage false part symbol = refl

-- a passage leaves the layer
behind_layer : (keeps : Part → Bool) (symbol : Symbol) → (behind keeps symbol).layer ≡ symbol.layer
behind_layer keeps symbol =
    part_layer symbol.passages (keeps Dp) Dp _ ∙ part_layer symbol.passages (keeps Da) Da _
    ∙ part_layer symbol.passages (keeps Sp) Sp _ ∙ part_layer symbol.passages (keeps Sa) Sa (one_more symbol)

same_output : (out : ℕ) → (out == out) ≡ true
same_output out = grind (arith, nat_tests)

-- ---- trees

module _ (chain : ChainState) (header : List ℕ) (along : Along) (at : ℕ × ℕ) where
  abbrev pub wired : ℕ
  wired = wired_of chain.wires at.0

  -- an output that the element has, or at which a packet is dropped where it leads nowhere
  abbrev pub IsWay : Kind → ℕ → Type 0
  IsWay own out = (out < output_count (mappers_of chain.kinds) own wired) ⊎ IsThere (unwired_cause own out)

  -- a packet that came at a layer has a tree behind each output to which its input leads
  abbrev pub HasWays : Kind → Layer → Type 0
  HasWays own layer =
      (next : Symbol) (out : ℕ) → next.layer ≡ layer_behind own layer out → leads (mappers_of chain.kinds) own at.1 out ≡ true → IsWay own out → IsThere (leaves chain header along at own next out)

  -- ---- rewriters

  module _ (specs : List Spec) (within_law : LeadsWithin) (symbol : Symbol) (ways : HasWays (kind.IPRewriter specs) symbol.layer) where
    abbrev Rewriter : Kind
    Rewriter = kind.IPRewriter specs

    by_output : (next : Symbol) (out : ℕ) → next.layer ≡ symbol.layer → leads (mappers_of chain.kinds) Rewriter at.1 out ≡ true → IsThere (leaves chain header along at Rewriter next out)
    by_output next out same lead = ways next out same lead (inl (within_law (mappers_of chain.kinds) specs at.1 out wired lead))

    passed_there : (own : Spec) → slice_get specs at.1 ≡ Some own → IsThere (passed_tree chain header along at Rewriter symbol (unported own))
    passed_there spec.Drop is = (drop cause.Unported, refl)
    passed_there (spec.Pass out) is =
        by_output (annotated symbol) out refl (ap (if_there (spec_leads (mappers_of chain.kinds) specs out)) is ∙ ap (λ b. b || is_reply_out (mappers_of chain.kinds) specs out) (same_output out))
    passed_there (spec.Keep fout rout) is = (drop cause.Unported, refl)
    passed_there (spec.Pattern template) is = (drop cause.Unported, refl)
    passed_there (spec.Mapper number) is = (drop cause.Unported, refl)

    abbrev after : Spec → Symbol
    after own = behind (keeps_part (mappers_of chain.kinds) specs own) symbol

    passage_there : (own : Spec) → IsThere (passage_tree chain header along at Rewriter symbol specs own)
    passage_there own =
        there_mapped (λ branches. op (code_of at symbol) (branches_of branches)) _
        (each_there (λ out. option_map (λ tree. (out, tree)) (leaves chain header along at Rewriter (after own) out))
        (leads (mappers_of chain.kinds) Rewriter at.1) (range_with_len 0 (rewriter_outs (mappers_of chain.kinds) specs))
        (λ out lead. there_mapped (λ (tree : TreeForm). (out, tree)) (leaves chain header along at Rewriter (after own) out)
        (by_output (after own) out (behind_layer (keeps_part (mappers_of chain.kinds) specs own) symbol) lead)))

    rewriter_there : (found : Option Spec) → slice_get specs at.1 ≡ found → IsThere found → IsThere (rewriter_tree chain header along at Rewriter symbol specs found)
    rewriter_there (Some own) is there =
        ports_there header symbol (passage_tree chain header along at Rewriter symbol specs own) (passed_tree chain header along at Rewriter symbol (unported own)) (passage_there own) (passed_there own is)
    rewriter_there None is there = absurd (none-some there.0 there.1)

  -- ---- one line for each class

  check_there : (symbol : Symbol) (layer : Layer) → is_bare layer ≡ true → HasWays kind.CheckIPHeader layer → IsThere (check_tree chain header along at kind.CheckIPHeader symbol layer)
  check_there symbol Frame bare ways = absurd (false≢true bare)
  check_there symbol Bare bare ways =
      field_there header symbol of.IpOk 1 1 _ _ (ways (checked symbol) 0 refl refl (inl (omega arith))) (ways (refused symbol) 1 refl refl (inl (omega arith)))
  check_there symbol Ip bare ways = ways (checked symbol) 0 refl refl (inl (omega arith))
  check_there symbol Framed bare ways = absurd (false≢true bare)

  pub class_there : (own : Kind) (symbol : Symbol) → LeadsWithin → takes own symbol.layer ≡ true → ((specs : List Spec) → own ≡ kind.IPRewriter specs → IsThere (slice_get specs at.1)) → HasWays own symbol.layer
      → IsThere (class_tree chain header along at own symbol)
  unfolding class_tree
  class_there (kind.FromDevice device) symbol within_law took spec_at ways = ways symbol 0 refl refl (inl (omega arith))
  class_there (kind.ToDevice device) symbol within_law took spec_at ways = (leaf (rewrite_of symbol) device, refl)
  class_there kind.Discard symbol within_law took spec_at ways = (drop cause.Discarded, refl)
  class_there kind.Null symbol within_law took spec_at ways = ways symbol 0 refl refl (inl (omega arith))
  class_there kind.Counter symbol within_law took spec_at ways = ways symbol 0 refl refl (inl (omega arith))
  class_there kind.Queue symbol within_law took spec_at ways = ways symbol 0 refl refl (inl (omega arith))
  class_there (kind.Paint paint) symbol within_law took spec_at ways = ways (with_term symbol of.Paint (const paint)) 0 refl refl (inl (omega arith))
  class_there kind.PaintSwitch symbol within_law took spec_at ways = ways symbol (value_of (term_at symbol of.Paint) header []) refl refl (inr (cause.NoPaint, refl))
  class_there (kind.Classifier patterns) symbol within_law took spec_at ways =
      classifier_there chain header along at (kind.Classifier patterns) symbol 0 patterns (λ out within. ways symbol out refl refl (inl (omega (arith, within))))
  class_there kind.EtherMirror symbol within_law took spec_at ways = whole_there header symbol _ _ (ways (ethernet_swapped symbol) 0 refl refl (inl (omega arith))) (drop cause.Short, refl)
  class_there kind.Strip symbol within_law took spec_at ways = whole_there header symbol _ _ (ways (stripped symbol) 0 (below symbol.layer) refl (inl (omega arith))) (drop cause.Short, refl)
  class_there kind.CheckIPHeader symbol within_law took spec_at ways = check_there symbol symbol.layer took ways
  class_there (kind.EtherEncap ether_type src dst) symbol within_law took spec_at ways = ways (encapsulated symbol ether_type src dst) 0 refl refl (inl (omega arith))
  class_there kind.DecIPTTL symbol within_law took spec_at ways =
      field_there header symbol of.Ttl 0 1 _ _ (ways symbol 1 refl refl (inl (omega arith))) (ways (with_term symbol of.Ttl (less_by (term_at symbol of.Ttl) 1)) 0 refl refl (inl (omega arith)))
  class_there (kind.SetIPDSCP point) symbol within_law took spec_at ways = ways (with_term symbol of.Dscp (const point)) 0 refl refl (inl (omega arith))
  class_there (kind.StoreIPAddress address which) symbol within_law took spec_at ways = ways (with_term symbol (address_of which) (const address)) 0 refl refl (inl (omega arith))
  class_there kind.GetIPAddress symbol within_law took spec_at ways = ways (annotated symbol) 0 refl refl (inl (omega arith))
  class_there kind.IPMirror symbol within_law took spec_at ways =
      ports_there header symbol _ _ (ways (ports_swapped (addresses_swapped symbol)) 0 refl refl (inl (omega arith))) (ways (addresses_swapped symbol) 0 refl refl (inl (omega arith)))
  class_there (kind.IPFilter rules) symbol within_law took spec_at ways =
      filter_there chain header along at (kind.IPFilter rules) symbol (filter_outs rules) rules (omega arith) (λ out within. ways symbol out refl refl (inl within))
  class_there (kind.IPClassifier patterns) symbol within_law took spec_at ways =
      ip_classifier_there chain header along at (kind.IPClassifier patterns) symbol 0 patterns (λ out within. ways symbol out refl refl (inl (omega (arith, within))))
  class_there (kind.Route hops) symbol within_law took spec_at ways =
      route_there chain header along at (kind.Route hops) symbol (route_outs hops) (by_length hops) (routes_within hops) (λ next same out within. ways next out same refl (inl within))
  class_there (kind.IPRewriter specs) symbol within_law took spec_at ways = rewriter_there specs within_law symbol ways (slice_get specs at.1) refl (spec_at specs refl)
  class_there (kind.RoundRobinIPMapper templates) symbol within_law took spec_at ways = absurd (false≢true took)
