use Rattle.std.proofs.Common.{◌∙◌, sym, ap, subst, refl, ℕ, length, map, arith}
use Rattle.std.proofs.lemmas.Option.{slice_get_read, slice_get_past}
use Rattle.std.proofs.lemmas.Bool.{ltb-true}
use Rattle.std.proofs.lemmas.Result.{IfOk-weaker}
use Rattle.mt_cuts.specs.Canonical.{IsCanonical}
use Rattle.mt_cuts.specs.View.{tree_of}
use Rattle.mt_kinds.specs.declared.kind.Kind.{Kind}
use Rattle.mt_kinds.specs.declared.kind.Kind.TheVariants as kind
use Rattle.mt_synth.specs.Cuts.{AreCanonical}
use Rattle.mt_synth.specs.Exits.{exits_of}
use Rattle.mt_synth.specs.Symbols.{symbol_form}
use Rattle.mt_synth.specs.declared.exits.Exit.{Exit}
use Rattle.mt_synth.proofs.ClassesJoined.{joined_as, one_per_exit, whole_some, strip_some, ttl_some, ip_mirror_some, check_some, pass_some, classifier_count, ip_classifier_count, filter_count, route_count, sent_joined, discarded_joined, classifier_joined, ip_classifier_joined, filter_joined, route_joined, rewriter_joined, rewriter_missing, mapper_joined, check_first, check_joined, strip_joined, ether_mirror_joined, ttl_joined, ip_mirror_joined, one_exit_joined}
use Rattle.mt_synth.proofs.joined.joined.Goals as goal

pub classified-requires-clause-count : goal.classified-requires-clause-count
classified-requires-clause-count c =
    one_per_exit c.args.chain.now c.args.at (symbol_form c.args.symbol.now) c.args.cuts.now c.args.kind.now (kind.Classifier c.in-Classifier.patterns) c.args.exits.now c.requires.exits c.requires.count c.in-Classifier.is
    ∙ classifier_count c.args.chain.now c.args.at (symbol_form c.args.symbol.now) c.in-Classifier.patterns

pub filtered-requires-clause-count : goal.filtered-requires-clause-count
filtered-requires-clause-count c =
    one_per_exit c.args.chain.now c.args.at (symbol_form c.args.symbol.now) c.args.cuts.now c.args.kind.now (kind.IPFilter c.as_slice.result.now) c.args.exits.now c.requires.exits c.requires.count (c.in-IPFilter.is ∙ ap kind.IPFilter (sym c.as_slice.ensures.rules))
    ∙ filter_count c.args.chain.now c.args.at (symbol_form c.args.symbol.now) c.as_slice.result.now

pub ip_classified-requires-clause-count : goal.ip_classified-requires-clause-count
ip_classified-requires-clause-count c =
    one_per_exit c.args.chain.now c.args.at (symbol_form c.args.symbol.now) c.args.cuts.now c.args.kind.now (kind.IPClassifier c.as_slice-in-IPClassifier.result.now) c.args.exits.now c.requires.exits c.requires.count (c.in-IPClassifier.is ∙ ap kind.IPClassifier (sym c.as_slice-in-IPClassifier.ensures.patterns))
    ∙ ip_classifier_count c.args.chain.now c.args.at (symbol_form c.args.symbol.now) c.as_slice-in-IPClassifier.result.now

pub routed-requires-clause-count : goal.routed-requires-clause-count
routed-requires-clause-count c =
    one_per_exit c.args.chain.now c.args.at (symbol_form c.args.symbol.now) c.args.cuts.now c.args.kind.now (kind.Route c.as_slice-in-Route.result.now) c.args.exits.now c.requires.exits c.requires.count (c.in-Route.is ∙ ap kind.Route (sym c.as_slice-in-Route.ensures.hops))
    ∙ route_count c.args.chain.now c.args.at (symbol_form c.args.symbol.now) c.as_slice-in-Route.result.now

pub whole-requires-clause-some : goal.whole-requires-clause-some
whole-requires-clause-some c =
    let count = one_per_exit c.args.chain.now c.args.at (symbol_form c.args.symbol.now) c.args.cuts.now c.args.kind.now kind.EtherMirror c.args.exits.now c.requires.exits c.requires.count c.in-EtherMirror.is ∙ whole_some c.args.chain.now c.args.at (symbol_form c.args.symbol.now) in
    omega (arith, count)

pub whole-requires-in-Strip-clause-some : goal.whole-requires-in-Strip-clause-some
whole-requires-in-Strip-clause-some c =
    let count = one_per_exit c.args.chain.now c.args.at (symbol_form c.args.symbol.now) c.args.cuts.now c.args.kind.now kind.Strip c.args.exits.now c.requires.exits c.requires.count c.in-Strip.is ∙ strip_some c.args.chain.now c.args.at (symbol_form c.args.symbol.now) in
    omega (arith, count)

pub either-requires-in-DecIPTTL-clause-some : goal.either-requires-in-DecIPTTL-clause-some
either-requires-in-DecIPTTL-clause-some c =
    let count = one_per_exit c.args.chain.now c.args.at (symbol_form c.args.symbol.now) c.args.cuts.now c.args.kind.now kind.DecIPTTL c.args.exits.now c.requires.exits c.requires.count c.in-DecIPTTL.is ∙ ttl_some c.args.chain.now c.args.at (symbol_form c.args.symbol.now) in
    omega (arith, count)

pub either-requires-in-IPMirror-clause-some : goal.either-requires-in-IPMirror-clause-some
either-requires-in-IPMirror-clause-some c =
    let count = one_per_exit c.args.chain.now c.args.at (symbol_form c.args.symbol.now) c.args.cuts.now c.args.kind.now kind.IPMirror c.args.exits.now c.requires.exits c.requires.count c.in-IPMirror.is ∙ ip_mirror_some c.args.chain.now c.args.at (symbol_form c.args.symbol.now) in
    omega (arith, count)

pub either-requires : goal.either-requires
either-requires c =
    let count = one_per_exit c.args.chain.now c.args.at (symbol_form c.args.symbol.now) c.args.cuts.now c.args.kind.now kind.CheckIPHeader c.args.exits.now c.requires.exits c.requires.count c.in-CheckIPHeader.is in
    let some = check_some c.args.chain.now c.args.at (symbol_form c.args.symbol.now) in
    record { some = omega (arith, count, some); cuts = subst (λ (n : ℕ). AreCanonical n c.args.cuts.now) (sym c.entries-devices.ensures) c.requires.cuts }

pub rewritten-requires-clause-passes : goal.rewritten-requires-clause-passes
rewritten-requires-clause-passes c out passes =
    let count = one_per_exit c.args.chain.now c.args.at (symbol_form c.args.symbol.now) c.args.cuts.now c.args.kind.now (kind.IPRewriter c.as_slice-in-IPRewriter.result.now) c.args.exits.now c.requires.exits c.requires.count (c.in-IPRewriter.is ∙ ap kind.IPRewriter (sym c.as_slice-in-IPRewriter.ensures.specs)) in
    let some = pass_some c.args.chain.now c.args.at (symbol_form c.args.symbol.now) c.as_slice-in-IPRewriter.result.now c.in-Some.spec.now out (slice_get_read c.as_slice-in-IPRewriter.result.now (length c.as_slice-in-IPRewriter.result.now) c.args.at.1 c.in-Some.spec.now refl (ltb-true c.args.at.1 (length c.as_slice-in-IPRewriter.result.now) (sym c.in-Some.ensures.lookup.0)) c.in-Some.ensures.lookup.1) passes in
    omega (arith, count, some, c.requires.count)

pub returns-in-ToDevice-clause-means : goal.returns-in-ToDevice-clause-means
returns-in-ToDevice-clause-means c =
    IfOk-weaker c.sent.result _ _
    (λ cut means. joined_as c.entries-devices.result c.args.chain.now.entries c.args.chain.now c.args.at (symbol_form c.args.symbol.now) c.args.cuts.now c.args.trees.now c.sent.new.trees (tree_of cut) c.args.kind.now (kind.ToDevice c.in-ToDevice.device) c.entries-devices.ensures c.in-ToDevice.is
    (sent_joined c.entries-devices.result c.args.chain.now c.args.at (symbol_form c.args.symbol.now) c.args.cuts.now c.args.trees.now c.sent.new.trees (tree_of cut) c.in-ToDevice.device (means c.entries-devices.result)))
    c.sent.ensures.means

pub returns-in-Discard-clause-means : goal.returns-in-Discard-clause-means
returns-in-Discard-clause-means c =
    IfOk-weaker c.dropped.result _ _
    (λ cut means. joined_as c.entries-devices.result c.args.chain.now.entries c.args.chain.now c.args.at (symbol_form c.args.symbol.now) c.args.cuts.now c.args.trees.now c.dropped.new.trees (tree_of cut) c.args.kind.now kind.Discard c.entries-devices.ensures c.in-Discard.is
    (discarded_joined c.entries-devices.result c.args.chain.now c.args.at (symbol_form c.args.symbol.now) c.args.cuts.now c.args.trees.now c.dropped.new.trees (tree_of cut) (means c.entries-devices.result)))
    c.dropped.ensures.means

pub returns-in-ToDevice-clause-canonical : goal.returns-in-ToDevice-clause-canonical
returns-in-ToDevice-clause-canonical c =
    IfOk-weaker c.sent.result _ _ (λ cut canonical. canonical c.args.chain.now.entries) c.sent.ensures.canonical

pub returns-in-Discard-clause-canonical : goal.returns-in-Discard-clause-canonical
returns-in-Discard-clause-canonical c =
    IfOk-weaker c.dropped.result _ _ (λ cut canonical. canonical c.args.chain.now.entries) c.dropped.ensures.canonical

pub returns-in-Classifier-clause-means : goal.returns-in-Classifier-clause-means
returns-in-Classifier-clause-means c =
    IfOk-weaker c.classified.result _ _
    (λ cut means. joined_as c.entries-devices.result c.args.chain.now.entries c.args.chain.now c.args.at (symbol_form c.args.symbol.now) c.args.cuts.now c.args.trees.now c.classified.new.trees (tree_of cut) c.args.kind.now (kind.Classifier c.in-Classifier.patterns) c.entries-devices.ensures c.in-Classifier.is
    (classifier_joined c.entries-devices.result c.args.chain.now c.args.at (symbol_form c.args.symbol.now) c.args.cuts.now c.args.trees.now c.classified.new.trees (tree_of cut) c.in-Classifier.patterns means))
    c.classified.ensures.means

pub returns-in-IPFilter-clause-means : goal.returns-in-IPFilter-clause-means
returns-in-IPFilter-clause-means c =
    IfOk-weaker c.filtered.result _ _
    (λ cut means. joined_as c.entries-devices.result c.args.chain.now.entries c.args.chain.now c.args.at (symbol_form c.args.symbol.now) c.args.cuts.now c.args.trees.now c.filtered.new.trees (tree_of cut) c.args.kind.now (kind.IPFilter c.as_slice.result.now) c.entries-devices.ensures (c.in-IPFilter.is ∙ ap kind.IPFilter (sym c.as_slice.ensures.rules))
    (filter_joined c.entries-devices.result c.args.chain.now c.args.at (symbol_form c.args.symbol.now) c.args.cuts.now c.args.trees.now c.filtered.new.trees (tree_of cut) c.as_slice.result.now means))
    c.filtered.ensures.means

pub returns-in-IPClassifier-clause-means : goal.returns-in-IPClassifier-clause-means
returns-in-IPClassifier-clause-means c =
    IfOk-weaker c.ip_classified.result _ _
    (λ cut means. joined_as c.entries-devices.result c.args.chain.now.entries c.args.chain.now c.args.at (symbol_form c.args.symbol.now) c.args.cuts.now c.args.trees.now c.ip_classified.new.trees (tree_of cut) c.args.kind.now (kind.IPClassifier c.as_slice-in-IPClassifier.result.now) c.entries-devices.ensures (c.in-IPClassifier.is ∙ ap kind.IPClassifier (sym c.as_slice-in-IPClassifier.ensures.patterns))
    (ip_classifier_joined c.entries-devices.result c.args.chain.now c.args.at (symbol_form c.args.symbol.now) c.args.cuts.now c.args.trees.now c.ip_classified.new.trees (tree_of cut) c.as_slice-in-IPClassifier.result.now means))
    c.ip_classified.ensures.means

pub returns-in-Route-clause-means : goal.returns-in-Route-clause-means
returns-in-Route-clause-means c =
    IfOk-weaker c.routed.result _ _
    (λ cut means. joined_as c.entries-devices.result c.args.chain.now.entries c.args.chain.now c.args.at (symbol_form c.args.symbol.now) c.args.cuts.now c.args.trees.now c.routed.new.trees (tree_of cut) c.args.kind.now (kind.Route c.as_slice-in-Route.result.now) c.entries-devices.ensures (c.in-Route.is ∙ ap kind.Route (sym c.as_slice-in-Route.ensures.hops))
    (route_joined c.entries-devices.result c.args.chain.now c.args.at (symbol_form c.args.symbol.now) c.args.cuts.now c.args.trees.now c.routed.new.trees (tree_of cut) c.as_slice-in-Route.result.now means))
    c.routed.ensures.means

pub returns-in-EtherMirror-clause-means : goal.returns-in-EtherMirror-clause-means
returns-in-EtherMirror-clause-means c =
    IfOk-weaker c.whole.result _ _
    (λ cut means. joined_as c.entries-devices.result c.args.chain.now.entries c.args.chain.now c.args.at (symbol_form c.args.symbol.now) c.args.cuts.now c.args.trees.now c.whole.new.trees (tree_of cut) c.args.kind.now kind.EtherMirror c.entries-devices.ensures c.in-EtherMirror.is
    (ether_mirror_joined c.entries-devices.result c.args.chain.now c.args.at (symbol_form c.args.symbol.now) c.args.cuts.now c.args.trees.now c.whole.new.trees (tree_of cut) (one_per_exit c.args.chain.now c.args.at (symbol_form c.args.symbol.now) c.args.cuts.now c.args.kind.now kind.EtherMirror c.args.exits.now c.requires.exits c.requires.count c.in-EtherMirror.is) means))
    c.whole.ensures.means

pub returns-in-Strip-clause-means : goal.returns-in-Strip-clause-means
returns-in-Strip-clause-means c =
    IfOk-weaker c.whole-in-Strip.result _ _
    (λ cut means. joined_as c.entries-devices.result c.args.chain.now.entries c.args.chain.now c.args.at (symbol_form c.args.symbol.now) c.args.cuts.now c.args.trees.now c.whole-in-Strip.new.trees (tree_of cut) c.args.kind.now kind.Strip c.entries-devices.ensures c.in-Strip.is
    (strip_joined c.entries-devices.result c.args.chain.now c.args.at (symbol_form c.args.symbol.now) c.args.cuts.now c.args.trees.now c.whole-in-Strip.new.trees (tree_of cut) (one_per_exit c.args.chain.now c.args.at (symbol_form c.args.symbol.now) c.args.cuts.now c.args.kind.now kind.Strip c.args.exits.now c.requires.exits c.requires.count c.in-Strip.is) means))
    c.whole-in-Strip.ensures.means

pub returns-in-DecIPTTL-clause-means : goal.returns-in-DecIPTTL-clause-means
returns-in-DecIPTTL-clause-means c =
    IfOk-weaker c.either-in-DecIPTTL.result _ _
    (λ cut means. joined_as c.entries-devices.result c.args.chain.now.entries c.args.chain.now c.args.at (symbol_form c.args.symbol.now) c.args.cuts.now c.args.trees.now c.either-in-DecIPTTL.new.trees (tree_of cut) c.args.kind.now kind.DecIPTTL c.entries-devices.ensures c.in-DecIPTTL.is
    (ttl_joined c.entries-devices.result c.args.chain.now c.args.at (symbol_form c.args.symbol.now) c.args.cuts.now c.args.trees.now c.either-in-DecIPTTL.new.trees (tree_of cut) (one_per_exit c.args.chain.now c.args.at (symbol_form c.args.symbol.now) c.args.cuts.now c.args.kind.now kind.DecIPTTL c.args.exits.now c.requires.exits c.requires.count c.in-DecIPTTL.is) means))
    c.either-in-DecIPTTL.ensures.means

pub returns-in-IPMirror-clause-means : goal.returns-in-IPMirror-clause-means
returns-in-IPMirror-clause-means c =
    IfOk-weaker c.either-in-IPMirror.result _ _
    (λ cut means. joined_as c.entries-devices.result c.args.chain.now.entries c.args.chain.now c.args.at (symbol_form c.args.symbol.now) c.args.cuts.now c.args.trees.now c.either-in-IPMirror.new.trees (tree_of cut) c.args.kind.now kind.IPMirror c.entries-devices.ensures c.in-IPMirror.is
    (ip_mirror_joined c.entries-devices.result c.args.chain.now c.args.at (symbol_form c.args.symbol.now) c.args.cuts.now c.args.trees.now c.either-in-IPMirror.new.trees (tree_of cut) (one_per_exit c.args.chain.now c.args.at (symbol_form c.args.symbol.now) c.args.cuts.now c.args.kind.now kind.IPMirror c.args.exits.now c.requires.exits c.requires.count c.in-IPMirror.is) means))
    c.either-in-IPMirror.ensures.means

pub returns-in-Ip-clause-means : goal.returns-in-Ip-clause-means
returns-in-Ip-clause-means c =
    IfOk-weaker c.at_place.result _ _
    (λ cut means. joined_as c.entries-devices.result c.args.chain.now.entries c.args.chain.now c.args.at (symbol_form c.args.symbol.now) c.args.cuts.now c.args.trees.now c.args.trees.now (tree_of cut) c.args.kind.now kind.CheckIPHeader c.entries-devices.ensures c.in-CheckIPHeader.is
    (check_first c.entries-devices.result c.args.chain.now c.args.at (symbol_form c.args.symbol.now) c.args.cuts.now c.args.trees.now (tree_of cut) (sym c.layer.ensures ∙ c.in-Ip.is) (one_per_exit c.args.chain.now c.args.at (symbol_form c.args.symbol.now) c.args.cuts.now c.args.kind.now kind.CheckIPHeader c.args.exits.now c.requires.exits c.requires.count c.in-CheckIPHeader.is) means))
    c.at_place.ensures.value

pub returns-in_default-layer : goal.returns-in_default-layer
returns-in_default-layer c =
    record {
      canonical = IfOk-weaker c.either.result _ _ (λ cut canonical. subst (λ (n : ℕ). IsCanonical n (tree_of cut)) c.entries-devices.ensures canonical) c.either.ensures.canonical;
      means =
          IfOk-weaker c.either.result _ _
          (λ cut means. joined_as c.entries-devices.result c.args.chain.now.entries c.args.chain.now c.args.at (symbol_form c.args.symbol.now) c.args.cuts.now c.args.trees.now c.either.new.trees (tree_of cut) c.args.kind.now kind.CheckIPHeader c.entries-devices.ensures c.in-CheckIPHeader.is
          (check_joined c.entries-devices.result c.args.chain.now c.args.at (symbol_form c.args.symbol.now) c.args.cuts.now c.args.trees.now c.either.new.trees (tree_of cut) (λ is. c.in_default-layer.not-Ip (c.layer.ensures ∙ is)) (one_per_exit c.args.chain.now c.args.at (symbol_form c.args.symbol.now) c.args.cuts.now c.args.kind.now kind.CheckIPHeader c.args.exits.now c.requires.exits c.requires.count c.in-CheckIPHeader.is) means))
          c.either.ensures.means;
      grows = c.either.ensures.grows;
    }

pub returns-in-Some-clause-means : goal.returns-in-Some-clause-means
returns-in-Some-clause-means c =
    IfOk-weaker c.rewritten.result _ _
    (λ cut means. joined_as c.entries-devices.result c.args.chain.now.entries c.args.chain.now c.args.at (symbol_form c.args.symbol.now) c.args.cuts.now c.args.trees.now c.rewritten.new.trees (tree_of cut) c.args.kind.now (kind.IPRewriter c.as_slice-in-IPRewriter.result.now) c.entries-devices.ensures (c.in-IPRewriter.is ∙ ap kind.IPRewriter (sym c.as_slice-in-IPRewriter.ensures.specs))
    (rewriter_joined c.entries-devices.result c.args.chain.now c.args.at (symbol_form c.args.symbol.now) c.args.cuts.now c.args.trees.now c.rewritten.new.trees (tree_of cut) c.as_slice-in-IPRewriter.result.now c.in-Some.spec.now (map (λ (exit : Exit). (exit.out, symbol_form exit.symbol)) c.args.exits.now)
    (slice_get_read c.as_slice-in-IPRewriter.result.now (length c.as_slice-in-IPRewriter.result.now) c.args.at.1 c.in-Some.spec.now refl (ltb-true c.args.at.1 (length c.as_slice-in-IPRewriter.result.now) (sym c.in-Some.ensures.lookup.0)) c.in-Some.ensures.lookup.1)
    (c.requires.exits ∙ ap (λ (k : Kind). exits_of c.args.chain.now c.args.at k (symbol_form c.args.symbol.now)) (c.in-IPRewriter.is ∙ ap kind.IPRewriter (sym c.as_slice-in-IPRewriter.ensures.specs))) means))
    c.rewritten.ensures.means

pub returns-in-None-clause-means : goal.returns-in-None-clause-means
returns-in-None-clause-means c =
    joined_as c.entries-devices.result c.args.chain.now.entries c.args.chain.now c.args.at (symbol_form c.args.symbol.now) c.args.cuts.now c.args.trees.now c.args.trees.now (tree_of c.leaf.result) c.args.kind.now (kind.IPRewriter c.as_slice-in-IPRewriter.result.now) c.entries-devices.ensures (c.in-IPRewriter.is ∙ ap kind.IPRewriter (sym c.as_slice-in-IPRewriter.ensures.specs))
    (rewriter_missing c.entries-devices.result c.args.chain.now c.args.at (symbol_form c.args.symbol.now) c.args.cuts.now c.args.trees.now c.args.trees.now (tree_of c.leaf.result) c.as_slice-in-IPRewriter.result.now (slice_get_past c.as_slice-in-IPRewriter.result.now c.args.at.1 c.in-None.ensures.lookup.3))

pub returns-in-RoundRobinIPMapper-clause-means : goal.returns-in-RoundRobinIPMapper-clause-means
returns-in-RoundRobinIPMapper-clause-means c =
    joined_as c.entries-devices.result c.args.chain.now.entries c.args.chain.now c.args.at (symbol_form c.args.symbol.now) c.args.cuts.now c.args.trees.now c.args.trees.now (tree_of c.leaf-in-RoundRobinIPMapper.result) c.args.kind.now (kind.RoundRobinIPMapper c.in-RoundRobinIPMapper.field-0) c.entries-devices.ensures c.in-RoundRobinIPMapper.is
    (mapper_joined c.entries-devices.result c.args.chain.now c.args.at (symbol_form c.args.symbol.now) c.args.cuts.now c.args.trees.now c.args.trees.now (tree_of c.leaf-in-RoundRobinIPMapper.result) c.in-RoundRobinIPMapper.field-0)

pub returns-in_default-clause-means : goal.returns-in_default-clause-means
returns-in_default-clause-means c =
    IfOk-weaker c.at_place-in_default.result _ _
    (λ copy same. joined_as c.entries-devices.result c.args.chain.now.entries c.args.chain.now c.args.at (symbol_form c.args.symbol.now) c.args.cuts.now c.args.trees.now c.args.trees.now (tree_of copy) c.args.kind.now c.args.kind.now c.entries-devices.ensures refl
    (one_exit_joined c.entries-devices.result c.args.chain.now c.args.at (symbol_form c.args.symbol.now) c.args.cuts.now c.args.trees.now c.args.kind.now (tree_of copy)
    (record {
      not_sent = c.in_default.not-ToDevice;
      not_discarded = c.in_default.not-Discard;
      not_classifier = c.in_default.not-Classifier;
      not_ether_mirror = c.in_default.not-EtherMirror;
      not_strip = c.in_default.not-Strip;
      not_check = c.in_default.not-CheckIPHeader;
      not_ttl = c.in_default.not-DecIPTTL;
      not_ip_mirror = c.in_default.not-IPMirror;
      not_filter = c.in_default.not-IPFilter;
      not_ip_classifier = c.in_default.not-IPClassifier;
      not_route = c.in_default.not-Route;
      not_rewriter = c.in_default.not-IPRewriter;
      not_mapper = c.in_default.not-RoundRobinIPMapper;
    })
    c.has_paint.ensures (one_per_exit c.args.chain.now c.args.at (symbol_form c.args.symbol.now) c.args.cuts.now c.args.kind.now c.args.kind.now c.args.exits.now c.requires.exits c.requires.count refl) same))
    c.at_place-in_default.ensures.value
