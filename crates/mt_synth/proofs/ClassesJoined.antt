-- What an element makes of the trees behind its exits, class by class.
use Rattle.std.proofs.Common.{◌≡◌, ◌∙◌, sym, ap, subst, refl, ℕ, ◌<◌, List, [], ◌∷◌, length, map, arith}
use Rattle.std.specs.Prelude.{Option, Some, None, slice_get}
use Rattle.std.specs.List.{range_with_len}
use Rattle.std.proofs.lemmas.List.{length-map}
use Rattle.std.proofs.lemmas.List.FromFn.{length-range_with_len}
use Rattle.std.proofs.lemmas.Option.{none-some}
use Rattle.mt_packet.specs.declared.cause.Cause.TheVariants as cause
use Rattle.mt_packet.specs.declared.field.Field.{Field}
use Rattle.mt_packet.specs.declared.field.Field.TheVariants as of
use Rattle.mt_packet.specs.declared.layer.Layer.{Layer}
use Rattle.mt_packet.specs.declared.layer.Layer.TheVariants as layer
use Rattle.mt_pattern.specs.declared.pattern.Pattern.{Pattern}
use Rattle.mt_cuts.specs.Tree as cutting
use Rattle.mt_cuts.specs.Tree.{value_of}
use Rattle.mt_cuts.specs.View.{tree_of}
use Rattle.mt_cuts.specs.declared.cut.Cut.{Cut}
use Rattle.mt_kinds.specs.Outputs.{filter_outs}
use Rattle.mt_kinds.specs.declared.hop.Hop.{Hop}
use Rattle.mt_kinds.specs.declared.kind.Clause.{Clause}
use Rattle.mt_kinds.specs.declared.kind.Kind.{Kind}
use Rattle.mt_kinds.specs.declared.kind.Kind.TheVariants as kind
use Rattle.mt_kinds.specs.declared.rewriter.Spec.{Spec}
use Rattle.mt_kinds.specs.declared.rewriter.Spec.TheVariants as spec
use Rattle.mt_kinds.specs.declared.rewriter.Template.{Template}
use Rattle.mt_kinds.specs.declared.rule.Rule.{Rule}
use Rattle.mt_elements.specs.ChainState.{ChainState}
use Rattle.mt_chain.specs.Step.{address_of}
use Rattle.mt_terms.specs.Terms.{TermForm, const, entry, minus, flow_part, less_by}
use Rattle.mt_terms.specs.Terms.{value_of as term_value}
use Rattle.mt_terms.specs.Trees.{leaf}
use Rattle.mt_terms.specs.declared.tree.Tree.{Tree}
use Rattle.mt_trees.specs.Elements.{Along, dropped, leaves, by_length, rewrite_of, classifier_tree, ip_classifier_tree, filter_tree, route_tree, rewriter_tree, check_tree, class_tree}
use Rattle.mt_trees.specs.Symbols.{Symbol, term_at, with_term, annotated, stripped, encapsulated, ethernet_swapped, checked, refused, addresses_swapped, ports_swapped}
use Rattle.mt_trees.specs.Tests.{field_tested, whole_tested}
use Rattle.mt_synth.specs.Cuts.{TreeAt, Means, AreBehind, tree_numbered, number_at}
use Rattle.mt_synth.specs.Exits.{Exits, counted, check_exits, route_exits, rewriter_exits, exits_of, number_in}
use Rattle.mt_synth.specs.Symbols.{IsPaint, symbol_form}
use Rattle.mt_synth.specs.declared.exits.Exit.{Exit}
use Rattle.mt_synth.proofs.Meant.{means_values}
use Rattle.mt_synth.proofs.RoutesSorted.{length-by_length}

-- ---- how many exits there are

length-counted : (n : ℕ) (symbol : Symbol) → length (counted n symbol) ≡ n
length-counted n symbol = length-map (range_with_len 0 n) (λ out. (out, symbol)) ∙ length-range_with_len 0 n

module _ (chain : ChainState) (at : ℕ × ℕ) (symbol : Symbol) where
  pub classifier_count : (patterns : List (List Clause)) → length (exits_of chain at (kind.Classifier patterns) symbol) ≡ length patterns
  unfolding exits_of
  classifier_count patterns = length-counted (length patterns) symbol

  pub ip_classifier_count : (patterns : List Pattern) → length (exits_of chain at (kind.IPClassifier patterns) symbol) ≡ length patterns
  unfolding exits_of
  ip_classifier_count patterns = length-counted (length patterns) symbol

  pub filter_count : (rules : List Rule) → length (exits_of chain at (kind.IPFilter rules) symbol) ≡ filter_outs rules
  unfolding exits_of
  filter_count rules = length-counted (filter_outs rules) symbol

  pub route_count : (hops : List Hop) → length (exits_of chain at (kind.Route hops) symbol) ≡ length hops
  unfolding exits_of
  route_count hops = length-map (by_length hops) _ ∙ length-by_length hops

  -- at least one, or two
  pub whole_some : length (exits_of chain at kind.EtherMirror symbol) ≡ 1
  unfolding exits_of
  whole_some = refl

  pub strip_some : length (exits_of chain at kind.Strip symbol) ≡ 1
  unfolding exits_of
  strip_some = refl

  pub ttl_some : length (exits_of chain at kind.DecIPTTL symbol) ≡ 2
  unfolding exits_of
  ttl_some = refl

  pub ip_mirror_some : length (exits_of chain at kind.IPMirror symbol) ≡ 2
  unfolding exits_of
  ip_mirror_some = refl

  check_length : (l : Layer) → 0 < length (check_exits l symbol)
  check_length layer.Frame = omega arith
  check_length layer.Bare = omega arith
  check_length layer.Ip = omega arith
  check_length layer.Framed = omega arith

  pub check_some : 0 < length (exits_of chain at kind.CheckIPHeader symbol)
  unfolding exits_of
  check_some = check_length symbol.layer

  pub pass_some : (specs : List Spec) (s : Spec) (out : ℕ) → slice_get specs at.1 ≡ Some s → s ≡ spec.Pass out → 0 < length (exits_of chain at (kind.IPRewriter specs) symbol)
  unfolding exits_of
  pass_some specs s out is passes =
      let more : 0 < length (rewriter_exits chain at specs (Some (spec.Pass out)) symbol) = omega arith in
      subst (λ (o : Option Spec). 0 < length (rewriter_exits chain at specs o symbol)) (sym (is ∙ ap Some passes)) more

  -- a tree for each exit
  pub one_per_exit : (cuts : List Cut) (own as_is : Kind) (exits : List Exit) → map (λ (exit : Exit). (exit.out, symbol_form exit.symbol)) exits ≡ exits_of chain at own symbol → length cuts ≡ length exits → own ≡ as_is
      → length cuts ≡ length (exits_of chain at as_is symbol)
  one_per_exit cuts own as_is exits are count is =
      count ∙ sym (length-map exits (λ (exit : Exit). (exit.out, symbol_form exit.symbol))) ∙ ap length are ∙ ap (λ (k : Kind). length (exits_of chain at k symbol)) is

-- ---- trees that are there

none_there : (cuts : List Cut) → slice_get cuts 0 ≡ None → 0 < length cuts → ⊥
none_there [] e some = omega (arith, some)
none_there (cut ∷ cuts) e some = none-some cut (sym e)

second_there : (cuts : List Cut) → slice_get cuts 1 ≡ None → 1 < length cuts → ⊥
second_there [] e some = omega (arith, some)
second_there (cut ∷ []) e some = omega (arith, some)
second_there (cut ∷ other ∷ cuts) e some = none-some other (sym e)

-- ---- what is made

module _ (devices : ℕ) (chain : ChainState) (at : ℕ × ℕ) (symbol : Symbol) (cuts : List Cut) (old : List Tree) where
  abbrev pub Joined : List Tree → cutting.Tree → Kind → Type 0
  Joined new made own =
      (along : List ℕ → Along) → AreBehind devices old chain along at own (exits_of chain at own symbol) cuts
      → Means devices new made (λ header. class_tree chain header (along header) at own symbol)

  abbrev pub OnePerExit : Kind → Type 0
  OnePerExit own = length cuts ≡ length (exits_of chain at own symbol)

  abbrev pub StandsFor : List Tree → cutting.Tree → Exits → (ChainState → (List ℕ → Along) → ℕ × ℕ → Kind → TreeAt) → Type 0
  StandsFor new made exits tree_at =
      (c : ChainState) (along : List ℕ → Along) (a : ℕ × ℕ) (own : Kind) → AreBehind devices old c along a own exits cuts → Means devices new made (tree_at c along a own)

  pub sent_joined : (new : List Tree) (made : cutting.Tree) (device : ℕ) → Means devices new made (λ header. Some (leaf (rewrite_of symbol) device)) → Joined new made (kind.ToDevice device)
  unfolding class_tree
  sent_joined new made device means along behind_them = means

  pub discarded_joined : (new : List Tree) (made : cutting.Tree) → Means devices new made (λ header. dropped cause.Discarded) → Joined new made kind.Discard
  unfolding class_tree
  discarded_joined new made means along behind_them = means

  pub classifier_joined : (new : List Tree) (made : cutting.Tree) (patterns : List (List Clause))
      → StandsFor new made (counted (length patterns) symbol) (λ c along a own header. classifier_tree c header (along header) a own symbol 0 patterns) → Joined new made (kind.Classifier patterns)
  unfolding class_tree exits_of
  classifier_joined new made patterns stands along behind_them = stands chain along at (kind.Classifier patterns) behind_them

  pub ip_classifier_joined : (new : List Tree) (made : cutting.Tree) (patterns : List Pattern)
      → StandsFor new made (counted (length patterns) symbol) (λ c along a own header. ip_classifier_tree c header (along header) a own symbol 0 patterns) → Joined new made (kind.IPClassifier patterns)
  unfolding class_tree exits_of
  ip_classifier_joined new made patterns stands along behind_them = stands chain along at (kind.IPClassifier patterns) behind_them

  pub filter_joined : (new : List Tree) (made : cutting.Tree) (rules : List Rule)
      → StandsFor new made (counted (filter_outs rules) symbol) (λ c along a own header. filter_tree c header (along header) a own symbol rules) → Joined new made (kind.IPFilter rules)
  unfolding class_tree exits_of
  filter_joined new made rules stands along behind_them = stands chain along at (kind.IPFilter rules) behind_them

  pub route_joined : (new : List Tree) (made : cutting.Tree) (hops : List Hop)
      → StandsFor new made (route_exits hops symbol) (λ c along a own header. route_tree c header (along header) a own symbol (by_length hops)) → Joined new made (kind.Route hops)
  unfolding class_tree exits_of
  route_joined new made hops stands along behind_them = stands chain along at (kind.Route hops) behind_them

  pub rewriter_joined : (new : List Tree) (made : cutting.Tree) (specs : List Spec) (spec : Spec) (exits : Exits) → slice_get specs at.1 ≡ Some spec → exits ≡ exits_of chain at (kind.IPRewriter specs) symbol
      → ((c : ChainState) (along : List ℕ → Along) (own : Kind) (ss : List Spec) → exits ≡ rewriter_exits c at ss (Some spec) symbol
      → AreBehind devices old c along at own (rewriter_exits c at ss (Some spec) symbol) cuts
      → Means devices new made (λ header. rewriter_tree c header (along header) at own symbol ss (Some spec)))
      → Joined new made (kind.IPRewriter specs)
  unfolding class_tree exits_of
  rewriter_joined new made specs spec exits is are means along =
      subst (λ (o : Option Spec). AreBehind devices old chain along at (kind.IPRewriter specs) (rewriter_exits chain at specs o symbol) cuts
      → Means devices new made (λ header. rewriter_tree chain header (along header) at (kind.IPRewriter specs) symbol specs o)) (sym is)
      (means chain along (kind.IPRewriter specs) specs (are ∙ ap (λ (o : Option Spec). rewriter_exits chain at specs o symbol) is))

  pub rewriter_missing : (new : List Tree) (made : cutting.Tree) (specs : List Spec) → slice_get specs at.1 ≡ None → Joined new made (kind.IPRewriter specs)
  unfolding class_tree
  rewriter_missing new made specs is along behind_them header inside tree found =
      absurd (none-some tree (sym (ap (λ (o : Option Spec). rewriter_tree chain header (along header) at (kind.IPRewriter specs) symbol specs o) is) ∙ found))

  pub mapper_joined : (new : List Tree) (made : cutting.Tree) (templates : List Template) → Joined new made (kind.RoundRobinIPMapper templates)
  unfolding class_tree
  mapper_joined new made templates along behind_them header inside tree found = absurd (none-some tree found)

  -- ---- a copy of the first tree

  abbrev pub IsFirst : cutting.Tree → Type 0
  IsFirst copy = (cut : Cut) → slice_get cuts 0 ≡ Some cut → (header : Field → ℕ) → value_of copy header ≡ value_of (tree_of cut) header

  first_stands : (xs : List Cut) (copy : cutting.Tree) (tree_at : TreeAt) → 0 < length xs → ((cut : Cut) → slice_get xs 0 ≡ Some cut → (header : Field → ℕ) → value_of copy header ≡ value_of (tree_of cut) header)
      → ((cut : Cut) → slice_get xs 0 ≡ Some cut → Means devices old (tree_of cut) tree_at) → Means devices old copy tree_at
  first_stands [] copy tree_at some same means = absurd (omega (arith, some))
  first_stands (cut ∷ xs) copy tree_at some same means = means_values devices old (tree_of cut) copy tree_at (same cut refl) (means cut refl)

  copied_joined : (own : Kind) (copy : cutting.Tree) (out : ℕ) (next : Symbol) → exits_of chain at own symbol ≡ (out, next) ∷ []
      → ((header : List ℕ) (along : Along) → class_tree chain header along at own symbol ≡ leaves chain header along at own next out) → OnePerExit own → IsFirst copy → Joined old copy own
  copied_joined own copy out next are is count same along behind_them header inside tree found =
      first_stands cuts copy (λ header. leaves chain header (along header) at own next out) (let one = count ∙ ap length are in omega (arith, one)) same
      (λ cut is_cut. behind_them 0 (out, next) cut (ap (λ (exits : Exits). slice_get exits 0) are) is_cut) header inside tree (sym (is header (along header)) ∙ found)

  painted : (term : TermForm) (header : List ℕ) → IsPaint term → term_value term header [] ≡ number_in term
  painted (const value) header h = refl
  painted (entry field) header h = absurd h
  painted (minus term amount) header h = absurd h
  painted (flow_part passage part) header h = absurd h

  pub check_first : (copy : cutting.Tree) → symbol.layer ≡ layer.Ip → OnePerExit kind.CheckIPHeader → IsFirst copy → Joined old copy kind.CheckIPHeader
  unfolding class_tree exits_of
  check_first copy is count same =
      copied_joined kind.CheckIPHeader copy 0 (checked symbol) (ap (λ (l : Layer). check_exits l symbol) is)
      (λ header along. ap (λ (l : Layer). check_tree chain header along at kind.CheckIPHeader symbol l) is) count same

  -- ---- tests

  -- on whole frames the first tree
  abbrev pub Whole : List Tree → cutting.Tree → Type 0
  Whole new made =
      (inside : Cut) (inside_at : TreeAt) → slice_get cuts 0 ≡ Some inside → Means devices old (tree_of inside) inside_at
      → Means devices new made (λ header. whole_tested header symbol (inside_at header) (dropped cause.Short))

  -- the first tree where a field lies in a span, and the second elsewhere
  abbrev pub Either : List Tree → cutting.Tree → Field → ℕ → ℕ → Type 0
  Either new made field lo hi =
      (inside outside : Cut) (inside_at outside_at : TreeAt) → slice_get cuts 0 ≡ Some inside → slice_get cuts 1 ≡ Some outside
      → Means devices old (tree_of inside) inside_at → Means devices old (tree_of outside) outside_at
      → Means devices new made (λ header. field_tested header symbol field lo hi (inside_at header) (outside_at header))

  whole_joined : (own : Kind) (new : List Tree) (made : cutting.Tree) (next : Symbol) → exits_of chain at own symbol ≡ (0, next) ∷ []
      → ((header : List ℕ) (along : Along) → class_tree chain header along at own symbol ≡ whole_tested header symbol (leaves chain header along at own next 0) (dropped cause.Short)) → OnePerExit own
      → Whole new made → Joined new made own
  whole_joined own new made next are is count means along behind_them header inside tree found =
      first (slice_get cuts 0) refl (let one = count ∙ ap length are in omega (arith, one))
    where
      first : (o : Option Cut) → slice_get cuts 0 ≡ o → 0 < length cuts → tree_numbered new (number_at made header) ≡ Some tree
      first None e some = absurd (none_there cuts e some)
      first (Some cut) e some =
          means cut (λ header. leaves chain header (along header) at own next 0) e (behind_them 0 (0, next) cut (ap (λ (exits : Exits). slice_get exits 0) are) e) header inside tree (sym (is header (along header)) ∙ found)

  either_joined : (own : Kind) (new : List Tree) (made : cutting.Tree) (field : Field) (lo hi out other : ℕ) (next after : Symbol) → exits_of chain at own symbol ≡ (out, next) ∷ (other, after) ∷ []
      → ((header : List ℕ) (along : Along) → class_tree chain header along at own symbol ≡ field_tested header symbol field lo hi (leaves chain header along at own next out) (leaves chain header along at own after other)) → OnePerExit own
      → Either new made field lo hi → Joined new made own
  either_joined own new made field lo hi out other next after are is count means along behind_them header inside tree found =
      both (slice_get cuts 0) refl (slice_get cuts 1) refl (let two = count ∙ ap length are in omega (arith, two))
    where
      both : (o : Option Cut) → slice_get cuts 0 ≡ o → (p : Option Cut) → slice_get cuts 1 ≡ p → 1 < length cuts → tree_numbered new (number_at made header) ≡ Some tree
      both None e p k some = absurd (none_there cuts e (omega (arith, some)))
      both (Some cut) e None k some = absurd (second_there cuts k some)
      both (Some cut) e (Some rest) k some =
          means cut rest (λ header. leaves chain header (along header) at own next out) (λ header. leaves chain header (along header) at own after other) e k
          (behind_them 0 (out, next) cut (ap (λ (exits : Exits). slice_get exits 0) are) e) (behind_them 1 (other, after) rest (ap (λ (exits : Exits). slice_get exits 1) are) k)
          header inside tree (sym (is header (along header)) ∙ found)

  pub strip_joined : (new : List Tree) (made : cutting.Tree) → OnePerExit kind.Strip → Whole new made → Joined new made kind.Strip
  unfolding class_tree exits_of
  strip_joined new made count means = whole_joined kind.Strip new made (stripped symbol) refl (λ header along. refl) count means

  pub ether_mirror_joined : (new : List Tree) (made : cutting.Tree) → OnePerExit kind.EtherMirror → Whole new made → Joined new made kind.EtherMirror
  unfolding class_tree exits_of
  ether_mirror_joined new made count means = whole_joined kind.EtherMirror new made (ethernet_swapped symbol) refl (λ header along. refl) count means

  pub ttl_joined : (new : List Tree) (made : cutting.Tree) → OnePerExit kind.DecIPTTL → Either new made of.Ttl 0 1 → Joined new made kind.DecIPTTL
  unfolding class_tree exits_of
  ttl_joined new made count means = either_joined kind.DecIPTTL new made of.Ttl 0 1 1 0 symbol (with_term symbol of.Ttl (less_by (term_at symbol of.Ttl) 1)) refl (λ header along. refl) count means

  pub ip_mirror_joined : (new : List Tree) (made : cutting.Tree) → OnePerExit kind.IPMirror → Either new made of.Ports 1 1 → Joined new made kind.IPMirror
  unfolding class_tree exits_of
  ip_mirror_joined new made count means = either_joined kind.IPMirror new made of.Ports 1 1 0 0 (ports_swapped (addresses_swapped symbol)) (addresses_swapped symbol) refl (λ header along. refl) count means

  unchecked_exits : (l : Layer) → (l ≡ layer.Ip → ⊥) → check_exits l symbol ≡ (0, checked symbol) ∷ (1, refused symbol) ∷ []
  unchecked_exits layer.Frame h = refl
  unchecked_exits layer.Bare h = refl
  unchecked_exits layer.Ip h = absurd (h refl)
  unchecked_exits layer.Framed h = refl

  unchecked_tree : (l : Layer) → (l ≡ layer.Ip → ⊥) → (header : List ℕ) (along : Along) → check_tree chain header along at kind.CheckIPHeader symbol l
      ≡ field_tested header symbol of.IpOk 1 1 (leaves chain header along at kind.CheckIPHeader (checked symbol) 0) (leaves chain header along at kind.CheckIPHeader (refused symbol) 1)
  unchecked_tree layer.Frame h header along = refl
  unchecked_tree layer.Bare h header along = refl
  unchecked_tree layer.Ip h header along = absurd (h refl)
  unchecked_tree layer.Framed h header along = refl

  pub check_joined : (new : List Tree) (made : cutting.Tree) → (symbol.layer ≡ layer.Ip → ⊥) → OnePerExit kind.CheckIPHeader → Either new made of.IpOk 1 1 → Joined new made kind.CheckIPHeader
  unfolding class_tree exits_of
  check_joined new made is count means =
      either_joined kind.CheckIPHeader new made of.IpOk 1 1 0 1 (checked symbol) (refused symbol) (unchecked_exits symbol.layer is) (λ header along. unchecked_tree symbol.layer is header along) count means

  -- ---- all the others have one exit

  pub record HasOneExit (own : Kind) : Type 0 where
    pub not_sent : (device : ℕ) → own ≡ kind.ToDevice device → ⊥
    pub not_discarded : own ≡ kind.Discard → ⊥
    pub not_classifier : (patterns : List (List Clause)) → own ≡ kind.Classifier patterns → ⊥
    pub not_ether_mirror : own ≡ kind.EtherMirror → ⊥
    pub not_strip : own ≡ kind.Strip → ⊥
    pub not_check : own ≡ kind.CheckIPHeader → ⊥
    pub not_ttl : own ≡ kind.DecIPTTL → ⊥
    pub not_ip_mirror : own ≡ kind.IPMirror → ⊥
    pub not_filter : (rules : List Rule) → own ≡ kind.IPFilter rules → ⊥
    pub not_ip_classifier : (patterns : List Pattern) → own ≡ kind.IPClassifier patterns → ⊥
    pub not_route : (hops : List Hop) → own ≡ kind.Route hops → ⊥
    pub not_rewriter : (specs : List Spec) → own ≡ kind.IPRewriter specs → ⊥
    pub not_mapper : (templates : List Template) → own ≡ kind.RoundRobinIPMapper templates → ⊥

  pub one_exit_joined : (own : Kind) (copy : cutting.Tree) → HasOneExit own → IsPaint (term_at symbol of.Paint) → OnePerExit own → IsFirst copy → Joined old copy own
  unfolding class_tree exits_of
  one_exit_joined (kind.FromDevice device) copy h paint count same = copied_joined (kind.FromDevice device) copy 0 symbol refl (λ header along. refl) count same
  one_exit_joined (kind.ToDevice device) copy h paint count same = absurd (h.not_sent device refl)
  one_exit_joined kind.Discard copy h paint count same = absurd (h.not_discarded refl)
  one_exit_joined kind.Null copy h paint count same = copied_joined kind.Null copy 0 symbol refl (λ header along. refl) count same
  one_exit_joined kind.Counter copy h paint count same = copied_joined kind.Counter copy 0 symbol refl (λ header along. refl) count same
  one_exit_joined kind.Queue copy h paint count same = copied_joined kind.Queue copy 0 symbol refl (λ header along. refl) count same
  one_exit_joined (kind.Paint number) copy h paint count same = copied_joined (kind.Paint number) copy 0 (with_term symbol of.Paint (const number)) refl (λ header along. refl) count same
  one_exit_joined kind.PaintSwitch copy h paint count same =
      copied_joined kind.PaintSwitch copy (number_in (term_at symbol of.Paint)) symbol refl
      (λ header along. ap (λ (out : ℕ). leaves chain header along at kind.PaintSwitch symbol out) (painted (term_at symbol of.Paint) header paint)) count same
  one_exit_joined (kind.Classifier patterns) copy h paint count same = absurd (h.not_classifier patterns refl)
  one_exit_joined kind.EtherMirror copy h paint count same = absurd (h.not_ether_mirror refl)
  one_exit_joined kind.Strip copy h paint count same = absurd (h.not_strip refl)
  one_exit_joined kind.CheckIPHeader copy h paint count same = absurd (h.not_check refl)
  one_exit_joined (kind.EtherEncap ether_type src dst) copy h paint count same = copied_joined (kind.EtherEncap ether_type src dst) copy 0 (encapsulated symbol ether_type src dst) refl (λ header along. refl) count same
  one_exit_joined kind.DecIPTTL copy h paint count same = absurd (h.not_ttl refl)
  one_exit_joined (kind.SetIPDSCP point) copy h paint count same = copied_joined (kind.SetIPDSCP point) copy 0 (with_term symbol of.Dscp (const point)) refl (λ header along. refl) count same
  one_exit_joined (kind.StoreIPAddress address which) copy h paint count same =
      copied_joined (kind.StoreIPAddress address which) copy 0 (with_term symbol (address_of which) (const address)) refl (λ header along. refl) count same
  one_exit_joined kind.GetIPAddress copy h paint count same = copied_joined kind.GetIPAddress copy 0 (annotated symbol) refl (λ header along. refl) count same
  one_exit_joined kind.IPMirror copy h paint count same = absurd (h.not_ip_mirror refl)
  one_exit_joined (kind.IPFilter rules) copy h paint count same = absurd (h.not_filter rules refl)
  one_exit_joined (kind.IPClassifier patterns) copy h paint count same = absurd (h.not_ip_classifier patterns refl)
  one_exit_joined (kind.Route hops) copy h paint count same = absurd (h.not_route hops refl)
  one_exit_joined (kind.IPRewriter specs) copy h paint count same = absurd (h.not_rewriter specs refl)
  one_exit_joined (kind.RoundRobinIPMapper templates) copy h paint count same = absurd (h.not_mapper templates refl)

-- the same of an element and of a number of devices that are the same
pub joined_as : (devices entries : ℕ) (chain : ChainState) (at : ℕ × ℕ) (symbol : Symbol) (cuts : List Cut) (old new : List Tree) (made : cutting.Tree) (own as_is : Kind) → devices ≡ entries → own ≡ as_is
    → Joined devices chain at symbol cuts old new made as_is → Joined entries chain at symbol cuts old new made own
joined_as devices entries chain at symbol cuts old new made own as_is same is joined =
    subst (λ (n : ℕ). Joined n chain at symbol cuts old new made own) same (subst (λ (k : Kind). Joined devices chain at symbol cuts old new made k) (sym is) joined)
