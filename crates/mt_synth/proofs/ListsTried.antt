-- Patterns, rules and route entries that are tried from the last to the first.
use Rattle.std.proofs.Common.{◌≡◌, ◌∙◌, sym, ap, subst, refl, ℕ, zero, suc, ◌+◌, ◌<◌, ◌≤◌, List, [], ◌∷◌, length, map, drop, arith}
use Rattle.std.specs.Prelude.{Option, Some, None, slice_get, option_map}
use Rattle.std.specs.List.{range_with_len}
use Rattle.std.proofs.Math.Nat.{le-max_left, le-max_right}
use Rattle.std.proofs.lemmas.Option.{none-some, slice_get-map, slice_get_within}
use Rattle.mt_packet.specs.declared.cause.Cause.TheVariants as cause
use Rattle.mt_packet.specs.declared.field.Field.TheVariants as of
use Rattle.mt_pattern.specs.Span.{prefix_span}
use Rattle.mt_pattern.specs.declared.pattern.Pattern.{Pattern}
use Rattle.mt_kinds.specs.Outputs.{greatest, action_outs, filter_outs}
use Rattle.mt_kinds.specs.declared.hop.Hop.{Hop}
use Rattle.mt_kinds.specs.declared.kind.Clause.{Clause}
use Rattle.mt_kinds.specs.declared.kind.Kind.{Kind}
use Rattle.mt_kinds.specs.declared.rule.FilterAction.{FilterAction}
use Rattle.mt_kinds.specs.declared.rule.FilterAction.TheVariants.{Deny, Out}
use Rattle.mt_kinds.specs.declared.rule.Rule.{Rule}
use Rattle.mt_elements.specs.ChainState.{ChainState}
use Rattle.mt_cuts.specs.Canonical.{IsCanonical}
use Rattle.mt_cuts.specs.Tree as cutting
use Rattle.mt_cuts.specs.View.{tree_of}
use Rattle.mt_cuts.specs.declared.cut.Cut.{Cut}
use Rattle.mt_terms.specs.declared.tree.Tree.{Tree}
use Rattle.mt_trees.specs.Elements.{Along, dropped, leaves, by_length, with_gateway, classifier_tree, ip_classifier_tree, action_tree, filter_tree, route_tree}
use Rattle.mt_trees.specs.Symbols.{Symbol, term_at}
use Rattle.mt_trees.specs.Tests.{tested, pattern_tried, clauses_tried}
use Rattle.mt_synth.specs.Cuts.{TreeAt, Means, Grows, AreBehind, AreCanonical}
use Rattle.mt_synth.specs.Exits.{counted, route_exits}
use Rattle.mt_synth.specs.Exits.{with_gateway as gateway_set}
use Rattle.mt_synth.proofs.Meant.{means_later}

-- ---- lists

-- what stands from a place on
pub from_place : {A : Type 0} (xs : List A) (i : ℕ) (x : A) → slice_get xs i ≡ Some x → drop i xs ≡ x ∷ drop (suc i) xs
from_place [] i x h = absurd (none-some x h)
from_place (y ∷ ys) zero x h = ap (λ z. z ∷ ys) (unsome y x h)
  where
    unsome : {A : Type 0} (a b : A) → Some a ≡ Some b → a ≡ b
    unsome a b h = cc
from_place (y ∷ ys) (suc i) x h = from_place ys i x h

pub past_end : {A : Type 0} (xs : List A) → drop (length xs) xs ≡ []
past_end [] = refl
past_end (x ∷ xs) = past_end xs

get_mapped : {A B : Type 0} (f : A → B) (xs : List A) (i : ℕ) (x : A) → slice_get xs i ≡ Some x → slice_get (map f xs) i ≡ Some (f x)
get_mapped f xs i x h = slice_get-map f xs i ∙ ap (option_map f) h

get_range : (n a i : ℕ) → i < n → slice_get (range_with_len a n) i ≡ Some (a + i)
get_range zero a i below = absurd (omega (arith, below))
get_range (suc n) a zero below = let same : a ≡ a + 0 = omega arith in ap Some same
get_range (suc n) a (suc i) below = let same : a + 1 + i ≡ a + suc i = omega arith in get_range n (a + 1) i (omega (arith, below)) ∙ ap Some same

pub get_counted : (n : ℕ) (symbol : Symbol) (i : ℕ) → i < n → slice_get (counted n symbol) i ≡ Some (i, symbol)
get_counted n symbol i below =
    let same : 0 + i ≡ i = omega arith in
    get_mapped (λ out. (out, symbol)) (range_with_len 0 n) i (0 + i) (get_range n 0 i below) ∙ ap (λ out. Some (out, symbol)) same

-- the output that a rule names is below the number of outputs
pub action_below : (rules : List Rule) (i : ℕ) (rule : Rule) → slice_get rules i ≡ Some rule → action_outs rule.action ≤ filter_outs rules
unfolding greatest
action_below [] i rule h = absurd (none-some rule h)
action_below (first ∷ rules) zero rule h =
    let left = le-max_left (action_outs first.action) (filter_outs rules) in
    let same : action_outs first.action ≡ action_outs rule.action = ap (λ (r : Rule). action_outs r.action) (unsome first rule h) in
    omega (arith, left, same)
  where
    unsome : (a b : Rule) → Some a ≡ Some b → a ≡ b
    unsome a b h = cc
action_below (first ∷ rules) (suc i) rule h =
    let right = le-max_right (action_outs first.action) (filter_outs rules) in
    let rest = action_below rules i rule h in
    omega (arith, right, rest)

module _ (devices : ℕ) (symbol : Symbol) (cuts : List Cut) (old : List Tree) where
  -- for every chain, element and way on, where the trees of cuts stand for the trees behind these exits
  abbrev pub Stands : List (ℕ × Symbol) → (ChainState → (List ℕ → Along) → ℕ × ℕ → Kind → TreeAt) → List Tree → cutting.Tree → Type 0
  Stands exits tree_at new made =
      (chain : ChainState) (along : List ℕ → Along) (at : ℕ × ℕ) (own : Kind) → AreBehind devices old chain along at own exits cuts → Means devices new made (tree_at chain along at own)

  -- ---- a Classifier

  abbrev pub ClassifierStands : List (List Clause) → ℕ → List Tree → cutting.Tree → Type 0
  ClassifierStands all n new made = Stands (counted (length all) symbol) (λ chain along at own header. classifier_tree chain header (along header) at own symbol n (drop n all)) new made

  pub classifier_begins : (all : List (List Clause)) (new : List Tree) (made : cutting.Tree) → Means devices new made (λ header. dropped cause.Classified) → ClassifierStands all (length all) new made
  unfolding classifier_tree
  classifier_begins all new made means chain along at own behind =
      subst (λ (rest : List (List Clause)). Means devices new made (λ header. classifier_tree chain header (along header) at own symbol (length all) rest)) (sym (past_end all)) means

  pub classifier_more : (all : List (List Clause)) (n : ℕ) (first : List Clause) (cut : Cut) (mid new : List Tree) (made next : cutting.Tree) → slice_get all n ≡ Some first → slice_get cuts n ≡ Some cut → Grows old mid
      → ((inside_at outside_at : TreeAt) → Means devices mid (tree_of cut) inside_at → Means devices mid made outside_at
      → Means devices new next (λ header. clauses_tried header symbol first (inside_at header) (outside_at header)))
      → ClassifierStands all (suc n) mid made → ClassifierStands all n new next
  unfolding classifier_tree
  classifier_more all n first cut mid new made next is is_cut grows tries stands chain along at own behind =
      let here : TreeAt = λ header. leaves chain header (along header) at own symbol n in
      subst (λ (rest : List (List Clause)). Means devices new next (λ header. classifier_tree chain header (along header) at own symbol n rest)) (sym (from_place all n first is))
      (tries here (λ header. classifier_tree chain header (along header) at own symbol (suc n) (drop (suc n) all))
      (means_later devices old mid (tree_of cut) here grows (behind n (n, symbol) cut (get_counted (length all) symbol n (slice_get_within all n first is)) is_cut))
      (stands chain along at own behind))

  -- ---- an IPClassifier

  abbrev pub IpClassifierStands : List Pattern → ℕ → List Tree → cutting.Tree → Type 0
  IpClassifierStands all n new made = Stands (counted (length all) symbol) (λ chain along at own header. ip_classifier_tree chain header (along header) at own symbol n (drop n all)) new made

  pub ip_classifier_begins : (all : List Pattern) (new : List Tree) (made : cutting.Tree) → Means devices new made (λ header. dropped cause.Filtered) → IpClassifierStands all (length all) new made
  unfolding ip_classifier_tree
  ip_classifier_begins all new made means chain along at own behind =
      subst (λ (rest : List Pattern). Means devices new made (λ header. ip_classifier_tree chain header (along header) at own symbol (length all) rest)) (sym (past_end all)) means

  pub ip_classifier_more : (all : List Pattern) (n : ℕ) (first : Pattern) (cut : Cut) (mid new : List Tree) (made next : cutting.Tree) → slice_get all n ≡ Some first → slice_get cuts n ≡ Some cut → Grows old mid
      → ((inside_at outside_at : TreeAt) → Means devices mid (tree_of cut) inside_at → Means devices mid made outside_at
      → Means devices new next (λ header. pattern_tried header symbol first (inside_at header) (outside_at header)))
      → IpClassifierStands all (suc n) mid made → IpClassifierStands all n new next
  unfolding ip_classifier_tree
  ip_classifier_more all n first cut mid new made next is is_cut grows tries stands chain along at own behind =
      let here : TreeAt = λ header. leaves chain header (along header) at own symbol n in
      subst (λ (rest : List Pattern). Means devices new next (λ header. ip_classifier_tree chain header (along header) at own symbol n rest)) (sym (from_place all n first is))
      (tries here (λ header. ip_classifier_tree chain header (along header) at own symbol (suc n) (drop (suc n) all))
      (means_later devices old mid (tree_of cut) here grows (behind n (n, symbol) cut (get_counted (length all) symbol n (slice_get_within all n first is)) is_cut))
      (stands chain along at own behind))

  -- ---- an IPFilter

  abbrev pub FilterStands : List Rule → ℕ → List Tree → cutting.Tree → Type 0
  FilterStands all n new made = Stands (counted (filter_outs all) symbol) (λ chain along at own header. filter_tree chain header (along header) at own symbol (drop n all)) new made

  pub filter_begins : (all : List Rule) (new : List Tree) (made : cutting.Tree) → Means devices new made (λ header. dropped cause.Filtered) → FilterStands all (length all) new made
  unfolding filter_tree
  filter_begins all new made means chain along at own behind =
      subst (λ (rest : List Rule). Means devices new made (λ header. filter_tree chain header (along header) at own symbol rest)) (sym (past_end all)) means

  -- the tree of cuts of what a rule says
  abbrev pub ActionStands : List Rule → FilterAction → List Tree → Cut → Type 0
  ActionStands all action mid inside = Stands (counted (filter_outs all) symbol) (λ chain along at own header. action_tree chain header (along header) at own symbol action) mid (tree_of inside)

  sent_stands : (all : List Rule) (out : ℕ) (mid : List Tree) (cut : Cut) → out + 1 ≤ filter_outs all → slice_get cuts out ≡ Some cut → Grows old mid → ActionStands all (Out out) mid cut
  sent_stands all out mid cut most is_cut grows chain along at own behind =
      means_later devices old mid (tree_of cut) (λ header. leaves chain header (along header) at own symbol out) grows
      (behind out (out, symbol) cut (get_counted (filter_outs all) symbol out (omega (arith, most))) is_cut)

  pub inside_stands : (all : List Rule) (action : FilterAction) (mid : List Tree) (denied inside : Cut) → action_outs action ≤ filter_outs all
      → (action ≡ Deny → inside ≡ denied) → ((out : ℕ) → action ≡ Out out → slice_get cuts out ≡ Some inside)
      → Means devices mid (tree_of denied) (λ header. dropped cause.Filtered) → Grows old mid → ActionStands all action mid inside
  inside_stands all Deny mid denied inside most denies sends means grows chain along at own behind =
      subst (λ (cut : Cut). Means devices mid (tree_of cut) (λ header. dropped cause.Filtered)) (sym (denies refl)) means
  inside_stands all (Out out) mid denied inside most denies sends means grows chain along at own behind = sent_stands all out mid inside most (sends out refl) grows chain along at own behind

  pub inside_canonical : (action : FilterAction) (denied inside : Cut) → (action ≡ Deny → inside ≡ denied) → ((out : ℕ) → action ≡ Out out → slice_get cuts out ≡ Some inside)
      → IsCanonical devices (tree_of denied) → AreCanonical devices cuts → IsCanonical devices (tree_of inside)
  inside_canonical Deny denied inside denies sends canonical all = subst (λ (cut : Cut). IsCanonical devices (tree_of cut)) (sym (denies refl)) canonical
  inside_canonical (Out out) denied inside denies sends canonical all = all out inside (sends out refl)

  pub filter_more : (all : List Rule) (n : ℕ) (rule : Rule) (inside : Cut) (mid new : List Tree) (made next : cutting.Tree) → slice_get all n ≡ Some rule → ActionStands all rule.action mid inside
      → ((inside_at outside_at : TreeAt) → Means devices mid (tree_of inside) inside_at → Means devices mid made outside_at
      → Means devices new next (λ header. pattern_tried header symbol rule.pattern (inside_at header) (outside_at header)))
      → FilterStands all (suc n) mid made → FilterStands all n new next
  unfolding filter_tree
  filter_more all n rule inside mid new made next is acts tries stands chain along at own behind =
      subst (λ (rest : List Rule). Means devices new next (λ header. filter_tree chain header (along header) at own symbol rest)) (sym (from_place all n rule is))
      (tries (λ header. action_tree chain header (along header) at own symbol rule.action) (λ header. filter_tree chain header (along header) at own symbol (drop (suc n) all))
      (acts chain along at own behind) (stands chain along at own behind))

  -- ---- a route table

  abbrev pub RouteStands : List Hop → List Hop → ℕ → List Tree → cutting.Tree → Type 0
  RouteStands hops sorted n new made = Stands (route_exits hops symbol) (λ chain along at own header. route_tree chain header (along header) at own symbol (drop n sorted)) new made

  pub route_begins : (hops sorted : List Hop) (new : List Tree) (made : cutting.Tree) → Means devices new made (λ header. dropped cause.NoRoute) → RouteStands hops sorted (length sorted) new made
  unfolding route_tree
  route_begins hops sorted new made means chain along at own behind =
      subst (λ (rest : List Hop). Means devices new made (λ header. route_tree chain header (along header) at own symbol rest)) (sym (past_end sorted)) means

  same_gateway : (chain : ChainState) (header : List ℕ) (along : Along) (at : ℕ × ℕ) (gateway : Option ℕ) → gateway_set symbol gateway ≡ with_gateway chain header along at symbol gateway
  same_gateway chain header along at None = refl
  same_gateway chain header along at (Some gateway) = refl

  -- the tree behind the exit of an entry
  hop_stands : (hops : List Hop) (n : ℕ) (hop : Hop) (cut : Cut) (mid : List Tree) → slice_get (by_length hops) n ≡ Some hop → slice_get cuts n ≡ Some cut → Grows old mid
      → (chain : ChainState) (along : List ℕ → Along) (at : ℕ × ℕ) (own : Kind) → AreBehind devices old chain along at own (route_exits hops symbol) cuts
      → Means devices mid (tree_of cut) (λ header. leaves chain header (along header) at own (with_gateway chain header (along header) at symbol hop.gateway) hop.out)
  hop_stands hops n hop cut mid is is_cut grows chain along at own behind header inside tree found =
      means_later devices old mid (tree_of cut) (λ header. leaves chain header (along header) at own (gateway_set symbol hop.gateway) hop.out) grows
      (behind n (hop.out, gateway_set symbol hop.gateway) cut (get_mapped (λ (hop : Hop). (hop.out, gateway_set symbol hop.gateway)) (by_length hops) n hop is) is_cut)
      header inside tree (ap (λ (next : Symbol). leaves chain header (along header) at own next hop.out) (same_gateway chain header (along header) at hop.gateway) ∙ found)

  pub route_more : (hops sorted : List Hop) (n : ℕ) (hop : Hop) (cut : Cut) (mid new : List Tree) (made next : cutting.Tree) → sorted ≡ by_length hops → slice_get sorted n ≡ Some hop → slice_get cuts n ≡ Some cut → Grows old mid
      → ((inside_at outside_at : TreeAt) → Means devices mid (tree_of cut) inside_at → Means devices mid made outside_at
      → Means devices new next (λ header. tested header (term_at symbol of.Annotation) (prefix_span hop.address hop.length) (inside_at header) (outside_at header)))
      → RouteStands hops sorted (suc n) mid made → RouteStands hops sorted n new next
  unfolding route_tree
  route_more hops sorted n hop cut mid new made next are is is_cut grows tries stands chain along at own behind =
      subst (λ (rest : List Hop). Means devices new next (λ header. route_tree chain header (along header) at own symbol rest)) (sym (from_place sorted n hop is))
      (tries (λ header. leaves chain header (along header) at own (with_gateway chain header (along header) at symbol hop.gateway) hop.out) (λ header. route_tree chain header (along header) at own symbol (drop (suc n) sorted))
      (hop_stands hops n hop cut mid (sym (ap (λ (xs : List Hop). slice_get xs n) are) ∙ is) is_cut grows chain along at own behind) (stands chain along at own behind))
