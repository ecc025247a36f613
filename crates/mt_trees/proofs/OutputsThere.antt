-- An element that looks at many patterns has its tree where its outputs have theirs.
use Rattle.std.proofs.Common.{◌≡◌, refl, ℕ, suc, ◌+◌, ◌<◌, ◌≤◌, Bool, true, false, List, [], ◌∷◌, length, arith}
use Rattle.std.specs.Prelude.{Option, Some, None, ⊤, nat_lt, if◌then◌else◌, cond, option_map}
use Rattle.std.specs.List.{filter}
use Rattle.std.proofs.Math.Nat.{le-max_left, le-max_right}
use Rattle.mt_lists.specs.Options.{each}
use Rattle.mt_packet.specs.declared.cause.Cause.TheVariants as cause
use Rattle.mt_packet.specs.declared.field.Field.TheVariants as of
use Rattle.mt_pattern.specs.Span.{prefix_span}
use Rattle.mt_pattern.specs.declared.pattern.Pattern.{Pattern}
use Rattle.mt_kinds.specs.Outputs.{greatest, action_outs, filter_outs, route_outs}
use Rattle.mt_kinds.specs.declared.hop.Hop.{Hop}
use Rattle.mt_kinds.specs.declared.kind.Clause.{Clause}
use Rattle.mt_kinds.specs.declared.kind.Kind.{Kind}
use Rattle.mt_kinds.specs.declared.rule.FilterAction.{FilterAction}
use Rattle.mt_kinds.specs.declared.rule.FilterAction.TheVariants.{Deny, Out}
use Rattle.mt_kinds.specs.declared.rule.Rule.{Rule}
use Rattle.mt_elements.specs.ChainState.{ChainState}
use Rattle.mt_chain.specs.Run.{IsThere}
use Rattle.mt_terms.specs.Trees.{drop}
use Rattle.mt_trees.proofs.TestsThere.{there_then, there_mapped, tested_there, pattern_there, clauses_there}
use Rattle.mt_trees.specs.Elements.{Along, placed, by_length, leaves, with_gateway, classifier_tree, ip_classifier_tree, action_tree, filter_tree, route_tree}
use Rattle.mt_trees.specs.Symbols.{Symbol, term_at}

-- ---- lists

-- each element that passes is read
pub each_there : {A B : Type 0} (read : A → Option B) (p : A → Bool) (xs : List A) → ((x : A) → p x ≡ true → IsThere (read x)) → IsThere (each read (filter p xs))
unfolding each
each_there read p [] h = ([], refl)
each_there {A} {B} read p (x ∷ xs) h = either (p x) refl (each_there read p xs h)
  where
    either : (b : Bool) → p x ≡ b → IsThere (each read (filter p xs)) → IsThere (each read (cond b (x ∷ filter p xs) (filter p xs)))
    either true e rest =
        let first = h x e in
        there_then (read x) first.0 (λ y. option_map (λ more. y ∷ more) (each read (filter p xs))) first.1
        (there_mapped (λ more. first.0 ∷ more) (each read (filter p xs)) rest)
    either false e rest = rest

-- ---- routes

-- each entry names an output below a bound
abbrev pub AreWithin : ℕ → List Hop → Type 0
AreWithin n [] = ⊤
AreWithin n (hop ∷ hops) = (hop.out < n) × AreWithin n hops

within_placed : (n : ℕ) (hop : Hop) (hops : List Hop) → hop.out < n → AreWithin n hops → AreWithin n (placed hop hops)
within_placed n hop [] h k = (h, k)
within_placed n hop (other ∷ hops) h k = either (nat_lt hop.length other.length) (within_placed n hop hops h k.1)
  where
    either : (b : Bool) → AreWithin n (placed hop hops) → AreWithin n (if b then other ∷ placed hop hops else hop ∷ other ∷ hops)
    either true rest = (k.0, rest)
    either false rest = (h, k)

-- in whatever order they stand
within_by_length : (n : ℕ) (hops : List Hop) → AreWithin n hops → AreWithin n (by_length hops)
within_by_length n [] h = h
within_by_length n (hop ∷ hops) h = within_placed n hop (by_length hops) h.0 (within_by_length n hops h.1)

within_outs : (n : ℕ) (hops : List Hop) → route_outs hops ≤ n → AreWithin n hops
unfolding greatest
within_outs n [] h = tt
within_outs n (hop ∷ hops) h =
    let left = le-max_left (hop.out + 1) (route_outs hops) in
    let right = le-max_right (hop.out + 1) (route_outs hops) in
    (omega (arith, h, left), within_outs n hops (omega (arith, h, right)))

pub routes_within : (hops : List Hop) → AreWithin (route_outs hops) (by_length hops)
routes_within hops = within_by_length (route_outs hops) hops (within_outs (route_outs hops) hops (omega arith))

-- ---- trees

module _ (chain : ChainState) (header : List ℕ) (along : Along) (at : ℕ × ℕ) (own : Kind) where
  -- the packet leaves by each output below a bound
  abbrev pub Leaves : ℕ → Symbol → Type 0
  Leaves n symbol = (out : ℕ) → out < n → IsThere (leaves chain header along at own symbol out)

  pub classifier_there : (symbol : Symbol) (number : ℕ) (patterns : List (List Clause)) → Leaves (number + length patterns) symbol → IsThere (classifier_tree chain header along at own symbol number patterns)
  unfolding classifier_tree
  classifier_there symbol number [] h = (drop cause.Classified, refl)
  classifier_there symbol number (first ∷ rest) h =
      clauses_there header symbol first (leaves chain header along at own symbol number) (classifier_tree chain header along at own symbol (suc number) rest)
      (h number (omega arith)) (classifier_there symbol (suc number) rest (λ out below. h out (omega (arith, below))))

  pub ip_classifier_there : (symbol : Symbol) (number : ℕ) (patterns : List Pattern) → Leaves (number + length patterns) symbol → IsThere (ip_classifier_tree chain header along at own symbol number patterns)
  unfolding ip_classifier_tree
  ip_classifier_there symbol number [] h = (drop cause.Filtered, refl)
  ip_classifier_there symbol number (first ∷ rest) h =
      pattern_there header symbol first (leaves chain header along at own symbol number) (ip_classifier_tree chain header along at own symbol (suc number) rest)
      (h number (omega arith)) (ip_classifier_there symbol (suc number) rest (λ out below. h out (omega (arith, below))))

  action_there : (symbol : Symbol) (n : ℕ) (action : FilterAction) → action_outs action ≤ n → Leaves n symbol → IsThere (action_tree chain header along at own symbol action)
  action_there symbol n Deny within h = (drop cause.Filtered, refl)
  action_there symbol n (Out number) within h = h number (omega (arith, within))

  pub filter_there : (symbol : Symbol) (n : ℕ) (rules : List Rule) → filter_outs rules ≤ n → Leaves n symbol → IsThere (filter_tree chain header along at own symbol rules)
  unfolding filter_tree greatest
  filter_there symbol n [] within h = (drop cause.Filtered, refl)
  filter_there symbol n (rule ∷ rules) within h =
      let left = le-max_left (action_outs rule.action) (filter_outs rules) in
      let right = le-max_right (action_outs rule.action) (filter_outs rules) in
      pattern_there header symbol rule.pattern (action_tree chain header along at own symbol rule.action) (filter_tree chain header along at own symbol rules)
      (action_there symbol n rule.action (omega (arith, within, left)) h) (filter_there symbol n rules (omega (arith, within, right)) h)

  gateway_layer : (symbol : Symbol) (gateway : Option ℕ) → (with_gateway chain header along at symbol gateway).layer ≡ symbol.layer
  gateway_layer symbol None = refl
  gateway_layer symbol (Some gateway) = refl

  pub route_there : (symbol : Symbol) (n : ℕ) (hops : List Hop) → AreWithin n hops → ((next : Symbol) → next.layer ≡ symbol.layer → Leaves n next) → IsThere (route_tree chain header along at own symbol hops)
  unfolding route_tree
  route_there symbol n [] within h = (drop cause.NoRoute, refl)
  route_there symbol n (hop ∷ hops) within h =
      tested_there header (term_at symbol of.Annotation) (prefix_span hop.address hop.length)
      (leaves chain header along at own (with_gateway chain header along at symbol hop.gateway) hop.out) (route_tree chain header along at own symbol hops)
      (h (with_gateway chain header along at symbol hop.gateway) (gateway_layer symbol hop.gateway) hop.out within.0) (route_there symbol n hops within.1 h)
