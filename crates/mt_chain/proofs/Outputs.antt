-- The outputs that filters and route tables name.
use Rattle.std.proofs.Common.{◌≡◌, ap, ℕ, zero, suc, ◌+◌, ◌<◌, Bool, true, false, List, [], ◌∷◌, arith}
use Rattle.std.specs.Prelude.{Some, if◌then◌else◌, max, slice_get}
use Rattle.std.proofs.Math.Nat.{le-max_left, le-max_right}
use Rattle.std.proofs.lemmas.Option.{none-some, same_Some}
use Rattle.mt_kinds.specs.declared.hop.Hop.{Hop}
use Rattle.mt_kinds.specs.declared.rule.FilterAction.TheVariants.{Out}
use Rattle.mt_kinds.specs.declared.rule.Rule.{Rule}
use Rattle.mt_kinds.specs.Outputs.{greatest, action_outs, filter_outs, route_outs}
use Rattle.mt_chain.specs.Filter.{holds_on, action_on}

-- a filter sends by an output that a rule names
pub action_within : (header : List ℕ) (rules : List Rule) (n : ℕ) → action_on header rules ≡ Out n → n < filter_outs rules
unfolding action_on greatest
action_within header [] n is = absurd cc
action_within header (rule ∷ rules) n is = by_test (holds_on header rule.pattern) (action_within header rules n) is
  where
    by_test : (b : Bool) → (action_on header rules ≡ Out n → n < filter_outs rules) → (if b then rule.action else action_on header rules) ≡ Out n → n < max (action_outs rule.action) (filter_outs rules)
    by_test true rest e =
        let here : action_outs rule.action ≡ n + 1 = ap action_outs e in
        let most = le-max_left (action_outs rule.action) (filter_outs rules) in
        omega (arith, here, most)
    by_test false rest e =
        let later = rest e in
        let most = le-max_right (action_outs rule.action) (filter_outs rules) in
        omega (arith, later, most)

-- each entry of a route table names one of its outputs
pub hop_within : (hops : List Hop) (i : ℕ) (hop : Hop) → slice_get hops i ≡ Some hop → hop.out < route_outs hops
unfolding greatest
hop_within [] i hop is = absurd (none-some hop is)
hop_within (first ∷ hops) zero hop is =
    let here : first.out ≡ hop.out = ap (λ (h : Hop). h.out) (same_Some first hop is) in
    let most = le-max_left (first.out + 1) (route_outs hops) in
    omega (arith, here, most)
hop_within (first ∷ hops) (suc i) hop is =
    let later = hop_within hops i hop is in
    let most = le-max_right (first.out + 1) (route_outs hops) in
    omega (arith, later, most)
