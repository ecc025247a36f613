-- The calls leave each port as often as it stood in stock, shares and tokens.
use Rattle.std.proofs.Common.{◌≡◌, ◌≢◌, ℕ, zero, suc, ◌+◌, ◌-◌, ◌<◌, ◌≤◌, List, [], ◌∷◌, ◌++◌, Some, slice_get, length, take, drop, replicate, refl, ap, arith, inl, inr, ◌⊎◌}
use Rattle.std.specs.List.{remove}
use Rattle.std.proofs.lemmas.List.{take-append-drop}
use Rattle.std.proofs.lemmas.Bool.{cases_lt}
use Rattle.std.proofs.lemmas.Bool.Decides.{nat_tests}
use Rattle.mt_ledger.specs.Ports.{times, NoneTwice, ports_from, placed, placed_each}
use Rattle.mt_ledger.specs.Whole.{times_in, IsTogether, IsCall, AreCalls}
use Rattle.mt_ledger.specs.Whole.IsCall.{refills, recalls, takes, gives_back}
use Rattle.mt_ledger.specs.Whole.AreCalls.{none, more}
use Rattle.mt_ledger.specs.Ledger.{turn_after, turn_before}
use Rattle.mt_ledger.specs.Pools.{PoolPorts, ports_at, with_ports}
use Rattle.mt_ledger.proofs.Moved.{times-append, times_placed}

pub times_in-append : (port : ℕ) (before after : List (List ℕ)) → times_in port (before ++ after) ≡ times_in port before + times_in port after
times_in-append port [] after = omega arith
times_in-append port (share ∷ before) after = let rest = times_in-append port before after in omega (arith, rest)

pub times_placed_each : (port : ℕ) (share stock : List ℕ) → times port (placed_each share stock) ≡ times port share + times port stock
times_placed_each port [] stock = omega arith
times_placed_each port (first ∷ share) stock =
    let rest = times_placed_each port share (placed first stock) in
    let here = times_placed port first stock in
    omega (arith, rest, here)

pub times_removed : (port : ℕ) (share : List ℕ) (place taken : ℕ) → slice_get share place ≡ Some taken → times port share ≡ times port (taken ∷ remove share place)
times_removed port [] place taken e = absurd cc
times_removed port (first ∷ share) zero taken e = let same : first ≡ taken = cc in ap (λ x. times port (x ∷ share)) same
times_removed port (first ∷ share) (suc place) taken e = let rest = times_removed port share place taken e in omega (arith, rest)

pub after_call : (lo hi : ℕ) (a : List ℕ) (b : List (List ℕ)) (c d : List ℕ) (e : List (List ℕ)) (f : List ℕ) → IsCall a b c d e f → IsTogether lo hi a b c → IsTogether lo hi d e f
after_call lo hi _ _ _ _ _ _ (refills stock before after tokens) h port =
    let sum = h port in
    let parts = ap (times port) (take-append-drop 32 stock) in
    let whole = times-append port (take 32 stock) (drop 32 stock) in
    let old = times_in-append port before ([] ∷ after) in
    let new = times_in-append port before (take 32 stock ∷ after) in
    omega (arith, sum, parts, whole, old, new)
after_call lo hi _ _ _ _ _ _ (recalls stock share before after tokens) h port =
    let sum = h port in
    let all = times_placed_each port share stock in
    let old = times_in-append port before (share ∷ after) in
    let new = times_in-append port before ([] ∷ after) in
    omega (arith, sum, all, old, new)
after_call lo hi _ _ _ _ _ _ (takes stock share before after tokens place taken at) h port =
    let sum = h port in
    let out = times_removed port share place taken at in
    let old = times_in-append port before (share ∷ after) in
    let new = times_in-append port before (remove share place ∷ after) in
    omega (arith, sum, out, old, new)
after_call lo hi _ _ _ _ _ _ (gives_back stock share before after earlier later back) h port =
    let sum = h port in
    let into = times_placed port back share in
    let tokens = times-append port earlier (back ∷ later) in
    let left = times-append port earlier later in
    let old = times_in-append port before (share ∷ after) in
    let new = times_in-append port before (placed back share ∷ after) in
    omega (arith, sum, into, tokens, left, old, new)

pub after_calls : (lo hi : ℕ) (a : List ℕ) (b : List (List ℕ)) (c d : List ℕ) (e : List (List ℕ)) (f : List ℕ) → AreCalls a b c d e f → IsTogether lo hi a b c → IsTogether lo hi d e f
after_calls lo hi _ _ _ _ _ _ (none stock shares tokens) h = h
after_calls lo hi _ _ _ _ _ _ (more a b c d e f g i j earlier last) h = after_call lo hi d e f g i j last (after_calls lo hi a b c d e f earlier h)

none_in : (port servers : ℕ) → times_in port (replicate servers []) ≡ 0
none_in port zero = refl
none_in port (suc servers) = let rest = none_in port servers in omega (arith, rest)

pub at_first : (lo hi servers : ℕ) → IsTogether lo hi (ports_from lo (hi + 1 - lo)) (replicate servers []) []
at_first lo hi servers port = let empty = none_in port servers in omega (arith, empty)

cases_eq : (m n : ℕ) → (m ≡ n) ⊎ (m ≢ n)
cases_eq m n = elim (cases_lt m n) [
  | inl less ↦ inr (λ e. omega arith)
  | inr above ↦ elim (cases_lt n m) [ inl under ↦ inr (λ e. omega arith) | inr upto ↦ inl (omega arith) ]
]

below_all : (port least count : ℕ) → port < least → times port (ports_from least count) ≡ 0
unfolding ports_from
below_all port least zero lt = refl
below_all port least (suc count) lt = let rest = below_all port (suc least) count (omega arith) in grind (arith, nat_tests, rest)

pub at_most_once : (port least count : ℕ) → times port (ports_from least count) ≤ 1
unfolding ports_from
at_most_once port least zero = omega arith
at_most_once port least (suc count) = elim (cases_eq least port) [
  | inl same ↦ (let rest = below_all port (suc least) count (omega arith) in grind (arith, nat_tests, rest))
  | inr apart ↦ (let rest = at_most_once port (suc least) count in grind (arith, nat_tests, rest))
]

pub stock_apart : (lo hi : ℕ) (stock share : List ℕ) (before after : List (List ℕ)) (tokens : List ℕ) → IsTogether lo hi stock (before ++ share ∷ after) tokens → NoneTwice (stock ++ share)
stock_apart lo hi stock share before after tokens h port =
    let sum = h port in
    let one = at_most_once port lo (hi + 1 - lo) in
    let split = times_in-append port before (share ∷ after) in
    let both = times-append port stock share in
    omega (arith, sum, one, split, both)

pub token_apart : (lo hi : ℕ) (stock share : List ℕ) (before after : List (List ℕ)) (earlier later : List ℕ) (token : ℕ) → IsTogether lo hi stock (before ++ share ∷ after) (earlier ++ token ∷ later) → NoneTwice (token ∷ share)
token_apart lo hi stock share before after earlier later token h port =
    let sum = h port in
    let one = at_most_once port lo (hi + 1 - lo) in
    let split = times_in-append port before (share ∷ after) in
    let tokens = times-append port earlier (token ∷ later) in
    omega (arith, sum, one, split, tokens)

pub changed_here : (pools : List PoolPorts) (k : ℕ) (ports : List ℕ) → k < length pools → ports_at (with_ports pools k ports) k ≡ ports
changed_here [] k ports lt = absurd (omega arith)
changed_here (pool ∷ pools) zero ports lt = refl
changed_here (pool ∷ pools) (suc k) ports lt = changed_here pools k ports (omega arith)

pub others_stay : (pools : List PoolPorts) (k j : ℕ) (ports : List ℕ) → j ≢ k → ports_at (with_ports pools k ports) j ≡ ports_at pools j
others_stay [] k j ports apart = refl
others_stay (pool ∷ pools) zero zero ports apart = absurd (apart refl)
others_stay (pool ∷ pools) zero (suc j) ports apart = refl
others_stay (pool ∷ pools) (suc k) zero ports apart = refl
others_stay (pool ∷ pools) (suc k) (suc j) ports apart = others_stay pools k j ports (λ e. apart (ap suc e))

pub back_again : (patterns turn : ℕ) → turn < patterns → turn_before patterns (turn_after patterns turn) ≡ turn
back_again patterns turn lt = grind (arith, nat_tests)
