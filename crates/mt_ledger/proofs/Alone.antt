-- One pool and one share: what recalling, refilling, taking and giving back leave of each port.
use Rattle.std.proofs.Common.{◌≡◌, ℕ, ◌+◌, ◌<◌, ◌≤◌, List, [], ◌∷◌, Some, slice_get, length, take, drop, ap, sym, ◌∙◌, subst, arith}
use Rattle.std.proofs.lemmas.List.{take-append-drop}
use Rattle.std.specs.List.{remove}
use Rattle.mt_ledger.specs.Ledger.{LedgerState}
use Rattle.mt_ledger.specs.Pools.{PoolPorts, ports_at, with_ports, ranges, IsPortOf}
use Rattle.mt_ledger.specs.Ports.{times, NoneTwice, placed, placed_each}
use Rattle.mt_ledger.proofs.Moved.{times-append, times_placed}
use Rattle.mt_ledger.proofs.Standing.{with_stocks}
use Rattle.mt_ledger.proofs.Together.{times_removed, times_placed_each, changed_here}

pub is_there : (pools : List PoolPorts) (lo hi : ℕ) → ranges pools ≡ (lo, hi) ∷ [] → 0 < length pools
is_there [] lo hi e = absurd cc
is_there (pool ∷ pools) lo hi e = omega arith

pub is_port : (pools : List PoolPorts) (lo hi number port : ℕ) → ranges pools ≡ (lo, hi) ∷ [] → number ≡ 0 → lo ≤ port → port ≤ hi → IsPortOf pools number port
is_port [] lo hi number port e at low high = absurd cc
is_port (pool ∷ pools) lo hi number port e at low high =
    let pair : PoolPorts → ℕ × ℕ = λ pool. (pool.lo, pool.hi) in
    let first : pair pool ≡ (lo, hi) = cc in
    let lo_is : pool.lo ≡ lo = ap (λ (p : ℕ × ℕ). p.0) first in
    let hi_is : pool.hi ≡ hi = ap (λ (p : ℕ × ℕ). p.1) first in
    subst (λ n. IsPortOf (pool ∷ pools) n port) (sym at) (omega (arith, lo_is, low), omega (arith, hi_is, high))

pub after_take : (old new : List PoolPorts) (place port : ℕ) → 0 < length old → new ≡ with_ports old 0 (remove (ports_at old 0) place) → slice_get (ports_at old 0) place ≡ Some port
    → (other : ℕ) → times other (ports_at old 0) ≡ times other (port ∷ ports_at new 0)
after_take old new place port there e got other =
    let left : ports_at new 0 ≡ remove (ports_at old 0) place = ap (λ pools. ports_at pools 0) e ∙ changed_here old 0 (remove (ports_at old 0) place) there in
    times_removed other (ports_at old 0) place port got ∙ ap (λ ports. times other (port ∷ ports)) (sym left)

pub after_give_back : (old new : List PoolPorts) (number port : ℕ) → 0 < length old → number ≡ 0 → new ≡ with_ports old number (placed port (ports_at old number))
    → (other : ℕ) → times other (ports_at new 0) ≡ times other (port ∷ ports_at old 0)
after_give_back old new number port there at e other =
    let here : new ≡ with_ports old 0 (placed port (ports_at old 0)) = subst (λ n. new ≡ with_ports old n (placed port (ports_at old n))) at e in
    let left : ports_at new 0 ≡ placed port (ports_at old 0) = ap (λ pools. ports_at pools 0) here ∙ changed_here old 0 (placed port (ports_at old 0)) there in
    ap (times other) left ∙ times_placed other port (ports_at old 0)

pub emptied : (old new : List PoolPorts) → 0 < length old → new ≡ with_ports old 0 [] → ports_at new 0 ≡ []
emptied old new there e = ap (λ pools. ports_at pools 0) e ∙ changed_here old 0 [] there

pub after_recall : (old new : LedgerState) (share : List ℕ) → 0 < length old.stocks → new ≡ with_stocks old (with_ports old.stocks 0 (placed_each share (ports_at old.stocks 0)))
    → (port : ℕ) → times port (ports_at new.stocks 0) ≡ times port share + times port (ports_at old.stocks 0)
after_recall old new share there e port =
    let all = placed_each share (ports_at old.stocks 0) in
    let left : ports_at new.stocks 0 ≡ all = ap (λ (l : LedgerState). ports_at l.stocks 0) e ∙ changed_here old.stocks 0 all there in
    ap (times port) left ∙ times_placed_each port share (ports_at old.stocks 0)

pub after_refill : (old new : LedgerState) (share filled : List PoolPorts) → 0 < length old.stocks → 0 < length share
    → new ≡ with_stocks old (with_ports old.stocks 0 (drop 32 (ports_at old.stocks 0))) → filled ≡ with_ports share 0 (take 32 (ports_at old.stocks 0))
    → (port : ℕ) → times port (ports_at filled 0) + times port (ports_at new.stocks 0) ≡ times port (ports_at old.stocks 0)
after_refill old new share filled there near e f port =
    let stock = ports_at old.stocks 0 in
    let left : ports_at new.stocks 0 ≡ drop 32 stock = ap (λ (l : LedgerState). ports_at l.stocks 0) e ∙ changed_here old.stocks 0 (drop 32 stock) there in
    let got : ports_at filled 0 ≡ take 32 stock = ap (λ pools. ports_at pools 0) f ∙ changed_here share 0 (take 32 stock) near in
    let a = ap (times port) left in
    let b = ap (times port) got in
    let whole = times-append port (take 32 stock) (drop 32 stock) in
    let parts = ap (times port) (take-append-drop 32 stock) in
    omega (arith, a, b, whole, parts)

-- after an empty share was recalled and filled again, share and stock have each port once at most
pub split_once : (l0 l1 l2 : LedgerState) (s0 s1 s2 : List PoolPorts) (lo hi : ℕ) → ranges l0.stocks ≡ (lo, hi) ∷ [] → ranges s0 ≡ (lo, hi) ∷ [] → ports_at s0 0 ≡ [] → NoneTwice (ports_at l0.stocks 0)
    → ranges l1.stocks ≡ ranges l0.stocks → ranges s1 ≡ ranges s0 → l1 ≡ with_stocks l0 (with_ports l0.stocks 0 (placed_each (ports_at s0 0) (ports_at l0.stocks 0)))
    → l2 ≡ with_stocks l1 (with_ports l1.stocks 0 (drop 32 (ports_at l1.stocks 0))) → s2 ≡ with_ports s1 0 (take 32 (ports_at l1.stocks 0))
    → (port : ℕ) → times port (ports_at s2 0) + times port (ports_at l2.stocks 0) ≤ 1
split_once l0 l1 l2 s0 s1 s2 lo hi l0_is s0_is none once l1_is s1_is recalled refilled filled port =
    let all = after_refill l1 l2 s1 s2 (is_there l1.stocks lo hi (l1_is ∙ l0_is)) (is_there s1 lo hi (s1_is ∙ s0_is)) refilled filled port in
    let first = after_recall l0 l1 (ports_at s0 0) (is_there l0.stocks lo hi l0_is) recalled port in
    let empty = ap (times port) none in
    let one = once port in
    omega (arith, all, first, empty, one)
