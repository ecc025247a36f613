-- The pool of a number among all pools.
use Rattle.std.proofs.Common.{◌≡◌, ℕ, zero, suc, ◌<◌, ◌≤◌, List, [], ◌∷◌, length, get_or, refl, ap, subst, sym, ◌∙◌, arith}
use Rattle.std.proofs.Math.ListN.{set}
use Rattle.mt_ledger.specs.Ledger.{LedgerState}
use Rattle.mt_ledger.specs.Pools.{PoolPorts, ports_at, with_ports, IsPortOf, ranges}

abbrev pub with_stocks : LedgerState → List PoolPorts → LedgerState
with_stocks ledger stocks = record ledger { stocks = stocks }

pub ports_at_is : (pools : List PoolPorts) (k : ℕ) (pool : PoolPorts) → k < length pools → pool ≡ get_or pools k pool → ports_at pools k ≡ pool.ports
ports_at_is [] k pool lt e = absurd (omega arith)
ports_at_is (first ∷ pools) zero pool lt e = ap (λ p. p.ports) (sym e)
ports_at_is (first ∷ pools) (suc k) pool lt e = ports_at_is pools k pool (omega arith) e

pub set_is : (pools : List PoolPorts) (k : ℕ) (pool : PoolPorts) (ports : List ℕ) → k < length pools → pool ≡ get_or pools k pool
    → set pools k (record pool { ports = ports }) ≡ with_ports pools k ports
set_is [] k pool ports lt e = absurd (omega arith)
set_is (first ∷ pools) zero pool ports lt e = ap (λ (p : PoolPorts). with_ports (p ∷ pools) zero ports) e
set_is (first ∷ pools) (suc k) pool ports lt e = ap (λ rest. first ∷ rest) (set_is pools k pool ports (omega arith) e)

pub port_is_there : (pools : List PoolPorts) (k port : ℕ) → IsPortOf pools k port → k < length pools
port_is_there [] k port h = absurd h
port_is_there (first ∷ pools) zero port h = omega arith
port_is_there (first ∷ pools) (suc k) port h = let lt = port_is_there pools k port h in omega (arith, lt)

pub port_within : (pools : List PoolPorts) (k port : ℕ) (pool : PoolPorts) → IsPortOf pools k port → pool ≡ get_or pools k pool → (pool.lo ≤ port) × (port ≤ pool.hi)
port_within [] k port pool h e = absurd h
port_within (first ∷ pools) zero port pool h e = subst (λ p. (p.lo ≤ port) × (port ≤ p.hi)) (sym e) h
port_within (first ∷ pools) (suc k) port pool h e = port_within pools k port pool h e

pub same_ranges : (pools : List PoolPorts) (k : ℕ) (ports : List ℕ) → ranges (with_ports pools k ports) ≡ ranges pools
same_ranges [] k ports = refl
same_ranges (first ∷ pools) zero ports = refl
same_ranges (first ∷ pools) (suc k) ports = ap (λ rest. (first.lo, first.hi) ∷ rest) (same_ranges pools k ports)

-- pools with the same ranges have the same range at each number
pub range_of_same : (xs ys : List PoolPorts) (k : ℕ) (x y : PoolPorts) → ranges xs ≡ ranges ys → k < length xs → k < length ys → x ≡ get_or xs k x → y ≡ get_or ys k y → (x.lo ≡ y.lo) × (x.hi ≡ y.hi)
range_of_same [] ys k x y e lt more here there = absurd (omega arith)
range_of_same (a ∷ xs) [] k x y e lt more here there = absurd (omega arith)
range_of_same (a ∷ xs) (b ∷ ys) zero x y e lt more here there =
    let pair : PoolPorts → ℕ × ℕ = λ pool. (pool.lo, pool.hi) in
    let first : pair a ≡ pair b = cc in
    (ap (λ p. p.lo) here ∙ ap (λ (p : ℕ × ℕ). p.0) first ∙ ap (λ p. p.lo) (sym there), ap (λ p. p.hi) here ∙ ap (λ (p : ℕ × ℕ). p.1) first ∙ ap (λ p. p.hi) (sym there))
range_of_same (a ∷ xs) (b ∷ ys) (suc k) x y e lt more here there =
    let rest : ranges xs ≡ ranges ys = cc in
    range_of_same xs ys k x y rest (omega arith) (omega arith) here there

-- one pool is changed in its place
pub changed : (pools now : List PoolPorts) (j k : ℕ) (pool new : PoolPorts) (f : List ℕ → List ℕ) → pools ≡ now → j ≡ k → k < length now → pool ≡ get_or pools j pool
    → new ≡ record pool { ports = f pool.ports } → set pools j new ≡ with_ports now k (f (ports_at now k))
changed pools now j k pool new f same at lt e made =
    let here : pool ≡ get_or now k pool = subst (λ ps. pool ≡ get_or ps k pool) same (subst (λ i. pool ≡ get_or pools i pool) at e) in
    rw (same, at, made, ports_at_is now k pool lt here) (set_is now k pool (f pool.ports) lt here)

-- the stock and the share of one pool
pub record IsPair (stocks shares : List PoolPorts) (k : ℕ) (stock share : PoolPorts) : Type 0 where
  pub stock_is : ports_at stocks k ≡ stock.ports
  pub share_is : ports_at shares k ≡ share.ports
  pub lo : share.lo ≡ stock.lo
  pub hi : share.hi ≡ stock.hi
  pub there : k < length shares

same_length : (xs ys : List PoolPorts) → ranges xs ≡ ranges ys → length xs ≡ length ys
same_length [] [] e = refl
same_length [] (y ∷ ys) e = absurd cc
same_length (x ∷ xs) [] e = absurd cc
same_length (x ∷ xs) (y ∷ ys) e = let rest : ranges xs ≡ ranges ys = cc in ap suc (same_length xs ys rest)

pub pair : (stocks shares : List PoolPorts) (now : LedgerState) (there : List PoolPorts) (k : ℕ) (stock share : PoolPorts) → stocks ≡ now.stocks → shares ≡ there
    → ranges there ≡ ranges now.stocks → k < length now.stocks → stock ≡ get_or stocks k stock → share ≡ get_or shares k share → IsPair now.stocks there k stock share
pair stocks shares now there k stock share same also e lt here near =
    let stands : stock ≡ get_or now.stocks k stock = subst (λ ps. stock ≡ get_or ps k stock) same here in
    let beside : share ≡ get_or there k share = subst (λ ps. share ≡ get_or ps k share) also near in
    let length_is = same_length there now.stocks e in
    let less : k < length there = omega (arith, lt, length_is) in
    let range = range_of_same there now.stocks k share stock e less lt beside stands in
    record { stock_is = ports_at_is now.stocks k stock lt stands; share_is = ports_at_is there k share less beside; lo = range.0; hi = range.1; there = less }

-- the ledger with one stock changed
pub stock_changed : (inside now : LedgerState) (k : ℕ) (stock new : PoolPorts) (f : List ℕ → List ℕ) → inside ≡ now → k < length now.stocks → stock ≡ get_or inside.stocks k stock
    → new ≡ record stock { ports = f stock.ports } → with_stocks inside (set inside.stocks k new) ≡ with_stocks now (with_ports now.stocks k (f (ports_at now.stocks k)))
stock_changed inside now k stock new f same lt here made =
    ap (λ (l : LedgerState). with_stocks l (set inside.stocks k new)) same
    ∙ ap (λ stocks. with_stocks now stocks) (changed inside.stocks now.stocks k k stock new f (ap (λ l. l.stocks) same) refl lt here made)
