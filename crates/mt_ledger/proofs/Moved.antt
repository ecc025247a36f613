-- Ports that move from one place to another: how often each stands, and that all ascend.
use Rattle.std.proofs.Common.{◌≡◌, ℕ, zero, suc, ◌+◌, ◌-◌, ◌<◌, ◌≤◌, List, [], ◌∷◌, ◌++◌, length, take, drop, refl, ap, sym, ◌∙◌, subst, arith, add-one, add-zero, length-drop, min}
use Rattle.std.proofs.lemmas.Bool.Decides.{nat_tests}
use Rattle.mt_ledger.specs.Ports.{times, NoneTwice, IsAscending, placed, placed_each, ports_from}
use Rattle.std.proofs.lemmas.List.{take-append-drop, take_min, drop_min}
use Rattle.mt_ledger.specs.Pools.{PoolPorts}
use Rattle.mt_ledger.proofs.Places.{placed_cases, ascending_lower}

abbrev with_only : PoolPorts → List ℕ → PoolPorts
with_only pool ports = record pool { ports = ports }

pub times-append : (port : ℕ) (xs ys : List ℕ) → times port (xs ++ ys) ≡ times port xs + times port ys
times-append port [] ys = omega arith
times-append port (x ∷ xs) ys = let rest = times-append port xs ys in omega (arith, rest)

pub times_placed : (port more : ℕ) (ports : List ℕ) → times port (placed more ports) ≡ times port (more ∷ ports)
times_placed port more [] = refl
times_placed port more (other ∷ ports) =
    placed_cases (λ found. times port found ≡ times port (more ∷ other ∷ ports)) more other ports
    (λ _. let rest = times_placed port more ports in omega (arith, rest)) (λ _. refl)

pub times_here : (port : ℕ) (ports : List ℕ) → times port (port ∷ ports) ≡ suc (times port ports)
times_here port ports = grind (arith, nat_tests)

-- a port that stands once with its fellows is not among them
pub absent_from : (port : ℕ) (ports : List ℕ) → NoneTwice (port ∷ ports) → times port ports ≡ 0
absent_from port ports h = let one = h port in let e = times_here port ports in omega (arith, one, e)

pub ascending_front : (least greatest : ℕ) (xs ys : List ℕ) → IsAscending least greatest (xs ++ ys) → IsAscending least greatest xs
ascending_front least greatest [] ys h = tt
ascending_front least greatest (x ∷ xs) ys h = (h.0, h.1, ascending_front (suc x) greatest xs ys h.2)

pub placed_each_push : (xs : List ℕ) (port : ℕ) (ports : List ℕ) → placed_each (xs ++ port ∷ []) ports ≡ placed port (placed_each xs ports)
placed_each_push [] port ports = refl
placed_each_push (x ∷ xs) port ports = placed_each_push xs port (placed x ports)

-- all ports of a share go to the stock, one after the other: what is left of the share, and what the stock has by then
pub record IsMoving (share stock left grown : PoolPorts) : Type 0 where
  pub grown_is : grown ≡ record stock { ports = grown.ports }
  pub left_is : left ≡ record share { ports = left.ports }
  pub ascending : IsAscending left.lo left.hi left.ports
  pub apart : (port : ℕ) → times port grown.ports + times port left.ports ≤ 1
  pub sum : placed_each left.ports grown.ports ≡ placed_each share.ports stock.ports

pub moving_from : (share stock : PoolPorts) → IsAscending share.lo share.hi share.ports → NoneTwice (stock.ports ++ share.ports) → IsMoving share stock share stock
moving_from share stock h apart = record {
  grown_is = refl;
  left_is = refl;
  ascending = h;
  apart = λ port. let one = apart port in let e = times-append port stock.ports share.ports in omega (arith, one, e);
  sum = refl;
}

pub moving_more : (share stock left grown less more : PoolPorts) (port : ℕ) → IsMoving share stock left grown
    → left.ports ≡ port ∷ less.ports → less ≡ record left { ports = less.ports } → more ≡ record grown { ports = placed port grown.ports } → IsMoving share stock less more
moving_more share stock left grown less more port m taken less_is more_is =
    let ports : more.ports ≡ placed port grown.ports = ap (λ p. p.ports) more_is in
    let up : IsAscending left.lo left.hi (port ∷ less.ports) = subst (λ ps. IsAscending left.lo left.hi ps) taken m.ascending in
    record {
      grown_is = more_is ∙ ap (λ (p : PoolPorts). with_only p (placed port grown.ports)) m.grown_is ∙ ap (λ ps. with_only stock ps) (sym ports);
      left_is = less_is ∙ ap (λ (p : PoolPorts). with_only p less.ports) m.left_is;
      ascending = rw less_is (ascending_lower left.lo (suc port) left.hi less.ports (let first = up.0 in omega arith) up.2);
      apart = λ q. let one = m.apart q in let e = times_placed q port grown.ports in let f = ap (times q) ports in let g = ap (times q) taken in omega (arith, one, e, f, g);
      sum = ap (placed_each less.ports) ports ∙ sym (ap (λ ps. placed_each ps grown.ports) taken) ∙ m.sum;
    }

-- the lowest ports of a stock go to an empty share, one after the other
pub record IsFilling (stock share left filled : PoolPorts) (count : ℕ) : Type 0 where
  pub left_is : left ≡ record stock { ports = drop count stock.ports }
  pub filled_is : filled ≡ record share { ports = take count stock.ports }

front_more : (xs : List ℕ) (i port : ℕ) (rest : List ℕ) → drop i xs ≡ port ∷ rest → (take (suc i) xs ≡ take i xs ++ port ∷ []) × (drop (suc i) xs ≡ rest)
front_more [] zero port rest e = absurd cc
front_more [] (suc i) port rest e = absurd cc
front_more (x ∷ xs) zero port rest e = ((let same : x ≡ port = cc in ap (λ y. y ∷ []) same), (let same : xs ≡ rest = cc in same))
front_more (x ∷ xs) (suc i) port rest e = let more = front_more xs i port rest e in (ap (λ ys. x ∷ ys) more.0, more.1)

pub filling_more : (stock share left filled less more : PoolPorts) (count port : ℕ) → IsFilling stock share left filled count
    → left.ports ≡ port ∷ less.ports → less ≡ record left { ports = less.ports } → more ≡ record filled { ports = filled.ports ++ port ∷ [] } → IsFilling stock share less more (count + 1)
filling_more stock share left filled less more count port f taken less_is more_is =
    let e = front_more stock.ports count port less.ports (sym (ap (λ p. p.ports) f.left_is) ∙ taken) in
    record {
      left_is = rw add-one (less_is ∙ ap (λ (p : PoolPorts). with_only p less.ports) f.left_is ∙ ap (λ ps. with_only stock ps) (sym e.1));
      filled_is = rw add-one (more_is ∙ ap (λ (p : PoolPorts). with_only p (p.ports ++ port ∷ [])) f.filled_is ∙ ap (λ ps. with_only share ps) (sym e.0));
    }

-- the next port fits behind those that the share has got
pub filling_ascends : (stock share left filled : PoolPorts) (count port : ℕ) (rest : List ℕ) → IsFilling stock share left filled count → IsAscending stock.lo stock.hi stock.ports
    → share.lo ≡ stock.lo → share.hi ≡ stock.hi → left.ports ≡ port ∷ rest → IsAscending filled.lo filled.hi (filled.ports ++ port ∷ [])
filling_ascends stock share left filled count port rest f h lo hi taken =
    let e = front_more stock.ports count port rest (sym (ap (λ p. p.ports) f.left_is) ∙ taken) in
    let front = ascending_front stock.lo stock.hi (take (suc count) stock.ports) (drop (suc count) stock.ports) (rw (take-append-drop (suc count) stock.ports) h) in
    rw (f.filled_is, lo, hi, ← e.0) front

-- no port is missing before the count is reached
pub filling_goes_on : (stock share left filled : PoolPorts) (count : ℕ) → IsFilling stock share left filled count → count < length stock.ports → left.ports ≡ [] → ⊥
filling_goes_on stock share left filled count f lt none =
    let e = ap length (sym (ap (λ p. p.ports) f.left_is) ∙ none) in
    let l = length-drop count stock.ports in
    omega (arith, e, l)

pub filling_ends : (stock share left filled : PoolPorts) (count : ℕ) → IsFilling stock share left filled count → count ≡ min 32 (length stock.ports)
    → (left ≡ record stock { ports = drop 32 stock.ports }) × (filled ≡ record share { ports = take 32 stock.ports })
filling_ends stock share left filled count f e = (
  f.left_is ∙ ap (λ ps. with_only stock ps) (ap (λ n. drop n stock.ports) e ∙ drop_min 32 stock.ports),
  f.filled_is ∙ ap (λ ps. with_only share ps) (ap (λ n. take n stock.ports) e ∙ take_min 32 stock.ports),
)

pub ports_from_push : (least count : ℕ) → ports_from least (suc count) ≡ ports_from least count ++ (least + count) ∷ []
unfolding ports_from
ports_from_push least zero = ap (λ n. n ∷ []) (sym (add-zero least))
ports_from_push least (suc count) = ap (λ rest. least ∷ rest) (ports_from_push (suc least) count ∙ ap (λ n. ports_from (suc least) count ++ n ∷ []) (omega arith))

pub ascending_from : (least greatest count : ℕ) → count ≤ greatest + 1 - least → IsAscending least greatest (ports_from least count)
unfolding ports_from
ascending_from least greatest zero within = tt
ascending_from least greatest (suc count) within = (omega arith, omega arith, ascending_from (suc least) greatest count (omega arith))

pub none_from : (least : ℕ) → ports_from least 0 ≡ []
unfolding ports_from
none_from least = refl
