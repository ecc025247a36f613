-- Ports that move between stock, share and mappings: they stay together each pool.
use Rattle.std.proofs.Common.{◌≡◌, ◌≢◌, ◌∙◌, ◌⊎◌, inl, inr, sym, ap, subst, refl, ℕ, zero, suc, ◌+◌, ◌-◌, ◌<◌, ◌≤◌, Bool, true, false, List, [], ◌∷◌, ◌++◌, Option, Some, None, length, map, take, drop, slice_get, Contains, arith}
use Rattle.std.specs.Prelude.{◌==◌, nat_lt, if◌then◌else◌}
use Rattle.std.specs.List.{remove}
use Rattle.std.proofs.lemmas.Bool.Decides.{nat_tests}
use Rattle.std.proofs.lemmas.List.{take-append-drop}
use Rattle.std.proofs.lemmas.Option.{slice_get_within}
use Rattle.mt_kinds.specs.declared.rewriter.Pool.{Pool}
use Rattle.mt_ledger.specs.Ledger.{LedgerState}
use Rattle.mt_ledger.specs.Pools.{PoolPorts, ports_at, with_ports, ranges, IsPortOf}
use Rattle.mt_ledger.specs.Ports.{HeldPort, NoneTwice, times, placed, ports_from}
use Rattle.mt_ledger.proofs.Moved.{times-append, times_placed}
use Rattle.mt_ledger.proofs.Standing.{same_ranges, with_stocks}
use Rattle.mt_ledger.proofs.Together.{at_most_once, changed_here, others_stay, times_removed}
use Rattle.mt_flow.specs.declared.mapping.Mapping.{Mapping}
use Rattle.mt_pipeline.specs.Standing.{AreGone, AreWhole, held_ports, range_of, times_held, with_held}
use Rattle.mt_pipeline.specs.Trying.{HasMoved, IsGivable, IsGivenBack}

-- ---- numbers

pub one_or_other : (m n : ℕ) → (m ≡ n) ⊎ (m ≢ n)
one_or_other m n = either (m == n) refl
  where
    either : (b : Bool) → (m == n) ≡ b → (m ≡ n) ⊎ (m ≢ n)
    either true e = inl (grind (arith, nat_tests))
    either false e = inr (grind (arith, nat_tests))

pub same_number : (n : ℕ) → (n == n) ≡ true
same_number n = grind (arith, nat_tests)

pub other_number : (m n : ℕ) → m ≢ n → (m == n) ≡ false
other_number m n apart = grind (arith, nat_tests)

-- ---- the ports of a pool

module _ (port : ℕ) where
  pub none_before : (least count : ℕ) → port < least → times port (ports_from least count) ≡ 0
  unfolding ports_from
  none_before least zero below = refl
  none_before least (suc count) below = let rest = none_before (suc least) count (omega arith) in let first : (least == port) ≡ false = grind (arith, nat_tests) in rw first (omega (arith, rest))

  pub none_behind : (least count : ℕ) → least + count ≤ port → times port (ports_from least count) ≡ 0
  unfolding ports_from
  none_behind least zero above = refl
  none_behind least (suc count) above = let rest = none_behind (suc least) count (omega (arith, above)) in let first : (least == port) ≡ false = grind (arith, nat_tests) in rw first (omega (arith, rest))

  pub one_within : (least count : ℕ) → least ≤ port → port < least + count → 1 ≤ times port (ports_from least count)
  unfolding ports_from
  one_within least zero from to = absurd (omega (arith, from, to))
  one_within least (suc count) from to = either (one_or_other least port) (one_within (suc least) count)
    where
      either : (least ≡ port) ⊎ (least ≢ port) → (suc least ≤ port → port < suc least + count → 1 ≤ times port (ports_from (suc least) count))
          → 1 ≤ (if least == port then 1 else 0) + times port (ports_from (suc least) count)
      either (inl same) rest = let first : (least == port) ≡ true = grind (arith, nat_tests) in rw first (omega arith)
      either (inr apart) rest = let more = rest (omega (arith, from)) (omega (arith, to)) in omega (arith, more)

  none_of_none : (least : ℕ) → times port (ports_from least 0) ≡ 0
  unfolding ports_from
  none_of_none least = refl

  -- a port that stands among them is within
  pub within_from : (least greatest : ℕ) → 1 ≤ times port (ports_from least (greatest + 1 - least)) → (least ≤ port) × (port ≤ greatest)
  within_from least greatest some = (low (nat_lt port least) refl, high (nat_lt greatest port) refl (nat_lt greatest least) refl)
    where
      low : (b : Bool) → nat_lt port least ≡ b → least ≤ port
      low true e = absurd (let below : port < least = grind (arith, nat_tests) in let none = none_before least (greatest + 1 - least) below in omega (arith, none, some))
      low false e = grind (arith, nat_tests)

      high : (b : Bool) → nat_lt greatest port ≡ b → (c : Bool) → nat_lt greatest least ≡ c → port ≤ greatest
      high false e c f = grind (arith, nat_tests)
      high true e true f =
          let less : greatest < least = grind (arith, nat_tests) in
          let empty : greatest + 1 - least ≡ 0 = omega (arith, less) in
          let none = none_of_none least in
          let wrong = subst (λ n. 1 ≤ times port (ports_from least n)) empty some in
          absurd (omega (arith, wrong, none))
      high true e false f =
          let beyond : greatest < port = grind (arith, nat_tests) in
          let upto : least ≤ greatest = grind (arith, nat_tests) in
          let none = none_behind least (greatest + 1 - least) (omega (arith, upto, beyond)) in
          absurd (omega (arith, none, some))

-- ---- ports that are held

-- how often an optional port is this one
abbrev once : ℕ → ℕ → Option HeldPort → ℕ
once pool port held = times_held pool port (with_held held [])

pub times_with : (pool port : ℕ) (held : Option HeldPort) (ports : List HeldPort) → times_held pool port (with_held held ports) ≡ once pool port held + times_held pool port ports
times_with pool port None ports = omega arith
times_with pool port (Some held) ports = omega arith

-- the port of a mapping that is opened is held
pub held_behind : (pool port : ℕ) (mappings : List Mapping) (mapping : Mapping)
    → times_held pool port (held_ports (mappings ++ mapping ∷ [])) ≡ times_held pool port (with_held mapping.port (held_ports mappings))
held_behind pool port [] mapping = refl
held_behind pool port (first ∷ mappings) mapping =
    let rest = held_behind pool port mappings mapping in
    let all = times_with pool port first.port (held_ports (mappings ++ mapping ∷ [])) in
    let front = times_with pool port first.port (held_ports mappings) in
    let here = times_with pool port mapping.port (held_ports (first ∷ mappings)) in
    let there = times_with pool port mapping.port (held_ports mappings) in
    omega (arith, rest, all, front, here, there)

pub held_here : (held : HeldPort) (port : ℕ) (ports : List HeldPort) → times_held held.pool port (held ∷ ports) ≡ times port (held.port ∷ []) + times_held held.pool port ports
held_here held port ports = let same = same_number held.pool in rw same (omega arith)

pub held_there : (held : HeldPort) (pool port : ℕ) (ports : List HeldPort) → held.pool ≢ pool → times_held pool port (held ∷ ports) ≡ times_held pool port ports
held_there held pool port ports apart = let other = other_number held.pool pool apart in rw other (omega arith)

-- ---- all that is of a pool

pub length_ranges : (pools : List PoolPorts) → length (ranges pools) ≡ length pools
length_ranges [] = refl
length_ranges (pool ∷ pools) = ap suc (length_ranges pools)

pub as_long : (xs ys : List PoolPorts) → ranges xs ≡ ranges ys → length xs ≡ length ys
as_long xs ys same = sym (length_ranges xs) ∙ ap length same ∙ length_ranges ys

empty_list : (ports : List ℕ) → length ports ≤ 0 → ports ≡ []
empty_list [] few = refl
empty_list (port ∷ ports) few = absurd (omega (arith, few))

-- a share that counts no port is empty
pub share_empty : (shares : List PoolPorts) (pool count : ℕ) → count ≡ length (ports_at shares pool) → count ≤ 0 → ports_at shares pool ≡ []
share_empty shares pool count is few = empty_list (ports_at shares pool) (omega (arith, is, few))

pub length_of : (pools : List Pool) → length (map range_of pools) ≡ length pools
length_of [] = refl
length_of (pool ∷ pools) = ap suc (length_of pools)

pub as_many : (ports : List PoolPorts) (pools : List Pool) → ranges ports ≡ map range_of pools → length ports ≡ length pools
as_many ports pools same = sym (length_ranges ports) ∙ ap length same ∙ length_of pools

-- the sums stay, so the ports are together the pools
pub still_whole : (pools : List Pool) (ledger ledger' : LedgerState) (shares shares' : List PoolPorts) (held held' : List HeldPort)
    → ranges ledger'.stocks ≡ ranges ledger.stocks → ranges shares' ≡ ranges shares
    → ((number port : ℕ) → number < length pools
    → times port (ports_at ledger'.stocks number) + times port (ports_at shares' number) + times_held number port held' ≡ times port (ports_at ledger.stocks number) + times port (ports_at shares number) + times_held number port held)
    → AreWhole pools ledger shares held → AreWhole pools ledger' shares' held'
still_whole pools ledger ledger' shares shares' held held' stocks same sums whole = record {
  stocks_are = stocks ∙ whole.stocks_are;
  shares_are = same ∙ whole.shares_are;
  together = λ number pool at port. sums number port (slice_get_within pools number pool at) ∙ whole.together number pool at port;
}

-- a mapping is opened that holds a port which was taken
pub whole_opened : (pools : List Pool) (ledger : LedgerState) (shares : List PoolPorts) (mappings : List Mapping) (mapping : Mapping)
    → AreWhole pools ledger shares (with_held mapping.port (held_ports mappings)) → AreWhole pools ledger shares (held_ports (mappings ++ mapping ∷ []))
whole_opened pools ledger shares mappings mapping whole =
    still_whole pools ledger ledger shares shares (with_held mapping.port (held_ports mappings)) (held_ports (mappings ++ mapping ∷ [])) refl refl
    (λ number port below. let same = held_behind number port mappings mapping in omega (arith, same)) whole

-- a mapping is closed, and its port is held by no mapping
pub whole_closed : (pools : List Pool) (ledger : LedgerState) (shares : List PoolPorts) (mappings : List Mapping) (mapping : Mapping)
    → AreWhole pools ledger shares (held_ports (mappings ++ mapping ∷ [])) → AreWhole pools ledger shares (with_held mapping.port (held_ports mappings))
whole_closed pools ledger shares mappings mapping whole =
    still_whole pools ledger ledger shares shares (held_ports (mappings ++ mapping ∷ [])) (with_held mapping.port (held_ports mappings)) refl refl
    (λ number port below. let same = held_behind number port mappings mapping in omega (arith, same)) whole

-- ---- a share is filled

module _ (ledger ledger' : LedgerState) (shares shares' : List PoolPorts) (pool : ℕ) (share_there : pool < length shares) (stock_there : pool < length ledger.stocks) (none : ports_at shares pool ≡ [])
    (share_is : shares' ≡ with_ports shares pool (take 32 (ports_at ledger.stocks pool)))
    (stock_is : ledger' ≡ with_stocks ledger (with_ports ledger.stocks pool (drop 32 (ports_at ledger.stocks pool)))) where
  stocks_are : ledger'.stocks ≡ with_ports ledger.stocks pool (drop 32 (ports_at ledger.stocks pool))
  stocks_are = ap (λ l. l.stocks) stock_is

  stock_here : ports_at ledger'.stocks pool ≡ drop 32 (ports_at ledger.stocks pool)
  stock_here = ap (λ p. ports_at p pool) stocks_are ∙ changed_here ledger.stocks pool (drop 32 (ports_at ledger.stocks pool)) stock_there

  share_here : ports_at shares' pool ≡ take 32 (ports_at ledger.stocks pool)
  share_here = ap (λ p. ports_at p pool) share_is ∙ changed_here shares pool (take 32 (ports_at ledger.stocks pool)) share_there

  stock_other : (number : ℕ) → number ≢ pool → ports_at ledger'.stocks number ≡ ports_at ledger.stocks number
  stock_other number apart = ap (λ p. ports_at p number) stocks_are ∙ others_stay ledger.stocks pool number (drop 32 (ports_at ledger.stocks pool)) apart

  share_other : (number : ℕ) → number ≢ pool → ports_at shares' number ≡ ports_at shares number
  share_other number apart = ap (λ p. ports_at p number) share_is ∙ others_stay shares pool number (take 32 (ports_at ledger.stocks pool)) apart

  parts : (port : ℕ) → times port (ports_at ledger'.stocks pool) + times port (ports_at shares' pool) ≡ times port (ports_at ledger.stocks pool) + times port (ports_at shares pool)
  parts port =
      let a = ap (times port) stock_here in
      let b = ap (times port) share_here in
      let empty = ap (times port) none in
      let whole = times-append port (take 32 (ports_at ledger.stocks pool)) (drop 32 (ports_at ledger.stocks pool)) in
      let both = ap (times port) (take-append-drop 32 (ports_at ledger.stocks pool)) in
      omega (arith, a, b, empty, whole, both)

  sums : (held : List HeldPort) (number port : ℕ) → (number ≡ pool) ⊎ (number ≢ pool)
      → times port (ports_at ledger'.stocks number) + times port (ports_at shares' number) + times_held number port held ≡ times port (ports_at ledger.stocks number) + times port (ports_at shares number) + times_held number port held
  sums held number port (inl same) = rw same (let p = parts port in omega (arith, p))
  sums held number port (inr apart) = let a = ap (times port) (stock_other number apart) in let b = ap (times port) (share_other number apart) in omega (arith, a, b)

  still_gone : (gone : List ℕ) → AreGone gone ledger → (number : ℕ) → Contains gone number → (number ≡ pool) ⊎ (number ≢ pool) → ports_at ledger'.stocks number ≡ []
  still_gone gone h number among (inl same) = ap (ports_at ledger'.stocks) same ∙ stock_here ∙ ap (drop 32) (ap (ports_at ledger.stocks) (sym same) ∙ h number among)
  still_gone gone h number among (inr apart) = stock_other number apart ∙ h number among

  pub refilled : HasMoved None ledger ledger' shares shares'
  refilled = record {
    whole = λ pools held whole. still_whole pools ledger ledger' shares shares' held held
        (ap ranges stocks_are ∙ same_ranges ledger.stocks pool (drop 32 (ports_at ledger.stocks pool))) (ap ranges share_is ∙ same_ranges shares pool (take 32 (ports_at ledger.stocks pool)))
        (λ number port below. sums held number port (one_or_other number pool)) whole;
    gone = λ gone h number among. still_gone gone h number among (one_or_other number pool);
    turns = ap (λ l. l.turns) stock_is;
    patterns = ap (λ l. l.patterns) stock_is;
  }

  empty_then : (ports : List ℕ) → take 32 ports ≡ [] → drop 32 ports ≡ []
  empty_then [] e = refl
  empty_then (port ∷ ports) e = absurd cc

  pub filled_up : ports_at shares' pool ≡ [] → ports_at ledger'.stocks pool ≡ []
  filled_up empty = stock_here ∙ empty_then (ports_at ledger.stocks pool) (sym share_here ∙ empty)

pub not_moved : (ledger : LedgerState) (shares : List PoolPorts) → HasMoved None ledger ledger shares shares
not_moved ledger shares = record { whole = λ pools held whole. whole; gone = λ gone h. h; turns = refl; patterns = refl }

-- ---- a port is taken

module _ (shares shares' : List PoolPorts) (held : HeldPort) (place : ℕ) (there : held.pool < length shares) (stood : slice_get (ports_at shares held.pool) place ≡ Some held.port)
    (share_is : shares' ≡ with_ports shares held.pool (remove (ports_at shares held.pool) place)) where
  taken_here : (port : ℕ) → times port (ports_at shares held.pool) ≡ times port (held.port ∷ []) + times port (ports_at shares' held.pool)
  taken_here port =
      let left = ap (times port) (ap (λ p. ports_at p held.pool) share_is ∙ changed_here shares held.pool (remove (ports_at shares held.pool) place) there) in
      let out = times_removed port (ports_at shares held.pool) place held.port stood in
      omega (arith, left, out)

  taken_pool : (ledger : LedgerState) (ports : List HeldPort) (port : ℕ)
      → times port (ports_at ledger.stocks held.pool) + times port (ports_at shares' held.pool) + times_held held.pool port (held ∷ ports) ≡ times port (ports_at ledger.stocks held.pool) + times port (ports_at shares held.pool) + times_held held.pool port ports
  taken_pool ledger ports port = let out = taken_here port in let here = held_here held port ports in omega (arith, out, here)

  taken_sums : (ledger : LedgerState) (ports : List HeldPort) (number port : ℕ) → (number ≡ held.pool) ⊎ (number ≢ held.pool)
      → times port (ports_at ledger.stocks number) + times port (ports_at shares' number) + times_held number port (held ∷ ports) ≡ times port (ports_at ledger.stocks number) + times port (ports_at shares number) + times_held number port ports
  taken_sums ledger ports number port (inl same) =
      subst (λ n. times port (ports_at ledger.stocks n) + times port (ports_at shares' n) + times_held n port (held ∷ ports) ≡ times port (ports_at ledger.stocks n) + times port (ports_at shares n) + times_held n port ports)
      (sym same) (taken_pool ledger ports port)
  taken_sums ledger ports number port (inr other) =
      let a = ap (times port) (ap (λ p. ports_at p number) share_is ∙ others_stay shares held.pool number (remove (ports_at shares held.pool) place) other) in
      let b = held_there held number port ports (λ e. other (sym e)) in
      omega (arith, a, b)

  pub taken : (ledger : LedgerState) → HasMoved (Some held) ledger ledger shares shares'
  taken ledger = record {
    whole = λ pools ports whole. still_whole pools ledger ledger shares shares' ports (held ∷ ports) refl (ap ranges share_is ∙ same_ranges shares held.pool (remove (ports_at shares held.pool) place))
        (λ number port below. taken_sums ledger ports number port (one_or_other number held.pool)) whole;
    gone = λ gone h. h;
    turns = refl;
    patterns = refl;
  }

-- the port of a token was taken, where the token is known by its parts
pub taken_token : (ledger : LedgerState) (shares shares' : List PoolPorts) (held : HeldPort) (pool place : ℕ) → held.pool ≡ pool → pool < length shares → slice_get (ports_at shares pool) place ≡ Some held.port
    → shares' ≡ with_ports shares pool (remove (ports_at shares pool) place) → HasMoved (Some held) ledger ledger shares shares'
taken_token ledger shares shares' held pool place of there stood share_is =
    taken shares shares' held place (subst (λ n. n < length shares) (sym of) there) (subst (λ n. slice_get (ports_at shares n) place ≡ Some held.port) (sym of) stood)
    (subst (λ n. shares' ≡ with_ports shares n (remove (ports_at shares n) place)) (sym of) share_is) ledger

-- two moves, one behind the other
pub moved_then : (token : Option HeldPort) (a b c : LedgerState) (x y z : List PoolPorts) → HasMoved None a b x y → HasMoved token b c y z → HasMoved token a c x z
moved_then token a b c x y z first second = record {
  whole = λ pools held whole. second.whole pools held (first.whole pools held whole);
  gone = λ gone h. second.gone gone (first.gone gone h);
  turns = second.turns ∙ first.turns;
  patterns = second.patterns ∙ first.patterns;
}

-- ---- a port is given back

module _ (pools : List Pool) (ledger : LedgerState) (shares : List PoolPorts) (held : HeldPort) (ports : List HeldPort) (whole : AreWhole pools ledger shares (held ∷ ports)) where
  -- a port that is held is one of its pool, and stands nowhere else
  pub held_within : (pool : Pool) → slice_get pools held.pool ≡ Some pool → (pool.lo ≤ held.port) × (held.port ≤ pool.hi)
  held_within pool at =
      let sum = whole.together held.pool pool at held.port in
      let here = held_here held held.port ports in
      let one = same_number held.port in
      let self : times held.port (held.port ∷ []) ≡ 1 = rw one refl in
      within_from held.port pool.lo pool.hi (omega (arith, sum, here, self))

  pub held_alone : (pool : Pool) → slice_get pools held.pool ≡ Some pool → times_held held.pool held.port ports ≡ 0
  held_alone pool at =
      let sum = whole.together held.pool pool at held.port in
      let here = held_here held held.port ports in
      let one = same_number held.port in
      let self : times held.port (held.port ∷ []) ≡ 1 = rw one refl in
      let most = at_most_once held.port pool.lo (pool.hi + 1 - pool.lo) in
      omega (arith, sum, here, self, most)

  apart : (pool : Pool) → slice_get pools held.pool ≡ Some pool → NoneTwice (held.port ∷ ports_at shares held.pool)
  apart pool at port =
      let sum = whole.together held.pool pool at port in
      let here = held_here held port ports in
      let most = at_most_once port pool.lo (pool.hi + 1 - pool.lo) in
      omega (arith, sum, here, most)

port_of : (shares : List PoolPorts) (pools : List Pool) (number port : ℕ) (pool : Pool) → ranges shares ≡ map range_of pools → slice_get pools number ≡ Some pool → pool.lo ≤ port → port ≤ pool.hi → IsPortOf shares number port
port_of shares [] number port pool same at low high = absurd cc
port_of [] (first ∷ pools) number port pool same at low high = absurd cc
port_of (share ∷ shares) (first ∷ pools) zero port pool same at low high =
    let pair : PoolPorts → ℕ × ℕ = λ p. (p.lo, p.hi) in
    let front : pair share ≡ range_of first = cc in
    let is : first ≡ pool = cc in
    let lo_is : share.lo ≡ pool.lo = ap (λ (p : ℕ × ℕ). p.0) front ∙ ap (λ (p : Pool). p.lo) is in
    let hi_is : share.hi ≡ pool.hi = ap (λ (p : ℕ × ℕ). p.1) front ∙ ap (λ (p : Pool). p.hi) is in
    (omega (arith, lo_is, low), omega (arith, hi_is, high))
port_of (share ∷ shares) (first ∷ pools) (suc number) port pool same at low high = let rest : ranges shares ≡ map range_of pools = cc in port_of shares pools number port pool rest at low high

stands : (pools : List Pool) (number : ℕ) → number < length pools → (pool : Pool) × (slice_get pools number ≡ Some pool)
stands [] number below = absurd (omega (arith, below))
stands (pool ∷ pools) zero below = (pool, refl)
stands (pool ∷ pools) (suc number) below = stands pools number (omega (arith, below))

pub pool_there : (pools : List Pool) (number : ℕ) → number < length pools → (pool : Pool) × (slice_get pools number ≡ Some pool)
pool_there = stands

-- it may be given back
pub givable : (pools : List Pool) (ledger : LedgerState) (shares : List PoolPorts) (token : Option HeldPort) (ports : List HeldPort) → AreWhole pools ledger shares (with_held token ports) → IsGivable pools shares token
givable pools ledger shares None ports whole = tt
givable pools ledger shares (Some held) ports whole = λ below.
    let pool = stands pools held.pool below in
    let within = held_within pools ledger shares held ports whole pool.0 pool.1 in
    (port_of shares pools held.pool held.port pool.0 whole.shares_are pool.1 within.0 within.1, apart pools ledger shares held ports whole pool.0 pool.1)

module _ (pools : List Pool) (shares shares' : List PoolPorts) (held : HeldPort) (share_is : shares' ≡ with_ports shares held.pool (placed held.port (ports_at shares held.pool))) where
  given_pool : (ledger : LedgerState) (ports : List HeldPort) (port : ℕ) → held.pool < length shares
      → times port (ports_at ledger.stocks held.pool) + times port (ports_at shares' held.pool) + times_held held.pool port ports ≡ times port (ports_at ledger.stocks held.pool) + times port (ports_at shares held.pool) + times_held held.pool port (held ∷ ports)
  given_pool ledger ports port there =
      let left = ap (times port) (ap (λ p. ports_at p held.pool) share_is ∙ changed_here shares held.pool (placed held.port (ports_at shares held.pool)) there) in
      let into = times_placed port held.port (ports_at shares held.pool) in
      let here = held_here held port ports in
      omega (arith, left, into, here)

  given_sums : (ledger : LedgerState) (ports : List HeldPort) (number port : ℕ) → number < length shares → (number ≡ held.pool) ⊎ (number ≢ held.pool)
      → times port (ports_at ledger.stocks number) + times port (ports_at shares' number) + times_held number port ports ≡ times port (ports_at ledger.stocks number) + times port (ports_at shares number) + times_held number port (held ∷ ports)
  given_sums ledger ports number port below (inl same) =
      subst (λ n. times port (ports_at ledger.stocks n) + times port (ports_at shares' n) + times_held n port ports ≡ times port (ports_at ledger.stocks n) + times port (ports_at shares n) + times_held n port (held ∷ ports))
      (sym same) (given_pool ledger ports port (subst (λ n. n < length shares) same below))
  given_sums ledger ports number port below (inr other) =
      let a = ap (times port) (ap (λ p. ports_at p number) share_is ∙ others_stay shares held.pool number (placed held.port (ports_at shares held.pool)) other) in
      let b = held_there held number port ports (λ e. other (sym e)) in
      omega (arith, a, b)

  pub given_back : IsGivenBack pools shares shares' (Some held)
  given_back ledger ports whole =
      still_whole pools ledger ledger shares shares' (held ∷ ports) ports refl (ap ranges share_is ∙ same_ranges shares held.pool (placed held.port (ports_at shares held.pool)))
      (λ number port below. given_sums ledger ports number port (let many = as_many shares pools whole.shares_are in omega (arith, below, many)) (one_or_other number held.pool)) whole

-- a port of a pool that is not there counts for none
pub not_given : (pools : List Pool) (shares : List PoolPorts) (held : HeldPort) → length pools ≤ held.pool → IsGivenBack pools shares shares (Some held)
not_given pools shares held past ledger ports whole =
    still_whole pools ledger ledger shares shares (held ∷ ports) ports refl refl
    (λ number port below. let b = held_there held number port ports (λ e. omega (arith, e, past, below)) in omega (arith, b)) whole
