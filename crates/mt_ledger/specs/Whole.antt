-- One pool between two calls: the ports in the stock, in the share of each server, and those of the tokens
-- handed out. What the calls do to them, and that they are always together the pool.
use Rattle.std.specs.Prelude.{◌≡◌, ℕ, ◌+◌, ◌-◌, List, [], ◌∷◌, ◌++◌, Some, slice_get, take, drop}
use Rattle.std.specs.List.{remove}
use Rattle.mt_ledger.specs.Ports.{times, ports_from, placed, placed_each}

-- how often a port stands in all shares
abbrev pub times_in : ℕ → List (List ℕ) → ℕ
times_in port [] = 0
times_in port (share ∷ shares) = times port share + times_in port shares

-- stock, shares and tokens are together the ports from the least to the greatest, each once
abbrev pub IsTogether : ℕ → ℕ → List ℕ → List (List ℕ) → List ℕ → Type 0
IsTogether lo hi stock shares tokens = (port : ℕ) → times port stock + times_in port shares + times port tokens ≡ times port (ports_from lo (hi + 1 - lo))

-- what one call changes
pub data IsCall : List ℕ → List (List ℕ) → List ℕ → List ℕ → List (List ℕ) → List ℕ → Type 0 where
  refills : (stock : List ℕ) (before after : List (List ℕ)) (tokens : List ℕ)
      → IsCall stock (before ++ [] ∷ after) tokens (drop 32 stock) (before ++ take 32 stock ∷ after) tokens
  recalls : (stock share : List ℕ) (before after : List (List ℕ)) (tokens : List ℕ)
      → IsCall stock (before ++ share ∷ after) tokens (placed_each share stock) (before ++ [] ∷ after) tokens
  takes : (stock share : List ℕ) (before after : List (List ℕ)) (tokens : List ℕ) (place port : ℕ) → slice_get share place ≡ Some port
      → IsCall stock (before ++ share ∷ after) tokens stock (before ++ remove share place ∷ after) (port ∷ tokens)
  gives_back : (stock share : List ℕ) (before after : List (List ℕ)) (earlier later : List ℕ) (port : ℕ)
      → IsCall stock (before ++ share ∷ after) (earlier ++ port ∷ later) stock (before ++ placed port share ∷ after) (earlier ++ later)

-- what any list of calls changes
pub data AreCalls : List ℕ → List (List ℕ) → List ℕ → List ℕ → List (List ℕ) → List ℕ → Type 0 where
  none : (stock : List ℕ) (shares : List (List ℕ)) (tokens : List ℕ) → AreCalls stock shares tokens stock shares tokens
  more : (a : List ℕ) (b : List (List ℕ)) (c d : List ℕ) (e : List (List ℕ)) (f g : List ℕ) (h : List (List ℕ)) (i : List ℕ)
      → AreCalls a b c d e f → IsCall d e f g h i → AreCalls a b c g h i
