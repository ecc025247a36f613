-- A pool is searched for a free port from its least on.
use Rattle.std.proofs.Common.{◌≡◌, ◌∙◌, sym, ap, ℕ, suc, ◌+◌, ◌-◌, ◌<◌, Bool, false, List, arith}
use Rattle.std.specs.Prelude.{◌||◌}
use Rattle.mt_lists.proofs.Counts.{one_left}
use Rattle.mt_rewriter.specs.Mappings.{Mapping, is_free}
use Rattle.mt_rewriter.specs.Tries.{free_among}

-- the ports from one to the last, that one first
pub next_port : (mappings : List Mapping) (number last port : ℕ) (free : Bool) → port < suc last → free ≡ is_free mappings number port
    → free_among mappings number (suc last - port) port ≡ (free || free_among mappings number (suc last - (port + 1)) (port + 1))
unfolding free_among
next_port mappings number last port free below is =
    ap (λ n. free_among mappings number n port) (one_left (suc last) port below)
    ∙ ap (λ b. b || free_among mappings number (suc last - (port + 1)) (suc port)) (sym is)
    ∙ ap (λ p. free || free_among mappings number (suc last - (port + 1)) p) (one_more port)
  where
    one_more : (n : ℕ) → suc n ≡ n + 1
    one_more n = omega arith

pub no_port : (mappings : List Mapping) (number last port : ℕ) → last < port → free_among mappings number (suc last - port) port ≡ false
unfolding free_among
no_port mappings number last port past = ap (λ n. free_among mappings number n port) (none_left last port past)
  where
    none_left : (last port : ℕ) → last < port → suc last - port ≡ 0
    none_left last port past = omega (arith, past)
