-- Numbers that count a walk.
use Rattle.std.proofs.Common.{◌≡◌, ℕ, suc, ◌+◌, ◌-◌, ◌<◌, arith}

-- a walk of at most n steps that has made i of them has one more to make
pub one_left : (n i : ℕ) → i < n → n - i ≡ suc (n - (i + 1))
one_left n i within = omega arith
