use Rattle.std.proofs.Common.{◌≡◌, ℕ, ◌<◌, ◌≤◌, false, get_or, length}
use Rattle.std.specs.Prelude.{◌||◌}
use Rattle.mt_kinds.proofs.outs.Outs.join.Given as goal

abbrev pub invariant-loop-out : goal.invariant-loop-out
invariant-loop-out l = record {
  len : length l.self-inside.table.items ≡ 512;
  before : (other : ℕ) → other < l.out → get_or l.self-inside.table.items other false ≡ (get_or l.initial.self-inside.table.items other false || get_or l.more-inside.table.items other false);
  behind : (other : ℕ) → l.out ≤ other → get_or l.self-inside.table.items other false ≡ get_or l.initial.self-inside.table.items other false;
}
