-- Below the span and above it, what is outside.
use Rattle.std.proofs.Common.{ℕ, sym, ap, subst, ◌≤◌, ◌+◌}
use Rattle.mt_cuts.proofs.Loops.{if_ok}
use Rattle.mt_cuts.proofs.Picked.{picked}
use Rattle.mt_cuts.proofs.spans.split.Goals as goal

pub returns-clause-value : goal.returns-clause-value
returns-clause-value c =
    if_ok c.merge_three-2.result _ _
    (λ tree is header inside. picked c.args.span.lo c.args.span.hi c.last_of-last.result (header c.args.field) _ _ _ _ _ _ _ (subst (λ (n : ℕ). header c.args.field ≤ n) (sym c.last_of-last.ensures.last) (inside.to_last c.args.field)) (ap (λ (n : ℕ). n + 1) c.min.ensures)
    (c.in_ok-upto.ensures.value header inside) (c.in_ok-before.ensures.value header inside) (c.in_ok-from.ensures.value header) (is header))
    c.merge_three-2.ensures.value
