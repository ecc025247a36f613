-- The templates of a mapper, one after the other.
use Rattle.std.proofs.Common.{◌≡◌, ◌∙◌, sym, ap, ℕ, ◌+◌, ◌-◌, ◌<◌, ◌≤◌, Bool, List, length, arith}
use Rattle.std.specs.Prelude.{Option, Some, None, Result, slice_get}
use Rattle.mt_lists.proofs.Counts.{one_left}
use Rattle.mt_kinds.specs.declared.rewriter.Template.{Template}
use Rattle.mt_rewriter.specs.declared.attempt.Attempt.{Attempt}
use Rattle.mt_rewriter.specs.declared.ring.Round.{Round}
use Rattle.mt_rewriter.specs.declared.ring.Tried.{Tried}
use Rattle.mt_rewriter.specs.Tries.{turn_behind, after_try, ring_on, ring_over, ring_at, ring}

module _ (try : ℕ → Template → Attempt) (templates : List Template) (all : Result Round ℕ) (i turn : ℕ) (clashed : Bool) (used : ℕ)
    (so_far : all ≡ ring try templates (length templates - i) turn clashed used) where
  at_turn : i < length templates → (found : Option Template) → slice_get templates turn ≡ found
      → all ≡ ring_at (ring try templates (length templates - (i + 1))) try (length templates) turn clashed used found
  unfolding ring
  at_turn within found is =
      so_far
      ∙ ap (λ n. ring try templates n turn clashed used) (one_left (length templates) i within)
      ∙ ap (ring_at (ring try templates (length templates - (i + 1))) try (length templates) turn clashed used) is

  -- a template is tried
  pub stepped : i < length templates → (template : Template) (attempt : Attempt) (behind : ℕ) (tried : Result Tried ℕ) → slice_get templates turn ≡ Some template → attempt ≡ try used template
      → behind ≡ turn_behind (length templates) turn → tried ≡ after_try behind clashed used attempt → (next : Result Tried ℕ) → tried ≡ next
      → all ≡ ring_on (ring try templates (length templates - (i + 1)) behind) next
  stepped within template attempt behind tried there attempt_is behind_is tried_is next next_is =
      at_turn within (Some template) there
      ∙ ap (λ a. ring_on (ring try templates (length templates - (i + 1)) (turn_behind (length templates) turn)) (after_try (turn_behind (length templates) turn) clashed used a)) (sym attempt_is)
      ∙ ap (λ b. ring_on (ring try templates (length templates - (i + 1)) b) (after_try b clashed used attempt)) (sym behind_is)
      ∙ ap (ring_on (ring try templates (length templates - (i + 1)) behind)) (sym tried_is ∙ next_is)

  -- it is the turn of none
  pub past : i < length templates → slice_get templates turn ≡ None → all ≡ ring_over turn clashed used
  past within none = at_turn within None none

  -- each was tried
  pub over : length templates ≤ i → all ≡ ring_over turn clashed used
  unfolding ring
  over past = so_far ∙ ap (λ n. ring try templates n turn clashed used) (none_left (length templates) i past)
    where
      none_left : (n i : ℕ) → n ≤ i → n - i ≡ 0
      none_left n i past = omega (arith, past)
