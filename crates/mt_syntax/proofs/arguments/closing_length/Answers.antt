use Rattle.std.proofs.Common.{◌≡◌, ℕ, ◌+◌, List, Option, Some, drop, get_or, sym, ap, ◌∙◌, arith}
use Rattle.std.specs.Option.{option_map}
use Rattle.mt_syntax.specs.Closing.{closing}
use Rattle.mt_syntax.proofs.HiddenComments.{hidden_skip, hidden_absent, hidden_closed, hidden_open, hidden_end, closing_none, closing_some, closing_here, closing_nothings, closing_end, depth_within}
use Rattle.mt_syntax.proofs.arguments.closing_length.Goals as goal
use Rattle.mt_syntax.proofs.arguments.closing_length.Goals.{in-Closed, in-Absent+else-body-at-eq41, else-body-at-eq41-via-then-body-at-eq41+else-depth-eq0, else-body-at-eq41-via-else-body-at-eq41}

pub loop-at-preserved-then-skip-gt0 : goal.loop-at-preserved-then-skip-gt0
loop-at-preserved-then-skip-gt0 c =
    let at = c.loop-at.at in
    let d = c.loop-at.depth in
    let e = hidden_skip c.args.body.now at c.loop-at.skip c.loop-at-test.true c.if-skip-gt0.true in
    record { depth = omega arith; rest = c.loop-at.invariant.rest ∙ ap (λ (x : List (Option ℕ)). option_map (λ n. n + at) (closing d x)) e ∙ closing_none d at _ }

pub returns-in-Open-clause-length : goal.returns-in-Open-clause-length
returns-in-Open-clause-length c =
    let xs = c.args.body.now in
    let at = c.loop-at.at in
    let z : c.loop-at.skip ≡ 0 = omega arith in
    let e = ap (closing c.loop-at.depth) (hidden_open xs at c.loop-at.skip c.loop-at-test.true z c.in-Open.ensures.comment) ∙ closing_nothings c.loop-at.depth (drop at xs) in
    sym (c.loop-at.invariant.rest ∙ ap (option_map (λ n. n + at)) e)

pub returns-then-depth-eq0-clause-length : goal.returns-then-depth-eq0-clause-length
returns-then-depth-eq0-clause-length c =
    let xs = c.args.body.now in
    let at = c.loop-at.at in
    let z : c.loop-at.skip ≡ 0 = omega arith in
    let e = ap (closing c.loop-at.depth) (hidden_absent xs at c.loop-at.skip c.loop-at-test.true z c.in-Absent.ensures.comment) ∙ closing_here c.loop-at.depth (get_or xs at 0) _ c.if-body-at-eq41.true c.if-depth-eq0.true in
    let n : 1 + at ≡ at + 1 = omega arith in
    sym (c.loop-at.invariant.rest ∙ ap (option_map (λ n. n + at)) e ∙ ap (λ (k : ℕ). Some k) n)

pub loop-at-preserved : goal.loop-at-preserved
loop-at-preserved c =
    let xs = c.args.body.now in
    let at = c.loop-at.at in
    let d = c.loop-at.depth in
    let z : c.loop-at.skip ≡ 0 = omega arith in
    elim c.match-comment_of.branch [
      | in-Closed w ↦
          let e = hidden_closed xs at c.loop-at.skip w.in-Closed.len c.loop-at-test.true z w.in-Closed.ensures.comment in
          record { depth = omega arith; rest = rw (w.depth-is, w.skip-is, w.saturating_sub-skip.ensures) (c.loop-at.invariant.rest ∙ ap (λ (x : List (Option ℕ)). option_map (λ n. n + at) (closing d x)) e ∙ closing_none d at _) }
      | in-Absent+else-body-at-eq41 w ↦
          let b = get_or xs at 0 in
          let e = hidden_absent xs at c.loop-at.skip c.loop-at-test.true z w.in-Absent.ensures.comment in
          let other : b ≡ 41 → d ≡ 0 → ⊥ = elim w.else-body-at-eq41.branch [
            | else-body-at-eq41-via-then-body-at-eq41+else-depth-eq0 v ↦ λ _ n. v.if-depth-eq0.false n
            | else-body-at-eq41-via-else-body-at-eq41 v ↦ λ n _. v.if-body-at-eq41.false n
          ] in
          record { depth = omega (arith, depth_within d b, w.depth-is, w.next_depth-depth.ensures); rest = rw (w.depth-is, w.next_depth-depth.ensures, w.skip-is, z) (c.loop-at.invariant.rest ∙ ap (λ (x : List (Option ℕ)). option_map (λ n. n + at) (closing d x)) e ∙ closing_some d at b _ other) }
    ]

pub returns-clause-length : goal.returns-clause-length
returns-clause-length c =
    let at = c.loop-at.at in
    let e = ap (closing c.loop-at.depth) (hidden_end c.args.body.now at c.loop-at.skip c.loop-at-test.false) ∙ closing_end c.loop-at.depth in
    sym (c.loop-at.invariant.rest ∙ ap (option_map (λ n. n + at)) e)
