use Rattle.std.proofs.Common.{◌≡◌, ◌+◌, ◌-◌, ◌<◌, drop, get_or, ap, arith, length-drop}
use Rattle.std.specs.Prelude.{Option, List, ℕ}
use Rattle.mt_syntax.specs.Comment.{hidden}
use Rattle.mt_syntax.specs.Arguments.{shown_index}
use Rattle.mt_syntax.proofs.HiddenComments.{hidden_skip, hidden_absent, hidden_closed, hidden_open, hidden_end}
use Rattle.mt_syntax.proofs.ShownIndex.{hidden_index, index_here, index_more, index_nothings, index_end}
use Rattle.mt_syntax.proofs.arguments.index_shown.Goals as goal
use Rattle.mt_syntax.proofs.arguments.index_shown.Goals.{in-Closed, in-Absent+else-left-eq0}

pub loop-at-preserved-then-skip-gt0 : goal.loop-at-preserved-then-skip-gt0
loop-at-preserved-then-skip-gt0 c =
    let xs = c.args.body.now in
    let e = ap (λ (h : List (Option ℕ)). shown_index h c.loop-at.left) (hidden_skip xs c.loop-at.at c.loop-at.skip c.loop-at-test.true c.if-skip-gt0.true) in
    omega (arith, e, hidden_index (hidden (c.loop-at.skip - 1) (drop (c.loop-at.at + 1) xs)) c.loop-at.left, c.loop-at.invariant)

pub returns-in-Open-clause-index : goal.returns-in-Open-clause-index
returns-in-Open-clause-index c =
    let xs = c.args.body.now in
    let z : c.loop-at.skip ≡ 0 = omega arith in
    let e = ap (λ (h : List (Option ℕ)). shown_index h c.loop-at.left) (hidden_open xs c.loop-at.at c.loop-at.skip c.loop-at-test.true z c.in-Open.ensures.comment) in
    omega (arith, e, index_nothings (drop c.loop-at.at xs) c.loop-at.left, length-drop c.loop-at.at xs, c.loop-at.invariant)

pub returns-then-left-eq0-clause-index : goal.returns-then-left-eq0-clause-index
returns-then-left-eq0-clause-index c =
    let xs = c.args.body.now in
    let z : c.loop-at.skip ≡ 0 = omega arith in
    let e = ap (λ (h : List (Option ℕ)). shown_index h c.loop-at.left) (hidden_absent xs c.loop-at.at c.loop-at.skip c.loop-at-test.true z c.in-Absent.ensures.comment) in
    omega (arith, e, index_here (get_or xs c.loop-at.at 0) (hidden 0 (drop (c.loop-at.at + 1) xs)) c.loop-at.left c.if-left-eq0.true, c.loop-at.invariant)

pub loop-at-preserved : goal.loop-at-preserved
loop-at-preserved c =
    let xs = c.args.body.now in
    let z : c.loop-at.skip ≡ 0 = omega arith in
    elim c.match-comment_of.branch [
      | in-Closed w ↦
          let e = ap (λ (h : List (Option ℕ)). shown_index h c.loop-at.left) (hidden_closed xs c.loop-at.at c.loop-at.skip w.in-Closed.len c.loop-at-test.true z w.in-Closed.ensures.comment) in
          rw (w.skip-is, w.left-is, w.saturating_sub-skip.ensures) (omega (arith, e, hidden_index (hidden (w.in-Closed.len - 1) (drop (c.loop-at.at + 1) xs)) c.loop-at.left, c.loop-at.invariant))
      | in-Absent+else-left-eq0 w ↦
          let e = ap (λ (h : List (Option ℕ)). shown_index h c.loop-at.left) (hidden_absent xs c.loop-at.at c.loop-at.skip c.loop-at-test.true z w.in-Absent.ensures.comment) in
          let pos : 0 < c.loop-at.left = omega arith in
          rw (w.skip-is, w.left-is, z) (omega (arith, e, index_more (get_or xs c.loop-at.at 0) (hidden 0 (drop (c.loop-at.at + 1) xs)) c.loop-at.left pos, c.loop-at.invariant))
    ]

pub returns-clause-index : goal.returns-clause-index
returns-clause-index c =
    let e = ap (λ (h : List (Option ℕ)). shown_index h c.loop-at.left) (hidden_end c.args.body.now c.loop-at.at c.loop-at.skip c.loop-at-test.false) in
    omega (arith, e, index_end c.loop-at.left, c.loop-at.invariant)
