use Rattle.std.proofs.Common.{◌≡◌, ◌+◌, ◌<◌, length, drop, get_or, ap, inl, inr, arith, length-drop}
use Rattle.std.proofs.lemmas.Bool.{cases_lt}
use Rattle.mt_syntax.specs.Comment.{hidden}
use Rattle.mt_syntax.specs.Closing.{plain_len}
use Rattle.mt_syntax.proofs.HiddenComments.{hidden_skip, hidden_absent, hidden_closed, hidden_open, hidden_end, plain_nothings, plain_some, plain_stop}
use Rattle.mt_syntax.proofs.arguments.plain_length.Goals as goal
use Rattle.mt_syntax.proofs.arguments.plain_length.Goals.{in-Closed, in-Absent+else-body-at-gt126}

pub loop-at-preserved-then-skip-gt0 : goal.loop-at-preserved-then-skip-gt0
loop-at-preserved-then-skip-gt0 c =
    let lt : c.loop-at.at < length c.args.body.now = omega arith in
    let e = ap plain_len (hidden_skip c.args.body.now c.loop-at.at c.loop-at.skip lt c.if-skip-gt0.true) in
    omega (arith, e, c.loop-at.invariant)

pub returns-in-Open : goal.returns-in-Open
returns-in-Open c =
    let xs = c.args.body.now in
    let lt : c.loop-at.at < length xs = omega arith in
    let z : c.loop-at.skip ≡ 0 = omega arith in
    let e = ap plain_len (hidden_open xs c.loop-at.at c.loop-at.skip lt z c.in-Open.ensures.comment) in
    omega (arith, e, plain_nothings (drop c.loop-at.at xs), length-drop c.loop-at.at xs, c.loop-at.invariant)

pub returns-then-body-at-gt126 : goal.returns-then-body-at-gt126
returns-then-body-at-gt126 c =
    let xs = c.args.body.now in
    let lt : c.loop-at.at < length xs = omega arith in
    let z : c.loop-at.skip ≡ 0 = omega arith in
    let e = ap plain_len (hidden_absent xs c.loop-at.at c.loop-at.skip lt z c.in-Absent.ensures.comment) in
    omega (arith, e, plain_stop (get_or xs c.loop-at.at 0) (hidden 0 (drop (c.loop-at.at + 1) xs)) c.if-body-at-gt126.true, c.loop-at.invariant)

pub loop-at-preserved : goal.loop-at-preserved
loop-at-preserved c =
    let xs = c.args.body.now in
    let lt : c.loop-at.at < length xs = omega arith in
    let z : c.loop-at.skip ≡ 0 = omega arith in
    elim c.match-comment_of.branch [
      | in-Closed w ↦
          let e = ap plain_len (hidden_closed xs c.loop-at.at c.loop-at.skip w.in-Closed.len lt z w.in-Closed.ensures.comment) in
          rw (w.skip-is, w.saturating_sub-skip.ensures) (omega (arith, e, c.loop-at.invariant))
      | in-Absent+else-body-at-gt126 w ↦
          let e = ap plain_len (hidden_absent xs c.loop-at.at c.loop-at.skip lt z w.in-Absent.ensures.comment) in
          rw (w.skip-is, z) (omega (arith, e, plain_some (get_or xs c.loop-at.at 0) (hidden 0 (drop (c.loop-at.at + 1) xs)) w.if-body-at-gt126.false, c.loop-at.invariant))
    ]

pub returns : goal.returns
returns c =
    elim (cases_lt c.loop-at.at (length c.args.body.now)) [
      | inl lt ↦ omega (arith, c.loop-at.invariant)
      | inr le ↦ (let e = ap plain_len (hidden_end c.args.body.now c.loop-at.at c.loop-at.skip le) in omega (arith, e, c.loop-at.invariant))
    ]
