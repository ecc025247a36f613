use Rattle.std.proofs.Common.{◌≡◌, ℕ, ◌+◌, List, ◌++◌, Option, drop, get_or, arith, sym, ap, ◌∙◌}
use Rattle.std.specs.Option.{option_to_list}
use Rattle.std.specs.List.{flat_map}
use Rattle.std.proofs.lemmas.List.{append-nil}
use Rattle.mt_syntax.specs.Comment.{hidden}
use Rattle.mt_syntax.proofs.HiddenComments.{hidden_skip, hidden_absent, hidden_closed, hidden_open, hidden_end, shown_nothings, shown_step}
use Rattle.mt_syntax.proofs.arguments.shown_of.Goals as goal
use Rattle.mt_syntax.proofs.arguments.shown_of.Goals.{in-Closed, in-Absent+in_ok-push-in-Absent}

pub loop-at-preserved-then-skip-gt0 : goal.loop-at-preserved-then-skip-gt0
loop-at-preserved-then-skip-gt0 c =
    let e = hidden_skip c.args.body.now c.loop-at.at c.loop-at.skip c.loop-at-test.true c.if-skip-gt0.true in
    ap (λ (x : List (Option ℕ)). c.loop-at.bytes.items ++ flat_map option_to_list x) (sym e) ∙ c.loop-at.invariant

pub returns-in-Open : goal.returns-in-Open
returns-in-Open c =
    let xs = c.args.body.now in
    let z : c.loop-at.skip ≡ 0 = omega arith in
    let e = hidden_open xs c.loop-at.at c.loop-at.skip c.loop-at-test.true z c.in-Open.ensures.comment in
    sym (append-nil c.loop-at.bytes.items) ∙ ap (λ (x : List ℕ). c.loop-at.bytes.items ++ x) (sym (ap (flat_map option_to_list) e ∙ shown_nothings (drop c.loop-at.at xs))) ∙ c.loop-at.invariant

pub loop-at-preserved : goal.loop-at-preserved
loop-at-preserved c =
    let xs = c.args.body.now in
    let z : c.loop-at.skip ≡ 0 = omega arith in
    elim c.match-comment_of.branch [
      | in-Closed w ↦
          let e = hidden_closed xs c.loop-at.at c.loop-at.skip w.in-Closed.len c.loop-at-test.true z w.in-Closed.ensures.comment in
          rw (w.bytes-is, w.skip-is, w.saturating_sub-skip.ensures) (ap (λ (x : List (Option ℕ)). c.loop-at.bytes.items ++ flat_map option_to_list x) (sym e) ∙ c.loop-at.invariant)
      | in-Absent+in_ok-push-in-Absent w ↦
          let e = hidden_absent xs c.loop-at.at c.loop-at.skip c.loop-at-test.true z w.in-Absent.ensures.comment in
          let x = get_or xs c.loop-at.at 0 in
          let rest = drop (c.loop-at.at + 1) xs in
          rw (w.bytes-is, w.skip-is, z, w.in_ok-push-in-Absent.ensures.items) (sym (ap (λ (y : List (Option ℕ)). c.loop-at.bytes.items ++ flat_map option_to_list y) e ∙ shown_step c.loop-at.bytes.items x (hidden 0 rest)) ∙ c.loop-at.invariant)
    ]

pub returns : goal.returns
returns c =
    let e = hidden_end c.args.body.now c.loop-at.at c.loop-at.skip c.loop-at-test.false in
    sym (append-nil c.loop-at.bytes.items) ∙ ap (λ (x : List (Option ℕ)). c.loop-at.bytes.items ++ flat_map option_to_list x) (sym e) ∙ c.loop-at.invariant
