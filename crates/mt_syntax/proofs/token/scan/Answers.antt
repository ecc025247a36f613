use Rattle.std.proofs.Common.{◌≡◌, ◌+◌, ◌-◌, ◌∷◌, ◌++◌, [], List, length, drop, sym, ap, ◌∙◌, arith, append_assoc}
use Rattle.mt_syntax.specs.declared.token.Token.{Token}
use Rattle.mt_syntax.specs.Tokens.{tokens_from, is_name, token}
use Rattle.mt_syntax.proofs.ScanLoop.{tokens_skip, tokens_blank, tokens_taken, tokens_wrong, tokens_end}
use Rattle.mt_syntax.proofs.token.scan.Goals as goal
use Rattle.mt_syntax.proofs.token.scan.Goals.{in-Blank, in-Taken+in_ok-push-in-Taken}

pub loop-at-preserved-then-skip-gt0 : goal.loop-at-preserved-then-skip-gt0
loop-at-preserved-then-skip-gt0 c =
    ap (λ (x : List Token). c.loop-at.tokens.items ++ x) (sym (tokens_skip c.args.text.now c.loop-at.at c.loop-at.named c.loop-at.skip c.loop-at-test.true c.if-skip-gt0.true)) ∙ c.loop-at.invariant

pub returns-in-Wrong : goal.returns-in-Wrong
returns-in-Wrong c =
    let z : c.loop-at.skip ≡ 0 = omega arith in
    let e = tokens_wrong c.args.text.now c.loop-at.at c.loop-at.named c.loop-at.skip c.loop-at-test.true z c.in-Wrong.ensures.piece in
    c.in_ok-push-in-Wrong.ensures.items ∙ ap (λ (x : List Token). c.loop-at.tokens.items ++ x) (sym e) ∙ c.loop-at.invariant

pub loop-at-preserved : goal.loop-at-preserved
loop-at-preserved c =
    let xs = c.args.text.now in
    let at = c.loop-at.at in
    let z : c.loop-at.skip ≡ 0 = omega arith in
    elim c.match-piece_of.branch [
      | in-Blank w ↦
          let e = tokens_blank xs at c.loop-at.named c.loop-at.skip w.in-Blank.len c.loop-at-test.true z w.in-Blank.ensures.piece in
          rw (w.tokens-is, w.named-is, w.skip-is, w.saturating_sub-skip.ensures) (ap (λ (x : List Token). c.loop-at.tokens.items ++ x) (sym e) ∙ c.loop-at.invariant)
      | in-Taken+in_ok-push-in-Taken w ↦
          let kind = w.in-Taken.kind in
          let n = w.in-Taken.len in
          let e = tokens_taken xs at c.loop-at.named c.loop-at.skip kind n c.loop-at-test.true z w.in-Taken.ensures.piece in
          let rest = tokens_from (at + 1) (is_name kind) (n - 1) (drop (at + 1) xs) in
          let regroup = append_assoc c.loop-at.tokens.items (token kind at (at + n) ∷ []) rest in
          rw (w.tokens-is, w.named-is, w.skip-is, w.in_ok-push-in-Taken.ensures.items, w.is_name_kind-named.ensures, w.saturating_sub-skip-in-Taken.ensures) (regroup ∙ ap (λ (x : List Token). c.loop-at.tokens.items ++ x) (sym e) ∙ c.loop-at.invariant)
    ]

pub returns : goal.returns
returns c =
    let xs = c.args.text.now in
    let n : length xs ≡ c.loop-at.at = omega arith in
    let e = tokens_end xs c.loop-at.at c.loop-at.named c.loop-at.skip c.loop-at-test.false in
    rw (c.in_ok-push.ensures.items, n) (ap (λ (x : List Token). c.loop-at.tokens.items ++ x) (sym e) ∙ c.loop-at.invariant)
