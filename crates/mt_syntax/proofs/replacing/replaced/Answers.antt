use Rattle.std.proofs.Common.{◌≡◌, ℕ, ◌+◌, ◌++◌, List, [], ◌∷◌, drop, get_or, sym, ap, ◌∙◌, arith, append_assoc}
use Rattle.std.proofs.lemmas.List.{append-nil}
use Rattle.mt_syntax.specs.Piece.{name_len}
use Rattle.mt_syntax.specs.Replacing.{replaced_from}
use Rattle.mt_syntax.proofs.HiddenComments.{to_end}
use Rattle.mt_syntax.proofs.ReplaceLoop.{replaced_skip, replaced_none, replaced_some, replaced_end}
use Rattle.mt_syntax.proofs.replacing.replaced.Goals as goal
use Rattle.mt_syntax.proofs.replacing.replaced.Goals.{in-Some+in_ok-extend_from_slice-in-Some, in-None+in_ok-push-in-None}

pub loop-at-preserved-then-skip-gt0 : goal.loop-at-preserved-then-skip-gt0
loop-at-preserved-then-skip-gt0 c =
    let e = replaced_skip c.args.bindings.now c.args.text.now c.loop-at.at c.loop-at.skip c.loop-at-test.true c.if-skip-gt0.true in
    ap (λ (x : List ℕ). c.loop-at.bytes.items ++ x) (sym e) ∙ c.loop-at.invariant

pub loop-at-preserved : goal.loop-at-preserved
loop-at-preserved c =
    let bs = c.args.bindings.now in
    let xs = c.args.text.now in
    let at = c.loop-at.at in
    let out = c.loop-at.bytes.items in
    let rest = drop (at + 1) xs in
    let z : c.loop-at.skip ≡ 0 = omega arith in
    elim c.match-argument_behind.branch [
      | in-Some+in_ok-extend_from_slice-in-Some w ↦
          let argument = w.in-Some.argument.now in
          let e = replaced_some bs xs at c.loop-at.skip argument c.loop-at-test.true z w.in-Some.ensures in
          let n = ap name_len (to_end xs (at + 1)) in
          rw (w.bytes-is, w.skip-is, w.in_ok-extend_from_slice-in-Some.ensures.items, w.name_length-skip.ensures.length, n) (append_assoc out argument (replaced_from bs (name_len rest) rest) ∙ ap (λ (x : List ℕ). out ++ x) (sym e) ∙ c.loop-at.invariant)
      | in-None+in_ok-push-in-None w ↦
          let b = get_or xs at 0 in
          let e = replaced_none bs xs at c.loop-at.skip c.loop-at-test.true z w.in-None.ensures in
          rw (w.bytes-is, w.skip-is, z, w.in_ok-push-in-None.ensures.items) (append_assoc out (b ∷ []) (replaced_from bs 0 rest) ∙ ap (λ (x : List ℕ). out ++ x) (sym e) ∙ c.loop-at.invariant)
    ]

pub returns : goal.returns
returns c =
    let e = replaced_end c.args.bindings.now c.args.text.now c.loop-at.at c.loop-at.skip c.loop-at-test.false in
    sym (append-nil c.loop-at.bytes.items) ∙ ap (λ (x : List ℕ). c.loop-at.bytes.items ++ x) (sym e) ∙ c.loop-at.invariant
