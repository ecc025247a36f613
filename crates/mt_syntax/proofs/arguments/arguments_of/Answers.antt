use Rattle.std.proofs.Common.{◌≡◌, [], Bool, cond, map, get_or, refl, ap, arith}
use Rattle.mt_syntax.specs.Arguments.{tidy, between_commas, separated}
use Rattle.mt_syntax.proofs.TidyLoop.{in_front_none, raw_goes_on, raw_ends, raws_done}
use Rattle.mt_syntax.proofs.HiddenComments.{depth_within}
use Rattle.mt_syntax.proofs.arguments.arguments_of.Goals as goal
use Rattle.mt_syntax.proofs.arguments.arguments_of.Goals.{then-text-at-eq44+then-depth-eq0+in_ok-tidied+in_ok-push, else-text-at-eq44, else-text-at-eq44-via-then-text-at-eq44+else-depth-eq0, else-text-at-eq44-via-else-text-at-eq44}

pub loop-at-init : goal.loop-at-init
loop-at-init c = record {
  begun = omega arith;
  depth = omega arith;
  raws = rw (c.new-arguments.ensures.items, in_front_none 0 c.args.text.now) refl;
}

pub loop-at-preserved : goal.loop-at-preserved
loop-at-preserved c =
    let xs = c.args.text.now in
    let at = c.loop-at.at in
    let from = c.loop-at.from in
    let d = c.loop-at.depth in
    let done = c.loop-at.arguments.items in
    let all = map tidy (between_commas 0 xs) in
    elim c.if-text-at-eq44.branch [
      | then-text-at-eq44+then-depth-eq0+in_ok-tidied+in_ok-push w ↦ record {
        begun = omega (arith, w.from-is);
        depth = omega (arith, w.depth-is, w.if-depth-eq0.true);
        raws = rw (w.arguments-is, w.depth-is, w.from-is, w.in_ok-push.ensures.items, w.in_ok-tidied.ensures) (raw_ends xs from at d done all c.loop-at.invariant.begun c.loop-at-test.true w.if-text-at-eq44.true w.if-depth-eq0.true c.loop-at.invariant.raws);
      }
      | else-text-at-eq44 w ↦
          let other : get_or xs at 0 ≡ 44 → d ≡ 0 → ⊥ = elim w.else-text-at-eq44.branch [
            | else-text-at-eq44-via-then-text-at-eq44+else-depth-eq0 v ↦ λ _ n. v.if-depth-eq0.false n
            | else-text-at-eq44-via-else-text-at-eq44 v ↦ λ n _. v.if-text-at-eq44.false n
          ] in
          record {
            begun = omega (arith, w.from-is);
            depth = omega (arith, depth_within d (get_or xs at 0), w.depth-is, w.next_depth-depth.ensures);
            raws = rw (w.arguments-is, w.depth-is, w.from-is, w.next_depth-depth.ensures) (raw_goes_on xs from at d done all c.loop-at.invariant.begun c.loop-at-test.true other c.loop-at.invariant.raws);
          }
    ]

pub returns : goal.returns
unfolding separated
returns c =
    let xs = c.args.text.now in
    let all = map tidy (between_commas 0 xs) in
    let e = raws_done xs c.loop-at.from c.loop-at.at c.loop-at.depth c.loop-at.arguments.items all c.loop-at-test.false c.loop-at.auto.at-end c.loop-at.invariant.raws in
    rw (c.in_ok-push-2.ensures.items, c.in_ok-tidied-2.ensures, e) (ap (λ (t : Bool). cond t [] all) c.if-is_blank.ensures)
