use Rattle.std.proofs.Common.{sym, subst, arith}
use Rattle.mt_cuts.specs.Canonical.{IsCanonical}
use Rattle.mt_cuts.specs.Tree as cuts
use Rattle.mt_cuts.specs.View.{tree_of}
use Rattle.mt_synth.proofs.Devices.{none_before, one_more, all_devices}
use Rattle.mt_synth.proofs.Meant.{grows_on}
use Rattle.mt_synth.proofs.walk.walked.Goals as goal

pub loop-number-init : goal.loop-number-init
loop-number-init c = (
  subst (λ (u : cuts.Tree). IsCanonical c.args.chain.now.entries u) (sym c.leaf-made.ensures.tree) tt,
  none_before c.args.chain.now.entries c.args.trees.now (tree_of c.leaf-made.result) c.args.chain.now,
  λ number tree is. is,
  c.new-memo.ensures c.args.chain.now c.args.trees.now,
)

pub loop-number-preserved : goal.loop-number-preserved
loop-number-preserved c = (
  rw c.entries-devices.ensures at c.in_ok-made.ensures.canonical,
  one_more c.args.chain.now.entries c.loop-number.trees c.entered.new.trees c.loop-number.made c.in_ok-cut.cut c.in_ok-made.made c.args.chain.now c.loop-number.number c.in_ok-cut.ensures.grows c.loop-number.invariant.1
      c.in_ok-cut.ensures.means (rw (c.entries-devices.ensures, c.from.ensures, c.from-in-loop-number.ensures) at c.in_ok-made.ensures.value),
  grows_on c.args.trees.now c.loop-number.trees c.entered.new.trees c.loop-number.invariant.2 c.in_ok-cut.ensures.grows,
  c.in_ok-cut.ensures.memo,
)

pub returns-clause-means : goal.returns-clause-means
returns-clause-means c =
    all_devices c.args.chain.now.entries c.loop-number.trees c.loop-number.made c.args.chain.now c.loop-number.number (omega (arith, c.entries-devices.ensures, c.loop-number-test.false)) c.loop-number.invariant.1
