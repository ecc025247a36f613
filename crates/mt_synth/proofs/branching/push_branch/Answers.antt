use Rattle.std.proofs.Common.{refl, sym, length}
use Rattle.std.proofs.lemmas.Bool.{ltb-true}
use Rattle.std.proofs.lemmas.Option.{slice_get_read, slice_get_past}
use Rattle.mt_synth.proofs.BranchesNamed.{branch_pushed, branch_missed}
use Rattle.mt_synth.proofs.branching.push_branch.Goals as goal

pub returns-in_ok-push : goal.returns-in_ok-push
returns-in_ok-push c =
    branch_pushed c.args.made.now.items c.push.new.self.items c.args.trees.now c.args.out c.args.number c.in-Some.tree.now c.in_ok-copy.field-0
    (slice_get_read c.args.trees.now (length c.args.trees.now) c.args.number c.in-Some.tree.now refl (ltb-true c.args.number (length c.args.trees.now) (sym c.in-Some.ensures.lookup.0)) c.in-Some.ensures.lookup.1)
    c.in_ok-copy.ensures c.in_ok-push.ensures.items

pub returns-in_default : goal.returns-in_default
returns-in_default c =
    branch_missed c.args.made.now.items c.args.trees.now c.args.out c.args.number
    (slice_get_past c.args.trees.now c.args.number c.in_default.ensures.lookup.3)
