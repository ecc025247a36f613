use Rattle.std.proofs.Common.{refl}
use Rattle.mt_terms.proofs.Copied.{op_copied}
use Rattle.mt_terms.proofs.+copies.Goals as goal

pub tree::Tree::copy-returns-in_ok-copy_branches-in-Op : goal.tree::Tree::copy-returns-in_ok-copy_branches-in-Op
tree::Tree::copy-returns-in_ok-copy_branches-in-Op t c =
    op_copied _ c.args.self.now c.in_ok-copy-in-Op.field-0 c.in-Op.code c.in_ok-copy_branches-in-Op.field-0 c.in-Op.branches c.deref-in-Op.result.now refl c.in-Op.is c.in_ok-copy-in-Op.ensures c.deref-in-Op.ensures.value
    c.in_ok-copy_branches-in-Op.ensures
