-- Trees in their plain form: what a chain does with the packets of a class.
use Rattle.std.specs.Prelude.{ℕ, Bool, false, List, [], ◌∷◌, Option, None}
use Rattle.mt_packet.specs.declared.cause.Cause.{Cause}
use Rattle.mt_packet.specs.declared.span.Span.{Span}
use Rattle.mt_terms.specs.declared.tree.OpCode.{OpCode}
use Rattle.mt_terms.specs.declared.tree.Rewrite.{Rewrite}
use Rattle.mt_terms.specs.declared.tree.Tree.{Tree, fold-Tree}
use Rattle.mt_terms.specs.declared.tree.Tree.TheOpen.{Tree-F}
use Rattle.mt_terms.specs.Terms.{TermForm, term_form}
use Rattle.mt_terms.specs.Writes.{WriteForm, write_forms}

-- whether the packet is checked, whether the frame's VLAN tag is taken off, the VLAN identifier of the tag that is
-- put on, where one is, and the writes by ascending field
pub record RewriteForm : Type 0 where
  pub trim : Bool
  pub untag : Bool
  pub tag : Option ℕ
  pub writes : List WriteForm

-- none of the four
abbrev pub empty_rewrite : RewriteForm
empty_rewrite = record { trim = false; untag = false; tag = None; writes = [] }

-- the rewriter and its input, and the four parts of the flow that arrives there
pub record OpForm : Type 0 where
  pub element : ℕ
  pub input : ℕ
  pub sa : TermForm
  pub sp : TermForm
  pub da : TermForm
  pub dp : TermForm

-- a packet that is sent to a device; one that is dropped; a test whether a term lies in a span, with the tree
-- where it does and the one where it does not; and a passage of a rewriter, with a tree for each output
mutual
  pub data TreeForm : Type 0 where
    leaf : RewriteForm → ℕ → TreeForm
    drop : Cause → TreeForm
    test : TermForm → Span → TreeForm → TreeForm → TreeForm
    passage : OpForm → BranchForms → TreeForm

  pub data BranchForms : Type 0 where
    none : BranchForms
    branch : ℕ → TreeForm → BranchForms → BranchForms

abbrev pub rewrite_form : Rewrite → RewriteForm
rewrite_form rewrite = record { trim = rewrite.trim; untag = rewrite.untag; tag = rewrite.tag; writes = write_forms rewrite.writes }

abbrev pub op_form : OpCode → OpForm
op_form code = record {
  element = code.element;
  input = code.input;
  sa = term_form code.sa;
  sp = term_form code.sp;
  da = term_form code.da;
  dp = term_form code.dp;
}

-- branches as they stand in a list
abbrev pub branches_of : List (ℕ × TreeForm) → BranchForms
branches_of [] = none
branches_of (first ∷ rest) = branch first.0 first.1 (branches_of rest)

-- one layer of a tree, given the forms of the trees in it
abbrev pub layer_form : Tree-F TreeForm → TreeForm
layer_form (Tree-F.Leaf rewrite device) = leaf (rewrite_form rewrite) device
layer_form (Tree-F.Drop cause) = drop cause
layer_form (Tree-F.Test term span inside outside) = test (term_form term) span inside.value outside.value
layer_form (Tree-F.Op code branches) = passage (op_form code) (branches_of branches.items)

-- the plain form of a tree
abbrev pub tree_form : Tree → TreeForm
tree_form tree = fold-Tree TreeForm layer_form tree

-- an output with the plain form of its tree
abbrev pub branch_form : ℕ × Tree → ℕ × TreeForm
branch_form pair = (pair.0, tree_form pair.1)
