-- The values of the tree are those of its leaves.
use Rattle.std.proofs.Common.{◌≡◌, ◌<◌, ℕ, Bool, true, false, if◌then◌else◌, sym, subst}
use Rattle.mt_packet.specs.declared.field.Field.{Field}
use Rattle.mt_cuts.specs.Tree.{Tree, class, value_of}
use Rattle.mt_cuts.specs.View.{tree_of}
use Rattle.mt_synth.proofs.tests.cut_of.Goals as goal

one_below : (b : Bool) (x y n : ℕ) → n ≡ (if b then x else y) → x < 3 → y < 3 → n < 3
one_below true x y n is p q = subst (λ (n : ℕ). n < 3) (sym is) p
one_below false x y n is p q = subst (λ (n : ℕ). n < 3) (sym is) q

leaf_below : (t : Tree) (v : ℕ) (header : Field → ℕ) → t ≡ class v → v < 3 → value_of t header < 3
leaf_below t v header is lt = subst (λ (t : Tree). value_of t header < 3) (sym is) lt

pub returns-clause-named : goal.returns-clause-named
returns-clause-named c header inside =
    let one = c.in_ok-cut.ensures.value header inside in
    let other = c.in_ok-outside.ensures.value header inside in
    one_below _ _ _ _ one (leaf_below _ _ header c.leaf-within.ensures.tree c.requires.first)
    (one_below _ _ _ _ other (leaf_below _ _ header c.leaf.ensures.tree c.requires.second) (leaf_below _ _ header c.leaf-2.ensures.tree c.requires.third))
