-- Equality decides sameness of plain forms of trees.
use Rattle.std.proofs.Common.{◌≡◌, ℕ, Bool, false, ◌==◌, ◌&&◌, List, [], ◌∷◌, map, refl, ap, sym, ◌∙◌}
use Rattle.std.specs.Bool.{Decides}
use Rattle.std.specs.Cmp.Lexicographic.{pointwise}
use denote.Enum.Bare.{sameb}
use Rattle.mt_packet.specs.declared.span.Span.{Span}
use Rattle.mt_packet.specs.contracts.cause.Cause as cause
use Rattle.mt_terms.specs.declared.tree.Tree.{Tree, out-Tree, map-Tree, fold_out-Tree}
use Rattle.mt_terms.specs.declared.tree.Tree.TheBlock.{Leaf, Drop, Test', Op'}
use Rattle.mt_terms.specs.declared.tree.Tree.TheOpen.{Tree-F}
use Rattle.mt_terms.specs.contracts.tree.TreePartialEq.TheImpl.Laws as trees
use Rattle.mt_terms.specs.contracts.tree.RewritePartialEq.TheImpl as rewritten
use Rattle.mt_terms.specs.contracts.tree.OpCodePartialEq.TheImpl as coded
use Rattle.mt_terms.specs.Orders.{equal_terms, equal_trees}
use Rattle.mt_terms.specs.Terms.{TermForm, term_form}
use Rattle.mt_terms.specs.Trees.{TreeForm, leaf, drop, test, passage, BranchForms, none, branch, RewriteForm, OpForm, rewrite_form, op_form, branches_of, branch_form, layer_form, tree_form}
use Rattle.mt_terms.proofs.Same.{answers, never, means, both, numbers, causes, spans, decides_terms, decides_rewrites, decides_codes}

abbrev equal_branches : ℕ × Tree → ℕ × Tree → Bool
equal_branches p q = (p.0 == q.0) && equal_trees p.1 q.1

-- what `==` does with one layer of two trees
abbrev layers_equal : Tree-F Tree → Tree-F Tree → Bool
layers_equal (Tree-F.Leaf r d) (Tree-F.Leaf s e) = rewritten.ghosts.eq r s && (d == e)
layers_equal (Tree-F.Leaf r d) (Tree-F.Drop b) = false
layers_equal (Tree-F.Leaf r d) (Tree-F.Test u t k l) = false
layers_equal (Tree-F.Leaf r d) (Tree-F.Op c v) = false
layers_equal (Tree-F.Drop a) (Tree-F.Leaf s e) = false
layers_equal (Tree-F.Drop a) (Tree-F.Drop b) = sameb cause.the_type a b
layers_equal (Tree-F.Drop a) (Tree-F.Test u t k l) = false
layers_equal (Tree-F.Drop a) (Tree-F.Op c v) = false
layers_equal (Tree-F.Test u t k l) (Tree-F.Leaf s e) = false
layers_equal (Tree-F.Test u t k l) (Tree-F.Drop b) = false
layers_equal (Tree-F.Test u t k l) (Tree-F.Test w s m n) = equal_terms u w && (((t.lo == s.lo) && (t.hi == s.hi)) && (equal_trees k.value m.value && equal_trees l.value n.value))
layers_equal (Tree-F.Test u t k l) (Tree-F.Op c v) = false
layers_equal (Tree-F.Op c v) (Tree-F.Leaf s e) = false
layers_equal (Tree-F.Op c v) (Tree-F.Drop b) = false
layers_equal (Tree-F.Op c v) (Tree-F.Test w s m n) = false
layers_equal (Tree-F.Op c v) (Tree-F.Op d w) = coded.ghosts.eq c d && pointwise equal_branches v.items w.items

pub equal_at : (a b : Tree) → trees.unfolded a b ≡ layers_equal (out-Tree a) (out-Tree b)
unfolding out-Tree denote.Hole.Carrier.out
equal_at (Leaf r d) (Leaf s e) = refl
equal_at (Leaf r d) (Drop b) = refl
equal_at (Leaf r d) (Test' w s p m q n) = refl
equal_at (Leaf r d) (Op' c v x) = refl
equal_at (Drop a) (Leaf s e) = refl
equal_at (Drop a) (Drop b) = refl
equal_at (Drop a) (Test' w s p m q n) = refl
equal_at (Drop a) (Op' c v x) = refl
equal_at (Test' u t p k q l) (Leaf s e) = refl
equal_at (Test' u t p k q l) (Drop b) = refl
equal_at (Test' u t p k q l) (Test' w s p' m q' n) = refl
equal_at (Test' u t p k q l) (Op' c v x) = refl
equal_at (Op' c v x) (Leaf s e) = refl
equal_at (Op' c v x) (Drop b) = refl
equal_at (Op' c v x) (Test' w s p m q n) = refl
equal_at (Op' c v x) (Op' d w y) = refl

-- the form of one layer
abbrev form_at : Tree-F Tree → TreeForm
form_at x = layer_form (map-Tree Tree TreeForm tree_form x)

form_is : (a : Tree) → tree_form a ≡ form_at (out-Tree a)
form_is a = fold_out-Tree TreeForm layer_form a

at_trees : (a b : Tree) → Decides (layers_equal (out-Tree a) (out-Tree b)) (form_at (out-Tree a) ≡ form_at (out-Tree b)) → Decides (equal_trees a b) (tree_form a ≡ tree_form b)
at_trees a b d = answers _ _ (trees.is a b ∙ equal_at a b) (means _ (λ e. form_is a ∙ (e ∙ sym (form_is b))) (λ e. sym (form_is a) ∙ (e ∙ form_is b)) d)

mutual
  layers_decide : (form : TreeForm) (x y : Tree-F Tree) → form_at x ≡ form → Decides (layers_equal x y) (form_at x ≡ form_at y)
  layers_decide form (Tree-F.Leaf r d) (Tree-F.Leaf s e) is =
      means _ (λ q. ap (λ (f : RewriteForm). leaf f d) q.0 ∙ ap (leaf (rewrite_form s)) q.1)
      (λ (q : leaf (rewrite_form r) d ≡ leaf (rewrite_form s) e). (let first : rewrite_form r ≡ rewrite_form s = cc in let second : d ≡ e = cc in (first, second)))
      (both _ _ (decides_rewrites r s) (numbers d e))
  layers_decide form (Tree-F.Leaf r d) (Tree-F.Drop b) is = never (λ (q : leaf (rewrite_form r) d ≡ drop b). cc)
  layers_decide form (Tree-F.Leaf r d) (Tree-F.Test w s m n) is = never (λ (q : leaf (rewrite_form r) d ≡ test (term_form w) s (tree_form m.value) (tree_form n.value)). cc)
  layers_decide form (Tree-F.Leaf r d) (Tree-F.Op other w) is = never (λ (q : leaf (rewrite_form r) d ≡ passage (op_form other) (branches_of (map branch_form w.items))). cc)
  layers_decide form (Tree-F.Drop a) (Tree-F.Leaf s e) is = never (λ (q : drop a ≡ leaf (rewrite_form s) e). cc)
  layers_decide form (Tree-F.Drop a) (Tree-F.Drop b) is = means _ (λ q. ap drop q) (λ (q : drop a ≡ drop b). (let same : a ≡ b = cc in same)) (causes a b)
  layers_decide form (Tree-F.Drop a) (Tree-F.Test w s m n) is = never (λ (q : drop a ≡ test (term_form w) s (tree_form m.value) (tree_form n.value)). cc)
  layers_decide form (Tree-F.Drop a) (Tree-F.Op other w) is = never (λ (q : drop a ≡ passage (op_form other) (branches_of (map branch_form w.items))). cc)
  layers_decide form (Tree-F.Test u t k l) (Tree-F.Leaf s e) is = never (λ (q : test (term_form u) t (tree_form k.value) (tree_form l.value) ≡ leaf (rewrite_form s) e). cc)
  layers_decide form (Tree-F.Test u t k l) (Tree-F.Drop b) is = never (λ (q : test (term_form u) t (tree_form k.value) (tree_form l.value) ≡ drop b). cc)
  layers_decide (leaf f o) (Tree-F.Test u t k l) (Tree-F.Test w s m n) is = absurd (let e : test (term_form u) t (tree_form k.value) (tree_form l.value) ≡ leaf f o = is in cc)
  layers_decide (drop f) (Tree-F.Test u t k l) (Tree-F.Test w s m n) is = absurd (let e : test (term_form u) t (tree_form k.value) (tree_form l.value) ≡ drop f = is in cc)
  layers_decide (test f g inside outside) (Tree-F.Test u t k l) (Tree-F.Test w s m n) is =
      let e : test (term_form u) t (tree_form k.value) (tree_form l.value) ≡ test f g inside outside = is in
      let left : tree_form k.value ≡ inside = cc in
      let right : tree_form l.value ≡ outside = cc in
      means _
      (λ q. ap (λ (f : TermForm). test f t (tree_form k.value) (tree_form l.value)) q.0 ∙ (ap (λ (g : Span). test (term_form w) g (tree_form k.value) (tree_form l.value)) q.1.0
      ∙ (ap (λ (h : TreeForm). test (term_form w) s h (tree_form l.value)) q.1.1.0 ∙ ap (test (term_form w) s (tree_form m.value)) q.1.1.1)))
      (λ (q : test (term_form u) t (tree_form k.value) (tree_form l.value) ≡ test (term_form w) s (tree_form m.value) (tree_form n.value)).
      (let one : term_form u ≡ term_form w = cc in let two : t ≡ s = cc in let three : tree_form k.value ≡ tree_form m.value = cc in let four : tree_form l.value ≡ tree_form n.value = cc in (one, (two, (three, four)))))
      (both _ _ (decides_terms u w) (both _ _ (spans t s) (both _ _
      (at_trees k.value m.value (layers_decide inside (out-Tree k.value) (out-Tree m.value) (sym (form_is k.value) ∙ left)))
      (at_trees l.value n.value (layers_decide outside (out-Tree l.value) (out-Tree n.value) (sym (form_is l.value) ∙ right))))))
  layers_decide (passage f g) (Tree-F.Test u t k l) (Tree-F.Test w s m n) is = absurd (let e : test (term_form u) t (tree_form k.value) (tree_form l.value) ≡ passage f g = is in cc)
  layers_decide form (Tree-F.Test u t k l) (Tree-F.Op other w) is = never (λ (q : test (term_form u) t (tree_form k.value) (tree_form l.value) ≡ passage (op_form other) (branches_of (map branch_form w.items))). cc)
  layers_decide form (Tree-F.Op c v) (Tree-F.Leaf s e) is = never (λ (q : passage (op_form c) (branches_of (map branch_form v.items)) ≡ leaf (rewrite_form s) e). cc)
  layers_decide form (Tree-F.Op c v) (Tree-F.Drop b) is = never (λ (q : passage (op_form c) (branches_of (map branch_form v.items)) ≡ drop b). cc)
  layers_decide form (Tree-F.Op c v) (Tree-F.Test w s m n) is = never (λ (q : passage (op_form c) (branches_of (map branch_form v.items)) ≡ test (term_form w) s (tree_form m.value) (tree_form n.value)). cc)
  layers_decide (leaf f o) (Tree-F.Op c v) (Tree-F.Op other w) is = absurd (let e : passage (op_form c) (branches_of (map branch_form v.items)) ≡ leaf f o = is in cc)
  layers_decide (drop f) (Tree-F.Op c v) (Tree-F.Op other w) is = absurd (let e : passage (op_form c) (branches_of (map branch_form v.items)) ≡ drop f = is in cc)
  layers_decide (test f g inside outside) (Tree-F.Op c v) (Tree-F.Op other w) is = absurd (let e : passage (op_form c) (branches_of (map branch_form v.items)) ≡ test f g inside outside = is in cc)
  layers_decide (passage f forms) (Tree-F.Op c v) (Tree-F.Op other w) is =
      let e : passage (op_form c) (branches_of (map branch_form v.items)) ≡ passage f forms = is in
      let rest : branches_of (map branch_form v.items) ≡ forms = cc in
      means _ (λ q. ap (λ (f : OpForm). passage f (branches_of (map branch_form v.items))) q.0 ∙ ap (passage (op_form other)) q.1)
      (λ (q : passage (op_form c) (branches_of (map branch_form v.items)) ≡ passage (op_form other) (branches_of (map branch_form w.items))). (let first : op_form c ≡ op_form other = cc in let second : branches_of (map branch_form v.items) ≡ branches_of (map branch_form w.items) = cc in (first, second)))
      (both _ _ (decides_codes c other) (branches_decide forms v.items w.items rest))

  branches_decide : (forms : BranchForms) (vs ws : List (ℕ × Tree)) → branches_of (map branch_form vs) ≡ forms
      → Decides (pointwise equal_branches vs ws) (branches_of (map branch_form vs) ≡ branches_of (map branch_form ws))
  branches_decide forms [] [] is = (λ e. refl, λ e. refl)
  branches_decide forms [] (w ∷ ws) is = never (λ (q : none ≡ branch w.0 (tree_form w.1) (branches_of (map branch_form ws))). cc)
  branches_decide forms (v ∷ vs) [] is = never (λ (q : branch v.0 (tree_form v.1) (branches_of (map branch_form vs)) ≡ none). cc)
  branches_decide none (v ∷ vs) (w ∷ ws) is = absurd (let e : branch v.0 (tree_form v.1) (branches_of (map branch_form vs)) ≡ none = is in cc)
  branches_decide (branch o form forms) (v ∷ vs) (w ∷ ws) is =
      let e : branch v.0 (tree_form v.1) (branches_of (map branch_form vs)) ≡ branch o form forms = is in
      let here : tree_form v.1 ≡ form = cc in
      let rest : branches_of (map branch_form vs) ≡ forms = cc in
      means _
      (λ q. ap (λ (o : ℕ). branch o (tree_form v.1) (branches_of (map branch_form vs))) q.0.0 ∙ (ap (λ (f : TreeForm). branch w.0 f (branches_of (map branch_form vs))) q.0.1 ∙ ap (branch w.0 (tree_form w.1)) q.1))
      (λ (q : branch v.0 (tree_form v.1) (branches_of (map branch_form vs)) ≡ branch w.0 (tree_form w.1) (branches_of (map branch_form ws))).
      (let one : v.0 ≡ w.0 = cc in let two : tree_form v.1 ≡ tree_form w.1 = cc in let three : branches_of (map branch_form vs) ≡ branches_of (map branch_form ws) = cc in ((one, two), three)))
      (both _ _ (both _ _ (numbers v.0 w.0) (at_trees v.1 w.1 (layers_decide form (out-Tree v.1) (out-Tree w.1) (sym (form_is v.1) ∙ here)))) (branches_decide forms vs ws rest))

pub decides_trees : (a b : Tree) → Decides (equal_trees a b) (tree_form a ≡ tree_form b)
decides_trees a b = at_trees a b (layers_decide (tree_form a) (out-Tree a) (out-Tree b) (sym (form_is a)))
