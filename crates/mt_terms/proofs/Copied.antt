-- Lists that are copied one by one.
use Rattle.std.proofs.Common.{◌≡◌, ℕ, suc, ◌+◌, ◌<◌, ◌≤◌, List, [], ◌∷◌, ◌++◌, length, get_or, map, take, ap, sym, ◌∙◌}
use Rattle.std.proofs.lemmas.List.{map-append, map_more, take_all}
use Rattle.mt_packet.specs.Header.{number_of}
use Rattle.mt_terms.specs.declared.writes.FieldWrite.{FieldWrite}
use Rattle.mt_terms.specs.Writes.{AscendFrom, WriteForm, write_form, write_forms}
use Rattle.std.specs.Global.{Vec}
use Rattle.mt_terms.specs.declared.tree.OpCode.{OpCode}
use Rattle.mt_terms.specs.declared.tree.Tree.{Tree, fold-roll-Tree}
use Rattle.mt_terms.specs.declared.tree.Tree.TheVariants.{Op}
use Rattle.mt_terms.specs.declared.tree.Tree.TheOpen.{Tree-F}
use Rattle.mt_terms.specs.Trees.{TreeForm, passage, branches_of, branch_form, layer_form, op_form, tree_form}

-- one more
pub copied_more : {A B : Type 0} (f : A → B) (xs done : List A) (i : ℕ) (x y : A) → i < length xs → map f done ≡ map f (take i xs) → f y ≡ f (get_or xs i x) → map f (done ++ y ∷ []) ≡ map f (take (i + 1) xs)
copied_more f xs done i x y lt so_far e = map-append f done (y ∷ []) ∙ (ap (λ front. front ++ f y ∷ []) so_far ∙ (ap (λ last. map f (take i xs) ++ last ∷ []) e ∙ sym (map_more f xs i x lt)))

-- all
pub copied_all : {A B : Type 0} (f : A → B) (xs done : List A) (i : ℕ) → length xs ≤ i → map f done ≡ map f (take i xs) → map f done ≡ map f xs
copied_all f xs done i end so_far = so_far ∙ ap (map f) (take_all i xs end)

-- writes of one form have the same fields
pub copies_ascend : (least : ℕ) (xs ys : List FieldWrite) → write_forms xs ≡ write_forms ys → AscendFrom least ys → AscendFrom least xs
copies_ascend least [] ys e up = tt
copies_ascend least (x ∷ xs) [] e up = absurd cc
copies_ascend least (x ∷ xs) (y ∷ ys) e up =
    let first : write_form x ≡ write_form y = cc in
    let rest : write_forms xs ≡ write_forms ys = cc in
    let number = ap (λ (w : WriteForm). number_of w.field) first in
    rw number (up.0, copies_ascend (suc (number_of y.field)) xs ys rest up.1)

-- a passage with its branches
pub tree-op : (code : OpCode) (branches : Vec (ℕ × Tree)) → tree_form (Op code branches) ≡ passage (op_form code) (branches_of (map branch_form branches.items))
unfolding Rattle.mt_terms.specs.declared.tree.Tree.TheViews.roll-Tree denote.Hole.Carrier.roll
tree-op code branches = fold-roll-Tree TreeForm layer_form (Tree-F.Op code branches)

pub op_copied : (copy tree : Tree) (a b : OpCode) (v w : Vec (ℕ × Tree)) (seen : List (ℕ × Tree)) → copy ≡ Op a v → tree ≡ Op b w → op_form a ≡ op_form b → seen ≡ w.items → map branch_form v.items ≡ map branch_form seen → tree_form copy ≡ tree_form tree
op_copied copy tree a b v w seen copy_is is codes same branches =
    ap tree_form copy_is ∙ (tree-op a v ∙ (ap (λ code. passage code (branches_of (map branch_form v.items))) codes ∙ (ap (λ bs. passage (op_form b) (branches_of bs)) (branches ∙ ap (map branch_form) same) ∙ (sym (tree-op b w) ∙ sym (ap tree_form is)))))
