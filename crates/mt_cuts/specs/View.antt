-- The tree of cuts that a `Cut` is. A node's parts are a chain of cuts of its field at all its ends but the
-- last, which cuts nothing: behind it there is no value. What has no part, or one part alone, or too few
-- ends, or a last part that cuts the node's own field, stands for no tree, so no two nodes have one view.
use Rattle.std.specs.Prelude.{ℕ, nat_le, suc, ◌==◌, if◌then◌else◌, List, [], ◌∷◌}
use Rattle.mt_packet.specs.Header.{number_of}
use Rattle.mt_packet.specs.declared.field.Field.{Field}
use Rattle.mt_cuts.specs.declared.cut.Cut.{Cut, fold-Cut}
use Rattle.mt_cuts.specs.declared.cut.Cut.TheOpen.{Cut-F}
use Rattle.mt_cuts.specs.Tree.{Tree, class, cut, broken}

-- the last part of a node: it does not cut the node's field again
abbrev pub last_part : Field → Tree → Tree
last_part field (class value) = class value
last_part field (cut other end low high) =
    if number_of other == number_of field then broken else (cut other end low high)
last_part field broken = broken

-- parts of a field, the first up to the first end, the next behind it up to the next end, and so on
abbrev pub chain : Field → List ℕ → List Tree → Tree
chain field ends [] = broken
chain field ends (part ∷ []) = last_part field part
chain field [] (part ∷ next ∷ parts) = broken
chain field (end ∷ ends) (part ∷ next ∷ parts) = cut field end part (chain field ends (next ∷ parts))

-- a node: two parts at least
abbrev pub node : Field → List ℕ → List Tree → Tree
node field ends [] = broken
node field ends (part ∷ []) = broken
node field ends (part ∷ next ∷ parts) = chain field ends (part ∷ next ∷ parts)

-- one layer of a `Cut`, given the trees of its parts
abbrev pub layer_tree : Cut-F Tree → Tree
layer_tree (Cut-F.Class value) = class value
layer_tree (Cut-F.Cuts field ends next) = node field ends.items next.items

-- the tree that a `Cut` stands for
abbrev pub tree_of : Cut → Tree
tree_of whole = fold-Cut Tree layer_tree whole

-- the index of the first of the ends that a value is not above
abbrev pub index_among : ℕ → List ℕ → ℕ
index_among value [] = 0
index_among value (end ∷ ends) = if nat_le value end then 0 else suc (index_among value ends)
