-- A node from the parts in front and a last one.
use Rattle.std.proofs.Common.{◌≡◌, ◌<◌, ℕ, suc, List, [], ◌∷◌, ◌++◌, length, map, refl, sym, ◌∙◌, ap, subst, arith, Bool, true, false, ◌==◌, ◌&&◌, eq-eqb}
use Rattle.std.specs.Global.{Vec}
use Rattle.mt_packet.specs.declared.field.Field.{Field}
use Rattle.mt_cuts.specs.declared.cut.Cut.{Cut, fold-Cut, fold-roll-Cut}
use Rattle.mt_cuts.specs.declared.cut.Cut.TheVariants.{Class, Cuts}
use Rattle.mt_cuts.specs.declared.cut.Cut.TheOpen.{Cut-F}
use Rattle.mt_cuts.specs.Tree.{Tree, cut}
use Rattle.mt_cuts.specs.View.{tree_of, node, chain, last_part}
use Rattle.mt_cuts.specs.Canonical.{last_of, ends_well, all_true, layer_finishes, finishes}
use Rattle.mt_cuts.specs.Walk.{put}
use Rattle.mt_cuts.proofs.Nodes.{tree-cuts}
use Rattle.std.proofs.lemmas.Bool.{and_from}
use Rattle.std.proofs.lemmas.List.{length-map}

chain_put : (f : Field) (ends : List ℕ) (parts : List Tree) (last : ℕ) (here : Tree) → length ends ≡ length parts → last_part f here ≡ here → chain f (ends ++ last ∷ []) (parts ++ here ∷ []) ≡ put f ends parts here
chain_put f [] [] last here same alone = alone
chain_put f [] (p ∷ ps) last here same alone = absurd (omega arith)
chain_put f (e ∷ es) [] last here same alone = absurd (omega arith)
chain_put f (e ∷ es) (p ∷ []) last here same alone = ap (cut f e p) (chain_put f es [] last here (omega arith) alone)
chain_put f (e ∷ es) (p ∷ q ∷ ps) last here same alone = ap (cut f e p) (chain_put f es (q ∷ ps) last here (omega arith) alone)

node_put : (f : Field) (ends : List ℕ) (parts : List Tree) (last : ℕ) (here : Tree) → length ends ≡ length parts → last_part f here ≡ here → 0 < length parts → node f (ends ++ last ∷ []) (parts ++ here ∷ []) ≡ put f ends parts here
node_put f ends [] last here same alone some = absurd (omega arith)
node_put f [] (p ∷ ps) last here same alone some = absurd (omega arith)
node_put f (e ∷ es) (p ∷ []) last here same alone some = chain_put f (e ∷ es) (p ∷ []) last here same alone
node_put f (e ∷ es) (p ∷ q ∷ ps) last here same alone some = chain_put f (e ∷ es) (p ∷ q ∷ ps) last here same alone

map_more : {A B : Type 0} (g : A → B) (xs : List A) (x : A) → map g (xs ++ x ∷ []) ≡ map g xs ++ g x ∷ []
map_more g [] x = refl
map_more g (y ∷ ys) x = ap (λ zs. g y ∷ zs) (map_more g ys x)

pub put_none : (f : Field) (ends : List ℕ) (parts : List Cut) (t : Tree) → length parts ≡ 0 → put f ends (map tree_of parts) t ≡ t
put_none f [] [] t is = refl
put_none f (e ∷ es) [] t is = refl
put_none f ends (p ∷ ps) t is = absurd (omega arith)

-- the tree of the node
pub finished : (f : Field) (ends : Vec ℕ) (next : Vec Cut) (es : List ℕ) (ps : List Cut) (last : ℕ) (here : Cut) → ends.items ≡ es ++ last ∷ [] → next.items ≡ ps ++ here ∷ [] → length es ≡ length ps → last_part f (tree_of here) ≡ tree_of here → 0 < length ps → tree_of (Cuts f ends next) ≡ put f es (map tree_of ps) (tree_of here)
finished f ends next es ps last here e n same alone some =
    tree-cuts f ends next
    ∙ (ap (λ (es : List ℕ). node f es (map tree_of next.items)) e
    ∙ (ap (λ (xs : List Tree). node f (es ++ last ∷ []) xs) (ap (map tree_of) n ∙ map_more tree_of ps here)
    ∙ node_put f es (map tree_of ps) last (tree_of here) (same ∙ sym (length-map ps tree_of)) alone (subst (λ (n : ℕ). 0 < n) (sym (length-map ps tree_of)) some)))

-- its last end
finishes-cuts : (d : ℕ) (f : Field) (ends : Vec ℕ) (next : Vec Cut) → finishes d (Cuts f ends next) ≡ ((length ends.items == length (map (finishes d) next.items) && ends_well (last_of d f) ends.items) && all_true (map (finishes d) next.items))
unfolding Rattle.mt_cuts.specs.declared.cut.Cut.TheViews.roll-Cut denote.Hole.Carrier.roll
finishes-cuts d f ends next = fold-roll-Cut Bool (layer_finishes d) (Cut-F.Cuts f ends next)

well_ends : (last : ℕ) (es : List ℕ) → ends_well last (es ++ last ∷ []) ≡ true
well_ends last [] = eq-eqb last last refl
well_ends last (e ∷ []) = eq-eqb last last refl
well_ends last (e ∷ e' ∷ es) = well_ends last (e' ∷ es)

pub all_more : (bs : List Bool) (b : Bool) → all_true bs ≡ true → b ≡ true → all_true (bs ++ b ∷ []) ≡ true
all_more [] b all one = and_from b true one refl
all_more (true ∷ bs) b all one = all_more bs b all one
all_more (false ∷ bs) b all one = absurd cc

more_length : {A : Type 0} (xs : List A) (x : A) → length (xs ++ x ∷ []) ≡ suc (length xs)
more_length [] x = refl
more_length (y ∷ ys) x = ap suc (more_length ys x)

pub finished_well : (d : ℕ) (f : Field) (ends : Vec ℕ) (next : Vec Cut) (es : List ℕ) (ps : List Cut) (last : ℕ) (here : Cut) → ends.items ≡ es ++ last ∷ [] → next.items ≡ ps ++ here ∷ [] → length es ≡ length ps → last ≡ last_of d f → all_true (map (finishes d) ps) ≡ true → finishes d here ≡ true → finishes d (Cuts f ends next) ≡ true
finished_well d f ends next es ps last here e n same is all one =
    let lengths : length ends.items ≡ length (map (finishes d) next.items) = ap length e ∙ (more_length es last ∙ (ap suc same ∙ (sym (more_length ps here) ∙ (ap length (sym n) ∙ sym (length-map next.items (finishes d)))))) in
    let well : ends_well (last_of d f) ends.items ≡ true = ap (ends_well (last_of d f)) e ∙ (ap (λ (n : ℕ). ends_well (last_of d f) (es ++ n ∷ [])) is ∙ well_ends (last_of d f) es) in
    let parts : all_true (map (finishes d) next.items) ≡ true = ap all_true (ap (map (finishes d)) n ∙ map_more (finishes d) ps here) ∙ all_more (map (finishes d) ps) (finishes d here) all one in
    finishes-cuts d f ends next ∙ and_from _ _ (and_from _ _ (eq-eqb _ _ lengths) well) parts

pub finishes-class : (d value : ℕ) → finishes d (Class value) ≡ true
unfolding Rattle.mt_cuts.specs.declared.cut.Cut.TheViews.roll-Cut denote.Hole.Carrier.roll
finishes-class d value = fold-roll-Cut Bool (layer_finishes d) (Cut-F.Class value)

pub all_finish_more : (d : ℕ) (ps : List Cut) (here : Cut) → all_true (map (finishes d) ps) ≡ true → finishes d here ≡ true → all_true (map (finishes d) (ps ++ here ∷ [])) ≡ true
all_finish_more d ps here all one = ap all_true (map_more (finishes d) ps here) ∙ all_more (map (finishes d) ps) (finishes d here) all one
