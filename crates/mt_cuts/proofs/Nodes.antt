-- The parts of a node.
use Rattle.std.proofs.Common.{◌≡◌, ◌≢◌, ◌+◌, ◌-◌, ◌<◌, ◌≤◌, ℕ, zero, suc, List, [], ◌∷◌, length, get_or, take, map, Some, slice_get, refl, sym, ◌∙◌, ap, subst, arith, inl, inr, nat_le, eq-eqb, ◌==◌}
use Rattle.std.proofs.lemmas.Bool.{cond-true, cond-false, le-leb, lt-leb, cases_lt, ne_eqb}
use Rattle.std.specs.Global.{Vec}
use Rattle.mt_packet.specs.Header.{number_of}
use Rattle.mt_packet.specs.declared.field.Field.{Field}
use Rattle.mt_cuts.specs.declared.cut.Cut.{Cut, fold-Cut, fold-roll-Cut}
use Rattle.mt_cuts.specs.declared.cut.Cut.TheVariants.{Class, Cuts}
use Rattle.mt_cuts.specs.declared.cut.Cut.TheOpen.{Cut-F}
use Rattle.mt_cuts.specs.Tree.{Tree, class, cut, broken, value_of}
use Rattle.mt_cuts.specs.View.{tree_of, layer_tree, node, chain, last_part, index_among}
use Rattle.mt_cuts.specs.Canonical.{IsRest, IsOrdered}
use Rattle.std.specs.List.Sorted.{IsStrictlyIncreasing}
use Rattle.std.proofs.lemmas.List.{length-map, get_or_default}
use Rattle.mt_cuts.proofs.Fields.{cases_field}
use Rattle.mt_cuts.proofs.Trees.{settle, value_low, value_high}

-- the last part of a node is on later fields
pub last_is : (devices : ℕ) (f : Field) (from : ℕ) (p : Tree) → IsRest devices (number_of f) from (last_part f p) → (last_part f p ≡ p) × IsRest devices (suc (number_of f)) 0 p
last_is devices f from (class value) r = (refl, tt)
last_is devices f from broken r = absurd r
last_is devices f from (cut g e low high) r =
    elim (cases_field g f) [
      | inl same ↦ absurd (subst (IsRest devices (number_of f) from) (cond-true (number_of g == number_of f) broken (cut g e low high) (eq-eqb (number_of g) (number_of f) (ap number_of same))) r)
      | inr apart ↦ past apart (cond-false (number_of g == number_of f) broken (cut g e low high) (ne_eqb (number_of g) (number_of f) apart)) r
    ]
  where
    past : number_of g ≢ number_of f → last_part f (cut g e low high) ≡ cut g e low high → IsRest devices (number_of f) from (last_part f (cut g e low high)) → (last_part f (cut g e low high) ≡ cut g e low high) × IsRest devices (suc (number_of f)) 0 (cut g e low high)
    past apart is r = (is, settle f devices from g e low high apart (subst (IsRest devices (number_of f) from) is r))

-- the ends of a node but the last
pub cuts_of : List ℕ → List Tree → List ℕ
cuts_of ends [] = []
cuts_of ends (part ∷ []) = []
cuts_of [] (part ∷ next ∷ parts) = []
cuts_of (end ∷ ends) (part ∷ next ∷ parts) = end ∷ cuts_of ends (next ∷ parts)

take_nil : (n : ℕ) → take {A = ℕ} n [] ≡ []
take_nil zero = refl
take_nil (suc n) = refl

pub take_cuts : (ends : List ℕ) (parts : List Tree) → take (length parts - 1) ends ≡ cuts_of ends parts
unfolding cuts_of
take_cuts ends [] = refl
take_cuts ends (part ∷ []) = refl
take_cuts [] (part ∷ next ∷ parts) = take_nil (length (part ∷ next ∷ parts) - 1)
take_cuts (end ∷ ends) (part ∷ next ∷ parts) =
    let less : length (part ∷ next ∷ parts) - 1 ≡ suc (length (next ∷ parts) - 1) = omega arith in
    ap (λ (n : ℕ). take n (end ∷ ends)) less ∙ ap (λ (es : List ℕ). end ∷ es) (take_cuts ends (next ∷ parts))

-- there are as many ends as parts, but for the last
pub chain_length : (devices : ℕ) (f : Field) (from : ℕ) (ends : List ℕ) (parts : List Tree) → IsRest devices (number_of f) from (chain f ends parts) → length (cuts_of ends parts) + 1 ≡ length parts
unfolding cuts_of
chain_length devices f from ends [] r = absurd r
chain_length devices f from ends (part ∷ []) r = refl
chain_length devices f from [] (part ∷ next ∷ parts) r = absurd r
chain_length devices f from (end ∷ ends) (part ∷ next ∷ parts) r = let more = chain_length devices f (suc end) ends (next ∷ parts) r.high_rest in omega arith

-- each end is above the one before
pub Rises : ℕ → List ℕ → Type 0
Rises from [] = Unit {0}
Rises from (end ∷ ends) = (from ≤ end) × Rises (suc end) ends

pub chain_rises : (devices : ℕ) (f : Field) (from : ℕ) (ends : List ℕ) (parts : List Tree) → IsRest devices (number_of f) from (chain f ends parts) → Rises from (cuts_of ends parts)
unfolding cuts_of Rises
chain_rises devices f from ends [] r = tt
chain_rises devices f from ends (part ∷ []) r = tt
chain_rises devices f from [] (part ∷ next ∷ parts) r = tt
chain_rises devices f from (end ∷ ends) (part ∷ next ∷ parts) r = (r.goes_on refl, chain_rises devices f (suc end) ends (next ∷ parts) r.high_rest)

pub increasing : (from : ℕ) (ends : List ℕ) → Rises from ends → (k j : ℕ) → j ≡ suc k → j < length ends → get_or ends k 0 < get_or ends j 0
unfolding Rises
increasing from [] r k j is lt = absurd (omega arith)
increasing from (end ∷ []) r k j is lt = absurd (omega arith)
increasing from (end ∷ next ∷ ends) r zero j is lt = subst (λ (j : ℕ). end < get_or (end ∷ next ∷ ends) j 0) (sym is) (omega (arith, r.1.0))
increasing from (end ∷ next ∷ ends) r (suc k) j is lt = subst (λ (j : ℕ). get_or (next ∷ ends) k 0 < get_or (end ∷ next ∷ ends) j 0) (sym is) (increasing (suc end) (next ∷ ends) r.1 k (suc k) refl (omega arith))

-- each part is on later fields
pub chain_part : (devices : ℕ) (f : Field) (from : ℕ) (ends : List ℕ) (parts : List Tree) → IsRest devices (number_of f) from (chain f ends parts) → (i : ℕ) (p : Tree) → slice_get parts i ≡ Some p → IsRest devices (suc (number_of f)) 0 p
chain_part devices f from ends [] r i p is = absurd r
chain_part devices f from ends (part ∷ []) r zero p is = let same : part ≡ p = cc in subst (IsRest devices (suc (number_of f)) 0) same (last_is devices f from part r).1
chain_part devices f from ends (part ∷ []) r (suc i) p is = absurd cc
chain_part devices f from [] (part ∷ next ∷ parts) r i p is = absurd r
chain_part devices f from (end ∷ ends) (part ∷ next ∷ parts) r zero p is = let same : part ≡ p = cc in subst (IsRest devices (suc (number_of f)) 0) same r.low_rest
chain_part devices f from (end ∷ ends) (part ∷ next ∷ parts) r (suc i) p is = chain_part devices f (suc end) ends (next ∷ parts) r.high_rest i p is

-- the value of a node is that of the part at the index of the header's value
pub chain_value : (devices : ℕ) (f : Field) (from : ℕ) (ends : List ℕ) (parts : List Tree) → IsRest devices (number_of f) from (chain f ends parts) → (h : Field → ℕ) → (p : Tree) → slice_get parts (index_among (h f) (cuts_of ends parts)) ≡ Some p → value_of (chain f ends parts) h ≡ value_of p h
unfolding cuts_of
chain_value devices f from ends [] r h p is = absurd r
chain_value devices f from ends (part ∷ []) r h p is = ap (λ (t : Tree). value_of t h) (last_is devices f from part r).0 ∙ (let same : part ≡ p = cc in ap (λ (t : Tree). value_of t h) same)
chain_value devices f from [] (part ∷ next ∷ parts) r h p is = absurd r
chain_value devices f from (end ∷ ends) (part ∷ next ∷ parts) r h p is =
    elim (cases_lt end (h f)) [
      | inl lt ↦ value_high f end part (chain f ends (next ∷ parts)) h lt
          ∙ chain_value devices f (suc end) ends (next ∷ parts) r.high_rest h p (subst (λ (i : ℕ). slice_get (part ∷ next ∷ parts) i ≡ Some p) (cond-false (nat_le (h f) end) 0 (suc (index_among (h f) (cuts_of ends (next ∷ parts)))) (lt-leb (h f) end lt)) is)
      | inr le ↦ value_low f end part (chain f ends (next ∷ parts)) h le
          ∙ ap (λ (t : Tree). value_of t h) (some_first (subst (λ (i : ℕ). slice_get (part ∷ next ∷ parts) i ≡ Some p) (cond-true (nat_le (h f) end) 0 (suc (index_among (h f) (cuts_of ends (next ∷ parts)))) (le-leb (h f) end le)) is))
    ]
  where
    some_first : Some part ≡ Some p → part ≡ p
    some_first e = cc

pub index-below : (v : ℕ) (ends : List ℕ) → index_among v ends ≤ length ends
index-below v [] = omega arith
index-below v (end ∷ ends) =
    elim (cases_lt end v) [
      | inl lt ↦ let more = index-below v ends in subst (λ (i : ℕ). i ≤ suc (length ends)) (sym (cond-false (nat_le v end) 0 (suc (index_among v ends)) (lt-leb v end lt))) (omega arith)
      | inr le ↦ subst (λ (i : ℕ). i ≤ suc (length ends)) (sym (cond-true (nat_le v end) 0 (suc (index_among v ends)) (le-leb v end le))) (omega arith)
    ]

-- a node is a chain at its own field
pub node_chain : (devices : ℕ) (f : Field) (settled from : ℕ) (ends : List ℕ) (parts : List Tree) → IsRest devices settled from (node f ends parts) → (node f ends parts ≡ chain f ends parts) × IsRest devices (number_of f) 0 (chain f ends parts) × (settled ≤ number_of f) × (2 ≤ length parts)
node_chain devices f settled from ends [] r = absurd r
node_chain devices f settled from ends (part ∷ []) r = absurd r
node_chain devices f settled from [] (part ∷ next ∷ parts) r = absurd r
node_chain devices f settled from (end ∷ ends) (part ∷ next ∷ parts) r =
    (refl, record { rises = omega arith; from_least = r.from_least; goes_on = λ same. omega arith; before_last = r.before_last; low_rest = r.low_rest; high_rest = r.high_rest; apart = r.apart }, r.rises, omega arith)

-- the tree of a `Cut`
pub tree-class : (value : ℕ) → tree_of (Class value) ≡ class value
unfolding Rattle.mt_cuts.specs.declared.cut.Cut.TheViews.roll-Cut denote.Hole.Carrier.roll
tree-class value = fold-roll-Cut Tree layer_tree (Cut-F.Class value)

pub tree-cuts : (field : Field) (ends : Vec ℕ) (next : Vec Cut) → tree_of (Cuts field ends next) ≡ node field ends.items (map tree_of next.items)
unfolding Rattle.mt_cuts.specs.declared.cut.Cut.TheViews.roll-Cut denote.Hole.Carrier.roll
tree-cuts field ends next = fold-roll-Cut Tree layer_tree (Cut-F.Cuts field ends next)

-- a node as a chain of its parts
pub record Opened (t : Tree) (f : Field) (ends : List ℕ) (parts : List Tree) : Type 0 where
  pub devices : ℕ
  pub is : t ≡ chain f ends parts
  pub rest : IsRest devices (number_of f) 0 (chain f ends parts)
  pub two : 2 ≤ length parts

pub opened : (c : Cut) (f : Field) (ends : Vec ℕ) (next : Vec Cut) → c ≡ Cuts f ends next → IsOrdered (tree_of c) → Opened (tree_of c) f ends.items (map tree_of next.items)
opened c f ends next is o =
    let e : tree_of c ≡ node f ends.items (map tree_of next.items) = ap tree_of is ∙ tree-cuts f ends next in
    let facts = node_chain o.devices f o.settled 0 ends.items (map tree_of next.items) (subst (IsRest o.devices o.settled 0) e o.rest) in
    record { devices = o.devices; is = e ∙ facts.0; rest = facts.1; two = facts.3 }

-- an element's image
pub mapped_get : {A B : Type 0} (g : A → B) (xs : List A) (at : ℕ) (x : A) → at < length xs → x ≡ get_or xs at x → slice_get (map g xs) at ≡ Some (g x)
mapped_get g [] at x lt is = absurd (omega arith)
mapped_get g (y ∷ ys) zero x lt is = ap (λ z. Some (g z)) (sym is)
mapped_get g (y ∷ ys) (suc at) x lt is = mapped_get g ys at x (omega arith) is

-- the ends that are searched
pub searched_ends : (t : Tree) (f : Field) (ends : List ℕ) (next : List Cut) → Opened t f ends (map tree_of next) → (n : ℕ) → n ≡ length next → n - 1 ≡ length (take (n - 1) ends)
searched_ends t f ends next o n is =
    let count = chain_length o.devices f 0 ends (map tree_of next) o.rest in
    let parts : length (map tree_of next) ≡ n = length-map next tree_of ∙ sym is in
    let taken : take (n - 1) ends ≡ cuts_of ends (map tree_of next) = ap (λ (m : ℕ). take (m - 1) ends) (sym parts) ∙ take_cuts ends (map tree_of next) in
    sym (ap length taken ∙ omega (arith, count, parts))

pub searched_rise : (t : Tree) (f : Field) (ends : List ℕ) (next : List Cut) → Opened t f ends (map tree_of next) → (n : ℕ) → n ≡ length next → IsStrictlyIncreasing (take (n - 1) ends)
searched_rise t f ends next o n is =
    let parts : length (map tree_of next) ≡ n = length-map next tree_of ∙ sym is in
    let taken : take (n - 1) ends ≡ cuts_of ends (map tree_of next) = ap (λ (m : ℕ). take (m - 1) ends) (sym parts) ∙ take_cuts ends (map tree_of next) in
    subst IsStrictlyIncreasing (sym taken) (λ k lt. increasing 0 (cuts_of ends (map tree_of next)) (chain_rises o.devices f 0 ends (map tree_of next) o.rest) k (k + 1) (omega arith) lt)

-- the index that is found is that of a part
pub searched_below : (t : Tree) (f : Field) (ends : List ℕ) (next : List Cut) → Opened t f ends (map tree_of next) → (n at v : ℕ) → n ≡ length next → at ≡ index_among v (take (n - 1) ends) → at < n
searched_below t f ends next o n at v is found =
    let most = index-below v (take (n - 1) ends) in
    let count = searched_ends t f ends next o n is in
    let parts : length (map tree_of next) ≡ n = length-map next tree_of ∙ sym is in
    omega (arith, o.two)

-- the part that is found gives the header the node's value
pub searched_value : (t : Tree) (f : Field) (ends : List ℕ) (next : List Cut) → Opened t f ends (map tree_of next) → (n at v : ℕ) → n ≡ length next → at ≡ index_among v (take (n - 1) ends) → (h : Field → ℕ) → v ≡ h f → (part : Cut) → at < length next → part ≡ get_or next at part → (value_of (tree_of part) h ≡ value_of t h) × IsOrdered (tree_of part)
searched_value t f ends next o n at v is found h here part lt got =
    let parts : length (map tree_of next) ≡ n = length-map next tree_of ∙ sym is in
    let taken : take (n - 1) ends ≡ cuts_of ends (map tree_of next) = ap (λ (m : ℕ). take (m - 1) ends) (sym parts) ∙ take_cuts ends (map tree_of next) in
    let same : at ≡ index_among (h f) (cuts_of ends (map tree_of next)) = found ∙ (ap (λ (es : List ℕ). index_among v es) taken ∙ ap (λ (m : ℕ). index_among m (cuts_of ends (map tree_of next))) here) in
    let image = mapped_get tree_of next at part lt got in (
      sym (ap (λ (u : Tree). value_of u h) o.is ∙ chain_value o.devices f 0 ends (map tree_of next) o.rest h (tree_of part) (subst (λ (i : ℕ). slice_get (map tree_of next) i ≡ Some (tree_of part)) same image)),
      record { devices = o.devices; settled = suc (number_of f); rest = chain_part o.devices f 0 ends (map tree_of next) o.rest at (tree_of part) image },
    )

-- what is on later fields is no cut of a field
no_cut : (devices : ℕ) (f : Field) (e : ℕ) (low high p : Tree) → IsRest devices (suc (number_of f)) 0 p → p ≡ cut f e low high → ⊥
no_cut devices f e low high p r is = let moved = subst (IsRest devices (suc (number_of f)) 0) is r in omega (arith, moved.rises)

-- equal chains have equal ends but for the last, and equal parts
pub chain_injective : (devices devices' : ℕ) (f : Field) (from from' : ℕ) (es es' : List ℕ) (ps ps' : List Tree) → IsRest devices (number_of f) from (chain f es ps) → IsRest devices' (number_of f) from' (chain f es' ps') → chain f es ps ≡ chain f es' ps' → (cuts_of es ps ≡ cuts_of es' ps') × (ps ≡ ps')
unfolding cuts_of
chain_injective d d' f from from' es es' [] ps' r s same = absurd r
chain_injective d d' f from from' es es' (p ∷ []) [] r s same = absurd s
chain_injective d d' f from from' es es' (p ∷ []) (p' ∷ []) r s same =
    let left : last_part f p ≡ p = (last_is d f from p r).0 in
    let right : last_part f p' ≡ p' = (last_is d' f from' p' s).0 in
    let equal : p ≡ p' = sym left ∙ (same ∙ right) in (refl, cc)
chain_injective d d' f from from' es [] (p ∷ []) (p' ∷ q' ∷ ps') r s same = absurd s
chain_injective d d' f from from' es (e' ∷ es') (p ∷ []) (p' ∷ q' ∷ ps') r s same =
    absurd (no_cut d f e' p' (chain f es' (q' ∷ ps')) p (last_is d f from p r).1 (sym (last_is d f from p r).0 ∙ same))
chain_injective d d' f from from' [] es' (p ∷ q ∷ ps) ps' r s same = absurd r
chain_injective d d' f from from' (e ∷ es) es' (p ∷ q ∷ ps) [] r s same = absurd s
chain_injective d d' f from from' (e ∷ es) es' (p ∷ q ∷ ps) (p' ∷ []) r s same =
    absurd (no_cut d' f e p (chain f es (q ∷ ps)) p' (last_is d' f from' p' s).1 (sym (last_is d' f from' p' s).0 ∙ sym same))
chain_injective d d' f from from' (e ∷ es) [] (p ∷ q ∷ ps) (p' ∷ q' ∷ ps') r s same = absurd s
chain_injective d d' f from from' (e ∷ es) (e' ∷ es') (p ∷ q ∷ ps) (p' ∷ q' ∷ ps') r s same =
    let ends : e ≡ e' = cc in
    let firsts : p ≡ p' = cc in
    let rests : chain f es (q ∷ ps) ≡ chain f es' (q' ∷ ps') = cc in
    let more = chain_injective d d' f (suc e) (suc e') es es' (q ∷ ps) (q' ∷ ps') r.high_rest s.high_rest rests in
    (cc (more.0), cc (more.1))

-- the last end says nothing
pub chain_cuts : (f : Field) (es : List ℕ) (ps : List Tree) → chain f es ps ≡ chain f (cuts_of es ps) ps
unfolding cuts_of
chain_cuts f es [] = refl
chain_cuts f es (p ∷ []) = refl
chain_cuts f [] (p ∷ q ∷ ps) = refl
chain_cuts f (e ∷ es) (p ∷ q ∷ ps) = ap (cut f e p) (chain_cuts f es (q ∷ ps))

-- a chain of two parts and more is a cut of its field
chain_field : (f g : Field) (es es' : List ℕ) (ps ps' : List Tree) (d d' : ℕ) → IsRest d (number_of f) 0 (chain f es ps) → IsRest d' (number_of g) 0 (chain g es' ps') → 2 ≤ length ps → 2 ≤ length ps' → chain f es ps ≡ chain g es' ps' → f ≡ g
chain_field f g es es' [] ps' d d' r s two two' same = absurd r
chain_field f g es es' (p ∷ []) ps' d d' r s two two' same = absurd (omega arith)
chain_field f g [] es' (p ∷ q ∷ ps) ps' d d' r s two two' same = absurd r
chain_field f g (e ∷ es) es' (p ∷ q ∷ ps) [] d d' r s two two' same = absurd s
chain_field f g (e ∷ es) es' (p ∷ q ∷ ps) (p' ∷ []) d d' r s two two' same = absurd (omega arith)
chain_field f g (e ∷ es) [] (p ∷ q ∷ ps) (p' ∷ q' ∷ ps') d d' r s two two' same = absurd s
chain_field f g (e ∷ es) (e' ∷ es') (p ∷ q ∷ ps) (p' ∷ q' ∷ ps') d d' r s two two' same = cc

-- equal nodes have the same field, the same ends but for the last, and the same parts
pub node_parts : (t u : Tree) (f g : Field) (es es' : List ℕ) (ps ps' : List Tree) → Opened t f es ps → Opened u g es' ps' → t ≡ u → (f ≡ g) × (cuts_of es ps ≡ cuts_of es' ps') × (ps ≡ ps')
node_parts t u f g es es' ps ps' o o' same =
    let chains : chain f es ps ≡ chain g es' ps' = sym o.is ∙ (same ∙ o'.is) in
    let fields : f ≡ g = chain_field f g es es' ps ps' o.devices o'.devices o.rest o'.rest o.two o'.two chains in
    let moved = subst (λ (g : Field). IsRest o'.devices (number_of g) 0 (chain g es' ps')) (sym fields) o'.rest in
    let parts = chain_injective o.devices o'.devices f 0 0 es es' ps ps' o.rest moved (chains ∙ ap (λ (g : Field). chain g es' ps') (sym fields)) in
    (fields, parts.0, parts.1)

pub node_made : (t u : Tree) (f g : Field) (es es' : List ℕ) (ps ps' : List Tree) → Opened t f es ps → Opened u g es' ps' → f ≡ g → cuts_of es ps ≡ cuts_of es' ps' → ps ≡ ps' → t ≡ u
node_made t u f g es es' ps ps' o o' fields ends parts =
    o.is ∙ (chain_cuts f es ps ∙ (chains fields ends parts ∙ (sym (chain_cuts g es' ps') ∙ sym o'.is)))
  where
    chains : f ≡ g → cuts_of es ps ≡ cuts_of es' ps' → ps ≡ ps' → chain f (cuts_of es ps) ps ≡ chain g (cuts_of es' ps') ps'
    chains fields ends parts = cc

-- equal nodes have as many parts
pub same_length : (t u : Tree) (f g : Field) (es es' : List ℕ) (xs ys : List Cut) → Opened t f es (map tree_of xs) → Opened u g es' (map tree_of ys) → t ≡ u → length xs ≡ length ys
same_length t u f g es es' xs ys o o' same =
    sym (length-map xs tree_of) ∙ (ap length (node_parts t u f g es es' (map tree_of xs) (map tree_of ys) o o' same).2 ∙ length-map ys tree_of)

cuts_taken : (es : List ℕ) (xs : List Cut) (n : ℕ) → n ≡ length xs → take (n - 1) es ≡ cuts_of es (map tree_of xs)
cuts_taken es xs n is = ap (λ (m : ℕ). take (m - 1) es) (is ∙ sym (length-map xs tree_of)) ∙ take_cuts es (map tree_of xs)

pub same_ends : (t u : Tree) (f g : Field) (es es' : List ℕ) (xs ys : List Cut) (n m : ℕ) → Opened t f es (map tree_of xs) → Opened u g es' (map tree_of ys) → n ≡ length xs → m ≡ length ys → n ≡ m → t ≡ u → (f ≡ g) × (take (n - 1) es ≡ take (n - 1) es')
same_ends t u f g es es' xs ys n m o o' is is' as_many same =
    let parts = node_parts t u f g es es' (map tree_of xs) (map tree_of ys) o o' same in
    (parts.0, cuts_taken es xs n is ∙ (parts.1 ∙ sym (cuts_taken es' ys n (as_many ∙ is'))))

pub nodes_same : (t u : Tree) (f g : Field) (es es' : List ℕ) (xs ys : List Cut) (n m : ℕ) → Opened t f es (map tree_of xs) → Opened u g es' (map tree_of ys) → n ≡ length xs → m ≡ length ys → n ≡ m → (f ≡ g) × (take (n - 1) es ≡ take (n - 1) es') → map tree_of xs ≡ map tree_of ys → t ≡ u
nodes_same t u f g es es' xs ys n m o o' is is' as_many alike parts =
    node_made t u f g es es' (map tree_of xs) (map tree_of ys) o o' alike.0 (sym (cuts_taken es xs n is) ∙ (alike.1 ∙ cuts_taken es' ys n (as_many ∙ is'))) parts

pub parts_ordered : (t : Tree) (f : Field) (es : List ℕ) (xs : List Cut) → Opened t f es (map tree_of xs) → (k : ℕ) (d : Cut) → k < length xs → IsOrdered (tree_of (get_or xs k d))
parts_ordered t f es xs o k d lt =
    record { devices = o.devices; settled = suc (number_of f); rest = chain_part o.devices f 0 es (map tree_of xs) o.rest k (tree_of (get_or xs k d)) (mapped_get tree_of xs k (get_or xs k d) lt (get_or_default xs k d (get_or xs k d) lt)) }

-- lists whose images are equal, one by one
pub map_same : {A B : Type 0} (g : A → B) (xs ys : List A) → length xs ≡ length ys → ((k : ℕ) (d : A) → k < length xs → g (get_or xs k d) ≡ g (get_or ys k d)) → map g xs ≡ map g ys
map_same g [] [] as_many same = refl
map_same g [] (y ∷ ys) as_many same = absurd (omega arith)
map_same g (x ∷ xs) [] as_many same = absurd (omega arith)
map_same g (x ∷ xs) (y ∷ ys) as_many same =
    let first : g x ≡ g y = same 0 x (omega arith) in
    let more = map_same g xs ys (omega arith) (λ k d lt. same (suc k) d (omega arith)) in cc

pub map_at : {A B : Type 0} (g : A → B) (xs ys : List A) (k : ℕ) (d : A) → map g xs ≡ map g ys → k < length xs → length xs ≡ length ys → g (get_or xs k d) ≡ g (get_or ys k d)
map_at g [] ys k d same lt as_many = absurd (omega arith)
map_at g (x ∷ xs) [] k d same lt as_many = absurd (omega arith)
map_at g (x ∷ xs) (y ∷ ys) zero d same lt as_many = cc
map_at g (x ∷ xs) (y ∷ ys) (suc k) d same lt as_many = map_at g xs ys k d (cc) (omega arith) (omega arith)

-- a tree that does not cut a field is its own last part
chain_alone : (d : ℕ) (f g : Field) (es : List ℕ) (ps : List Tree) → IsRest d (number_of g) 0 (chain g es ps) → 2 ≤ length ps → number_of g ≢ number_of f → last_part f (chain g es ps) ≡ chain g es ps
chain_alone d f g es [] r two apart = absurd r
chain_alone d f g es (p ∷ []) r two apart = absurd (omega arith)
chain_alone d f g [] (p ∷ q ∷ ps) r two apart = absurd r
chain_alone d f g (e ∷ es) (p ∷ q ∷ ps) r two apart = cond-false (number_of g == number_of f) broken (cut g e p (chain g es (q ∷ ps))) (ne_eqb (number_of g) (number_of f) apart)

pub alone-class : (c : Cut) (value : ℕ) (f : Field) → c ≡ Class value → last_part f (tree_of c) ≡ tree_of c
alone-class c value f is = subst (λ (t : Tree). last_part f t ≡ t) (sym (ap tree_of is ∙ tree-class value)) refl

pub alone-cuts : (t : Tree) (f g : Field) (es : List ℕ) (ps : List Tree) → Opened t g es ps → number_of g ≢ number_of f → last_part f t ≡ t
alone-cuts t f g es ps o apart = subst (λ (t : Tree). last_part f t ≡ t) (sym o.is) (chain_alone o.devices f g es ps o.rest o.two apart)
