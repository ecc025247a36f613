-- Bytes that are set at spots of a packet: in the fixed part of its header, and behind the header.
use Rattle.std.proofs.Common.{◌≡◌, ◌≢◌, ◌∙◌, sym, ap, refl, ℕ, ◌+◌, ◌≤◌, List, [], ◌∷◌, length, get_or, set, take, Bool, true, false, eqb, ltb, not, ◌&&◌, arith}
use Rattle.std.proofs.lemmas.Bool.Decides.{nat_tests}
use Rattle.std.proofs.lemmas.List.{get_or-set_other, length-set, set-set, set_comm, set-get_or, take-set-le}

-- a byte of the fixed part, by its offset; a byte behind the header, by its distance from the header's end
pub data Spot : Type 0 where
  low : ℕ → Spot
  high : ℕ → Spot

-- the offset of a spot in a packet whose header has some length
abbrev pub offset_of : ℕ → Spot → ℕ
offset_of h (low i) = i
offset_of h (high k) = h + k

-- two spots differ, whatever the length of the header
abbrev pub apart : Spot → Spot → Bool
apart (low i) (low j) = not (eqb i j)
apart (low i) (high k) = ltb i 20
apart (high k) (low i) = ltb i 20
apart (high j) (high k) = not (eqb j k)

pub apart-offsets : (h : ℕ) (s t : Spot) → 20 ≤ h → apart s t ≡ true → offset_of h s ≢ offset_of h t
apart-offsets h (low i) (low j) least a = λ e. both-low i j a e
  where
    both-low : (i j : ℕ) → not (eqb i j) ≡ true → i ≡ j → ⊥
    both-low i j a e = grind (arith, nat_tests)
apart-offsets h (low i) (high k) least a = λ e. below h i k least a e
  where
    below : (h i k : ℕ) → 20 ≤ h → ltb i 20 ≡ true → i ≡ h + k → ⊥
    below h i k least a e = grind (arith, nat_tests)
apart-offsets h (high k) (low i) least a = λ e. above h i k least a e
  where
    above : (h i k : ℕ) → 20 ≤ h → ltb i 20 ≡ true → h + k ≡ i → ⊥
    above h i k least a e = grind (arith, nat_tests)
apart-offsets h (high j) (high k) least a = λ e. both-high h j k a e
  where
    both-high : (h j k : ℕ) → not (eqb j k) ≡ true → h + j ≡ h + k → ⊥
    both-high h j k a e = grind (arith, nat_tests)

-- bytes set one after the other
abbrev pub sets : ℕ → List (Spot × ℕ) → List ℕ → List ℕ
sets h [] d = d
sets h (w ∷ ws) d = sets h ws (set d (offset_of h w.0) w.1)

-- none of the bytes stands at a spot
abbrev pub clear : List (Spot × ℕ) → Spot → Bool
clear [] s = true
clear (w ∷ ws) s = apart w.0 s && clear ws s

-- no two bytes stand at one spot
abbrev pub disjoint : List (Spot × ℕ) → List (Spot × ℕ) → Bool
disjoint ws [] = true
disjoint ws (u ∷ us) = clear ws u.0 && disjoint ws us

-- two spots are one
abbrev pub same : Spot → Spot → Bool
same (low i) (low j) = eqb i j
same (high i) (high j) = eqb i j
same (low i) (high j) = false
same (high i) (low j) = false

-- the same spots, each once
abbrev pub renew : List (Spot × ℕ) → List (Spot × ℕ) → Bool
renew [] [] = true
renew [] (u ∷ us) = false
renew (w ∷ ws) [] = false
renew (w ∷ ws) (u ∷ us) = same w.0 u.0 && (clear ws u.0 && renew ws us)

same-offset : (h : ℕ) (s t : Spot) → same s t ≡ true → offset_of h s ≡ offset_of h t
same-offset h (low i) (low j) e = grind (arith, nat_tests)
same-offset h (low i) (high j) e = cc
same-offset h (high i) (low j) e = cc
same-offset h (high i) (high j) e = ap (λ n. h + n) (equal i j e)
  where
    equal : (i j : ℕ) → eqb i j ≡ true → i ≡ j
    equal i j e = grind (arith, nat_tests)

-- the bytes have these values already
abbrev pub Holds : ℕ → List (Spot × ℕ) → List ℕ → Type 0
Holds h [] d = Unit {0}
Holds h (w ∷ ws) d = (get_or d (offset_of h w.0) 0 ≡ w.1) × Holds h ws d

-- all stand behind the header
abbrev pub beyond : List (Spot × ℕ) → Bool
beyond [] = true
beyond ((low i, v) ∷ ws) = false
beyond ((high k, v) ∷ ws) = beyond ws

pub left : (a b : Bool) → (a && b) ≡ true → a ≡ true
left true b h = refl
left false b h = cc

pub right : (a b : Bool) → (a && b) ≡ true → b ≡ true
right true b h = h
right false b h = cc

pub sets-length : (h : ℕ) (ws : List (Spot × ℕ)) (d : List ℕ) → length (sets h ws d) ≡ length d
sets-length h [] d = refl
sets-length h (w ∷ ws) d = sets-length h ws (set d (offset_of h w.0) w.1) ∙ length-set d (offset_of h w.0) w.1

-- a byte at a spot where none is set
pub sets-at : (h : ℕ) (ws : List (Spot × ℕ)) (s : Spot) (d : List ℕ) → 20 ≤ h → clear ws s ≡ true
    → get_or (sets h ws d) (offset_of h s) 0 ≡ get_or d (offset_of h s) 0
sets-at h [] s d least c = refl
sets-at h (w ∷ ws) s d least c =
    let here = apart-offsets h w.0 s least (left (apart w.0 s) (clear ws s) c) in
    sets-at h ws s (set d (offset_of h w.0) w.1) least (right (apart w.0 s) (clear ws s) c)
    ∙ get_or-set_other d (offset_of h w.0) (offset_of h s) w.1 0 (λ e. here (sym e))

-- a byte set before is set behind
pub sets-set : (h : ℕ) (ws : List (Spot × ℕ)) (s : Spot) (v : ℕ) (d : List ℕ) → 20 ≤ h → clear ws s ≡ true
    → sets h ws (set d (offset_of h s) v) ≡ set (sets h ws d) (offset_of h s) v
sets-set h [] s v d least c = refl
sets-set h (w ∷ ws) s v d least c =
    let here = apart-offsets h w.0 s least (left (apart w.0 s) (clear ws s) c) in
    ap (sets h ws) (set_comm d (offset_of h s) (offset_of h w.0) v w.1 (λ e. here (sym e)))
    ∙ sets-set h ws s v (set d (offset_of h w.0) w.1) least (right (apart w.0 s) (clear ws s) c)

-- bytes at other spots are set in either order
pub sets-sets : (h : ℕ) (ws us : List (Spot × ℕ)) (d : List ℕ) → 20 ≤ h → disjoint ws us ≡ true
    → sets h ws (sets h us d) ≡ sets h us (sets h ws d)
sets-sets h ws [] d least c = refl
sets-sets h ws (u ∷ us) d least c =
    sets-sets h ws us (set d (offset_of h u.0) u.1) least (right (clear ws u.0) (disjoint ws us) c)
    ∙ ap (sets h us) (sets-set h ws u.0 u.1 d least (left (clear ws u.0) (disjoint ws us) c))

-- bytes that are held are set to no effect
pub sets-same : (h : ℕ) (ws : List (Spot × ℕ)) (d : List ℕ) → Holds h ws d → sets h ws d ≡ d
sets-same h [] d held = refl
sets-same h (w ∷ ws) d held =
    ap (sets h ws) (ap (λ v. set d (offset_of h w.0) v) (sym held.0) ∙ set-get_or d (offset_of h w.0) 0)
    ∙ sets-same h ws d held.1

-- bytes behind the header leave the header
pub take-sets : (h : ℕ) (ws : List (Spot × ℕ)) (d : List ℕ) → beyond ws ≡ true → take h (sets h ws d) ≡ take h d
take-sets h [] d b = refl
take-sets h ((low i, v) ∷ ws) d b = cc
take-sets h ((high k, v) ∷ ws) d b =
    take-sets h ws (set d (h + k) v) b ∙ take-set-le h d (h + k) v (omega arith)

-- the last byte that is set at a spot stays
pub sets-again : (h : ℕ) (ws us : List (Spot × ℕ)) (d : List ℕ) → 20 ≤ h → renew ws us ≡ true
    → sets h us (sets h ws d) ≡ sets h us d
sets-again h [] [] d least r = refl
sets-again h [] (u ∷ us) d least r = cc
sets-again h (w ∷ ws) [] d least r = cc
sets-again h (w ∷ ws) (u ∷ us) d least r =
    let one = same-offset h w.0 u.0 (left (same w.0 u.0) (clear ws u.0 && renew ws us) r) in
    let rest = right (same w.0 u.0) (clear ws u.0 && renew ws us) r in
    ap (sets h us)
    (sym (sets-set h ws u.0 u.1 (set d (offset_of h w.0) w.1) least (left (clear ws u.0) (renew ws us) rest))
    ∙ ap (sets h ws) (ap (λ i. set (set d i w.1) (offset_of h u.0) u.1) one ∙ set-set d (offset_of h u.0) w.1 u.1))
    ∙ sets-again h ws us (set d (offset_of h u.0) u.1) least (right (clear ws u.0) (renew ws us) rest)
