-- The node that a loop over parts has made so far.
use Rattle.std.proofs.Common.{◌≡◌, ◌<◌, ◌≤◌, ℕ, suc, List, [], ◌∷◌, ◌++◌, map, refl, sym, ◌∙◌, ap, subst, arith, inl, inr, true}
use Rattle.mt_packet.specs.Header.{number_of}
use Rattle.mt_packet.specs.declared.field.Field.{Field}
use Rattle.mt_cuts.specs.declared.cut.Cut.{Cut}
use Rattle.mt_cuts.specs.Tree.{Tree, class, cut, broken, value_of}
use Rattle.mt_cuts.specs.View.{tree_of}
use Rattle.mt_cuts.specs.Canonical.{IsRest, last_of, finishes, all_true}
use Rattle.mt_cuts.specs.Walk.{put, Joined}
use Rattle.mt_cuts.proofs.Walks.{Ends}
use Rattle.mt_cuts.proofs.Merging.{Merging, merging_begins, merging_goes_on, merging_more, merging_ends}
use Rattle.mt_cuts.proofs.Finished.{all_finish_more}

pub record Made (d : ℕ) (f : Field) (P : (Field → ℕ) → ℕ → Type 0) (ends : List ℕ) (parts : List Cut) (here : Cut) (end : ℕ) : Type 0 where
  pub made : Merging d f P ends (map tree_of parts) (tree_of here) end
  pub parts_finish : all_true (map (finishes d) parts) ≡ true
  pub here_finishes : finishes d here ≡ true

pub made_begins : (d : ℕ) (f : Field) (P : (Field → ℕ) → ℕ → Type 0) (ends : List ℕ) (parts : List Cut) (here : Cut) (end : ℕ) → Ends d f 0 end → IsRest d (suc (number_of f)) 0 (tree_of here)
    → ((h : Field → ℕ) → 0 ≤ h f → (end < last_of d f → h f ≤ end) → P h (value_of (tree_of here) h)) → finishes d here ≡ true → ends ≡ [] → parts ≡ [] → Made d f P ends parts here end
made_begins d f P ends parts here end e later means well es ps =
    record {
      made = subst (λ (es : List ℕ). Merging d f P es (map tree_of parts) (tree_of here) end) (sym es)
          (subst (λ (ps : List Cut). Merging d f P [] (map tree_of ps) (tree_of here) end) (sym ps) (merging_begins d f P (tree_of here) end e later means));
      parts_finish = subst (λ (ps : List Cut). all_true (map (finishes d) ps) ≡ true) (sym ps) refl;
      here_finishes = well;
    }

map_more : (xs : List Cut) (x : Cut) → map tree_of (xs ++ x ∷ []) ≡ map tree_of xs ++ tree_of x ∷ []
map_more [] x = refl
map_more (y ∷ ys) x = ap (λ zs. tree_of y ∷ zs) (map_more ys x)

-- a part more
pub made_goes : (d : ℕ) (f : Field) (P : (Field → ℕ) → ℕ → Type 0) (ends ends' : List ℕ) (parts parts' : List Cut) (here here' part : Cut) (end end' : ℕ)
    → Made d f P ends parts here end → end < last_of d f → Ends d f (suc end) end' → IsRest d (suc (number_of f)) 0 (tree_of part)
    → ((h : Field → ℕ) → suc end ≤ h f → (end' < last_of d f → h f ≤ end') → P h (value_of (tree_of part) h)) → finishes d part ≡ true
    → Joined ends parts ends' parts' here end part here' → Made d f P ends' parts' here' end'
made_goes d f P ends ends' parts parts' here here' part end end' l lt e later covered well joined =
    elim joined [
      | inl j ↦
          record {
            made = same_lists j.1 j.2 j.3 (merging_goes_on d f P ends (map tree_of parts) (tree_of here) (tree_of part) end end' l.made lt e j.0 covered);
            parts_finish = subst (λ (ps : List Cut). all_true (map (finishes d) ps) ≡ true) (sym j.2) l.parts_finish;
            here_finishes = subst (λ (t : Cut). finishes d t ≡ true) (sym j.3) l.here_finishes;
          }
      | inr j ↦
          record {
            made = more_lists j.1 j.2 j.3 (merging_more d f P ends (map tree_of parts) (tree_of here) (tree_of part) end end' l.made lt e j.0 later covered);
            parts_finish = subst (λ (ps : List Cut). all_true (map (finishes d) ps) ≡ true) (sym j.2) (all_finish_more d parts here l.parts_finish l.here_finishes);
            here_finishes = subst (λ (t : Cut). finishes d t ≡ true) (sym j.3) well;
          }
    ]
  where
    same_lists : ends' ≡ ends → parts' ≡ parts → here' ≡ here → Merging d f P ends (map tree_of parts) (tree_of here) end' → Merging d f P ends' (map tree_of parts') (tree_of here') end'
    same_lists es ps h m =
        subst (λ (es : List ℕ). Merging d f P es (map tree_of parts') (tree_of here') end') (sym es)
        (subst (λ (ps : List Cut). Merging d f P ends (map tree_of ps) (tree_of here') end') (sym ps)
        (subst (λ (t : Cut). Merging d f P ends (map tree_of parts) (tree_of t) end') (sym h) m))

    more_lists : ends' ≡ ends ++ end ∷ [] → parts' ≡ parts ++ here ∷ [] → here' ≡ part → Merging d f P (ends ++ end ∷ []) (map tree_of parts ++ tree_of here ∷ []) (tree_of part) end' → Merging d f P ends' (map tree_of parts') (tree_of here') end'
    more_lists es ps h m =
        subst (λ (es : List ℕ). Merging d f P es (map tree_of parts') (tree_of here') end') (sym es)
        (subst (λ (ts : List Tree). Merging d f P (ends ++ end ∷ []) ts (tree_of here') end') (sym (ap (map tree_of) ps ∙ map_more parts here))
        (subst (λ (t : Cut). Merging d f P (ends ++ end ∷ []) (map tree_of parts ++ tree_of here ∷ []) (tree_of t) end') (sym h) m))

-- the result, in the fields behind the settled ones
settled_rest : (d k : ℕ) (f : Field) (t : Tree) → k ≤ number_of f → IsRest d (number_of f) 0 t → IsRest d k 0 t
settled_rest d k f (class value) le r = tt
settled_rest d k f broken le r = r
settled_rest d k f (cut g e low high) le r =
    record { rises = omega (arith, r.rises); from_least = r.from_least; goes_on = λ same. omega arith; before_last = r.before_last; low_rest = r.low_rest; high_rest = r.high_rest; apart = r.apart }

pub made_ends : (d k : ℕ) (f : Field) (P : (Field → ℕ) → ℕ → Type 0) (ends : List ℕ) (parts : List Cut) (here : Cut) (end : ℕ)
    → Merging d f P ends (map tree_of parts) (tree_of here) end → last_of d f ≤ end → k ≤ number_of f → (t : Tree) → t ≡ put f ends (map tree_of parts) (tree_of here) → IsRest d k 0 t × ((h : Field → ℕ) → P h (value_of t h))
made_ends d k f P ends parts here end m whole le t is =
    let facts = merging_ends d f P ends (map tree_of parts) (tree_of here) end m whole in
    (settled_rest d k f t le (subst (IsRest d (number_of f) 0) (sym is) facts.0), λ h. subst (λ (t : Tree). P h (value_of t h)) (sym is) (facts.1 h))
