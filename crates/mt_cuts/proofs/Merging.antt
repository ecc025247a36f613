-- A node that is made part by part, from the least value to the last.
use Rattle.std.proofs.Common.{◌≡◌, ◌≢◌, ◌<◌, ◌≤◌, ℕ, suc, List, [], ◌∷◌, ◌++◌, length, refl, sym, ◌∙◌, ap, subst, arith, inl, inr}
use Rattle.std.proofs.lemmas.Bool.{cases_lt}
use Rattle.mt_packet.specs.Header.{number_of}
use Rattle.mt_packet.specs.declared.field.Field.{Field}
use Rattle.mt_cuts.specs.Tree.{Tree, cut, value_of, piece}
use Rattle.mt_cuts.specs.Canonical.{IsRest, least_of, last_of}
use Rattle.mt_cuts.specs.Walk.{put}
use Rattle.mt_cuts.proofs.Trees.{piece_low, value_low, value_high}
use Rattle.mt_cuts.proofs.Walks.{later_piece, later_rest, Ends}

-- so far: the parts in front, and the part that covers the values up to an end. A tree behind the parts in
-- front, whatever it is, leaves the headers in front of that part their wanted values, and has its own from there on.
pub record Merging (d : ℕ) (f : Field) (P : (Field → ℕ) → ℕ → Type 0) (ends : List ℕ) (parts : List Tree) (part : Tree) (end : ℕ) : Type 0 where
  pub from : ℕ
  pub covers : from ≤ end
  pub to_last : end ≤ last_of d f
  pub least : end < last_of d f → least_of f ≤ end
  pub as_many : length ends ≡ length parts
  pub later : IsRest d (suc (number_of f)) 0 part
  pub means : (h : Field → ℕ) → from ≤ h f → (end < last_of d f → h f ≤ end) → P h (value_of part h)
  pub canonical : (t : Tree) → IsRest d (number_of f) from t → piece f from t ≡ part → IsRest d (number_of f) 0 (put f ends parts t)
  pub front : (t : Tree) (h : Field → ℕ) → h f < from → P h (value_of (put f ends parts t) h)
  pub behind : (t : Tree) (h : Field → ℕ) → from ≤ h f → value_of (put f ends parts t) h ≡ value_of t h

-- the first part
pub merging_begins : (d : ℕ) (f : Field) (P : (Field → ℕ) → ℕ → Type 0) (part : Tree) (end : ℕ) → Ends d f 0 end → IsRest d (suc (number_of f)) 0 part → ((h : Field → ℕ) → 0 ≤ h f → (end < last_of d f → h f ≤ end) → P h (value_of part h)) → Merging d f P [] [] part end
merging_begins d f P part end e later means =
    record { from = 0; covers = e.from_start; to_last = e.to_last; least = e.least; as_many = refl; later = later; means = means; canonical = λ t r same. r; front = λ t h lt. absurd (omega arith); behind = λ t h low. refl }

-- an equal part goes on
pub merging_goes_on : (d : ℕ) (f : Field) (P : (Field → ℕ) → ℕ → Type 0) (ends : List ℕ) (parts : List Tree) (part next : Tree) (end end' : ℕ) → Merging d f P ends parts part end → end < last_of d f → Ends d f (suc end) end' → part ≡ next → ((h : Field → ℕ) → suc end ≤ h f → (end' < last_of d f → h f ≤ end') → P h (value_of next h)) → Merging d f P ends parts part end'
merging_goes_on d f P ends parts part next end end' m lt e same means =
    record {
      from = m.from;
      covers = omega (arith, m.covers, e.from_start);
      to_last = e.to_last;
      least = e.least;
      as_many = m.as_many;
      later = m.later;
      means = λ h low covered. elim (cases_lt end (h f)) [
        | inl above ↦ subst (λ (t : Tree). P h (value_of t h)) (sym same) (means h above covered)
        | inr le ↦ m.means h low (λ _. le)
      ];
      canonical = m.canonical;
      front = m.front;
      behind = m.behind;
    }

put_more : (f : Field) (ends : List ℕ) (parts : List Tree) (end : ℕ) (part t : Tree) → length ends ≡ length parts → put f (ends ++ end ∷ []) (parts ++ part ∷ []) t ≡ put f ends parts (cut f end part t)
put_more f [] [] end part t same = refl
put_more f [] (p ∷ ps) end part t same = absurd (omega arith)
put_more f (e ∷ es) [] end part t same = absurd (omega arith)
put_more f (e ∷ es) (p ∷ ps) end part t same = ap (cut f e p) (put_more f es ps end part t (omega arith))

more_lengths : {A B : Type 0} (xs : List A) (ys : List B) (x : A) (y : B) → length xs ≡ length ys → length (xs ++ x ∷ []) ≡ length (ys ++ y ∷ [])
more_lengths [] [] x y same = refl
more_lengths [] (b ∷ ys) x y same = absurd (omega arith)
more_lengths (a ∷ xs) [] x y same = absurd (omega arith)
more_lengths (a ∷ xs) (b ∷ ys) x y same = let more = more_lengths xs ys x y (omega arith) in omega arith

-- another part begins
pub merging_more : (d : ℕ) (f : Field) (P : (Field → ℕ) → ℕ → Type 0) (ends : List ℕ) (parts : List Tree) (part next : Tree) (end end' : ℕ) → Merging d f P ends parts part end → end < last_of d f → Ends d f (suc end) end' → part ≢ next → IsRest d (suc (number_of f)) 0 next → ((h : Field → ℕ) → suc end ≤ h f → (end' < last_of d f → h f ≤ end') → P h (value_of next h)) → Merging d f P (ends ++ end ∷ []) (parts ++ part ∷ []) next end'
merging_more d f P ends parts part next end end' m lt e apart later means =
    record {
      from = suc end;
      covers = e.from_start;
      to_last = e.to_last;
      least = e.least;
      as_many = more_lengths ends parts end part m.as_many;
      later = later;
      means = means;
      canonical = λ t r same. subst (IsRest d (number_of f) 0) (sym (put_more f ends parts end part t m.as_many))
          (m.canonical (cut f end part t)
          (record { rises = omega arith; from_least = m.least lt; goes_on = λ same. m.covers; before_last = lt; low_rest = m.later; high_rest = r; apart = λ equal. apart (equal ∙ same) })
          (piece_low f m.from end part t m.covers));
      front = λ t h lt. subst (λ (u : Tree). P h (value_of u h)) (sym (put_more f ends parts end part t m.as_many))
          (elim (cases_lt (h f) m.from) [
            | inl below ↦ m.front (cut f end part t) h below
            | inr low ↦ subst (P h) (sym (m.behind (cut f end part t) h low ∙ value_low f end part t h (omega (arith, lt)))) (m.means h low (λ _. omega (arith, lt)))
          ]);
      behind = λ t h low. ap (λ (u : Tree). value_of u h) (put_more f ends parts end part t m.as_many)
          ∙ (m.behind (cut f end part t) h (let le = m.covers in omega (arith, low, le)) ∙ value_high f end part t h low);
    }

-- what is wanted may be asked for less
pub merging_weaker : (d : ℕ) (f : Field) (P Q : (Field → ℕ) → ℕ → Type 0) (ends : List ℕ) (parts : List Tree) (part : Tree) (end : ℕ) → ((h : Field → ℕ) (n : ℕ) → P h n → Q h n) → Merging d f P ends parts part end → Merging d f Q ends parts part end
merging_weaker d f P Q ends parts part end weaker m =
    record {
      from = m.from;
      covers = m.covers;
      to_last = m.to_last;
      least = m.least;
      as_many = m.as_many;
      later = m.later;
      means = λ h low covered. weaker h _ (m.means h low covered);
      canonical = m.canonical;
      front = λ t h lt. weaker h _ (m.front t h lt);
      behind = m.behind;
    }

-- at the last value the node is whole
pub merging_ends : (d : ℕ) (f : Field) (P : (Field → ℕ) → ℕ → Type 0) (ends : List ℕ) (parts : List Tree) (part : Tree) (end : ℕ) → Merging d f P ends parts part end → last_of d f ≤ end → IsRest d (number_of f) 0 (put f ends parts part) × ((h : Field → ℕ) → P h (value_of (put f ends parts part) h))
merging_ends d f P ends parts part end m whole = (
  m.canonical part (later_rest d f m.from part m.later) (later_piece d f m.from part m.later),
  λ h. elim (cases_lt (h f) m.from) [
    | inl below ↦ m.front part h below
    | inr low ↦ subst (P h) (sym (m.behind part h low)) (m.means h low (λ lt. absurd (omega arith)))
  ],
)
