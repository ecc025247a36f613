-- The branches of a passage: each output that can be taken has its tree among them.
use Rattle.std.proofs.Common.{◌≡◌, ◌∙◌, sym, ap, subst, refl, ℕ, zero, suc, ◌+◌, ◌<◌, ◌≤◌, Bool, true, false, List, [], ◌∷◌, cond, arith}
use Rattle.std.specs.Prelude.{Option, Some, None, ◌==◌, ◌||◌, if◌then◌else◌, option_map, option_and_then}
use Rattle.std.specs.List.{filter, list_any, range_with_len}
use Rattle.std.proofs.lemmas.Bool.{false≢true}
use Rattle.std.proofs.lemmas.Bool.Decides.{nat_tests}
use Rattle.std.proofs.lemmas.Option.{none-some}
use Rattle.mt_lists.specs.Options.{each}
use Rattle.mt_packet.specs.Packet.{PacketState}
use Rattle.mt_terms.specs.Trees.{TreeForm, branches_of}
use Rattle.mt_trees.proofs.Writes.{unsome}
use Rattle.mt_trees.specs.Meaning.{RewritersState, Under, OfSide, meaning_of, meaning_among, CanServe, CanServeAmong}
use Rattle.mt_trees.specs.Tests.{Found}

-- ---- outputs

abbrev pub is_among : ℕ → List ℕ → Bool
is_among out outs = list_any (λ o. o == out) outs

kept_head : (t : ℕ → Bool) (out a : ℕ) (rest : List ℕ) → t out ≡ true → (a ≡ out) → is_among out (filter t (a ∷ rest)) ≡ true
kept_head t out a rest leads same = either (t a) (ap t same ∙ leads)
  where
    either : (b : Bool) → b ≡ true → is_among out (cond b (a ∷ filter t rest) (filter t rest)) ≡ true
    either true e = let here : (a == out) ≡ true = grind (arith, nat_tests) in ap (λ c. c || is_among out (filter t rest)) here
    either false e = absurd (false≢true e)

kept_tail : (t : ℕ → Bool) (out a : ℕ) (rest : List ℕ) → is_among out (filter t rest) ≡ true → is_among out (filter t (a ∷ rest)) ≡ true
kept_tail t out a rest h = either (t a)
  where
    one : (b : Bool) → (b || is_among out (filter t rest)) ≡ true
    one true = refl
    one false = h

    either : (b : Bool) → is_among out (cond b (a ∷ filter t rest) (filter t rest)) ≡ true
    either true = one (a == out)
    either false = h

-- an output within a range that passes the test is kept
pub kept_within : (t : ℕ → Bool) (out a n : ℕ) → t out ≡ true → a ≤ out → out < a + n → is_among out (filter t (range_with_len a n)) ≡ true
kept_within t out a zero leads low high = absurd (omega (arith, low, high))
kept_within t out a (suc n) leads low high = either (a == out) refl (λ less. kept_within t out (a + 1) n leads less (omega (arith, high)))
  where
    either : (b : Bool) → (a == out) ≡ b → (a + 1 ≤ out → is_among out (filter t (range_with_len (a + 1) n)) ≡ true) → is_among out (filter t (range_with_len a (suc n))) ≡ true
    either true e again = kept_head t out a (range_with_len (a + 1) n) leads (let same : a ≡ out = grind (arith, nat_tests) in same)
    either false e again = kept_tail t out a (range_with_len (a + 1) n) (again (let less : a + 1 ≤ out = grind (arith, nat_tests) in less))

-- ---- branches

module _ (rewriters : RewritersState) (picks : List ℕ) (packet : PacketState) (header : List ℕ) (tree_at : ℕ → Found) (out : ℕ) where
  abbrev pair_at : ℕ → Option (ℕ × TreeForm)
  pair_at o = option_map (λ tree. (o, tree)) (tree_at o)

  -- the tree of the output is what its branch means, and what serving it asks for
  pub record HasBranch (branches : List (ℕ × TreeForm)) : Type 0 where
    pub tree : TreeForm
    pub found : tree_at out ≡ Some tree
    pub means : (under : Under) → meaning_among rewriters picks packet header (branches_of branches) out under ≡ meaning_of rewriters picks packet header tree under
    pub serves : (under : Under) → CanServe rewriters picks packet header tree under → CanServeAmong rewriters picks packet header (branches_of branches) out under

  first_means : (o : ℕ) (tree : TreeForm) (rest : List (ℕ × TreeForm)) (under : Under) (b : Bool) → (o == out) ≡ b
      → meaning_among rewriters picks packet header (branches_of ((o, tree) ∷ rest)) out under
      ≡ (if b then meaning_of rewriters picks packet header tree under else meaning_among rewriters picks packet header (branches_of rest) out under)
  unfolding meaning_of
  first_means o tree rest under b e = ap (λ c. if c then meaning_of rewriters picks packet header tree under else meaning_among rewriters picks packet header (branches_of rest) out under) e

  first_serves : (o : ℕ) (tree : TreeForm) (rest : List (ℕ × TreeForm)) (under : Under) (b : Bool) → (o == out) ≡ b
      → OfSide b (CanServe rewriters picks packet header tree under) (CanServeAmong rewriters picks packet header (branches_of rest) out under)
      → CanServeAmong rewriters picks packet header (branches_of ((o, tree) ∷ rest)) out under
  unfolding CanServe
  first_serves o tree rest under b e served =
      subst (λ c. OfSide c (CanServe rewriters picks packet header tree under) (CanServeAmong rewriters picks packet header (branches_of rest) out under)) (sym e) served

  here_or_later : (o : ℕ) (tree : TreeForm) (rest : List (ℕ × TreeForm)) → tree_at o ≡ Some tree → (b : Bool) → (o == out) ≡ b → (b ≡ false → HasBranch rest) → HasBranch ((o, tree) ∷ rest)
  here_or_later o tree rest is true e later = record {
    tree = tree;
    found = ap tree_at (sym (let same : o ≡ out = grind (arith, nat_tests) in same)) ∙ is;
    means = λ under. first_means o tree rest under true e;
    serves = λ under served. first_serves o tree rest under true e served;
  }
  here_or_later o tree rest is false e later = let h = later refl in record {
    tree = h.tree;
    found = h.found;
    means = λ under. first_means o tree rest under false e ∙ h.means under;
    serves = λ under served. first_serves o tree rest under false e (h.serves under served);
  }

  among_rest : (o : ℕ) (os : List ℕ) → (o == out) ≡ false → is_among out (o ∷ os) ≡ true → is_among out os ≡ true
  among_rest o os e h = sym (ap (λ b. b || is_among out os) e) ∙ h

  one_branch : (o : ℕ) (os : List ℕ) (first : Option TreeForm) → tree_at o ≡ first → (rest : Option (List (ℕ × TreeForm))) → each pair_at os ≡ rest → (branches : List (ℕ × TreeForm))
      → option_and_then (λ y. option_map (λ more. y ∷ more) rest) (option_map (λ tree. (o, tree)) first) ≡ Some branches
      → ((more : List (ℕ × TreeForm)) → each pair_at os ≡ Some more → (o == out) ≡ false → HasBranch more) → HasBranch branches
  one_branch o os None is rest e branches told again = absurd (none-some branches told)
  one_branch o os (Some tree) is None e branches told again = absurd (none-some branches told)
  one_branch o os (Some tree) is (Some more) e branches told again =
      subst HasBranch (unsome ((o, tree) ∷ more) branches told) (here_or_later o tree more is (o == out) refl (λ apart. again more e apart))

  pub branch_of : (os : List ℕ) (branches : List (ℕ × TreeForm)) → each pair_at os ≡ Some branches → is_among out os ≡ true → HasBranch branches
  unfolding each
  branch_of [] branches told there = absurd (false≢true there)
  branch_of (o ∷ os) branches told there =
      one_branch o os (tree_at o) refl (each pair_at os) refl branches told (λ more e apart. branch_of os more e (among_rest o os apart there))
