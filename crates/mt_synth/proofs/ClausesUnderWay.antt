-- Clauses that are tried from the last one on.
use Rattle.std.proofs.Common.{◌≡◌, ◌∙◌, sym, ap, refl, ℕ, suc, ◌-◌, ◌<◌, ◌≤◌, List, [], ◌∷◌, ◌++◌, length, take, get_or, arith}
use Rattle.std.proofs.Math.Seq.{take-suc}
use Rattle.std.proofs.lemmas.List.{take_all}
use Rattle.mt_packet.specs.declared.field.Field.{Field}
use Rattle.mt_cuts.specs.Tree as cuts
use Rattle.mt_cuts.specs.Tree.{value_of}
use Rattle.mt_kinds.specs.declared.kind.Clause.{Clause}
use Rattle.mt_terms.specs.declared.tree.Tree.{Tree}
use Rattle.mt_trees.specs.Symbols.{Symbol}
use Rattle.mt_trees.specs.Tests.{Found, clauses_tried, field_tested, value_tried, whole_tested}
use Rattle.mt_synth.specs.Cuts.{TreeAt, Means, Grows}
use Rattle.mt_synth.specs.Decided.{clause_tried}
use Rattle.mt_synth.proofs.ClausesDecided.{tried_last, tried_none}
use Rattle.mt_synth.proofs.Meant.{means_same, means_values, means_later}

-- the clauses that are left, with what is made inside, come to the trees of all clauses
pub record IsTriedSoFar (devices : ℕ) (trees : List Tree) (symbol : Symbol) (clauses rest : List Clause) (made : cuts.Tree) (f g : TreeAt) : Type 0 where
  pub made_at : TreeAt
  pub means : Means devices trees made made_at
  pub comes_to : (header : List ℕ) → clauses_tried header symbol rest (made_at header) (g header) ≡ clauses_tried header symbol clauses (f header) (g header)

-- all but the last one, and the last one
pub split_last : (xs : List Clause) (none : Clause) → 1 ≤ length xs → xs ≡ take (length xs - 1) xs ++ get_or xs (length xs - 1) none ∷ []
split_last xs none some =
    let up : suc (length xs - 1) ≡ length xs = omega arith in
    sym (take_all (suc (length xs - 1)) xs (omega (arith, up))) ∙ take-suc xs (length xs - 1) none (omega arith)

pub nothing_left : (xs : List Clause) → length xs < 1 → xs ≡ []
nothing_left [] few = refl
nothing_left (x ∷ xs) few = absurd (omega (arith, few))

module _ (devices : ℕ) (symbol : Symbol) (clauses : List Clause) (f g : TreeAt) where
  pub one_less : (start old new : List Tree) (rest before : List Clause) (last : Clause) (outside made next : cuts.Tree) → rest ≡ before ++ last ∷ [] → Grows start old → Means devices start outside g
      → ((f g : TreeAt) → Means devices old made f → Means devices old outside g → Means devices new next (λ header. clause_tried header symbol last (f header) (g header)))
      → IsTriedSoFar devices old symbol clauses rest made f g → IsTriedSoFar devices new symbol clauses before next f g
  one_less start old new rest before last outside made next is grows second means so_far = record {
    made_at = λ header. clause_tried header symbol last (so_far.made_at header) (g header);
    means = means so_far.made_at g so_far.means (means_later devices start old outside g grows second);
    comes_to = λ header. sym (tried_last header symbol before last (so_far.made_at header) (g header)) ∙ (ap (λ (cs : List Clause). clauses_tried header symbol cs (so_far.made_at header) (g header)) (sym is) ∙ so_far.comes_to header);
  }

  pub all_tried : (trees : List Tree) (rest : List Clause) (made : cuts.Tree) → rest ≡ [] → IsTriedSoFar devices trees symbol clauses rest made f g → Means devices trees made (λ header. clauses_tried header symbol clauses (f header) (g header))
  all_tried trees rest made none so_far = means_same devices trees made so_far.made_at (λ header. clauses_tried header symbol clauses (f header) (g header))
      (λ header. sym (so_far.comes_to header) ∙ (ap (λ (cs : List Clause). clauses_tried header symbol cs (so_far.made_at header) (g header)) none ∙ tried_none header symbol (so_far.made_at header) (g header))) so_far.means

-- one clause, with a copy of what is outside at both tests
pub clause_means : (devices : ℕ) (old mid new : List Tree) (symbol : Symbol) (clause : Clause) (inside outside copy has other made : cuts.Tree)
    → ((header : Field → ℕ) → value_of copy header ≡ value_of outside header) → ((header : Field → ℕ) → value_of other header ≡ value_of outside header) → Grows old mid
    → ((f g : TreeAt) → Means devices old inside f → Means devices old copy g → Means devices mid has (λ header. value_tried header symbol clause (f header) (g header)))
    → ((f g : TreeAt) → Means devices mid has f → Means devices mid other g → Means devices new made (λ header. whole_tested header symbol (f header) (g header)))
    → (f g : TreeAt) → Means devices old inside f → Means devices old outside g → Means devices new made (λ header. clause_tried header symbol clause (f header) (g header))
clause_means devices old mid new symbol clause inside outside copy has other made same same-other grows value whole f g first second =
    whole (λ header. value_tried header symbol clause (f header) (g header)) g
    (value f g first (means_values devices old outside copy g same second))
    (means_values devices mid outside other g same-other (means_later devices old mid outside g grows second))

-- a clause by its field and its value
pub asked_means : (devices : ℕ) (old new : List Tree) (symbol : Symbol) (clause : Clause) (field : Field) (value : ℕ) (inside outside made : cuts.Tree)
    → ((header : List ℕ) (symbol : Symbol) (x y : Found) → value_tried header symbol clause x y ≡ field_tested header symbol field value value x y)
    → ((f g : TreeAt) → Means devices old inside f → Means devices old outside g → Means devices new made (λ header. field_tested header symbol field value value (f header) (g header)))
    → (f g : TreeAt) → Means devices old inside f → Means devices old outside g → Means devices new made (λ header. value_tried header symbol clause (f header) (g header))
asked_means devices old new symbol clause field value inside outside made asked means f g first second =
    means_same devices new made (λ header. field_tested header symbol field value value (f header) (g header)) (λ header. value_tried header symbol clause (f header) (g header))
    (λ header. asked header symbol (f header) (g header)) (means f g first second)
