-- Steps, one behind the other, and what takes them back.
use Rattle.std.proofs.Common.{◌≡◌, ◌∙◌, sym, ap, refl, ℕ, zero, suc, ◌+◌, ◌<◌, ◌≤◌, List, [], ◌∷◌, ◌++◌, length, length-append, append_assoc, append-nil, arith}
use Rattle.std.specs.Prelude.{slice_index, slice_set}
use Rattle.std.proofs.lemmas.Bool.Decides.{nat_tests}
use Rattle.mt_elements.specs.declared.chain.Rewriters.{Rewriters}
use Rattle.mt_ledger.specs.Ledger.{LedgerState, turn_after, turn_before}
use Rattle.mt_pipeline.specs.Passing.{IsReady, IsStep}
use Rattle.mt_pipeline.specs.Standing.{turns_back}
use Rattle.mt_pipeline.specs.Trying.{IsTry}
use Rattle.mt_pipeline.specs.declared.journal.Journal.{Journal}
use Rattle.mt_pipeline.specs.declared.resources.Resources.{Resources}

module _ (rewriters : Rewriters) (gone : List ℕ) where
  pub no_step : (a : Resources) (x : LedgerState) (i : Journal) → IsReady rewriters gone a x → IsStep rewriters gone a a x x i i
  no_step a x i ready = record { ready = ready; picks = []; picks_are = sym (append-nil i.picks.items); since = λ mappings turns before. before }

  pub step_then : (a b c : Resources) (x y z : LedgerState) (i j k : Journal) → IsStep rewriters gone a b x y i j → IsStep rewriters gone b c y z j k → IsStep rewriters gone a c x z i k
  step_then a b c x y z i j k first second = record {
    ready = second.ready;
    picks = first.picks ++ second.picks;
    picks_are = second.picks_are ∙ ap (λ p. p ++ second.picks) first.picks_are ∙ append_assoc i.picks.items first.picks second.picks;
    since = λ mappings turns before. second.since mappings turns (first.since mappings turns before);
  }

  -- a try is a step that the journal counts
  pub try_step : (a b : Resources) (x y : LedgerState) (i j : Journal) (opened : ℕ) → IsTry rewriters gone a b x y i.picks.items j.picks.items opened
      → j.opened ≡ i.opened + opened → j.moved.items ≡ i.moved.items → IsStep rewriters gone a b x y i j
  try_step a b x y i j opened t counted moved = record {
    ready = t.ready;
    picks = t.picks;
    picks_are = t.picks_are;
    since = λ mappings turns before. record {
      more = before.more ++ t.more;
      mappings_are = t.store_is ∙ ap (λ s. s ++ t.more) before.mappings_are ∙ append_assoc mappings before.more t.more;
      counted = (let all = length-append before.more t.more in let some = before.counted in let new = t.counted in omega (arith, all, some, new, counted));
      turns_are = ap (λ p. turns_back p j.moved.items y.turns) t.patterns ∙ ap (λ m. turns_back x.patterns m y.turns) moved ∙ ap (turns_back x.patterns i.moved.items) t.turns ∙ before.turns_are;
    };
  }

-- ---- turns

-- the turn that moved last is moved back first
pub last_back : (patterns moved : List ℕ) (mapper : ℕ) (turns : List ℕ)
    → turns_back patterns (moved ++ mapper ∷ []) turns ≡ turns_back patterns moved (slice_set turns mapper (turn_before (slice_index patterns mapper) (slice_index turns mapper)))
last_back patterns [] mapper turns = refl
last_back patterns (first ∷ moved) mapper turns =
    ap (λ t. slice_set t first (turn_before (slice_index patterns first) (slice_index t first))) (last_back patterns moved mapper turns)

pub set_index : (turns : List ℕ) (mapper turn : ℕ) → mapper < length turns → slice_index (slice_set turns mapper turn) mapper ≡ turn
set_index [] mapper turn below = absurd (omega (arith, below))
set_index (first ∷ turns) zero turn below = refl
set_index (first ∷ turns) (suc mapper) turn below = set_index turns mapper turn (omega (arith, below))

pub set_twice : (turns : List ℕ) (mapper turn other : ℕ) → slice_set (slice_set turns mapper turn) mapper other ≡ slice_set turns mapper other
set_twice [] mapper turn other = refl
set_twice (first ∷ turns) zero turn other = refl
set_twice (first ∷ turns) (suc mapper) turn other = ap (λ t. first ∷ t) (set_twice turns mapper turn other)

pub set_same : (turns : List ℕ) (mapper : ℕ) → slice_set turns mapper (slice_index turns mapper) ≡ turns
set_same [] mapper = refl
set_same (first ∷ turns) zero = refl
set_same (first ∷ turns) (suc mapper) = ap (λ t. first ∷ t) (set_same turns mapper)

pub set_past : (turns : List ℕ) (mapper turn : ℕ) → length turns ≤ mapper → slice_set turns mapper turn ≡ turns
set_past [] mapper turn past = refl
set_past (first ∷ turns) zero turn past = absurd (omega (arith, past))
set_past (first ∷ turns) (suc mapper) turn past = ap (λ t. first ∷ t) (set_past turns mapper turn (omega (arith, past)))

pub set_length : (turns : List ℕ) (mapper turn : ℕ) → length (slice_set turns mapper turn) ≡ length turns
set_length [] mapper turn = refl
set_length (first ∷ turns) zero turn = refl
set_length (first ∷ turns) (suc mapper) turn = ap suc (set_length turns mapper turn)

again : (patterns turn : ℕ) → turn < patterns → turn_before patterns (turn_after patterns turn) ≡ turn
again patterns turn below = grind (arith, nat_tests)

-- a turn that moved on is moved back
pub moved_back : (patterns moved turns turns' : List ℕ) (mapper : ℕ) → mapper < length turns → slice_index turns mapper < slice_index patterns mapper
    → turns' ≡ slice_set turns mapper (turn_after (slice_index patterns mapper) (slice_index turns mapper)) → turns_back patterns (moved ++ mapper ∷ []) turns' ≡ turns_back patterns moved turns
moved_back patterns moved turns turns' mapper there below is =
    let count = slice_index patterns mapper in
    let turn = slice_index turns mapper in
    last_back patterns moved mapper turns'
    ∙ ap (turns_back patterns moved)
    (ap (λ t. slice_set t mapper (turn_before count (slice_index t mapper))) is
    ∙ ap (λ n. slice_set (slice_set turns mapper (turn_after count turn)) mapper (turn_before count n)) (set_index turns mapper (turn_after count turn) there)
    ∙ set_twice turns mapper (turn_after count turn) (turn_before count (turn_after count turn))
    ∙ ap (slice_set turns mapper) (again count turn below)
    ∙ set_same turns mapper)
