-- What takes back mappings and turns.
use Rattle.std.proofs.Common.{◌≡◌, ◌∙◌, sym, ap, subst, refl, ℕ, suc, ◌+◌, ◌-◌, ◌<◌, ◌≤◌, List, [], ◌∷◌, ◌++◌, length, length-append, append_assoc, arith}
use Rattle.std.specs.Prelude.{Option, Some, option_to_list, slice_index, slice_set}
use Rattle.mt_elements.specs.declared.chain.Rewriters.{Rewriters}
use Rattle.mt_ledger.specs.Ledger.{LedgerState, turn_before}
use Rattle.mt_ledger.specs.Pools.{PoolPorts}
use Rattle.mt_flow.specs.declared.mapping.Mapping.{Mapping}
use Rattle.mt_pipeline.specs.Passing.{IsReady}
use Rattle.mt_pipeline.specs.Standing.{AreWhole, held_ports, turns_back, with_held}
use Rattle.mt_pipeline.specs.Trying.{IsGivable, IsGivenBack, IsOpenedSince, with_turns}
use Rattle.mt_pipeline.specs.declared.resources.Resources.{Resources}
use Rattle.mt_pipeline.proofs.StepsTaken.{last_back, set_length, set_past}
use Rattle.mt_pipeline.proofs.Whole.{givable, whole_closed}

-- ---- lists that end with an element

pub same_front : {X : Type 0} (xs ys : List X) (x y : X) → xs ++ x ∷ [] ≡ ys ++ y ∷ [] → xs ≡ ys
same_front [] [] x y e = refl
same_front [] (b ∷ ys) x y e = absurd (let l = ap length e in let m = length-append ys (y ∷ []) in omega (arith, l, m))
same_front (a ∷ xs) [] x y e = absurd (let l = ap length e in let m = length-append xs (x ∷ []) in omega (arith, l, m))
same_front {X = X} (a ∷ xs) (b ∷ ys) x y e =
    let first : a ≡ b = cc in
    let rest : xs ++ x ∷ [] ≡ ys ++ y ∷ [] = cc in
    ap (λ (z : X). z ∷ xs) first ∙ ap (λ zs. b ∷ zs) (same_front xs ys x y rest)

pub record EndsWith {X : Type 0} (xs : List X) : Type 0 where
  pub front : List X
  pub last : X
  pub is : xs ≡ front ++ last ∷ []

pub ends_with : {X : Type 0} (x : X) (xs : List X) → EndsWith (x ∷ xs)
ends_with x [] = record { front = []; last = x; is = refl }
ends_with x (y ∷ xs) = let rest = ends_with y xs in record { front = x ∷ rest.front; last = rest.last; is = ap (λ zs. x ∷ zs) rest.is }

-- ---- mappings

module _ (mappings : List Mapping) (store store' : List Mapping) (closed : (front : List Mapping) (last : Mapping) → store ≡ front ++ last ∷ [] → store' ≡ front) where
  one_closed : (count : ℕ) (more : List Mapping) → store ≡ mappings ++ more → length more ≡ suc count → IsOpenedSince mappings count store'
  one_closed count [] is many = absurd (omega (arith, many))
  one_closed count (first ∷ more) is many =
      let end = ends_with first more in
      let whole : store ≡ (mappings ++ end.front) ++ end.last ∷ [] = is ∙ ap (λ m. mappings ++ m) end.is ∙ sym (append_assoc mappings end.front (end.last ∷ [])) in
      let lengths = ap length end.is in
      let parts = length-append end.front (end.last ∷ []) in
      record { more = end.front; store_is = closed (mappings ++ end.front) end.last whole; counted = omega (arith, many, lengths, parts) }

  pub closed_since : (count i : ℕ) → i < count → IsOpenedSince mappings (count - i) store → IsOpenedSince mappings (count - (i + 1)) store'
  closed_since count i below since = one_closed (count - (i + 1)) since.more since.store_is (let many = since.counted in omega (arith, many, below))

pub none_since : (mappings store : List Mapping) (count i : ℕ) → count ≤ i → IsOpenedSince mappings (count - i) store → store ≡ mappings
none_since mappings store count i past since = none since.more since.store_is (let many = since.counted in omega (arith, many, past))
  where
    none : (more : List Mapping) → store ≡ mappings ++ more → length more ≡ 0 → store ≡ mappings
    none [] is many = is ∙ append_nil mappings
      where
        append_nil : (xs : List Mapping) → xs ++ [] ≡ xs
        append_nil [] = refl
        append_nil (x ∷ xs) = ap (λ ys. x ∷ ys) (append_nil xs)
    none (first ∷ more) is many = absurd (omega (arith, many))

-- ---- ports

module _ (rewriters : Rewriters) (gone : List ℕ) (a b c : Resources) (x : LedgerState) (ready : IsReady rewriters gone a x) (mapping : Mapping) (was : a.store ≡ b.store ++ mapping ∷ []) (shares : b.shares ≡ a.shares) where
  held_then : AreWhole rewriters.pools.items x b.shares (with_held mapping.port (held_ports b.store))
  held_then =
      subst (λ (s : List PoolPorts). AreWhole rewriters.pools.items x s (with_held mapping.port (held_ports b.store))) (sym shares)
      (whole_closed rewriters.pools.items x a.shares b.store mapping (subst (λ (s : List Mapping). AreWhole rewriters.pools.items x a.shares (held_ports s)) was ready.whole))

  pub closing_givable : IsGivable rewriters.pools.items b.shares mapping.port
  closing_givable = givable rewriters.pools.items x b.shares mapping.port (held_ports b.store) held_then

  pub closing_ready : c.store ≡ b.store → IsGivenBack rewriters.pools.items b.shares c.shares mapping.port → IsReady rewriters gone c x
  closing_ready same back = record {
    whole = subst (λ (s : List Mapping). AreWhole rewriters.pools.items x c.shares (held_ports s)) (sym same) (back x (held_ports b.store) held_then);
    none_left = ready.none_left;
    patterns = ready.patterns;
    turns = ready.turns;
  }

-- ---- turns

pub back_length : (patterns moved turns : List ℕ) → length (turns_back patterns moved turns) ≡ length turns
back_length patterns [] turns = refl
back_length patterns (mapper ∷ moved) turns = set_length (turns_back patterns moved turns) mapper _ ∙ back_length patterns moved turns

-- the turn of a mapper that is not there stays
pub nothing_back : (ledger : LedgerState) (mapper turn : ℕ) → length ledger.turns ≤ mapper → ledger ≡ with_turns ledger (slice_set ledger.turns mapper turn)
nothing_back ledger mapper turn past = ap (with_turns ledger) (sym (set_past ledger.turns mapper turn past))

-- what is left to be taken back gives what all gives
pub record IsTurning (old now : LedgerState) (moved left : List ℕ) : Type 0 where
  pub now_is : now ≡ with_turns old now.turns
  pub back : turns_back old.patterns left now.turns ≡ turns_back old.patterns moved old.turns
  pub many : length now.turns ≡ length old.turns

pub turning_from : (old : LedgerState) (moved : List ℕ) → IsTurning old old moved moved
turning_from old moved = record { now_is = refl; back = refl; many = refl }

pub turning_more : (old now new : LedgerState) (moved all left : List ℕ) (found : Option ℕ) (mapper : ℕ) → IsTurning old now moved all → all ≡ left ++ option_to_list found → found ≡ Some mapper
    → new ≡ with_turns now (slice_set now.turns mapper (turn_before (slice_index now.patterns mapper) (slice_index now.turns mapper))) → IsTurning old new moved left
turning_more old now new moved all left found mapper t all_is is new_is =
    let step = slice_set now.turns mapper (turn_before (slice_index now.patterns mapper) (slice_index now.turns mapper)) in
    let turns : new.turns ≡ step = ap (λ (l : LedgerState). l.turns) new_is in
    let patterns : now.patterns ≡ old.patterns = ap (λ (l : LedgerState). l.patterns) t.now_is in
    let items : all ≡ left ++ mapper ∷ [] = all_is ∙ ap (λ o. left ++ option_to_list o) is in
    record {
      now_is = new_is ∙ ap (λ (l : LedgerState). with_turns l step) t.now_is ∙ ap (with_turns old) (sym turns);
      back = ap (turns_back old.patterns left) (turns ∙ ap (λ p. slice_set now.turns mapper (turn_before (slice_index p mapper) (slice_index now.turns mapper))) patterns)
          ∙ sym (last_back old.patterns left mapper now.turns) ∙ ap (λ m. turns_back old.patterns m now.turns) (sym items) ∙ t.back;
      many = ap length turns ∙ set_length now.turns mapper _ ∙ t.many;
    }

pub turned_all : (old now : LedgerState) (moved left : List ℕ) → IsTurning old now moved left → length left ≡ 0 → now ≡ with_turns old (turns_back old.patterns moved old.turns)
turned_all old now moved left t none = t.now_is ∙ ap (with_turns old) (empty left none t.back)
  where
    empty : (left : List ℕ) → length left ≡ 0 → turns_back old.patterns left now.turns ≡ turns_back old.patterns moved old.turns → now.turns ≡ turns_back old.patterns moved old.turns
    empty [] none back = back
    empty (first ∷ left) none back = absurd (omega (arith, none))

pub ready_back : (rewriters : Rewriters) (gone : List ℕ) (a : Resources) (x y : LedgerState) (turns : List ℕ) → IsReady rewriters gone a x → y ≡ with_turns x turns → length turns ≡ length x.turns → IsReady rewriters gone a y
ready_back rewriters gone a x y turns ready is many =
    subst (IsReady rewriters gone a) (sym is) (record {
      whole = record { stocks_are = ready.whole.stocks_are; shares_are = ready.whole.shares_are; together = ready.whole.together };
      none_left = ready.none_left;
      patterns = ready.patterns;
      turns = many ∙ ready.turns;
    })

pub fewer : (all left : List ℕ) (found : Option ℕ) (mapper : ℕ) → all ≡ left ++ option_to_list found → found ≡ Some mapper → length left < length all
fewer all left found mapper all_is is =
    let whole = ap length (all_is ∙ ap (λ o. left ++ option_to_list o) is) in
    let parts = length-append left (mapper ∷ []) in
    omega (arith, whole, parts)

pub since_opened : (mappings store : List Mapping) (count : ℕ) → IsOpenedSince mappings count store → IsOpenedSince mappings (count - 0) store
since_opened mappings store count since = record { more = since.more; store_is = since.store_is; counted = (let many = since.counted in omega (arith, many)) }
