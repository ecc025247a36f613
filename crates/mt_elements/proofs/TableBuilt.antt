-- A table of where outputs lead, row by row.
use Rattle.std.proofs.Common.{◌≡◌, ◌∙◌, ap, refl, sym, subst, inl, inr, ℕ, zero, suc, ◌⊎◌, ◌+◌, ◌<◌, ◌≤◌, true, false, List, [], ◌∷◌, ◌++◌, length, slice_get, MatchOption, Option, Some, None, arith}
use Rattle.std.proofs.lemmas.Bool.{cases_lt}
use Rattle.std.proofs.lemmas.List.{length_push}
use Rattle.mt_elements.specs.ChainState.{ChainState, next_of, outputs_of}
use Rattle.mt_elements.specs.Table.{IsRow, IsTable}
use Rattle.mt_elements.specs.Wired.{HasOpen, free_at}
use Rattle.mt_elements.proofs.ChainNext.{no_kind}
use Rattle.mt_elements.proofs.WiresTold.{some_same}

-- an element of a list with one more
pub push_cases : {X : Type 0} (xs : List X) (y : X) (k : ℕ) (x : X) → slice_get (xs ++ y ∷ []) k ≡ Some x → slice_get xs k ≡ Some x ⊎ ((k ≡ length xs) × (y ≡ x))
push_cases [] y zero x e = inr (refl, some_same y x e)
push_cases [] y (suc k) x e = absurd (let q : None ≡ Some x = e in cc)
push_cases (z ∷ zs) y zero x e = inl e
push_cases (z ∷ zs) y (suc k) x e = elim (push_cases zs y k x e) [
  | inl old ↦ inl old
  | inr new ↦ inr (let n : suc k ≡ suc (length zs) = ap suc new.0 in omega (arith, n), new.1)
]

last_of : {X : Type 0} (zs : List X) (y : X) → slice_get (zs ++ y ∷ []) (length zs) ≡ Some y
last_of [] y = refl
last_of (z ∷ zs) y = last_of zs y

pub push_last : {X : Type 0} (xs : List X) (y : X) (k : ℕ) → k ≡ length xs → slice_get (xs ++ y ∷ []) k ≡ Some y
push_last xs y k e = ap (slice_get (xs ++ y ∷ [])) e ∙ last_of xs y

pub push_before : {X : Type 0} (xs : List X) (y : X) (k : ℕ) (x : X) → slice_get xs k ≡ Some x → slice_get (xs ++ y ∷ []) k ≡ Some x
push_before [] y k x e = absurd (let q : None ≡ Some x = e in cc)
push_before (z ∷ zs) y zero x e = e
push_before (z ∷ zs) y (suc k) x e = push_before zs y k x e

module _ (chain : ChainState) where
  -- where the first outputs of an element lead
  pub record IsRowTo (element : ℕ) (row : List (Option (ℕ × ℕ))) (bound : ℕ) : Type 0 where
    pub whole : length row ≡ bound
    pub leads : (out : ℕ) → out < bound → slice_get row out ≡ Some (next_of chain element out)
    pub closed : (out : ℕ) → out < bound → next_of chain element out ≡ None → free_at (slice_get chain.kinds element) out ≡ true

  pub row_begins : (element : ℕ) (row : List (Option (ℕ × ℕ))) → row ≡ [] → IsRowTo element row 0
  row_begins element row e = record { whole = ap length e; leads = λ out lt. absurd (omega (arith, lt)); closed = λ out lt. absurd (omega (arith, lt)) }

  pub row_more : (element out : ℕ) (row new : List (Option (ℕ × ℕ))) (next : Option (ℕ × ℕ)) → next ≡ next_of chain element out
      → (next ≡ None → free_at (slice_get chain.kinds element) out ≡ true) → new ≡ row ++ next ∷ [] → IsRowTo element row out → IsRowTo element new (out + 1)
  row_more element out row new next e free pushed h = record {
    whole = (let a = ap length pushed in let b = length_push row next in let c = h.whole in omega (arith, a, b, c));
    leads = λ other lt. elim (cases_lt other out) [
      | inl earlier ↦ ap (λ xs. slice_get xs other) pushed ∙ push_before row next other _ (h.leads other earlier)
      | inr last ↦
          let same : other ≡ out = omega (arith, lt, last) in
          ap (λ xs. slice_get xs other) pushed ∙ push_last row next other (let w = h.whole in omega (arith, same, w)) ∙ ap Some (e ∙ ap (next_of chain element) (sym same))
    ];
    closed = λ other lt none. elim (cases_lt other out) [
      | inl earlier ↦ h.closed other earlier none
      | inr last ↦
          let same : other ≡ out = omega (arith, lt, last) in
          ap (free_at (slice_get chain.kinds element)) same ∙ free (e ∙ ap (next_of chain element) (sym same) ∙ none)
    ];
  }

  pub row_whole : (element out count : ℕ) (row : List (Option (ℕ × ℕ))) → out ≡ count → count ≡ outputs_of chain element → IsRowTo element row out → IsRow chain element row
  row_whole element out count row a b h =
      let same : out ≡ outputs_of chain element = a ∙ b in
      record {
        whole = h.whole ∙ same;
        leads = λ other lt. h.leads other (omega (arith, lt, same));
        closed = λ other lt. h.closed other (omega (arith, lt, same));
      }

  -- no output of an element with a row is open
  pub row_closed : (element : ℕ) (row : List (Option (ℕ × ℕ))) → IsRow chain element row → HasOpen chain element → ⊥
  row_closed element row r o = let q : true ≡ false = sym (r.closed o.out o.there o.unwired) ∙ o.bound in cc

  -- the rows of the first elements
  pub record IsTableTo (table : List (List (Option (ℕ × ℕ)))) (bound : ℕ) : Type 0 where
    pub whole : length table ≡ bound
    pub rows : (element : ℕ) (row : List (Option (ℕ × ℕ))) → slice_get table element ≡ Some row → IsRow chain element row
    pub closed : (element : ℕ) → element < bound → HasOpen chain element → ⊥

  pub table_begins : (table : List (List (Option (ℕ × ℕ)))) → table ≡ [] → IsTableTo table 0
  table_begins table e = record {
    whole = ap length e;
    rows = λ element row is. absurd (let q : None ≡ Some row = ap (λ t. slice_get t element) (sym e) ∙ is in cc);
    closed = λ element lt. absurd (omega (arith, lt));
  }

  pub table_more : (element : ℕ) (table new : List (List (Option (ℕ × ℕ)))) (row : List (Option (ℕ × ℕ))) → IsRow chain element row → new ≡ table ++ row ∷ [] → IsTableTo table element → IsTableTo new (element + 1)
  table_more element table new row r pushed h = record {
    whole = (let a = ap length pushed in let b = length_push table row in let c = h.whole in omega (arith, a, b, c));
    rows = λ other found is. elim (push_cases table row other found (ap (λ t. slice_get t other) (sym pushed) ∙ is)) [
      | inl old ↦ h.rows other found old
      | inr new ↦ subst (λ k. IsRow chain k found) (sym (new.0 ∙ h.whole)) (subst (IsRow chain element) new.1 r)
    ];
    closed = λ other lt o. elim (cases_lt other element) [
      | inl earlier ↦ h.closed other earlier o
      | inr last ↦
          let same : other ≡ element = omega (arith, lt, last) in
          row_closed element row r (subst (HasOpen chain) same o)
    ];
  }

  pub table_whole : (element : ℕ) (table : List (List (Option (ℕ × ℕ)))) → element ≡ length chain.kinds → IsTableTo table element → IsTable chain table
  table_whole element table e h = record { whole = h.whole ∙ e; rows = h.rows }

  pub table_closed : (element : ℕ) (table : List (List (Option (ℕ × ℕ)))) → length chain.kinds ≤ element → IsTableTo table element → (other : ℕ) → HasOpen chain other → ⊥
  table_closed element table le h other o = elim (cases_lt other element) [
    | inl earlier ↦ h.closed other earlier o
    | inr beyond ↦
        let none = no_kind chain other (omega (arith, le, beyond)) in
        let lt = o.there in
        omega (arith, none, lt)
  ]

  pub row_at : {R : Type 0} (element : ℕ) (items : R → List (Option (ℕ × ℕ))) (o : Option R) (row : R) → o ≡ Some row → MatchOption o (HasOpen chain element) (λ r. IsRow chain element (items r)) → IsRow chain element (items row)
  row_at element items o row e h = subst (λ x. MatchOption x (HasOpen chain element) (λ r. IsRow chain element (items r))) e h
