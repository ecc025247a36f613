-- Outputs and devices beyond the tables of a chain lead nowhere.
use Rattle.std.proofs.Common.{◌≡◌, ◌∙◌, ap, refl, sym, subst, ℕ, ◌<◌, ◌≤◌, not, cond, nat_eq, Bool, true, false, List, length, position, get_or, slice_get, Option, Some, None, arith}
use Rattle.std.proofs.lemmas.Bool.{eqb-true, ltb-true}
use Rattle.std.proofs.lemmas.Option.{slice_get-get_or, slice_get_past, slice_get_within}
use Rattle.mt_lists.proofs.Bools.{and_true}
use Rattle.mt_lists.proofs.Positions.{missing}
use Rattle.mt_graph.specs.declared.Wire.{Wire}
use Rattle.mt_kinds.specs.declared.kind.Kind.{Kind}
use Rattle.mt_kinds.specs.declared.kind.Kind.TheVariants.{FromDevice}
use Rattle.mt_elements.specs.declared.fault.ChainWhy.{ChainWhy}
use Rattle.mt_elements.specs.ChainState.{ChainState, is_from, is_entry, next_of, entry_of, outputs_of, outputs_in, mappers_of, wired_of}
use Rattle.mt_elements.specs.Kept.{AreArrivals}
use Rattle.mt_elements.specs.Numbered.{IsNumbered}
use Rattle.mt_elements.specs.Table.{IsTable}
use Rattle.mt_elements.specs.Wired.{AreWired, missing_port, or_twice}
use Rattle.mt_elements.proofs.NextFound.{next_none}

fails : {X : Type 0} (p : X → Bool) (x : X) (b : Bool) → p x ≡ b → (p x ≡ true → ⊥) → p x ≡ false
fails p x true e h = absurd (h e)
fails p x false e h = e

pub position_none : {X : Type 0} (p : X → Bool) (xs : List X) → ((i : ℕ) (x : X) → slice_get xs i ≡ Some x → p x ≡ true → ⊥) → position p xs ≡ None
position_none p xs h = missing p xs (length xs) refl (λ k d lt. fails p (get_or xs k d) (p (get_or xs k d)) refl (h k (get_or xs k d) (slice_get-get_or xs k d lt)))

no_missing : (from : ℕ) (again : Bool) (o : Option ℕ) → or_twice from again o ≡ None → o ≡ None
no_missing from again (Some x) e = absurd (let q : Some (Rattle.mt_elements.specs.declared.fault.ChainWhy.TheVariants.NoSuchPort, x) ≡ None = e in cc)
no_missing from again None e = refl

there : (b : Bool) (x : ℕ) (o : Option ℕ) → cond (not b) (Some x) o ≡ None → b ≡ true
there true x o e = refl
there false x o e = absurd (let q : Some x ≡ None = e in cc)

-- an output that an element does not have is not wired
pub no_output : (chain : ChainState) (element out : ℕ) → AreWired chain → outputs_of chain element ≤ out → None ≡ next_of chain element out
no_output chain element out wired le = next_none chain element out (position_none (is_from element out) chain.wires refuse)
  where
    refuse : (i : ℕ) (wire : Wire) → slice_get chain.wires i ≡ Some wire → is_from element out wire ≡ true → ⊥
    refuse i wire is from =
        let parts = and_true (nat_eq element wire.from) (nat_eq out wire.out) from in
        let same = eqb-true element wire.from parts.0 in
        let lt : wire.out < outputs_of chain wire.from = ltb-true wire.out (outputs_of chain wire.from) (there _ wire.from _ (no_missing wire.from _ (missing_port chain wire) (wired i wire is))) in
        let bound : outputs_of chain wire.from ≤ out = subst (λ e. outputs_of chain e ≤ out) same le in
        let last = eqb-true out wire.out parts.1 in
        omega (arith, lt, bound, last)

pub no_kind : (chain : ChainState) (element : ℕ) → length chain.kinds ≤ element → outputs_of chain element ≡ 0
no_kind chain element le = ap (outputs_in (mappers_of chain.kinds) (wired_of chain.wires element)) (slice_get_past chain.kinds element le)

pub no_row : (chain : ChainState) (table : List (List (Option (ℕ × ℕ)))) (element out : ℕ) → AreWired chain → IsTable chain table → length table ≤ element → None ≡ next_of chain element out
no_row chain table element out wired t le =
    let none = no_kind chain element (let same = t.whole in omega (arith, le, same)) in
    no_output chain element out wired (omega (arith, none))

pub row_ends : (chain : ChainState) (table : List (List (Option (ℕ × ℕ)))) (element out : ℕ) (row : List (Option (ℕ × ℕ))) → AreWired chain → IsTable chain table
    → slice_get table element ≡ Some row → length row ≤ out → None ≡ next_of chain element out
row_ends chain table element out row wired t is le = let r = t.rows element row is in let same = r.whole in no_output chain element out wired (omega (arith, le, same))

pub row_leads : (chain : ChainState) (table : List (List (Option (ℕ × ℕ)))) (element out : ℕ) (row : List (Option (ℕ × ℕ))) (next : Option (ℕ × ℕ)) → IsTable chain table
    → slice_get table element ≡ Some row → slice_get row out ≡ Some next → next ≡ next_of chain element out
row_leads chain table element out row next t is leads =
    let r = t.rows element row is in
    let same = r.whole in
    let lt = slice_get_within row out next leads in
    let q : Some next ≡ Some (next_of chain element out) = sym leads ∙ r.leads out (omega (arith, same, lt)) in
    some_of next _ q
  where
    some_of : (x y : Option (ℕ × ℕ)) → Some x ≡ Some y → x ≡ y
    some_of x y e = let q : Some x ≡ Some y = e in cc

entered : (device : ℕ) (kind : Kind) → is_entry device kind ≡ true → kind ≡ FromDevice device
entered device (FromDevice number) e = ap FromDevice (eqb-true number device e)
entered device kind e = absurd (let q : false ≡ true = e in cc)

-- no frames enter by a device beyond the entries
pub no_entry : (chain : ChainState) (arrivals : List (Option ℕ)) (device : ℕ) → IsNumbered chain → AreArrivals chain arrivals → length arrivals ≤ device → None ≡ entry_of chain device
no_entry chain arrivals device numbered a le = sym (position_none (is_entry device) chain.kinds refuse)
  where
    refuse : (i : ℕ) (kind : Kind) → slice_get chain.kinds i ≡ Some kind → is_entry device kind ≡ true → ⊥
    refuse i kind is e =
        let among = numbered.arrives i device (is ∙ ap Some (entered device kind e)) in
        let most = among.1 in
        let whole = a.whole in
        omega (arith, most, whole, le)
