-- No two mappings have one forward key, and no two one reply key.
use Rattle.std.proofs.Common.{◌≡◌, ◌≢◌, ◌∙◌, ℕ, suc, ◌<◌, List, [], ◌∷◌, Option, Some, None, Contains, AllPairs, sym, ap, subst, refl, arith}
use Rattle.std.specs.BTreeMap as tree
use Rattle.mt_lists.proofs.Members.{first_in, later_in}
use Rattle.mt_lists.proofs.Pairs.{no_pairs, one_first}
use Rattle.mt_flow.specs.declared.keys.ForwardKey.{ForwardKey}
use Rattle.mt_flow.specs.declared.mapping.Mapping.{Mapping}
use Rattle.mt_flow.specs.declared.indexes.Indexes.{Indexes}
use Rattle.mt_flow.specs.Keys.{forward_cmp, reply_cmp}
use Rattle.mt_flow.specs.Mappings.{forward_key, reply_key}
use Rattle.mt_flow.specs.Tied.{IsRising, listed, with_found}
use Rattle.mt_flow.proofs.Kept.{age_below, aged_of}
use Rattle.mt_flow.proofs.Stored.{ForwardMap, AllTied, list_of}

found_first : (R : Mapping → Mapping → Type 0) (o : Option Mapping) (rest : List Mapping) → ((m : Mapping) → o ≡ Some m → (y : Mapping) → Contains rest y → R m y) → AllPairs R rest → AllPairs R (with_found o rest)
found_first R None rest h pairs = pairs
found_first R (Some m) rest h pairs = one_first R m rest (h m refl) pairs

listed_pairs : (R : Mapping → Mapping → Type 0) (forward : ForwardKey → Option Mapping) (least next : ℕ) (order whole : List (ℕ × ForwardKey)) → ((aged : ℕ × ForwardKey) → Contains order aged → Contains whole aged) → IsRising least next order
    → ((age other : ℕ) (key k : ForwardKey) (m y : Mapping) → Contains whole (age, key) → forward key ≡ Some m → Contains whole (other, k) → forward k ≡ Some y → age < other → R m y) → AllPairs R (listed forward order)
listed_pairs R forward least next [] whole sub rising apart = no_pairs R
listed_pairs R forward least next (x ∷ xs) whole sub rising apart =
    found_first R (forward x.1) (listed forward xs)
    (λ m found y c.
    let a = aged_of forward xs y c in
    let above = age_below (suc x.0) next xs a.0 a.1.0 rising.1 a.1.1.0 in
    let low = above.0 in
    apart x.0 a.0 x.1 a.1.0 m y (sub x (first_in x xs)) found (sub (a.0, a.1.0) (later_in x xs (a.0, a.1.0) a.1.1.0)) a.1.1.1 (omega (arith, low)))
    (listed_pairs R forward (suc x.0) next xs whole (λ aged c. sub aged (later_in x xs aged c)) rising.1 apart)

pub forward_apart : (by_forward : ForwardMap) (indexes : Indexes) (next : ℕ) → AllTied by_forward indexes → IsRising 0 next indexes.by_age.entries → AllPairs (λ x y. forward_key x ≢ forward_key y) (list_of by_forward indexes)
forward_apart by_forward indexes next t rising =
    listed_pairs (λ x y. forward_key x ≢ forward_key y) (tree.get forward_cmp by_forward) 0 next indexes.by_age.entries indexes.by_age.entries (λ aged c. c) rising
    (λ age other key k m y here found there also less same.
    let h = t.has_mapping age key here in let g = t.has_mapping other k there in
    let m_is : h.0 ≡ m = (let p = h.1.0 in cc) in let y_is : g.0 ≡ y = (let p = g.1.0 in cc) in
    let keys : k ≡ key = sym g.1.1 ∙ ap (λ (z : Mapping). forward_key z) y_is ∙ sym same ∙ ap (λ (z : Mapping). forward_key z) (sym m_is) ∙ h.1.1 in
    let one = t.one_age age other key here (subst (λ z. Contains indexes.by_age.entries (other, z)) keys there) in
    omega (arith, one, less))

pub reply_apart : (by_forward : ForwardMap) (indexes : Indexes) (next : ℕ) → AllTied by_forward indexes → IsRising 0 next indexes.by_age.entries → AllPairs (λ x y. reply_key x ≢ reply_key y) (list_of by_forward indexes)
reply_apart by_forward indexes next t rising =
    listed_pairs (λ x y. reply_key x ≢ reply_key y) (tree.get forward_cmp by_forward) 0 next indexes.by_age.entries indexes.by_age.entries (λ aged c. c) rising
    (λ age other key k m y here found there also less same.
    let h = t.has_reply key m found in let g = t.has_reply k y also in
    let keys : k ≡ key = (let one = ap (tree.get reply_cmp indexes.by_reply) same in cc) in
    let one = t.one_age age other key here (subst (λ z. Contains indexes.by_age.entries (other, z)) keys there) in
    omega (arith, one, less))
