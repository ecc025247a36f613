-- Pools that have a port in common, and the elements that hold them.
use Rattle.std.proofs.Common.{◌≡◌, ◌↔◌, ◌∙◌, ap, refl, sym, subst, inl, inr, ℕ, zero, suc, ◌+◌, ◌<◌, ◌≤◌, ◌||◌, ◌++◌, Bool, true, false, List, [], ◌∷◌, length, get_or, slice_get, Some, arith}
use Rattle.std.specs.List.{Contains, list_any}
use Rattle.std.proofs.lemmas.Bool.{cases_lt}
use Rattle.std.proofs.lemmas.List.{length_push}
use Rattle.std.proofs.lemmas.List.Folds.{list_any_at}
use Rattle.std.proofs.lemmas.Option.{slice_get-get_or, slice_get_within}
use Rattle.mt_lists.proofs.Members.{first_in, later_in}
use Rattle.mt_kinds.specs.declared.kind.Kind.{Kind}
use Rattle.mt_kinds.specs.declared.rewriter.Pool.{Pool}
use Rattle.mt_elements.specs.ChainState.{ChainState}
use Rattle.mt_elements.specs.Overlaps.{pool_numbers, ShareAPort, SharesWith, IsShared, Overlaps}
use Rattle.mt_elements.proofs.TableBuilt.{push_cases}
use Rattle.mt_elements.proofs.WiresTold.{some_same}

pub never : {P : Type 0} → (P → ⊥) → (false ≡ true) ↔ P
never none = (λ e. absurd (let q : false ≡ true = e in cc), λ p. absurd (none p))

-- two pools that stand there
pub shares_iff : (pools : List Pool) (number other : ℕ) (first second : Pool) (r : Bool) → (number ≡ other → ⊥) → slice_get pools number ≡ Some first → slice_get pools other ≡ Some second
    → (r ≡ true) ↔ ShareAPort first second → (r ≡ true) ↔ SharesWith pools number other
shares_iff pools number other first second r apart a b h = (
  λ e. record { apart = apart; first = first; first_is = a; second = second; second_is = b; shared = h.0 e },
  λ s.
      let one = some_same s.first first (sym s.first_is ∙ a) in
      let two = some_same s.second second (sym s.second_is ∙ b) in
      h.1 (subst (λ p. ShareAPort first p) two (subst (λ p. ShareAPort p s.second) one s.shared)),
)

-- with none of the first so many
abbrev pub SharesNone : List Pool → ℕ → ℕ → Type 0
SharesNone pools number bound = (other : ℕ) → other < bound → SharesWith pools number other → ⊥

pub one_more_apart : (pools : List Pool) (number at : ℕ) (r : Bool) → (r ≡ true) ↔ SharesWith pools number at → r ≡ false → SharesNone pools number at → SharesNone pools number (at + 1)
one_more_apart pools number at r h fails before other lt s = elim (cases_lt other at) [
  | inl earlier ↦ before other earlier s
  | inr last ↦
      let same : other ≡ at = omega (arith, lt, last) in
      let passes = h.1 (subst (SharesWith pools number) same s) in
      let q : false ≡ true = sym fails ∙ passes in cc
]

pub none_shares : (pools : List Pool) (number at : ℕ) → length pools ≤ at → SharesNone pools number at → IsShared pools number → ⊥
none_shares pools number at le h (other, s) = h other (let lt = slice_get_within pools other s.second s.second_is in omega (arith, lt, le)) s

-- the first so many marks tell which pools are shared
pub record AreMarked (pools : List Pool) (marks : List Bool) (bound : ℕ) : Type 0 where
  pub whole : length marks ≡ bound
  pub each : (number : ℕ) (mark : Bool) → slice_get marks number ≡ Some mark → (mark ≡ true) ↔ IsShared pools number

abbrev pub Marks : List Pool → List Bool → Type 0
Marks pools marks = (number : ℕ) → (get_or marks number false ≡ true) ↔ IsShared pools number

pub marks_more : (pools : List Pool) (old new : List Bool) (number : ℕ) (mark : Bool) → (mark ≡ true) ↔ IsShared pools number → new ≡ old ++ mark ∷ [] → AreMarked pools old number → AreMarked pools new (number + 1)
marks_more pools old new number mark h pushed m = record {
  whole = (let a = ap length pushed in let b = length_push old mark in let c = m.whole in omega (arith, a, b, c));
  each = λ other found is. elim (push_cases old mark other found (ap (λ xs. slice_get xs other) (sym pushed) ∙ is)) [
    | inl before ↦ m.each other found before
    | inr last ↦ subst (λ n. (found ≡ true) ↔ IsShared pools n) (sym (last.0 ∙ m.whole)) (subst (λ b. (b ≡ true) ↔ IsShared pools number) last.1 h)
  ];
}

-- no mark is left out
pub marks_all : (pools : List Pool) (marks : List Bool) (bound : ℕ) → length pools ≤ bound → AreMarked pools marks bound → Marks pools marks
marks_all pools marks bound le m number = elim (cases_lt number (length marks)) [
  | inl lt ↦ m.each number (get_or marks number false) (slice_get-get_or marks number false lt)
  | inr beyond ↦
      let none : get_or marks number false ≡ false = get_or_past marks number beyond in
      subst (λ b. (b ≡ true) ↔ IsShared pools number) (sym none) (never (λ s. let lt = slice_get_within pools number s.1.first s.1.first_is in let w = m.whole in omega (arith, lt, w, le, beyond)))
]
  where
    get_or_past : (bs : List Bool) (i : ℕ) → length bs ≤ i → get_or bs i false ≡ false
    get_or_past [] i le = refl
    get_or_past (b ∷ bs) zero le = absurd (omega (arith, le))
    get_or_past (b ∷ bs) (suc i) le = get_or_past bs i (omega (arith, le))

any_one : {X : Type 0} (p : X → Bool) (x : X) (xs : List X) (b : Bool) → p x ≡ b → (b || list_any p xs) ≡ true → (list_any p xs ≡ true → (y : X) × Contains xs y × (p y ≡ true)) → (y : X) × Contains (x ∷ xs) y × (p y ≡ true)
any_one p x xs true h q rest = (x, first_in x xs, h)
any_one p x xs false h q rest = let r = rest q in (r.0, later_in x xs r.0 r.1, r.2)

any_of : {X : Type 0} (p : X → Bool) (xs : List X) → list_any p xs ≡ true → (x : X) × Contains xs x × (p x ≡ true)
any_of p [] e = absurd (let q : false ≡ true = e in cc)
any_of p (x ∷ xs) e = any_one p x xs (p x) refl e (λ q. any_of p xs q)

-- an element holds a marked pool
pub overlaps_iff : (chain : ChainState) (marks : List Bool) (element : ℕ) (kind : Kind) (r : Bool) → Marks chain.pools marks → slice_get chain.kinds element ≡ Some kind
    → r ≡ list_any (λ number. get_or marks number false) (pool_numbers kind) → (r ≡ true) ↔ Overlaps chain element
overlaps_iff chain marks element kind r m is e = (
  λ t.
      let held = any_of (λ number. get_or marks number false) (pool_numbers kind) (sym e ∙ t) in
      record { kind = kind; stands = is; number = held.0; holds = held.1; shared = (m held.0).0 held.2 },
  λ o.
      let same = some_same o.kind kind (sym o.stands ∙ is) in
      let c = subst (λ k. Contains (pool_numbers k) o.number) same o.holds in
      e ∙ list_any_at (λ number. get_or marks number false) (pool_numbers kind) c.0 o.number c.1 (ap (λ n. get_or marks n false) c.2 ∙ (m o.number).1 o.shared),
)

abbrev pub NoneOverlaps : ChainState → ℕ → Type 0
NoneOverlaps chain bound = (element : ℕ) → element < bound → Overlaps chain element → ⊥

pub one_more_kept : (chain : ChainState) (at : ℕ) (r : Bool) → (r ≡ true) ↔ Overlaps chain at → r ≡ false → NoneOverlaps chain at → NoneOverlaps chain (at + 1)
one_more_kept chain at r h fails before element lt o = elim (cases_lt element at) [
  | inl earlier ↦ before element earlier o
  | inr last ↦
      let same : element ≡ at = omega (arith, lt, last) in
      let passes = h.1 (subst (Overlaps chain) same o) in
      let q : false ≡ true = sym fails ∙ passes in cc
]

pub none_overlaps : (chain : ChainState) (at : ℕ) → length chain.kinds ≤ at → NoneOverlaps chain at → (element : ℕ) → Overlaps chain element → ⊥
none_overlaps chain at le h element o = h element (let lt = slice_get_within chain.kinds element o.kind o.stands in omega (arith, lt, le)) o
