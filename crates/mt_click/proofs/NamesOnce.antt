-- Names of which each stands once: read from the front, and as pairs.
use Rattle.std.proofs.Common.{◌≡◌, ℕ, zero, suc, ◌<◌, List, [], ◌∷◌, ◌++◌, length, get_or, Bool, true, false, refl, sym, ap, subst, ◌∙◌, arith}
use Rattle.std.specs.Prelude.{◌&&◌, ◌||◌, not, IsTrue}
use Rattle.std.specs.List.{AllByRecursion, AllPairs}
use Rattle.std.specs.Str.{bytes_eq}
use Rattle.std.proofs.Math.Seq.{get_or-append_seam}
use Rattle.std.proofs.lemmas.List.{append_assoc, append-nil, length-append, get_or_append_left}
use Rattle.std.proofs.lemmas.List.Quantifiers.{all_pairs_push}
use Rattle.std.proofs.lemmas.Slice.Eq.{bytes_eq-Decides}
use Rattle.mt_lists.proofs.Bools.{and_true}

pub and_join : (a b : Bool) → a ≡ true → b ≡ true → (a && b) ≡ true
and_join true b h k = k
and_join false b h k = absurd (let q : false ≡ true = h in cc)

pub not_passed : (b : Bool) → not b ≡ true → b ≡ false
not_passed true h = absurd (let q : false ≡ true = h in cc)
not_passed false h = refl

pub never : (b : Bool) → (b ≡ true → ⊥) → b ≡ false
never true h = absurd (h refl)
never false h = refl

neither : (a b : Bool) → not (a || b) ≡ true → (a ≡ false) × (b ≡ false)
neither true b h = absurd (let q : false ≡ true = h in cc)
neither false b h = (refl, not_passed b h)

neither_of : (a b : Bool) → a ≡ false → b ≡ false → not (a || b) ≡ true
neither_of true b h k = absurd (let q : true ≡ false = h in cc)
neither_of false b h k = ap not k

-- a name stands among some
abbrev pub has : {X : Type 0} → (X → List ℕ) → List X → List ℕ → Bool
has key [] name = false
has key (x ∷ xs) name = bytes_eq (key x) name || has key xs name

-- each of some is right, and its name stands neither before nor among those before it
abbrev pub fresh : {X : Type 0} → (X → List ℕ) → (X → Bool) → List X → List X → Bool
fresh key wrong earlier [] = true
fresh key wrong earlier (x ∷ xs) = not (wrong x || has key earlier (key x)) && fresh key wrong (earlier ++ x ∷ []) xs

and_assoc : (a b c : Bool) → (a && (b && c)) ≡ ((a && b) && c)
and_assoc true b c = refl
and_assoc false b c = refl

pub fresh_append : {X : Type 0} (key : X → List ℕ) (wrong : X → Bool) (earlier xs ys : List X)
    → fresh key wrong earlier (xs ++ ys) ≡ (fresh key wrong earlier xs && fresh key wrong (earlier ++ xs) ys)
fresh_append key wrong earlier [] ys = ap (λ l. fresh key wrong l ys) (sym (append-nil earlier))
fresh_append key wrong earlier (x ∷ xs) ys =
    let first = not (wrong x || has key earlier (key x)) in
    let more = earlier ++ x ∷ [] in
    ap (λ b. first && b) (fresh_append key wrong more xs ys ∙ ap (λ l. fresh key wrong more xs && fresh key wrong l ys) (append_assoc earlier (x ∷ []) xs))
    ∙ and_assoc first (fresh key wrong more xs) (fresh key wrong (earlier ++ x ∷ xs) ys)

abbrev pub AreApart : {X : Type 0} → (X → List ℕ) → List X → Type 0
AreApart key xs = AllPairs (λ a b. key a ≡ key b → ⊥) xs

has_none : {X : Type 0} (key : X → List ℕ) (xs : List X) (name : List ℕ) → has key xs name ≡ false → (k : ℕ) (d : X) → k < length xs → key (get_or xs k d) ≡ name → ⊥
has_none key [] name h k d lt e = absurd (omega (arith, lt))
has_none key (x ∷ xs) name h zero d lt e =
    let q : bytes_eq (key x) name ≡ true = (bytes_eq-Decides (key x) name).1 e in
    let r : true ≡ false = sym (ap (λ b. b || has key xs name) q) ∙ h in
    cc
has_none key (x ∷ xs) name h (suc k) d lt e = by (bytes_eq (key x) name) h (λ later. has_none key xs name later k d (let less : suc k < length (x ∷ xs) = lt in omega (arith, less)) e)
  where
    by : (b : Bool) → (b || has key xs name) ≡ false → (has key xs name ≡ false → ⊥) → ⊥
    by true q later = let r : true ≡ false = q in cc
    by false q later = later q

none_has : {X : Type 0} (key : X → List ℕ) (xs : List X) (name : List ℕ) → ((k : ℕ) (d : X) → k < length xs → key (get_or xs k d) ≡ name → ⊥) → has key xs name ≡ false
none_has key [] name h = refl
none_has key (x ∷ xs) name h =
    by (bytes_eq (key x) name) refl (none_has key xs name (λ k d lt e. h (suc k) d (omega (arith, lt)) e))
  where
    by : (b : Bool) → bytes_eq (key x) name ≡ b → has key xs name ≡ false → (b || has key xs name) ≡ false
    by true q later = absurd (h 0 x (omega arith) ((bytes_eq-Decides (key x) name).0 q))
    by false q later = later

abbrev pub NoneWrong : {X : Type 0} → (X → Bool) → List X → Type 0
NoneWrong wrong xs = AllByRecursion (λ x. IsTrue (wrong x) → ⊥) xs

fresh_more : {X : Type 0} (key : X → List ℕ) (wrong : X → Bool) (earlier xs : List X) → fresh key wrong earlier xs ≡ true → AreApart key earlier
    → AreApart key (earlier ++ xs) × NoneWrong wrong xs
fresh_more key wrong earlier [] h apart = (subst (AreApart key) (sym (append-nil earlier)) apart, tt)
fresh_more key wrong earlier (x ∷ xs) h apart =
    let split = and_true (not (wrong x || has key earlier (key x))) (fresh key wrong (earlier ++ x ∷ []) xs) h in
    let first = neither (wrong x) (has key earlier (key x)) split.0 in
    let later = fresh_more key wrong (earlier ++ x ∷ []) xs split.1 (all_pairs_push (λ a b. key a ≡ key b → ⊥) earlier x apart (λ k d lt e. has_none key earlier (key x) first.1 k d lt e)) in
    (subst (AreApart key) (append_assoc earlier (x ∷ []) xs) later.0, ((λ q. let r : true ≡ false = sym q ∙ first.0 in cc), later.1))

more_fresh : {X : Type 0} (key : X → List ℕ) (wrong : X → Bool) (earlier xs : List X) → AreApart key (earlier ++ xs) → NoneWrong wrong xs → fresh key wrong earlier xs ≡ true
more_fresh key wrong earlier [] apart right = refl
more_fresh key wrong earlier (x ∷ xs) apart right =
    let long = length-append earlier (x ∷ xs) in
    let none : has key earlier (key x) ≡ false = none_has key earlier (key x) (λ k d lt e.
    apart k (length earlier) d lt (omega (arith, long)) (ap key (get_or_append_left earlier (x ∷ xs) d k lt) ∙ e ∙ ap key (sym (get_or-append_seam earlier x xs d)))) in
    and_join (not (wrong x || has key earlier (key x))) (fresh key wrong (earlier ++ x ∷ []) xs)
    (neither_of (wrong x) (has key earlier (key x)) (never (wrong x) right.0) none)
    (more_fresh key wrong (earlier ++ x ∷ []) xs (subst (AreApart key) (sym (append_assoc earlier (x ∷ []) xs)) apart) right.1)

pub fresh_once : {X : Type 0} (key : X → List ℕ) (wrong : X → Bool) (xs : List X) → fresh key wrong [] xs ≡ true → AreApart key xs × NoneWrong wrong xs
fresh_once key wrong xs h = fresh_more key wrong [] xs h (λ i j d less lt. absurd (omega (arith, lt)))

pub once_fresh : {X : Type 0} (key : X → List ℕ) (wrong : X → Bool) (xs : List X) → AreApart key xs → NoneWrong wrong xs → fresh key wrong [] xs ≡ true
once_fresh key wrong xs apart right = more_fresh key wrong [] xs apart right
