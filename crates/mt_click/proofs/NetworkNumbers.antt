-- A network has the connections that it was made of.
use Rattle.std.proofs.Common.{◌≡◌, ◌↔◌, ℕ, zero, suc, ◌<◌, ◌⊎◌, inl, inr, List, [], ◌∷◌, ◌++◌, length, slice_get, get_or, Some, None, Bool, true, false, refl, sym, ap, ◌∙◌, subst, arith}
use Rattle.std.specs.List.{Contains, AllByRecursion, IsDistinct}
use Rattle.std.proofs.lemmas.Option.{slice_get-get_or, slice_get_within, slice_get_read, get_or_from_slice_get}
use Rattle.mt_reach.specs.Reach.{targets_of, Reaches, here, on, AreBetween}
use Rattle.mt_click.specs.declared.connections.Port.{Port}
use Rattle.mt_click.specs.declared.connections.Connection.{Connection}
use Rattle.mt_click.specs.Networks.{StandsAt, Grows, IsPair, IsNetwork}
use Rattle.mt_click.specs.Wires.{Leads, stays, follows}

pub some_same : {X : Type 0} (x y : X) → Some x ≡ Some y → x ≡ y
some_same x y e = let q : Some x ≡ Some y = e in cc

other : {K : Type 0} (eq : K → K → Bool) → ((x : K) → eq x x ≡ true) → (x : K) (xs : List K) → AllByRecursion (λ y. eq x y ≡ false) xs → (j : ℕ) (p : K) → x ≡ p → slice_get xs j ≡ Some p → ⊥
other eq own x [] h j p e b = let q : None ≡ Some p = b in cc
other eq own x (y ∷ ys) h zero p e b =
    let same : x ≡ y = e ∙ sym (some_same y p b) in
    let q : true ≡ false = sym (own x) ∙ ap (eq x) same ∙ h.0 in cc
other eq own x (y ∷ ys) h (suc j) p e b = other eq own x ys h.1 j p e b

-- what stands in a list with one more
pub push_get : {X : Type 0} (xs : List X) (y : X) (k : ℕ) (x : X) → slice_get xs k ≡ Some x → slice_get (xs ++ y ∷ []) k ≡ Some x
push_get [] y k x e = absurd (let q : None ≡ Some x = e in cc)
push_get (z ∷ zs) y zero x e = e
push_get (z ∷ zs) y (suc k) x e = push_get zs y k x e

pub push_cases : {X : Type 0} (xs : List X) (y : X) (k : ℕ) (x : X) → slice_get (xs ++ y ∷ []) k ≡ Some x → slice_get xs k ≡ Some x ⊎ ((k ≡ length xs) × (y ≡ x))
push_cases [] y zero x e = inr (refl, some_same y x e)
push_cases [] y (suc k) x e = absurd (let q : None ≡ Some x = e in cc)
push_cases (z ∷ zs) y zero x e = inl e
push_cases (z ∷ zs) y (suc k) x e = elim (push_cases zs y k x e) [
  | inl old ↦ inl old
  | inr new ↦ inr (let n : suc k ≡ suc (length zs) = ap suc new.0 in omega (arith, n), new.1)
]

-- keys that are distinct stand at one place each
pub distinct_apart : {K : Type 0} (eq : K → K → Bool) → ((x : K) → eq x x ≡ true) → (ks : List K) → IsDistinct eq ks → (i j : ℕ) (p : K) → slice_get ks i ≡ Some p → slice_get ks j ≡ Some p → i ≡ j
unfolding IsDistinct
distinct_apart eq own [] h i j p a b = absurd (let q : None ≡ Some p = a in cc)
distinct_apart eq own (x ∷ xs) h zero zero p a b = refl
distinct_apart eq own (x ∷ xs) h zero (suc j) p a b = absurd (other eq own x xs h.0 j p (some_same x p a) b)
distinct_apart eq own (x ∷ xs) h (suc i) zero p a b = absurd (other eq own x xs h.0 i p (some_same x p b) a)
distinct_apart eq own (x ∷ xs) h (suc i) (suc j) p a b = ap suc (distinct_apart eq own xs h.1 i j p a b)

pub grown : (a b c : List Port) → Grows a b → Grows b c → Grows a c
grown a b c g h n p e = h n p (g n p e)

-- one more connection
pub one_more : (ports more : List Port) (connections : List Connection) (pairs : List (ℕ × ℕ)) (at : ℕ) (one : Connection) (pair : ℕ × ℕ)
    → length pairs ≡ at → slice_get connections at ≡ Some one → Grows ports more → IsPair more one pair
    → ((k : ℕ) (l : Connection) (p : ℕ × ℕ) → slice_get connections k ≡ Some l → slice_get pairs k ≡ Some p → IsPair ports l p)
    → (k : ℕ) (l : Connection) (p : ℕ × ℕ) → slice_get connections k ≡ Some l → slice_get (pairs ++ pair ∷ []) k ≡ Some p → IsPair more l p
one_more ports more connections pairs at one pair len is grows here_pair each k l p hl hp = elim (push_cases pairs pair k p hp) [
  | inl old ↦ let q = each k l p hl old in (grows p.0 l.from q.0, grows p.1 l.to q.1)
  | inr new ↦
      let e : k ≡ at = new.0 ∙ len in
      let same : one ≡ l = some_same one l (sym is ∙ ap (slice_get connections) (sym e) ∙ hl) in
      subst (λ x. IsPair more x p) same (subst (IsPair more one) new.1 here_pair)
]

pub member : {X : Type 0} (xs : List X) (x : X) → Contains xs x → (k : ℕ) × (slice_get xs k ≡ Some x)
member xs x c = (c.0, slice_get-get_or xs c.0 x c.1 ∙ ap Some c.2)

pub contained : {X : Type 0} (xs : List X) (k : ℕ) (x : X) → slice_get xs k ≡ Some x → Contains xs x
contained xs k x e = (k, slice_get_within xs k x e, get_or_from_slice_get xs k x x e)

-- what stands at a place below the length
there : {X : Type 0} (xs : List X) (k : ℕ) → k < length xs → (x : X) × (slice_get xs k ≡ Some x)
there [] k lt = absurd (omega arith)
there (x ∷ xs) zero lt = (x, refl)
there (x ∷ xs) (suc k) lt = there xs k (omega arith)

module _ (ports : List Port) (connections : List Connection) (pairs : List (ℕ × ℕ)) (net : IsNetwork ports connections pairs) where
  -- the pair of a connection
  pub pair_of : (l : Connection) → Contains connections l → (pair : ℕ × ℕ) × Contains pairs pair × IsPair ports l pair
  pair_of l c =
      let m = member connections l c in
      let p = there pairs m.0 (let lt = slice_get_within connections m.0 l m.1 in omega (arith, lt, net.len)) in
      (p.0, contained pairs m.0 p.0 p.1, net.each m.0 l p.0 m.1 p.1)

  -- the connection of a pair
  pub connection_of_pair : (pair : ℕ × ℕ) → Contains pairs pair → (l : Connection) × Contains connections l × IsPair ports l pair
  connection_of_pair pair c =
      let m = member pairs pair c in
      let l = there connections m.0 (let lt = slice_get_within pairs m.0 pair m.1 in omega (arith, lt, net.len)) in
      (l.0, contained connections m.0 l.0 l.1, net.each m.0 l.0 pair l.1 m.1)

  pub between : AreBetween pairs (length ports)
  between pair c =
      let l = connection_of_pair pair c in
      (slice_get_within ports pair.0 l.0.from l.2.0, slice_get_within ports pair.1 l.0.to l.2.1)

  -- the pair of the connection at a place
  pub pair_read : (at : ℕ) (pair : ℕ × ℕ) → at < length connections → pair ≡ get_or pairs at pair → slice_get pairs at ≡ Some pair
  pair_read at pair lt e = slice_get_read pairs (length connections) at pair (sym net.len) lt e

  pub start_within : (at : ℕ) (pair : ℕ × ℕ) → slice_get pairs at ≡ Some pair → pair.1 < length ports
  start_within at pair e = (between pair (contained pairs at pair e)).1

  module _ (graph : List (List ℕ)) (exact : (a b : ℕ) → Contains (targets_of graph a) b ↔ Contains pairs (a, b)) where
    -- what is reached from a number stands for a port that connections lead to
    pub sound : (a n : ℕ) (p : Port) → Reaches graph a n → StandsAt ports a p → (q : Port) × StandsAt ports n q × Leads connections p q
    sound _ _ p (here _ a) h = (p, h, stays connections p)
    sound _ _ p (on _ a b c path connection) h =
        let q = sound a b p path h in
        let l = connection_of_pair (b, c) ((exact b c).0 connection) in
        let same : l.0.from ≡ q.0 = some_same l.0.from q.0 (sym l.2.0 ∙ q.1) in
        (l.0.to, l.2.1, follows connections p q.0 l.0.to l.0 q.2 l.1 same refl)

    -- and all such ports are
    pub complete : (a : ℕ) (p q : Port) → Leads connections p q → StandsAt ports a p → (n : ℕ) × StandsAt ports n q × Reaches graph a n
    complete a _ _ (stays _ p) h = (a, h, here graph a)
    complete a _ _ (follows _ p q r l path c from to) h =
        let n = complete a p q path h in
        let pair = pair_of l c in
        let same : pair.0.0 ≡ n.0 = net.apart pair.0.0 n.0 q (pair.2.0 ∙ ap Some from) n.1 in
        let connection : Contains (targets_of graph n.0) pair.0.1 = subst (λ x. Contains (targets_of graph x) pair.0.1) same ((exact pair.0.0 pair.0.1).1 pair.1) in
        (pair.0.1, pair.2.1 ∙ ap Some to, on graph a n.0 pair.0.1 n.2 connection)
