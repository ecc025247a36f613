-- A search, one node on.
use Rattle.std.proofs.Common.{◌≡◌, ℕ, zero, suc, ◌+◌, ◌<◌, ◌≤◌, ◌⊎◌, inl, inr, List, [], ◌∷◌, ◌++◌, length, get_or, Bool, true, false, not, cond, refl, sym, ap, ◌∙◌, subst, arith}
use Rattle.std.proofs.Math.ListN.{set}
use Rattle.std.specs.List.{Contains}
use Rattle.std.proofs.Common.{get_or-set_other, get_or-set_same}
use Rattle.std.proofs.lemmas.Bool.{cases_lt, eq-eqb}
use Rattle.std.proofs.lemmas.Bool.Decides.{eqb_tells}
use Rattle.std.proofs.lemmas.List.{length-append, length-set, get_or_default, get_or_past, get_or_at}
use Rattle.std.proofs.lemmas.List.Sums.{sum_by-set}
use Rattle.std.proofs.Common.{below_more, eqb}
use Rattle.std.proofs.lemmas.Bool.Decides.{nat_tests}
use Rattle.std.proofs.lemmas.List.Elements.{Contains-get_or, Contains-append_left, Contains-push, Contains-push_cases}
use Rattle.mt_reach.specs.Reach.{targets_of, Reaches, on, here, AreWithin, AreBelow, Marked, unmarked, IsSearch}

pub set_marked : (mark t : ℕ) (seen : List ℕ) → t < length seen → Marked mark (set seen t mark) t
set_marked mark t seen lt = rw get_or-set_same refl

pub set_kept : (mark t n : ℕ) (seen : List ℕ) → t < length seen → Marked mark seen n → Marked mark (set seen t mark) n
set_kept mark t n seen lt h = elim (eqb_tells n t) [
  | inl same ↦ subst (λ k. Marked mark (set seen t mark) k) (sym same.1) (set_marked mark t seen lt)
  | inr other ↦ let ne : n ≡ t → ⊥ = other.1 in rw get_or-set_other h
]

pub set_cases : (mark t n : ℕ) (seen : List ℕ) → t < length seen → Marked mark (set seen t mark) n → Marked mark seen n ⊎ (t ≡ n)
set_cases mark t n seen lt h = elim (eqb_tells n t) [
  | inl same ↦ inr (sym same.1)
  | inr other ↦ let ne : n ≡ t → ⊥ = other.1 in inl (rw get_or-set_other at h)
]

-- a mark that is set is at most the mark of the search
pub set_below : (mark t : ℕ) (seen : List ℕ) → t < length seen → AreBelow (mark + 1) seen → AreBelow (mark + 1) (set seen t mark)
set_below mark t seen lt h n = elim (eqb_tells n t) [
  | inl same ↦ let e : get_or (set seen t mark) n 0 ≡ mark = ap (λ k. get_or (set seen t mark) k 0) same.1 ∙ get_or-set_same seen t mark 0 lt in omega (arith, e)
  | inr other ↦ let ne : n ≡ t → ⊥ = other.1 in rw get_or-set_other (h n)
]

front : (xs : List ℕ) (y j : ℕ) → j < length xs → get_or (xs ++ y ∷ []) j 0 ≡ get_or xs j 0
front [] y j lt = absurd (omega arith)
front (x ∷ xs) y zero lt = refl
front (x ∷ xs) y (suc j) lt = let less : j < length xs = omega arith in front xs y j less

-- a node that was not marked is found
pub add : (graph : List (List ℕ)) (mark k t : ℕ) (seen order : List ℕ) → t < length seen → (Marked mark seen t → ⊥) → k < length order → Contains (targets_of graph (get_or order k 0)) t
    → IsSearch graph mark k seen order → IsSearch graph mark k (set seen t mark) (order ++ t ∷ [])
add graph mark k t seen order lt fresh within link s =
    let first : get_or (order ++ t ∷ []) 0 0 ≡ get_or order 0 0 = front order t 0 s.there in
    record {
      there = omega (arith, length-append order (t ∷ []));
      found = λ n m. elim (set_cases mark t n seen lt m) [
        | inl old ↦ Contains-append_left order (t ∷ []) n (s.found n old)
        | inr same ↦ subst (Contains (order ++ t ∷ [])) same (Contains-push order t)
      ];
      marked = λ n h. elim (Contains-push_cases order t n h) [
        | inl old ↦ set_kept mark t n seen lt (s.marked n old)
        | inr same ↦ subst (Marked mark (set seen t mark)) same (set_marked mark t seen lt)
      ];
      reached = λ n h. subst (λ x. Reaches graph x n) (sym first) (elim (Contains-push_cases order t n h) [
        | inl old ↦ s.reached n old
        | inr same ↦ subst (Reaches graph (get_or order 0 0)) same (on graph (get_or order 0 0) (get_or order k 0) t (s.reached (get_or order k 0) (Contains-get_or order k 0 within)) link)
      ]);
      closed = λ j less b h. set_kept mark t b seen lt (s.closed j less b (subst (λ x. Contains (targets_of graph x) b) (front order t j (omega arith)) h));
      below = set_below mark t seen lt s.below;
      apart = λ i j less under e. elim (cases_lt j (length order)) [
        | inl earlier ↦ s.apart i j less earlier (sym (front order t i (omega arith)) ∙ e ∙ front order t j earlier)
        | inr last ↦
            let n : j ≡ length order = omega (arith, length-append order (t ∷ [])) in
            let before : i < length order = omega arith in
            let own : get_or (order ++ t ∷ []) j 0 ≡ t = ap (λ k. get_or (order ++ t ∷ []) k 0) n ∙ get_or_at order t [] 0 (length order) refl in
            let same : get_or order i 0 ≡ t = sym (front order t i before) ∙ e ∙ own in
            fresh (subst (Marked mark seen) same (s.marked (get_or order i 0) (Contains-get_or order i 0 before)))
      ];
    }

-- all links of a node were followed
pub followed : (graph : List (List ℕ)) (mark k : ℕ) (seen order : List ℕ) → ((b : ℕ) → Contains (targets_of graph (get_or order k 0)) b → Marked mark seen b)
    → IsSearch graph mark k seen order → IsSearch graph mark (k + 1) seen order
followed graph mark k seen order all s = record {
  there = s.there;
  found = s.found;
  marked = s.marked;
  reached = s.reached;
  closed = λ j less b h. elim (cases_lt j k) [
    | inl earlier ↦ s.closed j earlier b h
    | inr last ↦ let same : j ≡ k = omega arith in all b (subst (λ x. Contains (targets_of graph (get_or order x 0)) b) same h)
  ];
  apart = s.apart;
  below = s.below;
}

-- what is known of each place is known of each member
pub each : (mark : ℕ) (seen xs : List ℕ) → ((j : ℕ) → j < length xs → Marked mark seen (get_or xs j 0)) → (b : ℕ) → Contains xs b → Marked mark seen b
each mark seen xs h b c = subst (Marked mark seen) (get_or_default xs c.0 0 b c.1 ∙ c.2) (h c.0 c.1)

-- a search whose links were all followed has found all that is reached
pub complete : (graph : List (List ℕ)) (mark k : ℕ) (seen order : List ℕ) → length order ≤ k → IsSearch graph mark k seen order → (a n : ℕ) → Reaches graph a n → Marked mark seen a → Marked mark seen n
complete graph mark k seen order all s _ _ (here _ a) m = m
complete graph mark k seen order all s _ _ (on _ a b n way link) m =
    let c = s.found b (complete graph mark k seen order all s a b way m) in
    let e : get_or order c.0 0 ≡ b = get_or_default order c.0 0 b c.1 ∙ c.2 in
    s.closed c.0 (omega (arith, c.1)) n (subst (λ x. Contains (targets_of graph x) n) (sym e) link)

abbrev weight : Bool → ℕ
weight b = cond (not b) 1 0

-- one node fewer is unmarked
pub cost_set : (mark t d : ℕ) (seen : List ℕ) → t < length seen → (get_or seen t d ≡ mark → ⊥) → unmarked mark (set seen t mark) + 1 ≡ unmarked mark seen
cost_set mark t d seen lt h =
    let whole = sum_by-set (λ m. cond (not (eqb m mark)) 1 0) seen t mark d lt in
    let own : eqb mark mark ≡ true = eq-eqb mark mark refl in
    let other : eqb (get_or seen t d) mark ≡ false = grind (arith, nat_tests) in
    let a = ap weight own in
    let b = ap weight other in
    omega (arith, whole, a, b)

-- the links of a node are being followed
pub record IsFollowing (graph : List (List ℕ)) (mark at node i : ℕ) (seen order seen0 order0 : List ℕ) : Type 0 where
  pub search : IsSearch graph mark at seen order
  pub same : get_or order at 0 ≡ node
  pub within : at < length order
  pub before : (j : ℕ) → j < i → Marked mark seen (get_or (targets_of graph node) j 0)
  pub len : length seen ≡ length seen0
  pub longer : length order0 ≤ length order
  pub cost : unmarked mark seen + length order ≡ unmarked mark seen0 + length order0
  pub first : get_or order 0 0 ≡ get_or order0 0 0

pub follows : (graph : List (List ℕ)) (mark at node : ℕ) (seen order : List ℕ) → IsSearch graph mark at seen order → get_or order at 0 ≡ node → at < length order → IsFollowing graph mark at node 0 seen order seen order
follows graph mark at node seen order s same within = record {
  search = s;
  same = same;
  within = within;
  before = λ j h. absurd (omega arith);
  len = refl;
  longer = omega arith;
  cost = refl;
  first = refl;
}

-- a node that is marked
pub step_old : (graph : List (List ℕ)) (mark at node i : ℕ) (seen order seen0 order0 : List ℕ) → Marked mark seen (get_or (targets_of graph node) i 0) → IsFollowing graph mark at node i seen order seen0 order0
    → IsFollowing graph mark at node (i + 1) seen order seen0 order0
step_old graph mark at node i seen order seen0 order0 m f = record {
  search = f.search;
  same = f.same;
  within = f.within;
  before = below_more _ _ f.before m;
  len = f.len;
  longer = f.longer;
  cost = f.cost;
  first = f.first;
}

-- a node that is not
pub step_new : (graph : List (List ℕ)) (mark at node i d : ℕ) (seen order seen0 order0 : List ℕ) → i < length (targets_of graph node) → get_or (targets_of graph node) i 0 < length seen
    → (get_or seen (get_or (targets_of graph node) i 0) d ≡ mark → ⊥) → IsFollowing graph mark at node i seen order seen0 order0
    → IsFollowing graph mark at node (i + 1) (set seen (get_or (targets_of graph node) i 0) mark) (order ++ get_or (targets_of graph node) i 0 ∷ []) seen0 order0
step_new graph mark at node i d seen order seen0 order0 less lt new f =
    let t = get_or (targets_of graph node) i 0 in
    let link : Contains (targets_of graph (get_or order at 0)) t = subst (λ x. Contains (targets_of graph x) t) (sym f.same) (Contains-get_or (targets_of graph node) i 0 less) in
    let longer_by : length (order ++ t ∷ []) ≡ length order + 1 = omega (arith, length-append order (t ∷ [])) in
    let cost = cost_set mark t d seen lt new in
    record {
      search = add graph mark at t seen order lt (λ m. new (get_or_default seen t d (mark + 1) lt ∙ m)) f.within link f.search;
      same = front order t at f.within ∙ f.same;
      within = omega (arith, longer_by, f.within);
      before = below_more _ _ (λ j h. set_kept mark t (get_or (targets_of graph node) j 0) seen lt (f.before j h)) (set_marked mark t seen lt);
      len = length-set seen t mark ∙ f.len;
      longer = omega (arith, longer_by, f.longer);
      cost = omega (arith, longer_by, cost, f.cost);
      first = front order t 0 f.search.there ∙ f.first;
    }

pub all_followed : (graph : List (List ℕ)) (mark at node i : ℕ) (seen order seen0 order0 : List ℕ) → length (targets_of graph node) ≤ i → IsFollowing graph mark at node i seen order seen0 order0 → IsSearch graph mark (at + 1) seen order
all_followed graph mark at node i seen order seen0 order0 le f =
    followed graph mark at seen order
    (λ b h. each mark seen (targets_of graph node) (λ j less. f.before j (omega arith)) b (subst (λ x. Contains (targets_of graph x) b) f.same h)) f.search

-- a search begins
pub begins : (graph : List (List ℕ)) (mark start : ℕ) (seen order : List ℕ) → start < length seen → AreBelow mark seen → order ≡ start ∷ []
    → IsSearch graph mark 0 (set seen start mark) order
begins graph mark start seen order lt fresh e = subst (IsSearch graph mark 0 (set seen start mark)) (sym e) (record {
  there = omega arith;
  found = λ n m. elim (set_cases mark start n seen lt m) [
    | inl old ↦ absurd (is_fresh n old)
    | inr same ↦ subst (Contains (start ∷ [])) same (Contains-push [] start)
  ];
  marked = λ n h. elim (Contains-push_cases [] start n h) [
    | inl none ↦ absurd (omega (arith, none.1))
    | inr same ↦ subst (Marked mark (set seen start mark)) same (set_marked mark start seen lt)
  ];
  reached = λ n h. elim (Contains-push_cases [] start n h) [
    | inl none ↦ absurd (omega (arith, none.1))
    | inr same ↦ subst (Reaches graph start) same (here graph start)
  ];
  closed = λ j h b k. absurd (omega arith);
  apart = λ i j less under e. absurd (omega arith);
  below = set_below mark start seen lt (λ n. let less = fresh n in omega (arith, less));
})
  where
    is_fresh : (n : ℕ) → Marked mark seen n → ⊥
    is_fresh n m = elim (cases_lt n (length seen)) [
      | inl within ↦ let e : get_or seen n 0 ≡ mark = get_or_default seen n 0 (mark + 1) within ∙ m in let less = fresh n in omega (arith, e, less)
      | inr past ↦ let e : mark + 1 ≡ mark = sym (get_or_past seen n (mark + 1) past) ∙ m in omega arith
    ]

-- a target that is read is a node
pub target_within : (graph : List (List ℕ)) (node i count : ℕ) (read : List ℕ) → read ≡ targets_of graph node → i < length read → AreWithin graph count → get_or read i 0 < count
target_within graph node i count read e lt within = within node (get_or read i 0) (subst (λ xs. Contains xs (get_or read i 0)) e (Contains-get_or read i 0 lt))
