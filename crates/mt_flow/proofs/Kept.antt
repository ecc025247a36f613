-- The maps stay tied as a mapping is opened and as one is taken out.
use Rattle.std.proofs.Common.{◌≡◌, ◌≢◌, ◌⊎◌, ◌∙◌, ℕ, suc, ◌<◌, ◌≤◌, List, [], ◌∷◌, ◌++◌, Option, Some, None, Contains, sym, ap, refl, subst, inl, inr, arith, Equal, Greater}
use Rattle.std.specs.BTreeMap as tree
use Rattle.std.specs.Map.{remove_entry}
use Rattle.std.specs.Ordering.{nat_cmp}
use Rattle.std.proofs.lemmas.Bool.Decides.{nat_tests}
use Rattle.std.proofs.lemmas.List.Elements.{Contains-append_left, Contains-append_right, Contains-append_cases}
use Rattle.mt_lists.proofs.Members.{first_in, later_in, cases_in, none_in}
use Rattle.mt_flow.specs.declared.keys.ForwardKey.{ForwardKey}
use Rattle.mt_flow.specs.declared.keys.ReplyKey.{ReplyKey}
use Rattle.mt_flow.specs.declared.keys.LaneAge.{LaneAge}
use Rattle.mt_flow.specs.declared.mapping.Mapping.{Mapping}
use Rattle.mt_flow.specs.Mappings.{forward_key, reply_key}
use Rattle.mt_flow.specs.Tied.{IsTied, IsRising, lane_age, listed, with_found}
use Rattle.mt_flow.proofs.Orders.{IsUpdate, one_or_apart, forward_exact, reply_exact, lane_exact, rising_ends}

abbrev Forward : Type 0
Forward = ForwardKey → Option Mapping

-- a key that is found is none that is not
found_apart : {K X : Type 0} (f : K → Option X) (x y : K) (found : X) → f x ≡ Some found → f y ≡ None → x ≢ y
found_apart f x y found here absent one = let there : f x ≡ None = ap f one ∙ absent in absurd cc

one_found : {X : Type 0} (o : Option X) (x y : X) → o ≡ Some x → o ≡ Some y → x ≡ y
one_found o x y e f = cc

only_one : {X : Type 0} (x y : X) → Contains (x ∷ []) y → x ≡ y
only_one x y c = elim (cases_in x [] y c) [ inl e ↦ e | inr never ↦ none_in y never ]

pub age_below : (least next : ℕ) (order : List (ℕ × ForwardKey)) (age : ℕ) (key : ForwardKey) → IsRising least next order → Contains order (age, key) → (least ≤ age) × (age < next)
age_below least next [] age key h c = none_in (age, key) c
age_below least next (first ∷ order) age key h c = elim (cases_in first order (age, key) c) [
  | inl e ↦ (let same : first.0 ≡ age = ap (λ (p : ℕ × ForwardKey). p.0) e in let ends = rising_ends (suc first.0) next order h.1 in let low = h.0 in (omega (arith, same, low), omega (arith, same, ends)))
  | inr later ↦ (let rest = age_below (suc first.0) next order age key h.1 later in let low = h.0 in let above = rest.0 in (omega (arith, low, above), rest.1))
]

pub tied_opened : (order : List (ℕ × ForwardKey)) (forward forward' : ForwardKey → Option Mapping) (reply reply' : ReplyKey → Option ForwardKey) (lane lane' : LaneAge → Option ForwardKey)
    (next : ℕ) (new : Mapping) → IsTied order forward reply lane → IsRising 0 next order → forward (forward_key new) ≡ None → reply (reply_key new) ≡ None
    → IsUpdate forward forward' (forward_key new) (Some new) → IsUpdate reply reply' (reply_key new) (Some (forward_key new)) → IsUpdate lane lane' (lane_age new next) (Some (forward_key new))
    → IsTied (order ++ (next, forward_key new) ∷ []) forward' reply' lane'
tied_opened order forward forward' reply reply' lane lane' next new t rising absent unmet f r l = record {
  has_mapping = λ age key c. elim (Contains-append_cases order ((next, forward_key new) ∷ []) (age, key) c) [
    | inl old ↦ (let h = t.has_mapping age key old in (h.0, (f.apart key (found_apart forward key (forward_key new) h.0 h.1.0 absent) ∙ h.1.0, h.1.1)))
    | inr last ↦ (let e : forward_key new ≡ key = ap (λ (p : ℕ × ForwardKey). p.1) (only_one (next, forward_key new) (age, key) last) in (new, (ap forward' (sym e) ∙ f.here, e)))
  ];
  has_age = λ key mapping e. elim (one_or_apart forward_exact key (forward_key new)) [
    | inl one ↦ (next, subst (λ k. Contains (order ++ (next, forward_key new) ∷ []) (next, k)) (sym one) (Contains-append_right order ((next, forward_key new) ∷ []) (next, forward_key new) (first_in (next, forward_key new) [])))
    | inr two ↦ (let h = t.has_age key mapping (sym (f.apart key two) ∙ e) in (h.0, Contains-append_left order ((next, forward_key new) ∷ []) (h.0, key) h.1))
  ];
  one_age = λ age other key c d. elim (Contains-append_cases order ((next, forward_key new) ∷ []) (age, key) c) [
    | inl old ↦ elim (Contains-append_cases order ((next, forward_key new) ∷ []) (other, key) d) [
      | inl also ↦ t.one_age age other key old also
      | inr last ↦ absurd (known_apart key age old (ap (λ (p : ℕ × ForwardKey). p.1) (only_one (next, forward_key new) (other, key) last)))
    ]
    | inr newest ↦ elim (Contains-append_cases order ((next, forward_key new) ∷ []) (other, key) d) [
      | inl also ↦ absurd (known_apart key other also (ap (λ (p : ℕ × ForwardKey). p.1) (only_one (next, forward_key new) (age, key) newest)))
      | inr last ↦ ap (λ (p : ℕ × ForwardKey). p.0) (sym (only_one (next, forward_key new) (age, key) newest) ∙ only_one (next, forward_key new) (other, key) last)
    ]
  ];
  reply_of = λ answer key e. elim (one_or_apart reply_exact answer (reply_key new)) [
    | inl one ↦ (let same : forward_key new ≡ key = one_found (reply' (reply_key new)) (forward_key new) key r.here (ap reply' (sym one) ∙ e) in (new, (ap forward' (sym same) ∙ f.here, sym one)))
    | inr two ↦ (let h = t.reply_of answer key (sym (r.apart answer two) ∙ e) in (h.0, (f.apart key (found_apart forward key (forward_key new) h.0 h.1.0 absent) ∙ h.1.0, h.1.1)))
  ];
  has_reply = λ key mapping e. elim (one_or_apart forward_exact key (forward_key new)) [
    | inl one ↦ (let same : new ≡ mapping = one_found (forward' (forward_key new)) new mapping f.here (ap forward' (sym one) ∙ e) in ap (λ (m : Mapping). reply' (reply_key m)) (sym same) ∙ r.here ∙ ap Some (sym one))
    | inr two ↦ (let h = t.has_reply key mapping (sym (f.apart key two) ∙ e) in r.apart (reply_key mapping) (found_apart reply (reply_key mapping) (reply_key new) key h unmet) ∙ h)
  ];
  lane_of = λ place key e. elim (one_or_apart lane_exact place (lane_age new next)) [
    | inl one ↦ (let same : forward_key new ≡ key = one_found (lane' (lane_age new next)) (forward_key new) key l.here (ap lane' (sym one) ∙ e) in
        let age : place.age ≡ next = ap (λ (p : LaneAge). p.age) one in (
          subst (λ (p : ℕ × ForwardKey). Contains (order ++ (next, forward_key new) ∷ []) p) (let pair : (next, forward_key new) ≡ (place.age, key) = cc in pair) (Contains-append_right order ((next, forward_key new) ∷ []) (next, forward_key new) (first_in (next, forward_key new) [])),
          (new, (ap forward' (sym same) ∙ f.here, ap (lane_age new) age ∙ sym one)),
        ))
    | inr two ↦ (let h = t.lane_of place key (sym (l.apart place two) ∙ e) in
        (Contains-append_left order ((next, forward_key new) ∷ []) (place.age, key) h.0, (h.1.0, (f.apart key (found_apart forward key (forward_key new) h.1.0 h.1.1.0 absent) ∙ h.1.1.0, h.1.1.1))))
  ];
  has_lane = λ age key mapping c e. elim (Contains-append_cases order ((next, forward_key new) ∷ []) (age, key) c) [
    | inl old ↦ (let h = t.has_mapping age key old in
        let two = found_apart forward key (forward_key new) h.0 h.1.0 absent in
        let found = t.has_lane age key mapping old (sym (f.apart key two) ∙ e) in
        let below = age_below 0 next order age key rising old in
        l.apart (lane_age mapping age) (λ one. let same : age ≡ next = ap (λ (p : LaneAge). p.age) one in let lt = below.1 in omega (arith, same, lt)) ∙ found)
    | inr last ↦ (let pair = only_one (next, forward_key new) (age, key) last in
        let age_is : next ≡ age = ap (λ (p : ℕ × ForwardKey). p.0) pair in
        let key_is : forward_key new ≡ key = ap (λ (p : ℕ × ForwardKey). p.1) pair in
        let same : new ≡ mapping = one_found (forward' key) new mapping (ap forward' (sym key_is) ∙ f.here) e in
        ap (λ (m : Mapping). lane' (lane_age m age)) (sym same) ∙ ap (λ n. lane' (lane_age new n)) (sym age_is) ∙ l.here ∙ ap Some key_is)
  ];
} where
  known_apart : (key : ForwardKey) (age : ℕ) → Contains order (age, key) → forward_key new ≡ key → ⊥
  known_apart key age old e = let h = t.has_mapping age key old in found_apart forward key (forward_key new) h.0 h.1.0 absent (sym e)

pub tied_left : (order less : List (ℕ × ForwardKey)) (forward forward' : ForwardKey → Option Mapping) (reply reply' : ReplyKey → Option ForwardKey) (lane lane' : LaneAge → Option ForwardKey)
    (age : ℕ) (key : ForwardKey) (gone : Mapping) → IsTied order forward reply lane → Contains order (age, key) → forward key ≡ Some gone
    → ((aged : ℕ × ForwardKey) → Contains less aged → Contains order aged × (aged.0 ≢ age)) → ((other : ℕ) (k : ForwardKey) → Contains order (other, k) → k ≢ key → Contains less (other, k))
    → IsUpdate forward forward' key None → IsUpdate reply reply' (reply_key gone) None → IsUpdate lane lane' (lane_age gone age) None
    → IsTied less forward' reply' lane'
tied_left order less forward forward' reply reply' lane lane' age key gone t stands found sub sup f r l = record {
  has_mapping = λ other k c. let s = sub (other, k) c in let h = t.has_mapping other k s.0 in (h.0, (f.apart k (key_apart other k c) ∙ h.1.0, h.1.1));
  has_age = λ k mapping e. let two = found_apart forward' k key mapping e f.here in let h = t.has_age k mapping (sym (f.apart k two) ∙ e) in
      (h.0, sup h.0 k h.1 two);
  one_age = λ one other k c d. t.one_age one other k (sub (one, k) c).0 (sub (other, k) d).0;
  reply_of = λ answer k e. let two = found_apart reply' answer (reply_key gone) k e r.here in let h = t.reply_of answer k (sym (r.apart answer two) ∙ e) in
      (h.0, (f.apart k (λ one. let same : gone ≡ h.0 = one_found (forward key) gone h.0 found (ap forward (sym one) ∙ h.1.0) in two (sym h.1.1 ∙ ap (λ (m : Mapping). reply_key m) (sym same))) ∙ h.1.0, h.1.1));
  has_reply = λ k mapping e. let two = found_apart forward' k key mapping e f.here in let h = t.has_reply k mapping (sym (f.apart k two) ∙ e) in
      r.apart (reply_key mapping) (λ one. let other = t.has_reply key gone found in two (one_found (reply (reply_key gone)) k key (ap reply (sym one) ∙ h) other)) ∙ h;
  lane_of = λ place k e. let two = found_apart lane' place (lane_age gone age) k e l.here in let h = t.lane_of place k (sym (l.apart place two) ∙ e) in
      let apart : k ≢ key = λ one.
      let same : gone ≡ h.1.0 = one_found (forward key) gone h.1.0 found (ap forward (sym one) ∙ h.1.1.0) in
      let aged : place.age ≡ age = t.one_age place.age age key (subst (λ x. Contains order (place.age, x)) one h.0) stands in
      two (sym h.1.1.1 ∙ ap (λ (m : Mapping). lane_age m place.age) (sym same) ∙ ap (lane_age gone) aged) in
      (sup place.age k h.0 apart, (h.1.0, (f.apart k apart ∙ h.1.1.0, h.1.1.1)));
  has_lane = λ other k mapping c e. let s = sub (other, k) c in let found_here = t.has_lane other k mapping s.0 (sym (f.apart k (key_apart other k c)) ∙ e) in
      l.apart (lane_age mapping other) (λ one. s.1 (ap (λ (p : LaneAge). p.age) one)) ∙ found_here;
} where
  key_apart : (other : ℕ) (k : ForwardKey) → Contains less (other, k) → k ≢ key
  key_apart other k c one = let s = sub (other, k) c in s.1 (t.one_age other age key (subst (λ x. Contains order (other, x)) one s.0) stands)

-- one key out of a rising order
pub record IsCut (least next : ℕ) (front back : List (ℕ × ForwardKey)) (age : ℕ) (key : ForwardKey) : Type 0 where
  pub earlier : (other : ℕ) (k : ForwardKey) → Contains front (other, k) → other < age
  pub later : (other : ℕ) (k : ForwardKey) → Contains back (other, k) → age < other
  pub rising : IsRising least next (front ++ back)
  pub removed : remove_entry (tree.is_at (nat_cmp age)) (front ++ (age, key) ∷ back) ≡ front ++ back

rising_later : (least bound next : ℕ) (order : List (ℕ × ForwardKey)) → least ≤ bound → IsRising bound next order → IsRising least next order
rising_later least bound next [] le h = omega (arith, h)
rising_later least bound next (first ∷ order) le h = ((let low = h.0 in omega (arith, low)), h.1)

pub cut : (least next : ℕ) (front back : List (ℕ × ForwardKey)) (age : ℕ) (key : ForwardKey) → IsRising least next (front ++ (age, key) ∷ back) → IsCut least next front back age key
cut least next [] back age key h = record {
  earlier = λ other k c. none_in (other, k) c;
  later = λ other k c. let b = age_below (suc age) next back other k h.1 c in let lt = b.0 in omega (arith, lt);
  rising = rising_later least (suc age) next back (let low = h.0 in omega (arith, low)) h.1;
  removed = (let here : nat_cmp age age ≡ Equal = grind (arith, nat_tests) in rw here refl);
}
cut least next (first ∷ front) back age key h =
    let rest = cut (suc first.0) next front back age key h.1 in
    let below = age_below (suc first.0) next (front ++ (age, key) ∷ back) age key h.1 (Contains-append_right front ((age, key) ∷ back) (age, key) (first_in (age, key) back)) in
    let lt : first.0 < age = (let low = below.0 in omega (arith, low)) in
    record {
      earlier = λ other k c. elim (cases_in first front (other, k) c) [
        | inl e ↦ (let same : first.0 ≡ other = ap (λ (p : ℕ × ForwardKey). p.0) e in omega (arith, same, lt))
        | inr in_rest ↦ rest.earlier other k in_rest
      ];
      later = rest.later;
      rising = (h.0, rest.rising);
      removed = (let here : nat_cmp age first.0 ≡ Greater = grind (arith, nat_tests, lt) in rw here (ap (λ es. first ∷ es) rest.removed));
    }

pub split_at : (order : List (ℕ × ForwardKey)) (aged : ℕ × ForwardKey) → Contains order aged → (front : List (ℕ × ForwardKey)) × ((back : List (ℕ × ForwardKey)) × (order ≡ front ++ aged ∷ back))
split_at [] aged c = none_in aged c
split_at (first ∷ order) aged c = elim (cases_in first order aged c) [
  | inl e ↦ ([], (order, ap (λ a. a ∷ order) e))
  | inr later ↦ (let s = split_at order aged later in (first ∷ s.0, (s.1.0, ap (λ es. first ∷ es) s.1.1)))
]

-- what is listed
found-append : (o : Option Mapping) (xs ys both : List Mapping) → both ≡ xs ++ ys → with_found o both ≡ with_found o xs ++ ys
found-append None xs ys both e = e
found-append (Some m) xs ys both e = ap (λ ms. m ∷ ms) e

pub listed-append : (forward : ForwardKey → Option Mapping) (xs ys : List (ℕ × ForwardKey)) → listed forward (xs ++ ys) ≡ listed forward xs ++ listed forward ys
listed-append forward [] ys = refl
listed-append forward (x ∷ xs) ys = found-append (forward x.1) (listed forward xs) (listed forward ys) (listed forward (xs ++ ys)) (listed-append forward xs ys)

pub listed_same : (forward forward' : ForwardKey → Option Mapping) (order : List (ℕ × ForwardKey)) → ((age : ℕ) (key : ForwardKey) → Contains order (age, key) → forward' key ≡ forward key) → listed forward' order ≡ listed forward order
listed_same forward forward' [] h = refl
listed_same forward forward' (x ∷ xs) h =
    ap (λ o. with_found o (listed forward' xs)) (h x.0 x.1 (first_in x xs)) ∙ ap (with_found (forward x.1)) (listed_same forward forward' xs (λ age key c. h age key (later_in x xs (age, key) c)))

pub listed_one : (forward : ForwardKey → Option Mapping) (age : ℕ) (key : ForwardKey) (mapping : Mapping) → forward key ≡ Some mapping → listed forward ((age, key) ∷ []) ≡ mapping ∷ []
listed_one forward age key mapping e = ap (λ o. with_found o []) e

in_found : (o : Option Mapping) (rest : List Mapping) (mapping : Mapping) → Contains (with_found o rest) mapping → (o ≡ Some mapping) ⊎ Contains rest mapping
in_found None rest mapping c = inr c
in_found (Some m) rest mapping c = elim (cases_in m rest mapping c) [ inl e ↦ inl (ap Some e) | inr later ↦ inr later ]

behind_found : (o : Option Mapping) (rest : List Mapping) (mapping : Mapping) → Contains rest mapping → Contains (with_found o rest) mapping
behind_found None rest mapping c = c
behind_found (Some m) rest mapping c = later_in m rest mapping c

pub aged_of : (forward : ForwardKey → Option Mapping) (order : List (ℕ × ForwardKey)) (mapping : Mapping) → Contains (listed forward order) mapping
    → (age : ℕ) × ((key : ForwardKey) × (Contains order (age, key) × (forward key ≡ Some mapping)))
aged_of forward [] mapping c = none_in mapping c
aged_of forward (x ∷ xs) mapping c = elim (in_found (forward x.1) (listed forward xs) mapping c) [
  | inl e ↦ (x.0, (x.1, (first_in x xs, e)))
  | inr later ↦ (let h = aged_of forward xs mapping later in (h.0, (h.1.0, (later_in x xs (h.0, h.1.0) h.1.1.0, h.1.1.1))))
]

pub listed_of : (forward : ForwardKey → Option Mapping) (order : List (ℕ × ForwardKey)) (age : ℕ) (key : ForwardKey) (mapping : Mapping) → Contains order (age, key) → forward key ≡ Some mapping → Contains (listed forward order) mapping
listed_of forward [] age key mapping c e = none_in (age, key) c
listed_of forward (x ∷ xs) age key mapping c e = elim (cases_in x xs (age, key) c) [
  | inl same ↦ subst (λ o. Contains (with_found o (listed forward xs)) mapping) (sym e ∙ ap (λ (p : ℕ × ForwardKey). forward p.1) (sym same)) (first_in mapping (listed forward xs))
  | inr later ↦ behind_found (forward x.1) (listed forward xs) mapping (listed_of forward xs age key mapping later e)
]
