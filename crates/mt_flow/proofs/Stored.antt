-- The store's maps as a whole: what a mapping opened and a mapping taken out leave.
use Rattle.std.proofs.Common.{filter, ◌≡◌, ◌≢◌, ◌∙◌, ◌↔◌, ℕ, suc, ◌+◌, List, [], ◌∷◌, ◌++◌, Option, Some, None, Contains, sym, ap, refl, subst, inl, inr, arith, append-nil, true, false, is_some, slice_get, length, IfSome, ◌-◌}
use Rattle.std.specs.BTreeMap as tree
use Rattle.std.specs.Map.{remove_entry}
use Rattle.std.specs.Ordering.{nat_cmp}
use Rattle.std.proofs.lemmas.List.Elements.{Contains-append_left, Contains-append_right, Contains-append_cases}
use Rattle.mt_lists.proofs.Members.{first_in, later_in, cases_in}
use Rattle.mt_flow.specs.declared.keys.ForwardKey.{ForwardKey}
use Rattle.mt_flow.specs.declared.keys.ReplyKey.{ReplyKey}
use Rattle.mt_flow.specs.declared.keys.LaneAge.{LaneAge}
use Rattle.mt_flow.specs.declared.mapping.Mapping.{Mapping}
use Rattle.mt_flow.specs.declared.indexes.Indexes.{Indexes}
use Rattle.mt_flow.specs.Indexes.{IsEntered, IsLeft, IsAsBefore}
use Rattle.mt_flow.specs.Keys.{forward_cmp, reply_cmp, lane_cmp, lane_key}
use Rattle.mt_flow.specs.Mappings.{forward_key, reply_key, StandsForward, StandsReply}
use Rattle.mt_flow.specs.Tied.{IsTied, IsRising, lane_age, listed, with_found}
use Rattle.mt_flow.proofs.Orders.{forward_exact, reply_exact, lane_exact, update_of, restored, recounted}
use Rattle.mt_flow.specs.Counts.{AreCounted, Counts, count_of, is_at}
use Rattle.mt_flow.specs.declared.keys.LaneKey.{LaneKey}
use Rattle.mt_flow.proofs.Counted.{counted_left, counted_opened}
use Rattle.mt_flow.proofs.Kept.{tied_opened, tied_left, cut, listed-append, listed_same, listed_one, aged_of, listed_of, age_below}

abbrev pub ForwardMap : Type 0
ForwardMap = tree.BTreeMap ForwardKey Mapping

abbrev pub AllTied : ForwardMap → Indexes → Type 0
AllTied by_forward indexes = IsTied indexes.by_age.entries (tree.get forward_cmp by_forward) (tree.get reply_cmp indexes.by_reply) (tree.get lane_cmp indexes.by_lane)

abbrev pub list_of : ForwardMap → Indexes → List Mapping
list_of by_forward indexes = listed (tree.get forward_cmp by_forward) indexes.by_age.entries

keeps_others : (front back : List (ℕ × ForwardKey)) (age : ℕ) (key : ForwardKey) (other : ℕ) (k : ForwardKey) → Contains (front ++ (age, key) ∷ back) (other, k) → k ≢ key → Contains (front ++ back) (other, k)
keeps_others front back age key other k c apart = elim (Contains-append_cases front ((age, key) ∷ back) (other, k) c) [
  | inl earlier ↦ Contains-append_left front back (other, k) earlier
  | inr rest ↦ elim (cases_in (age, key) back (other, k) rest) [
    | inl same ↦ absurd (apart (ap (λ (p : ℕ × ForwardKey). p.1) (sym same)))
    | inr later ↦ Contains-append_right front back (other, k) later
  ]
]

rising_more : (least next : ℕ) (key : ForwardKey) (order : List (ℕ × ForwardKey)) → IsRising least next order → IsRising least (next + 1) (order ++ (next, key) ∷ [])
rising_more least next key [] h = (h, omega arith)
rising_more least next key (first ∷ order) h = (h.0, rising_more (suc first.0) next key order h.1)

-- what a mapping taken out leaves
pub record HasLeft (old new : ForwardMap) (before after : Indexes) (next : ℕ) (front back : List (ℕ × ForwardKey)) (gone : Mapping) : Type 0 where
  pub tied : AllTied new after
  pub rising : IsRising 0 next after.by_age.entries
  pub listed_before : list_of old before ≡ listed (tree.get forward_cmp old) front ++ gone ∷ listed (tree.get forward_cmp old) back
  pub listed_after : list_of new after ≡ listed (tree.get forward_cmp old) front ++ listed (tree.get forward_cmp old) back
  pub counted : AreCounted before.counts (list_of old before) → AreCounted after.counts (list_of new after)

pub left_all : (old new : ForwardMap) (before after : Indexes) (next age : ℕ) (key : ForwardKey) (gone : Mapping) (front back : List (ℕ × ForwardKey))
    → AllTied old before → IsRising 0 next before.by_age.entries → before.by_age.entries ≡ front ++ (age, key) ∷ back → tree.get forward_cmp old key ≡ Some gone
    → tree.Updates forward_cmp old new key None → IsLeft before after (reply_key gone) (lane_age gone age) → HasLeft old new before after next front back gone
left_all old new before after next age key gone front back tied rising order found f l =
    let c = cut 0 next front back age key (subst (λ es. IsRising 0 next es) order rising) in
    let after_is : after.by_age.entries ≡ front ++ back = l.order ∙ ap (λ es. remove_entry (tree.is_at (nat_cmp age)) es) order ∙ c.removed in
    let update = update_of forward_exact old new key None f in
    let other_keys : (other : ℕ) (k : ForwardKey) → Contains (front ++ back) (other, k) → Contains (front ++ (age, key) ∷ back) (other, k) × (other ≢ age) =
    λ other k in_less. elim (Contains-append_cases front back (other, k) in_less) [
      | inl earlier ↦ (Contains-append_left front ((age, key) ∷ back) (other, k) earlier, λ same. let lt = c.earlier other k earlier in omega (arith, same, lt))
      | inr later ↦ (Contains-append_right front ((age, key) ∷ back) (other, k) (later_in (age, key) back (other, k) later), λ same. let lt = c.later other k later in omega (arith, same, lt))
    ] in
    let order_tied : IsTied (front ++ (age, key) ∷ back) (tree.get forward_cmp old) (tree.get reply_cmp before.by_reply) (tree.get lane_cmp before.by_lane) =
    subst (λ es. IsTied es (tree.get forward_cmp old) (tree.get reply_cmp before.by_reply) (tree.get lane_cmp before.by_lane)) order tied in
    let stands = Contains-append_right front ((age, key) ∷ back) (age, key) (first_in (age, key) back) in
    let stay : (other : ℕ) (k : ForwardKey) → Contains (front ++ back) (other, k) → tree.get forward_cmp new k ≡ tree.get forward_cmp old k =
    λ other k in_less. let o = other_keys other k in_less in update.apart k (λ one. o.1 (order_tied.one_age other age key (subst (λ x. Contains (front ++ (age, key) ∷ back) (other, x)) one o.0) stands)) in
    let listed_before : list_of old before ≡ listed (tree.get forward_cmp old) front ++ gone ∷ listed (tree.get forward_cmp old) back = ap (listed (tree.get forward_cmp old)) order ∙ listed-append (tree.get forward_cmp old) front ((age, key) ∷ back)
    ∙ ap (λ o. listed (tree.get forward_cmp old) front ++ with_found o (listed (tree.get forward_cmp old) back)) found in
    let listed_after : list_of new after ≡ listed (tree.get forward_cmp old) front ++ listed (tree.get forward_cmp old) back = ap (listed (tree.get forward_cmp new)) after_is ∙ listed_same (tree.get forward_cmp old) (tree.get forward_cmp new) (front ++ back) stay ∙ listed-append (tree.get forward_cmp old) front back in
    record {
      tied = subst (λ es. IsTied es (tree.get forward_cmp new) (tree.get reply_cmp after.by_reply) (tree.get lane_cmp after.by_lane)) (sym after_is)
          (tied_left (front ++ (age, key) ∷ back) (front ++ back) (tree.get forward_cmp old) (tree.get forward_cmp new) (tree.get reply_cmp before.by_reply) (tree.get reply_cmp after.by_reply) (tree.get lane_cmp before.by_lane) (tree.get lane_cmp after.by_lane)
          age key gone order_tied stands found (λ aged in_less. other_keys aged.0 aged.1 in_less) (keeps_others front back age key)
          update (update_of reply_exact before.by_reply after.by_reply (reply_key gone) None l.reply) (update_of lane_exact before.by_lane after.by_lane (lane_age gone age) None l.lane));
      rising = subst (λ es. IsRising 0 next es) (sym after_is) c.rising;
      listed_before = listed_before;
      listed_after = listed_after;
      counted = λ h. subst (λ ms. AreCounted after.counts ms) (sym listed_after) (counted_left before.counts after.counts (listed (tree.get forward_cmp old) front) gone (listed (tree.get forward_cmp old) back) age (subst (λ ms. AreCounted before.counts ms) listed_before h) l.count);
    }

-- what a mapping opened leaves
pub record HasOpened (old new : ForwardMap) (before after : Indexes) (next : ℕ) (opened : Mapping) : Type 0 where
  pub tied : AllTied new after
  pub rising : IsRising 0 (next + 1) after.by_age.entries
  pub listed_after : list_of new after ≡ list_of old before ++ opened ∷ []
  pub counted : AreCounted before.counts (list_of old before) → AreCounted after.counts (list_of new after)

pub opened_all : (old new : ForwardMap) (before after : Indexes) (next : ℕ) (opened : Mapping)
    → AllTied old before → IsRising 0 next before.by_age.entries → tree.get forward_cmp old (forward_key opened) ≡ None → tree.get reply_cmp before.by_reply (reply_key opened) ≡ None
    → tree.Updates forward_cmp old new (forward_key opened) (Some opened) → IsEntered before after (reply_key opened) (lane_age opened next) (forward_key opened)
    → HasOpened old new before after next opened
opened_all old new before after next opened tied rising absent unmet f e =
    let update = update_of forward_exact old new (forward_key opened) (Some opened) f in
    let listed_after : list_of new after ≡ list_of old before ++ opened ∷ [] = ap (listed (tree.get forward_cmp new)) e.order ∙ listed-append (tree.get forward_cmp new) before.by_age.entries ((next, forward_key opened) ∷ [])
    ∙ ap (λ ms. ms ++ listed (tree.get forward_cmp new) ((next, forward_key opened) ∷ [])) (listed_same (tree.get forward_cmp old) (tree.get forward_cmp new) before.by_age.entries
    (λ age key c. let h = tied.has_mapping age key c in update.apart key (λ one. let none : tree.get forward_cmp old key ≡ None = ap (tree.get forward_cmp old) one ∙ absent in let some = h.1.0 in absurd cc)))
    ∙ ap (λ ms. listed (tree.get forward_cmp old) before.by_age.entries ++ ms) (listed_one (tree.get forward_cmp new) next (forward_key opened) opened update.here) in
    record {
      tied = subst (λ es. IsTied es (tree.get forward_cmp new) (tree.get reply_cmp after.by_reply) (tree.get lane_cmp after.by_lane)) (sym e.order)
          (tied_opened before.by_age.entries (tree.get forward_cmp old) (tree.get forward_cmp new) (tree.get reply_cmp before.by_reply) (tree.get reply_cmp after.by_reply) (tree.get lane_cmp before.by_lane) (tree.get lane_cmp after.by_lane)
          next opened tied rising absent unmet update (update_of reply_exact before.by_reply after.by_reply (reply_key opened) (Some (forward_key opened)) e.reply) (update_of lane_exact before.by_lane after.by_lane (lane_age opened next) (Some (forward_key opened)) e.lane));
      rising = subst (λ es. IsRising 0 (next + 1) es) (sym e.order) (rising_more 0 next (forward_key opened) before.by_age.entries rising);
      listed_after = listed_after;
      counted = λ h. subst (λ ms. AreCounted after.counts ms) (sym listed_after) (counted_opened before.counts after.counts (list_of old before) opened next h e.count);
    }

-- refused: all is found as before
pub same_tied : (old new : ForwardMap) (before after : Indexes) → ((key : ForwardKey) → tree.get forward_cmp new key ≡ tree.get forward_cmp old key) → IsAsBefore before after → AllTied old before → AllTied new after
same_tied old new before after f s t =
    subst (λ es. IsTied es (tree.get forward_cmp new) (tree.get reply_cmp after.by_reply) (tree.get lane_cmp after.by_lane)) (sym s.order) (record {
      has_mapping = λ age key c. let h = t.has_mapping age key c in (h.0, (f key ∙ h.1.0, h.1.1));
      has_age = λ key mapping e. t.has_age key mapping (sym (f key) ∙ e);
      one_age = t.one_age;
      reply_of = λ answer key e. let h = t.reply_of answer key (sym (s.reply answer) ∙ e) in (h.0, (f key ∙ h.1.0, h.1.1));
      has_reply = λ key mapping e. s.reply (reply_key mapping) ∙ t.has_reply key mapping (sym (f key) ∙ e);
      lane_of = λ place key e. let h = t.lane_of place key (sym (s.lane place) ∙ e) in (h.0, (h.1.0, (f key ∙ h.1.1.0, h.1.1.1)));
      has_lane = λ age key mapping c e. s.lane (lane_age mapping age) ∙ t.has_lane age key mapping c (sym (f key) ∙ e);
    })

-- the mappings are as before where all is found as before
pub same_list : (old new : ForwardMap) (before after : Indexes) → ((key : ForwardKey) → tree.get forward_cmp new key ≡ tree.get forward_cmp old key) → IsAsBefore before after → list_of new after ≡ list_of old before
same_list old new before after f s = ap (listed (tree.get forward_cmp new)) s.order ∙ listed_same (tree.get forward_cmp old) (tree.get forward_cmp new) before.by_age.entries (λ age key c. f key)

-- a key stands among the mappings exactly where it is found
pub forward_found : (by_forward : ForwardMap) (indexes : Indexes) (key : ForwardKey) (mapping : Mapping) → AllTied by_forward indexes
    → (tree.get forward_cmp by_forward key ≡ Some mapping) ↔ (Contains (list_of by_forward indexes) mapping × (forward_key mapping ≡ key))
forward_found by_forward indexes key mapping t = (
  λ e. let a = t.has_age key mapping e in let h = t.has_mapping a.0 key a.1 in
      let same : h.0 ≡ mapping = (let p = h.1.0 in cc) in
      (listed_of (tree.get forward_cmp by_forward) indexes.by_age.entries a.0 key mapping a.1 e, ap forward_key (sym same) ∙ h.1.1),
  λ c. let a = aged_of (tree.get forward_cmp by_forward) indexes.by_age.entries mapping c.0 in let h = t.has_mapping a.0 a.1.0 a.1.1.0 in
      let same : h.0 ≡ mapping = (let p = h.1.0 in let q = a.1.1.1 in cc) in
      ap (tree.get forward_cmp by_forward) (sym c.1 ∙ ap forward_key (sym same) ∙ h.1.1) ∙ a.1.1.1,
)

pub reply_found : (by_forward : ForwardMap) (indexes : Indexes) (answer : ReplyKey) (key : ForwardKey) → AllTied by_forward indexes
    → (tree.get reply_cmp indexes.by_reply answer ≡ Some key) ↔ ((mapping : Mapping) × (Contains (list_of by_forward indexes) mapping × (reply_key mapping ≡ answer) × (forward_key mapping ≡ key)))
reply_found by_forward indexes answer key t = (
  λ e. let h = t.reply_of answer key e in let f = (forward_found by_forward indexes key h.0 t).0 h.1.0 in (h.0, (f.0, h.1.1, f.1)),
  λ s. let found = (forward_found by_forward indexes key s.0 t).1 (s.1.0, s.1.2) in ap (tree.get reply_cmp indexes.by_reply) (sym s.1.1) ∙ t.has_reply key s.0 found,
)

none_unless : {X : Type 0} (o : Option X) → ((x : X) → o ≡ Some x → ⊥) → o ≡ None
none_unless None h = refl
none_unless (Some x) h = absurd (h x refl)

pub forward_free : (by_forward : ForwardMap) (indexes : Indexes) (key : ForwardKey) → AllTied by_forward indexes → (StandsForward (list_of by_forward indexes) key → ⊥) → tree.get forward_cmp by_forward key ≡ None
forward_free by_forward indexes key t free = none_unless (tree.get forward_cmp by_forward key) (λ mapping e. free (mapping, (forward_found by_forward indexes key mapping t).0 e))

pub lane_free : (by_forward : ForwardMap) (indexes : Indexes) (next : ℕ) (mapping : Mapping) → AllTied by_forward indexes → IsRising 0 next indexes.by_age.entries → tree.get lane_cmp indexes.by_lane (lane_age mapping next) ≡ None
lane_free by_forward indexes next mapping t rising = none_unless (tree.get lane_cmp indexes.by_lane (lane_age mapping next))
    (λ key e. let h = t.lane_of (lane_age mapping next) key e in let b = age_below 0 next indexes.by_age.entries next key rising h.0 in let lt = b.1 in omega (arith, lt))

reply_cases : (o : Option ForwardKey) → is_some o ≡ true → (key : ForwardKey) × (o ≡ Some key)
reply_cases (Some key) e = (key, refl)
reply_cases None e = absurd cc

not_some : (o : Option ForwardKey) → is_some o ≡ false → o ≡ None
not_some None e = refl
not_some (Some key) e = absurd cc

pub reply_stands : (by_forward : ForwardMap) (indexes : Indexes) (answer : ReplyKey) → AllTied by_forward indexes → is_some (tree.get reply_cmp indexes.by_reply answer) ≡ true → StandsReply (list_of by_forward indexes) answer
reply_stands by_forward indexes answer t e =
    let k = reply_cases (tree.get reply_cmp indexes.by_reply answer) e in
    let h = (reply_found by_forward indexes answer k.0 t).0 k.1 in
    (h.0, (h.1.0, h.1.1))

pub reply_free : (by_forward : ForwardMap) (indexes : Indexes) (answer : ReplyKey) → AllTied by_forward indexes → is_some (tree.get reply_cmp indexes.by_reply answer) ≡ false
    → (tree.get reply_cmp indexes.by_reply answer ≡ None) × (StandsReply (list_of by_forward indexes) answer → ⊥)
reply_free by_forward indexes answer t e =
    let none = not_some (tree.get reply_cmp indexes.by_reply answer) e in
    (none, λ s. let found = (reply_found by_forward indexes answer (forward_key s.0) t).1 (s.0, (s.1.0, s.1.1, refl)) in absurd cc)

-- entered and taken out again
pub left_again : (a b c : Indexes) (answer : ReplyKey) (place : LaneAge) (key : ForwardKey) → tree.get reply_cmp a.by_reply answer ≡ None → tree.get lane_cmp a.by_lane place ≡ None → IsRising 0 place.age a.by_age.entries
    → IsEntered a b answer place key → IsLeft b c answer place → IsAsBefore a c
left_again a b c answer place key no_reply no_lane rising e l = record {
  reply = restored reply_exact a.by_reply b.by_reply c.by_reply answer (Some key) no_reply e.reply l.reply;
  lane = restored lane_exact a.by_lane b.by_lane c.by_lane place (Some key) no_lane e.lane l.lane;
  order = l.order ∙ ap (λ es. remove_entry (tree.is_at (nat_cmp place.age)) es) e.order
      ∙ (cut 0 (place.age + 1) a.by_age.entries [] place.age key (rising_more 0 place.age key a.by_age.entries rising)).removed ∙ append-nil a.by_age.entries;
  count = recounted a.counts b.counts c.counts (lane_key place) e.count l.count;
}

longer : {X : Type 0} (y : X) (xs : List X) (x : X) (front : List X) → xs ≡ front ++ x ∷ [] → (longer_front : List X) × (y ∷ xs ≡ longer_front ++ x ∷ [])
longer y xs x front e = (y ∷ front, ap (λ zs. y ∷ zs) e)

last_is : {X : Type 0} (xs : List X) (x : X) → slice_get xs (length xs - 1) ≡ Some x → (front : List X) × (xs ≡ front ++ x ∷ [])
last_is [] x e = absurd cc
last_is (y ∷ []) x e = ([], (let same : y ≡ x = cc in ap (λ z. z ∷ []) same))
last_is (y ∷ z ∷ rest) x e =
    let at : length (y ∷ z ∷ rest) - 1 ≡ suc (length (z ∷ rest) - 1) = omega arith in
    let later = last_is (z ∷ rest) x (subst (λ n. slice_get (y ∷ z ∷ rest) n ≡ Some x) at e) in
    longer y (z ∷ rest) x later.0 later.1

-- the last mapping taken out
pub record HasUndone (old new : ForwardMap) (before after : Indexes) (next : ℕ) (result : Option Mapping) : Type 0 where
  pub gone : Mapping
  pub is : result ≡ Some gone
  pub tied : AllTied new after
  pub rising : IsRising 0 next after.by_age.entries
  pub list : list_of old before ≡ list_of new after ++ gone ∷ []
  pub counted : AreCounted before.counts (list_of old before) → AreCounted after.counts (list_of new after)

pub undone : (old new : ForwardMap) (before after : Indexes) (next age : ℕ) (key : ForwardKey) (result : Option Mapping) → AllTied old before → IsRising 0 next before.by_age.entries
    → slice_get before.by_age.entries (length before.by_age.entries - 1) ≡ Some (age, key) → result ≡ tree.get forward_cmp old key
    → IfSome result (λ _. tree.Updates forward_cmp old new key None) → IfSome result (λ mapping. IsLeft before after (reply_key mapping) (lane_age mapping age)) → HasUndone old new before after next result
undone old new before after next age key result tied rising last found f l =
    let split = last_is before.by_age.entries (age, key) last in
    let stands : Contains before.by_age.entries (age, key) = subst (λ es. Contains es (age, key)) (sym split.1) (Contains-append_right split.0 ((age, key) ∷ []) (age, key) (first_in (age, key) [])) in
    let h = tied.has_mapping age key stands in
    let is : result ≡ Some h.0 = found ∙ h.1.0 in
    let left = left_all old new before after next age key h.0 split.0 [] tied rising split.1 h.1.0
    (subst (λ r. IfSome r (λ _. tree.Updates forward_cmp old new key None)) is f) (subst (λ r. IfSome r (λ mapping. IsLeft before after (reply_key mapping) (lane_age mapping age))) is l) in
    record {
      gone = h.0;
      is = is;
      tied = left.tied;
      rising = left.rising;
      counted = left.counted;
      list = left.listed_before ∙ ap (λ ms. ms ++ h.0 ∷ []) (sym (left.listed_after ∙ append-nil (listed (tree.get forward_cmp old) split.0)));
    }

pub empty_list : (by_forward : ForwardMap) (indexes : Indexes) → length indexes.by_age.entries ≡ 0 → list_of by_forward indexes ≡ []
empty_list by_forward indexes e = ap (listed (tree.get forward_cmp by_forward)) (no_entries indexes.by_age.entries e) where
  no_entries : (es : List (ℕ × ForwardKey)) → length es ≡ 0 → es ≡ []
  no_entries [] e = refl
  no_entries (x ∷ xs) e = absurd (omega arith)

pub not_standing : (by_forward : ForwardMap) (indexes : Indexes) (key : ForwardKey) → AllTied by_forward indexes → tree.get forward_cmp by_forward key ≡ None → StandsForward (list_of by_forward indexes) key → ⊥
not_standing by_forward indexes key t none s = let found = (forward_found by_forward indexes key s.0 t).1 s.1 in absurd cc

pub reply_unmet : (by_forward : ForwardMap) (indexes : Indexes) (answer : ReplyKey) → AllTied by_forward indexes → tree.get reply_cmp indexes.by_reply answer ≡ None → StandsReply (list_of by_forward indexes) answer → ⊥
reply_unmet by_forward indexes answer t none s = let found = (reply_found by_forward indexes answer (forward_key s.0) t).1 (s.0, (s.1.0, s.1.1, refl)) in absurd cc

pub reply_leads : (by_forward : ForwardMap) (indexes : Indexes) (answer : ReplyKey) (key : ForwardKey) → AllTied by_forward indexes → tree.get reply_cmp indexes.by_reply answer ≡ Some key
    → (mapping : Mapping) × ((tree.get forward_cmp by_forward key ≡ Some mapping) × (Contains (list_of by_forward indexes) mapping × (reply_key mapping ≡ answer)))
reply_leads by_forward indexes answer key t e =
    let h = t.reply_of answer key e in
    let f = (forward_found by_forward indexes key h.0 t).0 h.1.0 in
    (h.0, (h.1.0, (f.0, h.1.1)))

pub entered_at : (a b : Indexes) (x y : ReplyKey) (p q : LaneAge) (k l : ForwardKey) → x ≡ y → p ≡ q → k ≡ l → IsEntered a b x p k → IsEntered a b y q l
entered_at a b x y p q k l e f g h = subst (λ z. IsEntered a b z q l) e (subst (λ z. IsEntered a b x z l) f (subst (λ z. IsEntered a b x p z) g h))

pub left_at : (a b : Indexes) (x y : ReplyKey) (p q : LaneAge) → x ≡ y → p ≡ q → IsLeft a b x p → IsLeft a b y q
left_at a b x y p q e f h = subst (λ z. IsLeft a b z q) e (subst (λ z. IsLeft a b x z) f h)

pub counted_same : (old new : Counts) (list same : List Mapping) → AreCounted old list → ((lane : LaneKey) → count_of new lane ≡ count_of old lane) → same ≡ list → AreCounted new same
counted_same old new list same h e one lane = e lane ∙ h lane ∙ ap (λ ms. length (filter (is_at lane) ms)) (sym one)
