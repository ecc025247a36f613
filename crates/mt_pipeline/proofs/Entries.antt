-- What the mappings of a store are as a table: the same mappings, found by the same keys.
use Rattle.std.proofs.Common.{◌≡◌, ◌≢◌, ◌∙◌, ◌⊎◌, inl, inr, sym, ap, subst, refl, ℕ, zero, suc, ◌+◌, ◌<◌, ◌≤◌, Bool, true, false, cond, List, [], ◌∷◌, ◌++◌, AllPairs, Contains, Ordering, Less, Equal, Greater, arith}
use Rattle.mt_flow.specs.declared.mapping.Meeting.{Meeting}
use Rattle.std.specs.Prelude.{Option, Some, None, MatchOption, option_map, not, ◌==◌, ◌&&◌, ◌||◌, if◌then◌else◌}
use Rattle.std.specs.BTreeMap.{insert_entry, is_at}
use Rattle.std.specs.List.{find, list_any}
use Rattle.std.specs.Map.{lookup}
use Rattle.std.specs.Ordering.{is_eq}
use Rattle.std.proofs.lemmas.Bool.{false≢true}
use Rattle.std.proofs.lemmas.Bool.Decides.{nat_tests}
use Rattle.std.proofs.lemmas.Cmp.{tied_itself}
use Rattle.mt_lists.proofs.Bools.{and_true}
use Rattle.mt_lists.proofs.Members.{first_in, later_in, cases_in, none_in}
use Rattle.mt_lists.proofs.Pairs.{first_with, later_pairs}
use Rattle.mt_packet.specs.declared.flow.Flow.{Flow}
use Rattle.mt_ledger.specs.Ports.{HeldPort}
use Rattle.mt_flow.specs.Keys.{forward_cmp}
use Rattle.mt_flow.specs.Mappings.{StandsForward, StandsReply, forward_key, met_forward, met_reply, reply_key, reversed}
use Rattle.mt_flow.specs.declared.keys.ForwardKey.{ForwardKey}
use Rattle.mt_flow.specs.declared.keys.ReplyKey.{ReplyKey}
use Rattle.mt_flow.specs.declared.mapping.Mapping.{Mapping}
use Rattle.mt_flow.proofs.Orders.{forward_exact}
use Rattle.mt_rewriter.specs.Mappings.{answers, forward_meeting, holds, is_flow, is_free, is_port, meets_forward, meets_reply, reply_meeting}
use Rattle.mt_rewriter.specs.Mappings.{Mapping as Entry}
use Rattle.mt_rewriter.specs.Tries.{free_among}
use Rattle.mt_rewriter.proofs.KeptTables.{IsNew, among_inserted, new_there, still_there}
use Rattle.mt_pipeline.specs.Standing.{entries_of, entries_onto, held_of, held_ports, is_held, times_held, translation_of, with_held}

abbrev pub entry_of : Mapping → Entry
entry_of mapping = (forward_key mapping, translation_of mapping)

-- no two mappings have one forward key, and no two one reply key
abbrev pub ForwardApart : List Mapping → Type 0
ForwardApart mappings = AllPairs (λ x y. forward_key x ≢ forward_key y) mappings

abbrev pub ReplyApart : List Mapping → Type 0
ReplyApart mappings = AllPairs (λ x y. reply_key x ≢ reply_key y) mappings

-- a mapping behind all others is put into the table
pub one_more : (entries : List Entry) (mappings : List Mapping) (mapping : Mapping)
    → entries_onto entries (mappings ++ mapping ∷ []) ≡ insert_entry forward_cmp (entries_onto entries mappings) (forward_key mapping) (translation_of mapping)
one_more entries [] mapping = refl
one_more entries (first ∷ mappings) mapping = one_more (insert_entry forward_cmp entries (forward_key first) (translation_of first)) mappings mapping

-- ---- the same mappings

-- no entry has the key of one of these mappings
abbrev NoneHas : List Entry → List Mapping → Type 0
NoneHas entries mappings = (entry : Entry) (mapping : Mapping) → Contains entries entry → Contains mappings mapping → forward_key mapping ≢ entry.0

new_to : (entries : List Entry) (first : Mapping) (mappings : List Mapping) → NoneHas entries (first ∷ mappings) → IsNew (forward_key first) (translation_of first) entries
new_to entries first mappings none m among same = none m first among (first_in first mappings) (forward_exact.same (forward_key first) m.0 same)

none_later : (entries : List Entry) (first : Mapping) (mappings : List Mapping) → ForwardApart (first ∷ mappings) → NoneHas entries (first ∷ mappings)
    → NoneHas (insert_entry forward_cmp entries (forward_key first) (translation_of first)) mappings
none_later entries first mappings apart none entry mapping among later same =
    elim (among_inserted (forward_key first) (translation_of first) entries entry (new_to entries first mappings none) among) [
      | inl new ↦ first_with (λ x y. forward_key x ≢ forward_key y) first mappings apart mapping later (ap (λ (e : Entry). e.0) new ∙ sym same)
      | inr old ↦ none entry mapping old (later_in first mappings mapping later) same
    ]

rest_apart : (first : Mapping) (mappings : List Mapping) → ForwardApart (first ∷ mappings) → ForwardApart mappings
rest_apart first mappings apart = later_pairs (λ x y. forward_key x ≢ forward_key y) first mappings apart

abbrev IsOf : List Mapping → Entry → Type 0
IsOf mappings entry = (mapping : Mapping) × (Contains mappings mapping × (entry_of mapping ≡ entry))

from_onto : (entries : List Entry) (mappings : List Mapping) (entry : Entry) → ForwardApart mappings → NoneHas entries mappings
    → Contains (entries_onto entries mappings) entry → Contains entries entry ⊎ IsOf mappings entry
from_onto entries [] entry apart none among = inl among
from_onto entries (first ∷ mappings) entry apart none among =
    either (from_onto (insert_entry forward_cmp entries (forward_key first) (translation_of first)) mappings entry (rest_apart first mappings apart) (none_later entries first mappings apart none) among)
  where
    inserted : (entry_of first ≡ entry) ⊎ Contains entries entry → Contains entries entry ⊎ IsOf (first ∷ mappings) entry
    inserted (inl new) = inr (first, (first_in first mappings, new))
    inserted (inr old) = inl old

    either : Contains (insert_entry forward_cmp entries (forward_key first) (translation_of first)) entry ⊎ IsOf mappings entry → Contains entries entry ⊎ IsOf (first ∷ mappings) entry
    either (inl there) = inserted (among_inserted (forward_key first) (translation_of first) entries entry (new_to entries first mappings none) there)
    either (inr later) = inr (later.0, (later_in first mappings later.0 later.1.0, later.1.1))

stays_onto : (entries : List Entry) (mappings : List Mapping) (entry : Entry) → ForwardApart mappings → NoneHas entries mappings → Contains entries entry → Contains (entries_onto entries mappings) entry
stays_onto entries [] entry apart none among = among
stays_onto entries (first ∷ mappings) entry apart none among =
    stays_onto (insert_entry forward_cmp entries (forward_key first) (translation_of first)) mappings entry (rest_apart first mappings apart) (none_later entries first mappings apart none)
    (still_there (forward_key first) (translation_of first) entries entry (new_to entries first mappings none) among)

to_onto : (entries : List Entry) (mappings : List Mapping) (mapping : Mapping) → ForwardApart mappings → NoneHas entries mappings → Contains mappings mapping → Contains (entries_onto entries mappings) (entry_of mapping)
to_onto entries [] mapping apart none among = none_in mapping among
to_onto entries (first ∷ mappings) mapping apart none among =
    either (cases_in first mappings mapping among)
    (to_onto (insert_entry forward_cmp entries (forward_key first) (translation_of first)) mappings mapping (rest_apart first mappings apart) (none_later entries first mappings apart none))
  where
    either : (first ≡ mapping) ⊎ Contains mappings mapping → (Contains mappings mapping → Contains (entries_onto entries (first ∷ mappings)) (entry_of mapping)) → Contains (entries_onto entries (first ∷ mappings)) (entry_of mapping)
    either (inl same) again =
        subst (λ m. Contains (entries_onto entries (first ∷ mappings)) (entry_of m)) same
        (stays_onto (insert_entry forward_cmp entries (forward_key first) (translation_of first)) mappings (entry_of first) (rest_apart first mappings apart) (none_later entries first mappings apart none)
        (new_there (forward_key first) (translation_of first) entries (new_to entries first mappings none)))
    either (inr there) again = again there

module _ (mappings : List Mapping) (apart : ForwardApart mappings) where
  no_entry : NoneHas [] mappings
  no_entry entry mapping among there = none_in entry among

  -- an entry is that of a mapping
  pub from_entries : (entry : Entry) → Contains (entries_of mappings) entry → IsOf mappings entry
  from_entries entry among = either (from_onto [] mappings entry apart no_entry among)
    where
      either : Contains [] entry ⊎ IsOf mappings entry → IsOf mappings entry
      either (inl there) = none_in entry there
      either (inr of) = of

  -- and each mapping has its entry
  pub to_entries : (mapping : Mapping) → Contains mappings mapping → Contains (entries_of mappings) (entry_of mapping)
  to_entries mapping among = to_onto [] mappings mapping apart no_entry among

-- mappings whose keys differ are one where they have one key
pub one_mapping : {K : Type 0} (key : Mapping → K) (mappings : List Mapping) (x y : Mapping) → AllPairs (λ a b. key a ≢ key b) mappings → Contains mappings x → Contains mappings y → key x ≡ key y → x ≡ y
one_mapping key [] x y apart here there same = none_in x here
one_mapping {K = K} key (first ∷ mappings) x y apart here there same = either (cases_in first mappings x here) (cases_in first mappings y there) (one_mapping key mappings x y (later_pairs (λ a b. key a ≢ key b) first mappings apart))
  where
    either : (first ≡ x) ⊎ Contains mappings x → (first ≡ y) ⊎ Contains mappings y → (Contains mappings x → Contains mappings y → key x ≡ key y → x ≡ y) → x ≡ y
    either (inl a) (inl b) again = sym a ∙ b
    either (inl a) (inr b) again = absurd (first_with (λ a b. key a ≢ key b) first mappings apart y b (ap key a ∙ same))
    either (inr a) (inl b) again = absurd (first_with (λ a b. key a ≢ key b) first mappings apart x a (ap key b ∙ sym same))
    either (inr a) (inr b) again = again a b same

-- ---- searches

module _ (p : Entry → Bool) where
  pub find_none : (entries : List Entry) → ((e : Entry) → Contains entries e → p e ≡ false) → find p entries ≡ None
  find_none [] none = refl
  find_none (first ∷ rest) none = let here = none first (first_in first rest) in rw here (find_none rest (λ e c. none e (later_in first rest e c)))

  pub find_some : (entries : List Entry) (e : Entry) → Contains entries e → p e ≡ true → ((x : Entry) → Contains entries x → p x ≡ true → x ≡ e) → find p entries ≡ Some e
  find_some [] e among passes only = none_in e among
  find_some (first ∷ rest) e among passes only =
      either (p first) refl (cases_in first rest e among) (λ c. find_some rest e c passes (λ x d. only x (later_in first rest x d)))
    where
      either : (b : Bool) → p first ≡ b → (first ≡ e) ⊎ Contains rest e → (Contains rest e → find p rest ≡ Some e) → cond b (Some first) (find p rest) ≡ Some e
      either true is which again = ap Some (only first (first_in first rest) is)
      either false is (inl same) again = absurd (false≢true (sym is ∙ ap p same ∙ passes))
      either false is (inr later) again = again later

  pub any_none : (entries : List Entry) → ((e : Entry) → Contains entries e → p e ≡ false) → list_any p entries ≡ false
  any_none [] none = refl
  any_none (first ∷ rest) none = let here = none first (first_in first rest) in rw here (any_none rest (λ e c. none e (later_in first rest e c)))

  pub any_some : (entries : List Entry) (e : Entry) → Contains entries e → p e ≡ true → list_any p entries ≡ true
  any_some [] e among passes = none_in e among
  any_some (first ∷ rest) e among passes = either (p first) refl (cases_in first rest e among) (λ c. any_some rest e c passes)
    where
      either : (b : Bool) → p first ≡ b → (first ≡ e) ⊎ Contains rest e → (Contains rest e → list_any p rest ≡ true) → (b || list_any p rest) ≡ true
      either true is which again = refl
      either false is (inl same) again = absurd (false≢true (sym is ∙ ap p same ∙ passes))
      either false is (inr later) again = again later

-- ---- forward keys

module _ (key : ForwardKey) where
  abbrev at : ForwardKey → Bool
  at = is_at (forward_cmp key)

  at_itself : at key ≡ true
  at_itself = ap is_eq (tied_itself forward_exact.total key)

  at_one : (other : ForwardKey) → at other ≡ true → key ≡ other
  at_one other = either (forward_cmp key other) refl
    where
      either : (o : Ordering) → forward_cmp key other ≡ o → is_eq o ≡ true → key ≡ other
      either Less is e = absurd cc
      either Equal is e = forward_exact.same key other is
      either Greater is e = absurd cc

  lookup_none : (entries : List Entry) → ((e : Entry) → Contains entries e → at e.0 ≡ false) → lookup at entries ≡ None
  lookup_none [] none = refl
  lookup_none (first ∷ rest) none = either (at first.0) (none first (first_in first rest)) (lookup_none rest (λ e c. none e (later_in first rest e c)))
    where
      either : (b : Bool) → b ≡ false → lookup at rest ≡ None → cond b (Some first.1) (lookup at rest) ≡ None
      either b is again = ap (λ c. cond c (Some first.1) (lookup at rest)) is ∙ again

  lookup_some : (entries : List Entry) (e : Entry) → Contains entries e → at e.0 ≡ true → ((x : Entry) → Contains entries x → at x.0 ≡ true → x ≡ e) → lookup at entries ≡ Some e.1
  lookup_some [] e among passes only = none_in e among
  lookup_some (first ∷ rest) e among passes only =
      either (at first.0) refl (cases_in first rest e among) (λ c. lookup_some rest e c passes (λ x d. only x (later_in first rest x d)))
    where
      either : (b : Bool) → at first.0 ≡ b → (first ≡ e) ⊎ Contains rest e → (Contains rest e → lookup at rest ≡ Some e.1) → cond b (Some first.1) (lookup at rest) ≡ Some e.1
      either true is which again = ap (λ (x : Entry). Some x.1) (only first (first_in first rest) is)
      either false is (inl same) again = absurd (false≢true (sym is ∙ ap (λ (x : Entry). at x.0) same ∙ passes))
      either false is (inr later) again = again later

  false_unless : (b : Bool) → (b ≡ true → ⊥) → b ≡ false
  false_unless true h = absurd (h refl)
  false_unless false h = refl

  -- no mapping has the key, so no entry is met
  pub forward_unmet : (mappings : List Mapping) → ForwardApart mappings → (StandsForward mappings key → ⊥) → meets_forward (entries_of mappings) key ≡ None
  forward_unmet mappings apart none =
      ap (option_map forward_meeting) (lookup_none (entries_of mappings) (λ e c. false_unless (at e.0) (λ is.
      let of = from_entries mappings apart e c in none (of.0, (of.1.0, ap (λ (x : Entry). x.0) of.1.1 ∙ sym (at_one e.0 is))))))

  pub forward_met : (mappings : List Mapping) (mapping : Mapping) → ForwardApart mappings → Contains mappings mapping → forward_key mapping ≡ key → meets_forward (entries_of mappings) key ≡ Some (met_forward mapping)
  forward_met mappings mapping apart among has =
      ap (option_map forward_meeting) (lookup_some (entries_of mappings) (entry_of mapping) (to_entries mappings apart mapping among) (ap at has ∙ at_itself)
      (λ x c is. let of = from_entries mappings apart x c in
      sym of.1.1 ∙ ap entry_of (one_mapping forward_key mappings of.0 mapping apart of.1.0 among (ap (λ (e : Entry). e.0) of.1.1 ∙ sym (at_one x.0 is) ∙ sym has))))

-- ---- replies

abbrev flow_of : ℕ → ℕ → ℕ → ℕ → ℕ → Flow
flow_of proto sa sp da dp = record { proto = proto; sa = sa; sp = sp; da = da; dp = dp }

same_numbers : (x y : ℕ) → (x == y) ≡ true → x ≡ y
same_numbers x y e = grind (arith, nat_tests)

one_flow : (x y : Flow) → is_flow x y ≡ true → x ≡ y
one_flow x y e =
    let a = and_true (x.proto == y.proto) _ e in
    let b = and_true (x.sa == y.sa) _ a.1 in
    let c = and_true (x.sp == y.sp) _ b.1 in
    let d = and_true (x.da == y.da) _ c.1 in
    let proto : x.proto ≡ y.proto = same_numbers x.proto y.proto a.0 in
    let sa : x.sa ≡ y.sa = same_numbers x.sa y.sa b.0 in
    let sp : x.sp ≡ y.sp = same_numbers x.sp y.sp c.0 in
    let da : x.da ≡ y.da = same_numbers x.da y.da d.0 in
    let dp : x.dp ≡ y.dp = same_numbers x.dp y.dp d.1 in
    let whole : flow_of x.proto x.sa x.sp x.da x.dp ≡ flow_of y.proto y.sa y.sp y.da y.dp = cc in whole

same_flow : (f : Flow) → is_flow f f ≡ true
same_flow f = grind (arith, nat_tests)

abbrev pub answer_of : ℕ → Flow → ReplyKey
answer_of element flow = record { element = element; flow = flow }

module _ (element : ℕ) (flow : Flow) where
  answers_one : (mapping : Mapping) → answers element flow (entry_of mapping) ≡ true → reply_key mapping ≡ answer_of element flow
  answers_one mapping e =
      let both = and_true (mapping.element == element) _ e in
      let a : mapping.element ≡ element = same_numbers mapping.element element both.0 in
      let b : reversed mapping.after ≡ flow = one_flow (reversed mapping.after) flow both.1 in
      ap (λ n. answer_of n (reversed mapping.after)) a ∙ ap (answer_of element) b

  answered : (mapping : Mapping) → reply_key mapping ≡ answer_of element flow → answers element flow (entry_of mapping) ≡ true
  answered mapping e =
      ap (λ (k : ReplyKey). (k.element == element) && is_flow k.flow flow) e
      ∙ ap (λ b. (element == element) && b) (same_flow flow)
      ∙ (let same : (element == element) ≡ true = grind (arith, nat_tests) in rw same refl)

  not_true : (b : Bool) → (b ≡ true → ⊥) → b ≡ false
  not_true true h = absurd (h refl)
  not_true false h = refl

  pub reply_unmet : (mappings : List Mapping) → ForwardApart mappings → (StandsReply mappings (answer_of element flow) → ⊥) → meets_reply (entries_of mappings) element flow ≡ None
  reply_unmet mappings apart none =
      ap (option_map reply_meeting) (find_none (answers element flow) (entries_of mappings) (λ e c. not_true (answers element flow e) (λ is.
      let of = from_entries mappings apart e c in none (of.0, (of.1.0, answers_one of.0 (ap (answers element flow) of.1.1 ∙ is))))))

  pub reply_met : (mappings : List Mapping) (mapping : Mapping) → ForwardApart mappings → ReplyApart mappings → Contains mappings mapping → reply_key mapping ≡ answer_of element flow
      → meets_reply (entries_of mappings) element flow ≡ Some (met_reply mapping)
  reply_met mappings mapping apart replies among has =
      ap (option_map reply_meeting) (find_some (answers element flow) (entries_of mappings) (entry_of mapping) (to_entries mappings apart mapping among) (answered mapping has)
      (λ x c is. let of = from_entries mappings apart x c in
      sym of.1.1 ∙ ap entry_of (one_mapping reply_key mappings of.0 mapping replies of.1.0 among (answers_one of.0 (ap (answers element flow) of.1.1 ∙ is) ∙ sym has))))

-- ---- ports

module _ (pool port : ℕ) where
  none_holds : (mappings : List Mapping) → times_held pool port (held_ports mappings) ≡ 0 → (mapping : Mapping) → Contains mappings mapping → is_port pool port (held_of mapping.port) ≡ false
  none_holds [] none mapping among = none_in mapping among
  none_holds (first ∷ rest) none mapping among = either first.port refl none (cases_in first rest mapping among) (none_holds rest)
    where
      both : (b : Bool) (n : ℕ) → (if b then 1 else 0) + n ≡ 0 → (b ≡ false) × (n ≡ 0)
      both true n e = absurd (omega (arith, e))
      both false n e = (refl, omega (arith, e))

      either : (held : Option HeldPort) → first.port ≡ held → times_held pool port (with_held held (held_ports rest)) ≡ 0 → (first ≡ mapping) ⊎ Contains rest mapping
          → (times_held pool port (held_ports rest) ≡ 0 → (m : Mapping) → Contains rest m → is_port pool port (held_of m.port) ≡ false) → is_port pool port (held_of mapping.port) ≡ false
      either None is e (inl same) again = ap (λ (m : Mapping). is_port pool port (held_of m.port)) (sym same) ∙ ap (λ h. is_port pool port (held_of h)) is
      either None is e (inr later) again = again e mapping later
      either (Some held) is e (inl same) again = ap (λ (m : Mapping). is_port pool port (held_of m.port)) (sym same) ∙ ap (λ h. is_port pool port (held_of h)) is ∙ (both (is_held pool port held) _ e).0
      either (Some held) is e (inr later) again = again (both (is_held pool port held) _ e).1 mapping later

  abbrev IsHolder : List Mapping → Type 0
  IsHolder mappings = (mapping : Mapping) × (Contains mappings mapping × (is_port pool port (held_of mapping.port) ≡ true))

  holder : (mappings : List Mapping) → 1 ≤ times_held pool port (held_ports mappings) → IsHolder mappings
  holder [] some = absurd (omega (arith, some))
  holder (first ∷ rest) some = either first.port refl some (holder rest)
    where
      later : IsHolder rest → IsHolder (first ∷ rest)
      later of = (of.0, (later_in first rest of.0 of.1.0, of.1.1))

      test : (held : HeldPort) → first.port ≡ Some held → (b : Bool) → is_held pool port held ≡ b → 1 ≤ (if b then 1 else 0) + times_held pool port (held_ports rest)
          → (1 ≤ times_held pool port (held_ports rest) → IsHolder rest) → IsHolder (first ∷ rest)
      test held is true e some again = (first, (first_in first rest, ap (λ h. is_port pool port (held_of h)) is ∙ e))
      test held is false e some again = later (again (omega (arith, some)))

      either : (held : Option HeldPort) → first.port ≡ held → 1 ≤ times_held pool port (with_held held (held_ports rest)) → (1 ≤ times_held pool port (held_ports rest) → IsHolder rest) → IsHolder (first ∷ rest)
      either None is some again = later (again some)
      either (Some held) is some again = test held is (is_held pool port held) refl some again

  -- a port is free where no mapping holds it
  pub port_free : (mappings : List Mapping) → ForwardApart mappings → times_held pool port (held_ports mappings) ≡ 0 → is_free (entries_of mappings) pool port ≡ true
  port_free mappings apart none =
      ap not (any_none (holds pool port) (entries_of mappings) (λ e c. let of = from_entries mappings apart e c in
      ap (holds pool port) (sym of.1.1) ∙ none_holds mappings none of.0 of.1.0))

  pub port_held : (mappings : List Mapping) → ForwardApart mappings → 1 ≤ times_held pool port (held_ports mappings) → is_free (entries_of mappings) pool port ≡ false
  port_held mappings apart some =
      let of = holder mappings some in
      ap not (any_some (holds pool port) (entries_of mappings) (entry_of of.0) (to_entries mappings apart of.0 of.1.0) of.1.1)

-- ---- pools

module _ (entries : List Entry) (number : ℕ) where
  pub free_one : (count first port : ℕ) → is_free entries number port ≡ true → first ≤ port → port < first + count → free_among entries number count first ≡ true
  unfolding free_among
  free_one zero first port free from to = absurd (omega (arith, from, to))
  free_one (suc count) first port free from to = either (first == port) refl (free_one count (suc first) port free)
    where
      behind : (a : Bool) → (a || true) ≡ true
      behind true = refl
      behind false = refl

      either : (b : Bool) → (first == port) ≡ b → (suc first ≤ port → port < suc first + count → free_among entries number count (suc first) ≡ true)
          → (is_free entries number first || free_among entries number count (suc first)) ≡ true
      either true e again = let same : first ≡ port = grind (arith, nat_tests) in ap (λ n. is_free entries number n || free_among entries number count (suc first)) same ∙ ap (λ b. b || free_among entries number count (suc first)) free
      either false e again =
          let other : first ≢ port = grind (arith, nat_tests) in
          ap (λ b. is_free entries number first || b) (again (omega (arith, from, other)) (omega (arith, to))) ∙ behind (is_free entries number first)

  pub free_none : (count first : ℕ) → ((port : ℕ) → first ≤ port → port < first + count → is_free entries number port ≡ false) → free_among entries number count first ≡ false
  unfolding free_among
  free_none zero first held = refl
  free_none (suc count) first held =
      ap (λ b. b || free_among entries number count (suc first)) (held first (omega arith) (omega arith))
      ∙ free_none count (suc first) (λ port from to. held port (omega (arith, from)) (omega (arith, to)))

-- ---- what a store answers

pub reply_answers : (mappings : List Mapping) (element : ℕ) (flow : Flow) (result : Option Meeting) → ForwardApart mappings → ReplyApart mappings
    → MatchOption result (StandsReply mappings (answer_of element flow) → ⊥) (λ meeting. (mapping : Mapping) × (Contains mappings mapping × (reply_key mapping ≡ answer_of element flow) × (meeting ≡ met_reply mapping)))
    → result ≡ meets_reply (entries_of mappings) element flow
reply_answers mappings element flow None apart replies h = sym (reply_unmet element flow mappings apart h)
reply_answers mappings element flow (Some meeting) apart replies h = ap Some h.1.2 ∙ sym (reply_met element flow mappings h.0 apart replies h.1.0 h.1.1)

pub forward_answers : (mappings : List Mapping) (key : ForwardKey) (result : Option Meeting) → ForwardApart mappings
    → MatchOption result (StandsForward mappings key → ⊥) (λ meeting. (mapping : Mapping) × (Contains mappings mapping × (forward_key mapping ≡ key) × (meeting ≡ met_forward mapping)))
    → result ≡ meets_forward (entries_of mappings) key
forward_answers mappings key None apart h = sym (forward_unmet key mappings apart h)
forward_answers mappings key (Some meeting) apart h = ap Some h.1.2 ∙ sym (forward_met key mappings h.0 apart h.1.0 h.1.1)

pub unmet_answers : (mappings : List Mapping) (key : ForwardKey) (result : Option Meeting)
    → MatchOption result (StandsForward mappings key → ⊥) (λ meeting. (mapping : Mapping) × (Contains mappings mapping × (forward_key mapping ≡ key) × (meeting ≡ met_forward mapping)))
    → result ≡ None → StandsForward mappings key → ⊥
unmet_answers mappings key None h none = h
unmet_answers mappings key (Some meeting) h none = absurd cc
