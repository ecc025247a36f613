-- What is decided keeps what holds of tables.
use Rattle.std.proofs.Common.{◌≡◌, ◌∙◌, sym, ap, subst, refl, ◌⊎◌, inl, inr, ℕ, Bool, true, false, cond, List, [], ◌∷◌, AllPairs, Contains, Ordering, Less, Equal, Greater, arith}
use Rattle.std.specs.Prelude.{Some, None, not, ◌==◌, ◌&&◌}
use Rattle.std.specs.BTreeMap.{insert_entry, is_at}
use Rattle.std.specs.List.{find, list_any}
use Rattle.std.specs.Map.{lookup}
use Rattle.std.specs.Ordering.{ordering_reverse, match_ordering, is_eq}
use Rattle.std.proofs.lemmas.Bool.{false≢true}
use Rattle.std.proofs.lemmas.Bool.Decides.{nat_tests}
use Rattle.std.proofs.lemmas.Option.{none-some}
use Rattle.mt_lists.proofs.Bools.{or_false, not_true}
use Rattle.mt_lists.proofs.Members.{first_in, later_in, cases_in, none_in}
use Rattle.mt_lists.proofs.Pairs.{first_with, later_pairs, no_pairs, one_first}
use Rattle.mt_packet.specs.declared.flow.Flow.{Flow}
use Rattle.mt_flow.specs.Keys.{forward_cmp}
use Rattle.mt_flow.specs.Mappings.{reversed}
use Rattle.mt_flow.specs.declared.keys.ForwardKey.{ForwardKey}
use Rattle.mt_flow.specs.declared.keys.ReplyKey.{ReplyKey}
use Rattle.mt_flow.specs.contracts.keys.ForwardKeyOrd.TheImpl.Laws as order
use Rattle.mt_rewriter.specs.declared.translation.HeldPort.{HeldPort}
use Rattle.mt_rewriter.specs.declared.translation.Translation.{Translation}
use Rattle.mt_rewriter.specs.Kept.{IsBefore, AnswerApart, HoldApart}
use Rattle.mt_rewriter.specs.Mappings.{Mapping, is_flow, answers, is_port, holds, is_free}
use Rattle.mt_rewriter.proofs.Openings.{HoldsFree}

less_equal : (o : Ordering) → o ≡ Less → o ≡ Equal → ⊥
less_equal Less is e = absurd cc
less_equal Equal is e = absurd cc
less_equal Greater is e = absurd cc

greater_equal : (o : Ordering) → o ≡ Greater → o ≡ Equal → ⊥
greater_equal Less is e = absurd cc
greater_equal Equal is e = absurd cc
greater_equal Greater is e = absurd cc

-- ---- a mapping among others

module _ (key : ForwardKey) (translation : Translation) where
  abbrev new : Mapping
  new = (key, translation)

  -- what is in the list behind it is new, or was there
  inserted_is : (o : Ordering) (first : Mapping) (rest : List Mapping) (m : Mapping) → forward_cmp key first.0 ≡ o
      → Contains (match_ordering o (new ∷ first ∷ rest) ((first.0, translation) ∷ rest) (first ∷ insert_entry forward_cmp rest key translation)) m
      → (Contains (insert_entry forward_cmp rest key translation) m → (new ≡ m) ⊎ Contains rest m)
      → ¬ (o ≡ Equal) → (new ≡ m) ⊎ Contains (first ∷ rest) m
  inserted_is Less first rest m is among again apart = cases_in new (first ∷ rest) m among
  inserted_is Equal first rest m is among again apart = absurd (apart refl)
  inserted_is Greater first rest m is among again apart =
      either (cases_in first (insert_entry forward_cmp rest key translation) m among)
    where
      deeper : (new ≡ m) ⊎ Contains rest m → (new ≡ m) ⊎ Contains (first ∷ rest) m
      deeper (inl same) = inl same
      deeper (inr there) = inr (later_in first rest m there)

      either : (first ≡ m) ⊎ Contains (insert_entry forward_cmp rest key translation) m → (new ≡ m) ⊎ Contains (first ∷ rest) m
      either (inl same) = inr (subst (Contains (first ∷ rest)) same (first_in first rest))
      either (inr later) = deeper (again later)

  -- no mapping has the key
  abbrev pub IsNew : List Mapping → Type 0
  IsNew mappings = (m : Mapping) → Contains mappings m → ¬ (forward_cmp key m.0 ≡ Equal)

  new_rest : (first : Mapping) (rest : List Mapping) → IsNew (first ∷ rest) → IsNew rest
  new_rest first rest apart m among = apart m (later_in first rest m among)

  pub among_inserted : (mappings : List Mapping) (m : Mapping) → IsNew mappings → Contains (insert_entry forward_cmp mappings key translation) m → (new ≡ m) ⊎ Contains mappings m
  among_inserted [] m apart among = cases_in new [] m among
  among_inserted (first ∷ rest) m apart among =
      inserted_is (forward_cmp key first.0) first rest m refl among (among_inserted rest m (new_rest first rest apart)) (apart first (first_in first rest))

  -- and all that was there is there
  pub still_there : (mappings : List Mapping) (m : Mapping) → IsNew mappings → Contains mappings m → Contains (insert_entry forward_cmp mappings key translation) m
  still_there [] m apart among = none_in m among
  still_there (first ∷ rest) m apart among =
      by_order (forward_cmp key first.0) refl (apart first (first_in first rest)) (cases_in first rest m among) (still_there rest m (new_rest first rest apart))
    where
      by_order : (o : Ordering) → forward_cmp key first.0 ≡ o → ¬ (forward_cmp key first.0 ≡ Equal) → (first ≡ m) ⊎ Contains rest m
          → (Contains rest m → Contains (insert_entry forward_cmp rest key translation) m)
          → Contains (match_ordering o (new ∷ first ∷ rest) ((first.0, translation) ∷ rest) (first ∷ insert_entry forward_cmp rest key translation)) m
      by_order Less is other which again = later_in new (first ∷ rest) m among
      by_order Equal is other which again = absurd (other is)
      by_order Greater is other (inl same) again = subst (Contains (first ∷ insert_entry forward_cmp rest key translation)) same (first_in first _)
      by_order Greater is other (inr there) again = later_in first _ m (again there)

  pub new_there : (mappings : List Mapping) → IsNew mappings → Contains (insert_entry forward_cmp mappings key translation) new
  new_there [] apart = first_in new []
  new_there (first ∷ rest) apart = by_order (forward_cmp key first.0) refl (apart first (first_in first rest)) (new_there rest (new_rest first rest apart))
    where
      by_order : (o : Ordering) → forward_cmp key first.0 ≡ o → ¬ (forward_cmp key first.0 ≡ Equal) → Contains (insert_entry forward_cmp rest key translation) new
          → Contains (match_ordering o (new ∷ first ∷ rest) ((first.0, translation) ∷ rest) (first ∷ insert_entry forward_cmp rest key translation)) new
      by_order Less is other again = first_in new (first ∷ rest)
      by_order Equal is other again = absurd (other is)
      by_order Greater is other again = later_in first _ new again

  -- ---- what holds of each two of them

  -- what holds of the new one and each other, both ways
  module _ (R : Mapping → Mapping → Type 0) where
    pairs_here : (o : Ordering) (first : Mapping) (rest : List Mapping) → ¬ (o ≡ Equal) → IsNew (first ∷ rest) → AllPairs R (first ∷ rest)
        → ((m : Mapping) → Contains (first ∷ rest) m → R new m × R m new) → AllPairs R (insert_entry forward_cmp rest key translation)
        → AllPairs R (match_ordering o (new ∷ first ∷ rest) ((first.0, translation) ∷ rest) (first ∷ insert_entry forward_cmp rest key translation))
    pairs_here Less first rest other apart pairs both again = one_first R new (first ∷ rest) (λ m c. (both m c).0) pairs
    pairs_here Equal first rest other apart pairs both again = absurd (other refl)
    pairs_here Greater first rest other apart pairs both again = one_first R first _ (λ m c. to m (among_inserted rest m (new_rest first rest apart) c)) again
      where
        to : (m : Mapping) → (new ≡ m) ⊎ Contains rest m → R first m
        to m (inl same) = subst (R first) same (both first (first_in first rest)).1
        to m (inr there) = first_with R first rest pairs m there

    pub pairs_inserted : (mappings : List Mapping) → IsNew mappings → AllPairs R mappings → ((m : Mapping) → Contains mappings m → R new m × R m new)
        → AllPairs R (insert_entry forward_cmp mappings key translation)
    pairs_inserted [] apart pairs both = one_first R new [] (λ m c. none_in m c) (no_pairs R)
    pairs_inserted (first ∷ rest) apart pairs both =
        pairs_here (forward_cmp key first.0) first rest (apart first (first_in first rest)) apart pairs both
        (pairs_inserted rest (new_rest first rest apart) (later_pairs R first rest pairs) (λ m c. both m (later_in first rest m c)))

  -- that keys ascend
  ordered_here : (o : Ordering) (first : Mapping) (rest : List Mapping) → forward_cmp key first.0 ≡ o → ¬ (o ≡ Equal) → IsNew (first ∷ rest) → AllPairs IsBefore (first ∷ rest)
      → AllPairs IsBefore (insert_entry forward_cmp rest key translation)
      → AllPairs IsBefore (match_ordering o (new ∷ first ∷ rest) ((first.0, translation) ∷ rest) (first ∷ insert_entry forward_cmp rest key translation))
  ordered_here Less first rest is other apart pairs again = one_first IsBefore new (first ∷ rest) (λ m c. to m (cases_in first rest m c)) pairs
    where
      to : (m : Mapping) → (first ≡ m) ⊎ Contains rest m → IsBefore new m
      to m (inl same) = subst (IsBefore new) same is
      to m (inr there) = order.total-law.trans key first.0 m.0 is (first_with IsBefore first rest pairs m there)
  ordered_here Equal first rest is other apart pairs again = absurd (other refl)
  ordered_here Greater first rest is other apart pairs again = one_first IsBefore first _ (λ m c. to m (among_inserted rest m (new_rest first rest apart) c)) again
    where
      to : (m : Mapping) → (new ≡ m) ⊎ Contains rest m → IsBefore first m
      to m (inl same) = subst (IsBefore first) same (order.total-law.antisymm first.0 key ∙ ap ordering_reverse is)
      to m (inr there) = first_with IsBefore first rest pairs m there

  pub ordered_inserted : (mappings : List Mapping) → IsNew mappings → AllPairs IsBefore mappings → AllPairs IsBefore (insert_entry forward_cmp mappings key translation)
  ordered_inserted [] apart pairs = one_first IsBefore new [] (λ m c. none_in m c) (no_pairs IsBefore)
  ordered_inserted (first ∷ rest) apart pairs =
      ordered_here (forward_cmp key first.0) first rest refl (apart first (first_in first rest)) apart pairs
      (ordered_inserted rest (new_rest first rest apart) (later_pairs IsBefore first rest pairs))

-- ---- what the tests tell

-- a key that no mapping met is new
pub is_new : (key : ForwardKey) (translation : Translation) (mappings : List Mapping) → lookup (is_at (forward_cmp key)) mappings ≡ None → IsNew key translation mappings
is_new key translation [] unmet m among = none_in m among
is_new key translation (first ∷ rest) unmet m among = by_test (forward_cmp key first.0) refl unmet (cases_in first rest m among) (is_new key translation rest)
  where
    by_test : (o : Ordering) → forward_cmp key first.0 ≡ o → cond (is_eq o) (Some first.1) (lookup (is_at (forward_cmp key)) rest) ≡ None → (first ≡ m) ⊎ Contains rest m
        → (lookup (is_at (forward_cmp key)) rest ≡ None → IsNew key translation rest) → ¬ (forward_cmp key m.0 ≡ Equal)
    by_test Equal is e which again = absurd (none-some first.1 (sym e))
    by_test Less is e (inl one) again = λ same. less_equal (forward_cmp key first.0) is (ap (λ (k : Mapping). forward_cmp key k.0) one ∙ same)
    by_test Less is e (inr there) again = again e m there
    by_test Greater is e (inl one) again = λ same. greater_equal (forward_cmp key first.0) is (ap (λ (k : Mapping). forward_cmp key k.0) one ∙ same)
    by_test Greater is e (inr there) again = again e m there

-- no port that is held twice: the port that was free is held by no mapping
pub held_apart : (mappings : List Mapping) (pool port : ℕ) → is_free mappings pool port ≡ true → (m : Mapping) → Contains mappings m → holds pool port m ≡ false
held_apart [] pool port free m among = none_in m among
held_apart (first ∷ rest) pool port free m among =
    let both = or_false (holds pool port first) (list_any (holds pool port) rest) (not_true _ free) in
    either both (cases_in first rest m among) (held_apart rest pool port)
  where
    either : (holds pool port first ≡ false) × (list_any (holds pool port) rest ≡ false) → (first ≡ m) ⊎ Contains rest m
        → (is_free rest pool port ≡ true → (m : Mapping) → Contains rest m → holds pool port m ≡ false) → holds pool port m ≡ false
    either both (inl same) again = subst (λ x. holds pool port x ≡ false) same both.0
    either both (inr there) again = again (ap not both.1) m there

port_is : (held : HeldPort) → is_port held.pool held.port (Some held) ≡ true
port_is held = grind (arith, nat_tests)

pub holds_apart : (mappings : List Mapping) (translation : Translation) (key : ForwardKey) → HoldsFree mappings translation.held → (m : Mapping) → Contains mappings m
    → HoldApart (key, translation) m × HoldApart m (key, translation)
holds_apart mappings translation key free m among = (λ held own others. never held own others, λ held others own. never held own others)
  where
    never : (held : HeldPort) → translation.held ≡ Some held → m.1.held ≡ Some held → ⊥
    never held own others =
        let is_free_port : is_free mappings held.pool held.port ≡ true = subst (HoldsFree mappings) own free in
        false≢true (sym (held_apart mappings held.pool held.port is_free_port m among) ∙ ap (is_port held.pool held.port) others ∙ port_is held)

-- no two mappings with the same replies: the flow of replies was that of no mapping
pub unanswered_apart : (mappings : List Mapping) (element : ℕ) (flow : Flow) → find (answers element flow) mappings ≡ None → (m : Mapping) → Contains mappings m → answers element flow m ≡ false
unanswered_apart [] element flow none m among = none_in m among
unanswered_apart (first ∷ rest) element flow none m among = by_test (answers element flow first) refl none (cases_in first rest m among) (unanswered_apart rest element flow)
  where
    by_test : (b : Bool) → answers element flow first ≡ b → cond b (Some first) (find (answers element flow) rest) ≡ None → (first ≡ m) ⊎ Contains rest m
        → (find (answers element flow) rest ≡ None → (m : Mapping) → Contains rest m → answers element flow m ≡ false) → answers element flow m ≡ false
    by_test true is e which again = absurd (none-some first (sym e))
    by_test false is e (inl same) again = subst (λ x. answers element flow x ≡ false) same is
    by_test false is e (inr there) again = again e m there

same_flow : (f : Flow) → is_flow f f ≡ true
same_flow f = grind (arith, nat_tests)

answers_itself : (m : Mapping) → answers m.0.element (reversed m.1.after) m ≡ true
answers_itself m = ap (λ b. (m.0.element == m.0.element) && b) (same_flow (reversed m.1.after)) ∙ grind (arith, nat_tests)

-- what has the reply key of another answers its replies
pub keys_apart : (x y : Mapping) → answers y.0.element (reversed y.1.after) x ≡ false → AnswerApart x y
keys_apart x y none same =
    false≢true (sym none ∙ ap (λ (k : ReplyKey). (k.element == y.0.element) && is_flow k.flow (reversed y.1.after)) same ∙ answers_itself y)

apart_back : (x y : Mapping) → AnswerApart x y → AnswerApart y x
apart_back x y apart same = apart (sym same)

pub answers_apart : (mappings : List Mapping) (key : ForwardKey) (translation : Translation) → find (answers key.element (reversed translation.after)) mappings ≡ None → (m : Mapping) → Contains mappings m
    → AnswerApart (key, translation) m × AnswerApart m (key, translation)
answers_apart mappings key translation none m among =
    let apart = keys_apart m (key, translation) (unanswered_apart mappings key.element (reversed translation.after) none m among) in
    (apart_back m (key, translation) apart, apart)
