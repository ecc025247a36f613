-- What was done to tables is taken back.
use Rattle.std.proofs.Common.{◌≡◌, ◌∙◌, sym, ap, subst, refl, ℕ, zero, suc, Bool, true, false, cond, List, [], ◌∷◌, ◌++◌, length, get_or, Ordering, Less, Equal, Greater, arith}
use Rattle.std.specs.Prelude.{Option, Some, None, Result, Ok, Err, OnOk, OnErr, IfSome, option_map, option_to_list, slice_set}
use Rattle.std.specs.BTreeMap.{insert_entry, is_at}
use Rattle.std.specs.Map.{lookup, remove_entry}
use Rattle.std.specs.Ordering.{is_eq, match_ordering}
use Rattle.std.proofs.lemmas.Cmp.{tied_itself}
use Rattle.std.proofs.lemmas.Option.{none-some}
use Rattle.mt_flow.specs.Keys.{forward_cmp}
use Rattle.mt_flow.specs.declared.keys.ForwardKey.{ForwardKey}
use Rattle.mt_flow.specs.contracts.keys.ForwardKeyOrd.TheImpl.Laws as order
use Rattle.mt_rewriter.specs.declared.log.Undo.{Undo}
use Rattle.mt_rewriter.specs.declared.log.Undo.TheVariants.{Close, Turn}
use Rattle.mt_rewriter.specs.declared.translation.Translation.{Translation}
use Rattle.mt_rewriter.specs.Mappings.{Mapping, TablesState, forward_meeting, meets_forward, undone, taken_back}

-- ---- maps

module _ (key : ForwardKey) (translation : Translation) where
  abbrev at : ForwardKey → Bool
  at = is_at (forward_cmp key)

  closed_here : (o : Ordering) (first : Mapping) (rest : List Mapping) → forward_cmp key first.0 ≡ o → lookup at (first ∷ rest) ≡ None
      → (lookup at rest ≡ None → remove_entry at (insert_entry forward_cmp rest key translation) ≡ rest)
      → remove_entry at (match_ordering o ((key, translation) ∷ first ∷ rest) ((first.0, translation) ∷ rest) (first ∷ insert_entry forward_cmp rest key translation)) ≡ first ∷ rest
  closed_here Less first rest is absent again =
      ap (λ p. cond (is_eq p) (first ∷ rest) ((key, translation) ∷ remove_entry at (first ∷ rest))) (tied_itself order.total-law key)
  closed_here Equal first rest is absent again =
      absurd (none-some first.1 (sym absent ∙ ap (λ p. cond (is_eq p) (Some first.1) (lookup at rest)) is))
  closed_here Greater first rest is absent again =
      let later = sym (ap (λ p. cond (is_eq p) (Some first.1) (lookup at rest)) is) ∙ absent in
      ap (λ p. cond (is_eq p) (insert_entry forward_cmp rest key translation) (first ∷ remove_entry at (insert_entry forward_cmp rest key translation))) is
      ∙ ap (λ xs. first ∷ xs) (again later)

  -- a mapping that is opened and closed leaves what was before
  pub closed_again : (mappings : List Mapping) → lookup at mappings ≡ None → remove_entry at (insert_entry forward_cmp mappings key translation) ≡ mappings
  closed_again [] absent = ap (λ p. cond (is_eq p) [] ((key, translation) ∷ [])) (tied_itself order.total-law key)
  closed_again (first ∷ rest) absent = closed_here (forward_cmp key first.0) first rest refl absent (closed_again rest)

  -- one that is not there is not closed
  pub none_closed : (mappings : List Mapping) → lookup at mappings ≡ None → remove_entry at mappings ≡ mappings
  none_closed [] absent = refl
  none_closed (first ∷ rest) absent = either (at first.0) absent (none_closed rest)
    where
      either : (b : Bool) → cond b (Some first.1) (lookup at rest) ≡ None → (lookup at rest ≡ None → remove_entry at rest ≡ rest)
          → cond b rest (first ∷ remove_entry at rest) ≡ first ∷ rest
      either true absent again = absurd (none-some first.1 (sym absent))
      either false absent again = ap (λ xs. first ∷ xs) (again absent)

-- no mapping is met, so none is there
pub not_there : (key : ForwardKey) (mappings : List Mapping) → meets_forward mappings key ≡ None → lookup (is_at (forward_cmp key)) mappings ≡ None
not_there key mappings unmet = either (lookup (is_at (forward_cmp key)) mappings) unmet
  where
    either : (found : Option Translation) → option_map forward_meeting found ≡ None → found ≡ None
    either None e = refl
    either (Some translation) e = absurd (none-some _ (sym e))

-- ---- turns

-- a turn that is set, and set to what it was
pub turned_back : (turns : List ℕ) (mapper turn : ℕ) → slice_set (slice_set turns mapper turn) mapper (get_or turns mapper 0) ≡ turns
turned_back [] mapper turn = refl
turned_back (first ∷ turns) zero turn = refl
turned_back (first ∷ turns) (suc mapper) turn = ap (λ xs. first ∷ xs) (turned_back turns mapper turn)

-- ---- logs

-- what was logged last is taken back first
pub last_first : (log : List Undo) (undo : Undo) (tables : TablesState) → taken_back (log ++ undo ∷ []) tables ≡ taken_back log (undone undo tables)
unfolding taken_back
last_first [] undo tables = refl
last_first (first ∷ log) undo tables = ap (undone first) (last_first log undo tables)

-- Both changes of a packet are logged before they are done.
abbrev tables_of : List Mapping → List ℕ → TablesState
tables_of mappings turns = record { mappings = mappings; turns = turns }

pub turn_back : (log : List Undo) (tables : TablesState) (mapper turn was : ℕ) → was ≡ get_or tables.turns mapper 0
    → taken_back (log ++ Turn mapper was ∷ []) (tables_of tables.mappings (slice_set tables.turns mapper turn)) ≡ taken_back log tables
turn_back log tables mapper turn was is =
    last_first log (Turn mapper was) _
    ∙ ap (λ w. taken_back log (tables_of tables.mappings (slice_set (slice_set tables.turns mapper turn) mapper w))) is
    ∙ ap (λ turns. taken_back log (tables_of tables.mappings turns)) (turned_back tables.turns mapper turn)

pub close_back : (log : List Undo) (tables : TablesState) (key : ForwardKey) (translation : Translation) → meets_forward tables.mappings key ≡ None
    → taken_back (log ++ Close key ∷ []) (tables_of (insert_entry forward_cmp tables.mappings key translation) tables.turns) ≡ taken_back log tables
close_back log tables key translation unmet =
    last_first log (Close key) _
    ∙ ap (λ mappings. taken_back log (tables_of mappings tables.turns)) (closed_again key translation tables.mappings (not_there key tables.mappings unmet))

pub unopened_back : (log : List Undo) (tables : TablesState) (key : ForwardKey) (translation : Translation) → meets_forward tables.mappings key ≡ None
    → taken_back (log ++ Close key ∷ []) tables ≡ taken_back log tables
unopened_back log tables key translation unmet =
    last_first log (Close key) _
    ∙ ap (λ mappings. taken_back log (tables_of mappings tables.turns)) (none_closed key translation tables.mappings (not_there key tables.mappings unmet))

-- the turn of a mapper is logged and moved
pub turn_logged : (log items : List Undo) (old new : TablesState) (mapper turn was : ℕ) → items ≡ log ++ Turn mapper was ∷ [] → was ≡ get_or old.turns mapper 0
    → new ≡ tables_of old.mappings (slice_set old.turns mapper turn) → taken_back items new ≡ taken_back log old
turn_logged log items old new mapper turn was items_are was_is new_is =
    ap (λ l. taken_back l new) items_are ∙ ap (taken_back (log ++ Turn mapper was ∷ [])) new_is ∙ turn_back log old mapper turn was was_is

-- a mapping is logged, and is opened, or there is no memory
pub entered_back : {E : Type 0} (log items : List Undo) (old new : TablesState) (opened : Option Mapping) (key : ForwardKey) (translation : Translation) (result : Result Unit E)
    → items ≡ log ++ Close key ∷ [] → opened ≡ Some (key, translation) → IfSome opened (λ mapping. meets_forward old.mappings mapping.0 ≡ None)
    → OnOk result (new ≡ tables_of (insert_entry forward_cmp old.mappings key translation) old.turns) → OnErr result (new ≡ old)
    → taken_back items new ≡ taken_back log old
entered_back {E = E} log items old new opened key translation result items_are is fresh done same =
    ap (λ l. taken_back l new) items_are ∙ either result done same
  where
    unmet : meets_forward old.mappings key ≡ None
    unmet = subst (λ o. IfSome o (λ mapping. meets_forward old.mappings mapping.0 ≡ None)) is fresh

    either : (r : Result Unit E) → OnOk r (new ≡ tables_of (insert_entry forward_cmp old.mappings key translation) old.turns) → OnErr r (new ≡ old) → taken_back (log ++ Close key ∷ []) new ≡ taken_back log old
    either (Ok done) opened same = ap (taken_back (log ++ Close key ∷ [])) opened ∙ close_back log old key translation unmet
    either (Err why) opened same = ap (taken_back (log ++ Close key ∷ [])) same ∙ unopened_back log old key translation unmet

-- the last of what was logged is taken back
pub one_back : (all items : List Undo) (undo : Undo) (found : Option Undo) (tables new : TablesState) → all ≡ items ++ option_to_list found → found ≡ Some undo → new ≡ undone undo tables
    → taken_back items new ≡ taken_back all tables
one_back all items undo found tables new all_is is new_is =
    ap (taken_back items) new_is
    ∙ sym (last_first items undo tables)
    ∙ ap (λ o. taken_back (items ++ option_to_list o) tables) (sym is)
    ∙ ap (λ l. taken_back l tables) (sym all_is)

pub none_back : (all : List Undo) (tables : TablesState) → length all ≡ 0 → taken_back all tables ≡ tables
unfolding taken_back
none_back [] tables none = refl
none_back (first ∷ all) tables none = absurd (omega (arith, none))
