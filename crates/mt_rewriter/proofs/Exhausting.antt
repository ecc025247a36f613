-- A try of a pool is exhausted only where no port of it is free.
use Rattle.std.proofs.Common.{◌≡◌, ◌∙◌, sym, ap, refl, ◌⊎◌, inl, inr, ℕ, zero, suc, ◌+◌, ◌-◌, ◌<◌, ◌≤◌, Bool, true, false, List, arith}
use Rattle.std.specs.Prelude.{Option, Some, None, is_some, nat_lt, Result, Ok, Err, if◌then◌else◌, ◌&&◌, slice_get}
use Rattle.std.proofs.lemmas.Bool.Decides.{nat_tests}
use Rattle.mt_lists.proofs.Bools.{or_false}
use Rattle.mt_flow.specs.Mappings.{reversed}
use Rattle.mt_flow.specs.declared.keys.ForwardKey.{ForwardKey}
use Rattle.mt_kinds.specs.declared.rewriter.Pool.{Pool}
use Rattle.mt_kinds.specs.declared.rewriter.SourcePort.TheVariants as source
use Rattle.mt_kinds.specs.declared.rewriter.Template.{Template}
use Rattle.mt_rewriter.specs.declared.attempt.Attempt.{Attempt}
use Rattle.mt_rewriter.specs.declared.attempt.Attempt.TheVariants.{Made, Clashed, Exhausted}
use Rattle.mt_rewriter.specs.declared.attempt.NoSource.{NoSource}
use Rattle.mt_rewriter.specs.declared.attempt.NoSource.TheVariants as no
use Rattle.mt_rewriter.specs.declared.attempt.Source.{Source}
use Rattle.mt_rewriter.specs.declared.translation.Translation.{Translation}
use Rattle.mt_rewriter.specs.Mappings.{Mapping, is_free, meets_reply}
use Rattle.mt_rewriter.specs.Tries.{is_in, free_among, has_free, picked, from_pool, source_of, made_or_clashed, by_source, try_template}

-- none of so many ports is free
none_free : (mappings : List Mapping) (number count first port : ℕ) → free_among mappings number count first ≡ false → first ≤ port → port < first + count → is_free mappings number port ≡ false
unfolding free_among
none_free mappings number zero first port held from to = absurd (omega (arith, from, to))
none_free mappings number (suc count) first port held from to = either (cases (first) port from) (or_false _ _ held) (none_free mappings number count (suc first) port)
  where
    cases : (a b : ℕ) → a ≤ b → (a ≡ b) ⊎ (suc a ≤ b)
    cases a b le = by_test (nat_lt a b) refl
      where
        by_test : (t : Bool) → nat_lt a b ≡ t → (a ≡ b) ⊎ (suc a ≤ b)
        by_test true e = inr (let less : a < b = grind (arith, nat_tests) in omega (arith, less))
        by_test false e = inl (let more : ¬ (a < b) = grind (arith, nat_tests) in omega (arith, more, le))

    either : (first ≡ port) ⊎ (suc first ≤ port) → (is_free mappings number first ≡ false) × (free_among mappings number count (suc first) ≡ false)
        → (free_among mappings number count (suc first) ≡ false → suc first ≤ port → port < suc first + count → is_free mappings number port ≡ false) → is_free mappings number port ≡ false
    either (inl same) both again = ap (is_free mappings number) (sym same) ∙ both.0
    either (inr later) both again = again both.1 later (omega (arith, to))

module _ (picks : List ℕ) (mappings : List Mapping) (key : ForwardKey) (used : ℕ) (template : Template) where
  -- a port that is picked makes a mapping or clashes
  abbrev by : Result Source NoSource → Attempt
  by source = by_source mappings key.element template key.before source

  not_exhausted : (translation : Translation) (taken : ℕ) → made_or_clashed mappings key.element translation taken ≡ Exhausted → ⊥
  not_exhausted translation taken = either (is_some (meets_reply mappings key.element (reversed translation.after)))
    where
      either : (b : Bool) → (if b then Clashed taken else Made translation taken) ≡ Exhausted → ⊥
      either true e = absurd cc
      either false e = absurd cc

  picked_not : (number : ℕ) (pool : Pool) (pick : Option ℕ) → by (picked mappings number pool used pick) ≡ Exhausted → ⊥
  picked_not number pool None e = absurd cc
  picked_not number pool (Some port) e = either (is_in pool port && is_free mappings number port) e
    where
      either : (b : Bool) → by (if b then Ok (record { port = port; held = Some (record { pool = number; port = port }); used = suc used }) else Err (no.BadPick used)) ≡ Exhausted → ⊥
      either true e = not_exhausted _ (suc used) e
      either false e = absurd cc

  pool_held : (number : ℕ) (pool : Pool) → by (from_pool mappings picks used number (Some pool)) ≡ Exhausted → has_free mappings number pool ≡ false
  pool_held number pool = either (has_free mappings number pool)
    where
      either : (b : Bool) → by (if b then picked mappings number pool used (slice_get picks used) else Err no.Exhausted) ≡ Exhausted → b ≡ false
      either true e = absurd (picked_not number pool (slice_get picks used) e)
      either false e = refl

pub all_held : (pools : List Pool) (picks : List ℕ) (mappings : List Mapping) (key : ForwardKey) (used : ℕ) (template : Template) → try_template pools picks mappings key used template ≡ Exhausted
    → (number port : ℕ) (pool : Pool) → template.sp ≡ source.Pool number → slice_get pools number ≡ Some pool → pool.lo ≤ port → port ≤ pool.hi → is_free mappings number port ≡ false
unfolding try_template
all_held pools picks mappings key used template exhausted number port pool named there from to =
    let held = pool_held picks mappings key used template number pool
    (ap (λ found. by_source mappings key.element template key.before (from_pool mappings picks used number found)) (sym there)
    ∙ ap (λ sp. by_source mappings key.element template key.before (source_of pools picks mappings used key.before.sp sp)) (sym named)
    ∙ exhausted) in
    none_free mappings number (suc pool.hi - pool.lo) pool.lo port held from (omega (arith, from, to))
