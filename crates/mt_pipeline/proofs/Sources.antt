-- A source port that is found is the one that the definition gives, and a try is the one of the definition.
use Rattle.std.proofs.Common.{◌≡◌, ◌∙◌, ◌⊎◌, inl, inr, ap, subst, refl, ℕ, zero, suc, ◌+◌, ◌-◌, ◌<◌, ◌≤◌, true, false, List, [], ◌∷◌, ◌++◌, length, length-append, arith}
use Rattle.std.specs.Prelude.{Option, Some, None, is_some, Ok, slice_get, ◌&&◌}
use Rattle.std.proofs.lemmas.Bool.Decides.{nat_tests}
use Rattle.mt_kinds.specs.declared.rewriter.Pool.{Pool}
use Rattle.mt_kinds.specs.declared.rewriter.SourcePort.{SourcePort}
use Rattle.mt_kinds.specs.declared.rewriter.SourcePort.TheVariants as wanted
use Rattle.mt_kinds.specs.declared.rewriter.Template.{Template}
use Rattle.mt_ledger.specs.Ledger.{LedgerState}
use Rattle.mt_ledger.specs.Pools.{PoolPorts}
use Rattle.mt_ledger.specs.Ports.{HeldPort, times}
use Rattle.mt_flow.specs.Mappings.{StandsReply, reply_key, reversed}
use Rattle.mt_flow.specs.declared.keys.ForwardKey.{ForwardKey}
use Rattle.mt_flow.specs.declared.mapping.Mapping.{Mapping}
use Rattle.mt_rewriter.specs.Mappings.{is_free}
use Rattle.mt_rewriter.specs.Mappings.{Mapping as Entry}
use Rattle.mt_rewriter.specs.Tries.{by_source, from_pool, has_free, is_in, made_or_clashed, source_of, try_template}
use Rattle.mt_pipeline.specs.Standing.{AreWhole, entries_of, held_of, held_ports, times_held, translation_of, with_held}
use Rattle.mt_pipeline.specs.Trying.{ComesTo, FindsNone, IsEmpty, IsExhausted, IsSource, mapping_of}
use Rattle.mt_pipeline.proofs.Entries.{ForwardApart, ReplyApart, free_none, free_one, port_free, port_held, reply_met, reply_unmet}
use Rattle.mt_pipeline.proofs.Whole.{held_alone, held_within, one_within}

-- the pick behind those before
next_pick : (before more : List ℕ) (port : ℕ) → slice_get ((before ++ port ∷ []) ++ more) (length before) ≡ Some port
next_pick [] more port = refl
next_pick (first ∷ before) more port = next_pick before more port

one_longer : (before : List ℕ) (port : ℕ) → suc (length before) ≡ length (before ++ port ∷ [])
one_longer before port = let all = length-append before (port ∷ []) in omega (arith, all)

in_pool : (pool : Pool) (port : ℕ) → pool.lo ≤ port → port ≤ pool.hi → is_in pool port ≡ true
in_pool pool port low high = grind (arith, nat_tests)

module _ (pools : List Pool) (mappings : List Mapping) (apart : ForwardApart mappings) where
  abbrev entries : List Entry
  entries = entries_of mappings

  -- a port of a pool was taken that no mapping holds
  from_share : (number : ℕ) (pool : Pool) (port : ℕ) (before more : List ℕ) → slice_get pools number ≡ Some pool → pool.lo ≤ port → port ≤ pool.hi → times_held number port (held_ports mappings) ≡ 0
      → from_pool entries ((before ++ port ∷ []) ++ more) (length before) number (slice_get pools number)
      ≡ Ok (record { port = port; held = Some (record { pool = number; port = port }); used = length (before ++ port ∷ []) })
  from_share number pool port before more at low high alone =
      let free = port_free number port mappings apart alone in
      let some = free_one entries number (suc pool.hi - pool.lo) pool.lo port free low (omega (arith, low, high)) in
      let pick = next_pick before more port in
      let both : (is_in pool port && is_free entries number port) ≡ true = ap (λ b. b && is_free entries number port) (in_pool pool port low high) ∙ free in
      let longer = one_longer before port in
      rw (at, some, pick, both, longer) refl

  module _ (ledger : LedgerState) (shares : List PoolPorts) where
    pub source_is : (own : ℕ) (asked : SourcePort) (port : ℕ) (held : Option HeldPort) (before after more : List ℕ) → AreWhole pools ledger shares (with_held held (held_ports mappings))
        → IsSource pools own asked port held before after → source_of pools (after ++ more) entries (length before) own asked ≡ Ok (record { port = port; held = held_of held; used = length after })
    source_is own wanted.Same port held before after more whole is = rw (is.0, is.1, is.2) refl
    source_is own (wanted.One fixed) port held before after more whole is = rw (is.0, is.1, is.2) refl
    source_is own (wanted.Pool number) port held before after more whole is =
        rw (is.1, is.2) (taken (stands pools number is.0) (subst (λ h. AreWhole pools ledger shares (with_held h (held_ports mappings))) is.1 whole))
      where
        stands : (pools : List Pool) (number : ℕ) → number < length pools → (pool : Pool) × (slice_get pools number ≡ Some pool)
        stands [] number below = absurd (omega (arith, below))
        stands (pool ∷ pools) zero below = (pool, refl)
        stands (pool ∷ pools) (suc number) below = stands pools number (omega (arith, below))

        taken : (pool : Pool) × (slice_get pools number ≡ Some pool) → AreWhole pools ledger shares (record { pool = number; port = port } ∷ held_ports mappings)
            → from_pool entries ((before ++ port ∷ []) ++ more) (length before) number (slice_get pools number) ≡ Ok (record { port = port; held = Some (record { pool = number; port = port }); used = length (before ++ port ∷ []) })
        taken of all =
            let within = held_within pools ledger shares (record { pool = number; port = port }) (held_ports mappings) all of.0 of.1 in
            from_share number of.0 port before more of.1 within.0 within.1 (held_alone pools ledger shares (record { pool = number; port = port }) (held_ports mappings) all of.0 of.1)

    -- each port of a pool is held where share and stock are empty
    all_held : (number : ℕ) (pool : Pool) → AreWhole pools ledger shares (held_ports mappings) → IsEmpty ledger shares number → slice_get pools number ≡ Some pool → has_free entries number pool ≡ false
    all_held number pool whole empty at =
        free_none entries number (suc pool.hi - pool.lo) pool.lo
        (λ port from to. port_held number port mappings apart
        (let sum = whole.together number pool at port in
        let a = ap (times port) empty.share in
        let b = ap (times port) empty.stock in
        let one = one_within port pool.lo (pool.hi + 1 - pool.lo) from (omega (arith, from, to)) in
        omega (arith, sum, a, b, one)))

    pub exhausted_is : (own : ℕ) (asked : SourcePort) (used : ℕ) (picks : List ℕ) → AreWhole pools ledger shares (held_ports mappings) → IsExhausted pools ledger shares asked
        → source_of pools picks entries used own asked ≡ from_pool entries [] 0 0 None
    exhausted_is own wanted.Same used picks whole is = absurd is
    exhausted_is own (wanted.One fixed) used picks whole is = absurd is
    exhausted_is own (wanted.Pool number) used picks whole is = either is
      where
        found : (o : Option Pool) → slice_get pools number ≡ o → IsEmpty ledger shares number → from_pool entries picks used number o ≡ from_pool entries [] 0 0 None
        found None at empty = refl
        found (Some pool) at empty = let none = all_held number pool whole empty at in rw none refl

        either : (slice_get pools number ≡ None) ⊎ IsEmpty ledger shares number → from_pool entries picks used number (slice_get pools number) ≡ from_pool entries [] 0 0 None
        either (inl none) = ap (from_pool entries picks used number) none
        either (inr empty) = found (slice_get pools number) refl empty

  -- ---- the try

  module _ (key : ForwardKey) (template : Template) (before after : List ℕ) where
    pub exhausted_try : ((more : List ℕ) → source_of pools (before ++ more) entries (length before) key.before.sp template.sp ≡ from_pool entries [] 0 0 None) → FindsNone pools entries key template before
    unfolding try_template
    exhausted_try is more = ap (by_source entries key.element template key.before) (is more)

    module _ (port : ℕ) (held : Option HeldPort) (is : (more : List ℕ) → source_of pools (after ++ more) entries (length before) key.before.sp template.sp ≡ Ok (record { port = port; held = held_of held; used = length after })) where
      abbrev made : Mapping
      made = mapping_of key template port held

      comes : (more : List ℕ) → try_template pools (after ++ more) entries key (length before) template ≡ made_or_clashed entries key.element (translation_of made) (length after)
      unfolding try_template
      comes more = ap (by_source entries key.element template key.before) (is more)

      pub made_try : (StandsReply mappings (reply_key made) → ⊥) → ComesTo pools entries key template before after false (translation_of made)
      made_try none = record { met = ap is_some (reply_unmet key.element (reversed made.after) mappings apart none); tried_is = comes }

      pub clashed_try : ReplyApart mappings → StandsReply mappings (reply_key made) → ComesTo pools entries key template before after true (translation_of made)
      clashed_try replies stands = record { met = ap is_some (reply_met key.element (reversed made.after) mappings stands.0 apart replies stands.1.0 stands.1.1); tried_is = comes }
