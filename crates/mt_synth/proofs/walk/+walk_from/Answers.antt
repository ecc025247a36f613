use Rattle.std.proofs.Common.{rules, length, refl, ◌≡◌, ◌∙◌, sym, ap, subst, ℕ, List, ◌+◌, ◌-◌, map, arith, true}
use Rattle.std.specs.Prelude.{Some, None, slice_get}
use Rattle.std.specs.BTreeMap as stations
use Rattle.std.proofs.lemmas.Result.{IfOk-weaker}
use Rattle.mt_kinds.specs.Layers.{takes}
use Rattle.mt_cuts.specs.Canonical.{IsCanonical}
use Rattle.mt_cuts.specs.View.{tree_of}
use Rattle.mt_cuts.specs.declared.cut.Cut.{Cut}
use Rattle.mt_elements.specs.ChainState.{ChainState}
use Rattle.mt_kinds.specs.declared.kind.Kind.{Kind}
use Rattle.mt_terms.specs.declared.tree.Tree.{Tree}
use Rattle.mt_trees.specs.Elements.{Along, by_wire, tree_from, leaves, class_tree}
use Rattle.mt_trees.specs.Symbols.{Symbol}
use Rattle.mt_synth.specs.Cuts.{Means, Grows, AreBehind}
use Rattle.mt_synth.specs.Exits.{exits_of}
use Rattle.mt_synth.specs.declared.exits.Exit.{Exit}
use Rattle.mt_synth.specs.Symbols.{symbol_form}
use Rattle.mt_synth.proofs.Walking.{HasWalked, further, exit_form}
use Rattle.mt_synth.specs.Memo.{symbol_of, compare_stations, IsKept, Remembers}
use Rattle.mt_synth.specs.declared.memo.Station.{Station}
use Rattle.mt_synth.specs.declared.memo.Memo.{Memo}
use Rattle.mt_synth.proofs.Meant.{means_same, means_values}
use Rattle.mt_synth.proofs.Remembered.{moved, remembers_later}
use Rattle.mt_synth.proofs.Ways.{no_more, no_element, not_taken, stepped, by_next, behind_same}
use Rattle.mt_elements.proofs.Looked.{got, gone}
use Rattle.mt_chain.specs.Step.{unwired_cause}
use Rattle.std.proofs.lemmas.Option.{slice_get_past, slice_get_read}
use Rattle.mt_synth.proofs.walk.+walk_from.Goals as goal
use Rattle.mt_synth.proofs.walk.+walk_from.Goals.{in-Some-next+in_ok-cut-in-Some-next, in-None+in_ok-cut-in-None}

pub returns-then-most-eq0-clause-means : goal.returns-then-most-eq0-clause-means
returns-then-most-eq0-clause-means t c = λ header inside tree found. absurd (no_more _ _ _ _ _ c.args.most c.if-most-eq0.true found)

pub returns-in_default-clause-means : goal.returns-in_default-clause-means
returns-in_default-clause-means t c = λ header inside tree found. absurd (no_element _ _ _ _ _ c.args.most (slice_get_past _ _ (gone _ _ _ c.kinds.ensures (c.in_default.ensures.lookup.0))) found)

pub returns-then-not-takes-clause-means : goal.returns-then-not-takes-clause-means
returns-then-not-takes-clause-means t c = λ header inside tree found. absurd (not_taken _ _ _ _ _ c.args.most c.in-Some.kind.now (got _ _ _ c.kinds.ensures _ c.in-Some.ensures.lookup.0 c.in-Some.ensures.lookup.1) (sym (ap (takes c.in-Some.kind.now) c.layer.ensures) ∙ (sym c.takes.ensures ∙ c.if-not-takes.true)) found)

pub exits_of-requires : goal.exits_of-requires
exits_of-requires t c = record { there = got _ _ _ c.kinds.ensures _ c.in-Some.ensures.lookup.0 c.in-Some.ensures.lookup.1 }

pub loop-place-preserved : goal.loop-place-preserved
loop-place-preserved t c =
    let chain : ChainState = c.args.chain.now in
    let along : List ℕ → Along = λ header. tree_from (c.args.most - 1) c.args.chain.now header in
    let own : Kind = c.in-Some.kind.now in
    let exit : Exit = c.index-exit.result.now in
    let there : slice_get c.in_ok-exits.exits.items c.loop-place.place ≡ Some exit =
    slice_get_read c.in_ok-exits.exits.items (length c.in_ok-exits.exits.items) c.loop-place.place exit refl (omega (arith, c.loop-place-test.true, c.len-place-end.ensures)) c.index-exit.ensures in
    elim c.match-next.branch [
      | in-Some-next+in_ok-cut-in-Some-next w ↦
          let grows : Grows c.loop-place.trees c.match-next.trees = subst (Grows c.loop-place.trees) (sym w.trees-is) w.in_ok-cut-in-Some-next.ensures.grows in
          let canonical : IsCanonical chain.entries (tree_of c.match-next.cut) = subst (λ (k : Cut). IsCanonical chain.entries (tree_of k)) (sym w.cut-is) w.in_ok-cut-in-Some-next.ensures.canonical in
          let onward : Means chain.entries c.match-next.trees (tree_of c.match-next.cut) (λ header. along header w.in-Some-next.next (symbol_form exit.symbol)) =
          subst (λ (ts : List Tree). Means chain.entries ts (tree_of c.match-next.cut) (λ header. along header w.in-Some-next.next (symbol_form exit.symbol))) (sym w.trees-is)
          (subst (λ (k : Cut). Means chain.entries w.walk_from.new.trees (tree_of k) (λ header. along header w.in-Some-next.next (symbol_form exit.symbol))) (sym w.cut-is) w.in_ok-cut-in-Some-next.ensures.means) in
          let means : Means chain.entries c.match-next.trees (tree_of c.match-next.cut) (λ header. leaves chain header (along header) c.args.at own (symbol_form exit.symbol) exit.out) =
          by_next chain.entries c.match-next.trees c.match-next.cut chain along c.args.at own (symbol_form exit.symbol) exit.out (Some w.in-Some-next.next) (sym w.in-Some-next.is ∙ c.next.ensures) onward in
          let kept : Remembers chain c.match-next.trees c.match-next.memo.kept =
          subst (λ (m : Memo). Remembers chain c.match-next.trees m.kept) (sym w.memo-is)
          (subst (λ (ts : List Tree). Remembers chain ts w.walk_from.new.memo.kept) (sym w.trees-is) w.in_ok-cut-in-Some-next.ensures.memo) in
          record {
            walked =
                subst (λ (ks : List Cut). HasWalked chain along c.args.at own c.args.trees.now c.match-next.trees c.in_ok-exits.exits.items ks (c.loop-place.place + 1)) (sym c.in_ok-push.ensures.items)
                (further chain along c.args.at own c.args.trees.now c.in_ok-exits.exits.items c.loop-place.trees c.match-next.trees c.loop-place.cuts.items c.loop-place.place c.loop-place.invariant.walked grows exit there c.match-next.cut canonical means);
            kept = kept;
          }
      | in-None+in_ok-cut-in-None w ↦
          let grows : Grows c.loop-place.trees c.match-next.trees = subst (Grows c.loop-place.trees) (sym w.trees-is) w.in_ok-cut-in-None.ensures.grows in
          let canonical : IsCanonical chain.entries (tree_of c.match-next.cut) = subst (λ (k : Cut). IsCanonical chain.entries (tree_of k)) (sym w.cut-is) (w.in_ok-cut-in-None.ensures.canonical chain.entries) in
          let onward : Means chain.entries c.match-next.trees (tree_of c.match-next.cut) (λ header. by_wire (along header) (symbol_form exit.symbol) None (unwired_cause own exit.out)) =
          subst (λ (ts : List Tree). Means chain.entries ts (tree_of c.match-next.cut) (λ header. by_wire (along header) (symbol_form exit.symbol) None (unwired_cause own exit.out))) (sym w.trees-is)
          (subst (λ (k : Cut). Means chain.entries w.unwired.new.trees (tree_of k) (λ header. by_wire (along header) (symbol_form exit.symbol) None (unwired_cause own exit.out))) (sym w.cut-is)
          (w.in_ok-cut-in-None.ensures.means chain.entries along (symbol_form exit.symbol))) in
          let means : Means chain.entries c.match-next.trees (tree_of c.match-next.cut) (λ header. leaves chain header (along header) c.args.at own (symbol_form exit.symbol) exit.out) =
          by_next chain.entries c.match-next.trees c.match-next.cut chain along c.args.at own (symbol_form exit.symbol) exit.out None (sym w.in-None.is ∙ c.next.ensures) onward in
          let kept : Remembers chain c.match-next.trees c.match-next.memo.kept =
          subst (λ (m : Memo). Remembers chain c.match-next.trees m.kept) (sym w.memo-is)
          (remembers_later chain c.loop-place.trees c.match-next.trees c.loop-place.memo.kept grows c.loop-place.invariant.kept) in
          record {
            walked =
                subst (λ (ks : List Cut). HasWalked chain along c.args.at own c.args.trees.now c.match-next.trees c.in_ok-exits.exits.items ks (c.loop-place.place + 1)) (sym c.in_ok-push.ensures.items)
                (further chain along c.args.at own c.args.trees.now c.in_ok-exits.exits.items c.loop-place.trees c.match-next.trees c.loop-place.cuts.items c.loop-place.place c.loop-place.invariant.walked grows exit there c.match-next.cut canonical means);
            kept = kept;
          }
    ]

pub copied-requires : goal.copied-requires
copied-requires t c =
    let found : stations.get compare_stations c.args.memo.now.kept c.in_ok-key.key ≡ Some c.in-Some-get.cut.now = search rules in
    let is = c.requires.memo c.in_ok-key.key c.in-Some-get.cut.now found in
    subst (λ (n : ℕ). IsCanonical n (tree_of c.in-Some-get.cut.now)) (sym c.entries.ensures) is.canonical

pub returns-in-Some-get-clause-means : goal.returns-in-Some-get-clause-means
returns-in-Some-get-clause-means t c =
    let chain : ChainState = c.args.chain.now in
    let key : Station = c.in_ok-key.key in
    let cut : Cut = c.in-Some-get.cut.now in
    let found : stations.get compare_stations c.args.memo.now.kept key ≡ Some cut = search rules in
    let is = c.requires.memo key cut found in
    IfOk-weaker c.copied.result _ _
    (λ copy values. means_values chain.entries c.args.trees.now (tree_of cut) (tree_of copy) (λ header. tree_from c.args.most chain header c.args.at (symbol_form c.args.symbol.now)) values
    (moved chain c.args.trees.now (tree_of cut) key.most c.args.most key.element key.input c.args.at.0 c.args.at.1 (symbol_of key) (symbol_form c.args.symbol.now)
    c.in_ok-key.ensures.most c.in_ok-key.ensures.element c.in_ok-key.ensures.input c.in_ok-key.ensures.symbol is.means))
    c.copied.ensures.value

pub returns-clause-means : goal.returns-clause-means
returns-clause-means t c =
    let chain : ChainState = c.args.chain.now in
    let along : List ℕ → Along = λ header. tree_from (c.args.most - 1) c.args.chain.now header in
    let own : Kind = c.in-Some.kind.now in
    let symbol : Symbol = symbol_form c.args.symbol.now in
    let behind : AreBehind chain.entries c.loop-place.trees chain along c.args.at own (exits_of chain c.args.at own symbol) c.loop-place.cuts.items =
    behind_same chain.entries c.loop-place.trees chain along c.args.at own (map exit_form c.in_ok-exits.exits.items) (exits_of chain c.args.at own symbol) c.loop-place.cuts.items c.in_ok-exits.ensures c.loop-place.invariant.walked.behind in
    let told : AreBehind chain.entries c.loop-place.trees chain along c.args.at own (exits_of chain c.args.at own symbol) c.deref-2.result.now =
    subst (λ (ks : List Cut). AreBehind chain.entries c.loop-place.trees chain along c.args.at own (exits_of chain c.args.at own symbol) ks) (sym c.deref-2.ensures.value) behind in
    let is : slice_get chain.kinds c.args.at.0 ≡ Some own = got _ _ _ c.kinds.ensures _ c.in-Some.ensures.lookup.0 c.in-Some.ensures.lookup.1 in
    let taken : takes own symbol.layer ≡ true = sym (ap (takes own) c.layer.ensures) ∙ (sym c.takes.ensures ∙ c.if-not-takes.false) in
    let some : c.args.most ≡ 0 → ⊥ = c.if-most-eq0.false in
    means_same chain.entries c.joined.new.trees (tree_of c.in_ok-made.made) (λ header. class_tree chain header (along header) c.args.at own symbol) (λ header. tree_from c.args.most chain header c.args.at symbol)
    (λ header. sym (stepped chain header c.args.at symbol c.args.most own some is taken)) (c.in_ok-made.ensures.means along told)

pub returns-clause-memo : goal.returns-clause-memo
returns-clause-memo t c =
    let chain : ChainState = c.args.chain.now in
    let along : List ℕ → Along = λ header. tree_from (c.args.most - 1) c.args.chain.now header in
    let own : Kind = c.in-Some.kind.now in
    let symbol : Symbol = symbol_form c.args.symbol.now in
    let behind : AreBehind chain.entries c.loop-place.trees chain along c.args.at own (exits_of chain c.args.at own symbol) c.loop-place.cuts.items =
    behind_same chain.entries c.loop-place.trees chain along c.args.at own (map exit_form c.in_ok-exits.exits.items) (exits_of chain c.args.at own symbol) c.loop-place.cuts.items c.in_ok-exits.ensures c.loop-place.invariant.walked.behind in
    let told : AreBehind chain.entries c.loop-place.trees chain along c.args.at own (exits_of chain c.args.at own symbol) c.deref-2.result.now =
    subst (λ (ks : List Cut). AreBehind chain.entries c.loop-place.trees chain along c.args.at own (exits_of chain c.args.at own symbol) ks) (sym c.deref-2.ensures.value) behind in
    let is : slice_get chain.kinds c.args.at.0 ≡ Some own = got _ _ _ c.kinds.ensures _ c.in-Some.ensures.lookup.0 c.in-Some.ensures.lookup.1 in
    let taken : takes own symbol.layer ≡ true = sym (ap (takes own) c.layer.ensures) ∙ (sym c.takes.ensures ∙ c.if-not-takes.false) in
    let some : c.args.most ≡ 0 → ⊥ = c.if-most-eq0.false in
    let key : Station = c.in_ok-key.key in
    let made : Cut = c.in_ok-made.made in
    let means : Means chain.entries c.joined.new.trees (tree_of made) (λ header. tree_from c.args.most chain header c.args.at symbol) =
    means_same chain.entries c.joined.new.trees (tree_of made) (λ header. class_tree chain header (along header) c.args.at own symbol) (λ header. tree_from c.args.most chain header c.args.at symbol)
    (λ header. sym (stepped chain header c.args.at symbol c.args.most own some is taken)) (c.in_ok-made.ensures.means along told) in
    let kept : IsKept chain c.joined.new.trees key made =
    record {
      canonical = c.in_ok-made.ensures.canonical;
      means = moved chain c.joined.new.trees (tree_of made) c.args.most key.most c.args.at.0 c.args.at.1 key.element key.input symbol (symbol_of key)
          (sym c.in_ok-key.ensures.most) (sym c.in_ok-key.ensures.element) (sym c.in_ok-key.ensures.input) (sym c.in_ok-key.ensures.symbol) means;
    } in
    c.in_ok-keep.ensures chain c.joined.new.trees (sym c.entries-2.ensures) kept
    (remembers_later chain c.loop-place.trees c.joined.new.trees c.loop-place.memo.kept c.joined.ensures.grows c.loop-place.invariant.kept)
