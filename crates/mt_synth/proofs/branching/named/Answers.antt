use Rattle.std.proofs.Common.{◌≡◌, ◌∙◌, ap, subst, refl, ℕ, List, map, length, arith}
use Rattle.std.specs.Prelude.{Some, option_map}
use Rattle.std.proofs.lemmas.List.{length-map}
use Rattle.std.proofs.lemmas.Option.{slice_get-map, slice_get_read, slice_get_within}
use Rattle.mt_terms.specs.Trees.{branches_of}
use Rattle.mt_terms.specs.Trees.{passage as op}
use Rattle.mt_trees.specs.Passages.{code_of}
use Rattle.mt_synth.specs.Branches.{branches_named}
use Rattle.mt_synth.specs.Cuts.{tree_numbered}
use Rattle.mt_synth.specs.Symbols.{symbol_form}
use Rattle.mt_synth.proofs.BranchesNamed.{one_name_more}
use Rattle.mt_synth.proofs.Meant.{grows_on}
use Rattle.mt_synth.proofs.branching.named.Goals as goal

pub loop-place-preserved : goal.loop-place-preserved
loop-place-preserved c =
    let here = slice_get-map (λ v. v.items) c.args.lists.now c.loop-place.place ∙ ap (option_map (λ v. v.items)) (slice_get_read c.args.lists.now (length c.args.lists.now) c.loop-place.place c.index-lists-place.result refl c.loop-place-test.true c.index-lists-place.is) in
    record {
      within = omega (arith, c.loop-place-test.true);
      count = omega (arith, c.in_ok-push.ensures.len, c.loop-place.invariant.count, ap length c.in_ok-push.ensures.items);
      named =
          one_name_more c.args.trees.now c.loop-place.trees c.op_of.new.trees (code_of c.args.at (symbol_form c.args.symbol.now)) (map (λ exit. exit.out) c.args.exits.now) (map (λ v. v.items) c.args.lists.now)
          c.loop-place.names.items c.push.new.self.items c.loop-place.place c.index-lists-place.result.items c.in_ok-name.name c.loop-place.invariant.grows c.op_of.ensures.grows c.loop-place.invariant.count
          here c.in_ok-push.ensures.items
          (subst (λ (list : List ℕ). tree_numbered c.op_of.new.trees c.in_ok-name.name ≡ Some (op (code_of c.args.at (symbol_form c.args.symbol.now)) (branches_of (branches_named c.loop-place.trees (map (λ exit. exit.out) c.args.exits.now) list)))) c.deref.ensures.value c.in_ok-name.ensures.number)
          c.loop-place.invariant.named;
      grows = grows_on c.args.trees.now c.loop-place.trees c.op_of.new.trees c.loop-place.invariant.grows c.op_of.ensures.grows;
    }

pub returns-clause-names : goal.returns-clause-names
returns-clause-names c place list is =
    let below = slice_get_within (map (λ v. v.items) c.args.lists.now) place list is in
    let many = length-map c.args.lists.now (λ v. v.items) in
    c.loop-place.invariant.named place list is (omega (arith, below, many, c.loop-place-test.false))
