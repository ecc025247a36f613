use Rattle.std.proofs.Common.{◌≡◌, ◌∙◌, sym, ap, ℕ, List, map, get_or}
use Rattle.std.specs.Prelude.{slice_get}
use Rattle.std.proofs.lemmas.List.{length-map}
use Rattle.std.proofs.lemmas.Result.{IfOk-weaker}
use Rattle.std.proofs.lemmas.Simd.{map-map}
use Rattle.mt_packet.specs.declared.field.Field.{Field}
use Rattle.mt_cuts.specs.Tree.{value_of}
use Rattle.mt_cuts.specs.View.{tree_of}
use Rattle.mt_cuts.specs.declared.cut.Cut.{Cut}
use Rattle.mt_trees.specs.Symbols.{Symbol}
use Rattle.mt_synth.specs.Symbols.{symbol_form}
use Rattle.mt_synth.specs.declared.exits.Exit.{Exit}
use Rattle.mt_synth.proofs.BranchesNamed.{passage_stands}
use Rattle.mt_synth.proofs.branching.passed.Goals as goal

pub returns-clause-means : goal.returns-clause-means
returns-clause-means c =
    IfOk-weaker c.renamed.result _ _
    (λ (cut : Cut) (value : (header : Field → ℕ) → value_of (tree_of cut) header ≡ get_or c.deref-2.result.now (value_of (tree_of c.in_ok-made.made) header) 0).
    passage_stands c.args.devices c.args.trees.now c.named.new.trees (symbol_form c.args.symbol.now) c.args.at
    (map (λ (exit : Exit). (exit.out, symbol_form exit.symbol)) c.args.exits.now) (map (λ (exit : Exit). exit.out) c.args.exits.now) c.args.cuts.now c.in_ok-names.names.items (map (λ v. v.items) c.in_ok-made.lists.items)
    (tree_of c.in_ok-made.made) (tree_of cut)
    (sym (map-map (λ (exit : ℕ × Symbol). exit.0) (λ (exit : Exit). (exit.out, symbol_form exit.symbol)) c.args.exits.now))
    (c.requires.count ∙ sym (length-map c.args.exits.now (λ (exit : Exit). exit.out)))
    c.in_ok-made.ensures.lists
    (λ place list is. c.in_ok-names.ensures.names place list (ap (λ xs. slice_get (map (λ v. v.items) xs) place) c.deref.ensures.value ∙ is))
    (λ header. value header ∙ ap (λ (names : List ℕ). get_or names (value_of (tree_of c.in_ok-made.made) header) 0) c.deref-2.ensures.value))
    c.renamed.ensures.value
