use Rattle.std.proofs.Common.{◌∙◌, ◌-◌, ap, map, take, drop, length, arith}
use Rattle.std.proofs.lemmas.List.{take_rest}
use Rattle.std.proofs.lemmas.Result.{IfOk-weaker}
use Rattle.mt_cuts.specs.View.{tree_of}
use Rattle.mt_synth.specs.Symbols.{symbol_form}
use Rattle.mt_synth.specs.declared.exits.Exit.{Exit}
use Rattle.mt_synth.proofs.Meant.{grows_on}
use Rattle.mt_synth.proofs.RewriterParts.{mapped_behind, drops_stand, pass_stands}
use Rattle.mt_synth.proofs.joined.rewritten.Goals as goal

pub returns-in-Pass-clause-means : goal.returns-in-Pass-clause-means
returns-in-Pass-clause-means c =
    IfOk-weaker c.ported.result _ _
    (λ cut means.
    pass_stands c.args.devices c.args.trees.now c.ported.new.trees (symbol_form c.args.symbol.now) c.args.at (tree_of cut) c.args.spec.now c.in-Pass.field-0
    (map (λ (exit : Exit). (exit.out, symbol_form exit.symbol)) c.args.exits.now)
    (map (λ (exit : Exit). (exit.out, symbol_form exit.symbol)) (take (length c.args.exits.now - 1) (drop 1 c.args.exits.now)))
    c.args.cuts.now (take (length c.args.cuts.now - 1) (drop 1 c.args.cuts.now)) (tree_of c.in_ok-unported.unported)
    c.in-Pass.is (let some = c.requires.passes c.in-Pass.field-0 c.in-Pass.is in omega (arith, some, c.requires.count))
    (ap (map (λ (exit : Exit). (exit.out, symbol_form exit.symbol))) (take_rest c.args.exits.now 1) ∙ mapped_behind (λ (exit : Exit). (exit.out, symbol_form exit.symbol)) c.args.exits.now)
    (take_rest c.args.cuts.now 1) c.in_ok-unported.ensures.value means)
    c.ported.ensures.means

pub ported-requires-2 : goal.ported-requires-2
ported-requires-2 c = record {
  count = c.requires.count;
  cuts = c.requires.cuts;
  unported = c.in_ok-unported-2.ensures.canonical c.args.devices;
  finished = c.in_ok-unported-2.ensures.finishes c.args.devices;
}

pub returns : goal.returns
returns c = record {
  canonical = c.ported-2.ensures.canonical;
  means =
      IfOk-weaker c.ported-2.result _ _
      (λ cut means.
      drops_stand c.args.devices c.dropped.new.trees c.ported-2.new.trees (symbol_form c.args.symbol.now) c.args.at (tree_of cut) c.args.spec.now c.args.trees.now
      (map (λ (exit : Exit). (exit.out, symbol_form exit.symbol)) c.args.exits.now) c.args.cuts.now (tree_of c.in_ok-unported-2.unported)
      c.in_default.not-Pass c.dropped.ensures.grows (c.in_ok-unported-2.ensures.means c.args.devices) means)
      c.ported-2.ensures.means;
  grows = grows_on c.args.trees.now c.dropped.new.trees c.ported-2.new.trees c.dropped.ensures.grows c.ported-2.ensures.grows;
}
