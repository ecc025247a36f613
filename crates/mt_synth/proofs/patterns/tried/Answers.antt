use Rattle.std.proofs.Common.{◌≡◌, sym, List, reverse, length, vec_len, subst, arith}
use Rattle.mt_terms.specs.Terms.{term_form}
use Rattle.mt_trees.specs.Tests.{pattern_tried}
use Rattle.mt_synth.specs.Symbols.{symbol_form}
use Rattle.mt_synth.specs.Waiting.{AreWholeBeside}
use Rattle.mt_synth.specs.declared.patterns.Waiting.{Waiting}
use Rattle.mt_synth.proofs.Meant.{grows_on}
use Rattle.mt_synth.proofs.UnderWay.{HasMade, has-true, has-within, smaller-and, smaller-or, smaller-inside, smaller-outside, whole-inside, whole-outside, taken-inside, taken-outside, step-not, step-and, step-or, finished, resumed-inside, resumed-outside, started}
use Rattle.mt_synth.proofs.patterns.tried.Goals as goal
use Rattle.mt_synth.proofs.patterns.tried.Goals.{in-True, in-Within+in_ok-made-in-Within}

pub loop-rest-init : goal.loop-rest-init
loop-rest-init c =
    record {
      grows = λ number tree found. found;
      inside = c.requires.inside;
      outside = c.requires.outside;
      first = c.requires.first;
      second = c.requires.second;
      beside = subst (λ (ws : List Waiting). AreWholeBeside c.args.devices (reverse ws)) (sym c.new-waiting.ensures.items) tt;
      under_way = λ f g first second. started c.args.devices (symbol_form c.args.symbol.now) c.args.trees.now c.args.pattern.now c.args.inside c.args.outside c.new-waiting.result.items f g c.new-waiting.ensures.items first second;
    }

pub loop-rest-preserved-in-Not : goal.loop-rest-preserved-in-Not
loop-rest-preserved-in-Not c =
    record {
      grows = c.loop-rest.invariant.grows;
      inside = c.loop-rest.invariant.outside;
      outside = c.loop-rest.invariant.inside;
      first = c.loop-rest.invariant.second;
      second = c.loop-rest.invariant.first;
      beside = c.loop-rest.invariant.beside;
      under_way = λ f g first second. step-not c.args.devices (symbol_form c.args.symbol.now) (λ header. pattern_tried header (symbol_form c.args.symbol.now) c.args.pattern.now (f header) (g header)) c.loop-rest.trees c.loop-rest.rest.now _ c.get-rest.result.now c.loop-rest.inside c.loop-rest.outside (reverse c.loop-rest.waiting.items) c.in-Not.is c.get-rest.ensures (c.loop-rest.invariant.under_way f g first second);
    }

pub loop-rest-smaller-in-And : goal.loop-rest-smaller-in-And
loop-rest-smaller-in-And c =
    smaller-and c.loop-rest.rest.now _ _ c.get-rest-in-And.result.now c.get.result c.in_ok-copied-in-And.field-0 c.loop-rest.waiting.items c.push.new.self.items c.in-And.is c.get-rest-in-And.ensures c.get.ensures c.in_ok-push-in-And.ensures.items

pub loop-rest-preserved-in-And : goal.loop-rest-preserved-in-And
loop-rest-preserved-in-And c =
    record {
      grows = c.loop-rest.invariant.grows;
      inside = c.loop-rest.invariant.inside;
      outside = c.loop-rest.invariant.outside;
      first = c.loop-rest.invariant.first;
      second = c.loop-rest.invariant.second;
      beside = whole-inside c.args.devices c.get.result c.in_ok-copied-in-And.field-0 c.loop-rest.waiting.items c.push.new.self.items c.in_ok-push-in-And.ensures.items (c.in_ok-copied-in-And.ensures.canonical, c.in_ok-copied-in-And.ensures.finishes) c.loop-rest.invariant.beside;
      under_way = λ f g first second. step-and c.args.devices (symbol_form c.args.symbol.now) (λ header. pattern_tried header (symbol_form c.args.symbol.now) c.args.pattern.now (f header) (g header)) c.loop-rest.trees c.loop-rest.rest.now _ _ c.get-rest-in-And.result.now c.get.result c.loop-rest.inside c.loop-rest.outside c.in_ok-copied-in-And.field-0 c.loop-rest.waiting.items c.push.new.self.items c.in-And.is c.get-rest-in-And.ensures c.get.ensures c.in_ok-push-in-And.ensures.items c.in_ok-copied-in-And.ensures.value
          (c.loop-rest.invariant.under_way f g first second);
    }

pub loop-rest-smaller-in-Or : goal.loop-rest-smaller-in-Or
loop-rest-smaller-in-Or c =
    smaller-or c.loop-rest.rest.now _ _ c.get-rest-in-Or.result.now c.get-in-Or.result c.in_ok-copied-in-Or.field-0 c.loop-rest.waiting.items c.push-in-Or.new.self.items c.in-Or.is c.get-rest-in-Or.ensures c.get-in-Or.ensures c.in_ok-push-in-Or.ensures.items

pub loop-rest-preserved-in-Or : goal.loop-rest-preserved-in-Or
loop-rest-preserved-in-Or c =
    record {
      grows = c.loop-rest.invariant.grows;
      inside = c.loop-rest.invariant.inside;
      outside = c.loop-rest.invariant.outside;
      first = c.loop-rest.invariant.first;
      second = c.loop-rest.invariant.second;
      beside = whole-outside c.args.devices c.get-in-Or.result c.in_ok-copied-in-Or.field-0 c.loop-rest.waiting.items c.push-in-Or.new.self.items c.in_ok-push-in-Or.ensures.items (c.in_ok-copied-in-Or.ensures.canonical, c.in_ok-copied-in-Or.ensures.finishes) c.loop-rest.invariant.beside;
      under_way = λ f g first second. step-or c.args.devices (symbol_form c.args.symbol.now) (λ header. pattern_tried header (symbol_form c.args.symbol.now) c.args.pattern.now (f header) (g header)) c.loop-rest.trees c.loop-rest.rest.now _ _ c.get-rest-in-Or.result.now c.get-in-Or.result c.loop-rest.inside c.loop-rest.outside c.in_ok-copied-in-Or.field-0 c.loop-rest.waiting.items c.push-in-Or.new.self.items c.in-Or.is c.get-rest-in-Or.ensures c.get-in-Or.ensures c.in_ok-push-in-Or.ensures.items c.in_ok-copied-in-Or.ensures.value
          (c.loop-rest.invariant.under_way f g first second);
    }

pub returns-in-None-clause-means : goal.returns-in-None-clause-means
returns-in-None-clause-means c =
    let has : HasMade c.args.devices (symbol_form c.args.symbol.now) c.loop-rest.trees c.match-rest.trees c.loop-rest.rest.now c.loop-rest.inside c.loop-rest.outside c.match-rest.made (reverse c.loop-rest.waiting.items) =
    elim c.match-rest.branch as (λ _. HasMade c.args.devices (symbol_form c.args.symbol.now) c.loop-rest.trees c.match-rest.trees c.loop-rest.rest.now c.loop-rest.inside c.loop-rest.outside c.match-rest.made (reverse c.loop-rest.waiting.items)) [
      | in-True w ↦ has-true c.args.devices (symbol_form c.args.symbol.now) c.loop-rest.trees c.match-rest.trees c.loop-rest.rest.now c.loop-rest.inside c.loop-rest.outside c.match-rest.made (reverse c.loop-rest.waiting.items) w.in-True.is (c.loop-rest.invariant.inside, c.loop-rest.invariant.first) w.trees-is w.made-is
      | in-Within+in_ok-made-in-Within w ↦ has-within c.args.devices (symbol_form c.args.symbol.now) c.loop-rest.trees _ c.match-rest.trees c.loop-rest.rest.now _ _ (term_form w.term-term.result.now) c.loop-rest.inside c.loop-rest.outside _ c.match-rest.made (reverse c.loop-rest.waiting.items) w.in-Within.is w.term-term.ensures
          (w.in_ok-made-in-Within.ensures.canonical, w.in_ok-made-in-Within.ensures.finishes) w.in_ok-made-in-Within.ensures.means w.tested.ensures.grows w.trees-is w.made-is
    ] in
    let cases = rw c.in-None.is at c.pop.ensures.cases in
    let full : vec_len c.loop-rest.waiting ≡ 0 = cases.0 in let same : vec_len c.loop-rest.waiting ≡ length c.loop-rest.waiting.items = c.loop-rest.waiting.ok.0 in
    let none : length c.loop-rest.waiting.items ≡ 0 = omega (arith, full, same) in
    λ f g first second. finished c.args.devices (symbol_form c.args.symbol.now) (λ header. pattern_tried header (symbol_form c.args.symbol.now) c.args.pattern.now (f header) (g header)) c.match-rest.trees c.match-rest.made c.loop-rest.waiting.items none (has.comes_to (λ header. pattern_tried header (symbol_form c.args.symbol.now) c.args.pattern.now (f header) (g header)) (c.loop-rest.invariant.under_way f g first second))

pub loop-rest-smaller-in-Some-Inside : goal.loop-rest-smaller-in-Some-Inside
loop-rest-smaller-in-Some-Inside c =
    let has : HasMade c.args.devices (symbol_form c.args.symbol.now) c.loop-rest.trees c.match-rest.trees c.loop-rest.rest.now c.loop-rest.inside c.loop-rest.outside c.match-rest.made (reverse c.loop-rest.waiting.items) =
    elim c.match-rest.branch as (λ _. HasMade c.args.devices (symbol_form c.args.symbol.now) c.loop-rest.trees c.match-rest.trees c.loop-rest.rest.now c.loop-rest.inside c.loop-rest.outside c.match-rest.made (reverse c.loop-rest.waiting.items)) [
      | in-True w ↦ has-true c.args.devices (symbol_form c.args.symbol.now) c.loop-rest.trees c.match-rest.trees c.loop-rest.rest.now c.loop-rest.inside c.loop-rest.outside c.match-rest.made (reverse c.loop-rest.waiting.items) w.in-True.is (c.loop-rest.invariant.inside, c.loop-rest.invariant.first) w.trees-is w.made-is
      | in-Within+in_ok-made-in-Within w ↦ has-within c.args.devices (symbol_form c.args.symbol.now) c.loop-rest.trees _ c.match-rest.trees c.loop-rest.rest.now _ _ (term_form w.term-term.result.now) c.loop-rest.inside c.loop-rest.outside _ c.match-rest.made (reverse c.loop-rest.waiting.items) w.in-Within.is w.term-term.ensures
          (w.in_ok-made-in-Within.ensures.canonical, w.in_ok-made-in-Within.ensures.finishes) w.in_ok-made-in-Within.ensures.means w.tested.ensures.grows w.trees-is w.made-is
    ] in
    let found = rw c.in-Some-Inside.is at c.pop.ensures.items in let taken = rw c.in-Some-Inside.field-0-is at found in
    smaller-inside c.loop-rest.rest.now c.in-Some-Inside.left c.in-Some-Inside.other c.pop.new.self.items c.loop-rest.waiting.items has.one taken

pub loop-rest-preserved-in-Some-Inside : goal.loop-rest-preserved-in-Some-Inside
loop-rest-preserved-in-Some-Inside c =
    let has : HasMade c.args.devices (symbol_form c.args.symbol.now) c.loop-rest.trees c.match-rest.trees c.loop-rest.rest.now c.loop-rest.inside c.loop-rest.outside c.match-rest.made (reverse c.loop-rest.waiting.items) =
    elim c.match-rest.branch as (λ _. HasMade c.args.devices (symbol_form c.args.symbol.now) c.loop-rest.trees c.match-rest.trees c.loop-rest.rest.now c.loop-rest.inside c.loop-rest.outside c.match-rest.made (reverse c.loop-rest.waiting.items)) [
      | in-True w ↦ has-true c.args.devices (symbol_form c.args.symbol.now) c.loop-rest.trees c.match-rest.trees c.loop-rest.rest.now c.loop-rest.inside c.loop-rest.outside c.match-rest.made (reverse c.loop-rest.waiting.items) w.in-True.is (c.loop-rest.invariant.inside, c.loop-rest.invariant.first) w.trees-is w.made-is
      | in-Within+in_ok-made-in-Within w ↦ has-within c.args.devices (symbol_form c.args.symbol.now) c.loop-rest.trees _ c.match-rest.trees c.loop-rest.rest.now _ _ (term_form w.term-term.result.now) c.loop-rest.inside c.loop-rest.outside _ c.match-rest.made (reverse c.loop-rest.waiting.items) w.in-Within.is w.term-term.ensures
          (w.in_ok-made-in-Within.ensures.canonical, w.in_ok-made-in-Within.ensures.finishes) w.in_ok-made-in-Within.ensures.means w.tested.ensures.grows w.trees-is w.made-is
    ] in
    let found = rw c.in-Some-Inside.is at c.pop.ensures.items in let taken = rw c.in-Some-Inside.field-0-is at found in
    let other = taken-inside c.args.devices c.in-Some-Inside.left c.in-Some-Inside.other c.pop.new.self.items c.loop-rest.waiting.items taken c.loop-rest.invariant.beside in
    record {
      grows = grows_on c.args.trees.now c.loop-rest.trees c.match-rest.trees c.loop-rest.invariant.grows has.grows;
      inside = has.whole.0;
      outside = other.0.0;
      first = has.whole.1;
      second = other.0.1;
      beside = other.1;
      under_way = λ f g first second. resumed-inside c.args.devices (symbol_form c.args.symbol.now) (λ header. pattern_tried header (symbol_form c.args.symbol.now) c.args.pattern.now (f header) (g header)) c.match-rest.trees c.match-rest.made c.in-Some-Inside.left c.in-Some-Inside.other c.pop.new.self.items c.loop-rest.waiting.items taken (has.comes_to (λ header. pattern_tried header (symbol_form c.args.symbol.now) c.args.pattern.now (f header) (g header)) (c.loop-rest.invariant.under_way f g first second));
    }

pub loop-rest-smaller : goal.loop-rest-smaller
loop-rest-smaller c =
    let has : HasMade c.args.devices (symbol_form c.args.symbol.now) c.loop-rest.trees c.match-rest.trees c.loop-rest.rest.now c.loop-rest.inside c.loop-rest.outside c.match-rest.made (reverse c.loop-rest.waiting.items) =
    elim c.match-rest.branch as (λ _. HasMade c.args.devices (symbol_form c.args.symbol.now) c.loop-rest.trees c.match-rest.trees c.loop-rest.rest.now c.loop-rest.inside c.loop-rest.outside c.match-rest.made (reverse c.loop-rest.waiting.items)) [
      | in-True w ↦ has-true c.args.devices (symbol_form c.args.symbol.now) c.loop-rest.trees c.match-rest.trees c.loop-rest.rest.now c.loop-rest.inside c.loop-rest.outside c.match-rest.made (reverse c.loop-rest.waiting.items) w.in-True.is (c.loop-rest.invariant.inside, c.loop-rest.invariant.first) w.trees-is w.made-is
      | in-Within+in_ok-made-in-Within w ↦ has-within c.args.devices (symbol_form c.args.symbol.now) c.loop-rest.trees _ c.match-rest.trees c.loop-rest.rest.now _ _ (term_form w.term-term.result.now) c.loop-rest.inside c.loop-rest.outside _ c.match-rest.made (reverse c.loop-rest.waiting.items) w.in-Within.is w.term-term.ensures
          (w.in_ok-made-in-Within.ensures.canonical, w.in_ok-made-in-Within.ensures.finishes) w.in_ok-made-in-Within.ensures.means w.tested.ensures.grows w.trees-is w.made-is
    ] in
    let found = rw c.in-Some-Outside.is at c.pop.ensures.items in let taken = rw c.in-Some-Outside.field-0-is at found in
    smaller-outside c.loop-rest.rest.now c.in-Some-Outside.left c.in-Some-Outside.other c.pop.new.self.items c.loop-rest.waiting.items has.one taken

pub loop-rest-preserved : goal.loop-rest-preserved
loop-rest-preserved c =
    let has : HasMade c.args.devices (symbol_form c.args.symbol.now) c.loop-rest.trees c.match-rest.trees c.loop-rest.rest.now c.loop-rest.inside c.loop-rest.outside c.match-rest.made (reverse c.loop-rest.waiting.items) =
    elim c.match-rest.branch as (λ _. HasMade c.args.devices (symbol_form c.args.symbol.now) c.loop-rest.trees c.match-rest.trees c.loop-rest.rest.now c.loop-rest.inside c.loop-rest.outside c.match-rest.made (reverse c.loop-rest.waiting.items)) [
      | in-True w ↦ has-true c.args.devices (symbol_form c.args.symbol.now) c.loop-rest.trees c.match-rest.trees c.loop-rest.rest.now c.loop-rest.inside c.loop-rest.outside c.match-rest.made (reverse c.loop-rest.waiting.items) w.in-True.is (c.loop-rest.invariant.inside, c.loop-rest.invariant.first) w.trees-is w.made-is
      | in-Within+in_ok-made-in-Within w ↦ has-within c.args.devices (symbol_form c.args.symbol.now) c.loop-rest.trees _ c.match-rest.trees c.loop-rest.rest.now _ _ (term_form w.term-term.result.now) c.loop-rest.inside c.loop-rest.outside _ c.match-rest.made (reverse c.loop-rest.waiting.items) w.in-Within.is w.term-term.ensures
          (w.in_ok-made-in-Within.ensures.canonical, w.in_ok-made-in-Within.ensures.finishes) w.in_ok-made-in-Within.ensures.means w.tested.ensures.grows w.trees-is w.made-is
    ] in
    let found = rw c.in-Some-Outside.is at c.pop.ensures.items in let taken = rw c.in-Some-Outside.field-0-is at found in
    let other = taken-outside c.args.devices c.in-Some-Outside.left c.in-Some-Outside.other c.pop.new.self.items c.loop-rest.waiting.items taken c.loop-rest.invariant.beside in
    record {
      grows = grows_on c.args.trees.now c.loop-rest.trees c.match-rest.trees c.loop-rest.invariant.grows has.grows;
      inside = other.0.0;
      outside = has.whole.0;
      first = other.0.1;
      second = has.whole.1;
      beside = other.1;
      under_way = λ f g first second. resumed-outside c.args.devices (symbol_form c.args.symbol.now) (λ header. pattern_tried header (symbol_form c.args.symbol.now) c.args.pattern.now (f header) (g header)) c.match-rest.trees c.match-rest.made c.in-Some-Outside.left c.in-Some-Outside.other c.pop.new.self.items c.loop-rest.waiting.items taken (has.comes_to (λ header. pattern_tried header (symbol_form c.args.symbol.now) c.args.pattern.now (f header) (g header)) (c.loop-rest.invariant.under_way f g first second));
    }

pub returns-in-None-clause-grows : goal.returns-in-None-clause-grows
returns-in-None-clause-grows c =
    let has : HasMade c.args.devices (symbol_form c.args.symbol.now) c.loop-rest.trees c.match-rest.trees c.loop-rest.rest.now c.loop-rest.inside c.loop-rest.outside c.match-rest.made (reverse c.loop-rest.waiting.items) =
    elim c.match-rest.branch as (λ _. HasMade c.args.devices (symbol_form c.args.symbol.now) c.loop-rest.trees c.match-rest.trees c.loop-rest.rest.now c.loop-rest.inside c.loop-rest.outside c.match-rest.made (reverse c.loop-rest.waiting.items)) [
      | in-True w ↦ has-true c.args.devices (symbol_form c.args.symbol.now) c.loop-rest.trees c.match-rest.trees c.loop-rest.rest.now c.loop-rest.inside c.loop-rest.outside c.match-rest.made (reverse c.loop-rest.waiting.items) w.in-True.is (c.loop-rest.invariant.inside, c.loop-rest.invariant.first) w.trees-is w.made-is
      | in-Within+in_ok-made-in-Within w ↦ has-within c.args.devices (symbol_form c.args.symbol.now) c.loop-rest.trees _ c.match-rest.trees c.loop-rest.rest.now _ _ (term_form w.term-term.result.now) c.loop-rest.inside c.loop-rest.outside _ c.match-rest.made (reverse c.loop-rest.waiting.items) w.in-Within.is w.term-term.ensures
          (w.in_ok-made-in-Within.ensures.canonical, w.in_ok-made-in-Within.ensures.finishes) w.in_ok-made-in-Within.ensures.means w.tested.ensures.grows w.trees-is w.made-is
    ] in
    grows_on c.args.trees.now c.loop-rest.trees c.match-rest.trees c.loop-rest.invariant.grows has.grows
