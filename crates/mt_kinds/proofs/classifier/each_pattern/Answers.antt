use Rattle.std.proofs.Common.{Vec, length, map, [], ◌∷◌, arith, sym, ap, ◌∙◌}
use Rattle.std.specs.Prelude.{option_map}
use Rattle.std.specs.declared.alloc.Global.{Global}
use Rattle.std.proofs.lemmas.List.{map-append}
use Rattle.mt_kinds.specs.declared.kind.Clause.{Clause}
use Rattle.mt_lists.specs.Options.{each}
use Rattle.mt_kinds.specs.Patterns.{pattern_of}
use Rattle.mt_lists.proofs.Each.{each_begins, each_more, each_stops, each_done}
use Rattle.mt_kinds.proofs.classifier.each_pattern.Goals as goal

pub loop-argument-init : goal.loop-argument-init
loop-argument-init c = record {
  so_far = each_begins pattern_of c.args.arguments.now (map (λ p. p.items) c.new-patterns.result.items) (ap (map (λ (p : Vec Clause Global). p.items)) c.new-patterns.ensures.items);
  count = ap length c.new-patterns.ensures.items;
}

pub returns-in-None-clause-patterns : goal.returns-in-None-clause-patterns
returns-in-None-clause-patterns c =
    each_stops pattern_of c.args.arguments.now c.loop-argument.argument-index c.argument-item.result (map (λ p. p.items) c.loop-argument.patterns.items) (each pattern_of c.args.arguments.now) c.loop-argument-test.true
    (ap (option_map (λ (p : Vec Clause Global). p.items)) (sym c.in-None.is) ∙ c.in_ok-found.ensures ∙ ap pattern_of (c.bytes.ensures ∙ c.argument-item.is)) c.loop-argument.invariant.so_far

pub loop-argument-preserved : goal.loop-argument-preserved
loop-argument-preserved c =
    record {
      so_far =
          each_more pattern_of c.args.arguments.now c.loop-argument.argument-index c.argument-item.result c.in-Some.found.items (map (λ p. p.items) c.loop-argument.patterns.items) (map (λ p. p.items) c.push.new.self.items) (each pattern_of c.args.arguments.now) c.loop-argument-test.true
          (ap (option_map (λ (p : Vec Clause Global). p.items)) (sym c.in-Some.is) ∙ c.in_ok-found.ensures ∙ ap pattern_of (c.bytes.ensures ∙ c.argument-item.is))
          (ap (map (λ (p : Vec Clause Global). p.items)) c.in_ok-push-in-Some.ensures.items ∙ map-append (λ p. p.items) c.loop-argument.patterns.items (c.in-Some.found ∷ []))
          c.loop-argument.invariant.so_far;
      count = omega (arith, c.in_ok-push-in-Some.ensures.len, c.loop-argument.invariant.count);
    }

pub returns-clause-patterns : goal.returns-clause-patterns
returns-clause-patterns c = each_done pattern_of c.args.arguments.now c.loop-argument.argument-index (map (λ p. p.items) c.loop-argument.patterns.items) (each pattern_of c.args.arguments.now) (omega arith) c.loop-argument.invariant.so_far

pub returns-clause-count : goal.returns-clause-count
returns-clause-count c = omega (arith, c.loop-argument.invariant.count)
