use Rattle.std.proofs.Common.{length, arith, sym, ap, ◌∙◌}
use Rattle.mt_lists.specs.Options.{each}
use Rattle.mt_kinds.specs.Filters.{ip_pattern_of}
use Rattle.mt_lists.proofs.Each.{each_begins, each_more, each_stops, each_done}
use Rattle.mt_kinds.proofs.filter.each_pattern.Goals as goal

pub loop-argument-init : goal.loop-argument-init
loop-argument-init c = record {
  so_far = each_begins ip_pattern_of c.args.arguments.now c.new-patterns.result.items c.new-patterns.ensures.items;
  count = ap length c.new-patterns.ensures.items;
}

pub returns-in-None-clause-patterns : goal.returns-in-None-clause-patterns
returns-in-None-clause-patterns c =
    each_stops ip_pattern_of c.args.arguments.now c.loop-argument.argument-index c.argument-item.result c.loop-argument.patterns.items (each ip_pattern_of c.args.arguments.now) c.loop-argument-test.true
    (sym c.in-None.is ∙ c.in_ok-found.ensures ∙ ap ip_pattern_of (c.bytes.ensures ∙ c.argument-item.is)) c.loop-argument.invariant.so_far

pub loop-argument-preserved : goal.loop-argument-preserved
loop-argument-preserved c = record {
  so_far =
      each_more ip_pattern_of c.args.arguments.now c.loop-argument.argument-index c.argument-item.result c.in-Some.found c.loop-argument.patterns.items c.push.new.self.items (each ip_pattern_of c.args.arguments.now) c.loop-argument-test.true
      (sym c.in-Some.is ∙ c.in_ok-found.ensures ∙ ap ip_pattern_of (c.bytes.ensures ∙ c.argument-item.is)) c.in_ok-push-in-Some.ensures.items c.loop-argument.invariant.so_far;
  count = omega (arith, c.in_ok-push-in-Some.ensures.len, c.loop-argument.invariant.count);
}

pub returns-clause-patterns : goal.returns-clause-patterns
returns-clause-patterns c = each_done ip_pattern_of c.args.arguments.now c.loop-argument.argument-index c.loop-argument.patterns.items (each ip_pattern_of c.args.arguments.now) (omega arith) c.loop-argument.invariant.so_far

pub returns-clause-count : goal.returns-clause-count
returns-clause-count c = omega (arith, c.loop-argument.invariant.count)
