use Rattle.std.proofs.Common.{arith, rules, sym, ap, ◌∙◌}
use Rattle.mt_lists.specs.Options.{each}
use Rattle.mt_kinds.specs.Routes.{hop_of}
use Rattle.mt_lists.proofs.Each.{each_begins, each_more, each_stops, each_done}
use Rattle.mt_kinds.proofs.lookup.each_hop.Goals as goal

pub loop-argument-init : goal.loop-argument-init
loop-argument-init c = record {
  so_far = each_begins hop_of c.args.arguments.now c.new-hops.result.items c.new-hops.ensures.items;
  range = search rules;
}

pub returns-in-None-clause-hops : goal.returns-in-None-clause-hops
returns-in-None-clause-hops c =
    each_stops hop_of c.args.arguments.now c.loop-argument.argument-index c.argument-item.result c.loop-argument.hops.items (each hop_of c.args.arguments.now) c.loop-argument-test.true
    (sym c.in-None.is ∙ c.in_ok-found.ensures.value ∙ ap hop_of (c.bytes.ensures ∙ c.argument-item.is)) c.loop-argument.invariant.so_far

pub loop-argument-preserved : goal.loop-argument-preserved
loop-argument-preserved c = record {
  so_far =
      each_more hop_of c.args.arguments.now c.loop-argument.argument-index c.argument-item.result c.in-Some.found c.loop-argument.hops.items c.push.new.self.items (each hop_of c.args.arguments.now) c.loop-argument-test.true
      (sym c.in-Some.is ∙ c.in_ok-found.ensures.value ∙ ap hop_of (c.bytes.ensures ∙ c.argument-item.is)) c.in_ok-push-in-Some.ensures.items c.loop-argument.invariant.so_far;
  range = search rules;
}

pub returns-clause-hops : goal.returns-clause-hops
returns-clause-hops c = each_done hop_of c.args.arguments.now c.loop-argument.argument-index c.loop-argument.hops.items (each hop_of c.args.arguments.now) (omega arith) c.loop-argument.invariant.so_far
