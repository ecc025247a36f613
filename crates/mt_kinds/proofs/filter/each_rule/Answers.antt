use Rattle.std.proofs.Common.{All, arith, rules, sym, ap, subst, ◌∙◌}
use Rattle.std.specs.Prelude.{IfSome}
use Rattle.std.proofs.lemmas.List.Elements.{All-push}
use Rattle.mt_lists.specs.Options.{each}
use Rattle.mt_kinds.specs.Outputs.{RuleInRange}
use Rattle.mt_kinds.specs.Filters.{rule_of}
use Rattle.mt_lists.proofs.Each.{each_begins, each_more, each_stops, each_done}
use Rattle.mt_kinds.proofs.filter.each_rule.Goals as goal

pub loop-argument-init : goal.loop-argument-init
loop-argument-init c = record {
  so_far = each_begins rule_of c.args.arguments.now c.new-rules.result.items c.new-rules.ensures.items;
  range = search rules;
}

pub returns-in-None-clause-rules : goal.returns-in-None-clause-rules
returns-in-None-clause-rules c =
    each_stops rule_of c.args.arguments.now c.loop-argument.argument-index c.argument-item.result c.loop-argument.rules.items (each rule_of c.args.arguments.now) c.loop-argument-test.true
    (sym c.in-None.is ∙ c.in_ok-found.ensures.value ∙ ap rule_of (c.bytes.ensures ∙ c.argument-item.is)) c.loop-argument.invariant.so_far

pub loop-argument-preserved : goal.loop-argument-preserved
loop-argument-preserved c = record {
  so_far =
      each_more rule_of c.args.arguments.now c.loop-argument.argument-index c.argument-item.result c.in-Some.found c.loop-argument.rules.items c.push.new.self.items (each rule_of c.args.arguments.now) c.loop-argument-test.true
      (sym c.in-Some.is ∙ c.in_ok-found.ensures.value ∙ ap rule_of (c.bytes.ensures ∙ c.argument-item.is)) c.in_ok-push-in-Some.ensures.items c.loop-argument.invariant.so_far;
  range = subst (All RuleInRange) (sym c.in_ok-push-in-Some.ensures.items) (All-push RuleInRange c.loop-argument.rules.items c.in-Some.found c.loop-argument.invariant.range (subst (λ found. IfSome found RuleInRange) c.in-Some.is c.in_ok-found.ensures.range));
}

pub returns-clause-rules : goal.returns-clause-rules
returns-clause-rules c = each_done rule_of c.args.arguments.now c.loop-argument.argument-index c.loop-argument.rules.items (each rule_of c.args.arguments.now) (omega arith) c.loop-argument.invariant.so_far
