use Rattle.std.proofs.Common.{All, length, arith, rules, sym, ap, subst, ◌∙◌}
use Rattle.std.specs.Prelude.{IfSome}
use Rattle.std.proofs.lemmas.List.Elements.{All-push}
use Rattle.mt_lists.specs.Options.{each}
use Rattle.mt_kinds.specs.Written.{SpecStands}
use Rattle.mt_kinds.specs.Rewriters.{spec_of}
use Rattle.mt_lists.proofs.Each.{each_begins, each_more, each_stops, each_done}
use Rattle.mt_kinds.proofs.rewriting.each_spec.Goals as goal

pub loop-argument-init : goal.loop-argument-init
loop-argument-init c = record {
  so_far = each_begins spec_of c.args.arguments.now c.new-specs.result.items c.new-specs.ensures.items;
  count = ap length c.new-specs.ensures.items;
  stand = search rules;
}

pub returns-in-None-clause-specs : goal.returns-in-None-clause-specs
returns-in-None-clause-specs c =
    each_stops spec_of c.args.arguments.now c.loop-argument.argument-index c.argument-item.result c.loop-argument.specs.items (each spec_of c.args.arguments.now) c.loop-argument-test.true
    (sym c.in-None.is ∙ c.in_ok-found.ensures.value ∙ ap spec_of (c.bytes.ensures ∙ c.argument-item.is)) c.loop-argument.invariant.so_far

pub loop-argument-preserved : goal.loop-argument-preserved
loop-argument-preserved c = record {
  so_far =
      each_more spec_of c.args.arguments.now c.loop-argument.argument-index c.argument-item.result c.in-Some.found c.loop-argument.specs.items c.push.new.self.items (each spec_of c.args.arguments.now) c.loop-argument-test.true
      (sym c.in-Some.is ∙ c.in_ok-found.ensures.value ∙ ap spec_of (c.bytes.ensures ∙ c.argument-item.is)) c.in_ok-push-in-Some.ensures.items c.loop-argument.invariant.so_far;
  count = omega (arith, c.in_ok-push-in-Some.ensures.len, c.loop-argument.invariant.count);
  stand =
      subst (All SpecStands) (sym c.in_ok-push-in-Some.ensures.items)
      (All-push SpecStands c.loop-argument.specs.items c.in-Some.found c.loop-argument.invariant.stand (subst (λ found. IfSome found SpecStands) c.in-Some.is c.in_ok-found.ensures.stands));
}

pub returns-clause-specs : goal.returns-clause-specs
returns-clause-specs c = each_done spec_of c.args.arguments.now c.loop-argument.argument-index c.loop-argument.specs.items (each spec_of c.args.arguments.now) (omega arith) c.loop-argument.invariant.so_far

pub returns-clause-count : goal.returns-clause-count
returns-clause-count c = omega (arith, c.loop-argument.invariant.count)
