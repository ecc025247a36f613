use Rattle.std.proofs.Common.{All, length, arith, rules, sym, ap, subst, ◌∙◌}
use Rattle.std.specs.Prelude.{IfSome}
use Rattle.std.proofs.lemmas.List.Elements.{All-push}
use Rattle.mt_lists.specs.Options.{each}
use Rattle.mt_kinds.specs.Written.{TemplateStands}
use Rattle.mt_kinds.specs.Rewriters.{template_of}
use Rattle.mt_lists.proofs.Each.{each_begins, each_more, each_stops, each_done}
use Rattle.mt_kinds.proofs.rewriting.each_template.Goals as goal

pub loop-argument-init : goal.loop-argument-init
loop-argument-init c = record {
  so_far = each_begins template_of c.args.arguments.now c.new-templates.result.items c.new-templates.ensures.items;
  count = ap length c.new-templates.ensures.items;
  stand = search rules;
}

pub returns-in-None-clause-templates : goal.returns-in-None-clause-templates
returns-in-None-clause-templates c =
    each_stops template_of c.args.arguments.now c.loop-argument.argument-index c.argument-item.result c.loop-argument.templates.items (each template_of c.args.arguments.now) c.loop-argument-test.true
    (sym c.in-None.is ∙ c.in_ok-found.ensures.value ∙ ap template_of (c.bytes.ensures ∙ c.argument-item.is)) c.loop-argument.invariant.so_far

pub loop-argument-preserved : goal.loop-argument-preserved
loop-argument-preserved c = record {
  so_far =
      each_more template_of c.args.arguments.now c.loop-argument.argument-index c.argument-item.result c.in-Some.found c.loop-argument.templates.items c.push.new.self.items (each template_of c.args.arguments.now) c.loop-argument-test.true
      (sym c.in-Some.is ∙ c.in_ok-found.ensures.value ∙ ap template_of (c.bytes.ensures ∙ c.argument-item.is)) c.in_ok-push-in-Some.ensures.items c.loop-argument.invariant.so_far;
  count = omega (arith, c.in_ok-push-in-Some.ensures.len, c.loop-argument.invariant.count);
  stand =
      subst (All TemplateStands) (sym c.in_ok-push-in-Some.ensures.items)
      (All-push TemplateStands c.loop-argument.templates.items c.in-Some.found c.loop-argument.invariant.stand (subst (λ found. IfSome found TemplateStands) c.in-Some.is c.in_ok-found.ensures.stands));
}

pub returns-clause-templates : goal.returns-clause-templates
returns-clause-templates c = each_done template_of c.args.arguments.now c.loop-argument.argument-index c.loop-argument.templates.items (each template_of c.args.arguments.now) (omega arith) c.loop-argument.invariant.so_far

pub returns-clause-count : goal.returns-clause-count
returns-clause-count c = omega (arith, c.loop-argument.invariant.count)
