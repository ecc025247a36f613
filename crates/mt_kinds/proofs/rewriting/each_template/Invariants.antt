use Rattle.std.proofs.Common.{◌≡◌, All, ◌++◌, length, drop}
use Rattle.std.specs.Prelude.{option_map}
use Rattle.mt_lists.specs.Options.{each}
use Rattle.mt_kinds.specs.Written.{TemplateStands}
use Rattle.mt_kinds.specs.Rewriters.{template_of}
use Rattle.mt_kinds.proofs.rewriting.each_template.Given as goal

abbrev pub invariant-loop-argument : goal.invariant-loop-argument
invariant-loop-argument l = record {
  so_far : each template_of l.arguments ≡ option_map (λ more. l.templates.items ++ more) (each template_of (drop l.argument-index l.arguments));
  count : length l.templates.items ≡ l.argument-index;
  stand : All TemplateStands l.templates.items;
}
