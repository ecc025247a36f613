use Rattle.std.proofs.Common.{sym, ap, ◌∙◌}
use Rattle.mt_kinds.specs.Outputs.{template_outs, templates_outs}
use Rattle.mt_kinds.proofs.Greatest.{none_greatest}
use Rattle.mt_kinds.proofs.mappers.Mappers.count.Goals as goal

pub returns-in-None-clause-value : goal.returns-in-None-clause-value
returns-in-None-clause-value c = sym (ap templates_outs c.in-None.ensures.none ∙ none_greatest template_outs)
