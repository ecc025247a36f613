use Rattle.std.proofs.Common.{ap, ◌∙◌}
use Rattle.std.specs.List.{list_any}
use Rattle.mt_command.proofs.Named.{is_file, any_inserted, always}
use Rattle.mt_command.proofs.operands.name_file.Goals as goal

pub returns-clause-named : goal.returns-clause-named
returns-clause-named c = always c.in_ok-insert.field-0 (λ other. ap (list_any (is_file other)) c.in_ok-insert.ensures.keys ∙ any_inserted other c.args.file c.args.files.now.keys)
