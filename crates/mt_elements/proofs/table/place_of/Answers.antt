use Rattle.std.proofs.Common.{◌∙◌}
use Rattle.mt_elements.proofs.NextFound.{place_of_output}
use Rattle.mt_elements.proofs.table.place_of.Goals as goal

pub returns : goal.returns
returns c = c.get_index_of.ensures.index ∙ place_of_output c.args.layout.now c.args.wired.now.keys c.args.output c.requires
