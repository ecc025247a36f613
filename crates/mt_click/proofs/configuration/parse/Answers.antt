use Rattle.mt_click.proofs.GraphOfText.{parses, refuses, only_found, few_found, within_found, names_found, arguments_found}
use Rattle.mt_click.proofs.configuration.parse.Goals as goal

pub returns-clause-exact : goal.returns-clause-exact
returns-clause-exact c = parses c.texts_are_read.ensures c.args.text.now c.found.result c.found.ensures

pub returns-clause-none : goal.returns-clause-none
returns-clause-none c = refuses c.texts_are_read.ensures c.args.text.now c.found.result c.found.ensures

pub returns-clause-only : goal.returns-clause-only
returns-clause-only c = only_found c.texts_are_read.ensures c.args.text.now c.found.result c.found.ensures

pub returns-clause-few : goal.returns-clause-few
returns-clause-few c = few_found c.texts_are_read.ensures c.args.text.now c.found.result c.found.ensures

pub returns-clause-within : goal.returns-clause-within
returns-clause-within c = within_found c.texts_are_read.ensures c.args.text.now c.found.result c.found.ensures

pub returns-clause-names : goal.returns-clause-names
returns-clause-names c = names_found c.texts_are_read.ensures c.args.text.now c.found.result c.found.ensures

pub returns-clause-arguments : goal.returns-clause-arguments
returns-clause-arguments c = arguments_found c.texts_are_read.ensures c.args.text.now c.found.result c.requires c.found.ensures
