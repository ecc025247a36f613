use Rattle.std.proofs.Common.{◌∙◌, List, ap}
use Rattle.mt_terms.specs.Terms.{TermForm, term_form}
use Rattle.mt_trees.specs.Symbols.{with_term}
use Rattle.mt_synth.specs.Symbols.{symbol_form}
use Rattle.mt_synth.proofs.TermSet.{forms_set, symbol_set}
use Rattle.mt_synth.proofs.symbol.Symbol.set.Goals as goal

pub invariant_of-self : goal.invariant_of-self
invariant_of-self c = symbol_set _ _ c.args.field (term_form c.args.term) c.self.invariant c.requires
    (forms_set c.self.inside.terms.items c.number.result c.args.field c.args.term c.number.ensures.number)

pub returns : goal.returns
returns c = ap (λ (terms : List TermForm). record { terms = terms; layer = c.self.inside.layer; trim = c.self.inside.trim; passages = c.self.inside.passages })
    (forms_set c.self.inside.terms.items c.number.result c.args.field c.args.term c.number.ensures.number)
    ∙ ap (λ symbol. with_term (symbol_form symbol) c.args.field (term_form c.args.term)) c.self.view_is
