use Rattle.std.proofs.Common.{◌≡◌, ◌∙◌, IfOk, Some, ap, subst}
use Rattle.mt_kinds.specs.declared.kind.Kind.TheVariants.{IPFilter}
use Rattle.mt_synth.specs.Exits.{Exits, exit_forms}
use Rattle.mt_synth.specs.Symbols.{symbol_form}
use Rattle.mt_synth.proofs.Outputs.{filter_exits}
use Rattle.mt_synth.proofs.exits.exits_of.Goals as goal

pub returns-in-IPFilter : goal.returns-in-IPFilter
returns-in-IPFilter c =
    let count = c.outputs.ensures (IPFilter c.in-IPFilter.field-0) (c.requires.there ∙ ap Some c.in-IPFilter.is) in
    subst (λ (forms : Exits). IfOk c.counted-in-IPFilter.result (λ exits. exit_forms exits.items ≡ forms))
    (filter_exits c.args.chain.now c.args.at c.args.kind.now c.in-IPFilter.field-0 (symbol_form c.args.symbol.now) c.outputs.result c.in-IPFilter.is count) c.counted-in-IPFilter.ensures
