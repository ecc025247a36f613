use Rattle.std.proofs.Common.{rules, ◌≡◌, ◌++◌, ◌∷◌, [], ◌∙◌, sym}
use Rattle.mt_synth.specs.Symbols.{symbol_form}
use Rattle.mt_synth.specs.declared.exits.Exit.{Exit}
use Rattle.mt_synth.proofs.Outputs.{counted_more, pushed}
use Rattle.mt_synth.proofs.exits.counted.Goals as goal

pub loop-out-preserved : goal.loop-out-preserved
loop-out-preserved c =
    let exit : Exit = record { out = c.loop-out.out; symbol = c.in_ok-copy.field-0 } in
    let added : c.push.new.self.items ≡ c.loop-out.exits.items ++ exit ∷ [] = search rules in
    let same : symbol_form c.in_ok-copy.field-0 ≡ symbol_form c.args.symbol.now = search rules in
    pushed c.loop-out.exits.items c.push.new.self.items exit (symbol_form c.args.symbol.now) _ c.loop-out.invariant added same
    ∙ sym (counted_more c.loop-out.out (symbol_form c.args.symbol.now))
