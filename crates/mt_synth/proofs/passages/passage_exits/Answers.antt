use Rattle.std.proofs.Common.{rules, ◌≡◌, ◌∙◌, Some, slice_get, ap, refl}
use Rattle.mt_elements.proofs.Looked.{got}
use Rattle.mt_elements.specs.ChainState.{mappers_of}
use Rattle.mt_kinds.specs.Ports.{rewriter_outs}
use Rattle.mt_kinds.specs.declared.kind.Kind.TheVariants.{IPRewriter}
use Rattle.mt_rewriter.specs.Passages.{unported}
use Rattle.mt_trees.specs.Passages.{keeps_part, behind}
use Rattle.mt_synth.specs.Exits.{exit_forms, passed_exits}
use Rattle.mt_synth.specs.Symbols.{symbol_form}
use Rattle.mt_synth.proofs.RewriterExits.{both_ways}
use Rattle.mt_synth.proofs.passages.passage_exits.Goals as goal

pub returns : goal.returns
returns c =
    let here : slice_get c.args.specs.now c.args.at.1 ≡ Some c.in-Some.spec.now = got c.args.specs.now c.args.specs.now c.args.at.1 refl c.in-Some.spec.now c.in-Some.ensures.lookup.0 c.in-Some.ensures.lookup.1 in
    let first : exit_forms c.in_ok-exits.exits.items ≡ passed_exits (unported c.in-Some.spec.now) (symbol_form c.args.symbol.now) = search rules in
    let outs : c.outputs.result ≡ rewriter_outs (mappers_of c.args.chain.now.kinds) c.args.specs.now = c.outputs.ensures (IPRewriter c.args.specs.now) c.requires.there in
    let after = c.in_ok-after.ensures ∙ ap (λ mappers. behind (keeps_part mappers c.args.specs.now c.in-Some.spec.now) (symbol_form c.args.symbol.now)) c.templates.ensures in
    both_ways c.args.chain.now c.args.at c.args.specs.now c.in-Some.spec.now (symbol_form c.args.symbol.now) _ _ _ _ c.requires.there here first outs after c.in_ok-push_taken.ensures
