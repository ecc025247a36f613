use Rattle.std.proofs.Common.{rules, ◌≡◌, ◌++◌, ◌∷◌, [], true, false, ◌∙◌, sym, ap, append_assoc}
use Rattle.mt_elements.specs.Accepted.{behavior_of}
use Rattle.mt_synth.specs.Exits.{by_outputs, exit_forms}
use Rattle.mt_synth.specs.Symbols.{symbol_form}
use Rattle.mt_synth.specs.declared.exits.Exit.{Exit}
use Rattle.mt_synth.proofs.Outputs.{taken_more, passed_over, pushed}
use Rattle.mt_synth.proofs.passages.push_taken.Goals as goal
use Rattle.mt_synth.proofs.passages.push_taken.Goals.{then-leads+in_ok-copy+in_ok-push, else-leads}

pub loop-out-preserved : goal.loop-out-preserved
loop-out-preserved c =
    let leads = (behavior_of c.args.chain.now.kinds).leads c.args.at.0 c.args.at.1 in
    let form = symbol_form c.args.after.now in
    let old = exit_forms c.args.exits.now.items in
    elim c.if-leads.branch [
      | then-leads+in_ok-copy+in_ok-push w ↦ (
          let exit : Exit = record { out = c.loop-out.out; symbol = w.in_ok-copy.field-0 } in
          let added : c.if-leads.exits.items ≡ c.loop-out.exits.items ++ exit ∷ [] = search rules in
          let same : symbol_form w.in_ok-copy.field-0 ≡ symbol_form c.args.after.now = search rules in
          let holds : (behavior_of c.args.chain.now.kinds).leads c.args.at.0 c.args.at.1 c.loop-out.out ≡ true = sym c.leads.ensures ∙ w.if-leads.true in
          pushed c.loop-out.exits.items c.if-leads.exits.items exit form _ c.loop-out.invariant added same
          ∙ (append_assoc old (by_outputs leads c.loop-out.out form) ((c.loop-out.out, form) ∷ [])
          ∙ ap (λ rest. old ++ rest) (sym (taken_more leads c.loop-out.out form holds))))
      | else-leads w ↦ (
          let same : exit_forms c.if-leads.exits.items ≡ exit_forms c.loop-out.exits.items = search rules in
          let fails : (behavior_of c.args.chain.now.kinds).leads c.args.at.0 c.args.at.1 c.loop-out.out ≡ false = sym c.leads.ensures ∙ w.if-leads.false in
          same ∙ (c.loop-out.invariant ∙ ap (λ rest. old ++ rest) (sym (passed_over leads c.loop-out.out form fails))))
    ]
