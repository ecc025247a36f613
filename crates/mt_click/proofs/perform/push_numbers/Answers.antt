use Rattle.std.proofs.Common.{◌++◌, ◌∷◌, [], ◌-◌, List, ℕ, length, take, drop, ap, sym, ◌∙◌, append_assoc}
use Rattle.std.specs.Fmt.{decimal}
use Rattle.mt_click.specs.Elements.{scope_text}
use Rattle.mt_click.specs.Stacks.{numbers}
use Rattle.mt_click.proofs.UseWalk.{numbers_step}
use Rattle.mt_click.proofs.perform.push_numbers.Goals as goal

pub loop-rest-preserved : goal.loop-rest-preserved
loop-rest-preserved c =
    let fs = c.loop-rest.rest.now in
    let f = c.activation-item.result in
    let old = c.loop-rest.name.items in
    let new = decimal f.number ++ 47 ∷ [] in
    let rest = scope_text (numbers (take (length fs - 1) (drop 1 fs))) in
    let x = c.in_ok-extend_from_slice.ensures.items ∙ ap (λ (y : List ℕ). old ++ y) (c.as_bytes.ensures.value ∙ c.in_ok-text.ensures.ok) in
    rw x (append_assoc old new rest ∙ ap (λ (y : List ℕ). old ++ y) (sym (numbers_step fs f c.in-len1-up.len_at_least c.activation-item.is)) ∙ c.loop-rest.invariant)
