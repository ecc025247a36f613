use Rattle.std.proofs.Common.{◌++◌, List, sym, ap, ◌∙◌}
use Rattle.std.proofs.lemmas.List.{append-nil}
use Rattle.mt_syntax.specs.declared.replacing.Binding.{Binding}
use Rattle.mt_click.proofs.UseWalk.{bound_none}
use Rattle.mt_click.proofs.walk.bindings_of.Goals as goal

pub returns : goal.returns
returns c =
    sym (append-nil c.loop-rest.bindings.items) ∙ ap (λ (x : List Binding). c.loop-rest.bindings.items ++ x) (sym (bound_none c.args.text.now c.loop-rest.actions.now c.loop-rest.rest.now c.in_default.len_below)) ∙ c.loop-rest.invariant
