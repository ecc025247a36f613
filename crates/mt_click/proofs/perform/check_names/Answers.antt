use Rattle.std.proofs.Common.{length, sym, ap, ◌∙◌}
use Rattle.std.proofs.lemmas.Bool.{eqb-true}
use Rattle.mt_click.proofs.NoUnknownName.{none_unknown}
use Rattle.mt_click.proofs.perform.check_names.Goals as goal

pub returns-then-is_empty : goal.returns-then-is_empty
returns-then-is_empty c =
    none_unknown c.args.text.now c.args.bindings.now c.args.used (ap length (sym c.inner_bytes-body.ensures.bytes) ∙ eqb-true (length c.inner_bytes-body.result.now) 0 (sym c.is_empty.ensures ∙ c.if-is_empty.true))
