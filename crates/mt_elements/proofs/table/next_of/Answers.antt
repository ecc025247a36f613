use Rattle.std.proofs.Common.{◌∙◌, sym, Some}
use Rattle.mt_elements.proofs.Looked.{got}
use Rattle.mt_elements.proofs.NextFound.{next_at, next_none}
use Rattle.mt_elements.proofs.table.next_of.Goals as goal

pub returns-in_ok-wire-in-Some : goal.returns-in_ok-wire-in-Some
returns-in_ok-wire-in-Some c =
    next_at c.args.layout.now c.args.output.element c.args.output.out c.in-Some.place (Some c.in_ok-wire-in-Some.wire.now) (sym c.place_of.ensures ∙ c.in-Some.is)
    (got c.args.layout.now.wires c.wires.result.now c.in-Some.place c.wires.ensures c.in_ok-wire-in-Some.wire.now c.in_ok-wire-in-Some.ensures.lookup.0 c.in_ok-wire-in-Some.ensures.lookup.1)

pub returns-in-None : goal.returns-in-None
returns-in-None c = next_none c.args.layout.now c.args.output.element c.args.output.out (sym c.place_of.ensures ∙ c.in-None.is)
