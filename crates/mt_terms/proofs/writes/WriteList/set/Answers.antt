-- A write replaces that of its field, or goes between those of earlier and later fields.
use Rattle.std.proofs.Common.{◌∙◌, List, sym, ap, length, arith}
use Rattle.mt_terms.specs.declared.writes.FieldWrite.{FieldWrite}
use Rattle.mt_terms.specs.Writes.{write_forms, with_write, WriteForm}
use Rattle.mt_terms.specs.Terms.{term_form}
use Rattle.mt_terms.proofs.Placed.{stands_within, place_within, set_replaces, set_inserts}
use Rattle.mt_terms.proofs.writes.WriteList.set.Goals as goal

pub put-requires : goal.put-requires
put-requires c =
    let within = stands_within c.args.field c.as_slice-writes.result.now (sym c.stands_at.ensures ∙ c.if-stands_at.true) in
    omega (arith, within, c.place_of-place.ensures, ap length c.as_slice-writes.ensures)

pub invariant_of-self : goal.invariant_of-self
invariant_of-self c =
    (set_replaces c.args.field c.args.term c.as_slice-writes.result.now c.self.inside.writes.items c.put.new.writes.items c.place_of-place.result c.as_slice-writes.ensures c.place_of-place.ensures c.self.invariant
    (sym c.stands_at.ensures ∙ c.if-stands_at.true) c.put.ensures).ascend

pub returns-then-stands_at-clause-ok : goal.returns-then-stands_at-clause-ok
returns-then-stands_at-clause-ok c =
    let write : WriteForm = record { field = c.args.field; term = term_form c.args.term } in
    (set_replaces c.args.field c.args.term c.as_slice-writes.result.now c.self.inside.writes.items c.put.new.writes.items c.place_of-place.result c.as_slice-writes.ensures c.place_of-place.ensures c.self.invariant
    (sym c.stands_at.ensures ∙ c.if-stands_at.true) c.put.ensures).forms_are
    ∙ ap (λ (ws : List FieldWrite). with_write write (write_forms ws)) c.self.view_is

pub insert-requires : goal.insert-requires
insert-requires c =
    let within = place_within c.args.field c.as_slice-writes.result.now in
    (omega arith, omega (arith, within, c.place_of-place.ensures, ap length c.as_slice-writes.ensures))

pub invariant_of-self-2 : goal.invariant_of-self-2
invariant_of-self-2 c =
    (set_inserts c.args.field c.args.term c.as_slice-writes.result.now c.self.inside.writes.items c.insert.new.self.items c.place_of-place.result c.as_slice-writes.ensures c.place_of-place.ensures c.self.invariant
    (sym c.stands_at.ensures ∙ c.if-stands_at.false) c.in_ok-insert.ensures.ok).ascend

pub returns-clause-ok : goal.returns-clause-ok
returns-clause-ok c =
    let write : WriteForm = record { field = c.args.field; term = term_form c.args.term } in
    (set_inserts c.args.field c.args.term c.as_slice-writes.result.now c.self.inside.writes.items c.insert.new.self.items c.place_of-place.result c.as_slice-writes.ensures c.place_of-place.ensures c.self.invariant
    (sym c.stands_at.ensures ∙ c.if-stands_at.false) c.in_ok-insert.ensures.ok).forms_are
    ∙ ap (λ (ws : List FieldWrite). with_write write (write_forms ws)) c.self.view_is
