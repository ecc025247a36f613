use Rattle.std.proofs.Common.{subst, inr}
use Rattle.mt_syntax.specs.declared.fault.ReadError.{ReadError}
use Rattle.mt_syntax.specs.Reading.{Fails, phrases_in}
use Rattle.mt_syntax.proofs.FaultStops.{text_stops}
use Rattle.mt_syntax.proofs.ReadDerives.{read_is_derived, derived_phrases, none_derived}
use Rattle.mt_syntax.proofs.syntax.statements.Goals as goal

pub returns-in-Ok-clause-read : goal.returns-in-Ok-clause-read
returns-in-Ok-clause-read c = read_is_derived c.args.text.now c.in-Ok.phrases.items c.in-Ok.ensures

pub returns-in-Err-Fault-clause-stops : goal.returns-in-Err-Fault-clause-stops
returns-in-Err-Fault-clause-stops c =
    let f = c.in-Err-Fault.fault in
    let text = c.args.text.now in
    let read = subst (λ (e : ReadError). Fails e (phrases_in text)) c.in-Err-Fault.field-0-is c.in-Err-Fault.ensures in
    inr (f, text_stops text f read, c.fault_in.ensures)

pub returns-in-Ok-clause-derived : goal.returns-in-Ok-clause-derived
returns-in-Ok-clause-derived c = derived_phrases c.args.text.now c.in-Ok.phrases.items c.in-Ok.ensures

pub returns-in-Err-Fault-clause-derived : goal.returns-in-Err-Fault-clause-derived
returns-in-Err-Fault-clause-derived c = λ tree d. absurd (none_derived c.args.text.now c.in-Err-Fault.fault (rw c.in-Err-Fault.field-0-is at c.in-Err-Fault.ensures) tree d)

pub returns-in-Err-Fault-clause-none : goal.returns-in-Err-Fault-clause-none
returns-in-Err-Fault-clause-none c = inr (λ tree d. none_derived c.args.text.now c.in-Err-Fault.fault (rw c.in-Err-Fault.field-0-is at c.in-Err-Fault.ensures) tree d)
