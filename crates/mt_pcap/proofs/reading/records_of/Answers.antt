use Rattle.std.proofs.Common.{sym}
use Rattle.std.proofs.lemmas.Bool.{eqb-true}
use Rattle.std.proofs.lemmas.List.{take_rest}
use Rattle.mt_pcap.proofs.Loop.{starts, not_empty, goes_on, stops, is_done}
use Rattle.mt_pcap.proofs.reading.records_of.Goals as goal

pub loop-rest-init : goal.loop-rest-init
loop-rest-init c =
    let s = starts c.args.form c.args.bytes.now c.requires in
    rw (c.new-records.ensures.items, take_rest c.args.bytes.now 24) (record { within = s.0; all = s.1 })

pub returns-in-Err-clause-records : goal.returns-in-Err-clause-records
returns-in-Err-clause-records c =
    let some = not_empty c.loop-rest.rest.now c.loop-rest-test.ensures in
    (stops c.args.form c.loop-rest.records.items _ c.loop-rest.rest.now c.in-Err.fault _ some c.in-Err.ensures c.loop-rest.invariant.all).0

pub returns-in-Err-clause-end : goal.returns-in-Err-clause-end
returns-in-Err-clause-end c =
    let some = not_empty c.loop-rest.rest.now c.loop-rest-test.ensures in
    (stops c.args.form c.loop-rest.records.items _ c.loop-rest.rest.now c.in-Err.fault _ some c.in-Err.ensures c.loop-rest.invariant.all).1

pub loop-rest-smaller : goal.loop-rest-smaller
loop-rest-smaller c =
    (goes_on c.args.form c.loop-rest.records.items _ c.loop-rest.rest.now c.in-Ok.stamp c.in-Ok.data.now c.in-Ok.after.now _ c.loop-rest.invariant.within c.in-Ok.ensures c.loop-rest.invariant.all).1

pub loop-rest-preserved : goal.loop-rest-preserved
loop-rest-preserved c =
    let next = goes_on c.args.form c.loop-rest.records.items _ c.loop-rest.rest.now c.in-Ok.stamp c.in-Ok.data.now c.in-Ok.after.now _ c.loop-rest.invariant.within c.in-Ok.ensures c.loop-rest.invariant.all in
    rw (c.in_ok-push-in-Ok.ensures.items, c.new.ensures, c.in_ok-from_slice-in-Ok.ensures.items) (record { within = next.0; all = next.2 })

pub returns-clause-records : goal.returns-clause-records
returns-clause-records c = (is_done c.args.form c.loop-rest.records.items _ c.loop-rest.rest.now _ (eqb-true _ _ (sym c.loop-rest-test.ensures)) c.loop-rest.invariant.all).0

pub returns-clause-end : goal.returns-clause-end
returns-clause-end c = (is_done c.args.form c.loop-rest.records.items _ c.loop-rest.rest.now _ (eqb-true _ _ (sym c.loop-rest-test.ensures)) c.loop-rest.invariant.all).1
