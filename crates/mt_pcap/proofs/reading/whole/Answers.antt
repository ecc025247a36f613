use Rattle.std.proofs.Common.{arith}
use Rattle.std.proofs.lemmas.Result.{IfOk-weaker}
use Rattle.mt_pcap.proofs.Facts.{seconds_fit, lengths, few, named}
use Rattle.mt_pcap.proofs.reading.whole.Goals as goal

pub returns-clause-seconds_fit : goal.returns-clause-seconds_fit
returns-clause-seconds_fit c = IfOk-weaker c.read.result _ _ (λ w is. seconds_fit c.args.bytes.now w.records.items (λ i. omega (arith, c.type_inv.bytes i)) is) c.read.ensures.records

pub returns-clause-lengths : goal.returns-clause-lengths
returns-clause-lengths c = IfOk-weaker c.read.result _ _ (λ w is. lengths c.args.bytes.now w.records.items (λ i. omega (arith, c.type_inv.bytes i)) is) c.read.ensures.records

pub returns-clause-few : goal.returns-clause-few
returns-clause-few c = IfOk-weaker c.read.result _ _ (λ w is. few c.args.bytes.now w.records.items (λ i. omega (arith, c.type_inv.bytes i)) is) c.read.ensures.records

pub returns-clause-named : goal.returns-clause-named
returns-clause-named c = IfOk-weaker c.read.result _ _ (λ w is. named c.args.bytes.now w.end (λ i. omega (arith, c.type_inv.bytes i)) is) c.read.ensures.end
